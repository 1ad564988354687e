use Rattle.std.proofs.Common.{ap, ◌∙◌}
use Rattle.fcg_order.specs.Links.{row}
use Rattle.fcg_join.proofs.MethodRows.{own_there}
use Rattle.fcg_join.proofs.SignatureNodes.{pair_loaded}
use Rattle.fcg_join.proofs.signatures.load_pair.Goals as goal

pub returns : goal.returns
returns c = λ m a. (
    let load = c.load_method-row.ensures.row m (own_there c.args.parts.now c.args.at m a c.index-parts-at.result c.index-parts-at.is) in
    let r = pair_loaded c.args.parts.now c.args.at m a c.index-parts-at.result c.index-parts-at.is c.load_method-row.result load c.row-own.result.now (c.row-own.ensures ∙ ap (λ rows. row rows c.args.at.part) c.requires.numbers) in
    λ i. (r.0 i, r.1 i))
