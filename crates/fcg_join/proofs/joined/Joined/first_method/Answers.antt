use Rattle.std.proofs.Common.{List, length, get_or, ap, subst, ◌∙◌, arith}
use Rattle.std.proofs.lemmas.List.{get_or_default}
use Rattle.fcg_partial.specs.Parts.{PartShown}
use Rattle.fcg_join.specs.Parts.{types_of}
use Rattle.fcg_join.specs.Internal.Tables.{IsJoined}
use Rattle.fcg_join.proofs.GraphRows.{item}
use Rattle.fcg_join.proofs.NodeNumbers.{first_nodes_long, first_nodes_at}
use Rattle.fcg_join.proofs.joined.Joined.first_method.Goals as goal

pub index-requires : goal.index-requires
index-requires c =
    let j = subst (λ (ps : List PartShown). IsJoined ps c.self.inside.tables) c.self.view_is c.self.invariant in
    let m = ap (λ ns. length ns) j.nodes'.firsts_are ∙ first_nodes_long (types_of c.args.self.now) in
    let k = c.self.inside.tables.nodes.firsts.ok in
    omega (arith, c.requires)

pub returns-clause-value : goal.returns-clause-value
returns-clause-value c =
    let j = subst (λ (ps : List PartShown). IsJoined ps c.self.inside.tables) c.self.view_is c.self.invariant in
    let firsts = c.self.inside.tables.nodes.firsts.items in
    let m = ap (λ ns. length ns) j.nodes'.firsts_are ∙ first_nodes_long (types_of c.args.self.now) in
    let x = item (types_of c.args.self.now) c.args.t.0 c.requires in
    c.index.ensures ∙ get_or_default firsts c.args.t.0 c.index.result.now 0 (omega (arith, c.requires)) ∙ ap (λ ns. get_or ns c.args.t.0 0) j.nodes'.firsts_are
    ∙ first_nodes_at (types_of c.args.self.now) c.args.t.0 x.0 x.1
