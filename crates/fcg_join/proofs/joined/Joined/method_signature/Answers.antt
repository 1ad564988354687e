use Rattle.std.proofs.Common.{List, subst, ◌∙◌, arith}
use Rattle.std.proofs.lemmas.List.{get_or_default}
use Rattle.std.proofs.lemmas.Option.{slice_get_within}
use Rattle.fcg_partial.specs.Parts.{PartShown}
use Rattle.fcg_analysis.specs.Declarations.{signature_of}
use Rattle.fcg_join.specs.Numbers.{set_signatures}
use Rattle.fcg_join.specs.Parts.{nodes_of}
use Rattle.fcg_join.specs.Internal.Tables.{IsJoined}
use Rattle.fcg_join.proofs.GraphRows.{item}
use Rattle.fcg_join.proofs.SignatureAnswers.{nodes_many, node_there}
use Rattle.fcg_join.proofs.joined.Joined.method_signature.Goals as goal

pub returns-clause-value : goal.returns-clause-value
returns-clause-value c = λ n h. (
    let j = subst (λ (ps : List PartShown). IsJoined ps c.self.inside.tables) c.self.view_is c.self.invariant in
    let m = nodes_many c.args.self.now c.self.inside.tables.signatures j.signatures' in
    node_there c.args.self.now c.self.inside.tables.signatures j.signatures' c.args.m.0 n h c.index.result.now
    (c.index.ensures ∙ get_or_default c.self.inside.tables.signatures.of_nodes.items c.args.m.0 c.index.result.now 0 (omega (arith, c.requires))))

pub returns-clause-range : goal.returns-clause-range
returns-clause-range c =
    let j = subst (λ (ps : List PartShown). IsJoined ps c.self.inside.tables) c.self.view_is c.self.invariant in
    let m = nodes_many c.args.self.now c.self.inside.tables.signatures j.signatures' in
    let n = item (nodes_of c.args.self.now) c.args.m.0 c.requires in
    slice_get_within (set_signatures c.args.self.now) c.index.result.now (signature_of n.0.method)
    (node_there c.args.self.now c.self.inside.tables.signatures j.signatures' c.args.m.0 n.0 n.1 c.index.result.now
    (c.index.ensures ∙ get_or_default c.self.inside.tables.signatures.of_nodes.items c.args.m.0 c.index.result.now 0 (omega (arith, c.requires))))
