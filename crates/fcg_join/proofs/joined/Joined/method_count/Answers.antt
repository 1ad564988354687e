use Rattle.std.proofs.Common.{List, length, ap, subst, ◌∙◌, arith}
use Rattle.fcg_partial.specs.Parts.{PartShown}
use Rattle.fcg_join.specs.Parts.{types_of}
use Rattle.fcg_join.specs.Internal.Tables.{IsJoined}
use Rattle.fcg_join.proofs.NodeNumbers.{owners_long}
use Rattle.fcg_join.proofs.joined.Joined.method_count.Goals as goal

pub overflow_cast-result : goal.overflow_cast-result
overflow_cast-result c =
    let j = subst (λ (ps : List PartShown). IsJoined ps c.self.inside.tables) c.self.view_is c.self.invariant in
    let m = ap (λ ns. length ns) j.nodes'.owners_are ∙ owners_long (types_of c.args.self.now) in
    let k = c.self.inside.tables.nodes.owners.ok in
    omega (arith, j.few_nodes, c.len.ensures)

pub returns : goal.returns
returns c =
    let j = subst (λ (ps : List PartShown). IsJoined ps c.self.inside.tables) c.self.view_is c.self.invariant in
    let m = ap (λ ns. length ns) j.nodes'.owners_are ∙ owners_long (types_of c.args.self.now) in
    let k = c.self.inside.tables.nodes.owners.ok in
    omega (arith, c.len.ensures)
