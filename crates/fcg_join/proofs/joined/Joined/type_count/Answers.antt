use Rattle.std.proofs.Common.{List, subst, arith}
use Rattle.fcg_partial.specs.Parts.{PartShown}
use Rattle.fcg_join.specs.Internal.Tables.{IsJoined}
use Rattle.fcg_join.proofs.TableAnswers.{heads_many}
use Rattle.fcg_join.proofs.joined.Joined.type_count.Goals as goal

pub overflow_cast-result : goal.overflow_cast-result
overflow_cast-result c =
    let j = subst (λ (ps : List PartShown). IsJoined ps c.self.inside.tables) c.self.view_is c.self.invariant in
    let m = heads_many c.args.self.now c.self.inside.tables j in
    let k = c.self.inside.tables.heads.ok in
    omega (arith, j.few, c.len.ensures)

pub returns : goal.returns
returns c =
    let j = subst (λ (ps : List PartShown). IsJoined ps c.self.inside.tables) c.self.view_is c.self.invariant in
    let m = heads_many c.args.self.now c.self.inside.tables j in
    let k = c.self.inside.tables.heads.ok in
    omega (arith, c.len.ensures)
