use Rattle.std.proofs.Common.{List, subst, arith}
use Rattle.fcg_partial.specs.Parts.{PartShown}
use Rattle.fcg_join.specs.Internal.Tables.{IsJoined}
use Rattle.fcg_join.proofs.SignatureAnswers.{keys_many}
use Rattle.fcg_join.proofs.joined.Joined.signature_count.Goals as goal

pub returns : goal.returns
returns c =
    let j = subst (λ (ps : List PartShown). IsJoined ps c.self.inside.tables) c.self.view_is c.self.invariant in
    let m = keys_many c.args.self.now c.self.inside.tables.signatures j.signatures' in
    let k = c.self.inside.tables.signatures.keys.ok in
    omega (arith, c.len.ensures)
