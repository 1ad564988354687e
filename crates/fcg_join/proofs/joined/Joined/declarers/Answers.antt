use Rattle.std.proofs.Common.{List, subst, ◌∙◌, arith}
use Rattle.fcg_partial.specs.Parts.{PartShown}
use Rattle.fcg_join.specs.Internal.Tables.{IsJoined}
use Rattle.fcg_join.proofs.SignatureAnswers.{rows_many, declarers_there}
use Rattle.fcg_join.proofs.joined.Joined.declarers.Goals as goal

pub row-requires : goal.row-requires
row-requires c =
    let j = subst (λ (ps : List PartShown). IsJoined ps c.self.inside.tables) c.self.view_is c.self.invariant in
    let m = rows_many c.args.self.now c.self.inside.tables.signatures j.signatures' in
    omega (arith, c.requires)

pub returns : goal.returns
returns c = λ sig h. (
    let j = subst (λ (ps : List PartShown). IsJoined ps c.self.inside.tables) c.self.view_is c.self.invariant in
    c.row.ensures ∙ declarers_there c.args.self.now c.self.inside.tables.signatures j.signatures' c.args.s.0 sig h)
