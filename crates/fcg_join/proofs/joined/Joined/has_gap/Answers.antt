use Rattle.std.proofs.Common.{List, get_or, sym, ap, subst, ◌∙◌, arith}
use Rattle.std.specs.Prelude.{◌||◌, false}
use Rattle.std.proofs.lemmas.List.{get_or_default}
use Rattle.fcg_partial.specs.Parts.{PartShown}
use Rattle.fcg_join.specs.Internal.Tables.{IsJoined}
use Rattle.fcg_join.proofs.BelowAnswers.{none_is, gap_there}
use Rattle.fcg_join.proofs.joined.Joined.has_gap.Goals as goal

pub returns-then-is_none : goal.returns-then-is_none
returns-then-is_none c = λ x h. (
    let j = subst (λ (ps : List PartShown). IsJoined ps c.self.inside.tables) c.self.view_is c.self.invariant in
    c.if-is_none.true ∙ ap (λ b. b || get_or c.self.inside.tables.inherited.gaps.items c.args.t.0 false) (sym (none_is c.self.inside.tables.object c.is_none.result c.is_none.ensures ∙ c.if-is_none.true))
    ∙ gap_there c.args.self.now c.self.inside.tables j c.args.t.0 x h)

pub returns-else-is_none : goal.returns-else-is_none
returns-else-is_none c = λ x h. (
    let j = subst (λ (ps : List PartShown). IsJoined ps c.self.inside.tables) c.self.view_is c.self.invariant in
    let gaps = c.self.inside.tables.inherited.gaps.items in
    let m = j.inherited'.gaps'.long in
    c.index.ensures ∙ get_or_default gaps c.args.t.0 c.index.result.now false (omega (arith, c.requires))
    ∙ ap (λ b. b || get_or gaps c.args.t.0 false) (sym (none_is c.self.inside.tables.object c.is_none.result c.is_none.ensures ∙ c.if-is_none.false))
    ∙ gap_there c.args.self.now c.self.inside.tables j c.args.t.0 x h)
