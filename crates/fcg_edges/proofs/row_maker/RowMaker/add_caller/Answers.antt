use Rattle.std.proofs.Common.{rules, ◌≡◌, ◌+◌, ◌<◌, ℕ, List, length, sym, ap, subst, ◌∙◌}
use Rattle.std.specs.Prelude.{All, not, ◌&&◌}
use Rattle.std.specs.List.Sorted.{IsStrictlyIncreasing}
use Rattle.fcg_edges.specs.Rows.{Rows, IsWithCaller, has, any_has}
use Rattle.fcg_edges.specs.Internal.Tables.{AreMarks}
use Rattle.fcg_edges.specs.Internal.Making.{AreUses, met}
use Rattle.fcg_edges.proofs.CallerLaws.{caller_row, with_caller, next_marks, unmarked_before, written_back}
use Rattle.fcg_edges.proofs.row_maker.RowMaker.add_caller.Goals as goal

pub row_size-size-requires : goal.row_size-size-requires
row_size-size-requires c =
    let old = c.self.inside.rows in
    let middle = c.find_uses.new.rows in
    let targets = c.args.targets.now.items in
    let uses = c.args.uses.now.items in
    let own = c.deref-2.result.now in
    let kept = c.deref-3.result.now in
    let new = c.find_uses.new.marks in
    let turn = c.caller_count-turn.result + 1 in
    let long : length new ≡ c.self.inside.marks.len = search rules in
    let back = written_back c.self.inside.marks.len new c.self.inside.marks.items long in
    let u : AreUses old.lists middle.lists uses kept = subst (λ (ks : List ℕ). AreUses old.lists middle.lists uses ks) (sym c.deref-3.ensures.value) c.in_ok-kept.ensures.uses in
    let rise : IsStrictlyIncreasing own = subst (λ (ns : List ℕ). IsStrictlyIncreasing ns) (sym c.deref-2.ensures.value) c.keep_unmarked.ensures.rise in
    let same : (b : ℕ) → has own b ≡ (has targets b && not (met new turn b)) = λ b.
    ap (λ (ns : List ℕ). has ns b) c.deref-2.ensures.value ∙ c.keep_unmarked.ensures.same b ∙ ap (λ (ms : List ℕ). has targets b && not (met ms turn b)) (c.deref.ensures.value ∙ back) in
    let below : All (λ b. b < old.count) targets = subst (λ (r : Rows). All (λ b. b < r.count) targets) (sym c.self.view_is) c.requires.targets in
    caller_row old middle targets uses own kept c.deref_mut.result.now new turn c.in_ok-kept.ensures.rows u c.in_ok-kept.ensures.marked same rise below

pub with_row-requires-clause-row : goal.with_row-requires-clause-row
with_row-requires-clause-row c =
    let old = c.self.inside.rows in
    let middle = c.find_uses.new.rows in
    let targets = c.args.targets.now.items in
    let uses = c.args.uses.now.items in
    let own = c.deref-4.result.now in
    let kept = c.deref-5.result.now in
    let new = c.find_uses.new.marks in
    let turn = c.caller_count-turn.result + 1 in
    let long : length new ≡ c.self.inside.marks.len = search rules in
    let back = written_back c.self.inside.marks.len new c.self.inside.marks.items long in
    let u : AreUses old.lists middle.lists uses kept = subst (λ (ks : List ℕ). AreUses old.lists middle.lists uses ks) (sym c.deref-5.ensures.value) c.in_ok-kept.ensures.uses in
    let rise : IsStrictlyIncreasing own = subst (λ (ns : List ℕ). IsStrictlyIncreasing ns) (sym c.deref-4.ensures.value) c.keep_unmarked.ensures.rise in
    let same : (b : ℕ) → has own b ≡ (has targets b && not (met new turn b)) = λ b.
    ap (λ (ns : List ℕ). has ns b) c.deref-4.ensures.value ∙ c.keep_unmarked.ensures.same b ∙ ap (λ (ms : List ℕ). has targets b && not (met ms turn b)) (c.deref.ensures.value ∙ back) in
    let below : All (λ b. b < old.count) targets = subst (λ (r : Rows). All (λ b. b < r.count) targets) (sym c.self.view_is) c.requires.targets in
    caller_row old middle targets uses own kept c.deref_mut.result.now new turn c.in_ok-kept.ensures.rows u c.in_ok-kept.ensures.marked same rise below

pub invariant_of-result : goal.invariant_of-result
invariant_of-result c =
    let old = c.self.inside.rows in
    let middle = c.find_uses.new.rows in
    let targets = c.args.targets.now.items in
    let uses = c.args.uses.now.items in
    let own = c.deref-4.result.now in
    let kept = c.deref-5.result.now in
    let new = c.find_uses.new.marks in
    let turn = c.caller_count-turn.result + 1 in
    let long : length new ≡ c.self.inside.marks.len = search rules in
    let back = written_back c.self.inside.marks.len new c.self.inside.marks.items long in
    let last = c.in_ok-rows.rows in
    let marks : AreMarks old c.deref_mut.result.now = subst (λ (ms : List ℕ). AreMarks old ms) (sym c.deref_mut.ensures.value) c.self.invariant in
    let t : turn ≡ length old.targets + 1 = ap (λ (n : ℕ). n + 1) c.caller_count-turn.ensures in
    subst (λ (ms : List ℕ). AreMarks last ms) (sym back)
    (next_marks turn (any_has old.lists uses) old middle last c.deref_mut.result.now new own kept c.in_ok-kept.ensures.rows c.in_ok-kept.ensures.marked c.in_ok-rows.ensures.caller marks t)

pub returns : goal.returns
returns c =
    let old = c.self.inside.rows in
    let middle = c.find_uses.new.rows in
    let targets = c.args.targets.now.items in
    let uses = c.args.uses.now.items in
    let own = c.deref-4.result.now in
    let kept = c.deref-5.result.now in
    let new = c.find_uses.new.marks in
    let turn = c.caller_count-turn.result + 1 in
    let long : length new ≡ c.self.inside.marks.len = search rules in
    let back = written_back c.self.inside.marks.len new c.self.inside.marks.items long in
    let u : AreUses old.lists middle.lists uses kept = subst (λ (ks : List ℕ). AreUses old.lists middle.lists uses ks) (sym c.deref-5.ensures.value) c.in_ok-kept.ensures.uses in
    let same : (b : ℕ) → has own b ≡ (has targets b && not (met new turn b)) = λ b.
    ap (λ (ns : List ℕ). has ns b) c.deref-4.ensures.value ∙ c.keep_unmarked.ensures.same b ∙ ap (λ (ms : List ℕ). has targets b && not (met ms turn b)) (c.deref.ensures.value ∙ back) in
    let marks : AreMarks old c.deref_mut.result.now = subst (λ (ms : List ℕ). AreMarks old ms) (sym c.deref_mut.ensures.value) c.self.invariant in
    let unmarked : All (λ mark. mark < turn) c.deref_mut.result.now = unmarked_before turn old c.deref_mut.result.now marks (ap (λ (n : ℕ). n + 1) c.caller_count-turn.ensures) in
    subst (λ (r : Rows). IsWithCaller r c.in_ok-rows.rows targets uses) c.self.view_is
    (with_caller old middle targets uses own kept c.deref_mut.result.now new turn c.in_ok-kept.ensures.rows u c.in_ok-kept.ensures.marked same c.in_ok-rows.rows unmarked c.in_ok-rows.ensures.caller)
