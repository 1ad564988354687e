use Rattle.std.proofs.Common.{◌≡◌, ◌<◌, ℕ, List, length, sym, ap, subst, ◌∙◌}
use Rattle.std.specs.Prelude.{Bool, All}
use Rattle.std.proofs.lemmas.List.Sorted.{All-permutation}
use Rattle.std.proofs.lemmas.Result.{IfOk-weaker, on_ok_weaker}
use Rattle.fcg_edges.specs.Rows.{any_has}
use Rattle.fcg_edges.specs.Internal.Making.{AreKept, AreUses}
use Rattle.fcg_edges.proofs.MarkLaws.{marks_alike}
use Rattle.fcg_edges.proofs.KeptLaws.{kept_uses, other_uses, uses_moved}
use Rattle.fcg_edges.proofs.kept_lists.find_uses.Goals as goal

pub keep_lists-requires-clause-uses : goal.keep_lists-requires-clause-uses
keep_lists-requires-clause-uses c =
    let there : ℕ → Type 0 = λ l. l < length c.args.rows.now.lists in
    subst (λ (us : List ℕ). All there us) (sym c.deref.ensures.value)
    (All-permutation there c.args.uses.now.items c.sort_by_length.new.uses.items c.sort_by_length.ensures c.requires.uses)

pub returns-then-kept-clause-marked : goal.returns-then-kept-clause-marked
returns-then-kept-clause-marked c =
    let lists = c.args.rows.now.lists in
    let uses = c.args.uses.now.items in
    let moved = uses_moved lists uses c.sort_by_length.new.uses.items c.deref.result.now c.sort_by_length.ensures c.deref.ensures.value in
    let marked = marks_alike c.args.turn (any_has lists c.deref.result.now) (any_has lists uses) c.args.marks.now c.keep_lists.new.marks (λ b. sym (moved b)) c.in_ok-kept.ensures.marked in
    on_ok_weaker c.join_lists.result (λ _. marked) c.join_lists.ensures.rows

pub returns-then-kept-clause-uses : goal.returns-then-kept-clause-uses
returns-then-kept-clause-uses c =
    let old = c.args.rows.now.lists in
    let new = c.join_lists.new.rows.lists in
    let kept = c.in_ok-kept.kept.lists.items in
    let same : (b : ℕ) → any_has old c.deref-then-kept.result.now b ≡ any_has old c.args.uses.now.items b =
    λ b. ap (λ (us : List ℕ). any_has old us b) c.deref-then-kept.ensures.value ∙ c.in_ok-kept.ensures.kept.same b ∙ uses_moved old c.args.uses.now.items c.sort_by_length.new.uses.items c.deref.result.now c.sort_by_length.ensures c.deref.ensures.value b in
    IfOk-weaker c.join_lists.result (λ ks. AreUses old new c.deref-then-kept.result.now ks.items) (λ ks. AreUses old new c.args.uses.now.items ks.items)
    (λ ks u. other_uses old new c.args.uses.now.items c.deref-then-kept.result.now ks.items same u) c.join_lists.ensures.uses

pub returns-clause-marked : goal.returns-clause-marked
returns-clause-marked c =
    let lists = c.args.rows.now.lists in
    let uses = c.args.uses.now.items in
    let moved = uses_moved lists uses c.sort_by_length.new.uses.items c.deref.result.now c.sort_by_length.ensures c.deref.ensures.value in
    marks_alike c.args.turn (any_has lists c.deref.result.now) (any_has lists uses) c.args.marks.now c.keep_lists.new.marks (λ b. sym (moved b)) c.in_ok-kept.ensures.marked

pub returns-clause-uses : goal.returns-clause-uses
returns-clause-uses c =
    let lists = c.args.rows.now.lists in
    let kept = c.in_ok-kept.kept.lists.items in
    let k : AreKept lists c.deref.result.now kept c.in_ok-kept.kept.overlap = c.in_ok-kept.ensures.kept in
    other_uses lists lists c.args.uses.now.items c.deref.result.now kept (uses_moved lists c.args.uses.now.items c.sort_by_length.new.uses.items c.deref.result.now c.sort_by_length.ensures c.deref.ensures.value)
    (kept_uses lists c.deref.result.now kept (subst (λ (o : Bool). AreKept lists c.deref.result.now kept o) c.if-kept.false k))
