use Rattle.std.proofs.Common.{◌≡◌, ℕ, ◌++◌, List, length, take, drop, sym, ap, subst, ◌∙◌, arith}
use Rattle.std.specs.Prelude.{Bool, Option, map}
use Rattle.std.proofs.lemmas.List.{length-map, take-append-le, take_all}
use Rattle.fcg_analysis.specs.Types.{uses_unlinked_name}
use Rattle.fcg_join.specs.Internal.TypeNumbers.{FindsHeads}
use Rattle.fcg_join.specs.SetNames.{set_names}
use Rattle.fcg_order.specs.Fill.{IsFilled}
use Rattle.fcg_join.specs.Internal.Gaps.{AreGaps}
use Rattle.fcg_join.proofs.GapLaws.{marks_at}
use Rattle.fcg_join.proofs.MarkLaws.{filled_above}
use Rattle.fcg_join.proofs.gaps.find_gaps.Goals as goal

pub mark_unlinked-requires-clause-found : goal.mark_unlinked-requires-clause-found
mark_unlinked-requires-clause-found c =
    subst (λ (bs : List (Option ℕ)). FindsHeads c.args.heads.now bs (length (set_names c.args.parts.now))) (sym c.as_slice-by_name.ensures.value) c.requires.found

pub returns : goal.returns
returns c = λ types are d acyclic h. (
    let old = c.in_ok-gaps.gaps.items in
    let new = c.fill_upward.new.marks in
    let marks : old ≡ map (uses_unlinked_name types) types = c.in_ok-gaps.ensures types are d in
    let many : length old ≡ length types = ap (λ ms. length ms) marks ∙ length-map types (uses_unlinked_name types) in
    let long : length new ≡ length types = c.fill_upward.ensures.long ∙ h.long in
    let value = ap (λ ms. length ms) c.deref_mut.ensures.value in
    let count = c.deref_mut.ensures.len in
    let whole : take c.in_ok-gaps.gaps.len (new ++ drop (length new) old) ≡ new =
    take-append-le c.in_ok-gaps.gaps.len new (drop (length new) old) (omega arith) ∙ take_all c.in_ok-gaps.gaps.len new (omega arith) in
    let filled : IsFilled c.args.linked.now.links old new = subst (λ (ms : List Bool). IsFilled c.args.linked.now.links ms new) c.deref_mut.ensures.value c.fill_upward.ensures in
    subst (AreGaps types) (sym whole) (record {
      long = long;
      each = filled_above types c.args.linked.now.links h d (uses_unlinked_name types) old new acyclic (λ x t a. marks_at types x t old marks a) filled;
    }))
