-- A number in a sorted row.
use Rattle.std.proofs.Common.{◌≡◌, ℕ, zero, suc, ◌+◌, ◌-◌, ◌<◌, ◌≤◌, List, [], ◌∷◌, length, eqb, get_or, refl, sym, ap, ◌∙◌, inl, inr, cond, arith}
use Rattle.std.specs.Prelude.{Bool, true, false, not, ◌&&◌, ◌||◌, Option, Some, None, filter, option_to_list, MatchResult, Result, Ok, Err, is_ok}
use Rattle.std.specs.List.{IsDistinct, list_any}
use Rattle.std.specs.List.Sorted.{IsStrictlyIncreasing, IsBinarySearchResult}
use Rattle.std.specs.Ordering.{nat_cmp}
use Rattle.std.specs.Cmp.Lexicographic.{bytes_decides}
use Rattle.std.proofs.Math.Bool.{or-false}
use Rattle.std.proofs.lemmas.Bool.{false_from_ne_true, cases_eq, cases_lt}
use Rattle.std.proofs.lemmas.List.{get_or_default}
use Rattle.std.proofs.lemmas.List.Kept.{AllPairs-from_increasing}
use Rattle.std.proofs.lemmas.List.Sorted.{searched}
use Rattle.fcg_analysis.specs.NamesAndFlags.{same}
use Rattle.fcg_analysis.specs.Declarations.{Placed, object_name, is_type, is_class, is_object}
use Rattle.fcg_analysis.specs.Types.{superclass, superclass_line, line, chain, object, is_below}
use Rattle.fcg_analysis.specs.Laws.Statements.{IsAcyclic}
use Rattle.fcg_analysis.proofs.General.Members.{find_in, and_first}
use Rattle.fcg_analysis.proofs.BelowChains.{below_class}
use Rattle.fcg_join.specs.TypeLinks.{HasTypeAt}
use Rattle.fcg_join.specs.Joined.{IsTypeNumber}
use Rattle.fcg_join.proofs.Places.{has_in}
use Rattle.fcg_join.proofs.GapLaws.{any_append}
use Rattle.fcg_join.proofs.MentionRows.{same_number, any_number}

-- ---- a search in a sorted row

pub found_in_row : (numbers : List ℕ) (n : ℕ) (r : Result ℕ ℕ) → IsStrictlyIncreasing numbers → IsBinarySearchResult (λ y. nat_cmp y n) numbers r → is_ok r ≡ list_any (λ k. eqb k n) numbers
found_in_row numbers n r up h = at r (searched numbers n r h rising)
  where
    rising : (i j : ℕ) → i ≤ j → j < length numbers → get_or numbers i 0 ≤ get_or numbers j 0
    rising i j a b = elim (cases_eq i j) [
      | inl e ↦ (let q = ap (λ k. get_or numbers k 0) e in omega arith)
      | inr ne ↦ (let q = AllPairs-from_increasing numbers up i j 0 (omega arith) b in omega arith)
    ]

    at : (r : Result ℕ ℕ) → MatchResult r (λ i. (i < length numbers) × (get_or numbers i 0 ≡ n)) (λ i. (i ≤ length numbers) × ((k : ℕ) → k < i → get_or numbers k 0 < n) × ((k : ℕ) → i ≤ k → k < length numbers → n < get_or numbers k 0))
        → is_ok r ≡ list_any (λ k. eqb k n) numbers
    at (Ok i) m = sym ((any_number n numbers).1 (i, m.0, get_or_default numbers i n 0 m.0 ∙ m.1))
    at (Err i) m = sym (false_from_ne_true (list_any (λ k. eqb k n) numbers) (λ e. (
        let c = (any_number n numbers).0 e in
        let q : get_or numbers c.0 0 ≡ n = get_or_default numbers c.0 0 n c.1 ∙ c.2 in
        elim (cases_lt c.0 i) [
          | inl l ↦ (let a = m.1 c.0 l in absurd (omega arith))
          | inr g ↦ (let a = m.2 c.0 g c.1 in absurd (omega arith))
        ])))
