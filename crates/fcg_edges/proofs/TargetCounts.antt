-- How many targets of a caller are below a number.
use Rattle.std.proofs.Common.{◌≡◌, ℕ, suc, ◌+◌, ◌<◌, List, [], ◌∷◌, length, get_or, ltb, refl, sym, ap, subst, ◌∙◌, arith, inl, inr}
use Rattle.std.specs.Prelude.{true, false, ◌||◌, All, Contains, filter, sum_by}
use Rattle.std.specs.List.{AllPairs, range_with_len}
use Rattle.std.specs.List.Sorted.{IsStrictlyIncreasing}
use Rattle.std.proofs.lemmas.Bool.{ltb-true, lt-ltb, or_cases}
use Rattle.std.proofs.lemmas.List.Elements.{All-get_or, All-contains}
use Rattle.std.proofs.lemmas.List.Kept.{IsStrictlyIncreasing-filter}
use Rattle.std.proofs.lemmas.List.Sums.{sum_by-cons}
use Rattle.fcg_order.specs.Links.{row}
use Rattle.fcg_analysis.proofs.General.Members.{IsIn-from_Contains, Contains-from_IsIn, filter_in, in_filter, in_any}
use Rattle.fcg_analysis.proofs.General.Numbered.{rising_is_filter}
use Rattle.fcg_edges.specs.Rows.{Rows, IsList, has, any_has, leads}
use Rattle.fcg_edges.specs.Internal.Tables.{AreApart, IsRow, size_of}
use Rattle.fcg_edges.specs.Internal.Counts.{count_to}
use Rattle.fcg_edges.proofs.RowCounts.{counts_add}
use Rattle.fcg_edges.proofs.RowSizes.{contains-from_has, has-from_contains, row_counted}

-- ---- a row that rises

-- it has as many numbers below b as numbers below b are in it
pub count_of_rising : (ks : List ℕ) (b : ℕ) → IsStrictlyIncreasing ks → length (filter (λ k. ltb k b) ks) ≡ count_to (has ks) b
count_of_rising ks b s =
    ap (λ (xs : List ℕ). length xs) (rising_is_filter b (has ks) (filter (λ k. ltb k b) ks) (IsStrictlyIncreasing-filter (λ k. ltb k b) ks s)
    (λ k c. (let r = in_filter (λ k. ltb k b) ks k (IsIn-from_Contains _ k c) in (ltb-true k b r.1, has-from_contains ks k (Contains-from_IsIn ks k r.0))))
    (λ k l t. Contains-from_IsIn _ k (filter_in (λ k. ltb k b) ks k (IsIn-from_Contains ks k (contains-from_has ks k t)) (lt-ltb k b l))))

-- ---- lists that have no number in common

none_pass : (ks : List ℕ) → length (filter (λ b. false) ks) ≡ 0
none_pass [] = refl
none_pass (k ∷ ks) = none_pass ks

apart_head : (lists : List (List ℕ)) (l : ℕ) (us : List ℕ) → AllPairs (λ l m. AreApart (row lists l) (row lists m)) (l ∷ us) → (m : ℕ) → Contains us m → AreApart (row lists l) (row lists m)
apart_head lists l us h m c =
    let a = c.1 in
    let e : get_or us c.0 m ≡ m = c.2 in
    subst (λ k. AreApart (row lists l) (row lists k)) e (h 0 (suc c.0) m (omega arith) (omega arith))

apart_tail : (lists : List (List ℕ)) (l : ℕ) (us : List ℕ) → AllPairs (λ l m. AreApart (row lists l) (row lists m)) (l ∷ us) → AllPairs (λ l m. AreApart (row lists l) (row lists m)) us
apart_tail lists l us h = λ i j d a b. h (suc i) (suc j) d (omega arith) (omega arith)

-- one of the lists has it
list_with : (lists : List (List ℕ)) (us : List ℕ) (b : ℕ) → any_has lists us b ≡ true → (m : ℕ) × Contains us m × Contains (row lists m) b
list_with lists us b h =
    let r = in_any (λ l. has (row lists l) b) us h in
    (r.0, Contains-from_IsIn us r.0 r.1, contains-from_has (row lists r.0) b r.2)

counts_of_lists : (lists : List (List ℕ)) (ks us : List ℕ) → AllPairs (λ l m. AreApart (row lists l) (row lists m)) us
    → length (filter (any_has lists us) ks) ≡ sum_by (λ l. length (filter (has (row lists l)) ks)) us
counts_of_lists lists ks [] h = none_pass ks
counts_of_lists lists ks (l ∷ us) h =
    counts_add (has (row lists l)) (any_has lists us) ks (λ k a b. (let m = list_with lists us k b in apart_head lists l us h m.0 m.1 k (contains-from_has (row lists l) k a) m.2))
    ∙ ap (λ n. length (filter (has (row lists l)) ks) + n) (counts_of_lists lists ks us (apart_tail lists l us h))
    ∙ sym (sum_by-cons (λ l. length (filter (has (row lists l)) ks)) l us)

counts_of_row : (count : ℕ) (lists : List (List ℕ)) (ks targets uses : List ℕ) → IsRow count lists targets uses
    → length (filter (λ b. has targets b || any_has lists uses b) ks) ≡ length (filter (has targets) ks) + sum_by (λ l. length (filter (has (row lists l)) ks)) uses
counts_of_row count lists ks targets uses w =
    counts_add (has targets) (any_has lists uses) ks (λ k a b. (let m = list_with lists uses k b in w.own m.0 m.1 k (contains-from_has targets k a) m.2))
    ∙ ap (λ n. length (filter (has targets) ks) + n) (counts_of_lists lists ks uses w.apart)

-- ---- a caller's row

pub list_there : (count : ℕ) (lists : List (List ℕ)) (l : ℕ) → All (IsList count) lists → l < length lists → IsList count (row lists l)
list_there count lists l h k = All-get_or (IsList count) lists l [] k h

-- how many targets of a caller are below a number
pub count_of_leads : (r : Rows) (a b : ℕ) → IsRow r.count r.lists (row r.targets a) (row r.uses a)
    → count_to (leads r a) b ≡ count_to (has (row r.targets a)) b + sum_by (λ l. count_to (has (row r.lists l)) b) (row r.uses a)
unfolding leads
count_of_leads r a b w = counts_of_row r.count r.lists (range_with_len 0 b) (row r.targets a) (row r.uses a) w

-- and how many it has
pub size_of_leads : (r : Rows) (a : ℕ) → All (IsList r.count) r.lists → IsRow r.count r.lists (row r.targets a) (row r.uses a)
    → count_to (leads r a) r.count ≡ size_of r.lists (row r.targets a) (row r.uses a)
unfolding leads
size_of_leads r a h w = sym (row_counted r.count r.lists (row r.targets a) (row r.uses a) h w)

-- its targets are nodes
pub leads_within : (r : Rows) (a b : ℕ) → All (IsList r.count) r.lists → IsRow r.count r.lists (row r.targets a) (row r.uses a) → leads r a b ≡ true → b < r.count
unfolding leads
leads_within r a b h w e =
    elim (or_cases (has (row r.targets a) b) (any_has r.lists (row r.uses a) b) e) [
      | inl t ↦ All-contains (λ b. b < r.count) (row r.targets a) b w.rise.below (contains-from_has (row r.targets a) b t)
      | inr t ↦ (let m = list_with r.lists (row r.uses a) b t in
          All-contains (λ b. b < r.count) (row r.lists m.0) b (list_there r.count r.lists m.0 h (All-contains (λ l. l < length r.lists) (row r.uses a) m.0 w.there m.1)).below m.2)
    ]
