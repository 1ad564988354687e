-- How many targets rows have.
use Rattle.std.proofs.Common.{◌≡◌, ℕ, zero, suc, ◌+◌, ◌-◌, ◌*◌, ◌<◌, ◌≤◌, List, [], ◌∷◌, length, get_or, take, refl, sym, ap, subst, ◌∙◌, arith, eq-eqb, mul-le-mul_left}
use Rattle.std.specs.Prelude.{Bool, true, false, ◌||◌, ◌&&◌, ◌==◌, All, AllPairs, Contains, filter, map, sum}
use Rattle.std.specs.List.{range_with_len}
use Rattle.std.specs.Cmp.{both_ways}
use Rattle.std.proofs.lemmas.Bool.{eqb-true, and_from, and_parts}
use Rattle.std.proofs.lemmas.List.{get_or_default}
use Rattle.std.proofs.lemmas.List.Elements.{All-tail}
use Rattle.std.proofs.lemmas.List.Sums.{sum-map, sum_by-cons, sum_by_more_le}
use Rattle.fcg_analysis.proofs.General.Members.{IsIn, IsIn-from_Contains, Contains-from_IsIn, any_in, in_any, filter_in, in_filter, length-filter_all}
use Rattle.fcg_analysis.proofs.General.Ranges.{length-range}
use Rattle.fcg_order.specs.Links.{row}
use Rattle.fcg_edges.specs.Rows.{Rows, IsList, has, any_has}
use Rattle.fcg_edges.specs.Internal.Tables.{AreApart, IsRow, AreRows, size_of}
use Rattle.fcg_edges.proofs.RowCounts.{sorted_is_filter, counts_add}

-- ---- members

pub contains-from_has : (xs : List ℕ) (b : ℕ) → has xs b ≡ true → Contains xs b
contains-from_has xs b h =
    let r = in_any (λ x. x == b) xs h in
    Contains-from_IsIn xs b (subst (λ x. IsIn x xs) (eqb-true r.0 b r.2) r.1)

pub has-from_contains : (xs : List ℕ) (b : ℕ) → Contains xs b → has xs b ≡ true
has-from_contains xs b c = any_in (λ x. x == b) xs b (IsIn-from_Contains xs b c) (eq-eqb b b refl)

pub has-filter : (p : ℕ → Bool) (xs : List ℕ) (b : ℕ) → has (filter p xs) b ≡ (has xs b && p b)
has-filter p xs b = both_ways (has (filter p xs) b) (has xs b && p b)
    (λ h. (let r = in_filter p xs b (IsIn-from_Contains (filter p xs) b (contains-from_has (filter p xs) b h)) in
    and_from (has xs b) (p b) (has-from_contains xs b (Contains-from_IsIn xs b r.0)) r.1))
    (λ h. (let r = and_parts (has xs b) (p b) h in
    has-from_contains (filter p xs) b (Contains-from_IsIn (filter p xs) b (filter_in p xs b (IsIn-from_Contains xs b (contains-from_has xs b r.0)) r.1))))

pub has-same : (xs ys : List ℕ) → ((b : ℕ) → Contains xs b → Contains ys b) → ((b : ℕ) → Contains ys b → Contains xs b) → (b : ℕ) → has xs b ≡ has ys b
has-same xs ys f g b = both_ways (has xs b) (has ys b)
    (λ h. has-from_contains ys b (f b (contains-from_has xs b h)))
    (λ h. has-from_contains xs b (g b (contains-from_has ys b h)))

-- ---- rows that are disjoint

filter_none : (ks : List ℕ) → length (filter (λ k. false) ks) ≡ 0
filter_none [] = refl
filter_none (k ∷ ks) = filter_none ks

-- the numbers of a list that rises
list_counted : (n : ℕ) (xs : List ℕ) → IsList n xs → length xs ≡ length (filter (has xs) (range_with_len 0 n))
list_counted n xs l = ap length (sorted_is_filter n (has xs) xs l.rise l.below (λ b k. (contains-from_has xs b, has-from_contains xs b)))

-- the numbers of lists that have none in common
pub uses_counted : (n : ℕ) (lists : List (List ℕ)) (uses : List ℕ) → All (IsList n) lists → All (λ l. l < length lists) uses
    → AllPairs (λ l m. AreApart (row lists l) (row lists m)) uses
    → sum (map (λ l. length (row lists l)) uses) ≡ length (filter (any_has lists uses) (range_with_len 0 n))
uses_counted n lists [] ls t a = sym (filter_none (range_with_len 0 n))
uses_counted n lists (l ∷ uses) ls t a =
    let first : length (row lists l) ≡ length (filter (has (row lists l)) (range_with_len 0 n)) = list_counted n (row lists l) (ls l [] (t 0 0 (omega arith))) in
    let rest : sum (map (λ m. length (row lists m)) uses) ≡ length (filter (any_has lists uses) (range_with_len 0 n)) =
    uses_counted n lists uses ls (All-tail (λ m. m < length lists) l uses t) (λ i j d lt within. a (suc i) (suc j) d (omega arith) (omega arith)) in
    let both = counts_add (has (row lists l)) (any_has lists uses) (range_with_len 0 n) (λ k e f. apart k e f) in
    let s : sum (map (λ m. length (row lists m)) (l ∷ uses)) ≡ length (row lists l) + sum (map (λ m. length (row lists m)) uses) =
    sum-map (λ m. length (row lists m)) (l ∷ uses) ∙ sum_by-cons (λ m. length (row lists m)) l uses
    ∙ ap (λ k. length (row lists l) + k) (sym (sum-map (λ m. length (row lists m)) uses)) in
    omega (arith, first, rest, both, s)
  where
    apart : (k : ℕ) → has (row lists l) k ≡ true → any_has lists uses k ≡ true → ⊥
    apart k e f =
        let r = in_any (λ m. has (row lists m) k) uses f in
        let c : Contains uses r.0 = Contains-from_IsIn uses r.0 r.1 in
        let p = a 0 (suc c.0) r.0 (omega arith) (let w = c.1 in omega arith) in
        p k (contains-from_has (row lists l) k e) (subst (λ m. Contains (row lists m) k) (sym c.2) (contains-from_has (row lists r.0) k r.2))

-- the targets of a row
pub row_counted : (n : ℕ) (lists : List (List ℕ)) (targets uses : List ℕ) → All (IsList n) lists → IsRow n lists targets uses
    → size_of lists targets uses ≡ length (filter (λ b. has targets b || any_has lists uses b) (range_with_len 0 n))
row_counted n lists targets uses ls r =
    let own = list_counted n targets r.rise in
    let others = uses_counted n lists uses ls r.there r.apart in
    let both = counts_add (has targets) (any_has lists uses) (range_with_len 0 n) (λ k e f. apart k e f) in
    omega (arith, own, others, both)
  where
    apart : (k : ℕ) → has targets k ≡ true → any_has lists uses k ≡ true → ⊥
    apart k e f =
        let u = in_any (λ m. has (row lists m) k) uses f in
        r.own u.0 (Contains-from_IsIn uses u.0 u.1) k (contains-from_has targets k e) (contains-from_has (row lists u.0) k u.2)

pub size_below : (n : ℕ) (lists : List (List ℕ)) (targets uses : List ℕ) → All (IsList n) lists → IsRow n lists targets uses → size_of lists targets uses ≤ n
size_below n lists targets uses ls r =
    let e = row_counted n lists targets uses ls r in
    let l = length-filter_all (λ b. has targets b || any_has lists uses b) (range_with_len 0 n) in
    let m = length-range 0 n in
    omega (arith, e, l, m)

-- ---- the edges before a caller

pub firsts_below : (r : Rows) (firsts : List ℕ) → AreRows r firsts → (a : ℕ) → a ≤ length r.targets → get_or firsts a 0 ≤ a * r.count
firsts_below r firsts h zero l = let e = h.first in omega (arith, e)
firsts_below r firsts h (suc a) l =
    let before : get_or firsts a 0 ≤ a * r.count = firsts_below r firsts h a (omega arith) in
    let next = h.sums a (omega arith) in
    let size = size_below r.count r.lists (row r.targets a) (row r.uses a) h.lists (h.rows a (omega arith)) in
    let e : suc a ≡ a + 1 = omega arith in
    let f : get_or firsts (suc a) 0 ≡ get_or firsts (a + 1) 0 = ap (λ k. get_or firsts k 0) e in
    omega (arith, before, next, size, f)

-- there are fewer edges than a number of 64 bits tells, and one row more adds few
pub few_edges : (r : Rows) (firsts : List ℕ) → AreRows r firsts → (targets uses : List ℕ) → IsRow r.count r.lists targets uses
    → get_or firsts (length r.targets) 0 + size_of r.lists targets uses ≤ length r.targets * r.count + r.count
few_edges r firsts h targets uses q =
    let a = firsts_below r firsts h (length r.targets) (omega arith) in
    let b = size_below r.count r.lists targets uses h.lists q in
    omega (arith, a, b)

product_below : (n c : ℕ) → n < c → c < 4294967296 → n * c + c < 18446744073709551616
product_below n c l m =
    let h : n + 1 ≤ 4294967295 = omega arith in
    let k = mul-le-mul_left c h in
    omega (arith, k)

pub edges_fit : (r : Rows) (firsts : List ℕ) → AreRows r firsts → (targets uses : List ℕ) → length r.targets < r.count → IsRow r.count r.lists targets uses
    → get_or firsts (length r.targets) 0 + size_of r.lists targets uses < 18446744073709551616
edges_fit r firsts h targets uses more q =
    let a = few_edges r firsts h targets uses q in
    let f = h.few in
    let b = product_below (length r.targets) r.count more (omega (arith, f)) in
    omega (arith, a, b)

-- the last of the numbers before callers
pub last_first : (r : Rows) (firsts : List ℕ) → AreRows r firsts → (n d : ℕ) → n ≡ length firsts → get_or firsts (n - 1) d ≡ get_or firsts (length r.targets) 0
last_first r firsts h n d e =
    let l = h.firsts_long in
    let f : n - 1 ≡ length r.targets = omega (arith, l) in
    ap (λ k. get_or firsts k d) f ∙ get_or_default firsts (length r.targets) d 0 (omega (arith, l))

-- the targets of a row and of some of its lists
pub size_part : (lists : List (List ℕ)) (targets uses : List ℕ) (i d : ℕ) → i < length uses
    → size_of lists targets (take i uses) + length (row lists (get_or uses i d)) ≤ size_of lists targets uses
size_part lists targets uses i d l =
    let a = sum-map (λ m. length (row lists m)) (take i uses) in
    let b = sum-map (λ m. length (row lists m)) uses in
    let m = sum_by_more_le (λ m. length (row lists m)) uses i d l in
    omega (arith, a, b, m)
