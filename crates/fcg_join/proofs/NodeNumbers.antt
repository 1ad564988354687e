-- The tables of nodes, by numbers.
use Rattle.std.proofs.Common.{◌≡◌, ◌≢◌, ℕ, zero, suc, ◌+◌, ◌-◌, ◌<◌, ◌≤◌, List, [], ◌∷◌, ◌++◌, length, take, get_or, replicate, append-nil, append_assoc, refl, sym, ap, subst, ◌∙◌, inl, inr, arith, eqb}
use Rattle.std.specs.Prelude.{Bool, true, false, cond, ◌↔◌, All, Some, None, option_map, find, filter, slice_get, Contains}
use Rattle.std.specs.List.{IsDistinct, range_with_len}
use Rattle.std.specs.List.Sorted.{IsStrictlyIncreasing}
use Rattle.std.specs.Cmp.{both_ways}
use Rattle.std.proofs.Math.Bool.{and_comm}
use Rattle.std.proofs.lemmas.Bool.{false_from_ne_true}
use Rattle.std.proofs.lemmas.Bool.Decides.{Decides-eqb}
use Rattle.std.proofs.lemmas.List.{length-append, length-replicate, get_or_append_left, get_or-append-add, get_or-replicate, get_or_default}
use Rattle.std.proofs.lemmas.List.Kept.{IsStrictlyIncreasing-filter}
use Rattle.std.proofs.lemmas.List.Sums.{sum_by-cons, sum_by_push}
use Rattle.std.proofs.lemmas.Option.{slice_get_within}
use Rattle.fcg_analysis.specs.Declarations.{Placed, Signature, is_type, has_signature}
use Rattle.fcg_analysis.specs.Nodes.{Node, nodes, declared}
use Rattle.fcg_analysis.specs.Laws.Methods.{method_total, first_node, AreApart}
use Rattle.fcg_join.specs.TypeLinks.{HasTypeAt}
use Rattle.fcg_join.specs.NodeTables.{HasNodeAt, first_nodes_from, first_nodes, owners_from, owners, numbers_of, declarers, IsDeclarer}
use Rattle.fcg_analysis.proofs.General.Members.{IsIn, IsIn-from_Contains, Contains-from_IsIn, filter_in, in_filter, map_in, in_map}
use Rattle.fcg_analysis.proofs.General.Finding.{find_both}
use Rattle.fcg_analysis.proofs.General.Numbered.{passes, range_rises}
use Rattle.fcg_analysis.proofs.General.Places.{member_at, same_at, some_at}
use Rattle.fcg_analysis.proofs.NodeLaws.{numbers_are_places}
use Rattle.fcg_analysis.proofs.NodePlaces.{count_is, of_method_at, number_is_place}
use Rattle.fcg_analysis.proofs.NodeMembers.{declared_own}
use Rattle.fcg_analysis.proofs.DeclaredPlaces.{of_node, none_of_nodes}
use Rattle.fcg_analysis.proofs.TableLaws.{numbers_kept}
use Rattle.fcg_analysis.proofs.OverrideLaws.{one_of_name}
use Rattle.fcg_analysis.proofs.WinnerLaws.{is_type_self}
use Rattle.fcg_join.proofs.Places.{one_place, has_in}

-- ---- the first nodes

firsts_go_on : (n : ℕ) (types : List Placed) (t : Placed) → first_nodes_from n (types ++ t ∷ []) ≡ first_nodes_from n types ++ (n + method_total types) ∷ []
firsts_go_on n [] t = let e : n ≡ n + 0 = omega arith in ap (λ k. k ∷ []) e
firsts_go_on n (u ∷ us) t =
    let s : method_total (u ∷ us) ≡ length u.view.methods + method_total us = sum_by-cons (λ t. length t.view.methods) u us in
    let e : n + length u.view.methods + method_total us ≡ n + method_total (u ∷ us) = omega (arith, s) in
    ap (λ ks. n ∷ ks) (firsts_go_on (n + length u.view.methods) us t ∙ ap (λ k. first_nodes_from (n + length u.view.methods) us ++ k ∷ []) e)

pub first_nodes_go_on : (types : List Placed) (t : Placed) → first_nodes (types ++ t ∷ []) ≡ first_nodes types ++ method_total types ∷ []
first_nodes_go_on types t = firsts_go_on 0 types t ∙ (let e : 0 + method_total types ≡ method_total types = omega arith in ap (λ k. first_nodes types ++ k ∷ []) e)

pub total_goes_on : (types : List Placed) (t : Placed) → method_total (types ++ t ∷ []) ≡ method_total types + length t.view.methods
total_goes_on types t = sum_by_push (λ t. length t.view.methods) types t

firsts_long : (n : ℕ) (types : List Placed) → length (first_nodes_from n types) ≡ length types
firsts_long n [] = refl
firsts_long n (t ∷ ts) = ap suc (firsts_long (n + length t.view.methods) ts)

pub first_nodes_long : (types : List Placed) → length (first_nodes types) ≡ length types
first_nodes_long types = firsts_long 0 types

first_at : (n : ℕ) (types : List Placed) (x : ℕ) → x < length types → get_or (first_nodes_from n types) x 0 ≡ n + first_node types x
first_at n [] x l = absurd (omega arith)
first_at n (t ∷ ts) zero l = omega arith
first_at n (t ∷ ts) (suc x) l =
    let s : first_node (t ∷ ts) (suc x) ≡ length t.view.methods + first_node ts x = sum_by-cons (λ t. length t.view.methods) t (take x ts) in
    let r : get_or (first_nodes_from (n + length t.view.methods) ts) x 0 ≡ n + length t.view.methods + first_node ts x = first_at (n + length t.view.methods) ts x (omega arith) in
    let e : n + length t.view.methods + first_node ts x ≡ n + first_node (t ∷ ts) (suc x) = omega (arith, s) in
    r ∙ e

pub first_nodes_at : (types : List Placed) (x : ℕ) (t : Placed) → HasTypeAt types x t → get_or (first_nodes types) x 0 ≡ first_node types x
first_nodes_at types x t h = first_at 0 types x (slice_get_within types x t h) ∙ (let e : 0 + first_node types x ≡ first_node types x = omega arith in e)

-- ---- owners

owned_go_on : (x : ℕ) (types : List Placed) (t : Placed) → owners_from x (types ++ t ∷ []) ≡ owners_from x types ++ replicate (length t.view.methods) (x + length types)
owned_go_on x [] t =
    let e : x ≡ x + length {A = Placed} [] = omega arith in
    append-nil (replicate (length t.view.methods) x) ∙ ap (replicate (length t.view.methods)) e
owned_go_on x (u ∷ us) t =
    let e : x + 1 + length us ≡ x + length (u ∷ us) = omega arith in
    ap (λ ks. replicate (length u.view.methods) x ++ ks) (owned_go_on (x + 1) us t ∙ ap (λ k. owners_from (x + 1) us ++ replicate (length t.view.methods) k) e)
    ∙ sym (append_assoc (replicate (length u.view.methods) x) (owners_from (x + 1) us) (replicate (length t.view.methods) (x + length (u ∷ us))))

pub owners_go_on : (types : List Placed) (t : Placed) → owners (types ++ t ∷ []) ≡ owners types ++ replicate (length t.view.methods) (length types)
owners_go_on types t = owned_go_on 0 types t ∙ (let e : 0 + length types ≡ length types = omega arith in ap (λ k. owners types ++ replicate (length t.view.methods) k) e)

owned_long : (x : ℕ) (types : List Placed) → length (owners_from x types) ≡ method_total types
owned_long x [] = refl
owned_long x (t ∷ ts) =
    let s : method_total (t ∷ ts) ≡ length t.view.methods + method_total ts = sum_by-cons (λ t. length t.view.methods) t ts in
    let r : length (owners_from (x + 1) ts) ≡ method_total ts = owned_long (x + 1) ts in
    let n : length (replicate (length t.view.methods) x) ≡ length t.view.methods = length-replicate (length t.view.methods) x in
    let e : length (replicate (length t.view.methods) x) + length (owners_from (x + 1) ts) ≡ method_total (t ∷ ts) = omega (arith, s, r, n) in
    length-append (replicate (length t.view.methods) x) (owners_from (x + 1) ts) ∙ e

pub owners_long : (types : List Placed) → length (owners types) ≡ length (nodes types)
owners_long types = owned_long 0 types ∙ sym (count_is types)

-- what stands in the row of a type
owned_at : (y : ℕ) (types : List Placed) (x k : ℕ) (t : Placed) → HasTypeAt types x t → k < length t.view.methods → get_or (owners_from y types) (first_node types x + k) 0 ≡ y + x
owned_at y [] x k t h l = absurd (cc)
owned_at y (u ∷ us) zero k t h l =
    let same : u ≡ t = cc in
    let less : k < length u.view.methods = subst (λ v. k < length v.view.methods) (sym same) l in
    let n : length (replicate (length u.view.methods) y) ≡ length u.view.methods = length-replicate (length u.view.methods) y in
    let small : k < length (replicate (length u.view.methods) y) = omega (arith, n) in
    let e : 0 + k ≡ k = omega arith in
    let f : y ≡ y + 0 = omega arith in
    ap (λ j. get_or (replicate (length u.view.methods) y ++ owners_from (y + 1) us) j 0) e
    ∙ get_or_append_left (replicate (length u.view.methods) y) (owners_from (y + 1) us) 0 k small
    ∙ get_or-replicate (length u.view.methods) k y 0 less
    ∙ f
owned_at y (u ∷ us) (suc x) k t h l =
    let s : first_node (u ∷ us) (suc x) ≡ length u.view.methods + first_node us x = sum_by-cons (λ t. length t.view.methods) u (take x us) in
    let n : length (replicate (length u.view.methods) y) ≡ length u.view.methods = length-replicate (length u.view.methods) y in
    let e : first_node (u ∷ us) (suc x) + k ≡ length (replicate (length u.view.methods) y) + (first_node us x + k) = omega (arith, s, n) in
    let f : y + 1 + x ≡ y + suc x = omega arith in
    ap (λ j. get_or (replicate (length u.view.methods) y ++ owners_from (y + 1) us) j 0) e
    ∙ get_or-append-add (replicate (length u.view.methods) y) (owners_from (y + 1) us) (first_node us x + k) 0
    ∙ owned_at (y + 1) us x k t h l
    ∙ f

in_its_row : (types : List Placed) (k x : ℕ) (t : Placed) → HasTypeAt types x t → first_node types x ≤ k → k < first_node types x + length t.view.methods → get_or (owners types) k 0 ≡ x
in_its_row types k x t h l u =
    let j = k - first_node types x in
    let e : first_node types x + j ≡ k = omega arith in
    let small : j < length t.view.methods = omega arith in
    let f : 0 + x ≡ x = omega arith in
    ap (λ i. get_or (owners types) i 0) (sym e) ∙ owned_at 0 types x j t h small ∙ f

pub owner_is : (types : List Placed) (k : ℕ) (m : Node) → HasNodeAt types k m → HasTypeAt types (get_or (owners types) k 0) m.owner
owner_is types k m h =
    let p = of_method_at types k m h in
    subst (λ x. HasTypeAt types x m.owner) (sym (in_its_row types k p.place m.owner p.owner p.from' p.until)) p.owner

pub owner_row : (types : List Placed) (k x : ℕ) (m : Node) (t : Placed) → HasNodeAt types k m → HasTypeAt types x t
    → get_or (owners types) k 0 ≡ x ↔ ((first_node types x ≤ k) × (k < first_node types x + length t.view.methods))
owner_row types k x m t h i = (
  λ e. (let p = of_method_at types k m h in
      let same : p.place ≡ x = sym (in_its_row types k p.place m.owner p.owner p.from' p.until) ∙ e in
      let type : m.owner ≡ t = same_at types x m.owner t (subst (λ y. HasTypeAt types y m.owner) same p.owner) i in
      (subst (λ y. first_node types y ≤ k) same p.from', subst (λ y. k < first_node types y + length t.view.methods) same (subst (λ v. k < first_node types p.place + length v.view.methods) type p.until))),
  λ r. in_its_row types k x t i r.0 r.1,
)

-- a node is its owner's method at the place in the row
pub owner_method : (types : List Placed) (k first : ℕ) (m : Node) → HasNodeAt types k m → get_or (first_nodes types) (get_or (owners types) k 0) 0 ≡ first
    → (first ≤ k) × (k < first + length m.owner.view.methods) × (slice_get m.owner.view.methods (k - first) ≡ Some m.method)
owner_method types k first m h e =
    let p = of_method_at types k m h in
    let o : HasTypeAt types (get_or (owners types) k 0) m.owner = owner_is types k m h in
    let x : get_or (owners types) k 0 ≡ p.place = in_its_row types k p.place m.owner p.owner p.from' p.until in
    let f : first_node types p.place ≡ first = ap (first_node types) (sym x) ∙ sym (first_nodes_at types (get_or (owners types) k 0) m.owner o) ∙ e in
    subst (λ n. (n ≤ k) × (k < n + length m.owner.view.methods) × (slice_get m.owner.view.methods (k - n) ≡ Some m.method)) f (p.from', p.until, p.method)

pub owners_within : (types : List Placed) → All (λ x. x < length types) (owners types)
owners_within types k d l =
    let there = some_at (nodes types) k (subst (λ n. k < n) (owners_long types) l) in
    subst (λ x. x < length types) (get_or_default (owners types) k 0 d l) (slice_get_within types (get_or (owners types) k 0) there.0.owner (owner_is types k there.0 there.1))

-- ---- nodes that pass a test, by their numbers

module _ (types : List Placed) (p : Node → Bool) where
  pub passing_in : (k : ℕ) (m : Node) → HasNodeAt types k m → p m ≡ true → Contains (numbers_of (filter p (nodes types))) k
  passing_in k m h t =
      let i : IsIn m (nodes types) = IsIn-from_Contains _ m (member_at (nodes types) k m h) in
      let n : m.number ≡ k = (of_method_at types k m h).number in
      subst (Contains (numbers_of (filter p (nodes types)))) n (Contains-from_IsIn _ m.number (map_in (λ m. m.number) (filter p (nodes types)) m (filter_in p (nodes types) m i t)))

  pub in_passing : (k : ℕ) → Contains (numbers_of (filter p (nodes types))) k → (m : Node) × HasNodeAt types k m × (p m ≡ true)
  in_passing k c =
      let r = in_map (λ m. m.number) (filter p (nodes types)) k (IsIn-from_Contains _ k c) in
      let f = in_filter p (nodes types) r.0 r.1 in
      (r.0, subst (λ j. HasNodeAt types j r.0) r.2 (number_is_place types r.0 (Contains-from_IsIn _ r.0 f.0)), f.1)

  -- they are those of the numbers below the count whose nodes pass
  pub passing_numbers : (q : ℕ → Bool) → ((k : ℕ) (m : Node) → HasNodeAt types k m → q k ≡ p m) → numbers_of (filter p (nodes types)) ≡ filter q (range_with_len 0 (length (nodes types)))
  passing_numbers q agrees =
      sym (numbers_kept p q (nodes types) (λ m i. agrees m.number m (number_is_place types m (Contains-from_IsIn _ m i))))
      ∙ ap (filter q) (numbers_are_places types)

  pub passing_rise : IsStrictlyIncreasing (numbers_of (filter p (nodes types)))
  passing_rise =
      subst (λ ks. IsStrictlyIncreasing ks) (sym (passing_numbers (λ k. passes p (slice_get (nodes types) k)) (λ k m h. ap (passes p) h)))
      (IsStrictlyIncreasing-filter (λ k. passes p (slice_get (nodes types) k)) (range_with_len 0 (length (nodes types))) (range_rises 0 (length (nodes types))))

  pub passing_within : All (λ k. k < length (nodes types)) (numbers_of (filter p (nodes types)))
  passing_within k d l =
      let j = get_or (numbers_of (filter p (nodes types))) k d in
      let e : get_or (numbers_of (filter p (nodes types))) k j ≡ j = sym (get_or_default (numbers_of (filter p (nodes types))) k d j l) in
      let r = in_passing j (k, l, e) in
      slice_get_within (nodes types) j r.0 r.1

-- ---- declarers

pub declarer_members : (types : List Placed) (s : Signature) (k : ℕ) → Contains (declarers types s) k ↔ IsDeclarer types s k
declarer_members types s k = (
  λ c. (let r = in_passing types (λ m. has_signature s m.method) k c in record { node = r.0; there = r.1; signature = r.2 }),
  λ d. passing_in types (λ m. has_signature s m.method) k d.node d.there d.signature,
)

pub declarers_by_numbers : (types : List Placed) (s : Signature) (signatures : List ℕ) (number : ℕ)
    → ((k : ℕ) (m : Node) → HasNodeAt types k m → get_or signatures k 0 ≡ number ↔ (has_signature s m.method ≡ true))
    → declarers types s ≡ filter (λ k. eqb (get_or signatures k 0) number) (range_with_len 0 (length (nodes types)))
declarers_by_numbers types s signatures number h =
    passing_numbers types (λ m. has_signature s m.method) (λ k. eqb (get_or signatures k 0) number)
    (λ k m a. both_ways (eqb (get_or signatures k 0) number) (has_signature s m.method)
    (λ e. (h k m a).0 ((Decides-eqb (get_or signatures k 0) number).0 e))
    (λ e. (Decides-eqb (get_or signatures k 0) number).1 ((h k m a).1 e)))

-- what is found first, by numbers
pub find_number : (b : Node → Bool) (q : ℕ → Bool) (ms : List Node) → ((m : Node) → IsIn m ms → q m.number ≡ b m) → option_map (λ m. m.number) (find b ms) ≡ find q (numbers_of ms)
find_number b q [] h = refl
find_number b q (m ∷ ms) h =
    at (b m) (find_number b q ms (λ n i. h n (inr i))) ∙ ap (λ v. cond v (Some m.number) (find q (numbers_of ms))) (sym (h m (inl refl)))
  where
    at : (v : Bool) → option_map (λ m. m.number) (find b ms) ≡ find q (numbers_of ms) → option_map (λ m. m.number) (cond v (Some m) (find b ms)) ≡ cond v (Some m.number) (find q (numbers_of ms))
    at true r = refl
    at false r = r

module _ (types : List Placed) (distinct : IsDistinct is_type types) (s : Signature) (x : ℕ) (t : Placed) (there : HasTypeAt types x t) where
  -- the owner of a node is t where it has its number
  owner_decides : (k : ℕ) (m : Node) → HasNodeAt types k m → eqb (get_or (owners types) k 0) x ≡ is_type t m.owner
  owner_decides k m h = both_ways (eqb (get_or (owners types) k 0) x) (is_type t m.owner) forth back
    where
      o : HasTypeAt types (get_or (owners types) k 0) m.owner
      o = owner_is types k m h

      forth : eqb (get_or (owners types) k 0) x ≡ true → is_type t m.owner ≡ true
      forth e =
          let n : get_or (owners types) k 0 ≡ x = (Decides-eqb (get_or (owners types) k 0) x).0 e in
          let same : m.owner ≡ t = same_at types x m.owner t (subst (λ y. HasTypeAt types y m.owner) n o) there in
          ap (is_type t) same ∙ is_type_self t

      back : is_type t m.owner ≡ true → eqb (get_or (owners types) k 0) x ≡ true
      back e =
          let same : t ≡ m.owner = one_of_name types t m.owner distinct (IsIn-from_Contains types t (has_in types x t there)) (IsIn-from_Contains types m.owner (has_in types (get_or (owners types) k 0) m.owner o)) e in
          let n : get_or (owners types) k 0 ≡ x = one_place types (get_or (owners types) k 0) x t distinct (subst (λ u. HasTypeAt types (get_or (owners types) k 0) u) (sym same) o) there in
          (Decides-eqb (get_or (owners types) k 0) x).1 n

  pub declared_first : option_map (λ m. m.number) (declared types s t) ≡ find (λ k. eqb (get_or (owners types) k 0) x) (declarers types s)
  declared_first =
      ap (option_map (λ m. m.number)) ((λ i. find (λ m. and_comm (is_type t m.owner) (has_signature s m.method) i) (nodes types)) ∙ find_both (λ m. has_signature s m.method) (λ m. is_type t m.owner) (nodes types))
      ∙ find_number (λ m. is_type t m.owner) (λ k. eqb (get_or (owners types) k 0) x) (filter (λ m. has_signature s m.method) (nodes types))
      (λ m i. owner_decides m.number m (number_is_place types m (Contains-from_IsIn _ m (in_filter (λ m. has_signature s m.method) (nodes types) m i).0)))

  pub declared_found : AreApart types → (k : ℕ) (m : Node) → HasNodeAt types k m → Contains (declarers types s) k → get_or (owners types) k 0 ≡ x → declared types s t ≡ Some m
  declared_found a k m h c e =
      let d = (declarer_members types s k).0 c in
      let same : d.node ≡ m = same_at (nodes types) k d.node m d.there h in
      let g : has_signature s m.method ≡ true = subst (λ n. has_signature s n.method ≡ true) same d.signature in
      of_node types distinct a t s m (member_at (nodes types) k m h) (sym (owner_decides k m h) ∙ (Decides-eqb (get_or (owners types) k 0) x).1 e) g

  pub declared_none : ((k : ℕ) → Contains (declarers types s) k → get_or (owners types) k 0 ≢ x) → declared types s t ≡ None
  declared_none h =
      (none_of_nodes types t s).1 (λ m c g.
      let a = number_is_place types m c in
      let k : get_or (owners types) m.number 0 ≢ x = h m.number (passing_in types (λ m. has_signature s m.method) m.number m a g) in
      sym (owner_decides m.number m a) ∙ false_from_ne_true _ (λ e. k ((Decides-eqb (get_or (owners types) m.number 0) x).0 e)))

pub declared_number : (types : List Placed) → IsDistinct is_type types → (s : Signature) (k : ℕ) (t : Placed) (m : Node) → Contains types t → declared types s t ≡ Some m → m.number ≡ k → HasNodeAt types k m × Contains (declarers types s) k
declared_number types d s k t m c e n =
    let own = declared_own types d t s m c e in
    let a : HasNodeAt types k m = subst (λ j. HasNodeAt types j m) n (number_is_place types m own.1) in
    (a, passing_in types (λ m. has_signature s m.method) k m a own.2)
