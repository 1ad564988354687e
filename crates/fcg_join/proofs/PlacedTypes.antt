-- Types at or below a class, by places.
use Rattle.std.proofs.Common.{◌≡◌, ℕ, ◌+◌, ◌-◌, ◌<◌, ◌≤◌, List, length, get_or, take, drop, min, refl, sym, ap, subst, ◌∙◌, inl, inr, arith}
use Rattle.std.specs.Prelude.{All, ◌⊎◌, ◌↔◌, Bool, true, false, ◌&&◌, nat_le, nat_lt, Option, Some, None, Contains, slice_get, slice_index_or, ◌∷◌}
use Rattle.std.specs.List.{IsDistinct, list_any}
use Rattle.std.proofs.lemmas.Bool.{and_from, or_left, leb-true, ltb-true, le-leb, lt-ltb}
use Rattle.std.proofs.lemmas.List.Elements.{Contains-append_right}
use Rattle.std.proofs.lemmas.List.{get_or-drop, get_or-take, get_or_default, length-drop, length-take}
use Rattle.std.proofs.lemmas.Option.{slice_get_within}
use Rattle.fcg_order.specs.Links.{HasLink, IsCircular}
use Rattle.fcg_order.specs.Order.{IsOrder}
use Rattle.fcg_order.specs.Places.{parent, IsOnLine, itself, upward, IsForest, ArePlaces}
use Rattle.fcg_order.specs.declared.places.Places.{Places}
use Rattle.fcg_analysis.specs.Declarations.{Placed, object_name, is_type, is_class}
use Rattle.fcg_analysis.specs.Types.{superclass, links, extends, implements, is_below}
use Rattle.fcg_analysis.proofs.General.Members.{find_in, and_first, and_second}
use Rattle.fcg_analysis.proofs.General.Places.{some_at}
use Rattle.fcg_join.specs.TypeLinks.{HasTypeAt, HasLinks}
use Rattle.fcg_join.specs.TypeTables.{AreSubclasses}
use Rattle.fcg_join.specs.Joined.{IsTypeNumber}
use Rattle.fcg_join.specs.Internal.Below.{AreSuperclasses, AreTypePlaces, HasInterval, enter_of, leave_of, is_under, interval}
use Rattle.fcg_analysis.specs.NamesAndFlags.{same}
use Rattle.fcg_analysis.specs.Laws.Statements.{IsAcyclic}
use Rattle.std.proofs.lemmas.List.Elements.{Contains-get_or}
use Rattle.fcg_join.specs.Internal.Mentions.{AreSorted}
use Rattle.fcg_join.specs.Internal.Below.{AreBelow}
use Rattle.fcg_join.proofs.Places.{one_place}
use Rattle.fcg_join.proofs.BelowLists.{below_listed, subclasses_below}

-- the superclass of a number
super_at : (types : List Placed) (o : Option ℕ) (y : ℕ) (r : Option Placed) → IsTypeNumber types o r → o ≡ Some y → (t : Placed) × (r ≡ Some t) × HasTypeAt types y t
super_at types None y r h e = absurd cc
super_at types (Some z) y None h e = absurd h
super_at types (Some z) y (Some t) h e = let q : z ≡ y = cc in (t, refl, subst (λ n. HasTypeAt types n t) q h)

super_some : (types : List Placed) (o : Option ℕ) (r : Option Placed) (t : Placed) → IsTypeNumber types o r → r ≡ Some t → (y : ℕ) × (o ≡ Some y) × HasTypeAt types y t
super_some types None None t h e = absurd cc
super_some types None (Some u) t h e = absurd h
super_some types (Some z) None t h e = absurd h
super_some types (Some z) (Some u) t h e = let q : u ≡ t = cc in (z, refl, h ∙ ap (λ v. Some v) q)

module _ (types : List Placed) (p : Places) (a : AreTypePlaces types p) where
  abbrev E : ℕ → ℕ
  E x = enter_of p x

  within : (x : ℕ) → x < length types → x < length a.superclasses
  within x l = let m = a.many in omega (arith, l, m)

  pub has_interval : (x : ℕ) → x < length types → HasInterval p x
  has_interval x l =
      let w = within x l in
      let e = a.places.enter_long in
      let f = a.places.leave_long in
      record { entered = omega (arith, w, e); left = omega (arith, w, f); some = a.places.some x w; within = a.places.within x w }

  pub in_interval : (y z : ℕ) → y < length types → Contains (interval p y) z ↔ ((z < length types) × (E y ≤ E z) × (E z < leave_of p y))
  in_interval y z l = (to, from')
    where
      w : y < length a.superclasses
      w = within y l

      whole : leave_of p y ≤ length p.nodes.items
      whole = a.places.within y w

      size : length (interval p y) ≡ leave_of p y - E y
      size = let d = length-drop (E y) (take (leave_of p y) p.nodes.items) in let t = length-take (leave_of p y) p.nodes.items in let q = whole in omega (arith, d, t, q)

      at : (k : ℕ) → E y + k < leave_of p y → (d : ℕ) → get_or (interval p y) k d ≡ get_or p.nodes.items (E y + k) 0
      at k m d = get_or-drop (E y) (take (leave_of p y) p.nodes.items) k d ∙ get_or-take (leave_of p y) p.nodes.items (E y + k) d m
          ∙ get_or_default p.nodes.items (E y + k) d 0 (let q = whole in omega (arith, m, q))

      to : Contains (interval p y) z → (z < length types) × (E y ≤ E z) × (E z < leave_of p y)
      to (k, m, e) =
          let s = size in
          let i : E y + k < leave_of p y = omega (arith, m, s) in
          let same : get_or p.nodes.items (E y + k) 0 ≡ z = sym (at k i z) ∙ e in
          let n = a.places.node (E y + k) (let q = whole in omega (arith, i, q)) in
          let n0 : z < length a.superclasses = subst (λ v. v < length a.superclasses) same n.0 in
          let n1 : E z ≡ E y + k = ap E (sym same) ∙ n.1 in
          let c = a.many in
          (omega (arith, n0, c), omega (arith, n1), omega (arith, n1, i))

      from' : (z < length types) × (E y ≤ E z) × (E z < leave_of p y) → Contains (interval p y) z
      from' (lz, b, c) =
          let s = size in
          let e : E y + (E z - E y) ≡ E z = omega (arith, b) in
          (E z - E y, omega (arith, s, b, c), at (E z - E y) (omega (arith, e, c)) z ∙ ap (λ k. get_or p.nodes.items k 0) e ∙ a.places.listed z (within z lz))

  on_line : (y z : ℕ) → y < length types → Contains (interval p y) z → IsOnLine a.superclasses y z
  on_line y z l c = let i = (in_interval y z l).0 c in (a.places.line y z (within y l) (within z i.0)).1 (i.1, i.2)

  of_line : (y z : ℕ) → y < length types → z < length types → IsOnLine a.superclasses y z → Contains (interval p y) z
  of_line y z l m w = let i = (a.places.line y z (within y l) (within z m)).0 w in (in_interval y z l).1 (m, i.0, i.1)

  pub subclasses_of : IsDistinct is_type types → (y : ℕ) (u : Placed) → HasTypeAt types y u → AreSubclasses types y (interval p y)
  subclasses_of distinct y u h = record {
    top = of_line y y l l itself;
    down = λ x z t v ht hv e c. (let s = super_some types (parent a.superclasses z) (superclass types v) t (a.are z v hv) e in
        let same : s.0 ≡ x = one_place types s.0 x t distinct s.2 ht in
        of_line y z l (slice_get_within types z v hv) (upward (s.1 ∙ ap (λ n. Some n) same) (on_line y x l c)));
    cause = λ z v hv c. by z v hv (on_line y z l c);
  }
    where
      l : y < length types
      l = slice_get_within types y u h

      by : (z : ℕ) (v : Placed) → HasTypeAt types z v → IsOnLine a.superclasses y z → (z ≡ y) ⊎ ((x : ℕ) × (t : Placed) × HasTypeAt types x t × (superclass types v ≡ Some t) × Contains (interval p y) x)
      by z v hv w = at z v hv w refl
        where
          at : (z : ℕ) (v : Placed) → HasTypeAt types z v → {q : ℕ} → IsOnLine a.superclasses q z → q ≡ y → (z ≡ y) ⊎ ((x : ℕ) × (t : Placed) × HasTypeAt types x t × (superclass types v ≡ Some t) × Contains (interval p y) x)
          at z v hv itself e = inl e
          at z v hv (upward {p = x} f w) e =
              let s = super_at types (parent a.superclasses z) x (superclass types v) (a.are z v hv) f in
              inr (x, s.0, s.2, s.1, of_line y x l (slice_get_within types x s.0 s.2) (subst (λ q. IsOnLine a.superclasses q x) e w))

  pub under_is : (y x : ℕ) → y < length types → x < length types → (is_under p y x ≡ true) ↔ Contains (interval p y) x
  under_is y x l m = (
    (λ e. (in_interval y x l).1 (m, leb-true (E y) (E x) (and_first (nat_le (E y) (E x)) (nat_lt (E x) (leave_of p y)) e), ltb-true (E x) (leave_of p y) (and_second (nat_le (E y) (E x)) (nat_lt (E x) (leave_of p y)) e))),
    (λ c. (let i = (in_interval y x l).0 c in and_from (nat_le (E y) (E x)) (nat_lt (E x) (leave_of p y)) (le-leb (E y) (E x) i.1) (lt-ltb (E x) (leave_of p y) i.2))),
  )

-- ---- an order against the links has each type behind its superclass

module _ (types : List Placed) (rows : List (List ℕ)) (has : HasLinks types rows) (order : List ℕ) (ordered : IsOrder rows order)
    (none : (x : ℕ) → x < length rows → ¬ IsCircular rows x) (superclasses : List (Option ℕ)) (many : length superclasses ≡ length types) (are : AreSuperclasses types superclasses) where
  linked : (t s : Placed) → superclass types t ≡ Some s → links t s ≡ true
  linked t s e = or_left (extends t s) (implements t s) (find_in (extends t) types s e).1

  pub is_forest : IsForest superclasses order
  is_forest = record {
    each = λ x. (let m = has.long in (
      (λ c. (let l = (ordered.each x).0 c in omega (arith, l, m, many))),
      (λ l. (ordered.each x).1 (omega (arith, l, m, many))),
    ));
    once = ordered.once;
    after = λ before later x p e f. (
        let c : Contains order x = subst (λ (xs : List ℕ). Contains xs x) (sym e) (Contains-append_right before (x ∷ later) x (0, omega arith, refl)) in
        let l = (ordered.each x).0 c in
        let m = has.long in
        let t = some_at types x (omega (arith, l, m)) in
        let s = super_at types (parent superclasses x) p (superclass types t.0) (are x t.0 t.1) f in
        ordered.after before later x p e (none x l) ((has.each x p t.0 s.0 t.1 s.2).1 (linked t.0 s.0 s.1)));
  }

-- ---- the types at or below a class

iff_same : (b c : Bool) → (b ≡ true → c ≡ true) → (c ≡ true → b ≡ true) → b ≡ c
iff_same true true f g = refl
iff_same true false f g = sym (f refl)
iff_same false true f g = g refl
iff_same false false f g = refl

module _ (types : List Placed) (p : Places) (a : AreTypePlaces types p) (acyclic : IsAcyclic types) (distinct : IsDistinct is_type types)
    (y : ℕ) (u : Placed) (there : HasTypeAt types y u) (class' : is_class u ≡ true) (other : same u.view.name object_name ≡ false) where
  abbrev inside : y < length types
  inside = slice_get_within types y u there

  below_is : (z : ℕ) (t : Placed) → HasTypeAt types z t → Contains (interval p y) z ↔ (is_below types t u.view.name ≡ true)
  below_is = subclasses_below types acyclic distinct y u there class' other (interval p y) (subclasses_of types p a distinct y u there)

  pub below_by_places : (x : ℕ) (t : Placed) → HasTypeAt types x t → is_below types t u.view.name ≡ is_under p y x
  below_by_places x t h =
      let l = slice_get_within types x t h in
      let i = under_is types p a y x inside l in
      let b = below_is x t h in
      iff_same (is_below types t u.view.name) (is_under p y x) (λ e. i.1 (b.1 e)) (λ e. b.0 (i.0 e))

  pub listed_by_places : (numbers : List ℕ) → AreSorted (interval p y) numbers → AreBelow types u.view.name numbers
  listed_by_places numbers s = record {
    listed = below_listed types u.view.name numbers s.rise small (λ z t h. (let b = below_is z t h in let e = s.same z in ((λ c. b.0 (e.0 c)), (λ c. e.1 (b.1 c)))));
    range = small;
  }
    where
      small : All (λ x. x < length types) numbers
      small k d l =
          let c = (s.same (get_or numbers k d)).0 (Contains-get_or numbers k d l) in
          ((in_interval types p a y (get_or numbers k d) inside).0 c).0
