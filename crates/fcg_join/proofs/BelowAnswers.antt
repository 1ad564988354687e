-- What the tables of a Joined answer on gaps, and on what is at or below a name.
use Rattle.std.proofs.Common.{◌≡◌, ℕ, zero, suc, ◌+◌, ◌<◌, List, [], ◌∷◌, ◌++◌, length, take, cond, get_or, refl, sym, ap, subst, ◌∙◌, inl, inr, arith}
use Rattle.std.specs.Prelude.{Bool, true, false, ◌||◌, ◌==◌, Option, Some, None, is_none, is_some, not, All, IfSome, filter, slice_get, Contains, map}
use Rattle.std.specs.List.{list_any}
use Rattle.std.proofs.lemmas.Bool.{cases_lt}
use Rattle.std.proofs.lemmas.List.{length-map, get_or-map, get_or_past, map-append, take_more, append-nil}
use Rattle.std.proofs.lemmas.Option.{slice_get_within, get_or_from_slice_get}
use Rattle.std.proofs.lemmas.List.Elements.{filter-append, All-append}
use Rattle.std.specs.Cmp.Lexicographic.{bytes_decides}
use Rattle.fcg_partial.specs.Parts.{PartShown}
use Rattle.fcg_analysis.specs.NamesAndFlags.{same}
use Rattle.fcg_analysis.specs.Declarations.{Placed, object_name}
use Rattle.fcg_analysis.specs.Types.{object, superclass, has_gap, is_below}
use Rattle.fcg_analysis.proofs.NameLaws.{below_object}
use Rattle.fcg_analysis.proofs.WinnerLaws.{known_distinct}
use Rattle.fcg_analysis.proofs.General.Places.{some_at}
use Rattle.fcg_join.specs.declared.id.TypeId.{TypeId}
use Rattle.fcg_join.specs.declared.tables.TypeTables.{TypeTables}
use Rattle.fcg_join.specs.declared.part_names.NamePlace.{NamePlace}
use Rattle.fcg_join.specs.Names.{text_at}
use Rattle.fcg_join.specs.Parts.{placed, types_of}
use Rattle.fcg_join.specs.SetNames.{set_names}
use Rattle.fcg_join.specs.Internal.PartNames.{name_there}
use Rattle.fcg_join.specs.TypeLinks.{HasTypeAt}
use Rattle.fcg_join.specs.Internal.TypeNumbers.{class_numbered}
use Rattle.fcg_join.specs.Joined.{IsTypeNumber}
use Rattle.fcg_join.specs.Internal.Tables.{IsJoined}
use Rattle.std.specs.List.{range_with_len}
use Rattle.std.proofs.lemmas.List.FromFn.{length-range_with_len, get_or-range_with_len}
use Rattle.fcg_order.specs.Links.{row}
use Rattle.fcg_join.proofs.PlacedTypes.{has_interval}
use Rattle.fcg_join.proofs.BelowLists.{object_listed, unmentioned_listed}
use Rattle.fcg_join.specs.Internal.Mentions.{row_of, AreSorted}
use Rattle.fcg_join.specs.Internal.Below.{is_under, interval, HasInterval, IsNameNumber, AreBelow}
use Rattle.fcg_join.proofs.Places.{has_in}
use Rattle.fcg_join.proofs.JoinLaws.{many_names}
use Rattle.fcg_join.proofs.TableAnswers.{superclasses_many, superclass_there}
use Rattle.fcg_join.proofs.OwnMentions.{known_are_acyclic, names_are_had}
use Rattle.fcg_join.proofs.MentionRows.{below_unmentioned}
use Rattle.fcg_join.proofs.BelowNumbers.{same_back, class_has_interval, below_class_number, listed_class_number, listed_row_number, below_row_number}

pub below_object_name : (types : List Placed) (t : Placed) (n : List ℕ) → same object_name n ≡ true → true ≡ is_below types t n
below_object_name types t n e = sym (below_object types t) ∙ ap (is_below types t) ((bytes_decides object_name n).0 e)

pub none_is : (o : Option ℕ) (b : Bool) → is_some o ≡ not b → is_none o ≡ b
none_is None true e = refl
none_is None false e = absurd cc
none_is (Some y) true e = absurd cc
none_is (Some y) false e = refl

-- ---- numbers of names

pub is_name_number : (names : List (List ℕ)) (n : List ℕ) (found : List (List ℕ)) → found ≡ names → (o : Option ℕ) → IfSome o (λ k. slice_get found k ≡ Some n) → (o ≡ None → Contains found n → ⊥) → IsNameNumber names n o
is_name_number names n found e None h g = subst (λ (ns : List (List ℕ)). Contains ns n → ⊥) e (g refl)
is_name_number names n found e (Some k) h g = subst (λ (ns : List (List ℕ)). slice_get ns k ≡ Some n) e h

pub number_below : (names : List (List ℕ)) (n : List ℕ) (o : Option ℕ) → IsNameNumber names n o → IfSome o (λ k. k < length names)
number_below names n None h = tt
number_below names n (Some k) h = slice_get_within names k n h

-- ---- lists of numbers

pub ids_within : (count : ℕ) (ids : List TypeId) (numbers : List ℕ) → map (λ id. id.0) ids ≡ numbers → All (λ n. n < count) numbers → All (λ (id : TypeId). id.0 < count) ids
ids_within count ids numbers e h k d l =
    let m : length numbers ≡ length ids = sym (ap (λ ns. length ns) e) ∙ length-map ids (λ id. id.0) in
    let q : get_or numbers k 0 ≡ (get_or ids k d).0 = sym (ap (λ ns. get_or ns k 0) e) ∙ get_or-map (λ id. id.0) ids k d 0 l in
    let a = h k 0 (omega arith) in
    omega arith

module _ (parts : List PartShown) (t : TypeTables) (j : IsJoined parts t) where
  abbrev N : List (List ℕ)
  N = set_names parts

  -- ---- names
  pub places_many : length t.names.places.items ≡ length N
  places_many = sym (many_names parts t.names j.names)

  pub name_is : (k : ℕ) (d : NamePlace) → k < length t.names.places.items → name_there parts (get_or t.names.places.items k d) ≡ text_at N k
  name_is k d l = sym (get_or-map (name_there parts) t.names.places.items k d [] l) ∙ ap (λ ns. get_or ns k []) j.names.names_are

  -- ---- gaps
  pub gap_there : (y : ℕ) (x : Placed) → HasTypeAt (types_of parts) y x → (is_none t.object || get_or t.inherited.gaps.items y false) ≡ has_gap (types_of parts) x
  unfolding has_gap
  gap_there y x h =
      ap (λ b. b || get_or t.inherited.gaps.items y false) (at t.object (object (types_of parts)) j.object')
      ∙ ap (λ b. is_none (object (types_of parts)) || b) (j.inherited'.gaps'.each y x h)
    where
      at : (o : Option ℕ) (r : Option Placed) → IsTypeNumber (types_of parts) o r → is_none o ≡ is_none r
      at None None k = refl
      at None (Some u) k = absurd k
      at (Some z) None k = absurd k
      at (Some z) (Some u) k = refl

  -- ---- at or below a name
  module _ (y : ℕ) (x : Placed) (h : HasTypeAt (types_of parts) y x) where
    module _ (n : ℕ) (small : n < length N) (other : same object_name (text_at N n) ≡ false) where
      pub below_class_there : (z : ℕ) → class_numbered t.heads.items t.linked.by_name.items n ≡ Some z → is_under t.inherited.places z y ≡ is_below (types_of parts) x (text_at N n)
      below_class_there z e =
          sym (below_class_number parts t.heads.items (types_of parts) t.linked.by_name.items j.heads (known_distinct (placed parts)) j.by_name n small (same_back object_name (text_at N n) other)
          (known_are_acyclic (placed parts)) t.inherited.places j.inherited'.places' z e y x h)

      pub below_row_there : class_numbered t.heads.items t.linked.by_name.items n ≡ None → list_any (λ k. k == n) (row_of t.inherited.mentions y) ≡ is_below (types_of parts) x (text_at N n)
      below_row_there e =
          sym (below_row_number parts t.heads.items (types_of parts) t.linked.by_name.items j.heads (known_distinct (placed parts)) j.by_name n small (same_back object_name (text_at N n) other)
          e x (row_of t.inherited.mentions y) (j.inherited'.mentions'.upward y x h))

    pub below_absent : (n : List ℕ) → (Contains N n → ⊥) → same object_name n ≡ false → false ≡ is_below (types_of parts) x n
    below_absent n a other =
        sym (below_unmentioned N (types_of parts) (names_are_had parts t.heads.items (types_of parts) t.linked.by_name.items j.heads (known_distinct (placed parts)) j.by_name) n a x (has_in (types_of parts) y x h)
        ∙ same_back object_name n other)

  pub entered_there : (x : ℕ) → x < length (types_of parts) → x < length t.inherited.places.enter.items
  entered_there x l = (has_interval (types_of parts) t.inherited.places j.inherited'.places' x l).entered

  -- ---- what is at or below a name
  module _ (n : ℕ) (small : n < length N) (other : same object_name (text_at N n) ≡ false) where
    pub interval_there : (z : ℕ) → class_numbered t.heads.items t.linked.by_name.items n ≡ Some z → HasInterval t.inherited.places z
    interval_there z e =
        class_has_interval parts t.heads.items (types_of parts) t.linked.by_name.items j.heads (known_distinct (placed parts)) j.by_name n small (same_back object_name (text_at N n) other)
        (known_are_acyclic (placed parts)) t.inherited.places j.inherited'.places' z e

    pub listed_class_there : (z : ℕ) → class_numbered t.heads.items t.linked.by_name.items n ≡ Some z → (numbers : List ℕ) → AreSorted (interval t.inherited.places z) numbers → AreBelow (types_of parts) (text_at N n) numbers
    listed_class_there z e =
        listed_class_number parts t.heads.items (types_of parts) t.linked.by_name.items j.heads (known_distinct (placed parts)) j.by_name n small (same_back object_name (text_at N n) other)
        (known_are_acyclic (placed parts)) t.inherited.places j.inherited'.places' z e

    pub listed_row_there : class_numbered t.heads.items t.linked.by_name.items n ≡ None → AreBelow (types_of parts) (text_at N n) (row t.inherited.mentioned n)
    listed_row_there e =
        listed_row_number parts t.heads.items (types_of parts) t.linked.by_name.items j.heads (known_distinct (placed parts)) j.by_name n small (same_back object_name (text_at N n) other)
        e t.inherited.mentions t.inherited.mentioned j.inherited'.mentions'.long j.inherited'.mentions'.upward j.inherited'.mentioned'

pub object_below : (types : List Placed) (n : List ℕ) → same object_name n ≡ true → (numbers : List ℕ) → numbers ≡ range_with_len 0 (length types) → AreBelow types n numbers
object_below types n e numbers q = subst (λ (m : List ℕ). AreBelow types m numbers) ((bytes_decides object_name n).0 e) (record {
  listed = ap (map (slice_get types)) q ∙ object_listed types;
  range = λ k d l. (let m = length-range_with_len 0 (length types) in
      let w = ap (λ xs. length xs) q in
      let v : get_or numbers k d ≡ 0 + k = ap (λ xs. get_or xs k d) q ∙ get_or-range_with_len 0 (length types) k d (omega (arith, l, m, w)) in
      omega (arith, l, m, w, v));
})

pub none_below : (parts : List PartShown) (t : TypeTables) → IsJoined parts t → (n : List ℕ) → (Contains (set_names parts) n → ⊥) → same object_name n ≡ false → (numbers : List ℕ) → numbers ≡ [] → AreBelow (types_of parts) n numbers
none_below parts t j n a other numbers q = record {
  listed = ap (map (slice_get (types_of parts))) q
      ∙ ap (map Some) (sym (unmentioned_listed (set_names parts) (types_of parts) (names_are_had parts t.heads.items (types_of parts) t.linked.by_name.items j.heads (known_distinct (placed parts)) j.by_name) n a (same_back object_name n other)));
  range = λ k d l. absurd (let w = ap (λ xs. length xs) q in omega (arith, l, w));
}
