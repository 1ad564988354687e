-- Types of parts by numbers.
use Rattle.std.proofs.Common.{◌≡◌, ℕ, zero, suc, ◌+◌, ◌<◌, ◌≤◌, List, [], ◌∷◌, ◌++◌, length, get_or, set, drop, refl, sym, ap, subst, ◌∙◌, inl, inr, cond, arith}
use Rattle.std.specs.Prelude.{map, flat_map, Bool, true, false, ◌||◌, All, Option, Some, None, IfSome, option_map, slice_get}
use Rattle.std.specs.List.{AllZip}
use Rattle.std.proofs.lemmas.Option.{get_or_from_slice_get, slice_get-get_or, slice_get-map, same_Some}
use Rattle.std.proofs.lemmas.Bool.{cases_eq}
use Rattle.std.proofs.lemmas.List.{append_assoc, drop_more, length-set, get_or-set_same, get_or-set_other}
use Rattle.fcg_grammar.specs.Table.{place}
use Rattle.fcg_grammar.proofs.Among.{Among, among_flat, among_left, among_right, among_at}
use Rattle.fcg_grammar.proofs.TableLaws.{table_among, at_place}
use Rattle.fcg_views.specs.declared.view.View.{View}
use Rattle.fcg_partial.specs.Parts.{PartShown}
use Rattle.fcg_views.specs.NamesIn.{names_of_super}
use Rattle.fcg_partial.specs.Views.{names_of_view}
use Rattle.fcg_analysis.specs.Declarations.{Placed, is_object, is_interface, interface_names}
use Rattle.fcg_analysis.specs.Types.{winners}
use Rattle.fcg_analysis.proofs.General.Members.{IsIn}
use Rattle.fcg_join.specs.declared.heads.TypeHead.{TypeHead}
use Rattle.fcg_join.specs.Parts.{placed_view, placed_of, placed}
use Rattle.fcg_join.specs.SetNames.{part_names, all_names, set_names}
use Rattle.fcg_join.specs.Internal.PartNames.{names_by_number}
use Rattle.fcg_join.specs.Internal.PartRows.{HasView}
use Rattle.fcg_join.specs.Internal.TypeHeads.{head_of, heads_in, heads_of, IsHead, used_superclass}
use Rattle.fcg_join.specs.Internal.TypeNumbers.{AreHeads, FindsFirst, FindsHeads, head_at}
use Rattle.fcg_join.specs.Winners.{name_number, first_marks_after, marked}
use Rattle.fcg_join.specs.Internal.Collected.{collected}
use Rattle.fcg_join.proofs.CollectedLaws.{From, later, here, from_start}
use Rattle.fcg_join.proofs.GraphRows.{named, among_item}
use Rattle.fcg_join.proofs.Firsts.{first_winners}
use Rattle.fcg_join.proofs.ZipLaws.{zip_left, zip_both, zip_map, zip_marked}

pub all_of_map : {X : Type 0} (f : X → ℕ) (count : ℕ) (xs : List X) → All (λ x. f x < count) xs → All (λ n. n < count) (map f xs)
all_of_map f count [] h = λ k d l. absurd (omega arith)
all_of_map {X} f count (x ∷ xs) h = at (all_of_map f count xs (λ k d l. h (suc k) d (omega arith)))
  where
    at : All (λ n. n < count) (map f xs) → (k d : ℕ) → k < length (map f (x ∷ xs)) → get_or (map f (x ∷ xs)) k d < count
    at r zero d l = h 0 x (omega arith)
    at r (suc k) d l = r k d (omega arith)

module _ (parts : List PartShown) where
  abbrev pub N : List (List ℕ)
  N = set_names parts

  -- ---- the types of all parts
  heads_of_part : (i : ℕ) (p : PartShown) → slice_get parts i ≡ Some p → (k : ℕ) (vs : List View) → From p.views k vs
      → AllZip (IsHead parts N) (collected (λ k v. head_of N i k (placed_view p v) ∷ []) k vs) (map (placed_view p) vs)
  heads_of_part i p e k [] h = tt
  heads_of_part i p e k (v ∷ vs) h = (
    record { part = p; view = v; part_is = e; view_is = here p.views k v vs h; type_is = refl; head_is = refl },
    heads_of_part i p e (k + 1) vs (later p.views k v vs h),
  )

  heads_from : (i : ℕ) (ps : List PartShown) → From parts i ps → AllZip (IsHead parts N) (collected (heads_in N) i ps) (flat_map placed_of ps)
  heads_from i [] h = tt
  heads_from i (p ∷ ps) h =
      zip_both (IsHead parts N) (heads_in N i p) (collected (heads_in N) (i + 1) ps) (placed_of p) (flat_map placed_of ps)
      (heads_of_part i p (here parts i p ps h) 0 p.views (from_start p.views)) (heads_from (i + 1) ps (later parts i p ps h))

  pub all_heads : (heads : List TypeHead) → heads ≡ heads_of N parts → AreHeads parts heads (placed parts)
  unfolding placed
  all_heads heads e = subst (λ (hs : List TypeHead). AllZip (IsHead parts N) hs (flat_map placed_of parts)) (sym e) (heads_from 0 parts (from_start parts))

  -- ---- their names
  pub named_in_set : (i k : ℕ) (p : PartShown) (v : View) → slice_get parts i ≡ Some p → HasView p k v → (x : List ℕ) → Among x (names_of_view v) → Among x N
  unfolding set_names all_names
  named_in_set i k p v e h x a = table_among (flat_map part_names parts) x (among_flat part_names p x parts (among_item parts i p e) (named p k v h x a))

  pub head_named : (h : TypeHead) (t : Placed) → IsHead parts N h t → Among t.view.name N
  head_named h t is = subst (λ (u : Placed). Among u.view.name N) is.type_is (named_in_set h.part h.place is.part is.view is.part_is is.view_is is.view.name (inl refl))

  pub head_name : (h : TypeHead) (t : Placed) → IsHead parts N h t → h.name ≡ place N t.view.name
  head_name h t is = ap (λ (g : TypeHead). g.name) is.head_is

  -- the names that it uses
  pub used_is : (h : TypeHead) (t : Placed) → IsHead parts N h t → h.superclass ≡ used_superclass N t
  used_is h t is = ap (λ (g : TypeHead). g.superclass) is.head_is

  pub super_named : (h : TypeHead) (t : Placed) → IsHead parts N h t → (x : List ℕ) → Among x (names_of_super t.view.superclass) → Among x N
  super_named h t is = subst (λ (u : Placed). (x : List ℕ) → Among x (names_of_super u.view.superclass) → Among x N) is.type_is
      (λ x a. named_in_set h.part h.place is.part is.view is.part_is is.view_is x (inr (among_left x (names_of_super is.view.superclass) _ a)))

  pub interfaces_named : (h : TypeHead) (t : Placed) → IsHead parts N h t → (x : List ℕ) → Among x t.view.interfaces → Among x N
  interfaces_named h t is = subst (λ (u : Placed). (x : List ℕ) → Among x u.view.interfaces → Among x N) is.type_is
      (λ x a. named_in_set h.part h.place is.part is.view is.part_is is.view_is x (inr (among_right x (names_of_super is.view.superclass) _ (among_left x is.view.interfaces _ a))))

  super_below : (b : Bool) (s : Option (List ℕ)) → ((x : List ℕ) → Among x (names_of_super s) → Among x N) → IfSome (cond b None (option_map (place N) s)) (λ n. n < length N)
  super_below true s h = tt
  super_below false None h = tt
  super_below false (Some x) h = (at_place N x [] (h x (inl refl))).0

  pub used_below : (h : TypeHead) (t : Placed) → IsHead parts N h t → IfSome h.superclass (λ n. n < length N)
  used_below h t is = subst (λ (o : Option ℕ). IfSome o (λ n. n < length N)) (sym (used_is h t is)) (super_below (is_object t || is_interface t) t.view.superclass (super_named h t is))

  pub no_interfaces : (h : TypeHead) (t : Placed) → IsHead parts N h t → h.is_object ≡ true → interface_names t ≡ []
  no_interfaces h t is e = ap (λ b. cond b [] t.view.interfaces) (sym (ap (λ (g : TypeHead). g.is_object) is.head_is) ∙ e)

  pub own_interfaces : (h : TypeHead) (t : Placed) → IsHead parts N h t → h.is_object ≡ false → interface_names t ≡ t.view.interfaces
  own_interfaces h t is e = ap (λ b. cond b [] t.view.interfaces) (sym (ap (λ (g : TypeHead). g.is_object) is.head_is) ∙ e)

  -- ---- the numbers of a part's names
  pub row_there : (rows : List (List ℕ)) (i : ℕ) (p : PartShown) → rows ≡ names_by_number N parts → slice_get parts i ≡ Some p → get_or rows i [] ≡ map (place N) (part_names p)
  row_there rows i p e h =
      get_or_from_slice_get rows i (map (place N) (part_names p)) []
      (ap (λ rs. slice_get rs i) e ∙ slice_get-map (λ q. map (place N) (part_names q)) parts i ∙ ap (option_map (λ q. map (place N) (part_names q))) h)

  pub row_below : (i : ℕ) (p : PartShown) → slice_get parts i ≡ Some p → All (λ n. n < length N) (map (place N) (part_names p))
  unfolding set_names all_names
  row_below i p h = all_of_map (place N) (length N) (part_names p) (λ k d l.
      (at_place N (get_or (part_names p) k d) [] (table_among (flat_map part_names parts) (get_or (part_names p) k d) (among_flat part_names p (get_or (part_names p) k d) parts (among_item parts i p h) (among_at (part_names p) k d l)))).0)

  module _ (heads : List TypeHead) (types : List Placed) (are : AreHeads parts heads types) where
    pub names_are : map (λ h. h.name) heads ≡ map (name_number N) types
    names_are = zip_map (IsHead parts N) (λ h. h.name) (name_number N) head_name heads types are

    pub names_below : All (λ h. h.name < length N) heads
    names_below = λ k d l. (
        let r = zip_left (IsHead parts N) heads types are k (get_or heads k d) (slice_get-get_or heads k d l) in
        subst (λ (n : ℕ). n < length N) (sym (head_name (get_or heads k d) r.0 r.2)) (at_place N r.0.view.name [] (head_named (get_or heads k d) r.0 r.2)).0)

    pub all_used_below : All (λ h. IfSome h.superclass (λ n. n < length N)) heads
    all_used_below = λ k d l. (
        let r = zip_left (IsHead parts N) heads types are k (get_or heads k d) (slice_get-get_or heads k d l) in
        used_below (get_or heads k d) r.0 r.2)

    pub all_named : (t : Placed) → IsIn t types → Among t.view.name N
    all_named t i = at heads types are i
      where
        at : (hs : List TypeHead) (ts : List Placed) → AllZip (IsHead parts N) hs ts → IsIn t ts → Among t.view.name N
        at [] [] all i = absurd i
        at [] (u ∷ ts) all i = absurd all
        at (h ∷ hs) [] all i = absurd i
        at (h ∷ hs) (u ∷ ts) all (inl e) = subst (λ (w : Placed). Among w.view.name N) e (head_named h u all.0)
        at (h ∷ hs) (u ∷ ts) all (inr i) = at hs ts all.1 i

  pub winners_are : (heads kept : List TypeHead) (marks : List Bool) → AreHeads parts heads (placed parts) → marks ≡ first_marks_after [] (map (λ h. h.name) heads)
      → kept ≡ marked marks heads → AreHeads parts kept (winners (placed parts))
  winners_are heads kept marks are e f =
      let views = placed parts in
      let w : winners views ≡ marked marks views = first_winners N views (all_named heads views are) ∙ sym (ap (λ ms. marked ms views) (e ∙ ap (first_marks_after []) (names_are heads views are))) in
      subst (λ (hs : List TypeHead). AllZip (IsHead parts N) hs (winners views)) (sym f)
      (subst (λ (ts : List Placed). AllZip (IsHead parts N) (marked marks heads) ts) (sym w) (zip_marked (IsHead parts N) marks heads views are))

-- ---- the elements with a mark
pub kept_next : {X : Type 0} (ms : List Bool) (xs : List X) (i : ℕ) (d : X) (old new all : List X) → i < length xs → length ms ≡ length xs
    → new ≡ old ++ cond (get_or ms i false) (get_or xs i d ∷ []) [] → old ++ marked (drop i ms) (drop i xs) ≡ all → new ++ marked (drop (i + 1) ms) (drop (i + 1) xs) ≡ all
kept_next {X} ms xs i d old new all l m e h =
    ap (λ ys. ys ++ marked (drop (i + 1) ms) (drop (i + 1) xs)) e
    ∙ append_assoc old (cond (get_or ms i false) (get_or xs i d ∷ []) []) (marked (drop (i + 1) ms) (drop (i + 1) xs))
    ∙ ap (λ ys. old ++ ys) (sym (ap (λ bs. marked bs (drop i xs)) (drop_more ms i false (omega arith)) ∙ ap (marked (get_or ms i false ∷ drop (i + 1) ms)) (drop_more xs i d l)
    ∙ at (get_or ms i false) (get_or xs i d) (marked (drop (i + 1) ms) (drop (i + 1) xs))))
    ∙ h
  where
    at : (b : Bool) (x : X) (ys : List X) → cond b (x ∷ ys) ys ≡ cond b (x ∷ []) [] ++ ys
    at true x ys = refl
    at false x ys = refl

-- ---- types by the numbers of their names
pub finds_next : (heads : List TypeHead) (by_name : List (Option ℕ)) (count y : ℕ) → (head_at heads y).name < count → FindsFirst heads by_name count y
    → FindsFirst heads (set by_name (head_at heads y).name (Some y)) count (y + 1)
finds_next heads by_name count y small f = record {
  long = length-set by_name n (Some y) ∙ f.long;
  found = λ k z e. (elim (cases_eq k n) [
    | inl q ↦ (let same : Some y ≡ Some z = sym (ap (λ j. get_or (set by_name n (Some y)) j None) q ∙ at_n) ∙ e in
        let w : y ≡ z = same_Some y z same in
        subst (λ (a : ℕ). (a < y + 1) × ((head_at heads a).name ≡ k)) w (omega arith, sym q))
    | inr ne ↦ (let r = f.found k z (sym (get_or-set_other by_name n k (Some y) None ne) ∙ e) in ((let l = r.0 in omega arith), r.1))
  ]);
  there = λ z l. (elim (cases_eq (head_at heads z).name n) [
    | inl q ↦ (y, ap (λ j. get_or (set by_name n (Some y)) j None) q ∙ at_n)
    | inr ne ↦ (let r = f.there z (below z l ne) in (r.0, get_or-set_other by_name n (head_at heads z).name (Some y) None ne ∙ r.1))
  ]);
}
  where
    n : ℕ
    n = (head_at heads y).name

    at_n : get_or (set by_name n (Some y)) n None ≡ Some y
    at_n = get_or-set_same by_name n (Some y) None (let m = f.long in omega arith)

    below : (z : ℕ) → z < y + 1 → ((head_at heads z).name ≡ n → ⊥) → z < y
    below z l ne = elim (cases_eq z y) [
      | inl q ↦ absurd (ne (ap (λ j. (head_at heads j).name) q))
      | inr other ↦ omega arith
    ]

pub finds_all : (heads : List TypeHead) (by_name : List (Option ℕ)) (count y : ℕ) → length heads ≤ y → y ≤ length heads → FindsFirst heads by_name count y → FindsHeads heads by_name count
finds_all heads by_name count y a b f = (let e : y ≡ length heads = omega arith in subst (λ (n : ℕ). FindsFirst heads by_name count n) e f)

pub marks_long : (earlier ns : List ℕ) → length (first_marks_after earlier ns) ≡ length ns
marks_long earlier [] = refl
marks_long earlier (n ∷ ns) = ap suc (marks_long (earlier ++ n ∷ []) ns)
