-- What is at or below a name, from rows of mentions.
use Rattle.std.proofs.Common.{◌≡◌, ℕ, ◌<◌, List, [], ◌∷◌, length, eqb, ltb, get_or, refl, sym, ap, subst, ◌∙◌, inl, inr}
use Rattle.std.specs.Prelude.{Bool, true, false, cond, not, ◌&&◌, ◌||◌, ◌↔◌, Option, Some, None, filter, map, Contains, is_none}
use Rattle.std.specs.List.{list_any, IsDistinct}
use Rattle.std.specs.Cmp.{both_ways}
use Rattle.std.specs.Cmp.Lexicographic.{bytes_decides}
use Rattle.std.proofs.Math.Bool.{or-false}
use Rattle.std.proofs.lemmas.Bool.{or_cases, or_left, or_right, and_from, lt-ltb, false_from_ne_true, not-true}
use Rattle.std.proofs.lemmas.Bool.Decides.{Decides-eqb, Decides-ltb}
use Rattle.fcg_grammar.specs.Table.{table, place}
use Rattle.fcg_grammar.proofs.Among.{among_from_contains}
use Rattle.fcg_grammar.proofs.TableLaws.{at_place, place_at, table_is}
use Rattle.fcg_analysis.specs.NamesAndFlags.{same, contains}
use Rattle.fcg_analysis.specs.Declarations.{Placed, object_name, is_named, is_type, is_class, is_interface, names_of}
use Rattle.fcg_analysis.specs.Types.{links, above, is_above, type_named, is_below}
use Rattle.fcg_analysis.specs.Laws.Statements.{IsAcyclic}
use Rattle.fcg_join.specs.Names.{text_at}
use Rattle.fcg_analysis.specs.Nodes.{Node}
use Rattle.fcg_join.specs.NodeTables.{HasNodeAt, owners}
use Rattle.fcg_join.specs.TypeLinks.{HasTypeAt}
use Rattle.fcg_join.specs.TypeTables.{mentions, mentions_at, is_class_name, own_mentions, HasNames, AreTypeNames, IsUpwardRow, AreUpwardRows}
use Rattle.fcg_analysis.proofs.General.Members.{IsIn, IsIn-from_Contains, Contains-from_IsIn, and_first, and_second, any_in, in_any, find_none, filter_in, in_filter, map_in, in_map, append_left, append_right, in_append}
use Rattle.fcg_analysis.proofs.General.Walking.{walk_from_led, walk_end}
use Rattle.fcg_analysis.proofs.General.Places.{same_at}
use Rattle.fcg_analysis.proofs.NameLaws.{below_put, find_type, not_circular}
use Rattle.fcg_analysis.proofs.OverrideLaws.{one_of_name}
use Rattle.fcg_analysis.proofs.WinnerLaws.{is_type_self, is_type_back}
use Rattle.fcg_join.proofs.NodeNumbers.{owner_is}
use Rattle.fcg_join.proofs.Places.{has_in, one_place}

-- ---- a row has a number

pub any_number : (n : ℕ) (numbers : List ℕ) → (list_any (λ k. eqb k n) numbers ≡ true) ↔ Contains numbers n
any_number n numbers = (
  λ e. (let r = in_any (λ k. eqb k n) numbers e in subst (Contains numbers) ((Decides-eqb r.0 n).0 r.2) (Contains-from_IsIn numbers r.0 r.1)),
  λ c. any_in (λ k. eqb k n) numbers n (IsIn-from_Contains numbers n c) ((Decides-eqb n n).1 refl),
)

-- the table of texts has the names
pub has_names : (texts : List (List ℕ)) (types : List Placed) → ((t : Placed) → Contains types t → Contains texts t.view.name)
    → ((t : Placed) (n : List ℕ) → Contains types t → Contains (names_of t) n → Contains texts n) → HasNames (table texts) types
has_names texts types h i =
    let is = table_is texts in
    record { of_type = λ t c. is.each t.view.name (h t c); used = λ t n c d. is.each n (i t n c d); rise = is.rises }

module _ (names : List (List ℕ)) (types : List Placed) where
  -- what is mentioned by a number, and by its name
  by_name : (n : ℕ) → n < length names → is_class_name types (text_at names n) ≡ false → (t : Placed) → mentions_at names types n t ≡ mentions types (text_at names n) t
  by_name n l e t = λ i. lt-ltb n (length names) l i && (not (e i) && mentions types (text_at names n) t)

  module _ (d : Placed) (numbers : List ℕ) (up : IsUpwardRow types (mentions_at names types) d numbers) (n : ℕ) (small : n < length names) (other : is_class_name types (text_at names n) ≡ false) where
    pub row_says : list_any (λ k. eqb k n) numbers ≡ list_any (mentions types (text_at names n)) (d ∷ above types d)
    row_says =
        both_ways (list_any (λ k. eqb k n) numbers) (mentions_at names types n d || list_any (mentions_at names types n) (above types d))
        (λ e. (up n).0 ((any_number n numbers).0 e))
        (λ e. (any_number n numbers).1 ((up n).1 e))
        ∙ (λ i. list_any (λ t. by_name n small other t i) (d ∷ above types d))

    pub below_by_row : is_below types d (text_at names n) ≡ (same (text_at names n) object_name || list_any (λ k. eqb k n) numbers)
    below_by_row = below_put types d (text_at names n) ∙ ap (λ b. same (text_at names n) object_name || b) (sym row_says)

  -- ---- a name that no type has or uses

  module _ (h : HasNames names types) where
    unmentioned : (n : List ℕ) → (Contains names n → ⊥) → (t : Placed) → Contains types t → mentions types n t ≡ false
    unmentioned n none t c = false_from_ne_true _ (λ e.
        elim (or_cases (is_named n t) (is_none (type_named types n) && contains n (names_of t)) e) [
          | inl k ↦ none (subst (Contains names) (sym ((bytes_decides n t.view.name).0 k)) (h.of_type t c))
          | inr k ↦ (let u = in_any (same n) (names_of t) (and_second (is_none (type_named types n)) (contains n (names_of t)) k) in
              none (subst (Contains names) (sym ((bytes_decides n u.0).0 u.2)) (h.used t u.0 c (Contains-from_IsIn _ u.0 u.1))))
        ])

    pub below_unmentioned : (n : List ℕ) → (Contains names n → ⊥) → (d : Placed) → Contains types d → is_below types d n ≡ same n object_name
    unfolding above
    below_unmentioned n none d c = below_put types d n ∙ ap (λ b. same n object_name || b) off ∙ or-false (same n object_name)
      where
        known : (u : Placed) → IsIn u (d ∷ above types d) → Contains types u
        known u (inl e) = subst (Contains types) e c
        known u (inr i) = walk_end (walk_from_led links types d u (Contains-from_IsIn _ u i))

        off : list_any (mentions types n) (d ∷ above types d) ≡ false
        off = false_from_ne_true _ (λ e. (let u = in_any (mentions types n) (d ∷ above types d) e in let k = unmentioned n none u.0 (known u.0 u.1) in let m = u.2 in cc))

    -- ---- what a type mentions itself

    name_at : (n : List ℕ) → Contains names n → (text_at names (place names n) ≡ n) × (place names n < length names)
    name_at n c = let a = at_place names n [] (among_from_contains n names c) in (a.1, a.0)

    number_of : (n : List ℕ) (k : ℕ) → Contains names n → k < length names → n ≡ text_at names k → place names n ≡ k
    number_of n k c l e = ap (place names) e ∙ place_at names k [] h.rise l

    module _ (distinct : IsDistinct is_type types) (t : Placed) (there : Contains types t) where
      -- a name of an interface, or of no type, isn't that of a class
      interface_name : is_interface t ≡ true → is_class_name types t.view.name ≡ false
      interface_name e = false_from_ne_true _ (λ k.
          let u = in_any (λ u. is_named t.view.name u && is_class u) types k in
          let same_type : t ≡ u.0 = one_of_name types t u.0 distinct (IsIn-from_Contains types t there) u.1 (and_first (is_type t u.0) (is_class u.0) u.2) in
          let on : is_class t ≡ true = ap is_class same_type ∙ and_second (is_type t u.0) (is_class u.0) u.2 in
          let off : is_class t ≡ false = ap not e in
          cc)

      absent_name : (n : List ℕ) → is_none (type_named types n) ≡ true → is_class_name types n ≡ false
      absent_name n e = false_from_ne_true _ (λ k.
          let u = in_any (λ u. is_named n u && is_class u) types k in
          at (type_named types n) refl e u.0 u.1 (and_first (is_named n u.0) (is_class u.0) u.2))
        where
          at : (o : Option Placed) → type_named types n ≡ o → is_none o ≡ true → (u : Placed) → IsIn u types → is_named n u ≡ true → ⊥
          at None e f u i k = find_none (is_named n) types u e i k
          at (Some v) e f u i k = cc

      has_interface : (n : ℕ) → IsIn n (cond (is_interface t) (place names t.view.name ∷ []) []) → (is_interface t ≡ true) × (place names t.view.name ≡ n)
      has_interface n i = at (is_interface t) i
        where
          at : (b : Bool) → IsIn n (cond b (place names t.view.name ∷ []) []) → (b ≡ true) × (place names t.view.name ≡ n)
          at true (inl e) = (refl, e)
          at true (inr k) = absurd k
          at false k = absurd k

      pub own_is_mentioned : (n : ℕ) → Contains (own_mentions names types t) n ↔ (mentions_at names types n t ≡ true)
      own_is_mentioned n = (forth, back)
        where
          says : (m : List ℕ) → Contains names m → place names m ≡ n → is_class_name types m ≡ false → mentions types m t ≡ true → mentions_at names types n t ≡ true
          says m c e off on =
              let a = name_at m c in
              let text : text_at names n ≡ m = ap (text_at names) (sym e) ∙ a.0 in
              let small : n < length names = subst (λ k. k < length names) e a.1 in
              by_name n small (ap (is_class_name types) text ∙ off) t ∙ ap (λ k. mentions types k t) text ∙ on

          forth : Contains (own_mentions names types t) n → mentions_at names types n t ≡ true
          forth c =
              elim (in_append (cond (is_interface t) (place names t.view.name ∷ []) []) (map (place names) (filter (λ m. is_none (type_named types m)) (names_of t))) n (IsIn-from_Contains _ n c)) [
                | inl i ↦ (let r = has_interface n i in
                    says t.view.name (h.of_type t there) r.1 (interface_name r.0) (or_left (is_type t t) (is_none (type_named types t.view.name) && contains t.view.name (names_of t)) (is_type_self t)))
                | inr i ↦ (let m = in_map (place names) (filter (λ m. is_none (type_named types m)) (names_of t)) n i in
                    let f = in_filter (λ m. is_none (type_named types m)) (names_of t) m.0 m.1 in
                    says m.0 (h.used t m.0 there (Contains-from_IsIn _ m.0 f.0)) m.2 (absent_name m.0 f.1)
                    (or_right (is_named m.0 t) (is_none (type_named types m.0) && contains m.0 (names_of t))
                    (and_from (is_none (type_named types m.0)) (contains m.0 (names_of t)) f.1 (any_in (same m.0) (names_of t) m.0 f.0 ((bytes_decides m.0 m.0).1 refl)))))
              ]

          interface_of : is_class_name types (text_at names n) ≡ false → is_named (text_at names n) t ≡ true → is_interface t ≡ true
          interface_of off on = at (is_interface t) refl
            where
              at : (b : Bool) → is_interface t ≡ b → b ≡ true
              at true e = refl
              at false e = absurd (
                  let k : is_class_name types (text_at names n) ≡ true = any_in (λ u. is_named (text_at names n) u && is_class u) types t (IsIn-from_Contains types t there) (and_from (is_named (text_at names n) t) (is_class t) on (ap not e)) in
                  cc)

          back : mentions_at names types n t ≡ true → Contains (own_mentions names types t) n
          back e =
              let small : n < length names = (Decides-ltb n (length names)).0 (and_first (ltb n (length names)) (not (is_class_name types (text_at names n)) && mentions types (text_at names n) t) e) in
              let rest = and_second (ltb n (length names)) (not (is_class_name types (text_at names n)) && mentions types (text_at names n) t) e in
              let off : is_class_name types (text_at names n) ≡ false = not-true (is_class_name types (text_at names n)) (and_first (not (is_class_name types (text_at names n))) (mentions types (text_at names n) t) rest) in
              let on : mentions types (text_at names n) t ≡ true = and_second (not (is_class_name types (text_at names n))) (mentions types (text_at names n) t) rest in
              elim (or_cases (is_named (text_at names n) t) (is_none (type_named types (text_at names n)) && contains (text_at names n) (names_of t)) on) [
                | inl k ↦ (let i = interface_of off k in
                    let p : place names t.view.name ≡ n = number_of t.view.name n (h.of_type t there) small (sym ((bytes_decides (text_at names n) t.view.name).0 k)) in
                    Contains-from_IsIn _ n (append_left (cond (is_interface t) (place names t.view.name ∷ []) []) (map (place names) (filter (λ m. is_none (type_named types m)) (names_of t))) n
                    (subst (λ b. IsIn n (cond b (place names t.view.name ∷ []) [])) (sym i) (inl p))))
                | inr k ↦ (let m = in_any (same (text_at names n)) (names_of t) (and_second (is_none (type_named types (text_at names n))) (contains (text_at names n) (names_of t)) k) in
                    let s : text_at names n ≡ m.0 = (bytes_decides (text_at names n) m.0).0 m.2 in
                    let p : place names m.0 ≡ n = number_of m.0 n (h.used t m.0 there (Contains-from_IsIn _ m.0 m.1)) small (sym s) in
                    let f : is_none (type_named types m.0) ≡ true = ap (λ j. is_none (type_named types j)) (sym s) ∙ and_first (is_none (type_named types (text_at names n))) (contains (text_at names n) (names_of t)) k in
                    Contains-from_IsIn _ n (append_right (cond (is_interface t) (place names t.view.name ∷ []) []) (map (place names) (filter (λ m. is_none (type_named types m)) (names_of t))) n
                    (subst (λ j. IsIn j (map (place names) (filter (λ m. is_none (type_named types m)) (names_of t)))) p
                    (map_in (place names) (filter (λ m. is_none (type_named types m)) (names_of t)) m.0 (filter_in (λ m. is_none (type_named types m)) (names_of t) m.0 m.1 f)))))
              ]

-- ---- interfaces above

module _ (names : List (List ℕ)) (types : List Placed) (acyclic : IsAcyclic types) (distinct : IsDistinct is_type types) where
  pub interface_by_row : (t u : Placed) (n : ℕ) (numbers : List ℕ) → Contains types t → Contains types u → is_interface u ≡ true → n < length names → text_at names n ≡ u.view.name
      → IsUpwardRow types (mentions_at names types) t numbers → is_above types t u ≡ (not (is_type u t) && list_any (λ k. eqb k n) numbers)
  interface_by_row t u n numbers c d i l e up = at (is_type u t) refl ∙ ap (λ b. not (is_type u t) && b) (sym in_row)
    where
      other : is_class_name types (text_at names n) ≡ false
      other = ap (is_class_name types) e ∙ false_from_ne_true _ (λ k.
          let v = in_any (λ v. is_type u v && is_class v) types k in
          let same_type : u ≡ v.0 = one_of_name types u v.0 distinct (IsIn-from_Contains types u d) v.1 (and_first (is_type u v.0) (is_class v.0) v.2) in
          let on : is_class u ≡ true = ap is_class same_type ∙ and_second (is_type u v.0) (is_class v.0) v.2 in
          let off : is_class u ≡ false = ap not i in
          cc)

      named : (v : Placed) → mentions types u.view.name v ≡ is_type u v
      named v =
          ap (λ o. is_type u v || is_none o && contains u.view.name (names_of v)) (find_type types distinct u.view.name u (IsIn-from_Contains types u d) (is_type_self u))
          ∙ or-false (is_type u v)

      in_row : list_any (λ k. eqb k n) numbers ≡ (is_type u t || is_above types t u)
      in_row =
          row_says names types t numbers up n l other ∙ ap (λ m. list_any (mentions types m) (t ∷ above types t)) e
          ∙ (λ j. list_any (λ v. named v j) (t ∷ above types t))

      at : (b : Bool) → is_type u t ≡ b → is_above types t u ≡ (not b && (b || is_above types t u))
      at true q =
          let same_type : u ≡ t = one_of_name types u t distinct (IsIn-from_Contains types u d) (IsIn-from_Contains types t c) q in
          ap (is_above types t) same_type ∙ not_circular types distinct t c (acyclic t c)
      at false q = refl

-- types of one number are one
pub same_number : (types : List Placed) → IsDistinct is_type types → (x y : ℕ) (t u : Placed) → HasTypeAt types x t → HasTypeAt types y u → is_type t u ≡ eqb x y
same_number types d x y t u a b = both_ways (is_type t u) (eqb x y)
    (λ e. (let same_type : t ≡ u = one_of_name types t u d (IsIn-from_Contains types t (has_in types x t a)) (IsIn-from_Contains types u (has_in types y u b)) e in
    (Decides-eqb x y).1 (one_place types x y u d (subst (HasTypeAt types x) same_type a) b)))
    (λ e. (let n : x ≡ y = (Decides-eqb x y).0 e in
    let same_type : t ≡ u = same_at types y t u (subst (λ k. HasTypeAt types k t) n a) b in
    ap (is_type t) (sym same_type) ∙ is_type_self t))

pub interface_by_numbers : (names : List (List ℕ)) (types : List Placed) → IsAcyclic types → IsDistinct is_type types → (rows : ℕ → List ℕ) (name_at : ℕ → ℕ)
    → AreUpwardRows types (mentions_at names types) rows → AreTypeNames names types name_at
    → (x y : ℕ) (t u : Placed) → HasTypeAt types x t → HasTypeAt types y u → is_interface u ≡ true → is_above types t u ≡ (not (eqb x y) && list_any (λ k. eqb k (name_at y)) (rows x))
interface_by_numbers names types a d rows name_at up named x y t u h i k =
    let n = named y u i in
    interface_by_row names types a d t u (name_at y) (rows x) (has_in types x t h) (has_in types y u i) k n.0 n.1 (up x t h)
    ∙ ap (λ b. not b && list_any (λ k. eqb k (name_at y)) (rows x)) (is_type_back u t ∙ same_number types d x y t u h i)

-- the owner of a node, which may be an interface above
pub node_by_numbers : (names : List (List ℕ)) (types : List Placed) → IsAcyclic types → IsDistinct is_type types → (rows : ℕ → List ℕ) (name_at : ℕ → ℕ)
    → AreUpwardRows types (mentions_at names types) rows → AreTypeNames names types name_at → (x k : ℕ) (t : Placed) (m : Node) → HasTypeAt types x t → HasNodeAt types k m
    → (is_interface m.owner && is_above types t m.owner)
    ≡ (is_interface m.owner && (not (eqb x (get_or (owners types) k 0)) && list_any (λ j. eqb j (name_at (get_or (owners types) k 0))) (rows x)))
node_by_numbers names types a d rows name_at up named x k t m h i = at (is_interface m.owner) refl
  where
    at : (b : Bool) → is_interface m.owner ≡ b
        → (b && is_above types t m.owner) ≡ (b && (not (eqb x (get_or (owners types) k 0)) && list_any (λ j. eqb j (name_at (get_or (owners types) k 0))) (rows x)))
    at false e = refl
    at true e = interface_by_numbers names types a d rows name_at up named x (get_or (owners types) k 0) t m.owner h (owner_is types k m i) e
