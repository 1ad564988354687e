-- A stored graph shows valid views.
use Rattle.std.proofs.Common.{◌≡◌, ℕ, zero, suc, ◌^◌, ◌<◌, ◌≤◌, Bool, true, false, ◌&&◌, List, [], ◌∷◌, ◌++◌, length, refl, sym, ap, subst, ◌∙◌, inl, inr, arith}
use Rattle.std.specs.Prelude.{map, All, Option, Some, None, nat_eq}
use Rattle.std.specs.List.{flat_map, AllByRecursion, IsDistinct}
use Rattle.std.specs.Cmp.Lexicographic.{pointwise, same_text, nat_list_eq_equiv}
use Rattle.std.proofs.lemmas.List.Elements.{All-from_recursion}
use Rattle.std.proofs.lemmas.List.Sums.{sum_by-cons}
use Rattle.std.proofs.lemmas.Map.Keys.{IsDistinct-cons, IsDistinct-head, IsDistinct-tail}
use Rattle.fcg_grammar.specs.Table.{place}
use Rattle.fcg_grammar.proofs.Among.{Among, among_all, all_from_among, among_right, among_flat}
use Rattle.fcg_grammar.proofs.TableLaws.{place_at}
use Rattle.fcg_views.specs.declared.view.Method.{Method}
use Rattle.fcg_views.specs.Valid as valid
use Rattle.fcg_views.specs.Valid.{IsShort, IsShortOrNone, HasShortNames, IsValidField, IsValidMethod, IsValid, is_same, is_alike}
use Rattle.fcg_partial.specs.Graph.{Graph, StoredType, StoredMethod, StoredSite, FitsName, FitsType, IsGraph, key, site_count, ref_uses, super_uses, field_uses, method_uses, type_uses, name_uses}
use Rattle.fcg_partial.specs.Views.{name_in, super_in, shown_site, shown_field, shown_method, shown_type, shown}
use Rattle.fcg_partial.proofs.IndexLaws.{length_map}

short_in : (names : List (List ℕ)) → AllByRecursion FitsName names → (n : ℕ) → IsShort (name_in names n)
short_in [] fit n = omega arith
short_in (x ∷ xs) fit zero = let lt = fit.0 in omega arith
short_in (x ∷ xs) fit (suc n) = short_in xs fit.1 n

-- each image keeps P
images : {X Y : Type 0} (P : Y → Type 0) (f : X → Y) → ((x : X) → P (f x)) → (xs : List X) → AllByRecursion P (map f xs)
images P f each [] = tt
images P f each (x ∷ xs) = (each x, images P f each xs)

two_bytes : (a b : ℕ) → a ≡ b → b < 2 ^ 16 → a ≤ 65535
two_bytes a b e lt = omega arith

module _ (g : Graph) (is : IsGraph g) where
  short : (n : ℕ) → IsShort (name_in g.names n)
  short n = short_in g.names is.names n

  short_super : (s : Option ℕ) → IsShortOrNone (super_in g.names s)
  short_super None = tt
  short_super (Some n) = short n

  short_site : (s : StoredSite) → HasShortNames (shown_site g s)
  short_site s = (short _, short _, short _)

  valid_method : (m : StoredMethod) → IsValidMethod (shown_method g m)
  valid_method m = (short m.name, short m.desc, All-from_recursion HasShortNames (map (shown_site g) m.sites) (images HasShortNames (shown_site g) short_site m.sites))

  -- ---- no two methods of a type are alike
  abbrev Below : StoredMethod → Type 0
  Below m = (m.name < length g.names) × (m.desc < length g.names)

  one_number : (j k : ℕ) → j < length g.names → k < length g.names → is_same (name_in g.names j) (name_in g.names k) ≡ true → j ≡ k
  one_number j k p q e =
      let same : name_in g.names j ≡ name_in g.names k = same_text (name_in g.names j) (name_in g.names k) (sym e) in
      sym (place_at g.names j [] is.names_rise p) ∙ ap (place g.names) same ∙ place_at g.names k [] is.names_rise q

  both : (a b : Bool) → (a && b) ≡ true → (a ≡ true) × (b ≡ true)
  both true true e = (refl, refl)
  both true false e = absurd cc
  both false b e = absurd cc

  unlike : (m n : StoredMethod) → Below m → Below n → pointwise nat_eq (key m) (key n) ≡ false → is_alike (shown_method g m) (shown_method g n) ≡ false
  unlike m n p q apart =
      elim (is_alike (shown_method g m) (shown_method g n)) as (λ b. is_alike (shown_method g m) (shown_method g n) ≡ b → b ≡ false) [
        | true ↦ λ t. absurd (
            let h = both (is_same (name_in g.names m.name) (name_in g.names n.name)) (is_same (name_in g.names m.desc) (name_in g.names n.desc)) t in
            let a : m.name ≡ n.name = one_number m.name n.name p.0 q.0 h.0 in
            let b : m.desc ≡ n.desc = one_number m.desc n.desc p.1 q.1 h.1 in
            let same : key m ≡ key n = ap (λ (x : ℕ). x ∷ m.desc ∷ []) a ∙ ap (λ (y : ℕ). n.name ∷ y ∷ []) b in
            let alike : pointwise nat_eq (key m) (key n) ≡ true = subst (λ (l : List ℕ). pointwise nat_eq (key m) l ≡ true) same (nat_list_eq_equiv.refl (key m)) in
            let bad = sym alike ∙ apart in cc)
        | false ↦ λ t. refl
      ] refl

  apart_from : (m : StoredMethod) (ms : List StoredMethod) → Below m → AllByRecursion Below ms → AllByRecursion (λ k. pointwise nat_eq (key m) k ≡ false) (map key ms) → AllByRecursion (λ n. is_alike (shown_method g m) n ≡ false) (map (shown_method g) ms)
  apart_from m [] p q all = tt
  apart_from m (n ∷ ms) p q all = (unlike m n p q.0 all.0, apart_from m ms p q.1 all.1)

  methods_apart : (ms : List StoredMethod) → AllByRecursion Below ms → IsDistinct (pointwise nat_eq) (map key ms) → IsDistinct is_alike (map (shown_method g) ms)
  unfolding IsDistinct
  methods_apart [] below d = tt
  methods_apart (m ∷ ms) below d = IsDistinct-cons is_alike (shown_method g m) (map (shown_method g) ms) (apart_from m ms below.0 below.1 (IsDistinct-head (pointwise nat_eq) (key m) (map key ms) d)) (methods_apart ms below.1 (IsDistinct-tail (pointwise nat_eq) (key m) (map key ms) d))

  count_is : (ms : List StoredMethod) → valid.site_count (map (shown_method g) ms) ≡ site_count ms
  count_is [] = refl
  count_is (m ∷ ms) =
      let a = length_map (shown_site g) m.sites in
      let b = count_is ms in
      let c = sum_by-cons (λ (x : Method). length x.sites) (shown_method g m) (map (shown_method g) ms) in
      omega arith

  known : (t : StoredType) → Among t g.types → AllByRecursion Below t.methods
  known t h = all_from_among Below t.methods (λ m i. (at m i m.name (inl refl), at m i m.desc (inr (inl refl))))
    where
      at : (m : StoredMethod) → Among m t.methods → (n : ℕ) → Among n (method_uses m) → n < length g.names
      at m i n j =
          let fs = flat_map field_uses t.fields in
          let ms = flat_map method_uses t.methods in
          let of_type : Among n (type_uses t) = inr (among_right n (super_uses t.superclass) (t.interfaces ++ (fs ++ ms)) (among_right n t.interfaces (fs ++ ms) (among_right n fs ms (among_flat method_uses m n t.methods i j)))) in
          among_all (λ k. k < length g.names) (name_uses g) n is.names_used.below (among_right n (flat_map ref_uses g.refs) (flat_map type_uses g.types) (among_flat type_uses t n g.types h of_type))

  valid_type : (t : StoredType) → Among t g.types → IsValid (shown_type g t)
  valid_type t h =
      let fit : FitsType t = among_all FitsType g.types t is.types h in
      record {
        name = short t.name;
        superclass = short_super t.superclass;
        interfaces = (two_bytes _ _ (length_map (name_in g.names) t.interfaces) fit.interfaces, All-from_recursion IsShort (map (name_in g.names) t.interfaces) (images IsShort (name_in g.names) short t.interfaces));
        fields = (two_bytes _ _ (length_map (shown_field g) t.fields) fit.fields, All-from_recursion IsValidField (map (shown_field g) t.fields) (images IsValidField (shown_field g) (λ f. (short f.name, short f.desc)) t.fields));
        methods = (two_bytes _ _ (length_map (shown_method g) t.methods) fit.methods, All-from_recursion IsValidMethod (map (shown_method g) t.methods) (images IsValidMethod (shown_method g) valid_method t.methods));
        distinct = methods_apart t.methods (known t h) fit.apart;
        few_sites = subst (λ (n : ℕ). n ≤ 1000000) (sym (count_is t.methods)) fit.few;
      }

  valid_types : (ts : List StoredType) → ((t : StoredType) → Among t ts → IsValid (shown_type g t)) → AllByRecursion IsValid (map (shown_type g) ts)
  valid_types [] each = tt
  valid_types (t ∷ ts) each = (each t (inl refl), valid_types ts (λ u h. each u (inr h)))

  pub valid_views : All IsValid (shown g)
  unfolding shown
  valid_views = All-from_recursion IsValid (map (shown_type g) g.types) (valid_types g.types valid_type)
