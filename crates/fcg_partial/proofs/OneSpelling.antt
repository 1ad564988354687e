-- A stored graph is that of its views.
use Rattle.std.proofs.Common.{◌≡◌, ℕ, ◌<◌, ◌≤◌, cond, List, [], ◌∷◌, ◌++◌, length, get_or, refl, sym, ap, subst, ◌∙◌, ◌⊎◌, inl, inr, arith}
use Rattle.std.specs.Prelude.{map, Option, Some, None, ◌==◌}
use Rattle.std.specs.List.{AllByRecursion, flat_map}
use Rattle.std.proofs.lemmas.Bool.Decides.{nat_tests}
use Rattle.fcg_views.specs.declared.view.Ref.{Ref}
use Rattle.fcg_grammar.specs.Table.{Rises, IsTable, place}
use Rattle.fcg_partial.specs.Graph.{Graph, StoredType, StoredField, StoredMethod, StoredSite, number_at, FitsRef, IsUsed, IsGraph, ref_uses, super_uses, field_uses, method_uses, type_uses, name_uses, method_targets, type_targets, ref_uses_of}
use Rattle.fcg_views.specs.NamesIn.{names_of_ref, names_of_super, names_of_field}
use Rattle.fcg_partial.specs.Views.{name_in, super_in, shown_ref, shown_site, shown_field, shown_method, shown_type, shown, names_of_method, names_of_view, targets_of_method, targets_of_view, targets_of, mentions, names_of, refs_of, ref_row, super_number_of, site_row, field_row, method_row, type_row, graph_of}
use Rattle.fcg_grammar.proofs.Among.{Among, Contains-among, among_at, among_from_contains, place_of, among_left, among_right, among_either, among_all, all_from_among, all_left, all_right, among_map, map_among, among_flat, flat_among, all_flat, map_same, map_map, map_append, flat_map_map}
use Rattle.fcg_grammar.proofs.TableLaws.{is_table, place_at}

-- the rows that are used are the table, where each number is used
pub numbers_table : (rows : List (List ℕ)) (uses : List ℕ) → Rises rows → IsUsed (length rows) uses → IsTable (map (λ n. get_or rows n []) uses) rows
numbers_table rows uses r u = record {
  rises = r;
  each = λ x c. (
      let m = map_among (λ n. get_or rows n []) x uses (among_from_contains x (map (λ n. get_or rows n []) uses) c) in
      let below : m.0 < length rows = among_all (λ k. k < length rows) uses m.0 u.below m.1 in
      Contains-among x rows (subst (λ (z : List ℕ). Among z rows) m.2 (among_at rows m.0 [] below)));
  used = λ x c. (
      let p = place_of x [] rows (among_from_contains x rows c) in
      let here = among_map (λ n. get_or rows n []) p.0 uses (among_from_contains p.0 uses (u.each p.0 p.1)) in
      Contains-among x (map (λ n. get_or rows n []) uses) (subst (λ (z : List ℕ). Among z (map (λ n. get_or rows n []) uses)) p.2 here));
}

map_append4 : {X Y : Type 0} (f : X → Y) (a b c d : List X) → map f (a ++ (b ++ (c ++ d))) ≡ map f a ++ (map f b ++ (map f c ++ map f d))
map_append4 f a b c d = rw (map_append f a (b ++ (c ++ d)), map_append f b (c ++ d), map_append f c d) refl

super_shown : (names : List (List ℕ)) (s : Option ℕ) → names_of_super (super_in names s) ≡ map (name_in names) (super_uses s)
super_shown names None = refl
super_shown names (Some n) = refl

module _ (g : Graph) where
  -- what the views name is what the numbers name
  view_uses : (t : StoredType) → names_of_view (shown_type g t) ≡ map (name_in g.names) (type_uses t)
  view_uses t =
      let fields = flat_map_map names_of_field (shown_field g) (name_in g.names) field_uses (λ f. refl) t.fields in
      let methods = flat_map_map names_of_method (shown_method g) (name_in g.names) method_uses (λ m. refl) t.methods in
      let split = map_append4 (name_in g.names) (super_uses t.superclass) t.interfaces (flat_map field_uses t.fields) (flat_map method_uses t.methods) in
      ap (λ (l : List (List ℕ)). name_in g.names t.name ∷ l) (rw (super_shown g.names t.superclass, fields, methods) (sym split))

  abbrev ref_at : ℕ → List ℕ
  ref_at k = get_or g.refs k []

  abbrev target_at : ℕ → Ref
  target_at k = shown_ref g.names (ref_at k)

  method_targets_are : (m : StoredMethod) → targets_of_method (shown_method g m) ≡ map target_at (method_targets m)
  method_targets_are m = map_map (λ s. s.target) (shown_site g) m.sites ∙ sym (map_map target_at (λ s. s.reference) m.sites)

  targets_are : targets_of (shown g) ≡ map target_at (ref_uses_of g)
  unfolding shown
  targets_are = flat_map_map targets_of_view (shown_type g) target_at type_targets (λ t. flat_map_map targets_of_method (shown_method g) target_at method_targets method_targets_are t.methods) g.types

  abbrev seen_uses : List ℕ
  seen_uses = flat_map (λ k. ref_uses (ref_at k)) (ref_uses_of g) ++ flat_map type_uses g.types

  mentions_are : mentions (shown g) ≡ map (name_in g.names) seen_uses
  unfolding shown
  mentions_are =
      let refs = flat_map_map names_of_ref target_at (name_in g.names) (λ k. ref_uses (ref_at k)) (λ k. refl) (ref_uses_of g) in
      let types = flat_map_map names_of_view (shown_type g) (name_in g.names) type_uses view_uses g.types in
      let targets = ap (flat_map names_of_ref) targets_are in
      rw (types, targets, refs) (sym (map_append (name_in g.names) (flat_map (λ k. ref_uses (ref_at k)) (ref_uses_of g)) (flat_map type_uses g.types)))

module _ (g : Graph) (is : IsGraph g) where
  -- each number below the count of names is named by a type, or by a reference that a site names
  seen_used : IsUsed (length g.names) (seen_uses g)
  seen_used = record {
    below = all_from_among (λ k. k < length g.names) (seen_uses g) (λ k h. below k (among_either k (flat_map (λ j. ref_uses (ref_at g j)) (ref_uses_of g)) (flat_map type_uses g.types) h));
    each = λ k lt. Contains-among k (seen_uses g) (seen k (among_either k (flat_map ref_uses g.refs) (flat_map type_uses g.types) (among_from_contains k (name_uses g) (is.names_used.each k lt))));
  }
    where
      below : (k : ℕ) → Among k (flat_map (λ j. ref_uses (ref_at g j)) (ref_uses_of g)) ⊎ Among k (flat_map type_uses g.types) → k < length g.names
      below k (inl h) =
          let f = flat_among (λ j. ref_uses (ref_at g j)) k (ref_uses_of g) h in
          let lt : f.0 < length g.refs = among_all (λ j. j < length g.refs) (ref_uses_of g) f.0 is.refs_used.below f.1 in
          let row = among_at g.refs f.0 [] lt in
          among_all (λ j. j < length g.names) (name_uses g) k is.names_used.below (among_left k (flat_map ref_uses g.refs) (flat_map type_uses g.types) (among_flat ref_uses (ref_at g f.0) k g.refs row f.2))
      below k (inr h) = among_all (λ j. j < length g.names) (name_uses g) k is.names_used.below (among_right k (flat_map ref_uses g.refs) (flat_map type_uses g.types) h)

      seen : (k : ℕ) → Among k (flat_map ref_uses g.refs) ⊎ Among k (flat_map type_uses g.types) → Among k (seen_uses g)
      seen k (inl h) =
          let f = flat_among ref_uses k g.refs h in
          let p = place_of f.0 [] g.refs f.1 in
          let used = among_from_contains p.0 (ref_uses_of g) (is.refs_used.each p.0 p.1) in
          let here : Among k (ref_uses (ref_at g p.0)) = subst (λ (row : List ℕ). Among k (ref_uses row)) (sym p.2) f.2 in
          among_left k (flat_map (λ j. ref_uses (ref_at g j)) (ref_uses_of g)) (flat_map type_uses g.types) (among_flat (λ j. ref_uses (ref_at g j)) p.0 k (ref_uses_of g) used here)
      seen k (inr h) = among_right k (flat_map (λ j. ref_uses (ref_at g j)) (ref_uses_of g)) (flat_map type_uses g.types) h

  pub names_are : names_of (shown g) ≡ g.names
  unfolding names_of
  names_are =
      let t : IsTable (mentions (shown g)) g.names = rw (mentions_are g) (numbers_table g.names (seen_uses g) is.names_rise seen_used) in
      sym (is_table (mentions (shown g)) g.names t)

  -- ---- numbers lead to names and back
  name_back : (n : ℕ) → n < length g.names → place g.names (name_in g.names n) ≡ n
  name_back n lt = place_at g.names n [] is.names_rise lt

  flag_back : (n : ℕ) → n ≤ 1 → cond (n == 1) 1 0 ≡ n
  flag_back n le = grind (arith, nat_tests)

  four : (row : List ℕ) → length row ≡ 4 → row ≡ number_at 0 row ∷ number_at 1 row ∷ number_at 2 row ∷ number_at 3 row ∷ []
  four [] e = absurd (omega arith)
  four (a ∷ []) e = absurd (omega arith)
  four (a ∷ b ∷ []) e = absurd (omega arith)
  four (a ∷ b ∷ c ∷ []) e = absurd (omega arith)
  four (a ∷ b ∷ c ∷ d ∷ []) e = refl
  four (a ∷ b ∷ c ∷ d ∷ x ∷ xs) e = absurd (omega arith)

  ref_back : (row : List ℕ) → FitsRef row → AllByRecursion (λ k. k < length g.names) (ref_uses row) → ref_row g.names (shown_ref g.names row) ≡ row
  ref_back row fits below = rw (name_back (number_at 0 row) below.0, flag_back (number_at 1 row) fits.1, name_back (number_at 2 row) below.1.0, name_back (number_at 3 row) below.1.1.0) (sym (four row fits.0))

  ref_names_below : AllByRecursion (λ row. AllByRecursion (λ k. k < length g.names) (ref_uses row)) g.refs
  ref_names_below = all_flat ref_uses (λ k. k < length g.names) g.refs (all_left (λ k. k < length g.names) (flat_map ref_uses g.refs) (flat_map type_uses g.types) is.names_used.below)

  -- the row that stands at a number
  target_back : (k : ℕ) → k < length g.refs → ref_row g.names (target_at g k) ≡ ref_at g k
  target_back k lt =
      let here = among_at g.refs k [] lt in
      ref_back (ref_at g k) (among_all FitsRef g.refs (ref_at g k) is.refs here) (among_all (λ row. AllByRecursion (λ j. j < length g.names) (ref_uses row)) g.refs (ref_at g k) ref_names_below here)

  map_like : {X Y : Type 0} (f h : X → Y) (P : X → Type 0) → ((x : X) → P x → f x ≡ h x) → (xs : List X) → AllByRecursion P xs → map f xs ≡ map h xs
  map_like f h P each [] all = refl
  map_like f h P each (x ∷ xs) all = let a = each x all.0 in let b = map_like f h P each xs all.1 in cc

  refs_are : refs_of g.names (shown g) ≡ g.refs
  unfolding refs_of
  refs_are =
      let rows : map (ref_row g.names) (targets_of (shown g)) ≡ map (λ k. ref_at g k) (ref_uses_of g) =
      ap (map (ref_row g.names)) (targets_are g) ∙ map_map (ref_row g.names) (λ k. target_at g k) (ref_uses_of g) ∙ map_like (λ k. ref_row g.names (target_at g k)) (λ k. ref_at g k) (λ k. k < length g.refs) target_back (ref_uses_of g) is.refs_used.below in
      let t : IsTable (map (ref_row g.names) (targets_of (shown g))) g.refs = rw rows (numbers_table g.refs (ref_uses_of g) is.refs_rise is.refs_used) in
      sym (is_table (map (ref_row g.names) (targets_of (shown g))) g.refs t)

  -- ---- the rows
  site_back : (s : StoredSite) → s.reference < length g.refs → site_row g.names g.refs (shown_site g s) ≡ s
  site_back s lt = rw (target_back s.reference lt, place_at g.refs s.reference [] is.refs_rise lt) refl

  field_back : (f : StoredField) → AllByRecursion (λ k. k < length g.names) (field_uses f) → field_row g.names (shown_field g f) ≡ f
  field_back f below = rw (name_back f.name below.0, name_back f.desc below.1.0) refl

  method_back : (m : StoredMethod) → AllByRecursion (λ k. k < length g.names) (method_uses m) × AllByRecursion (λ k. k < length g.refs) (method_targets m) → method_row g.names g.refs (shown_method g m) ≡ m
  method_back m below =
      let sites : map (site_row g.names g.refs) (map (shown_site g) m.sites) ≡ m.sites = map_map (site_row g.names g.refs) (shown_site g) m.sites ∙ map_same (λ s. site_row g.names g.refs (shown_site g s)) (λ s. s.reference < length g.refs) site_back m.sites (all_map_back m.sites below.1) in
      rw (name_back m.name below.0.0, name_back m.desc below.0.1.0, sites) refl
    where
      all_map_back : (ss : List StoredSite) → AllByRecursion (λ k. k < length g.refs) (map (λ s. s.reference) ss) → AllByRecursion (λ s. s.reference < length g.refs) ss
      all_map_back [] all = tt
      all_map_back (s ∷ ss) all = (all.0, all_map_back ss all.1)

  super_back : (s : Option ℕ) → AllByRecursion (λ k. k < length g.names) (super_uses s) → super_number_of g.names (super_in g.names s) ≡ s
  super_back None all = refl
  super_back (Some n) all = ap (λ (k : ℕ). Some k) (name_back n all.0)

  both : {X : Type 0} (P Q : X → Type 0) (xs : List X) → AllByRecursion P xs → AllByRecursion Q xs → AllByRecursion (λ x. P x × Q x) xs
  both P Q [] p q = tt
  both P Q (x ∷ xs) p q = ((p.0, q.0), both P Q xs p.1 q.1)

  type_back : (t : StoredType) → AllByRecursion (λ k. k < length g.names) (type_uses t) × AllByRecursion (λ k. k < length g.refs) (type_targets t) → type_row g.names g.refs (shown_type g t) ≡ t
  type_back t below =
      let P : ℕ → Type 0 = λ k. k < length g.names in
      let R : ℕ → Type 0 = λ k. k < length g.refs in
      let us = super_uses t.superclass in
      let uf = flat_map field_uses t.fields in
      let um = flat_map method_uses t.methods in
      let b1 = all_right P us (t.interfaces ++ (uf ++ um)) below.0.1 in
      let b2 = all_right P t.interfaces (uf ++ um) b1 in
      let b3 = all_right P uf um b2 in
      let super = super_back t.superclass (all_left P us (t.interfaces ++ (uf ++ um)) below.0.1) in
      let interfaces : map (place g.names) (map (name_in g.names) t.interfaces) ≡ t.interfaces = map_map (place g.names) (name_in g.names) t.interfaces ∙ map_same (λ n. place g.names (name_in g.names n)) P name_back t.interfaces (all_left P t.interfaces (uf ++ um) b1) in
      let fields : map (field_row g.names) (map (shown_field g) t.fields) ≡ t.fields = map_map (field_row g.names) (shown_field g) t.fields ∙ map_same (λ f. field_row g.names (shown_field g f)) (λ f. AllByRecursion P (field_uses f)) field_back t.fields (all_flat field_uses P t.fields (all_left P uf um b2)) in
      let methods : map (method_row g.names g.refs) (map (shown_method g) t.methods) ≡ t.methods = map_map (method_row g.names g.refs) (shown_method g) t.methods ∙ map_same (λ m. method_row g.names g.refs (shown_method g m)) (λ m. AllByRecursion P (method_uses m) × AllByRecursion R (method_targets m)) method_back t.methods (both (λ m. AllByRecursion P (method_uses m)) (λ m. AllByRecursion R (method_targets m)) t.methods (all_flat method_uses P t.methods b3) (all_flat method_targets R t.methods below.1)) in
      rw (name_back t.name below.0.0, super, interfaces, fields, methods) refl

  types_are : map (type_row g.names g.refs) (shown g) ≡ g.types
  unfolding shown
  types_are =
      let P : ℕ → Type 0 = λ k. k < length g.names in
      let R : ℕ → Type 0 = λ k. k < length g.refs in
      map_map (type_row g.names g.refs) (shown_type g) g.types
      ∙ map_same (λ t. type_row g.names g.refs (shown_type g t)) (λ t. AllByRecursion P (type_uses t) × AllByRecursion R (type_targets t)) type_back g.types
      (both (λ t. AllByRecursion P (type_uses t)) (λ t. AllByRecursion R (type_targets t)) g.types
      (all_flat type_uses P g.types (all_right P (flat_map ref_uses g.refs) (flat_map type_uses g.types) is.names_used.below))
      (all_flat type_targets R g.types is.refs_used.below))

  -- a stored graph is determined by its views
  pub graph_back : graph_of (shown g) ≡ g
  unfolding graph_of
  graph_back = rw (names_are, refs_are, types_are) refl

pub one_graph : (g h : Graph) → IsGraph g → IsGraph h → shown g ≡ shown h → g ≡ h
one_graph g h p q e = sym (graph_back g p) ∙ ap graph_of e ∙ graph_back h q
