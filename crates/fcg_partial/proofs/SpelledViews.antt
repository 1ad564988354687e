-- What is collected from the views and written of them is what the definitions name.
use Rattle.std.proofs.Common.{◌≡◌, ℕ, List, [], ◌∷◌, ◌++◌, length, refl, sym, ap, ◌∙◌, append_assoc}
use Rattle.std.specs.Prelude.{map}
use Rattle.std.specs.List.{flat_map}
use Rattle.std.proofs.lemmas.List.{append-nil}
use Rattle.std.proofs.lemmas.List.Concat.{flat_map-cons, flat_map_single}
use Rattle.fcg_grammar.specs.Spell.{u2, u4}
use Rattle.fcg_grammar.proofs.Among.{map_append, map_map}
use Rattle.fcg_views.specs.declared.view.View.{View}
use Rattle.fcg_views.specs.declared.view.Method.{Method}
use Rattle.fcg_views.specs.declared.view.Field.{Field}
use Rattle.fcg_views.specs.declared.view.Site.{Site}
use Rattle.fcg_partial.specs.Graph.{name_text, ref_text, site_text, field_text, method_text, type_text, super_number, spelling}
use Rattle.fcg_views.specs.NamesIn.{names_of_ref, names_of_site}
use Rattle.fcg_partial.specs.Views.{names_of_view, targets_of_method, targets_of_view, targets_of, mentions, ref_row, super_number_of, site_row, field_row, method_row, type_row, graph_by}
use Rattle.fcg_grammar.specs.Table.{place}
use Rattle.fcg_partial.specs.Internal.Written.{method_rows, view_rows, written_site, written_field, written_method, written_name, written_head, written_members, written_type, written_tables, written}
use Rattle.fcg_partial.proofs.IndexLaws.{length_map}

flat_append : {X Y : Type 0} (f : X → List Y) (xs ys : List X) → flat_map f (xs ++ ys) ≡ flat_map f xs ++ flat_map f ys
flat_append f [] ys = refl
flat_append f (x ∷ xs) ys = flat_map-cons f x (xs ++ ys) ∙ ap (λ l. f x ++ l) (flat_append f xs ys) ∙ sym (append_assoc (f x) (flat_map f xs) (flat_map f ys)) ∙ ap (λ l. l ++ flat_map f ys) (sym (flat_map-cons f x xs))

flat_like : {X Y : Type 0} (f g : X → List Y) → ((x : X) → f x ≡ g x) → (xs : List X) → flat_map f xs ≡ flat_map g xs
flat_like f g each [] = refl
flat_like f g each (x ∷ xs) = rw (flat_map-cons f, flat_map-cons g, each x, flat_like f g each xs) refl

pub flat_flat : {X Y Z : Type 0} (f : Y → List Z) (g : X → List Y) (xs : List X) → flat_map f (flat_map g xs) ≡ flat_map (λ x. flat_map f (g x)) xs
flat_flat f g [] = refl
flat_flat f g (x ∷ xs) = ap (flat_map f) (flat_map-cons g x xs) ∙ flat_append f (g x) (flat_map g xs) ∙ ap (λ l. flat_map f (g x) ++ l) (flat_flat f g xs) ∙ sym (flat_map-cons (λ y. flat_map f (g y)) x xs)

flat_of_map : {X Y Z : Type 0} (f : Y → List Z) (g : X → Y) (xs : List X) → flat_map f (map g xs) ≡ flat_map (λ x. f (g x)) xs
flat_of_map f g [] = refl
flat_of_map f g (x ∷ xs) = flat_map-cons f (g x) (map g xs) ∙ ap (λ l. f (g x) ++ l) (flat_of_map f g xs) ∙ sym (flat_map-cons (λ y. f (g y)) x xs)

map_flat : {X Y Z : Type 0} (f : Y → Z) (g : X → List Y) (xs : List X) → map f (flat_map g xs) ≡ flat_map (λ x. map f (g x)) xs
map_flat f g [] = refl
map_flat f g (x ∷ xs) = ap (map f) (flat_map-cons g x xs) ∙ map_append f (g x) (flat_map g xs) ∙ ap (λ l. map f (g x) ++ l) (map_flat f g xs) ∙ sym (flat_map-cons (λ y. map f (g y)) x xs)

-- ---- the names: those in the references, and then those of the types
abbrev pub method_site_names : Method → List (List ℕ)
method_site_names m = flat_map names_of_site m.sites

abbrev pub view_site_names : View → List (List ℕ)
view_site_names v = flat_map method_site_names v.methods

method_names_are : (m : Method) → flat_map names_of_ref (targets_of_method m) ≡ method_site_names m
method_names_are m = flat_of_map names_of_ref (λ (s : Site). s.target) m.sites

view_names_are : (v : View) → flat_map names_of_ref (targets_of_view v) ≡ view_site_names v
view_names_are v = flat_flat names_of_ref targets_of_method v.methods ∙ flat_like (λ (m : Method). flat_map names_of_ref (targets_of_method m)) method_site_names method_names_are v.methods

pub mentions_are : (views : List View) → flat_map view_site_names views ++ flat_map names_of_view views ≡ mentions views
mentions_are views = ap (λ l. l ++ flat_map names_of_view views) (sym (flat_flat names_of_ref targets_of_view views ∙ flat_like (λ (v : View). flat_map names_of_ref (targets_of_view v)) view_site_names view_names_are views))

-- ---- the rows of references
method_rows_are : (names : List (List ℕ)) (m : Method) → map (ref_row names) (targets_of_method m) ≡ method_rows names m
method_rows_are names m = map_map (ref_row names) (λ (s : Site). s.target) m.sites ∙ sym (flat_map_single (λ (s : Site). ref_row names s.target) m.sites)

view_rows_are : (names : List (List ℕ)) (v : View) → map (ref_row names) (targets_of_view v) ≡ view_rows names v
view_rows_are names v = map_flat (ref_row names) targets_of_method v.methods ∙ flat_like (λ (m : Method). map (ref_row names) (targets_of_method m)) (method_rows names) (method_rows_are names) v.methods

pub rows_are : (names : List (List ℕ)) (views : List View) → flat_map (view_rows names) views ≡ map (ref_row names) (targets_of views)
rows_are names views = sym (map_flat (ref_row names) targets_of_view views ∙ flat_like (λ (v : View). map (ref_row names) (targets_of_view v)) (view_rows names) (view_rows_are names) views)

-- ---- the texts
module _ (names refs : List (List ℕ)) where
  sites_are : (ss : List Site) → flat_map site_text (map (site_row names refs) ss) ≡ flat_map (written_site names refs) ss
  sites_are ss = flat_of_map site_text (site_row names refs) ss ∙ flat_like (λ (s : Site). site_text (site_row names refs s)) (written_site names refs) (λ s. refl) ss

  fields_are : (fs : List Field) → flat_map field_text (map (field_row names) fs) ≡ flat_map (written_field names) fs
  fields_are fs = flat_of_map field_text (field_row names) fs ∙ flat_like (λ (f : Field). field_text (field_row names f)) (written_field names) (λ f. refl) fs

  interfaces_are : (is : List (List ℕ)) → flat_map u4 (map (place names) is) ≡ flat_map (written_name names) is
  interfaces_are is = flat_of_map u4 (place names) is

  method_front : Method → ℕ → List ℕ → List ℕ
  method_front m n text = u4 (place names m.name) ++ (u4 (place names m.desc) ++ (u2 m.flags ++ (u4 n ++ text)))

  method_is : (m : Method) → method_text (method_row names refs m) ≡ written_method names refs m
  unfolding written_method method_front
  method_is m =
      ap (λ (n : ℕ). method_front m n (flat_map site_text (map (site_row names refs) m.sites) ++ [])) (length_map (site_row names refs) m.sites)
      ∙ ap (method_front m (length m.sites)) (append-nil (flat_map site_text (map (site_row names refs) m.sites)) ∙ sites_are m.sites)

  methods_are : (ms : List Method) → flat_map method_text (map (method_row names refs) ms) ≡ flat_map (written_method names refs) ms
  methods_are ms = flat_of_map method_text (method_row names refs) ms ∙ flat_like (λ (m : Method). method_text (method_row names refs m)) (written_method names refs) method_is ms

  shape : View → ℕ → List ℕ → ℕ → List ℕ → ℕ → List ℕ → List ℕ
  shape v i is f fs m ms = u4 (place names v.name) ++ (u2 v.flags ++ (u4 (super_number (super_number_of names v.superclass)) ++ (u2 i ++ (is ++ (u2 f ++ (fs ++ (u2 m ++ ms)))))))

  type_shape : (v : View) → type_text (type_row names refs v) ≡ shape v (length (map (place names) v.interfaces)) (flat_map u4 (map (place names) v.interfaces)) (length (map (field_row names) v.fields)) (flat_map field_text (map (field_row names) v.fields)) (length (map (method_row names refs) v.methods)) (flat_map method_text (map (method_row names refs) v.methods) ++ [])
  unfolding shape
  type_shape v = refl

  written_shape : (v : View) → shape v (length v.interfaces) (flat_map (written_name names) v.interfaces) (length v.fields) (flat_map (written_field names) v.fields) (length v.methods) (flat_map (written_method names refs) v.methods) ≡ written_type names refs v
  unfolding shape written_type written_head written_members
  written_shape v = refl

  type_is : (v : View) → type_text (type_row names refs v) ≡ written_type names refs v
  type_is v =
      type_shape v
      ∙ rw (length_map (place names) v.interfaces, interfaces_are v.interfaces, length_map (field_row names) v.fields, fields_are v.fields, length_map (method_row names refs) v.methods, append-nil (flat_map method_text (map (method_row names refs) v.methods)), methods_are v.methods) refl
      ∙ written_shape v

  whole : ℕ → List ℕ → List ℕ
  whole n types = u4 0x46434752 ++ (u2 1 ++ (u4 (length names) ++ (flat_map name_text names ++ (u4 (length refs) ++ (flat_map ref_text refs ++ (u4 n ++ types))))))

  whole_written : (n : ℕ) (types : List ℕ) → written_tables names refs ++ (u4 n ++ types) ≡ whole n types
  unfolding written_tables whole
  whole_written n types = ap (λ l. u4 0x46434752 ++ (u2 1 ++ (u4 (length names) ++ l))) (append_assoc (flat_map name_text names) (u4 (length refs) ++ flat_map ref_text refs) (u4 n ++ types))

  whole_spelled : (views : List View) → whole (length (map (type_row names refs) views)) (flat_map type_text (map (type_row names refs) views) ++ []) ≡ spelling (graph_by names refs views)
  unfolding whole
  whole_spelled views = refl

  -- what is written of the views is the spelling of their graph
  pub written_is : (views : List View) → written names refs views ≡ spelling (graph_by names refs views)
  unfolding written
  written_is views =
      let types : flat_map (written_type names refs) views ≡ flat_map type_text (map (type_row names refs) views) ++ [] =
      sym (append-nil (flat_map type_text (map (type_row names refs) views)) ∙ flat_of_map type_text (type_row names refs) views ∙ flat_like (λ (v : View). type_text (type_row names refs v)) (written_type names refs) type_is views) in
      whole_written (length views) (flat_map (written_type names refs) views)
      ∙ ap (λ (n : ℕ). whole n (flat_map (written_type names refs) views)) (sym (length_map (type_row names refs) views))
      ∙ ap (whole (length (map (type_row names refs) views))) types
      ∙ whole_spelled views
