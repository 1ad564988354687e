-- The views of the stored graph of a list of views are these.
use Rattle.std.proofs.Common.{◌≡◌, ℕ, Bool, true, false, cond, List, [], ◌∷◌, ◌++◌, get_or, refl, ap, ◌∙◌, inl, inr}
use Rattle.std.specs.Prelude.{map, Option, Some, None, ◌==◌}
use Rattle.std.specs.List.{AllByRecursion, flat_map}
use Rattle.fcg_views.specs.declared.view.View.{View}
use Rattle.fcg_views.specs.declared.view.Method.{Method}
use Rattle.fcg_views.specs.declared.view.Field.{Field}
use Rattle.fcg_views.specs.declared.view.Site.{Site}
use Rattle.fcg_views.specs.declared.view.Ref.{Ref}
use Rattle.fcg_grammar.specs.Table.{table, place}
use Rattle.fcg_partial.specs.Graph.{Graph}
use Rattle.fcg_views.specs.NamesIn.{names_of_ref, names_of_super, names_of_field}
use Rattle.fcg_partial.specs.Views.{name_in, super_in, shown_ref, shown_site, shown_field, shown_method, shown_type, shown, names_of_method, names_of_view, targets_of_method, targets_of_view, targets_of, mentions, names_of, refs_of, ref_row, super_number_of, site_row, field_row, method_row, type_row, graph_by, graph_of}
use Rattle.fcg_grammar.proofs.Among.{Among, among_left, among_right, among_map, among_flat, map_map, all_from_among}
use Rattle.fcg_grammar.proofs.TableLaws.{table_among, at_place}

-- each member of a list keeps P
each_same : {X : Type 0} (f : X → X) (xs : List X) → ((x : X) → Among x xs → f x ≡ x) → map f xs ≡ xs
each_same f [] each = refl
each_same f (x ∷ xs) each = let a = each x (inl refl) in let b = each_same f xs (λ z h. each z (inr h)) in cc

module _ (g : Graph) where
  -- the graph has each name, and each reference
  abbrev pub Named : List ℕ → Type 0
  Named x = Among x g.names

  name_there : (x : List ℕ) → Named x → name_in g.names (place g.names x) ≡ x
  name_there x h = (at_place g.names x [] h).1

  flag_there : (b : Bool) → (cond b 1 0 == 1) ≡ b
  flag_there true = refl
  flag_there false = refl

  abbrev pub HasRef : Ref → Type 0
  HasRef r = AllByRecursion Named (names_of_ref r) × Among (ref_row g.names r) g.refs

  ref_there : (r : Ref) → AllByRecursion Named (names_of_ref r) → shown_ref g.names (ref_row g.names r) ≡ r
  ref_there r h = rw (name_there r.owner h.0, flag_there r.owner_is_interface_ref, name_there r.name h.1.0, name_there r.desc h.1.1.0) refl

  site_there : (s : Site) → HasRef s.target → shown_site g (site_row g.names g.refs s) ≡ s
  site_there s h =
      let row : get_or g.refs (place g.refs (ref_row g.names s.target)) [] ≡ ref_row g.names s.target = (at_place g.refs (ref_row g.names s.target) [] h.1).1 in
      rw (row, ref_there s.target h.0) refl

  field_there : (f : Field) → AllByRecursion Named (names_of_field f) → shown_field g (field_row g.names f) ≡ f
  field_there f h = rw (name_there f.name h.0, name_there f.desc h.1.0) refl

  method_there : (m : Method) → AllByRecursion Named (names_of_method m) → ((r : Ref) → Among r (targets_of_method m) → HasRef r) → shown_method g (method_row g.names g.refs m) ≡ m
  method_there m h refs =
      let sites : map (shown_site g) (map (site_row g.names g.refs) m.sites) ≡ m.sites = map_map (shown_site g) (site_row g.names g.refs) m.sites ∙ each_same (λ s. shown_site g (site_row g.names g.refs s)) m.sites (λ s a. site_there s (refs s.target (among_map (λ s. s.target) s m.sites a))) in
      rw (name_there m.name h.0, name_there m.desc h.1.0, sites) refl

  super_there : (s : Option (List ℕ)) → ((x : List ℕ) → Among x (names_of_super s) → Named x) → super_in g.names (super_number_of g.names s) ≡ s
  super_there None each = refl
  super_there (Some n) each = ap (λ (k : List ℕ). Some k) (name_there n (each n (inl refl)))

  view_there : (v : View) → ((x : List ℕ) → Among x (names_of_view v) → Named x) → ((r : Ref) → Among r (targets_of_view v) → HasRef r) → shown_type g (type_row g.names g.refs v) ≡ v
  view_there v each refs =
      let fs = flat_map names_of_field v.fields in
      let ms = flat_map names_of_method v.methods in
      let ss = names_of_super v.superclass in
      let super = super_there v.superclass (λ x h. each x (inr (among_left x ss (v.interfaces ++ (fs ++ ms)) h))) in
      let interfaces : map (name_in g.names) (map (place g.names) v.interfaces) ≡ v.interfaces = map_map (name_in g.names) (place g.names) v.interfaces ∙ each_same (λ x. name_in g.names (place g.names x)) v.interfaces (λ x h. name_there x (each x (inr (among_right x ss (v.interfaces ++ (fs ++ ms)) (among_left x v.interfaces (fs ++ ms) h))))) in
      let fields : map (shown_field g) (map (field_row g.names) v.fields) ≡ v.fields = map_map (shown_field g) (field_row g.names) v.fields ∙ each_same (λ f. shown_field g (field_row g.names f)) v.fields (λ f h. field_there f (all_from_among Named (names_of_field f) (λ x i. each x (inr (among_right x ss (v.interfaces ++ (fs ++ ms)) (among_right x v.interfaces (fs ++ ms) (among_left x fs ms (among_flat names_of_field f x v.fields h i)))))))) in
      let methods : map (shown_method g) (map (method_row g.names g.refs) v.methods) ≡ v.methods = map_map (shown_method g) (method_row g.names g.refs) v.methods ∙ each_same (λ m. shown_method g (method_row g.names g.refs m)) v.methods (λ m h. method_there m (all_from_among Named (names_of_method m) (λ x i. each x (inr (among_right x ss (v.interfaces ++ (fs ++ ms)) (among_right x v.interfaces (fs ++ ms) (among_right x fs ms (among_flat names_of_method m x v.methods h i))))))) (λ r i. refs r (among_flat targets_of_method m r v.methods h i))) in
      rw (name_there v.name (each v.name (inl refl)), super, interfaces, fields, methods) refl

-- the stored graph of a list of views stands for it
pub views_back : (views : List View) → shown (graph_of views) ≡ views
unfolding shown graph_of names_of refs_of
views_back views =
    let names = table (mentions views) in
    let refs = table (map (ref_row names) (targets_of views)) in
    let g : Graph = graph_by names refs views in
    let of_target : (r : Ref) → Among r (targets_of views) → HasRef g r = λ r h. (
      all_from_among (Named g) (names_of_ref r) (λ x i. table_among (mentions views) x (among_left x (flat_map names_of_ref (targets_of views)) (flat_map names_of_view views) (among_flat names_of_ref r x (targets_of views) h i))),
      table_among (map (ref_row names) (targets_of views)) (ref_row names r) (among_map (ref_row names) r (targets_of views) h),
    ) in
    map_map (shown_type g) (type_row names refs) views
    ∙ each_same (λ v. shown_type g (type_row names refs v)) views (λ v h. view_there g v
    (λ x i. table_among (mentions views) x (among_right x (flat_map names_of_ref (targets_of views)) (flat_map names_of_view views) (among_flat names_of_view v x views h i)))
    (λ r i. of_target r (among_flat targets_of_view v r views h i)))
