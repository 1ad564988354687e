-- Methods of parts and their sites, read from the graphs.
use Rattle.std.proofs.Common.{◌≡◌, ℕ, zero, suc, ◌<◌, List, [], ◌∷◌, length, get_or, sym, ap, subst, ◌∙◌}
use Rattle.std.specs.Prelude.{All, Some, Contains, map, option_map, slice_get}
use Rattle.std.proofs.lemmas.List.{length-map}
use Rattle.std.proofs.lemmas.Option.{get_or_from_slice_get, slice_get-map, slice_get_within}
use Rattle.fcg_views.specs.declared.view.View.{View}
use Rattle.fcg_views.specs.declared.view.Method.{Method}
use Rattle.fcg_views.specs.declared.view.Site.{Site}
use Rattle.fcg_views.specs.Valid.{IsValid}
use Rattle.fcg_partial.specs.Graph.{StoredType, StoredMethod, StoredSite}
use Rattle.fcg_partial.specs.Parts.{PartShown}
use Rattle.fcg_partial.specs.Views.{graph_of, names_of, refs_of, type_row, method_row, site_row, targets_of, targets_of_view, targets_of_method}
use Rattle.fcg_partial.specs.Accessors.{HasType, HasMethod, HasSite, row_of_site, type_in, method_in, no_type, no_method}
use Rattle.fcg_partial.specs.declared.row.SiteRow.{SiteRow}
use Rattle.fcg_analysis.specs.Declarations.{Placed}
use Rattle.fcg_analysis.proofs.General.Members.{IsIn-from_Contains, Contains-from_IsIn, flat_map_in, map_in}
use Rattle.fcg_analysis.proofs.General.Places.{member_at}
use Rattle.fcg_join.specs.Parts.{placed_view, placed_of}
use Rattle.fcg_stitch.specs.Internal.References.{IsReference}

-- the part at a place
pub part_there : (parts : List PartShown) (i : ℕ) (p q : PartShown) → slice_get parts i ≡ Some q → p ≡ get_or parts i p → p ≡ q
part_there parts i p q h e = e ∙ get_or_from_slice_get parts i q p h

-- the view of a type of a part
pub view_there : (p : PartShown) (k : ℕ) (t : Placed) → slice_get (placed_of p) k ≡ Some t → slice_get p.views k ≡ Some t.view
view_there p k t e = at p.views k e
  where
    at : (vs : List View) (k : ℕ) → slice_get (map (placed_view p) vs) k ≡ Some t → slice_get vs k ≡ Some t.view
    at [] k e = absurd cc
    at (v ∷ vs) zero e = ap (option_map (λ (u : Placed). u.view)) e
    at (v ∷ vs) (suc k) e = at vs k e

pub valid_at : (vs : List View) (k : ℕ) (v : View) → All IsValid vs → slice_get vs k ≡ Some v → IsValid v
valid_at vs k v valid e = subst IsValid (get_or_from_slice_get vs k v v e) (valid k v (slice_get_within vs k v e))

module _ (p : PartShown) (k j : ℕ) (v : View) (there : slice_get p.views k ≡ Some v) (m : Method) (here : slice_get v.methods j ≡ Some m) where
  abbrev own_names : List (List ℕ)
  own_names = (graph_of p.views).names

  abbrev own_refs : List (List ℕ)
  own_refs = (graph_of p.views).refs

  abbrev stored_type : StoredType
  stored_type = type_row own_names own_refs v

  abbrev stored_method : StoredMethod
  stored_method = method_row own_names own_refs m

  type_there : HasType (graph_of p.views) k stored_type
  unfolding graph_of
  type_there =
      let row = type_row (names_of p.views) (refs_of (names_of p.views) p.views) in
      slice_get-map row p.views k ∙ ap (option_map row) there

  type_is : type_in (graph_of p.views) k ≡ stored_type
  type_is = get_or_from_slice_get (graph_of p.views).types k stored_type no_type type_there

  stored_there : slice_get stored_type.methods j ≡ Some stored_method
  stored_there = slice_get-map (method_row own_names own_refs) v.methods j ∙ ap (option_map (method_row own_names own_refs)) here

  method_there : HasMethod (graph_of p.views) k j stored_method
  method_there = (stored_type, type_there, stored_there)

  method_is : method_in (graph_of p.views) k j ≡ stored_method
  method_is =
      ap (λ (t : StoredType). get_or t.methods j no_method) type_is
      ∙ get_or_from_slice_get stored_type.methods j stored_method no_method stored_there

  -- the graph has the method
  pub method_within : j < length (type_in (graph_of p.views) k).methods
  method_within =
      let many : length stored_type.methods ≡ length v.methods = length-map v.methods (method_row own_names own_refs) in
      subst (λ (n : ℕ). j < n) (sym many ∙ sym (ap (λ (t : StoredType). length t.methods) type_is)) (slice_get_within v.methods j m here)

  -- with as many sites
  pub sites_many : length (method_in (graph_of p.views) k j).sites ≡ length m.sites
  sites_many = ap (λ (n : StoredMethod). length n.sites) method_is ∙ length-map m.sites (site_row own_names own_refs)

  target_there : (n : ℕ) (s : Site) → slice_get m.sites n ≡ Some s → Contains (targets_of p.views) s.target
  target_there n s h =
      Contains-from_IsIn (targets_of p.views) s.target
      (flat_map_in targets_of_view p.views v s.target (IsIn-from_Contains p.views v (member_at p.views k v there))
      (flat_map_in targets_of_method v.methods m s.target (IsIn-from_Contains v.methods m (member_at v.methods j m here))
      (map_in (λ (x : Site). x.target) m.sites s (IsIn-from_Contains m.sites s (member_at m.sites n s h)))))

  -- and the row of each site
  pub site_is : (n : ℕ) (s : Site) → slice_get m.sites n ≡ Some s → (row : SiteRow) → ((x : StoredSite) → HasSite (graph_of p.views) k j n x → row ≡ row_of_site x)
      → (row.kind ≡ s.kind) × IsReference p row.reference s.target
  site_is n s h row each =
      let is = each (site_row own_names own_refs s) (stored_method, method_there, slice_get-map (site_row own_names own_refs) m.sites n ∙ ap (option_map (site_row own_names own_refs)) h) in
      (ap (λ (r : SiteRow). r.kind) is, record { there = target_there n s h; number = ap (λ (r : SiteRow). r.reference) is })
