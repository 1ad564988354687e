-- The references of parts by their numbers, and where methods stand.
use Rattle.std.specs.Prelude.{◌≡◌, ℕ, ◌<◌, List, Contains, Some, length, slice_get}
use Rattle.fcg_grammar.specs.Table.{place}
use Rattle.fcg_views.specs.declared.view.View.{View}
use Rattle.fcg_views.specs.declared.view.Ref.{Ref}
use Rattle.fcg_views.specs.declared.view.Site.{Site}
use Rattle.fcg_views.specs.declared.view.Method.{Method}
use Rattle.fcg_partial.specs.Parts.{PartShown}
use Rattle.fcg_partial.specs.Views.{graph_of, ref_row, targets_of}
use Rattle.fcg_partial.specs.declared.row.RefRow.{RefRow}
use Rattle.fcg_partial.specs.declared.row.SiteRow.{SiteRow}
use Rattle.fcg_join.specs.SetNames.{part_names, set_names}
use Rattle.fcg_join.specs.declared.id.NumberedRef.{NumberedRef}
use Rattle.fcg_stitch.specs.declared.place.MethodPlace.{MethodPlace}

-- a site of a part has this reference, which has this number in the part's graph
pub record IsReference (p : PartShown) (r : ℕ) (reference : Ref) : Type 0 where
  pub there : Contains (targets_of p.views) reference
  pub number : r ≡ place (graph_of p.views).refs (ref_row (part_names p) reference)

-- the same of a part by its place
pub record IsReferenceAt (parts : List PartShown) (i r : ℕ) (reference : Ref) : Type 0 where
  pub part : PartShown
  pub part_is : slice_get parts i ≡ Some part
  pub reference_is : IsReference part r reference

-- the row has the numbers that the part has for the names of the reference
pub record IsRefRow (p : PartShown) (row : RefRow) (reference : Ref) : Type 0 where
  pub owner : slice_get (part_names p) row.owner ≡ Some reference.owner
  pub kind : row.owner_is_interface_ref ≡ reference.owner_is_interface_ref
  pub name : slice_get (part_names p) row.name ≡ Some reference.name
  pub desc : slice_get (part_names p) row.desc ≡ Some reference.desc

-- the numbers of the names are those of names of the set
pub record IsRefWithin (parts : List PartShown) (r : NumberedRef) : Type 0 where
  pub owner : r.owner.0 < length (set_names parts)
  pub name : r.name.0 < length (set_names parts)
  pub desc : r.desc.0 < length (set_names parts)

-- m is the method at a place of some parts
pub record StandsAt (parts : List PartShown) (at : MethodPlace) (m : Method) : Type 0 where
  pub part : PartShown
  pub part_is : slice_get parts at.part ≡ Some part
  pub view : View
  pub view_is : slice_get part.views at.place ≡ Some view
  pub method_is : slice_get view.methods at.index ≡ Some m

-- the row is that of a site of a part by its place
pub record IsSiteRow (parts : List PartShown) (i : ℕ) (row : SiteRow) (site : Site) : Type 0 where
  pub kind : row.kind ≡ site.kind
  pub reference : IsReferenceAt parts i row.reference site.target
