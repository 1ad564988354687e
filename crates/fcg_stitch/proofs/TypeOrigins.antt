-- The release that a type is of, by its place in the parts.
use Rattle.std.proofs.Common.{◌≡◌, ℕ, ◌<◌, List, length, get_or, sym, ap, ◌∙◌}
use Rattle.std.specs.Prelude.{Option, Some, None, option_map, slice_get}
use Rattle.std.proofs.lemmas.Option.{slice_get_within, slice_get-map, get_or_from_slice_get}
use Rattle.fcg_views.specs.declared.view.View.{View}
use Rattle.fcg_partial.specs.Parts.{PartShown}
use Rattle.fcg_analysis.specs.Declarations.{Placed}
use Rattle.fcg_join.specs.Parts.{placed_view, placed_of}
use Rattle.fcg_join.specs.Joined.{IsOrigin}
use Rattle.fcg_join.specs.declared.id.TypeId.{TypeId}
use Rattle.fcg_join.specs.declared.id.TypeOrigin.{TypeOrigin}

-- a view of a part has the part's coordinate
of_part : (p : PartShown) (k : ℕ) (t : Placed) → slice_get (placed_of p) k ≡ Some t → t.coordinate ≡ p.coordinate
of_part p k t h = at (slice_get p.views k) (sym (slice_get-map (placed_view p) p.views k) ∙ h)
  where
    at : (o : Option View) → option_map (placed_view p) o ≡ Some t → t.coordinate ≡ p.coordinate
    at None e = absurd (cc)
    at (Some v) e = let same : placed_view p v ≡ t = cc in sym (ap (λ (u : Placed). u.coordinate) same)

module _ (parts : List PartShown) (id : TypeId) (t : Placed) (o : TypeOrigin) (w : IsOrigin parts id t o) where
  pub part_within : o.part < length parts
  part_within = slice_get_within parts o.part w.part w.part_is

  -- by the part at its place
  pub coordinate_is : (p : PartShown) → p ≡ get_or parts o.part p → p.coordinate ≡ t.coordinate
  coordinate_is p e =
      let same : p ≡ w.part = e ∙ get_or_from_slice_get parts o.part w.part p w.part_is in
      ap (λ (q : PartShown). q.coordinate) same ∙ sym (of_part w.part o.place t w.type_is)
