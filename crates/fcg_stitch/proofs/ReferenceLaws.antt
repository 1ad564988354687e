-- References of parts, read from their graphs.
use Rattle.std.proofs.Common.{◌≡◌, ℕ, ◌<◌, List, [], length, get_or, refl, sym, ap, subst, ◌∙◌, inl, inr, cond}
use Rattle.std.specs.Prelude.{Bool, true, false, Some, Contains, flat_map, map, slice_get, ◌==◌}
use Rattle.std.proofs.lemmas.Option.{slice_get-get_or}
use Rattle.fcg_grammar.specs.Table.{place}
use Rattle.fcg_grammar.proofs.Among.{Among, among_from_contains, among_left, among_flat, among_map}
use Rattle.fcg_grammar.proofs.TableLaws.{table_among, at_place}
use Rattle.fcg_views.specs.declared.view.Ref.{Ref}
use Rattle.fcg_views.specs.NamesIn.{names_of_ref}
use Rattle.fcg_partial.specs.Parts.{PartShown}
use Rattle.fcg_partial.specs.Views.{graph_of, names_of, refs_of, ref_row, mentions, names_of_view, targets_of}
use Rattle.fcg_partial.specs.Accessors.{HasRef, row_of_ref}
use Rattle.fcg_partial.specs.declared.row.RefRow.{RefRow}
use Rattle.fcg_join.specs.SetNames.{part_names}
use Rattle.fcg_stitch.specs.Internal.References.{IsReference, IsReferenceAt, IsRefRow}
use Rattle.fcg_stitch.proofs.PlaceLaws.{part_there}

-- a row stands at its place
row_there : (rows : List (List ℕ)) (x : List ℕ) → Among x rows → slice_get rows (place rows x) ≡ Some x
row_there rows x a =
    let r = at_place rows x [] a in
    slice_get-get_or rows (place rows x) [] r.0 ∙ ap (λ (y : List ℕ). Some y) r.1

-- a Bool by its number
by_number : (b : Bool) → (cond b 1 0 == 1) ≡ b
by_number true = refl
by_number false = refl

module _ (p : PartShown) (reference : Ref) (there : Contains (targets_of p.views) reference) where
  row_among : Among (ref_row (part_names p) reference) (graph_of p.views).refs
  unfolding graph_of refs_of
  row_among =
      table_among (map (ref_row (names_of p.views)) (targets_of p.views)) (ref_row (names_of p.views) reference)
      (among_map (ref_row (names_of p.views)) reference (targets_of p.views) (among_from_contains reference (targets_of p.views) there))

  name_among : (x : List ℕ) → Among x (names_of_ref reference) → Among x (part_names p)
  unfolding graph_of names_of
  name_among x a =
      table_among (mentions p.views) x
      (among_left x (flat_map names_of_ref (targets_of p.views)) (flat_map names_of_view p.views)
      (among_flat names_of_ref reference x (targets_of p.views) (among_from_contains reference (targets_of p.views) there) a))

module _ (p : PartShown) (r : ℕ) (reference : Ref) (is : IsReference p r reference) where
  abbrev own_row : List ℕ
  own_row = ref_row (part_names p) reference

  -- the graph has its number
  pub ref_within : r < length (graph_of p.views).refs
  ref_within = subst (λ (k : ℕ). k < length (graph_of p.views).refs) (sym is.number) (at_place (graph_of p.views).refs own_row [] (row_among p reference is.there)).0

  ref_there : HasRef (graph_of p.views) r own_row
  ref_there = ap (slice_get (graph_of p.views).refs) is.number ∙ row_there (graph_of p.views).refs own_row (row_among p reference is.there)

  -- and its row
  pub ref_is : (row : RefRow) → ((s : List ℕ) → HasRef (graph_of p.views) r s → row ≡ row_of_ref s) → IsRefRow p row reference
  ref_is row each = subst (λ (w : RefRow). IsRefRow p w reference) (sym (each own_row ref_there)) (record {
    owner = row_there (part_names p) reference.owner (name_among p reference is.there reference.owner (inl refl));
    kind = by_number reference.owner_is_interface_ref;
    name = row_there (part_names p) reference.name (name_among p reference is.there reference.name (inr (inl refl)));
    desc = row_there (part_names p) reference.desc (name_among p reference is.there reference.desc (inr (inr (inl refl))));
  })

-- a reference of a part by its place is one of the part that stands there
module _ (parts items : List PartShown) (i r : ℕ) (reference : Ref) (e : items ≡ parts) (a : IsReferenceAt parts i r reference) (p : PartShown) (is : p ≡ get_or items i p) where
  same_part : p ≡ a.part
  same_part = part_there parts i p a.part a.part_is (is ∙ ap (λ (ps : List PartShown). get_or ps i p) e)

  pub own_part : slice_get parts i ≡ Some p
  own_part = a.part_is ∙ ap (λ (q : PartShown). Some q) (sym same_part)

  pub own_reference : IsReference p r reference
  own_reference = subst (λ (q : PartShown). IsReference q r reference) (sym same_part) a.reference_is
