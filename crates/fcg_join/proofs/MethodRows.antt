-- The methods of a part's types, read from its graph.
use Rattle.std.proofs.Common.{◌≡◌, ℕ, ◌<◌, List, length, get_or, refl, sym, ap, subst, ◌∙◌, inl, inr}
use Rattle.std.specs.Prelude.{Some, option_map, slice_get}
use Rattle.std.proofs.lemmas.List.{length-map}
use Rattle.std.proofs.lemmas.Option.{get_or_from_slice_get, slice_get-map, slice_get_within}
use Rattle.fcg_grammar.proofs.Among.{Among, among_right, among_flat}
use Rattle.fcg_views.specs.declared.view.View.{View}
use Rattle.fcg_views.specs.declared.view.Method.{Method}
use Rattle.fcg_views.specs.NamesIn.{names_of_super}
use Rattle.fcg_partial.specs.Graph.{StoredType, StoredMethod}
use Rattle.fcg_partial.specs.Views.{graph_of, refs_of, type_row, method_row, site_row, names_of_method}
use Rattle.fcg_partial.specs.Accessors.{HasMethod, row_of_method, type_in, no_type}
use Rattle.fcg_partial.specs.declared.row.MethodRow.{MethodRow}
use Rattle.fcg_partial.specs.Parts.{PartShown}
use Rattle.fcg_join.specs.SetNames.{part_names}
use Rattle.fcg_join.specs.declared.methods.MethodPlace.{MethodPlace}
use Rattle.fcg_join.specs.Internal.MethodRows.{HasOwnMethod, row_of_own, IsMethodPlace}
use Rattle.fcg_join.proofs.GraphRows.{among_item, type_there, named, name_back}

module _ (p : PartShown) (k j : ℕ) (m : Method) (h : HasOwnMethod p k j m) where
  abbrev v : View
  v = h.0

  abbrev row_of_type' : StoredType
  row_of_type' = type_row (part_names p) (refs_of (part_names p) p.views) v

  abbrev row_of_m : StoredMethod
  row_of_m = method_row (part_names p) (refs_of (part_names p) p.views) m

  pub method_within : j < length (type_in (graph_of p.views) k).methods
  method_within =
      let e : type_in (graph_of p.views) k ≡ row_of_type' = get_or_from_slice_get (graph_of p.views).types k row_of_type' no_type (type_there p k v h.1) in
      let many : length row_of_type'.methods ≡ length v.methods = length-map v.methods (method_row (part_names p) (refs_of (part_names p) p.views)) in
      subst (λ (n : ℕ). j < n) (sym many ∙ sym (ap (λ (u : StoredType). length u.methods) e)) (slice_get_within v.methods j m h.2)

  pub method_is_there : HasMethod (graph_of p.views) k j row_of_m
  method_is_there = (
    row_of_type',
    type_there p k v h.1,
    slice_get-map (method_row (part_names p) (refs_of (part_names p) p.views)) v.methods j ∙ ap (option_map (method_row (part_names p) (refs_of (part_names p) p.views))) h.2,
  )

  pub own_row : (row : MethodRow) → ((s : StoredMethod) → HasMethod (graph_of p.views) k j s → row ≡ row_of_method s) → row ≡ row_of_own p m
  own_row row each =
      let sites : length row_of_m.sites ≡ length m.sites = length-map m.sites (site_row (part_names p) (refs_of (part_names p) p.views)) in
      each row_of_m method_is_there ∙ ap (λ (n : ℕ). same_row n) sites
    where
      same_row : ℕ → MethodRow
      same_row n = record { name = (row_of_own p m).name; desc = (row_of_own p m).desc; flags = m.flags; sites = n }

  among_own : (x : List ℕ) → Among x (names_of_method m) → Among x (part_names p)
  among_own x a = named p k v h.1 x (inr (among_right x (names_of_super v.superclass) _ (among_right x v.interfaces _ (among_right x _ _ (among_flat names_of_method m x v.methods (among_item v.methods j m h.2) a)))))

  pub name_among : Among m.name (part_names p)
  name_among = among_own m.name (inl refl)

  pub desc_among : Among m.desc (part_names p)
  desc_among = among_own m.desc (inr (inl refl))

  -- its name and its descriptor are back
  pub name_is_back : (row : MethodRow) (n : List ℕ) → row ≡ row_of_own p m → slice_get (part_names p) row.name ≡ Some n → n ≡ m.name
  name_is_back row n e f = name_back (part_names p) m.name n name_among (subst (λ (r : MethodRow). slice_get (part_names p) r.name ≡ Some n) e f)

  pub desc_is_back : (row : MethodRow) (n : List ℕ) → row ≡ row_of_own p m → slice_get (part_names p) row.desc ≡ Some n → n ≡ m.desc
  desc_is_back row n e f = name_back (part_names p) m.desc n desc_among (subst (λ (r : MethodRow). slice_get (part_names p) r.desc ≡ Some n) e f)

-- the method at a place of the parts, by the part at its place
pub own_there : (parts : List PartShown) (at : MethodPlace) (m : Method) → IsMethodPlace parts at m → (p : PartShown) → p ≡ get_or parts at.part p → HasOwnMethod p at.place at.index m
own_there parts at m a p e = subst (λ (q : PartShown). HasOwnMethod q at.place at.index m) (sym (e ∙ get_or_from_slice_get parts at.part a.part p a.part_is)) a.method_is
