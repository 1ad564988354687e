-- What the tables of names answer.
use Rattle.std.proofs.Common.{◌≡◌, ℕ, ◌<◌, List, [], length, get_or, ap, subst, ◌∙◌}
use Rattle.std.specs.Prelude.{Option, Some, None, IfSome, option_map, map, slice_get}
use Rattle.std.proofs.lemmas.List.{get_or-map}
use Rattle.std.proofs.lemmas.Option.{slice_get_within, slice_get-get_or, get_or_from_slice_get}
use Rattle.fcg_grammar.specs.Table.{place}
use Rattle.fcg_grammar.proofs.Among.{Among, among_flat}
use Rattle.fcg_grammar.proofs.TableLaws.{table_among, at_place}
use Rattle.fcg_partial.specs.Parts.{PartShown}
use Rattle.fcg_join.specs.declared.id.NameId.{NameId}
use Rattle.fcg_join.specs.SetNames.{part_names, all_names, set_names}
use Rattle.fcg_join.proofs.GraphRows.{among_item}

-- a number that is found is that of a name
pub named_within : (names here : List (List ℕ)) (n : List ℕ) (o : Option ℕ) (found : Option NameId) → here ≡ names → option_map (λ id. id.0) found ≡ o → IfSome o (λ k. slice_get here k ≡ Some n)
    → IfSome found (λ id. id.0 < length names)
named_within names here n o None e f h = tt
named_within names here n None (Some id) e f h = absurd cc
named_within names here n (Some k) (Some id) e f h =
    let same : id.0 ≡ k = cc in
    subst (λ (ns : List (List ℕ)). id.0 < length ns) e (slice_get_within here id.0 n (ap (slice_get here) same ∙ h))

module _ (parts : List PartShown) where
  part_name_among : (i k : ℕ) (p : PartShown) (n : List ℕ) → slice_get parts i ≡ Some p → slice_get (part_names p) k ≡ Some n → Among n (set_names parts)
  unfolding set_names all_names
  part_name_among i k p n e f = table_among (all_names parts) n (among_flat part_names p n parts (among_item parts i p e) (among_item (part_names p) k n f))

  -- the name of a name's number
  number_there : (n : List ℕ) → Among n (set_names parts) → slice_get (set_names parts) (place (set_names parts) n) ≡ Some n
  number_there n a =
      let r = at_place (set_names parts) n n a in
      slice_get-get_or (set_names parts) (place (set_names parts) n) n r.0 ∙ ap (λ (m : List ℕ). Some m) r.1

  -- the number of a part's name
  pub part_number : (i k : ℕ) (p : PartShown) (n : List ℕ) → slice_get parts i ≡ Some p → slice_get (part_names p) k ≡ Some n → (numbers : List ℕ) → numbers ≡ map (place (set_names parts)) (part_names p)
      → slice_get (set_names parts) (get_or numbers k 0) ≡ Some n
  part_number i k p n e f numbers g =
      let number : get_or numbers k 0 ≡ place (set_names parts) n =
      ap (λ ns. get_or ns k 0) g ∙ get_or-map (place (set_names parts)) (part_names p) k [] 0 (slice_get_within (part_names p) k n f)
      ∙ ap (place (set_names parts)) (get_or_from_slice_get (part_names p) k n [] f) in
      ap (slice_get (set_names parts)) number ∙ number_there n (part_name_among i k p n e f)
