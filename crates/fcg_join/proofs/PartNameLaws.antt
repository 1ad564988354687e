-- The names of parts, by their places and by their numbers.
use Rattle.std.proofs.Common.{◌≡◌, ℕ, zero, suc, ◌+◌, ◌<◌, ◌≤◌, List, [], ◌∷◌, ◌++◌, length, get_or, take, drop, refl, sym, ap, subst, ◌∙◌, arith}
use Rattle.std.specs.Prelude.{map, All}
use Rattle.std.specs.List.{AllByRecursion, range_with_len}
use Rattle.std.proofs.lemmas.List.{map-append, get_or_default, length-map, length-append, drop_more, take_at, drop_at}
use Rattle.std.proofs.lemmas.List.Elements.{All-from_recursion}
use Rattle.std.proofs.lemmas.Option.{get_or_from_slice_get}
use Rattle.fcg_grammar.specs.Table.{table}
use Rattle.fcg_partial.specs.Parts.{PartShown}
use Rattle.fcg_join.specs.declared.part_names.NamePlace.{NamePlace}
use Rattle.fcg_join.specs.Names.{text_at, AreNumbered}
use Rattle.fcg_join.specs.SetNames.{part_names, all_names, set_names}
use Rattle.fcg_join.specs.Internal.PartNames.{places_in, IsNamePlace, name_there, no_part, no_place}
use Rattle.fcg_join.specs.Internal.Collected.{collected}
use Rattle.fcg_join.proofs.CollectedLaws.{From, later, here, from_start, map_twice, all_both, all_ranged, by_places, same_map, all_picked}

module _ (parts : List PartShown) where
  pub names_at_places : (i : ℕ) (ps : List PartShown) → From parts i ps → map (name_there parts) (collected places_in i ps) ≡ all_names ps
  unfolding all_names
  names_at_places i [] h = refl
  names_at_places i (p ∷ ps) h =
      map-append (name_there parts) (places_in i p) (collected places_in (i + 1) ps)
      ∙ ap (λ ns. ns ++ map (name_there parts) (collected places_in (i + 1) ps)) own
      ∙ ap (λ ns. part_names p ++ ns) (names_at_places (i + 1) ps (later parts i p ps h))
    where
      mk : ℕ → NamePlace
      mk k = record { part = i; number = k }

      part_is : get_or parts i no_part ≡ p
      part_is = get_or_from_slice_get parts i p no_part (here parts i p ps h)

      own : map (name_there parts) (places_in i p) ≡ part_names p
      own = map_twice (name_there parts) mk (range_with_len 0 (length (part_names p)))
          ∙ by_places (part_names p) (λ k. name_there parts (mk k)) (λ k d l. ap (λ q. get_or (part_names q) k []) part_is ∙ get_or_default (part_names p) k [] d l)

  pub places_there : (i : ℕ) (ps : List PartShown) → From parts i ps → AllByRecursion (IsNamePlace parts) (collected places_in i ps)
  places_there i [] h = tt
  places_there i (p ∷ ps) h =
      all_both (IsNamePlace parts) (places_in i p) (collected places_in (i + 1) ps)
      (all_ranged mk (IsNamePlace parts) 0 (length (part_names p)) (λ k l. record { part = p; part_is = here parts i p ps h; within = omega arith }))
      (places_there (i + 1) ps (later parts i p ps h))
    where
      mk : ℕ → NamePlace
      mk k = record { part = i; number = k }

  pub all_places : (places : List NamePlace) → places ≡ collected places_in 0 parts → All (IsNamePlace parts) places
  all_places places e = subst (λ (ps : List NamePlace). All (IsNamePlace parts) ps) (sym e) (All-from_recursion (IsNamePlace parts) (collected places_in 0 parts) (places_there 0 parts (from_start parts)))

  pub all_texts : (places : List NamePlace) (texts : List (List ℕ)) → places ≡ collected places_in 0 parts → texts ≡ map (name_there parts) places → texts ≡ all_names parts
  all_texts places texts e f = f ∙ ap (map (name_there parts)) e ∙ names_at_places 0 parts (from_start parts)

  pub picked_names : (places picked : List NamePlace) (texts : List (List ℕ)) (ks : List ℕ) → texts ≡ map (name_there parts) places → All (λ k. k < length places) ks
      → picked ≡ map (λ k. get_or places k no_place) ks → map (name_there parts) picked ≡ map (text_at texts) ks
  picked_names places picked texts ks f w e =
      ap (map (name_there parts)) e ∙ map_twice (name_there parts) (λ k. get_or places k no_place) ks
      ∙ same_map (λ k. name_there parts (get_or places k no_place)) (text_at texts) ks (λ j d l. sym (ap (λ ts. get_or ts (get_or ks j d) []) f ∙ at places (get_or ks j d) (w j d l)))
    where
      at : (ps : List NamePlace) (k : ℕ) → k < length ps → get_or (map (name_there parts) ps) k [] ≡ name_there parts (get_or ps k no_place)
      at [] k l = absurd (omega arith)
      at (p ∷ ps) zero l = refl
      at (p ∷ ps) (suc k) l = at ps k (omega arith)

-- the places that are picked by their numbers are those of the names of the set
module _ (parts : List PartShown) (places picked : List NamePlace) (texts : List (List ℕ)) (numbers ks : List ℕ)
    (made : places ≡ collected places_in 0 parts) (read : texts ≡ map (name_there parts) places) (numbered : AreNumbered texts numbers ks)
    (kept : picked ≡ map (λ k. get_or places k no_place) ks) where
  pub ks_within : All (λ k. k < length places) ks
  ks_within = λ k d l. (let w = numbered.within k d l in let e = ap (λ ts. length ts) read ∙ length-map places (name_there parts) in omega arith)

  pub picked_there : All (IsNamePlace parts) picked
  picked_there = subst (λ (ps : List NamePlace). All (IsNamePlace parts) ps) (sym kept) (all_picked (IsNamePlace parts) places no_place ks (all_places parts places made) ks_within)

  pub picked_are : map (name_there parts) picked ≡ set_names parts
  unfolding set_names
  picked_are = picked_names parts places picked texts ks read ks_within kept ∙ numbered.of_numbers ∙ ap table (all_texts parts places texts made read)

-- the numbers of a part's names, and what is left
module _ (f : List ℕ → ℕ) (parts : List PartShown) (i : ℕ) (p : PartShown) (rest : List ℕ) (l : i < length parts) (at : p ≡ get_or parts i p)
    (h : rest ≡ map f (all_names (drop i parts))) (n : ℕ) (e : n ≡ length (part_names p)) where
  whole : rest ≡ map f (part_names p) ++ map f (all_names (drop (i + 1) parts))
  unfolding all_names
  whole =
      h ∙ ap (λ ps. map f (all_names ps)) (drop_more parts i p l ∙ ap (λ q. q ∷ drop (i + 1) parts) (sym at))
      ∙ map-append f (part_names p) (all_names (drop (i + 1) parts))

  long : length (map f (part_names p)) ≡ n
  long = length-map (part_names p) f ∙ sym e

  pub cut_long : n ≤ length rest
  cut_long = (let w = ap (λ ns. length ns) whole ∙ length-append (map f (part_names p)) (map f (all_names (drop (i + 1) parts))) in let g = long in omega arith)

  pub cut_front : take n rest ≡ map f (part_names p)
  cut_front = ap (take n) whole ∙ take_at (map f (part_names p)) (map f (all_names (drop (i + 1) parts))) n long

  pub cut_back : drop n rest ≡ map f (all_names (drop (i + 1) parts))
  cut_back = ap (drop n) whole ∙ drop_at (map f (part_names p)) (map f (all_names (drop (i + 1) parts))) n long
