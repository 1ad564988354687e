-- What types mention themselves, by numbers.
use Rattle.std.proofs.Common.{◌≡◌, ℕ, List, [], ◌∷◌, ◌++◌, length, get_or, refl, sym, ap, subst, ◌∙◌, inl, inr, cond}
use Rattle.std.specs.Prelude.{map, flat_map, filter, Bool, true, false, ◌↔◌, ◌⊎◌, Option, Some, None, is_none, option_map, option_to_list, slice_get, Contains}
use Rattle.std.specs.List.{IsDistinct}
use Rattle.std.proofs.lemmas.Option.{get_or_from_slice_get, slice_get-map}
use Rattle.fcg_grammar.specs.Table.{place}
use Rattle.fcg_grammar.proofs.Among.{Among, Contains-among}
use Rattle.fcg_grammar.proofs.TableLaws.{table_rises}
use Rattle.fcg_partial.specs.Parts.{PartShown}
use Rattle.fcg_analysis.specs.NamesAndFlags.{has}
use Rattle.fcg_analysis.specs.Declarations.{Placed, is_type, superclass_names, interface_names, names_of}
use Rattle.fcg_analysis.specs.Types.{type_named, known, links, above}
use Rattle.fcg_analysis.specs.Laws.Statements.{IsAcyclic}
use Rattle.fcg_analysis.proofs.General.Members.{IsIn, IsIn-from_Contains, in_append}
use Rattle.fcg_analysis.proofs.General.Walking.{led_from_walk}
use Rattle.fcg_analysis.proofs.WinnerLaws.{known_acyclic}
use Rattle.fcg_order.specs.Links.{row}
use Rattle.fcg_join.specs.declared.heads.TypeHead.{TypeHead}
use Rattle.fcg_join.specs.SetNames.{set_names, all_names}
use Rattle.fcg_join.specs.Internal.TypeHeads.{IsHead}
use Rattle.fcg_join.specs.Internal.TypeNumbers.{AreHeads, FindsHeads, head_at, type_numbered}
use Rattle.fcg_join.specs.TypeTables.{HasOwnRows, HasNames, mentions_at, own_mentions}
use Rattle.fcg_join.specs.Joined.{IsTypeNumber}
use Rattle.fcg_join.specs.Internal.Mentions.{absent_number, own_numbered}
use Rattle.fcg_join.proofs.Places.{place_of, has_in}
use Rattle.fcg_join.proofs.HeadLaws.{head_named}
use Rattle.fcg_join.proofs.JoinedLaws.{head_of_type}
use Rattle.fcg_join.proofs.GapLaws.{superclass_are, superclass_named, interface_name_named, gives_named}
use Rattle.fcg_join.proofs.MentionRows.{own_is_mentioned}

-- what passes of two lists together, and its images
kept_append : {X Y : Type 0} (f : X → Y) (p : X → Bool) (xs ys : List X) → map f (filter p (xs ++ ys)) ≡ map f (filter p xs) ++ map f (filter p ys)
kept_append f p [] ys = refl
kept_append f p (x ∷ xs) ys = at (p x) (kept_append f p xs ys)
  where
    at : (b : Bool) → map f (filter p (xs ++ ys)) ≡ map f (filter p xs) ++ map f (filter p ys)
        → map f (cond b (x ∷ filter p (xs ++ ys)) (filter p (xs ++ ys))) ≡ map f (cond b (x ∷ filter p xs) (filter p xs)) ++ map f (filter p ys)
    at true e = ap (λ zs. f x ∷ zs) e
    at false e = e

-- no walk leads from a known type back
pub known_are_acyclic : (views : List Placed) → IsAcyclic (known views)
unfolding above
known_are_acyclic views t c w = known_acyclic views t c (led_from_walk links (known views) t t w)

module _ (parts : List PartShown) (heads : List TypeHead) (types : List Placed) (by_name : List (Option ℕ))
    (are : AreHeads parts heads types) (d : IsDistinct is_type types) (f : FindsHeads heads by_name (length (set_names parts))) where
  abbrev N : List (List ℕ)
  N = set_names parts

  abbrev is_absent : List ℕ → Bool
  is_absent n = is_none (type_named types n)

  same_none : (n : List ℕ) → Among n N → is_none (type_numbered by_name (place N n)) ≡ is_absent n
  same_none n a = at (type_numbered by_name (place N n)) (type_named types n) (gives_named parts heads types by_name are d f n a)
    where
      at : (o : Option ℕ) (r : Option Placed) → IsTypeNumber types o r → is_none o ≡ is_none r
      at None None h = refl
      at None (Some u) h = absurd h
      at (Some y) None h = absurd h
      at (Some y) (Some u) h = refl

  -- the numbers of the absent ones of some names
  absent_are : (ns : List (List ℕ)) → ((n : List ℕ) → IsIn n ns → Among n N) → flat_map (absent_number by_name) (map (place N) ns) ≡ map (place N) (filter is_absent ns)
  absent_are [] h = refl
  absent_are (n ∷ ns) h =
      ap (λ b. cond b (place N n ∷ []) [] ++ flat_map (absent_number by_name) (map (place N) ns)) (same_none n (h n (inl refl)))
      ∙ at (is_absent n) (absent_are ns (λ m i. h m (inr i)))
    where
      at : (b : Bool) → flat_map (absent_number by_name) (map (place N) ns) ≡ map (place N) (filter is_absent ns)
          → cond b (place N n ∷ []) [] ++ flat_map (absent_number by_name) (map (place N) ns) ≡ map (place N) (cond b (n ∷ filter is_absent ns) (filter is_absent ns))
      at true e = ap (λ zs. place N n ∷ zs) e
      at false e = e

  pub own_are : (h : TypeHead) (t : Placed) → IsHead parts N h t → (interfaces : List ℕ) → interfaces ≡ map (place N) (interface_names t) → own_numbered by_name h interfaces ≡ own_mentions N types t
  own_are h t is interfaces e =
      let A : ℕ → List ℕ = absent_number by_name in
      let front : List ℕ = cond (has 0x0200 t.view.flags) (place N t.view.name ∷ []) [] in
      ap (λ (g : TypeHead). cond (has 0x0200 g.flags) (g.name ∷ []) [] ++ (flat_map A interfaces ++ flat_map A (option_to_list h.superclass))) is.head_is
      ∙ ap (λ (ns : List ℕ). front ++ (flat_map A ns ++ flat_map A (option_to_list h.superclass))) e
      ∙ ap (λ (ns : List ℕ). front ++ (flat_map A (map (place N) (interface_names t)) ++ flat_map A ns)) (superclass_are parts h t is)
      ∙ ap (λ (ns : List ℕ). front ++ (ns ++ flat_map A (map (place N) (superclass_names t)))) (absent_are (interface_names t) (interface_name_named parts h t is))
      ∙ ap (λ (ns : List ℕ). front ++ (map (place N) (filter is_absent (interface_names t)) ++ ns)) (absent_are (superclass_names t) (superclass_named parts h t is))
      ∙ ap (λ (ns : List ℕ). front ++ ns) (sym (kept_append (place N) is_absent (interface_names t) (superclass_names t)))

  -- the names of the set are those of its types, and all that these use
  pub names_are_had : HasNames N types
  unfolding set_names
  names_are_had = record {
    of_type = λ t c. (let y = place_of types t c in let is = head_of_type parts heads types are d y.0 t y.1 in Contains-among t.view.name N (head_named parts (head_at heads y.0) t is));
    used = λ t n c i. (let y = place_of types t c in let is = head_of_type parts heads types are d y.0 t y.1 in
        Contains-among n N (used_named (head_at heads y.0) t is n (in_append (interface_names t) (superclass_names t) n (IsIn-from_Contains (names_of t) n i))));
    rise = table_rises (all_names parts);
  }
    where
      used_named : (h : TypeHead) (t : Placed) → IsHead parts (set_names parts) h t → (n : List ℕ) → IsIn n (interface_names t) ⊎ IsIn n (superclass_names t) → Among n (set_names parts)
      used_named h t is n (inl i) = interface_name_named parts h t is n i
      used_named h t is n (inr i) = superclass_named parts h t is n i

  pub own_rows : (own : List (List ℕ)) → own ≡ map (own_mentions N types) types → HasOwnRows types (mentions_at N types) (row own)
  own_rows own e x t a n =
      subst (λ ns. Contains ns n ↔ (mentions_at N types n t ≡ true)) (sym here) (own_is_mentioned N types names_are_had d t (has_in types x t a) n)
    where
      here : get_or own x [] ≡ own_mentions N types t
      here = get_or_from_slice_get own x (own_mentions N types t) []
          (ap (λ (rs : List (List ℕ)). slice_get rs x) e ∙ slice_get-map (own_mentions N types) types x ∙ ap (option_map (own_mentions N types)) a)
