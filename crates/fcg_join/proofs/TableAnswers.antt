-- What the tables of a Joined answer.
use Rattle.std.proofs.Common.{◌≡◌, ℕ, ◌<◌, List, length, get_or, sym, ap, subst, ◌∙◌, arith}
use Rattle.std.specs.Prelude.{Option, Some, None, IfSome, option_map, ◌||◌, map, slice_get, Contains}
use Rattle.std.proofs.lemmas.List.{length-map, get_or-map}
use Rattle.std.proofs.lemmas.Option.{slice_get_within}
use Rattle.fcg_partial.specs.Parts.{PartShown}
use Rattle.fcg_analysis.specs.Declarations.{Placed, is_object, is_interface}
use Rattle.fcg_analysis.specs.Types.{superclass, type_named}
use Rattle.fcg_analysis.specs.Laws.ChainParts.{next_in_chain}
use Rattle.fcg_analysis.specs.Laws.Statements.{IsAcyclic}
use Rattle.fcg_analysis.proofs.General.Walking.{led_from_walk}
use Rattle.fcg_analysis.proofs.WinnerLaws.{known_distinct, known_acyclic}
use Rattle.fcg_analysis.specs.Types.{above, links}
use Rattle.fcg_join.specs.declared.id.TypeId.{TypeId}
use Rattle.fcg_join.specs.declared.tables.TypeTables.{TypeTables}
use Rattle.fcg_join.specs.Parts.{placed, types_of}
use Rattle.fcg_join.specs.declared.part_names.NamePlace.{NamePlace}
use Rattle.fcg_join.specs.SetNames.{set_names}
use Rattle.fcg_join.specs.Internal.PartNames.{name_there}
use Rattle.fcg_join.specs.Internal.TypeHeads.{IsHead, no_head}
use Rattle.fcg_join.specs.TypeLinks.{HasTypeAt}
use Rattle.fcg_join.specs.Internal.TypeNumbers.{head_at, superclass_numbered, AreHeads, FindsHeads}
use Rattle.fcg_join.specs.declared.heads.TypeHead.{TypeHead}
use Rattle.fcg_join.specs.Internal.Below.{AreSuperclasses}
use Rattle.fcg_join.specs.Joined.{IsTypeNumber}
use Rattle.fcg_join.specs.Internal.Tables.{IsJoined, next_numbered, superclasses_of}
use Rattle.fcg_join.proofs.Places.{has_in}
use Rattle.fcg_join.proofs.ZipLaws.{zip_long}
use Rattle.fcg_join.proofs.JoinedLaws.{head_of_type, gives_superclass, gives_next, gives_named, gives_unnamed}

acyclic : (parts : List PartShown) → IsAcyclic (types_of parts)
unfolding above
acyclic parts t k w = known_acyclic (placed parts) t k (led_from_walk links (types_of parts) t t w)

pub in_range : (types : List Placed) (o : Option ℕ) (r : Option Placed) (found : Option TypeId) → IsTypeNumber types o r → option_map (λ id. id.0) found ≡ o → IfSome found (λ id. id.0 < length types)
in_range types o r None h e = tt
in_range types None r (Some id) h e = absurd cc
in_range types (Some y) None (Some id) h e = absurd h
in_range types (Some y) (Some u) (Some id) h e = (let same : id.0 ≡ y = cc in subst (λ (n : ℕ). n < length types) (sym same) (slice_get_within types y u h))

-- the superclasses by numbers, as they are made
module _ (parts : List PartShown) (heads : List TypeHead) (by_name : List (Option ℕ)) (are : AreHeads parts heads (types_of parts)) (f : FindsHeads heads by_name (length (set_names parts)))
    (superclasses : List (Option ℕ)) (e : superclasses ≡ superclasses_of heads by_name) where
  pub many_made : length superclasses ≡ length (types_of parts)
  many_made = ap (λ ss. length ss) e ∙ length-map heads (λ h. superclass_numbered heads by_name h.superclass) ∙ zip_long (IsHead parts (set_names parts)) heads (types_of parts) are

  pub superclasses_made : AreSuperclasses (types_of parts) superclasses
  superclasses_made y x h =
      let l : y < length heads = (let a = slice_get_within (types_of parts) y x h in let b = zip_long (IsHead parts (set_names parts)) heads (types_of parts) are in omega (arith, a, b)) in
      gives_superclass parts heads (types_of parts) are (known_distinct (placed parts)) by_name f y x h (get_or superclasses y None)
      (ap (λ ss. get_or ss y None) e ∙ get_or-map (λ h. superclass_numbered heads by_name h.superclass) heads y no_head None l)

module _ (parts : List PartShown) (t : TypeTables) (j : IsJoined parts t) where
  pub heads_many : length t.heads.items ≡ length (types_of parts)
  heads_many = zip_long (IsHead parts (set_names parts)) t.heads.items (types_of parts) j.heads

  pub superclasses_many : length t.superclasses.items ≡ length (types_of parts)
  superclasses_many =
      ap (λ ss. length ss) j.superclasses ∙ length-map t.heads.items (λ h. superclass_numbered t.heads.items t.linked.by_name.items h.superclass) ∙ heads_many

  module _ (y : ℕ) (x : Placed) (h : HasTypeAt (types_of parts) y x) where
    pub head_there : IsHead parts (set_names parts) (head_at t.heads.items y) x
    head_there = head_of_type parts t.heads.items (types_of parts) j.heads (known_distinct (placed parts)) y x h

    pub superclass_there : IsTypeNumber (types_of parts) (get_or t.superclasses.items y None) (superclass (types_of parts) x)
    superclass_there =
        let l : y < length t.heads.items = (let a = slice_get_within (types_of parts) y x h in let b = heads_many in omega arith) in
        gives_superclass parts t.heads.items (types_of parts) j.heads (known_distinct (placed parts)) t.linked.by_name.items j.by_name y x h (get_or t.superclasses.items y None)
        (ap (λ ss. get_or ss y None) j.superclasses ∙ get_or-map (λ h. superclass_numbered t.heads.items t.linked.by_name.items h.superclass) t.heads.items y no_head None l)

    pub next_there : IsTypeNumber (types_of parts) (next_numbered (get_or t.superclasses.items y None) (is_object x || is_interface x) t.object) (next_in_chain (types_of parts) x)
    next_there = gives_next parts t.heads.items (types_of parts) j.heads (known_distinct (placed parts)) (acyclic parts) x (has_in (types_of parts) y x h) (get_or t.superclasses.items y None) t.object superclass_there j.object'

  -- ---- the type of a name
  pub names_here : (ps : List PartShown) (places : List NamePlace) → ps ≡ parts → places ≡ t.names.places.items → map (name_there ps) places ≡ set_names parts
  names_here ps places e f = ap (λ qs. map (name_there qs) places) e ∙ ap (map (name_there parts)) f ∙ j.names.names_are

  pub named_there : (n : List ℕ) (k : ℕ) → slice_get (set_names parts) k ≡ Some n → IsTypeNumber (types_of parts) (get_or t.linked.by_name.items k None) (type_named (types_of parts) n)
  named_there n k e = gives_named parts t.heads.items (types_of parts) j.heads (known_distinct (placed parts)) t.linked.by_name.items j.by_name n k e

  pub unnamed_there : (n : List ℕ) → (Contains (set_names parts) n → ⊥) → IsTypeNumber (types_of parts) None (type_named (types_of parts) n)
  unnamed_there n h = gives_unnamed parts t.heads.items (types_of parts) j.heads (known_distinct (placed parts)) t.linked.by_name.items j.by_name n h
