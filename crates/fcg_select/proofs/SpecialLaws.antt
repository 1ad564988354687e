-- Which rule a special call meets.
use Rattle.std.proofs.Common.{◌≡◌, ℕ, ◌<◌, eqb, List, length, refl, sym, ap, subst, ◌∙◌}
use Rattle.std.specs.Prelude.{Bool, true, false, not, cond, ◌&&◌, Option, Some, None, option_and_then}
use Rattle.std.specs.Cmp.Lexicographic.{bytes_decides}
use Rattle.std.proofs.lemmas.Bool.{false_from_ne_true, eqb-true, eqb-false}
use Rattle.std.proofs.lemmas.Option.{slice_get_within}
use Rattle.fcg_views.specs.declared.view.Ref.{Ref}
use Rattle.fcg_partial.specs.Parts.{PartShown}
use Rattle.fcg_analysis.specs.NamesAndFlags.{found_in, or_else}
use Rattle.fcg_analysis.specs.Declarations.{Placed, Signature, signature_in, has_signature, is_named, is_type, is_instance}
use Rattle.fcg_analysis.specs.Types.{type_named, chain}
use Rattle.fcg_analysis.specs.Nodes.{Node, declared}
use Rattle.fcg_analysis.specs.Resolution as rules
use Rattle.fcg_analysis.specs.Selection.{searched}
use Rattle.fcg_analysis.specs.Special.{is_init, goes_on, special_init, search_start, found_from, special}
use Rattle.fcg_analysis.specs.Laws.HandedOn.{where_passes}
use Rattle.fcg_analysis.specs.Laws.Methods.{AreApart}
use Rattle.fcg_analysis.proofs.General.Members.{IsIn-from_Contains, and_first, find_in, find_none}
use Rattle.fcg_analysis.proofs.HandingLaws.{search_is, line_known}
use Rattle.fcg_analysis.proofs.WinnerLaws.{known_distinct}
use Rattle.fcg_join.specs.declared.id.TypeId.{TypeId}
use Rattle.fcg_join.specs.declared.id.MethodId.{MethodId}
use Rattle.fcg_join.specs.declared.id.NumberedRef.{NumberedRef}
use Rattle.fcg_join.specs.declared.outcome.Outcome.{Outcome}
use Rattle.fcg_join.specs.declared.outcome.Outcome.TheVariants as outcomes
use Rattle.fcg_join.specs.Parts.{placed, types_of, nodes_of}
use Rattle.fcg_join.specs.Joined.{HasType, GivesType, GivesNode}
use Rattle.fcg_join.specs.SetNames.{set_names}
use Rattle.fcg_join.specs.Numbers.{HasRef}
use Rattle.fcg_join.specs.Outcomes.{GivesOutcome, IfMethod}
use Rattle.fcg_select.specs.Internal.Target.{past_chain}
use Rattle.fcg_join.proofs.GraphRows.{item}
use Rattle.fcg_join.proofs.OwnMentions.{known_are_acyclic}
use Rattle.fcg_join.proofs.FoundNumbers.{type_there, type_known, no_type, no_node}
use Rattle.fcg_select.proofs.OverLaws.{at_home, away, one_each}

-- ---- the known type of a name

pub owner_there : (parts : List PartShown) (owner : Option TypeId) (u t : TypeId) (n : List ℕ) (x : Placed) (r : Bool) → owner ≡ Some u → r ≡ eqb u.0 t.0 → GivesType parts owner (type_named (types_of parts) n) → HasType parts t x → r ≡ is_named n x
owner_there parts owner u t n x r q e g h =
    let w = type_there parts u (type_named (types_of parts) n) (subst (λ o. GivesType parts o (type_named (types_of parts) n)) q g) in
    let s : n ≡ w.0.view.name = (bytes_decides n w.0.view.name).0 (find_in (is_named n) (types_of parts) w.0 w.1).1 in
    e ∙ at w.0 w.2 (eqb u.0 t.0) refl ∙ ap (λ m. is_named m x) (sym s)
  where
    at : (y : Placed) → HasType parts u y → (b : Bool) → eqb u.0 t.0 ≡ b → eqb u.0 t.0 ≡ is_type y x
    at y k true b = b ∙ sym (at_home parts t u x y h k (sym (eqb-true u.0 t.0 b)))
    at y k false b = b ∙ sym (away parts t u x y h k (λ z. eqb-false u.0 t.0 b (sym z)))

pub owner_absent : (parts : List PartShown) (owner : Option TypeId) (t : TypeId) (n : List ℕ) (x : Placed) → owner ≡ None → GivesType parts owner (type_named (types_of parts) n) → HasType parts t x → false ≡ is_named n x
owner_absent parts owner t n x q g h =
    let none = no_type parts (type_named (types_of parts) n) (subst (λ o. GivesType parts o (type_named (types_of parts) n)) q g) in
    sym (false_from_ne_true (is_named n x) (λ e. find_none (is_named n) (types_of parts) x none (IsIn-from_Contains (types_of parts) x (type_known parts t x h)) e))

-- ---- a search

abbrev instances : List PartShown → Signature → Placed → Option Node
instances parts s x =
    found_in (λ u. where_passes (λ m. is_instance m.method) (declared (types_of parts) s u)) (chain (types_of parts) x)

by_instance : (parts : List PartShown) (apart : AreApart (types_of parts)) (t : TypeId) (x : Placed) (s : Signature) → HasType parts t x
    → searched (types_of parts) (λ m. has_signature s m.method && is_instance m.method) (chain (types_of parts) x) ≡ instances parts s x
by_instance parts apart t x s h =
    search_is (types_of parts) (known_are_acyclic (placed parts)) (known_distinct (placed parts)) (one_each parts apart) s (λ m. has_signature s m.method && is_instance m.method) (λ m. is_instance m.method)
    (λ m k. and_first (has_signature s m.method) (is_instance m.method) k) (λ m c g. ap (λ v. v && is_instance m.method) g)
    (chain (types_of parts) x) (line_known (types_of parts) (known_are_acyclic (placed parts)) (known_distinct (placed parts)) (one_each parts apart) x (type_known parts t x h))

pub from_chain : (parts : List PartShown) (apart : AreApart (types_of parts)) (t : TypeId) (x : Placed) (s : Signature) (m : MethodId) → HasType parts t x
    → GivesNode parts (Some m) (instances parts s x) → GivesNode parts (Some m) (found_from (types_of parts) s x)
from_chain parts apart t x s m h g =
    subst (λ o. GivesNode parts (Some m) (or_else o (past_chain (types_of parts) s x))) (sym (by_instance parts apart t x s h)) (at (instances parts s x) g)
  where
    at : (o : Option Node) → GivesNode parts (Some m) o → GivesNode parts (Some m) (or_else o (past_chain (types_of parts) s x))
    at None k = absurd k
    at (Some n) k = k

pub from_past : (parts : List PartShown) (apart : AreApart (types_of parts)) (t : TypeId) (x : Placed) (s : Signature) (r : Option MethodId) → HasType parts t x
    → GivesNode parts None (instances parts s x) → GivesNode parts r (past_chain (types_of parts) s x) → GivesNode parts r (found_from (types_of parts) s x)
from_past parts apart t x s r h g k =
    subst (λ o. GivesNode parts r (or_else o (past_chain (types_of parts) s x))) (sym (by_instance parts apart t x s h ∙ no_node parts (instances parts s x) g)) k

-- ---- the rules, in their order

module _ (parts : List PartShown) (x : Placed) (r : Ref) (b : Bool) (b_is : b ≡ goes_on (rules.resolved (types_of parts) r)) where
  abbrev shape : Bool → Bool → Option Node
  shape v w =
      cond (not v) None (cond w (special_init r (rules.resolved (types_of parts) r)) (option_and_then (found_from (types_of parts) (signature_in r)) (search_start (types_of parts) x r)))

  pub nothing : b ≡ false → GivesNode parts None (special (types_of parts) x r)
  unfolding special
  nothing e = subst (λ o. GivesNode parts None o) (sym (ap (λ v. shape v (is_init r)) (sym b_is ∙ e))) tt

  pub init : b ≡ true → (i : Bool) → i ≡ is_init r → i ≡ true → (m : Option MethodId) → GivesNode parts m (special_init r (rules.resolved (types_of parts) r)) → GivesNode parts m (special (types_of parts) x r)
  unfolding special
  init e i i_is t m g = subst (λ o. GivesNode parts m o) (sym (ap (λ v. shape v (is_init r)) (sym b_is ∙ e) ∙ ap (shape true) (sym i_is ∙ t))) g

  search_is_met : b ≡ true → (i : Bool) → i ≡ is_init r → i ≡ false → (o : Option Placed) → search_start (types_of parts) x r ≡ o → special (types_of parts) x r ≡ option_and_then (found_from (types_of parts) (signature_in r)) o
  unfolding special
  search_is_met e i i_is t o q =
      ap (λ v. shape v (is_init r)) (sym b_is ∙ e) ∙ ap (shape true) (sym i_is ∙ t) ∙ ap (option_and_then (found_from (types_of parts) (signature_in r))) q

  pub starts : b ≡ true → (i : Bool) → i ≡ is_init r → i ≡ false → (start : TypeId) → GivesType parts (Some start) (search_start (types_of parts) x r)
      → (m : Option MethodId) → ((y : Placed) → HasType parts start y → GivesNode parts m (found_from (types_of parts) (signature_in r) y)) → GivesNode parts m (special (types_of parts) x r)
  starts e i i_is t start g m h =
      let w = type_there parts start (search_start (types_of parts) x r) g in
      subst (λ o. GivesNode parts m o) (sym (search_is_met e i i_is t (Some w.0) w.1)) (h w.0 w.2)

  pub no_start : b ≡ true → (i : Bool) → i ≡ is_init r → i ≡ false → GivesType parts None (search_start (types_of parts) x r) → GivesNode parts None (special (types_of parts) x r)
  no_start e i i_is t g =
      subst (λ o. GivesNode parts None o) (sym (search_is_met e i i_is t None (no_type parts (search_start (types_of parts) x r) g))) tt

-- ---- outcomes and references by numbers

in_range : (parts : List PartShown) (out : Outcome) (o : rules.Outcome) → GivesOutcome parts out o → IfMethod out (λ m. m.0 < length (nodes_of parts))
in_range parts (outcomes.Method m) (rules.Found n) g = slice_get_within (nodes_of parts) m.0 n g
in_range parts (outcomes.Method m) rules.Phantom g = absurd g
in_range parts (outcomes.Method m) (rules.Failed d) g = absurd g
in_range parts outcomes.Phantom o g = tt
in_range parts (outcomes.Failed c) o g = tt

-- a reference of names that some part has
some_ref : (parts : List PartShown) (numbered : NumberedRef) → numbered.owner.0 < length (set_names parts) → numbered.name.0 < length (set_names parts) → numbered.desc.0 < length (set_names parts) → (r : Ref) × HasRef parts numbered r
some_ref parts numbered a b c =
    let owner = item (set_names parts) numbered.owner.0 a in
    let name = item (set_names parts) numbered.name.0 b in
    let desc = item (set_names parts) numbered.desc.0 c in
    let r : Ref = record { owner = owner.0; owner_is_interface_ref = numbered.owner_is_interface_ref; name = name.0; desc = desc.0 } in
    (r, record { owner = owner.1; kind = refl; name = name.1; desc = desc.1 })

pub outcome_in_range : (parts : List PartShown) (numbered : NumberedRef) (out : Outcome) → numbered.owner.0 < length (set_names parts) → numbered.name.0 < length (set_names parts) → numbered.desc.0 < length (set_names parts)
    → ((r : Ref) → HasRef parts numbered r → GivesOutcome parts out (rules.resolved (types_of parts) r)) → IfMethod out (λ m. m.0 < length (nodes_of parts))
outcome_in_range parts numbered out a b c g =
    let r = some_ref parts numbered a b c in in_range parts out (rules.resolved (types_of parts) r.0) (g r.0 r.1)
