-- Why a method is selected.
use Rattle.std.proofs.Common.{◌≡◌, List, refl, sym, subst, inl, inr}
use Rattle.std.specs.Prelude.{Bool, true, false, cond, ◌&&◌, ◌⊎◌, find, Option, Some, None}
use Rattle.fcg_analysis.specs.NamesAndFlags.{or_else}
use Rattle.fcg_analysis.specs.Declarations.{Placed, Signature, is_type, is_private}
use Rattle.fcg_analysis.specs.Types.{chain}
use Rattle.fcg_analysis.specs.Nodes.{Node, nodes, one_default}
use Rattle.fcg_analysis.specs.Resolution.{Found, Phantom}
use Rattle.fcg_analysis.specs.Selection.{can_override, can_override_phantom, searched, selected}
use Rattle.fcg_analysis.specs.Laws.Statements.{IsInChain, IsSelected, IsItself, IsOverriding, IsDefault, IsSelectedForPhantom, IsOverridingPhantom, IsDefaultForPhantom}
use Rattle.fcg_analysis.proofs.General.Members.{found_first, in_middle, IsIn, Contains-from_IsIn, find_in, and_first, and_second}

-- the node is of a type of the line, and passes
pub record Searched (types : List Placed) (test : Node → Bool) (line : List Placed) (c : Node) : Type 0 where
  pub type : Placed
  pub type_in : IsIn type line
  pub owner : is_type type c.owner ≡ true
  pub node_in : IsIn c (nodes types)
  pub passes : test c ≡ true

pub search_found : (types : List Placed) (test : Node → Bool) (line : List Placed) (c : Node) → searched types test line ≡ Some c → Searched types test line c
search_found types test line c e =
    let f = found_first (λ t. find (λ m. is_type t m.owner && test m) (nodes types)) line c e in
    let n = find_in (λ m. is_type f.at m.owner && test m) (nodes types) c f.found in
    record {
      type = f.at;
      type_in = subst (IsIn f.at) (sym f.whole) (in_middle f.front f.rest f.at);
      owner = and_first (is_type f.at c.owner) (test c) n.1;
      node_in = n.0;
      passes = and_second (is_type f.at c.owner) (test c) n.1;
    }

pub either : {X : Type 0} (o p : Option X) (x : X) → or_else o p ≡ Some x → (o ≡ Some x) ⊎ (p ≡ Some x)
either None p x h = inr h
either (Some y) p x h = inl h

in_chain : (types : List Placed) (d : Placed) (test : Node → Bool) (c : Node) → Searched types test (chain types d) c → IsInChain types d c
in_chain types d test c s =
    record { type = s.type; type_in = Contains-from_IsIn _ s.type s.type_in; owner = s.owner; node_in = Contains-from_IsIn _ c s.node_in }

pub selected_found : (types : List Placed) (d : Placed) (a : Node) (s : Signature) (c : Node) → selected types d (Found a) s ≡ Some c → IsSelected types d a s c
unfolding selected
selected_found types d a s c h = at (is_private a.method) refl h
  where
    by : (searched types (λ b. can_override types b a) (chain types d) ≡ Some c) ⊎ (one_default types d s ≡ Some c) → IsSelected types d a s c
    by (inl e) =
        let f = search_found types (λ b. can_override types b a) (chain types d) c e in
        IsOverriding (in_chain types d (λ b. can_override types b a) c f) f.passes
    by (inr e) = IsDefault e

    at : (b : Bool) → is_private a.method ≡ b → cond b (Some a) (or_else (searched types (λ b. can_override types b a) (chain types d)) (one_default types d s)) ≡ Some c → IsSelected types d a s c
    at true e k = IsItself e (let same : a ≡ c = cc in same)
    at false e k = by (either _ _ c k)

pub selected_for_phantom : (types : List Placed) (d : Placed) (s : Signature) (c : Node) → selected types d Phantom s ≡ Some c → IsSelectedForPhantom types d s c
unfolding selected
selected_for_phantom types d s c h = by (either _ _ c h)
  where
    by : (searched types (can_override_phantom s) (chain types d) ≡ Some c) ⊎ (one_default types d s ≡ Some c) → IsSelectedForPhantom types d s c
    by (inl e) =
        let f = search_found types (can_override_phantom s) (chain types d) c e in
        IsOverridingPhantom (in_chain types d (can_override_phantom s) c f) f.passes
    by (inr e) = IsDefaultForPhantom e
