-- Walking along a chain, by the numbers of its types.
use Rattle.std.proofs.Common.{◌≡◌, ℕ, ◌<◌, List, ◌∷◌, length, sym, ap, subst, ◌∙◌, arith}
use Rattle.std.specs.Prelude.{Option, Some, None, IfSome, Contains, slice_get}
use Rattle.fcg_partial.specs.Parts.{PartShown}
use Rattle.fcg_analysis.specs.NamesAndFlags.{found_in, or_else}
use Rattle.fcg_analysis.specs.Declarations.{Placed}
use Rattle.fcg_analysis.specs.Types.{chain}
use Rattle.fcg_analysis.specs.Nodes.{Node}
use Rattle.fcg_analysis.specs.Laws.ChainParts.{next_in_chain, chain_of}
use Rattle.fcg_analysis.proofs.ChainWalks.{chain_walked}
use Rattle.fcg_join.specs.declared.id.TypeId.{TypeId}
use Rattle.fcg_join.specs.declared.id.MethodId.{MethodId}
use Rattle.fcg_join.specs.Parts.{placed, types_of}
use Rattle.fcg_join.specs.Joined.{HasType, GivesType, GivesNode}
use Rattle.fcg_join.proofs.OwnMentions.{known_are_acyclic}
use Rattle.fcg_join.proofs.FoundNumbers.{type_there, no_type, type_known, type_at, no_node}

-- the type of a number, where there is one
abbrev pub type_of : List PartShown → Option TypeId → Option Placed
type_of parts None = None
type_of parts (Some t) = slice_get (types_of parts) t.0

-- how many types of the chain are left
abbrev pub left : List PartShown → Option TypeId → ℕ
left parts at = length (chain_of (types_of parts) (type_of parts at))

-- the number of a type that was found is that of this type
pub gives_there : (parts : List PartShown) (at : Option TypeId) (o : Option Placed) → GivesType parts at o → type_of parts at ≡ o
gives_there parts None o h = sym (no_type parts o h)
gives_there parts (Some t) o h = let w = type_there parts t o h in w.2 ∙ sym w.1

pub range_of : (parts : List PartShown) (at : Option TypeId) (t : TypeId) → at ≡ Some t → IfSome at (λ u. u.0 < length (types_of parts)) → t.0 < length (types_of parts)
range_of parts at t e h = subst (λ o. IfSome o (λ u. u.0 < length (types_of parts))) e h

pub walked_known : (parts : List PartShown) (y : Placed) → Contains (types_of parts) y → chain (types_of parts) y ≡ y ∷ chain_of (types_of parts) (next_in_chain (types_of parts) y)
walked_known parts y c = chain_walked (types_of parts) (known_are_acyclic (placed parts)) y c

pub walked : (parts : List PartShown) (y : Placed) (t : TypeId) → HasType parts t y → chain (types_of parts) y ≡ y ∷ chain_of (types_of parts) (next_in_chain (types_of parts) y)
walked parts y t h = walked_known parts y (type_known parts t y h)

-- the walk ends
pub less : (parts : List PartShown) (at : Option TypeId) (t : TypeId) (next : Option TypeId) → at ≡ Some t → IfSome at (λ u. u.0 < length (types_of parts))
    → ((y : Placed) → HasType parts t y → GivesType parts next (next_in_chain (types_of parts) y)) → left parts next < left parts at
less parts at t next e h g =
    let y = type_at parts t (range_of parts at t e h) in
    let q = ap (λ o. length (chain_of (types_of parts) o)) (gives_there parts next (next_in_chain (types_of parts) y.0) (g y.0 y.1)) in
    let k = ap (λ o. length (chain_of (types_of parts) o)) y.1 in
    let l = ap length (walked parts y.0 t y.1) in
    subst (λ o. left parts next < left parts o) (sym e) (omega (arith, q, k, l))

-- ---- what f finds along a chain

module _ (parts : List PartShown) (f : Placed → Option Node) where
  -- a walk along the chain of x has come to a type, or past the end, and found nothing before
  pub record Walks (x : Placed) (at : Option TypeId) : Type 0 where
    pub here : GivesType parts at (type_of parts at)
    pub same : found_in f (chain (types_of parts) x) ≡ found_in f (chain_of (types_of parts) (type_of parts at))

  pub begins : (x : Placed) (t : TypeId) → HasType parts t x → Walks x (Some t)
  begins x t h =
      record {
        here = subst (λ o. GivesType parts (Some t) o) (sym h) h;
        same = ap (λ o. found_in f (chain_of (types_of parts) o)) (sym h);
      }

  -- what is found from the type at which it is
  here' : (x : Placed) (at : Option TypeId) (t : TypeId) → at ≡ Some t → Walks x at
      → (y : Placed) × HasType parts t y × (found_in f (chain (types_of parts) x) ≡ or_else (f y) (found_in f (chain_of (types_of parts) (next_in_chain (types_of parts) y))))
  here' x at t e w =
      let v = subst (λ o. Walks x o) e w in
      let r = type_there parts t (slice_get (types_of parts) t.0) v.here in
      (r.0, r.2, v.same ∙ ap (λ o. found_in f (chain_of (types_of parts) o)) r.2 ∙ ap (found_in f) (walked parts r.0 t r.2))

  pub found : (x : Placed) (at : Option TypeId) (t : TypeId) (m : MethodId) → at ≡ Some t → Walks x at → ((y : Placed) → HasType parts t y → GivesNode parts (Some m) (f y)) → GivesNode parts (Some m) (found_in f (chain (types_of parts) x))
  found x at t m e w h =
      let r = here' x at t e w in
      subst (λ o. GivesNode parts (Some m) o) (sym r.2) (by (f r.0) (found_in f (chain_of (types_of parts) (next_in_chain (types_of parts) r.0))) (h r.0 r.1))
    where
      by : (o rest : Option Node) → GivesNode parts (Some m) o → GivesNode parts (Some m) (or_else o rest)
      by None rest k = absurd k
      by (Some n) rest k = k

  pub goes_on : (x : Placed) (at : Option TypeId) (t : TypeId) (next : Option TypeId) → at ≡ Some t → Walks x at → ((y : Placed) → HasType parts t y → GivesNode parts None (f y))
      → ((y : Placed) → HasType parts t y → GivesType parts next (next_in_chain (types_of parts) y)) → Walks x next
  goes_on x at t next e w n g =
      let r = here' x at t e w in
      let q = gives_there parts next (next_in_chain (types_of parts) r.0) (g r.0 r.1) in
      record {
        here = subst (λ o. GivesType parts next o) (sym q) (g r.0 r.1);
        same =
            r.2
            ∙ ap (λ o. or_else o (found_in f (chain_of (types_of parts) (next_in_chain (types_of parts) r.0)))) (no_node parts (f r.0) (n r.0 r.1))
            ∙ ap (λ o. found_in f (chain_of (types_of parts) o)) (sym q);
      }

  pub ended : (x : Placed) (at : Option TypeId) → at ≡ None → Walks x at → GivesNode parts None (found_in f (chain (types_of parts) x))
  ended x at e w =
      let v = subst (λ o. Walks x o) e w in subst (λ o. GivesNode parts None o) (sym v.same) tt
