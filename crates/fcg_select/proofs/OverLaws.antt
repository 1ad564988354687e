-- Overriding and wanted methods, of the methods of numbers.
use Rattle.std.proofs.Common.{◌≡◌, ℕ, List, drop, refl, sym, ap, subst, ◌∙◌}
use Rattle.std.specs.Prelude.{Bool, true, false, not, cond, ◌||◌, ◌&&◌, Option, Some, None, Contains, slice_get}
use Rattle.std.proofs.lemmas.Option.{same_Some}
use Rattle.fcg_partial.specs.Parts.{PartShown}
use Rattle.fcg_analysis.specs.NamesAndFlags.{has}
use Rattle.fcg_analysis.specs.Declarations.{Placed, signature_of, is_type, is_package_private}
use Rattle.fcg_analysis.specs.Types.{chain}
use Rattle.fcg_analysis.specs.Nodes.{Node, declared}
use Rattle.fcg_analysis.specs.Selection.{is_candidate, overrides_directly, same_package, can_override}
use Rattle.fcg_analysis.specs.Laws.ChainParts.{next_in_chain, chain_of}
use Rattle.fcg_analysis.specs.Laws.HandedOn.{where_passes, passes_at, is_handing, hands, handed_on}
use Rattle.fcg_analysis.specs.Laws.Methods.{AreApart, IsSingle}
use Rattle.fcg_analysis.proofs.General.Members.{IsIn-from_Contains, Contains-from_IsIn}
use Rattle.fcg_analysis.proofs.HandingLaws.{over_candidate, over_not}
use Rattle.fcg_analysis.proofs.NodeMembers.{single}
use Rattle.fcg_analysis.proofs.OverrideLaws.{node_owner, one_of_name}
use Rattle.fcg_analysis.proofs.WinnerLaws.{known_distinct, is_type_self}
use Rattle.fcg_join.specs.declared.id.TypeId.{TypeId}
use Rattle.fcg_join.specs.declared.id.MethodId.{MethodId}
use Rattle.fcg_join.specs.Parts.{placed, types_of, nodes_of}
use Rattle.fcg_join.specs.Joined.{HasType, HasNode, GivesNode}
use Rattle.fcg_join.proofs.OwnMentions.{known_are_acyclic}
use Rattle.fcg_join.proofs.Places.{one_place}
use Rattle.fcg_join.proofs.ChainWalks.{walked_known}
use Rattle.fcg_join.proofs.FoundNumbers.{type_known, node_known, node_there, no_node}

-- ---- what is wanted of a type

pub wanted_there : (parts : List PartShown) (m : MethodId) (o : Option Node) (w : Node → Bool) (b : Bool) → GivesNode parts (Some m) o → ((n : Node) → HasNode parts m n → b ≡ w n) → b ≡ true → GivesNode parts (Some m) (where_passes w o)
wanted_there parts m o w b g h e =
    let r = node_there parts m o g in
    let k : w r.0 ≡ true = sym (h r.0 r.2) ∙ e in
    let s : where_passes w o ≡ Some r.0 = ap (where_passes w) r.1 ∙ ap (λ v. cond v (Some r.0) None) k in
    subst (λ p. GivesNode parts (Some m) p) (sym s) r.2

pub wanted_not : (parts : List PartShown) (m : MethodId) (o : Option Node) (w : Node → Bool) (b : Bool) → GivesNode parts (Some m) o → ((n : Node) → HasNode parts m n → b ≡ w n) → b ≡ false → GivesNode parts None (where_passes w o)
wanted_not parts m o w b g h e =
    let r = node_there parts m o g in
    let k : w r.0 ≡ false = sym (h r.0 r.2) ∙ e in
    let s : where_passes w o ≡ None = ap (where_passes w) r.1 ∙ ap (λ v. cond v (Some r.0) None) k in
    subst (λ p. GivesNode parts None p) (sym s) tt

pub wanted_none : (parts : List PartShown) (o : Option Node) (w : Node → Bool) → GivesNode parts None o → GivesNode parts None (where_passes w o)
wanted_none parts o w g = subst (λ p. GivesNode parts None p) (sym (ap (where_passes w) (no_node parts o g))) tt

-- ---- two numbers of one type are one, and of two types two

pub at_home : (parts : List PartShown) (t home : TypeId) (y o : Placed) → HasType parts t y → HasType parts home o → t.0 ≡ home.0 → is_type o y ≡ true
at_home parts t home y o h k e =
    let s : y ≡ o = same_Some y o (sym h ∙ ap (slice_get (types_of parts)) e ∙ k) in
    subst (λ v. is_type o v ≡ true) (sym s) (is_type_self o)

pub away : (parts : List PartShown) (t home : TypeId) (y o : Placed) → HasType parts t y → HasType parts home o → (t.0 ≡ home.0 → ⊥) → is_type o y ≡ false
away parts t home y o h k n = at (is_type o y) refl
  where
    at : (b : Bool) → is_type o y ≡ b → b ≡ false
    at false e = refl
    at true e =
        let s : o ≡ y = one_of_name (types_of parts) o y (known_distinct (placed parts)) (IsIn-from_Contains _ o (type_known parts home o k)) (IsIn-from_Contains _ y (type_known parts t y h)) e in
        absurd (n (one_place (types_of parts) t.0 home.0 y (known_distinct (placed parts)) h (k ∙ ap (λ v. Some v) s)))

-- ---- handing on

pub hands_there : (parts : List PartShown) (m : MethodId) (r : Bool) (a : Node) (y : Placed)
    → GivesNode parts (Some m) (declared (types_of parts) (signature_of a.method) y) → ((b : Node) → HasNode parts m b → r ≡ is_handing a b) → r ≡ hands (types_of parts) a y
hands_there parts m r a y g h =
    let w = node_there parts m (declared (types_of parts) (signature_of a.method) y) g in h w.0 w.2 ∙ sym (ap (passes_at (is_handing a)) w.1)

pub hands_nothing : (parts : List PartShown) (a : Node) (y : Placed) → GivesNode parts None (declared (types_of parts) (signature_of a.method) y) → false ≡ hands (types_of parts) a y
hands_nothing parts a y g = sym (ap (passes_at (is_handing a)) (no_node parts (declared (types_of parts) (signature_of a.method) y) g))

-- ---- overriding

pub one_each : (parts : List PartShown) → AreApart (types_of parts) → IsSingle (types_of parts)
one_each parts apart = single (types_of parts) (known_distinct (placed parts)) apart

module _ (parts : List PartShown) (apart : AreApart (types_of parts)) (mc ma : MethodId) (b : Bool)
    (b_is : (c a : Node) → HasNode parts mc c → HasNode parts ma a → b ≡ is_candidate c a) where
  owner_known : (c : Node) → HasNode parts mc c → Contains (types_of parts) c.owner
  owner_known c h =
      Contains-from_IsIn (types_of parts) c.owner (node_owner (types_of parts) c (IsIn-from_Contains (nodes_of parts) c (node_known parts mc c h)))

  pub never : b ≡ false → (c a : Node) → HasNode parts mc c → HasNode parts ma a → false ≡ can_override (types_of parts) c a
  never e c a h k = sym (over_not (types_of parts) c a (sym (b_is c a h k) ∙ e))

  module _ (yes : b ≡ true) (f : ℕ) (f_is : (a : Node) → HasNode parts ma a → f ≡ a.method.flags) where
    -- whether a is handed on after the class of c
    abbrev handed : Node → Node → Bool
    handed c a = handed_on (types_of parts) a (chain_of (types_of parts) (next_in_chain (types_of parts) c.owner))

    after : (c : Node) → HasNode parts mc c → drop 1 (chain (types_of parts) c.owner) ≡ chain_of (types_of parts) (next_in_chain (types_of parts) c.owner)
    after c h = ap (drop 1) (walked_known parts c.owner (owner_known c h))

    by_cases : (c a : Node) → HasNode parts mc c → HasNode parts ma a
        → can_override (types_of parts) c a ≡ ((has 1 f || has 4 f || not (has 1 f || has 2 f || has 4 f) && same_package c a) || not (has 1 f || has 2 f || has 4 f) && handed c a)
    by_cases c a h k =
        over_candidate (types_of parts) (known_are_acyclic (placed parts)) (known_distinct (placed parts)) (one_each parts apart) c a (sym (b_is c a h k) ∙ yes) (owner_known c h)
        ∙ ap (λ line. overrides_directly c a || is_package_private a.method && handed_on (types_of parts) a line) (after c h)
        ∙ ap (λ v. (has 1 v || has 4 v || not (has 1 v || has 2 v || has 4 v) && same_package c a) || not (has 1 v || has 2 v || has 4 v) && handed c a) (sym (f_is a k))

    pub always : (has 1 f || has 4 f) ≡ true → (c a : Node) → HasNode parts mc c → HasNode parts ma a → true ≡ can_override (types_of parts) c a
    always e c a h k = sym (by_cases c a h k ∙ at (has 1 f) (has 2 f) (has 4 f) e)
      where
        at : (x y z : Bool) → (x || z) ≡ true → ((x || z || not (x || y || z) && same_package c a) || not (x || y || z) && handed c a) ≡ true
        at true y z p = refl
        at false y true p = refl
        at false y false p = absurd (cc)

    pub not_private : (has 1 f || has 4 f) ≡ false → has 2 f ≡ true → (c a : Node) → HasNode parts mc c → HasNode parts ma a → false ≡ can_override (types_of parts) c a
    not_private e i c a h k = sym (by_cases c a h k ∙ at (has 1 f) (has 2 f) (has 4 f) e i)
      where
        at : (x y z : Bool) → (x || z) ≡ false → y ≡ true → ((x || z || not (x || y || z) && same_package c a) || not (x || y || z) && handed c a) ≡ false
        at false true false p q = refl
        at false true true p q = absurd (cc)
        at true true z p q = absurd (cc)
        at x false z p q = absurd (cc)

    by_package : (has 1 f || has 4 f) ≡ false → has 2 f ≡ false → (c a : Node) → HasNode parts mc c → HasNode parts ma a → (same_package c a || handed c a) ≡ can_override (types_of parts) c a
    by_package e i c a h k = sym (by_cases c a h k ∙ at (has 1 f) (has 2 f) (has 4 f) e i)
      where
        at : (x y z : Bool) → (x || z) ≡ false → y ≡ false → ((x || z || not (x || y || z) && same_package c a) || not (x || y || z) && handed c a) ≡ (same_package c a || handed c a)
        at false false false p q = refl
        at false false true p q = absurd (cc)
        at true false z p q = absurd (cc)
        at x true z p q = absurd (cc)

    pub shared : (has 1 f || has 4 f) ≡ false → has 2 f ≡ false → (p : Bool) → ((c a : Node) → HasNode parts mc c → HasNode parts ma a → p ≡ same_package c a) → p ≡ true
        → (c a : Node) → HasNode parts mc c → HasNode parts ma a → true ≡ can_override (types_of parts) c a
    shared e i p p_is t c a h k = ap (λ v. v || handed c a) (sym t ∙ p_is c a h k) ∙ by_package e i c a h k

    pub apart_by : (has 1 f || has 4 f) ≡ false → has 2 f ≡ false → (p : Bool) → ((c a : Node) → HasNode parts mc c → HasNode parts ma a → p ≡ same_package c a) → p ≡ false
        → (r : Bool) → ((c a : Node) → HasNode parts mc c → HasNode parts ma a → r ≡ handed c a)
        → (c a : Node) → HasNode parts mc c → HasNode parts ma a → r ≡ can_override (types_of parts) c a
    apart_by e i p p_is t r r_is c a h k = r_is c a h k ∙ ap (λ v. v || handed c a) (sym t ∙ p_is c a h k) ∙ by_package e i c a h k
