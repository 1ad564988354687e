-- What a reference resolves to, and why.
use Rattle.std.proofs.Common.{◌≡◌, List, ◌∷◌, refl, sym, ap, subst, ◌∙◌, inl, inr}
use Rattle.std.specs.Prelude.{◌↔◌, Bool, true, false, not, cond, ◌&&◌, ◌⊎◌, Option, Some, None, Contains, option_and_then, is_some, is_none}
use Rattle.std.specs.List.{list_any}
use Rattle.std.proofs.lemmas.Bool.{or_parts, not-true}
use Rattle.fcg_views.specs.declared.view.Ref.{Ref}
use Rattle.fcg_analysis.specs.NamesAndFlags.{or_else, found_in}
use Rattle.fcg_analysis.specs.Declarations.{Placed, Signature, signature_in, has_signature, has_array_owner, is_named, is_class, is_interface, is_public, is_instance}
use Rattle.fcg_analysis.specs.Types.{type_named, object, superclass, chain, has_gap, uses_unlinked_name, above}
use Rattle.fcg_analysis.specs.Nodes.{Node, nodes, declared, one_default, first_super_method}
use Rattle.fcg_analysis.specs.Resolution.{Outcome, Found, Phantom, Failed, KindMismatch, NoSuchMethod, found_or, nothing_found, public_of_object, method_of_array, method_of_owner, resolved}
use Rattle.fcg_analysis.specs.Laws.Statements.{IsAcyclic, chain_above}
use Rattle.fcg_analysis.specs.Laws.Searches.{IsMismatch, HasOwner}
use Rattle.fcg_analysis.proofs.General.Members.{IsIn, Contains-from_IsIn, find_in, found_first, and_second}
use Rattle.fcg_analysis.proofs.ChainLaws.{chain_goes_on}
use Rattle.fcg_analysis.proofs.NodeMembers.{declared_is}
use Rattle.fcg_analysis.proofs.SelectedLaws.{either}
use Rattle.fcg_analysis.proofs.SuperMethods.{super_in, super_signature, default_in, first_in}

-- ---- nodes of a signature

abbrev pub IsOf : List Placed → Signature → Node → Type 0
IsOf types s m = IsIn m (nodes types) × (has_signature s m.method ≡ true)

pub declared_of : (types : List Placed) (s : Signature) (t : Placed) (m : Node) → declared types s t ≡ Some m → IsOf types s m
declared_of types s t m e = let d = declared_is types t s m e in (d.0, d.2)

along_of : (types : List Placed) (s : Signature) (line : List Placed) (m : Node) → found_in (declared types s) line ≡ Some m → IsOf types s m
along_of types s line m e = let f = found_first (declared types s) line m e in declared_of types s f.at m f.found

pub public_of : (types : List Placed) (s : Signature) (m : Node) → public_of_object types s ≡ Some m → IsOf types s m × (is_instance m.method ≡ true)
public_of types s m e = at (option_and_then (declared types s) (object types)) refl e
  where
    of_object : (ob : Option Placed) (n : Node) → option_and_then (declared types s) ob ≡ Some n → IsOf types s n
    of_object None n k = absurd (cc)
    of_object (Some o) n k = declared_of types s o n k

    passing : (n : Node) (b : Bool) → (is_public n.method && is_instance n.method) ≡ b → cond b (Some n) None ≡ Some m → IsOf types s n → IsOf types s m × (is_instance m.method ≡ true)
    passing n true p k i = let same : n ≡ m = cc in subst (λ v. IsOf types s v × (is_instance v.method ≡ true)) same (i, and_second (is_public n.method) (is_instance n.method) p)
    passing n false p k i = absurd (cc)

    at : (o : Option Node) → option_and_then (declared types s) (object types) ≡ o → option_and_then (λ n. cond (is_public n.method && is_instance n.method) (Some n) None) o ≡ Some m
        → IsOf types s m × (is_instance m.method ≡ true)
    at None q k = absurd (cc)
    at (Some n) q k = passing n (is_public n.method && is_instance n.method) refl k (of_object (object types) n q)

pub default_is_of : (types : List Placed) (t : Placed) (s : Signature) (m : Node) → one_default types t s ≡ Some m → IsOf types s m
default_is_of types t s m e = let h = (default_in types t s m e).0 in ((super_in types t s m h).0, super_signature types t s m h)

first_is_of : (types : List Placed) (t : Placed) (s : Signature) (m : Node) → first_super_method types t s ≡ Some m → IsOf types s m
first_is_of types t s m e = let h = first_in types t s m e in ((super_in types t s m h).0, super_signature types t s m h)

-- ---- by the owner

-- of an array, where Object is found or not
abbrev pub of_object : List Placed → Ref → Option Placed → Outcome
of_object types r None = Phantom
of_object types r (Some o) = found_or (Failed NoSuchMethod) (declared types (signature_in r) o)

array_is : (types : List Placed) (r : Ref) (ob : Option Placed) → object types ≡ ob → method_of_array types r ≡ cond r.owner_is_interface_ref (Failed KindMismatch) (of_object types r ob)
array_is types r None e = rw e refl
array_is types r (Some o) e = rw e refl

of_array : (types : List Placed) (r : Ref) → has_array_owner r ≡ true → resolved types r ≡ cond r.owner_is_interface_ref (Failed KindMismatch) (of_object types r (object types))
unfolding resolved
of_array types r e = ap (λ b. cond b (method_of_array types r) (method_of_owner types r (type_named types r.owner))) e ∙ array_is types r (object types) refl

pub of_owner : (types : List Placed) (r : Ref) (o : Option Placed) → has_array_owner r ≡ false → type_named types r.owner ≡ o → resolved types r ≡ method_of_owner types r o
unfolding resolved
of_owner types r o e n = ap (λ b. cond b (method_of_array types r) (method_of_owner types r (type_named types r.owner))) e ∙ ap (method_of_owner types r) n

-- ---- of a known owner

pub data ByKind (types : List Placed) (r : Ref) (t : Placed) : Type 0 where
  of_other_kind : is_class t ≡ r.owner_is_interface_ref → method_of_owner types r (Some t) ≡ Failed KindMismatch → ByKind types r t
  of_its_kind : (is_class t ≡ r.owner_is_interface_ref → ⊥) → (found : Option Node) → ((m : Node) → found ≡ Some m → IsOf types (signature_in r) m)
      → method_of_owner types r (Some t) ≡ found_or (nothing_found types t) found → ByKind types r t

abbrev pub found_above : List Placed → Signature → Placed → Option Node
found_above types s t = or_else (one_default types t s) (first_super_method types t s)

abbrev pub of_class : List Placed → Signature → Placed → Option Node
of_class types s t = or_else (found_in (declared types s) (chain types t)) (found_above types s t)

abbrev pub of_interface : List Placed → Signature → Placed → Option Node
of_interface types s t = or_else (declared types s t) (or_else (public_of_object types s) (found_above types s t))

above_is_of : (types : List Placed) (s : Signature) (t : Placed) (m : Node) → found_above types s t ≡ Some m → IsOf types s m
above_is_of types s t m e = elim (either (one_default types t s) (first_super_method types t s) m e) [ inl k ↦ default_is_of types t s m k | inr k ↦ first_is_of types t s m k ]

class_is_of : (types : List Placed) (s : Signature) (t : Placed) (m : Node) → of_class types s t ≡ Some m → IsOf types s m
class_is_of types s t m e =
    elim (either (found_in (declared types s) (chain types t)) (found_above types s t) m e) [
      | inl k ↦ along_of types s (chain types t) m k
      | inr k ↦ above_is_of types s t m k
    ]

interface_is_of : (types : List Placed) (s : Signature) (t : Placed) (m : Node) → of_interface types s t ≡ Some m → IsOf types s m
interface_is_of types s t m e =
    elim (either (declared types s t) (or_else (public_of_object types s) (found_above types s t)) m e) [
      | inl k ↦ declared_of types s t m k
      | inr k ↦ (elim (either (public_of_object types s) (found_above types s t) m k) [
        | inl q ↦ (public_of types s m q).0
        | inr q ↦ above_is_of types s t m q
      ])
    ]

abbrev pub by_kind : List Placed → Ref → Placed → Bool → Bool → Outcome
by_kind types r t b c =
    cond b
    (cond (not c) (Failed KindMismatch) (found_or (nothing_found types t) (of_interface types (signature_in r) t)))
    (cond c (Failed KindMismatch) (found_or (nothing_found types t) (of_class types (signature_in r) t)))

pub kinds : (types : List Placed) (r : Ref) (t : Placed) (b c : Bool) → r.owner_is_interface_ref ≡ b → is_interface t ≡ c → method_of_owner types r (Some t) ≡ by_kind types r t b c
kinds types r t b c e f = ap (λ v. by_kind types r t v (is_interface t)) e ∙ ap (λ v. by_kind types r t b v) f

pub outcome_by_kind : (types : List Placed) (r : Ref) (t : Placed) → ByKind types r t
outcome_by_kind types r t = at r.owner_is_interface_ref (is_interface t) refl refl
  where
    apart : (b : Bool) → r.owner_is_interface_ref ≡ b → is_interface t ≡ b → is_class t ≡ r.owner_is_interface_ref → ⊥
    apart true e f h = let g : is_class t ≡ false = ap not f in cc
    apart false e f h = let g : is_class t ≡ true = ap not f in cc

    at : (b c : Bool) → r.owner_is_interface_ref ≡ b → is_interface t ≡ c → ByKind types r t
    at true true e f = of_its_kind (apart true e f) (of_interface types (signature_in r) t) (interface_is_of types (signature_in r) t) (kinds types r t true true e f)
    at true false e f = of_other_kind (ap not f ∙ sym e) (kinds types r t true false e f)
    at false true e f = of_other_kind (ap not f ∙ sym e) (kinds types r t false true e f)
    at false false e f = of_its_kind (apart false e f) (of_class types (signature_in r) t) (class_is_of types (signature_in r) t) (kinds types r t false false e f)

-- ---- what is found, and what isn't

found_is : (otherwise : Outcome) (o : Option Node) (m : Node) → found_or otherwise o ≡ Found m → (otherwise ≡ Found m) ⊎ (o ≡ Some m)
found_is otherwise None m h = inl h
found_is otherwise (Some n) m h = inr (let same : n ≡ m = cc in ap Some same)

nothing_is : (types : List Placed) (t : Placed) (m : Node) → nothing_found types t ≡ Found m → ⊥
nothing_is types t m h = at (has_gap types t) h
  where
    at : (b : Bool) → cond b Phantom (Failed NoSuchMethod) ≡ Found m → ⊥
    at true k = cc
    at false k = cc

no_mismatch : (types : List Placed) (t : Placed) (o : Option Node) → found_or (nothing_found types t) o ≡ Failed KindMismatch → ⊥
no_mismatch types t (Some m) h = cc
no_mismatch types t None h = at (has_gap types t) h
  where
    at : (b : Bool) → cond b Phantom (Failed NoSuchMethod) ≡ Failed KindMismatch → ⊥
    at true k = cc
    at false k = cc

gap_is : (types : List Placed) (t : Placed) (o : Option Node) → found_or (nothing_found types t) o ≡ Phantom → has_gap types t ≡ true
gap_is types t (Some m) h = absurd (cc)
gap_is types t None h = at (has_gap types t) h
  where
    at : (b : Bool) → cond b Phantom (Failed NoSuchMethod) ≡ Phantom → b ≡ true
    at true k = refl
    at false k = absurd (cc)

no_gap : (types : List Placed) (t : Placed) (o : Option Node) → found_or (nothing_found types t) o ≡ Failed NoSuchMethod → has_gap types t ≡ false
no_gap types t (Some m) h = absurd (cc)
no_gap types t None h = at (has_gap types t) h
  where
    at : (b : Bool) → cond b Phantom (Failed NoSuchMethod) ≡ Failed NoSuchMethod → b ≡ false
    at true k = absurd (cc)
    at false k = refl

-- ---- the laws

owner_of : (types : List Placed) (r : Ref) (m : Node) (o : Option Placed) → method_of_owner types r o ≡ Found m → IsOf types (signature_in r) m
owner_of types r m None h = absurd (cc)
owner_of types r m (Some t) h = at (outcome_by_kind types r t)
  where
    at : ByKind types r t → IsOf types (signature_in r) m
    at (of_other_kind q w) = absurd (let k : Failed KindMismatch ≡ Found m = sym w ∙ h in cc)
    at (of_its_kind n found of w) =
        elim (found_is (nothing_found types t) found m (sym w ∙ h)) [
          | inl k ↦ absurd (nothing_is types t m k)
          | inr k ↦ of m k
        ]

array_of : (types : List Placed) (r : Ref) (m : Node) (ob : Option Placed) (b : Bool) → cond b (Failed KindMismatch) (of_object types r ob) ≡ Found m → IsOf types (signature_in r) m
array_of types r m ob true h = absurd (cc)
array_of types r m None false h = absurd (cc)
array_of types r m (Some o) false h =
    elim (found_is (Failed NoSuchMethod) (declared types (signature_in r) o) m h) [
      | inl k ↦ absurd (cc)
      | inr k ↦ declared_of types (signature_in r) o m k
    ]

pub resolved_of : (types : List Placed) (r : Ref) (m : Node) → resolved types r ≡ Found m → IsOf types (signature_in r) m
resolved_of types r m h = at (has_array_owner r) refl
  where
    at : (b : Bool) → has_array_owner r ≡ b → IsOf types (signature_in r) m
    at true e = array_of types r m (object types) r.owner_is_interface_ref (sym (of_array types r e) ∙ h)
    at false e = owner_of types r m (type_named types r.owner) (sym (of_owner types r (type_named types r.owner) e refl) ∙ h)

pub mismatch_is : (types : List Placed) (r : Ref) → has_array_owner r ≡ false → (resolved types r ≡ Failed KindMismatch) ↔ IsMismatch types r
mismatch_is types r e = (λ h. forth h (type_named types r.owner) refl, back)
  where
    of_type : (t : Placed) → resolved types r ≡ Failed KindMismatch → type_named types r.owner ≡ Some t → ByKind types r t → IsMismatch types r
    of_type t h n (of_other_kind q w) = record { owner = t; known' = n; kind = q }
    of_type t h n (of_its_kind k found of w) = absurd (no_mismatch types t found (sym (of_owner types r (Some t) e n ∙ w) ∙ h))

    forth : resolved types r ≡ Failed KindMismatch → (o : Option Placed) → type_named types r.owner ≡ o → IsMismatch types r
    forth h None n = absurd (let k : Phantom ≡ Failed KindMismatch = sym (of_owner types r None e n) ∙ h in cc)
    forth h (Some t) n = of_type t h n (outcome_by_kind types r t)

    back : IsMismatch types r → resolved types r ≡ Failed KindMismatch
    back m = of_owner types r (Some m.owner) e m.known' ∙ at (outcome_by_kind types r m.owner)
      where
        at : ByKind types r m.owner → method_of_owner types r (Some m.owner) ≡ Failed KindMismatch
        at (of_other_kind q w) = w
        at (of_its_kind k found of w) = absurd (k m.kind)

pub phantom_has_gap : (types : List Placed) (r : Ref) (t : Placed) → has_array_owner r ≡ false → type_named types r.owner ≡ Some t → resolved types r ≡ Phantom → has_gap types t ≡ true
phantom_has_gap types r t e n h = at (outcome_by_kind types r t)
  where
    at : ByKind types r t → has_gap types t ≡ true
    at (of_other_kind q w) = absurd (let k : Failed KindMismatch ≡ Phantom = sym (of_owner types r (Some t) e n ∙ w) ∙ h in cc)
    at (of_its_kind k found of w) = gap_is types t found (sym (of_owner types r (Some t) e n ∙ w) ∙ h)

pub absent_has_none : (types : List Placed) (r : Ref) (t : Placed) → has_array_owner r ≡ false → type_named types r.owner ≡ Some t → resolved types r ≡ Failed NoSuchMethod → has_gap types t ≡ false
absent_has_none types r t e n h = at (outcome_by_kind types r t)
  where
    at : ByKind types r t → has_gap types t ≡ false
    at (of_other_kind q w) = absurd (let k : Failed KindMismatch ≡ Failed NoSuchMethod = sym (of_owner types r (Some t) e n ∙ w) ∙ h in cc)
    at (of_its_kind k found of w) = no_gap types t found (sym (of_owner types r (Some t) e n ∙ w) ∙ h)

pub absent_has_object : (types : List Placed) (r : Ref) → resolved types r ≡ Failed NoSuchMethod → is_some (object types) ≡ true
unfolding has_gap
absent_has_object types r h = at (has_array_owner r) refl
  where
    some : (o : Option Placed) → is_none o ≡ false → is_some o ≡ true
    some None e = absurd (cc)
    some (Some o) e = refl

    array : (ob : Option Placed) (b : Bool) → cond b (Failed KindMismatch) (of_object types r ob) ≡ Failed NoSuchMethod → is_some ob ≡ true
    array ob true k = absurd (cc)
    array None false k = absurd (cc)
    array (Some o) false k = refl

    other : has_array_owner r ≡ false → (o : Option Placed) → type_named types r.owner ≡ o → is_some (object types) ≡ true
    other e None n = absurd (let k : Phantom ≡ Failed NoSuchMethod = sym (of_owner types r None e n) ∙ h in cc)
    other e (Some t) n = some (object types) (or_parts (is_none (object types)) (list_any (uses_unlinked_name types) (t ∷ above types t)) (absent_has_none types r t e n h)).0

    at : (b : Bool) → has_array_owner r ≡ b → is_some (object types) ≡ true
    at true e = array (object types) r.owner_is_interface_ref (sym (of_array types r e) ∙ h)
    at false e = other e (type_named types r.owner) refl

pub own_is_found : (types : List Placed) → IsAcyclic types → (r : Ref) (t : Placed) (m : Node) → has_array_owner r ≡ false → type_named types r.owner ≡ Some t → is_interface t ≡ r.owner_is_interface_ref
    → declared types (signature_in r) t ≡ Some m → resolved types r ≡ Found m
own_is_found types a r t m e n k d = of_owner types r (Some t) e n ∙ at r.owner_is_interface_ref refl
  where
    there : Contains types t
    there = Contains-from_IsIn types t (find_in (is_named r.owner) types t n).0

    at : (b : Bool) → r.owner_is_interface_ref ≡ b → method_of_owner types r (Some t) ≡ Found m
    at true p =
        kinds types r t true true p (k ∙ p)
        ∙ ap (λ o. found_or (nothing_found types t) (or_else o (or_else (public_of_object types (signature_in r)) (found_above types (signature_in r) t)))) d
    at false p =
        kinds types r t false false p (k ∙ p)
        ∙ ap (λ zs. found_or (nothing_found types t) (or_else (found_in (declared types (signature_in r)) zs) (found_above types (signature_in r) t))) (chain_goes_on types a t there)
        ∙ ap (λ o. found_or (nothing_found types t) (or_else (or_else o (found_in (declared types (signature_in r)) (chain_above types t (superclass types t)))) (found_above types (signature_in r) t))) d

-- ---- in order

module _ (types : List Placed) (r : Ref) (t : Placed) (owner : HasOwner types r t) where
  class_is : is_class t ≡ true → resolved types r ≡ found_or (nothing_found types t) (of_class types (signature_in r) t)
  class_is c =
      let f = not-true (is_interface t) c in
      of_owner types r (Some t) owner.no_array owner.known' ∙ kinds types r t false false (sym owner.kind ∙ f) f

  interface_is : is_interface t ≡ true → resolved types r ≡ found_or (nothing_found types t) (of_interface types (signature_in r) t)
  interface_is f = of_owner types r (Some t) owner.no_array owner.known' ∙ kinds types r t true true (sym owner.kind ∙ f) f

  -- by what the chain declares, by the default and by the first superinterface method
  pub of_class_by : is_class t ≡ true → (a b c : Option Node) → found_in (declared types (signature_in r)) (chain types t) ≡ a → one_default types t (signature_in r) ≡ b → first_super_method types t (signature_in r) ≡ c
      → resolved types r ≡ found_or (nothing_found types t) (or_else a (or_else b c))
  of_class_by k a b c e f g =
      class_is k
      ∙ ap (λ o. found_or (nothing_found types t) (or_else o (found_above types (signature_in r) t))) e
      ∙ ap (λ o. found_or (nothing_found types t) (or_else a (or_else o (first_super_method types t (signature_in r))))) f
      ∙ ap (λ o. found_or (nothing_found types t) (or_else a (or_else b o))) g

  -- by what it declares, by Object's public method, by the default and by the first superinterface method
  pub of_interface_by : is_interface t ≡ true → (a b c d : Option Node) → declared types (signature_in r) t ≡ a → public_of_object types (signature_in r) ≡ b
      → one_default types t (signature_in r) ≡ c → first_super_method types t (signature_in r) ≡ d → resolved types r ≡ found_or (nothing_found types t) (or_else a (or_else b (or_else c d)))
  of_interface_by k a b c d e f g h =
      interface_is k
      ∙ ap (λ o. found_or (nothing_found types t) (or_else o (or_else (public_of_object types (signature_in r)) (found_above types (signature_in r) t)))) e
      ∙ ap (λ o. found_or (nothing_found types t) (or_else a (or_else o (found_above types (signature_in r) t)))) f
      ∙ ap (λ o. found_or (nothing_found types t) (or_else a (or_else b (or_else o (first_super_method types t (signature_in r)))))) g
      ∙ ap (λ o. found_or (nothing_found types t) (or_else a (or_else b (or_else c o)))) h

-- of an array, by the kind of the reference, by Object and by what Object declares
pub array_mismatch : (types : List Placed) (r : Ref) → has_array_owner r ≡ true → r.owner_is_interface_ref ≡ true → resolved types r ≡ Failed KindMismatch
array_mismatch types r e k = of_array types r e ∙ ap (λ b. cond b (Failed KindMismatch) (of_object types r (object types))) k

pub array_by : (types : List Placed) (r : Ref) (o : Option Placed) → has_array_owner r ≡ true → r.owner_is_interface_ref ≡ false → object types ≡ o → resolved types r ≡ of_object types r o
array_by types r o e k p =
    of_array types r e ∙ ap (λ b. cond b (Failed KindMismatch) (of_object types r (object types))) k ∙ ap (of_object types r) p
