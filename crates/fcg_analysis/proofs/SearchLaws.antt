-- Searches along a line, and what they select.
use Rattle.std.proofs.Common.{◌≡◌, ℕ, zero, suc, List, [], ◌∷◌, length, drop, refl, sym, ap, subst, ◌∙◌, inl, inr}
use Rattle.std.specs.Prelude.{Bool, true, false, not, cond, ◌&&◌, ◌||◌, ◌⊎◌, find, Option, Some, None, Contains}
use Rattle.std.specs.List.{list_any, IsDistinct}
use Rattle.std.specs.Cmp.{both_ways}
use Rattle.std.specs.Cmp.Lexicographic.{bytes_decides}
use Rattle.std.proofs.lemmas.Bool.{or_left, and_from, false_from_ne_true, not-true}
use Rattle.fcg_analysis.specs.NamesAndFlags.{same, package_of, before, or_else, found_in}
use Rattle.fcg_analysis.specs.Declarations.{Placed, Signature, signature_of, has_signature, is_type, is_public, is_protected, is_private, is_package_private, is_instance}
use Rattle.fcg_analysis.specs.Types.{superclass, chain}
use Rattle.fcg_analysis.specs.Nodes.{Node, nodes, one_default}
use Rattle.fcg_analysis.specs.Resolution.{Found, Phantom}
use Rattle.fcg_analysis.specs.Selection.{between, same_package, overrides_directly, is_candidate, overrides_over, can_override, can_override_phantom, searched, selected}
use Rattle.fcg_analysis.specs.Laws.Statements.{IsAcyclic, chain_above}
use Rattle.fcg_analysis.specs.Laws.Methods.{IsSingle}
use Rattle.fcg_analysis.specs.Laws.Searches.{IsFirst}
use Rattle.fcg_analysis.proofs.General.Members.{IsIn, IsIn-from_Contains, Contains-from_IsIn, find_in, find_none, found_first, first_found, any_in, in_any, and_first, and_second}
use Rattle.fcg_analysis.proofs.General.Finding.{find_only}
use Rattle.fcg_analysis.proofs.General.Sorted.{all_from_in, in_all}
use Rattle.fcg_analysis.proofs.ChainLaws.{chain_goes_on}
use Rattle.fcg_analysis.proofs.NodeMembers.{signature_self}
use Rattle.fcg_analysis.proofs.OverrideLaws.{one_of_name, node_owner, over_directly}
use Rattle.fcg_analysis.proofs.ResolvedLaws.{default_is_of}
use Rattle.fcg_analysis.proofs.SelectedLaws.{either, search_found}
use Rattle.fcg_analysis.proofs.SuperMethods.{default_in, super_is_open}
use Rattle.fcg_analysis.proofs.WinnerLaws.{name_of_type}

-- ---- candidates

pub candidate_of : (types : List Placed) (c a : Node) → can_override types c a ≡ true → is_candidate c a ≡ true
unfolding can_override
candidate_of types c a h = at (length (between types c.owner a.owner)) h
  where
    at : (n : ℕ) → overrides_over n types c a ≡ true → is_candidate c a ≡ true
    at zero k = and_first (is_candidate c a) (overrides_directly c a) k
    at (suc n) k = and_first (is_candidate c a) _ k

pub record Candidate (c a : Node) : Type 0 where
  pub over : is_instance c.method ≡ true
  pub under : is_instance a.method ≡ true
  pub signature : has_signature (signature_of a.method) c.method ≡ true
  pub not_private : is_private c.method ≡ false

pub candidate : (c a : Node) → is_candidate c a ≡ true → Candidate c a
candidate c a h =
    let p = and_first (is_instance c.method && is_instance a.method && has_signature (signature_of a.method) c.method) (not (is_private c.method)) h in
    let q = and_first (is_instance c.method && is_instance a.method) (has_signature (signature_of a.method) c.method) p in
    record {
      over = and_first (is_instance c.method) (is_instance a.method) q;
      under = and_second (is_instance c.method) (is_instance a.method) q;
      signature = and_second (is_instance c.method && is_instance a.method) (has_signature (signature_of a.method) c.method) p;
      not_private = not-true (is_private c.method) (and_second (is_instance c.method && is_instance a.method && has_signature (signature_of a.method) c.method) (not (is_private c.method)) h);
    }

pub candidate_back : (c a : Node) → Candidate c a → is_candidate c a ≡ true
candidate_back c a k =
    and_from (is_instance c.method && is_instance a.method && has_signature (signature_of a.method) c.method) (not (is_private c.method))
    (and_from (is_instance c.method && is_instance a.method) (has_signature (signature_of a.method) c.method)
    (and_from (is_instance c.method) (is_instance a.method) k.over k.under) k.signature)
    (ap not k.not_private)

-- a method of the signature of one that has a signature has that too
pub signature_joined : (s : Signature) (a c : Node) → has_signature s a.method ≡ true → has_signature (signature_of a.method) c.method ≡ true → has_signature s c.method ≡ true
signature_joined s a c h k =
    and_from (same s.name c.method.name) (same s.desc c.method.desc)
    ((bytes_decides s.name c.method.name).1 ((bytes_decides s.name a.method.name).0 (and_first (same s.name a.method.name) (same s.desc a.method.desc) h) ∙ (bytes_decides a.method.name c.method.name).0 (and_first (same a.method.name c.method.name) (same a.method.desc c.method.desc) k)))
    ((bytes_decides s.desc c.method.desc).1 ((bytes_decides s.desc a.method.desc).0 (and_second (same s.name a.method.name) (same s.desc a.method.desc) h) ∙ (bytes_decides a.method.desc c.method.desc).0 (and_second (same a.method.name c.method.name) (same a.method.desc c.method.desc) k)))

-- two methods of one signature have each other's
pub signature_shared : (s : Signature) (a b : Node) → has_signature s a.method ≡ true → has_signature s b.method ≡ true → has_signature (signature_of a.method) b.method ≡ true
signature_shared s a b h k =
    and_from (same a.method.name b.method.name) (same a.method.desc b.method.desc)
    ((bytes_decides a.method.name b.method.name).1 (sym ((bytes_decides s.name a.method.name).0 (and_first (same s.name a.method.name) (same s.desc a.method.desc) h)) ∙ (bytes_decides s.name b.method.name).0 (and_first (same s.name b.method.name) (same s.desc b.method.desc) k)))
    ((bytes_decides a.method.desc b.method.desc).1 (sym ((bytes_decides s.desc a.method.desc).0 (and_second (same s.name a.method.name) (same s.desc a.method.desc) h)) ∙ (bytes_decides s.desc b.method.desc).0 (and_second (same s.name b.method.name) (same s.desc b.method.desc) k)))

-- ---- overriding

pub of_private : (types : List Placed) (c a : Node) → is_private c.method ≡ true → can_override types c a ≡ false
of_private types c a e = false_from_ne_true _ (λ h. (let k = (candidate c a (candidate_of types c a h)).not_private in cc))

pub of_open : (types : List Placed) (c a : Node) → (is_public a.method || is_protected a.method) ≡ true → can_override types c a ≡ is_candidate c a
unfolding can_override
of_open types c a e = both_ways (can_override types c a) (is_candidate c a) (candidate_of types c a)
    (λ m. over_directly (length (between types c.owner a.owner)) types c a m (or_left (is_public a.method || is_protected a.method) _ e))

pub of_itself : (types : List Placed) (m : Node) → can_override types m m ≡ (is_instance m.method && not (is_private m.method))
unfolding can_override
of_itself types m = both_ways (can_override types m m) (is_instance m.method && not (is_private m.method)) forth back
  where
    forth : can_override types m m ≡ true → (is_instance m.method && not (is_private m.method)) ≡ true
    forth h = let k = candidate m m (candidate_of types m m h) in and_from (is_instance m.method) (not (is_private m.method)) k.over (ap not k.not_private)

    direct : (p v q k : Bool) → v ≡ false → k ≡ true → (p || q || (not (p || v || q) && k)) ≡ true
    direct true v q k e f = refl
    direct false v true k e f = refl
    direct false true false k e f = absurd (cc)
    direct false false false true e f = refl
    direct false false false false e f = absurd (cc)

    back : (is_instance m.method && not (is_private m.method)) ≡ true → can_override types m m ≡ true
    back h =
        let i = and_first (is_instance m.method) (not (is_private m.method)) h in
        let v = not-true (is_private m.method) (and_second (is_instance m.method) (not (is_private m.method)) h) in
        over_directly (length (between types m.owner m.owner)) types m m (candidate_back m m (record { over = i; under = i; signature = signature_self m.method; not_private = v }))
        (direct (is_public m.method) (is_private m.method) (is_protected m.method) (same_package m m) v ((bytes_decides (package_of m.owner.view.name) (package_of m.owner.view.name)).1 refl))

pub outside : (types : List Placed) (c a : Node) → list_any (is_type a.owner) (drop 1 (chain types c.owner)) ≡ false → is_package_private a.method ≡ true → can_override types c a ≡ (is_candidate c a && same_package c a)
unfolding can_override between
outside types c a e p =
    ap (λ b. overrides_over (length (cond b (before (is_type a.owner) (drop 1 (chain types c.owner))) [])) types c a) e
    ∙ ap (λ b. is_candidate c a && b) (by_package (is_public a.method) (is_private a.method) (is_protected a.method) (same_package c a) p)
  where
    by_package : (p v q k : Bool) → not (p || v || q) ≡ true → (p || q || (not (p || v || q) && k)) ≡ k
    by_package true v q k e = absurd (cc)
    by_package false true q k e = absurd (cc)
    by_package false false true k e = absurd (cc)
    by_package false false false k e = refl

-- ---- searches

-- the method of one type
abbrev pub in_type : List Placed → (Node → Bool) → Placed → Option Node
in_type types test t = find (λ m. is_type t m.owner && test m) (nodes types)

pub none_found : {X Y : Type 0} (f : X → Option Y) (xs : List X) (x : X) → found_in f xs ≡ None → IsIn x xs → f x ≡ None
none_found f [] x e h = absurd h
none_found {X} {Y} f (y ∷ ys) x e h = at (f y) refl e h (none_found f ys x)
  where
    at : (o : Option Y) → f y ≡ o → or_else o (found_in f ys) ≡ None → IsIn x (y ∷ ys) → (found_in f ys ≡ None → IsIn x ys → f x ≡ None) → f x ≡ None
    at (Some z) q k i r = absurd (cc)
    at None q k (inl i) r = sym (ap f i) ∙ q
    at None q k (inr i) r = r k i

none_here : (types : List Placed) (test : Node → Bool) (ts : List Placed) → ((t : Placed) → IsIn t ts → in_type types test t ≡ None) → (n : Node) → Contains (nodes types) n → test n ≡ true → list_any (λ t. is_type t n.owner) ts ≡ false
none_here types test ts none n c p = false_from_ne_true _ (λ h.
    let t = in_any (λ t. is_type t n.owner) ts h in
    find_none (λ m. is_type t.0 m.owner && test m) (nodes types) n (none t.0 t.1) (IsIn-from_Contains _ n c) (and_from (is_type t.0 n.owner) (test n) t.2 p))

pub search_is_first : (types : List Placed) (test : Node → Bool) (line : List Placed) (c : Node) → searched types test line ≡ Some c → IsFirst types test line c
search_is_first types test line c e =
    let f = found_first (in_type types test) line c e in
    let n = find_in (λ m. is_type f.at m.owner && test m) (nodes types) c f.found in
    record {
      nearer = f.front;
      type = f.at;
      farther = f.rest;
      whole = f.whole;
      node_in = Contains-from_IsIn _ c n.0;
      owner = and_first (is_type f.at c.owner) (test c) n.1;
      passes = and_second (is_type f.at c.owner) (test c) n.1;
      none_nearer = none_here types test f.front (λ t h. in_all (λ t. in_type types test t ≡ None) f.front t f.none h);
    }

pub search_is_none : (types : List Placed) (test : Node → Bool) (line : List Placed) (n : Node) → searched types test line ≡ None → Contains (nodes types) n → test n ≡ true → list_any (λ t. is_type t n.owner) line ≡ false
search_is_none types test line n e = none_here types test line (λ t h. none_found (in_type types test) line t e h) n

pub first_is_searched : (types : List Placed) → IsDistinct is_type types → IsSingle types → (d : Placed) (a b : Node) → IsFirst types (λ n. can_override types n a) (chain types d) b → searched types (λ n. can_override types n a) (chain types d) ≡ Some b
first_is_searched types distinct one_each d a b f =
    ap (found_in (in_type types test)) f.whole
    ∙ first_found (in_type types test) f.nearer f.farther f.type b
    (all_from_in (λ t. in_type types test t ≡ None) f.nearer (λ t h. none t h (in_type types test t) refl))
    (find_only (λ m. is_type f.type m.owner && test m) (nodes types) b (IsIn-from_Contains _ b f.node_in) (and_from (is_type f.type b.owner) (test b) f.owner f.passes) only)
  where
    test : Node → Bool
    test n = can_override types n a

    none : (t : Placed) → IsIn t f.nearer → (o : Option Node) → in_type types (λ n. can_override types n a) t ≡ o → in_type types (λ n. can_override types n a) t ≡ None
    none t h None e = e
    none t h (Some n) e =
        let g = find_in (λ m. is_type t m.owner && can_override types m a) (nodes types) n e in
        let k = f.none_nearer n (Contains-from_IsIn _ n g.0) (and_second (is_type t n.owner) (can_override types n a) g.1) in
        let j : list_any (λ t. is_type t n.owner) f.nearer ≡ true = any_in (λ t. is_type t n.owner) f.nearer t h (and_first (is_type t n.owner) (can_override types n a) g.1) in
        absurd (cc)

    only : (y : Node) → IsIn y (nodes types) → (is_type f.type y.owner && can_override types y a) ≡ true → y ≡ b
    only y h k =
        let names : y.owner.view.name ≡ b.owner.view.name = sym (name_of_type f.type y.owner (and_first (is_type f.type y.owner) (can_override types y a) k)) ∙ name_of_type f.type b.owner f.owner in
        one_each y b (Contains-from_IsIn _ y h) f.node_in
        (one_of_name types y.owner b.owner distinct (node_owner types y h) (node_owner types b (IsIn-from_Contains _ b f.node_in)) ((bytes_decides y.owner.view.name b.owner.view.name).1 names))
        (signature_shared (signature_of a.method) y b
        (candidate y a (candidate_of types y a (and_second (is_type f.type y.owner) (can_override types y a) k))).signature
        (candidate b a (candidate_of types b a f.passes)).signature)

-- ---- selection

or_none : (o : Option Node) → o ≡ or_else o None
or_none None = refl
or_none (Some m) = refl

pub search_goes_on : (types : List Placed) → IsAcyclic types → (d : Placed) (test : Node → Bool) → Contains types d
    → searched types test (chain types d) ≡ or_else (searched types test (d ∷ [])) (searched types test (chain_above types d (superclass types d)))
search_goes_on types a d test c =
    ap (found_in (in_type types test)) (chain_goes_on types a d c) ∙ ap (λ o. or_else o (searched types test (chain_above types d (superclass types d)))) (or_none (in_type types test d))

pub selects : (types : List Placed) (d : Placed) (a : Node) (s : Signature) (o : Option Node) → is_private a.method ≡ false → searched types (λ n. can_override types n a) (chain types d) ≡ o → selected types d (Found a) s ≡ or_else o (one_default types d s)
unfolding selected
selects types d a s o e k =
    ap (λ b. cond b (Some a) (or_else (searched types (λ n. can_override types n a) (chain types d)) (one_default types d s))) e
    ∙ ap (λ v. or_else v (one_default types d s)) k

pub selects_for_phantom : (types : List Placed) (d : Placed) (s : Signature) (o : Option Node) → searched types (can_override_phantom s) (chain types d) ≡ o → selected types d Phantom s ≡ or_else o (one_default types d s)
unfolding selected
selects_for_phantom types d s o k = ap (λ v. or_else v (one_default types d s)) k

-- an instance method of the signature
abbrev pub IsInstanceOf : List Placed → Signature → Node → Type 0
IsInstanceOf types s m = Contains (nodes types) m × (is_instance m.method ≡ true) × (has_signature s m.method ≡ true)

pub default_is_instance : (types : List Placed) (t : Placed) (s : Signature) (m : Node) → one_default types t s ≡ Some m → IsInstanceOf types s m
default_is_instance types t s m e =
    let k = default_is_of types t s m e in
    (Contains-from_IsIn _ m k.0, ap not (super_is_open types t s m (default_in types t s m e).0).1, k.1)

pub selected_is_instance : (types : List Placed) (d : Placed) (a c : Node) (s : Signature) → Contains (nodes types) a → is_instance a.method ≡ true → has_signature s a.method ≡ true → selected types d (Found a) s ≡ Some c → IsInstanceOf types s c
unfolding selected
selected_is_instance types d a c s there i g e = at (is_private a.method) e
  where
    by : (searched types (λ b. can_override types b a) (chain types d) ≡ Some c) ⊎ (one_default types d s ≡ Some c) → IsInstanceOf types s c
    by (inl k) =
        let f = search_found types (λ b. can_override types b a) (chain types d) c k in
        let m = candidate c a (candidate_of types c a f.passes) in
        (Contains-from_IsIn _ c f.node_in, m.over, signature_joined s a c g m.signature)
    by (inr k) = default_is_instance types d s c k

    at : (b : Bool) → cond b (Some a) (or_else (searched types (λ b. can_override types b a) (chain types d)) (one_default types d s)) ≡ Some c → IsInstanceOf types s c
    at true k = let q : a ≡ c = cc in subst (IsInstanceOf types s) q (there, i, g)
    at false k = by (either _ _ c k)

pub phantom_is_instance : (types : List Placed) (d : Placed) (s : Signature) (c : Node) → selected types d Phantom s ≡ Some c → IsInstanceOf types s c
unfolding selected
phantom_is_instance types d s c e = by (either _ _ c e)
  where
    by : (searched types (can_override_phantom s) (chain types d) ≡ Some c) ⊎ (one_default types d s ≡ Some c) → IsInstanceOf types s c
    by (inl k) =
        let f = search_found types (can_override_phantom s) (chain types d) c k in
        let p = and_first (has_signature s c.method && is_instance c.method) (not (is_private c.method)) f.passes in
        (Contains-from_IsIn _ c f.node_in, and_second (has_signature s c.method) (is_instance c.method) p, and_first (has_signature s c.method) (is_instance c.method) p)
    by (inr k) = default_is_instance types d s c k
