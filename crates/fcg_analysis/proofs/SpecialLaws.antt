-- What a special call takes, and where its search starts.
use Rattle.std.proofs.Common.{◌≡◌, List, [], ◌∷◌, drop, refl, sym, ap, subst, ◌∙◌, inl, inr}
use Rattle.std.specs.Prelude.{Bool, true, false, not, cond, ◌&&◌, ◌||◌, ◌⊎◌, find, Option, Some, None, Contains, option_and_then, is_none}
use Rattle.std.specs.List.{list_any}
use Rattle.std.proofs.lemmas.Bool.{and_from, not-true}
use Rattle.std.proofs.Math.Bool.{or-false}
use Rattle.fcg_views.specs.declared.view.Ref.{Ref}
use Rattle.fcg_analysis.specs.NamesAndFlags.{or_else, found_in, contains}
use Rattle.fcg_analysis.specs.Declarations.{Placed, Signature, signature_in, has_signature, has_array_owner, is_named, is_type, is_class, is_interface, is_instance, superclass_names}
use Rattle.fcg_analysis.specs.Types.{type_named, superclass, line, chain}
use Rattle.fcg_analysis.specs.Nodes.{Node, nodes, declared, one_default}
use Rattle.fcg_analysis.specs.Resolution.{Outcome, Found, Phantom, Failed, KindMismatch, resolved, public_of_object, found_or, nothing_found}
use Rattle.fcg_analysis.specs.Selection.{searched}
use Rattle.fcg_analysis.specs.Special.{is_superclass_name, search_start, found_from, is_init, special_init, goes_on, special}
use Rattle.fcg_analysis.specs.Laws.Statements.{IsAcyclic, line_above}
use Rattle.fcg_analysis.proofs.General.Members.{IsIn, IsIn-from_Contains, Contains-from_IsIn, find_in, find_none, in_any, and_first, and_second}
use Rattle.fcg_analysis.proofs.ChainParts.{interface_chain}
use Rattle.fcg_analysis.proofs.LineLaws.{line_goes_on}
use Rattle.fcg_analysis.proofs.ResolvedLaws.{ByKind, of_other_kind, of_its_kind, outcome_by_kind, kinds, found_above, of_owner, resolved_of, public_of}
use Rattle.fcg_analysis.proofs.SearchLaws.{IsInstanceOf, default_is_instance, in_type, none_found}
use Rattle.fcg_analysis.proofs.SelectedLaws.{either, search_found}
use Rattle.fcg_analysis.proofs.WinnerLaws.{is_type_self}

-- an instance method of the signature
abbrev wanted : Signature → Node → Bool
wanted s m = has_signature s m.method && is_instance m.method

-- ---- what is taken

found_from_is : (types : List Placed) (s : Signature) (t : Placed) (m : Node) → found_from types s t ≡ Some m → IsInstanceOf types s m
found_from_is types s t m e = by (either (searched types (wanted s) (chain types t)) (or_else (cond (is_interface t) (public_of_object types s) None) (one_default types t s)) m e)
  where
    of_object : (b : Bool) → cond b (public_of_object types s) None ≡ Some m → IsInstanceOf types s m
    of_object true k = let p = public_of types s m k in (Contains-from_IsIn _ m p.0.0, p.1, p.0.1)
    of_object false k = absurd (cc)

    by : (searched types (wanted s) (chain types t) ≡ Some m) ⊎ (or_else (cond (is_interface t) (public_of_object types s) None) (one_default types t s) ≡ Some m) → IsInstanceOf types s m
    by (inl k) =
        let f = search_found types (wanted s) (chain types t) m k in
        (Contains-from_IsIn _ m f.node_in, and_second (has_signature s m.method) (is_instance m.method) f.passes, and_first (has_signature s m.method) (is_instance m.method) f.passes)
    by (inr k) =
        elim (either (cond (is_interface t) (public_of_object types s) None) (one_default types t s) m k) [
          | inl q ↦ of_object (is_interface t) q
          | inr q ↦ default_is_instance types t s m q
        ]

-- the special call of an outcome
abbrev taken : List Placed → Placed → Ref → Outcome → Bool → Option Node
taken types x r o b =
    cond (not (goes_on o)) None (cond b (special_init r o) (option_and_then (found_from types (signature_in r)) (search_start types x r)))

-- an `<init>` is the outcome itself
init_is : (r : Ref) (o : Outcome) (m : Node) → special_init r o ≡ Some m → (o ≡ Found m) × (is_named r.owner m.owner ≡ true) × (is_class m.owner ≡ true)
init_is r Phantom m e = absurd (cc)
init_is r (Failed cause) m e = absurd (cc)
init_is r (Found n) m e = at (is_named r.owner n.owner && is_class n.owner) refl e
  where
    at : (b : Bool) → (is_named r.owner n.owner && is_class n.owner) ≡ b → cond b (Some n) None ≡ Some m → (Found n ≡ Found m) × (is_named r.owner m.owner ≡ true) × (is_class m.owner ≡ true)
    at false q k = absurd (cc)
    at true q k =
        let same : n ≡ m = cc in
        subst (λ v. (Found n ≡ Found v) × (is_named r.owner v.owner ≡ true) × (is_class v.owner ≡ true)) same
        (refl, and_first (is_named r.owner n.owner) (is_class n.owner) q, and_second (is_named r.owner n.owner) (is_class n.owner) q)

goes : (types : List Placed) (x : Placed) (r : Ref) (o : Outcome) (b : Bool) (m : Node) → taken types x r o b ≡ Some m → goes_on o ≡ true
goes types x r o b m e = at (goes_on o) e
  where
    at : (g : Bool) → cond (not g) None (cond b (special_init r o) (option_and_then (found_from types (signature_in r)) (search_start types x r))) ≡ Some m → g ≡ true
    at true k = refl
    at false k = absurd (cc)

taken_is : (types : List Placed) (x : Placed) (r : Ref) (o : Outcome) (b : Bool) → goes_on o ≡ true → taken types x r o b ≡ cond b (special_init r o) (option_and_then (found_from types (signature_in r)) (search_start types x r))
taken_is types x r o b g = ap (λ v. cond (not v) None (cond b (special_init r o) (option_and_then (found_from types (signature_in r)) (search_start types x r)))) g

pub init_named : (types : List Placed) (x : Placed) (r : Ref) (m : Node) → is_init r ≡ true → special types x r ≡ Some m → (resolved types r ≡ Found m) × (is_named r.owner m.owner ≡ true) × (is_class m.owner ≡ true)
unfolding special
init_named types x r m i e =
    init_is r (resolved types r) m
    (sym (taken_is types x r (resolved types r) (is_init r) (goes types x r (resolved types r) (is_init r) m e) ∙ ap (λ b. cond b (special_init r (resolved types r)) (option_and_then (found_from types (signature_in r)) (search_start types x r))) i) ∙ e)

pub special_is_instance : (types : List Placed) (x : Placed) (r : Ref) (m : Node) → special types x r ≡ Some m → IsInstanceOf types (signature_in r) m
unfolding special
special_is_instance types x r m e = at (is_init r) (sym (taken_is types x r (resolved types r) (is_init r) on) ∙ e)
  where
    on : goes_on (resolved types r) ≡ true
    on = goes types x r (resolved types r) (is_init r) m e

    from_start : (o : Option Placed) → option_and_then (found_from types (signature_in r)) o ≡ Some m → IsInstanceOf types (signature_in r) m
    from_start None k = absurd (cc)
    from_start (Some t) k = found_from_is types (signature_in r) t m k

    at : (b : Bool) → cond b (special_init r (resolved types r)) (option_and_then (found_from types (signature_in r)) (search_start types x r)) ≡ Some m → IsInstanceOf types (signature_in r) m
    at true k =
        let i = (init_is r (resolved types r) m k).0 in
        let n = resolved_of types r m i in
        (Contains-from_IsIn _ m n.0, sym (ap goes_on i) ∙ on, n.1)
    at false k = from_start (search_start types x r) k

-- ---- superclass names

pub name_of_line : (types : List Placed) → IsAcyclic types → (x u : Placed) → Contains types x → Contains types u → is_superclass_name types x u.view.name ≡ list_any (is_type u) (line_above types (superclass types x))
name_of_line types a x u c d = ap (λ own. list_any (is_type u) (drop 1 own) || is_none (type_named types u.view.name) && list_any (λ t. contains u.view.name (superclass_names t)) own) (line_goes_on types a x c) ∙ at (is_none (type_named types u.view.name)) (there (type_named types u.view.name) refl)
  where
    there : (o : Option Placed) → type_named types u.view.name ≡ o → is_none o ≡ false
    there None k = absurd (find_none (is_type u) types u k (IsIn-from_Contains types u d) (is_type_self u))
    there (Some v) k = refl

    at : (b : Bool) → b ≡ false
        → (list_any (is_type u) (line_above types (superclass types x)) || b && list_any (λ t. contains u.view.name (superclass_names t)) (x ∷ line_above types (superclass types x)))
        ≡ list_any (is_type u) (line_above types (superclass types x))
    at true k = absurd (cc)
    at false k = or-false (list_any (is_type u) (line_above types (superclass types x)))

-- ---- where the search starts

-- by the kind of the reference and whether the owner is a superclass name
abbrev start : List Placed → Placed → Ref → Bool → Bool → Option Placed
start types x r i n = cond (not i && n) (superclass types x) (type_named types r.owner)

-- no `<init>`
no_init : (types : List Placed) (x : Placed) (r : Ref) → is_init r ≡ false → special types x r ≡ cond (not (goes_on (resolved types r))) None (option_and_then (found_from types (signature_in r)) (search_start types x r))
unfolding special
no_init types x r i = ap (λ b. taken types x r (resolved types r) b) i

pub special_from : (types : List Placed) (x : Placed) (r : Ref) (i n : Bool) → is_init r ≡ false → r.owner_is_interface_ref ≡ i → is_superclass_name types x r.owner ≡ n
    → special types x r ≡ cond (not (goes_on (resolved types r))) None (option_and_then (found_from types (signature_in r)) (start types x r i n))
special_from types x r i n e f g =
    no_init types x r e
    ∙ ap (λ b. cond (not (goes_on (resolved types r))) None (option_and_then (found_from types (signature_in r)) (start types x r b (is_superclass_name types x r.owner)))) f
    ∙ ap (λ b. cond (not (goes_on (resolved types r))) None (option_and_then (found_from types (signature_in r)) (start types x r i b))) g

-- where nothing is to start from
nothing : (b : Bool) (o : Option Node) → o ≡ None → cond (not b) None o ≡ None
nothing true o e = e
nothing false o e = refl

pub at_superclass : (types : List Placed) (x p : Placed) (r : Ref) → is_init r ≡ false → goes_on (resolved types r) ≡ true → r.owner_is_interface_ref ≡ false → is_superclass_name types x r.owner ≡ true → superclass types x ≡ Some p → special types x r ≡ found_from types (signature_in r) p
at_superclass types x p r e g f n s =
    special_from types x r false true e f n
    ∙ ap (λ o. cond (not (goes_on (resolved types r))) None (option_and_then (found_from types (signature_in r)) o)) s
    ∙ ap (λ b. cond (not b) None (found_from types (signature_in r) p)) g

pub no_superclass : (types : List Placed) (x : Placed) (r : Ref) → is_init r ≡ false → r.owner_is_interface_ref ≡ false → is_superclass_name types x r.owner ≡ true → superclass types x ≡ None → special types x r ≡ None
no_superclass types x r e f n s =
    special_from types x r false true e f n
    ∙ ap (λ o. cond (not (goes_on (resolved types r))) None (option_and_then (found_from types (signature_in r)) o)) s
    ∙ nothing (goes_on (resolved types r)) None refl

pub no_interface : (types : List Placed) (x : Placed) (r : Ref) → is_init r ≡ false → r.owner_is_interface_ref ≡ true → type_named types r.owner ≡ None → special types x r ≡ None
no_interface types x r e f n =
    special_from types x r true (is_superclass_name types x r.owner) e f refl
    ∙ ap (λ o. cond (not (goes_on (resolved types r))) None (option_and_then (found_from types (signature_in r)) o)) n
    ∙ nothing (goes_on (resolved types r)) None refl

-- a start by another name
start_at_name : (types : List Placed) (x : Placed) (r : Ref) → is_superclass_name types x r.owner ≡ false → search_start types x r ≡ type_named types r.owner
start_at_name types x r n = ap (λ b. start types x r r.owner_is_interface_ref b) n ∙ at r.owner_is_interface_ref
  where
    at : (b : Bool) → cond (not b && false) (superclass types x) (type_named types r.owner) ≡ type_named types r.owner
    at true = refl
    at false = refl

pub other_name : (types : List Placed) (x y : Placed) (r : Ref) → is_superclass_name types x r.owner ≡ false → is_superclass_name types y r.owner ≡ false → special types x r ≡ special types y r
unfolding special
other_name types x y r n m =
    ap (λ o. cond (not (goes_on (resolved types r))) None (cond (is_init r) (special_init r (resolved types r)) (option_and_then (found_from types (signature_in r)) o)))
    (start_at_name types x r n ∙ sym (start_at_name types y r m))

-- ---- the resolved method of a class of the chain

-- a stronger test finds what a weaker one finds, where it passes
stronger : {X : Type 0} (p q : X → Bool) → ((x : X) → q x ≡ true → p x ≡ true) → (xs : List X) (x : X) → find p xs ≡ Some x → q x ≡ true → find q xs ≡ Some x
stronger p q more [] x e t = absurd (cc)
stronger {X} p q more (y ∷ ys) x e t = at (p y) (q y) refl refl e (stronger p q more ys x)
  where
    at : (b c : Bool) → p y ≡ b → q y ≡ c → cond b (Some y) (find p ys) ≡ Some x → (find p ys ≡ Some x → q x ≡ true → find q ys ≡ Some x) → cond c (Some y) (find q ys) ≡ Some x
    at true true h k f r = f
    at true false h k f r = absurd (let same : y ≡ x = cc in let w : q y ≡ q x = ap q same in cc)
    at false true h k f r = absurd (let w = more y k in cc)
    at false false h k f r = r f t

none_stronger : {X : Type 0} (p q : X → Bool) → ((x : X) → q x ≡ true → p x ≡ true) → (xs : List X) → find p xs ≡ None → find q xs ≡ None
none_stronger {X} p q more xs e = at (find q xs) refl
  where
    at : (o : Option X) → find q xs ≡ o → find q xs ≡ None
    at None k = k
    at (Some x) k = let f = find_in q xs x k in absurd (find_none p xs x e f.0 (more x f.1))

module _ (types : List Placed) (s : Signature) where
  weaker : (t : Placed) (m : Node) → (is_type t m.owner && wanted s m) ≡ true → (is_type t m.owner && has_signature s m.method) ≡ true
  weaker t m h = and_from (is_type t m.owner) (has_signature s m.method) (and_first (is_type t m.owner) (wanted s m) h) (and_first (has_signature s m.method) (is_instance m.method) (and_second (is_type t m.owner) (wanted s m) h))

  -- what is declared first along a line is found by the search, where it is an instance method
  along : (line : List Placed) (m : Node) → found_in (declared types s) line ≡ Some m → is_instance m.method ≡ true → searched types (wanted s) line ≡ Some m
  along [] m e i = absurd (cc)
  along (t ∷ ts) m e i = at (declared types s t) refl e (along ts m)
    where
      at : (o : Option Node) → declared types s t ≡ o → or_else o (found_in (declared types s) ts) ≡ Some m
          → (found_in (declared types s) ts ≡ Some m → is_instance m.method ≡ true → searched types (wanted s) ts ≡ Some m) → or_else (in_type types (wanted s) t) (searched types (wanted s) ts) ≡ Some m
      at None q k r =
          ap (λ o. or_else o (searched types (wanted s) ts)) (none_stronger (λ m. is_type t m.owner && has_signature s m.method) (λ m. is_type t m.owner && wanted s m) (weaker t) (nodes types) q)
          ∙ r k i
      at (Some n) q k r =
          let same : n ≡ m = cc in
          let f = find_in (λ m. is_type t m.owner && has_signature s m.method) (nodes types) n q in
          let j : is_instance n.method ≡ true = ap (λ v. is_instance v.method) same ∙ i in
          let p : (is_type t n.owner && wanted s n) ≡ true =
          and_from (is_type t n.owner) (wanted s n) (and_first (is_type t n.owner) (has_signature s n.method) f.1)
          (and_from (has_signature s n.method) (is_instance n.method) (and_second (is_type t n.owner) (has_signature s n.method) f.1) j) in
          ap (λ o. or_else o (searched types (wanted s) ts)) (stronger (λ m. is_type t m.owner && has_signature s m.method) (λ m. is_type t m.owner && wanted s m) (weaker t) (nodes types) n q p)
          ∙ ap Some same

  -- a method of the signature in a type of a line: something is declared along it
  declared_along : (line : List Placed) (m : Node) → IsIn m (nodes types) → has_signature s m.method ≡ true → list_any (λ u. is_type u m.owner) line ≡ true → found_in (declared types s) line ≡ None → ⊥
  declared_along line m h g k e =
      let u = in_any (λ u. is_type u m.owner) line k in
      find_none (λ n. is_type u.0 n.owner && has_signature s n.method) (nodes types) m (none_found (declared types s) line u.0 e u.1) h (and_from (is_type u.0 m.owner) (has_signature s m.method) u.2 g)

pub at_name : (types : List Placed) (x t : Placed) (r : Ref) (m : Node) → has_array_owner r ≡ false → is_init r ≡ false → is_superclass_name types x r.owner ≡ false → type_named types r.owner ≡ Some t → is_class t ≡ true
    → resolved types r ≡ Found m → is_instance m.method ≡ true → list_any (λ u. is_type u m.owner) (chain types t) ≡ true → special types x r ≡ Some m
at_name types x t r m a i n k c f j l =
    no_init types x r i
    ∙ ap (λ o. cond (not (goes_on o)) None (option_and_then (found_from types (signature_in r)) (search_start types x r))) f
    ∙ ap (λ b. cond (not b) None (option_and_then (found_from types (signature_in r)) (search_start types x r))) j
    ∙ ap (option_and_then (found_from types (signature_in r))) (start_at_name types x r n ∙ k)
    ∙ ap (λ o. or_else o (or_else (cond (is_interface t) (public_of_object types (signature_in r)) None) (one_default types t (signature_in r)))) (along types (signature_in r) (chain types t) m found j)
  where
    s : Signature
    s = signature_in r

    by_class : (b : Bool) → r.owner_is_interface_ref ≡ b → found_or (nothing_found types t) (or_else (found_in (declared types (signature_in r)) (chain types t)) (found_above types (signature_in r) t)) ≡ Found m
    by_class false e = sym (of_owner types r (Some t) a k ∙ kinds types r t false false e (not-true (is_interface t) c)) ∙ f
    by_class true e = absurd (let q : Failed KindMismatch ≡ Found m = sym (of_owner types r (Some t) a k ∙ kinds types r t true false e (not-true (is_interface t) c)) ∙ f in cc)

    at : (o : Option Node) → found_in (declared types (signature_in r)) (chain types t) ≡ o
        → found_or (nothing_found types t) (or_else o (found_above types (signature_in r) t)) ≡ Found m → found_in (declared types (signature_in r)) (chain types t) ≡ Some m
    at None e q = let w = resolved_of types r m f in absurd (declared_along types (signature_in r) (chain types t) m w.0 w.1 l e)
    at (Some p) e q = let same : p ≡ m = cc in e ∙ ap Some same

    found : found_in (declared types (signature_in r)) (chain types t) ≡ Some m
    found = at (found_in (declared types (signature_in r)) (chain types t)) refl (by_class r.owner_is_interface_ref refl)

-- ---- by an interface

pub by_interface : (types : List Placed) (x t : Placed) (r : Ref) → has_array_owner r ≡ false → is_init r ≡ false → r.owner_is_interface_ref ≡ true → type_named types r.owner ≡ Some t → goes_on (resolved types r) ≡ true
    → special types x r ≡ or_else (searched types (wanted (signature_in r)) (t ∷ [])) (or_else (public_of_object types (signature_in r)) (one_default types t (signature_in r)))
by_interface types x t r a i b k g =
    special_from types x r true (is_superclass_name types x r.owner) i b refl
    ∙ ap (λ o. cond (not (goes_on (resolved types r))) None (option_and_then (found_from types (signature_in r)) o)) k
    ∙ ap (λ v. cond (not v) None (found_from types (signature_in r) t)) g
    ∙ ap (λ zs. or_else (searched types (wanted (signature_in r)) zs) (or_else (cond (is_interface t) (public_of_object types (signature_in r)) None) (one_default types t (signature_in r)))) (interface_chain types t there (interface (outcome_by_kind types r t)))
    ∙ ap (λ v. or_else (searched types (wanted (signature_in r)) (t ∷ [])) (or_else (cond v (public_of_object types (signature_in r)) None) (one_default types t (signature_in r)))) (interface (outcome_by_kind types r t))
  where
    there : Contains types t
    there = Contains-from_IsIn types t (find_in (is_named r.owner) types t k).0

    of_kind : (v : Bool) → (not v ≡ true → ⊥) → v ≡ true
    of_kind true h = refl
    of_kind false h = absurd (h refl)

    interface : ByKind types r t → is_interface t ≡ true
    interface (of_other_kind q w) = absurd (let e : goes_on (resolved types r) ≡ false = ap goes_on (of_owner types r (Some t) a k ∙ w) in cc)
    interface (of_its_kind n found of w) = of_kind (is_interface t) (λ q. n (q ∙ sym b))

-- ---- by a class

pub by_class : (types : List Placed) (x t : Placed) (r : Ref) → is_init r ≡ false → goes_on (resolved types r) ≡ true → search_start types x r ≡ Some t → is_class t ≡ true
    → special types x r ≡ or_else (searched types (wanted (signature_in r)) (chain types t)) (one_default types t (signature_in r))
by_class types x t r i g k c =
    no_init types x r i
    ∙ ap (λ o. cond (not (goes_on (resolved types r))) None (option_and_then (found_from types (signature_in r)) o)) k
    ∙ ap (λ v. cond (not v) None (found_from types (signature_in r) t)) g
    ∙ ap (λ v. or_else (searched types (wanted (signature_in r)) (chain types t)) (or_else (cond v (public_of_object types (signature_in r)) None) (one_default types t (signature_in r)))) (not-true (is_interface t) c)
