-- Overriding and selection, put so that one look at each type of a chain is enough.
use Rattle.std.proofs.Common.{◌≡◌, List, [], ◌∷◌, ◌++◌, refl, sym, ap, subst, ◌∙◌, inl, inr}
use Rattle.std.specs.Prelude.{Bool, true, false, not, cond, ◌||◌, ◌&&◌, drop, Option, Some, None, Contains, ⊤}
use Rattle.std.specs.List.{list_any, IsDistinct}
use Rattle.std.specs.Cmp.Lexicographic.{bytes_decides}
use Rattle.std.proofs.lemmas.Bool.{and_from, false_from_ne_true}
use Rattle.std.proofs.lemmas.List.{append_assoc}
use Rattle.std.proofs.Math.Bool.{or-false, or_assoc}
use Rattle.fcg_analysis.specs.NamesAndFlags.{before, found_in, or_else, package_of}
use Rattle.fcg_analysis.specs.Declarations.{Placed, Signature, signature_of, has_signature, is_type, is_instance, is_private, is_public, is_protected, is_package_private}
use Rattle.fcg_analysis.specs.Types.{chain}
use Rattle.fcg_analysis.specs.Nodes.{Node, nodes, declared}
use Rattle.fcg_analysis.specs.Selection.{between, is_candidate, overrides_directly, same_package, can_override, can_override_phantom, searched}
use Rattle.fcg_analysis.specs.Laws.Statements.{IsAcyclic, hands_on}
use Rattle.fcg_analysis.specs.Laws.Methods.{IsSingle}
use Rattle.fcg_analysis.specs.Laws.HandedOn.{where_passes, passes_at, is_open, is_handing, hands, has_before, handed_on, overrides_alike}
use Rattle.fcg_analysis.proofs.General.Members.{IsIn, IsIn-from_Contains, Contains-from_IsIn, and_first, and_second, find_in}
use Rattle.fcg_analysis.proofs.General.Finding.{any_alike}
use Rattle.fcg_analysis.proofs.ChainLaws.{chain_rest}
use Rattle.fcg_analysis.proofs.DeclaredSearch.{only_one, search_declared, any_declared}
use Rattle.fcg_analysis.proofs.NodeMembers.{signature_self}
use Rattle.fcg_analysis.proofs.OverrideLaws.{one_of_name, node_owner, candidates_beside, override_shortly}
use Rattle.fcg_analysis.proofs.SearchLaws.{candidate, candidate_of}
use Rattle.fcg_analysis.proofs.WinnerLaws.{is_type_back}

-- ---- tests

and_false : (b : Bool) → (b && false) ≡ false
and_false true = refl
and_false false = refl

any_cond : {X : Type 0} (p : X → Bool) (b : Bool) (xs : List X) → list_any p (cond b xs []) ≡ (b && list_any p xs)
any_cond p true xs = refl
any_cond p false xs = refl

before_in : {X : Type 0} (p : X → Bool) (xs : List X) (x : X) → IsIn x (before p xs) → IsIn x xs
before_in p [] x h = absurd h
before_in {X} p (y ∷ ys) x h = at (p y) (before_in p ys x) h
  where
    at : (b : Bool) → (IsIn x (before p ys) → IsIn x ys) → IsIn x (cond b [] (y ∷ before p ys)) → IsIn x (y ∷ ys)
    at true r k = absurd k
    at false r (inl e) = inl e
    at false r (inr k) = inr (r k)

-- a type before the one that stops has it
before_is_any : (stops has : Placed → Bool) (met : Bool) (line : List Placed) → has_before stops has met line ≡ (list_any stops line && (met || list_any has (before stops line)))
before_is_any stops has met [] = refl
before_is_any stops has met (t ∷ ts) = at (stops t) (before_is_any stops has (met || has t) ts)
  where
    at : (b : Bool) → has_before stops has (met || has t) ts ≡ (list_any stops ts && ((met || has t) || list_any has (before stops ts)))
        → cond b met (has_before stops has (met || has t) ts) ≡ ((b || list_any stops ts) && (met || list_any has (cond b [] (t ∷ before stops ts))))
    at true r = sym (or-false met)
    at false r = r ∙ ap (λ v. list_any stops ts && v) (or_assoc met (has t) (list_any has (before stops ts)))

-- ---- signatures

same_package_self : (a : Node) → same_package a a ≡ true
same_package_self a = (bytes_decides (package_of a.owner.view.name) (package_of a.owner.view.name)).1 refl

-- among methods of a's signature, the candidates are the open ones
candidate_is_open : (c a : Node) → is_instance a.method ≡ true → has_signature (signature_of a.method) c.method ≡ true → is_candidate c a ≡ is_open c
candidate_is_open c a i s = at (is_instance c.method) (is_instance a.method) (has_signature (signature_of a.method) c.method) i s
  where
    at : (x y z : Bool) → y ≡ true → z ≡ true → (x && y && z && not (is_private c.method)) ≡ (x && not (is_private c.method))
    at true true true p q = refl
    at false true true p q = refl
    at x false z p q = absurd (cc)
    at x true false p q = absurd (cc)

-- none but candidates override
pub over_not : (types : List Placed) (c a : Node) → is_candidate c a ≡ false → can_override types c a ≡ false
over_not types c a e = false_from_ne_true _ (λ h. (let k = candidate_of types c a h in cc))

-- ---- chains

-- each type of a line is known, and its chain is the line from it on
abbrev IsChain : List Placed → List Placed → Type 0
IsChain types [] = ⊤
IsChain types (t ∷ rest) = Contains types t × (chain types t ≡ t ∷ rest) × IsChain types rest

all_known : (types line : List Placed) → IsChain types line → (t : Placed) → IsIn t line → Contains types t
all_known types [] i t h = absurd h
all_known types (u ∷ us) i t (inl e) = subst (Contains types) e i.0
all_known types (u ∷ us) i t (inr h) = all_known types us i.2 t h

chain_from : (types : List Placed) → IsAcyclic types → (d : Placed) → Contains types d → (front line : List Placed) → chain types d ≡ front ++ line → IsChain types line
chain_from types a d k front [] e = tt
chain_from types a d k front (t ∷ rest) e =
    let r = chain_rest types a front rest d t k e in
    (r.1, r.0, chain_from types a d k (front ++ t ∷ []) rest (e ∙ sym (append_assoc front (t ∷ []) rest)))

-- ---- known types

module _ (types : List Placed) (acyclic : IsAcyclic types) (distinct : IsDistinct is_type types) (one_each : IsSingle types) where
  -- what stands in a declared node
  record Declares (s : Signature) (t : Placed) (m : Node) : Type 0 where
    node : Contains (nodes types) m
    owner : is_type t m.owner ≡ true
    signature : has_signature s m.method ≡ true

  declares : (s : Signature) (t : Placed) (m : Node) → declared types s t ≡ Some m → Declares s t m
  declares s t m e =
      let f = find_in (λ n. is_type t n.owner && has_signature s n.method) (nodes types) m e in
      record {
        node = Contains-from_IsIn (nodes types) m f.0;
        owner = and_first (is_type t m.owner) (has_signature s m.method) f.1;
        signature = and_second (is_type t m.owner) (has_signature s m.method) f.1;
      }

  -- ---- handing on

  module _ (c a : Node) (allowed : is_candidate c a ≡ true) where
    a_instance : is_instance a.method ≡ true
    a_instance = (candidate c a allowed).under

    handing : (b : Node) → has_signature (signature_of a.method) b.method ≡ true
        → (is_candidate c b && (is_candidate b a && ((is_public b.method || is_protected b.method) && same_package b a))) ≡ is_handing a b
    handing b s = at (is_candidate b a) refl
      where
        open_is : is_candidate b a ≡ is_open b
        open_is = candidate_is_open b a a_instance s

        at : (v : Bool) → is_candidate b a ≡ v
            → (is_candidate c b && (is_candidate b a && ((is_public b.method || is_protected b.method) && same_package b a))) ≡ (is_open b && ((is_public b.method || is_protected b.method) && same_package b a))
        at true e =
            ap (λ v. v && (is_candidate b a && ((is_public b.method || is_protected b.method) && same_package b a))) (candidates_beside c b a allowed e)
            ∙ ap (λ v. v && ((is_public b.method || is_protected b.method) && same_package b a)) open_is
        at false e =
            ap (λ v. is_candidate c b && (v && ((is_public b.method || is_protected b.method) && same_package b a))) e
            ∙ and_false (is_candidate c b)
            ∙ ap (λ v. v && ((is_public b.method || is_protected b.method) && same_package b a)) (sym e ∙ open_is)

    hands_is : (t : Placed) → Contains types t → hands_on types c a t ≡ hands types a t
    hands_is t k =
        any_declared types distinct one_each t (signature_of a.method)
        (λ b. is_candidate c b && (is_candidate b a && ((is_public b.method || is_protected b.method) && same_package b a)))
        (λ b h. (candidate b a (and_first (is_candidate b a) _ (and_second (is_candidate c b) _ h))).signature)
        ∙ at (declared types (signature_of a.method) t) refl
      where
        at : (o : Option Node) → declared types (signature_of a.method) t ≡ o
            → passes_at (λ b. is_candidate c b && (is_candidate b a && ((is_public b.method || is_protected b.method) && same_package b a))) o ≡ passes_at (is_handing a) o
        at None e = refl
        at (Some b) e = handing b (declares (signature_of a.method) t b e).signature

    -- ---- can override

    after_known : Contains types c.owner → (t : Placed) → IsIn t (drop 1 (chain types c.owner)) → Contains types t
    after_known k t h = all_known types (drop 1 (chain types c.owner)) (drops (chain types c.owner) (chain_from types acyclic c.owner k [] (chain types c.owner) refl)) t h
      where
        drops : (line : List Placed) → IsChain types line → IsChain types (drop 1 line)
        drops [] i = tt
        drops (u ∷ us) i = i.2

    handed_is : Contains types c.owner → list_any (hands_on types c a) (between types c.owner a.owner) ≡ handed_on types a (drop 1 (chain types c.owner))
    unfolding between
    handed_is k =
        any_cond (hands_on types c a) (list_any (is_type a.owner) (drop 1 (chain types c.owner))) (before (is_type a.owner) (drop 1 (chain types c.owner)))
        ∙ ap (λ v. list_any (is_type a.owner) (drop 1 (chain types c.owner)) && v)
        (any_alike (hands_on types c a) (hands types a) (before (is_type a.owner) (drop 1 (chain types c.owner)))
        (λ t h. hands_is t (after_known k t (before_in (is_type a.owner) (drop 1 (chain types c.owner)) t h))))
        ∙ sym (before_is_any (is_type a.owner) (hands types a) false (drop 1 (chain types c.owner)))

    pub over_candidate : Contains types c.owner → can_override types c a ≡ (overrides_directly c a || is_package_private a.method && handed_on types a (drop 1 (chain types c.owner)))
    over_candidate k =
        override_shortly types acyclic distinct c a k
        ∙ ap (λ v. v && (overrides_directly c a || is_package_private a.method && list_any (hands_on types c a) (between types c.owner a.owner))) allowed
        ∙ ap (λ v. overrides_directly c a || is_package_private a.method && v) (handed_is k)

  -- ---- selection

  over_signature : (c a : Node) → can_override types c a ≡ true → has_signature (signature_of a.method) c.method ≡ true
  over_signature c a h = (candidate c a (candidate_of types c a h)).signature

  -- a search along a line for a test looks at the declared methods alone
  module _ (s : Signature) (test wanted : Node → Bool) (more : (m : Node) → test m ≡ true → has_signature s m.method ≡ true)
      (alike : (m : Node) → Contains (nodes types) m → has_signature s m.method ≡ true → test m ≡ wanted m) where
    pub search_is : (line : List Placed) → ((t : Placed) → IsIn t line → Contains types t) → searched types test line ≡ found_in (λ t. where_passes wanted (declared types s t)) line
    search_is [] k = refl
    search_is (t ∷ ts) k =
        ap (λ o. or_else o (searched types test ts)) (search_declared types distinct one_each t s test more ∙ at (declared types s t) refl)
        ∙ ap (or_else (where_passes wanted (declared types s t))) (search_is ts (λ u h. k u (inr h)))
      where
        at : (o : Option Node) → declared types s t ≡ o → where_passes test o ≡ where_passes wanted o
        at None e = refl
        at (Some m) e = let d = declares s t m e in ap (λ v. cond v (Some m) None) (alike m d.node d.signature)

  pub line_known : (d : Placed) → Contains types d → (t : Placed) → IsIn t (chain types d) → Contains types t
  line_known d k t h = all_known types (chain types d) (chain_from types acyclic d k [] (chain types d) refl) t h

  -- of a public or protected method, and of a phantom, every open one overrides
  module _ (a : Node) (inst : is_instance a.method ≡ true) (strong : (is_public a.method || is_protected a.method) ≡ true) where
    over_open : (m : Node) → Contains (nodes types) m → has_signature (signature_of a.method) m.method ≡ true → can_override types m a ≡ is_open m
    over_open m k g = at (is_candidate m a) refl
      where
        m_in : Contains types m.owner
        m_in = Contains-from_IsIn types m.owner (node_owner types m (IsIn-from_Contains (nodes types) m k))

        at : (b : Bool) → is_candidate m a ≡ b → can_override types m a ≡ is_open m
        at true q =
            over_candidate m a q m_in
            ∙ ap (λ v. (v || is_package_private a.method && same_package m a) || is_package_private a.method && handed_on types a (drop 1 (chain types m.owner))) strong
            ∙ sym q ∙ candidate_is_open m a inst g
        at false q = over_not types m a q ∙ sym q ∙ candidate_is_open m a inst g

    pub select_open : (d : Placed) → Contains types d
        → searched types (λ c. can_override types c a) (chain types d) ≡ found_in (λ t. where_passes is_open (declared types (signature_of a.method) t)) (chain types d)
    select_open d k =
        search_is (signature_of a.method) (λ c. can_override types c a) is_open (λ m h. over_signature m a h) over_open (chain types d) (line_known d k)

  pub select_phantom : (s : Signature) (d : Placed) → Contains types d
      → searched types (can_override_phantom s) (chain types d) ≡ found_in (λ t. where_passes is_open (declared types s t)) (chain types d)
  select_phantom s d k =
      search_is s (can_override_phantom s) is_open
      (λ m h. and_first (has_signature s m.method) (is_instance m.method) (and_first (has_signature s m.method && is_instance m.method) (not (is_private m.method)) h))
      (λ m c g. ap (λ v. v && is_instance m.method && not (is_private m.method)) g)
      (chain types d) (line_known d k)

  -- a package-private instance method
  module _ (a : Node) (a_in : Contains (nodes types) a) (pp : is_package_private a.method ≡ true) (inst : is_instance a.method ≡ true) where
    not_public : (is_public a.method ≡ false) × (is_protected a.method ≡ false) × (is_private a.method ≡ false)
    not_public = at (is_public a.method) (is_private a.method) (is_protected a.method) pp
      where
        at : (x y z : Bool) → not (x || y || z) ≡ true → (x ≡ false) × (z ≡ false) × (y ≡ false)
        at false false false h = (refl, refl, refl)
        at true y z h = absurd (cc)
        at false true z h = absurd (cc)
        at false false true h = absurd (cc)

    a_open : is_open a ≡ true
    a_open = and_from (is_instance a.method) (not (is_private a.method)) inst (ap not not_public.2)

    itself : (m : Node) (h : Bool) → (overrides_directly m a || is_package_private a.method && h) ≡ (same_package m a || h)
    itself m h = at (is_public a.method) (is_protected a.method) (is_package_private a.method) not_public.0 not_public.1 pp
      where
        at : (x y z : Bool) → x ≡ false → y ≡ false → z ≡ true → ((x || y || z && same_package m a) || z && h) ≡ (same_package m a || h)
        at false false true p q r = refl
        at true y z p q r = absurd (cc)
        at false true z p q r = absurd (cc)
        at false false false p q r = absurd (cc)

    -- at the method's own type it is the declared one
    at_home : (t : Placed) → Contains types t → is_type a.owner t ≡ true → declared types (signature_of a.method) t ≡ Some a
    at_home t k e = only_one types distinct one_each t (signature_of a.method) a a_in (is_type_back t a.owner ∙ e) (signature_self a.method)

    over_is : (m : Node) (t : Placed) (rest : List Placed) → Contains types t → chain types t ≡ t ∷ rest → Declares (signature_of a.method) t m
        → can_override types m a ≡ overrides_alike (handed_on types a rest) a m
    over_is m t rest k e d = at (is_candidate m a) refl
      where
        m_in : IsIn m.owner types
        m_in = node_owner types m (IsIn-from_Contains (nodes types) m d.node)

        same_type : t ≡ m.owner
        same_type = one_of_name types t m.owner distinct (IsIn-from_Contains types t k) m_in d.owner

        rest_is : drop 1 (chain types m.owner) ≡ rest
        rest_is = ap (λ u. drop 1 (chain types u)) (sym same_type) ∙ ap (drop 1) e

        open_is : is_candidate m a ≡ is_open m
        open_is = candidate_is_open m a inst d.signature

        at : (b : Bool) → is_candidate m a ≡ b → can_override types m a ≡ (is_open m && (same_package m a || handed_on types a rest))
        at true q =
            over_candidate m a q (Contains-from_IsIn types m.owner m_in)
            ∙ itself m (handed_on types a (drop 1 (chain types m.owner)))
            ∙ ap (λ line. same_package m a || handed_on types a line) rest_is
            ∙ sym (ap (λ v. v && (same_package m a || handed_on types a rest)) (sym open_is ∙ q))
        at false q =
            over_not types m a q
            ∙ sym (ap (λ v. v && (same_package m a || handed_on types a rest)) (sym open_is ∙ q))

    -- past a type that neither stops nor hands on
    passed : (t : Placed) (rest : List Placed) → is_type a.owner t ≡ false → hands types a t ≡ false → handed_on types a (t ∷ rest) ≡ handed_on types a rest
    passed t rest e f =
        ap (λ b. cond b false (has_before (is_type a.owner) (hands types a) (hands types a t) rest)) e
        ∙ ap (λ b. has_before (is_type a.owner) (hands types a) b rest) f

    pub search_alike : (line : List Placed) → IsChain types line
        → searched types (λ c. can_override types c a) line ≡ found_in (λ t. where_passes (overrides_alike (handed_on types a line) a) (declared types (signature_of a.method) t)) line
    search_alike [] i = refl
    search_alike (t ∷ rest) i =
        ap (λ o. or_else o (searched types (λ c. can_override types c a) rest))
        (search_declared types distinct one_each t (signature_of a.method) (λ c. can_override types c a) (λ c h. over_signature c a h))
        ∙ at (declared types (signature_of a.method) t) refl (search_alike rest i.2)
      where
        apart_home : (m : Node) → declared types (signature_of a.method) t ≡ Some m → (is_open m ≡ true → same_package m a ≡ true → ⊥) → is_type a.owner t ≡ false
        apart_home m e n = no (is_type a.owner t) refl
          where
            no : (b : Bool) → is_type a.owner t ≡ b → b ≡ false
            no false q = refl
            no true q =
                let same' : m ≡ a = let z : Some m ≡ Some a = sym e ∙ at_home t i.0 q in cc in
                absurd (n (ap is_open same' ∙ a_open) (ap (λ v. same_package v a) same' ∙ same_package_self a))

        at : (o : Option Node) → declared types (signature_of a.method) t ≡ o
            → searched types (λ c. can_override types c a) rest ≡ found_in (λ u. where_passes (overrides_alike (handed_on types a rest) a) (declared types (signature_of a.method) u)) rest
            → or_else (where_passes (λ c. can_override types c a) o) (searched types (λ c. can_override types c a) rest)
            ≡ or_else (where_passes (overrides_alike (handed_on types a (t ∷ rest)) a) o)
            (found_in (λ u. where_passes (overrides_alike (handed_on types a (t ∷ rest)) a) (declared types (signature_of a.method) u)) rest)
        at None e r = r ∙ ap (λ h. found_in (λ u. where_passes (overrides_alike h a) (declared types (signature_of a.method) u)) rest) (sym (passed t rest away none))
          where
            none : hands types a t ≡ false
            none = ap (passes_at (is_handing a)) e

            away : is_type a.owner t ≡ false
            away = no (is_type a.owner t) refl
              where
                no : (b : Bool) → is_type a.owner t ≡ b → b ≡ false
                no false q = refl
                no true q = absurd (let z = at_home t i.0 q in cc)
        at (Some m) e r = by (is_open m) (same_package m a) refl refl
          where
            d : Declares (signature_of a.method) t m
            d = declares (signature_of a.method) t m e

            over : can_override types m a ≡ (is_open m && (same_package m a || handed_on types a rest))
            over = over_is m t rest i.0 i.1 d

            -- both go on alike
            on : is_type a.owner t ≡ false → is_handing a m ≡ false
                → or_else (cond (can_override types m a) (Some m) None) (searched types (λ c. can_override types c a) rest)
                ≡ or_else (cond (is_open m && (same_package m a || handed_on types a (t ∷ rest))) (Some m) None)
                (found_in (λ u. where_passes (overrides_alike (handed_on types a (t ∷ rest)) a) (declared types (signature_of a.method) u)) rest)
            on away none =
                let p : handed_on types a rest ≡ handed_on types a (t ∷ rest) = sym (passed t rest away (ap (passes_at (is_handing a)) e ∙ none)) in
                (λ j. or_else (cond (over j) (Some m) None) (r j))
                ∙ ap (λ h. or_else (cond (is_open m && (same_package m a || h)) (Some m) None)
                (found_in (λ u. where_passes (overrides_alike h a) (declared types (signature_of a.method) u)) rest)) p

            by : (x y : Bool) → is_open m ≡ x → same_package m a ≡ y
                → or_else (cond (can_override types m a) (Some m) None) (searched types (λ c. can_override types c a) rest)
                ≡ or_else (cond (is_open m && (same_package m a || handed_on types a (t ∷ rest))) (Some m) None)
                (found_in (λ u. where_passes (overrides_alike (handed_on types a (t ∷ rest)) a) (declared types (signature_of a.method) u)) rest)
            by true true p q =
                let yes : (h : Bool) → (is_open m && (same_package m a || h)) ≡ true = λ h. ap (λ v. v && (same_package m a || h)) p ∙ ap (λ v. v || h) q in
                ap (λ v. or_else (cond v (Some m) None) (searched types (λ c. can_override types c a) rest)) (over ∙ yes (handed_on types a rest))
                ∙ sym (ap (λ v. or_else (cond v (Some m) None)
                (found_in (λ u. where_passes (overrides_alike (handed_on types a (t ∷ rest)) a) (declared types (signature_of a.method) u)) rest)) (yes (handed_on types a (t ∷ rest))))
            by true false p q =
                on (apart_home m e (λ u v. cc))
                (ap (λ v. is_open m && ((is_public m.method || is_protected m.method) && v)) q
                ∙ ap (λ v. is_open m && v) (and_false (is_public m.method || is_protected m.method)) ∙ and_false (is_open m))
            by false y p q =
                on (apart_home m e (λ u v. cc))
                (ap (λ v. v && ((is_public m.method || is_protected m.method) && same_package m a)) p)

    pub select_alike : (d : Placed) → Contains types d
        → searched types (λ c. can_override types c a) (chain types d) ≡ found_in (λ t. where_passes (overrides_alike (handed_on types a (chain types d)) a) (declared types (signature_of a.method) t)) (chain types d)
    select_alike d k = search_alike (chain types d) (chain_from types acyclic d k [] (chain types d) refl)
