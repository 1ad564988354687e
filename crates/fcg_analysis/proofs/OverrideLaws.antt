-- Overriding by its four cases, and put shortly.
use Rattle.std.proofs.Common.{◌≡◌, ℕ, zero, suc, ◌+◌, ◌<◌, ◌≤◌, List, [], ◌∷◌, ◌++◌, length, drop, sym, ap, subst, ◌∙◌, inl, inr, arith}
use Rattle.std.specs.Prelude.{Bool, true, false, not, cond, ◌||◌, ◌&&◌, ◌⊎◌, map, flat_map, Contains}
use Rattle.std.specs.List.{list_any, IsDistinct, AllByRecursion}
use Rattle.std.specs.Cmp.Lexicographic.{bytes_decides}
use Rattle.std.proofs.lemmas.Bool.{or_cases, or_left, or_right, and_from}
use Rattle.std.specs.Cmp.{both_ways}
use Rattle.fcg_views.specs.declared.view.Method.{Method}
use Rattle.fcg_analysis.specs.NamesAndFlags.{same, before, package_of}
use Rattle.fcg_analysis.specs.Declarations.{Placed, is_type, is_instance, is_private, is_public, is_protected, is_package_private, has_signature, signature_of}
use Rattle.fcg_analysis.specs.Types.{chain, superclass}
use Rattle.fcg_analysis.specs.Nodes.{Node, nodes, nodes_from}
use Rattle.fcg_analysis.specs.Selection.{between, same_package, overrides_directly, is_candidate, overrides_over, can_override}
use Rattle.fcg_analysis.specs.Laws.Statements.{IsAcyclic, chain_above, hands_on, overrides_shortly, overrides_by_cases}
use Rattle.fcg_analysis.proofs.ChainLaws.{chain_goes_on, chain_rest}
use Rattle.fcg_analysis.proofs.General.Members.{Contains-from_IsIn, IsIn, IsIn-from_Contains, and_first, and_second, any_in, before_less, in_any, in_append, split}
use Rattle.fcg_analysis.proofs.WinnerLaws.{is_type_back}

pub one_of_name : (types : List Placed) (t u : Placed) → IsDistinct is_type types → IsIn t types → IsIn u types → is_type t u ≡ true → t ≡ u
unfolding IsDistinct
one_of_name [] t u d h k e = absurd h
one_of_name (x ∷ xs) t u d (inl i) (inl j) e = sym i ∙ j
one_of_name (x ∷ xs) t u d (inr i) (inr j) e = one_of_name xs t u d.1 i j e
one_of_name (x ∷ xs) t u d (inl i) (inr j) e = absurd (let w : is_type x u ≡ false = other xs u d.0 j in let v : is_type x u ≡ is_type t u = ap (λ z. is_type z u) i in cc)
  where
    other : (ys : List Placed) (u : Placed) → AllByRecursion (λ y. is_type x y ≡ false) ys → IsIn u ys → is_type x u ≡ false
    other [] u a h = absurd h
    other (y ∷ ys) u a (inl i) = sym (ap (is_type x) i) ∙ a.0
    other (y ∷ ys) u a (inr h) = other ys u a.1 h
one_of_name (x ∷ xs) t u d (inr i) (inl j) e = absurd (let w : is_type x t ≡ false = other xs t d.0 i in let v : is_type x t ≡ is_type u t = ap (λ z. is_type z t) j in let b = is_type_back t u in cc)
  where
    other : (ys : List Placed) (u : Placed) → AllByRecursion (λ y. is_type x y ≡ false) ys → IsIn u ys → is_type x u ≡ false
    other [] u a h = absurd h
    other (y ∷ ys) u a (inl i) = sym (ap (is_type x) i) ∙ a.0
    other (y ∷ ys) u a (inr h) = other ys u a.1 h

-- ---- a node's owner is a type

abbrev members : List Placed → List (Placed × Method)
members types = flat_map (λ t. map (λ m. (t, m)) t.view.methods) types

owner_in : (t : Placed) (ms : List Method) (p : Placed × Method) → IsIn p (map (λ m. (t, m)) ms) → t ≡ p.0
owner_in t [] p h = absurd h
owner_in t (m ∷ ms) p (inl e) = ap (λ q. q.0) e
owner_in t (m ∷ ms) p (inr h) = owner_in t ms p h

member_owner : (types : List Placed) (p : Placed × Method) → IsIn p (members types) → IsIn p.0 types
member_owner [] p h = absurd h
member_owner (t ∷ ts) p h =
    elim (in_append (map (λ m. (t, m)) t.view.methods) (members ts) p h) [
      | inl k ↦ inl (owner_in t t.view.methods p k)
      | inr k ↦ inr (member_owner ts p k)
    ]

pub node_member : (n : ℕ) (ms : List (Placed × Method)) (b : Node) → IsIn b (nodes_from n ms) → IsIn (b.owner, b.method) ms
node_member n [] b h = absurd h
node_member n (m ∷ ms) b (inl e) = inl (λ i. ((e i).owner, (e i).method))
node_member n (m ∷ ms) b (inr h) = inr (node_member (n + 1) ms b h)

pub node_owner : (types : List Placed) (b : Node) → IsIn b (nodes types) → IsIn b.owner types
unfolding nodes
node_owner types b h = member_owner types (b.owner, b.method) (node_member 0 (members types) b h)

-- ---- what may override

record Candidate (c a : Node) : Type 0 where
  over : is_instance c.method ≡ true
  under : is_instance a.method ≡ true
  name : a.method.name ≡ c.method.name
  desc : a.method.desc ≡ c.method.desc
  open' : not (is_private c.method) ≡ true

candidate : (c a : Node) → is_candidate c a ≡ true → Candidate c a
candidate c a h =
    let p = and_first (is_instance c.method && is_instance a.method && has_signature (signature_of a.method) c.method) (not (is_private c.method)) h in
    let q = and_first (is_instance c.method && is_instance a.method) (has_signature (signature_of a.method) c.method) p in
    let s = and_second (is_instance c.method && is_instance a.method) (has_signature (signature_of a.method) c.method) p in
    record {
      over = and_first (is_instance c.method) (is_instance a.method) q;
      under = and_second (is_instance c.method) (is_instance a.method) q;
      name = (bytes_decides a.method.name c.method.name).0 (and_first (same a.method.name c.method.name) (same a.method.desc c.method.desc) s);
      desc = (bytes_decides a.method.desc c.method.desc).0 (and_second (same a.method.name c.method.name) (same a.method.desc c.method.desc) s);
      open' = and_second (is_instance c.method && is_instance a.method && has_signature (signature_of a.method) c.method) (not (is_private c.method)) h;
    }

candidate_back : (c a : Node) → Candidate c a → is_candidate c a ≡ true
candidate_back c a m =
    and_from (is_instance c.method && is_instance a.method && has_signature (signature_of a.method) c.method) (not (is_private c.method))
    (and_from (is_instance c.method && is_instance a.method) (has_signature (signature_of a.method) c.method)
    (and_from (is_instance c.method) (is_instance a.method) m.over m.under)
    (and_from (same a.method.name c.method.name) (same a.method.desc c.method.desc)
    ((bytes_decides a.method.name c.method.name).1 m.name) ((bytes_decides a.method.desc c.method.desc).1 m.desc)))
    m.open'

-- of two that may override one, the first may override the second
pub candidates_beside : (c b a : Node) → is_candidate c a ≡ true → is_candidate b a ≡ true → is_candidate c b ≡ true
candidates_beside c b a h k =
    let m = candidate c a h in let n = candidate b a k in
    candidate_back c b (record { over = m.over; under = n.over; name = sym n.name ∙ m.name; desc = sym n.desc ∙ m.desc; open' = m.open' })

candidates_joined : (c b a : Node) → is_candidate c b ≡ true → is_candidate b a ≡ true → is_candidate c a ≡ true
candidates_joined c b a h k =
    let m = candidate c b h in let n = candidate b a k in
    candidate_back c a (record { over = m.over; under = n.under; name = n.name ∙ m.name; desc = n.desc ∙ m.desc; open' = m.open' })

packages_joined : (c b a : Node) → same_package c b ≡ true → same_package b a ≡ true → same_package c a ≡ true
packages_joined c b a h k =
    (bytes_decides _ _).1 ((bytes_decides (package_of c.owner.view.name) (package_of b.owner.view.name)).0 h ∙ (bytes_decides (package_of b.owner.view.name) (package_of a.owner.view.name)).0 k)

-- ---- put shortly

record HandsOn (types : List Placed) (c a : Node) : Type 0 where
  between_at : Placed
  node : Node
  place : IsIn between_at (between types c.owner a.owner)
  known : IsIn node (nodes types)
  owner : is_type between_at node.owner ≡ true
  over : is_candidate c node ≡ true
  under : is_candidate node a ≡ true
  strong : (is_public node.method || is_protected node.method) ≡ true
  package' : same_package node a ≡ true

handed : (types : List Placed) (c a : Node) → list_any (hands_on types c a) (between types c.owner a.owner) ≡ true → HandsOn types c a
handed types c a h =
    let t = in_any (hands_on types c a) (between types c.owner a.owner) h in
    let b = in_any (λ b. is_type t.0 b.owner && (is_candidate c b && (is_candidate b a && ((is_public b.method || is_protected b.method) && same_package b a)))) (nodes types) t.2 in
    let n = b.0 in
    let p = and_second (is_type t.0 n.owner) (is_candidate c n && (is_candidate n a && ((is_public n.method || is_protected n.method) && same_package n a))) b.2 in
    let q = and_second (is_candidate c n) (is_candidate n a && ((is_public n.method || is_protected n.method) && same_package n a)) p in
    let r = and_second (is_candidate n a) ((is_public n.method || is_protected n.method) && same_package n a) q in
    record {
      between_at = t.0;
      node = n;
      place = t.1;
      known = b.1;
      owner = and_first (is_type t.0 n.owner) (is_candidate c n && (is_candidate n a && ((is_public n.method || is_protected n.method) && same_package n a))) b.2;
      over = and_first (is_candidate c n) (is_candidate n a && ((is_public n.method || is_protected n.method) && same_package n a)) p;
      under = and_first (is_candidate n a) ((is_public n.method || is_protected n.method) && same_package n a) q;
      strong = and_first (is_public n.method || is_protected n.method) (same_package n a) r;
      package' = and_second (is_public n.method || is_protected n.method) (same_package n a) r;
    }

hand : (types : List Placed) (c a : Node) → HandsOn types c a → list_any (hands_on types c a) (between types c.owner a.owner) ≡ true
hand types c a h =
    any_in (hands_on types c a) (between types c.owner a.owner) h.between_at h.place
    (any_in (λ b. is_type h.between_at b.owner && (is_candidate c b && (is_candidate b a && ((is_public b.method || is_protected b.method) && same_package b a)))) (nodes types) h.node h.known
    (and_from (is_type h.between_at h.node.owner) _ h.owner
    (and_from (is_candidate c h.node) _ h.over
    (and_from (is_candidate h.node a) _ h.under
    (and_from (is_public h.node.method || is_protected h.node.method) _ h.strong h.package')))))

shortly_directly : (types : List Placed) (c a : Node) → is_candidate c a ≡ true → overrides_directly c a ≡ true → overrides_shortly types c a ≡ true
shortly_directly types c a m i = and_from (is_candidate c a) _ m (or_left (overrides_directly c a) _ i)

shortly_handed : (types : List Placed) (c a : Node) → is_candidate c a ≡ true → is_package_private a.method ≡ true → HandsOn types c a → overrides_shortly types c a ≡ true
shortly_handed types c a m p h =
    and_from (is_candidate c a) _ m (or_right (overrides_directly c a) _ (and_from (is_package_private a.method) _ p (hand types c a h)))

-- ---- the four cases give no more

module _ (types : List Placed) (acyclic : IsAcyclic types) (distinct : IsDistinct is_type types) where
  in_between : (c a t : Placed) → IsIn t (between types c a) → IsIn t (before (is_type a) (drop 1 (chain types c)))
  unfolding between
  in_between c a t h = at (list_any (is_type a) (drop 1 (chain types c))) h
    where
      at : (b : Bool) → IsIn t (cond b (before (is_type a) (drop 1 (chain types c))) []) → IsIn t (before (is_type a) (drop 1 (chain types c)))
      at true k = k
      at false k = absurd k

  -- where anything stands between, so does all before
  to_between : (c a t u : Placed) → IsIn u (between types c a) → IsIn t (before (is_type a) (drop 1 (chain types c))) → IsIn t (between types c a)
  unfolding between
  to_between c a t u h k = at (list_any (is_type a) (drop 1 (chain types c))) h
    where
      at : (b : Bool) → IsIn u (cond b (before (is_type a) (drop 1 (chain types c))) []) → IsIn t (cond b (before (is_type a) (drop 1 (chain types c))) [])
      at true h = k
      at false h = absurd h

  -- t stands between c and a, and b has its name
  nearer : (c a b t u : Placed) → IsIn t (between types c a) → is_type b t ≡ true → IsIn u (between types c b) → IsIn u (between types c a)
  nearer c a b t u h e k =
      to_between c a u t h (before_less (is_type a) (is_type b) (drop 1 (chain types c)) t u (in_between c a t h) e (in_between c b u k))

  farther : (c a b t u : Placed) → Contains types c → IsIn b types → IsIn t (between types c a) → is_type t b ≡ true → IsIn u (between types b a) → IsIn u (between types c a)
  farther c a b t u there known h e k =
      let g = chain_goes_on types acyclic c there in
      let s = split (is_type a) (drop 1 (chain types c)) t (in_between c a t h) in
      let after : drop 1 (chain types c) ≡ chain_above types c (superclass types c) = ap (drop 1) g in
      let whole : chain types c ≡ (c ∷ s.front) ++ (t ∷ s.rest) = g ∙ ap (λ zs. c ∷ zs) (sym after ∙ s.whole) in
      let r = chain_rest types acyclic (c ∷ s.front) s.rest c t there whole in
      let same : t ≡ b = one_of_name types t b distinct (IsIn-from_Contains types t r.1) known e in
      let rest : drop 1 (chain types b) ≡ s.rest = ap (λ v. drop 1 (chain types v)) (sym same) ∙ ap (drop 1) r.0 in
      to_between c a u t h (s.within u (subst (λ zs. IsIn u (before (is_type a) zs)) rest (in_between b a u k)))

  private_package : (b a : Node) → overrides_directly b a ≡ true → (is_public a.method || is_protected a.method) ≡ true ⊎ (same_package b a ≡ true)
  private_package b a h =
      elim (or_cases (is_public a.method || is_protected a.method) (is_package_private a.method && same_package b a) h) [
        | inl k ↦ inl k
        | inr k ↦ inr (and_second (is_package_private a.method) (same_package b a) k)
      ]

  -- b stands between: each of the two halves is by itself or handed on
  joined : (c a : Node) → IsIn c.owner types → is_candidate c a ≡ true → (t : Placed) (b : Node) → is_package_private a.method ≡ true → IsIn t (between types c.owner a.owner) → IsIn b (nodes types) → is_type t b.owner ≡ true
      → overrides_shortly types c b ≡ true → overrides_shortly types b a ≡ true → overrides_shortly types c a ≡ true
  joined c a known m t b p place node owner s r = lower (or_cases (overrides_directly b a) (is_package_private a.method && list_any (hands_on types b a) (between types b.owner a.owner)) (and_second (is_candidate b a) (overrides_directly b a || is_package_private a.method && list_any (hands_on types b a) (between types b.owner a.owner)) r))
    where
      over' : is_candidate c b ≡ true
      over' = and_first (is_candidate c b) (overrides_directly c b || is_package_private b.method && list_any (hands_on types c b) (between types c.owner b.owner)) s

      under' : is_candidate b a ≡ true
      under' = and_first (is_candidate b a) (overrides_directly b a || is_package_private a.method && list_any (hands_on types b a) (between types b.owner a.owner)) r

      upper : same_package b a ≡ true → (overrides_directly c b ≡ true) ⊎ ((is_package_private b.method && list_any (hands_on types c b) (between types c.owner b.owner)) ≡ true) → overrides_shortly types c a ≡ true
      upper q (inl i) =
          elim (private_package c b i) [
            | inl k ↦ shortly_handed types c a m p (record { between_at = t; node = b; place = place; known = node; owner = owner; over = over'; under = under'; strong = k; package' = q })
            | inr k ↦ shortly_directly types c a m (or_right (is_public a.method || is_protected a.method) _ (and_from (is_package_private a.method) (same_package c a) p (packages_joined c b a k q)))
          ]
      upper q (inr i) =
          let d = handed types c b (and_second (is_package_private b.method) _ i) in
          shortly_handed types c a m p (record {
            between_at = d.between_at;
            node = d.node;
            place = nearer c.owner a.owner b.owner t d.between_at place (is_type_back b.owner t ∙ owner) d.place;
            known = d.known;
            owner = d.owner;
            over = d.over;
            under = candidates_joined d.node b a d.under under';
            strong = d.strong;
            package' = packages_joined d.node b a d.package' q;
          })

      lower : (overrides_directly b a ≡ true) ⊎ ((is_package_private a.method && list_any (hands_on types b a) (between types b.owner a.owner)) ≡ true) → overrides_shortly types c a ≡ true
      lower (inl i) =
          elim (private_package b a i) [
            | inl k ↦ shortly_directly types c a m (or_left (is_public a.method || is_protected a.method) _ k)
            | inr q ↦ upper q (or_cases (overrides_directly c b) (is_package_private b.method && list_any (hands_on types c b) (between types c.owner b.owner)) (and_second (is_candidate c b) (overrides_directly c b || is_package_private b.method && list_any (hands_on types c b) (between types c.owner b.owner)) s))
          ]
      lower (inr i) =
          let d = handed types b a (and_second (is_package_private a.method) _ i) in
          shortly_handed types c a m p (record {
            between_at = d.between_at;
            node = d.node;
            place = farther c.owner a.owner b.owner t d.between_at (Contains-from_IsIn types c.owner known) (node_owner types b node) place owner d.place;
            known = d.known;
            owner = d.owner;
            over = candidates_beside c d.node a m d.under;
            under = d.under;
            strong = d.strong;
            package' = d.package';
          })

  to_shortly : (n : ℕ) (c a : Node) → IsIn c.owner types → overrides_over n types c a ≡ true → overrides_shortly types c a ≡ true
  to_shortly zero c a known h = shortly_directly types c a (and_first (is_candidate c a) (overrides_directly c a) h) (and_second (is_candidate c a) (overrides_directly c a) h)
  to_shortly (suc n) c a known h = cases (or_cases (overrides_directly c a) (is_package_private a.method && list_any over (between types c.owner a.owner)) (and_second (is_candidate c a) (overrides_directly c a || is_package_private a.method && list_any over (between types c.owner a.owner)) h)) (to_shortly n)
    where
      over : Placed → Bool
      over t = list_any (λ b. is_type t b.owner && (overrides_over n types c b && overrides_over n types b a)) (nodes types)

      m : is_candidate c a ≡ true
      m = and_first (is_candidate c a) (overrides_directly c a || is_package_private a.method && list_any over (between types c.owner a.owner)) h

      cases : (overrides_directly c a ≡ true) ⊎ ((is_package_private a.method && list_any over (between types c.owner a.owner)) ≡ true)
          → ((c a : Node) → IsIn c.owner types → overrides_over n types c a ≡ true → overrides_shortly types c a ≡ true) → overrides_shortly types c a ≡ true
      cases (inl i) r = shortly_directly types c a m i
      cases (inr i) r =
          let p = and_first (is_package_private a.method) _ i in
          let t = in_any over (between types c.owner a.owner) (and_second (is_package_private a.method) _ i) in
          let b = in_any (λ b. is_type t.0 b.owner && (overrides_over n types c b && overrides_over n types b a)) (nodes types) t.2 in
          let both = and_second (is_type t.0 b.0.owner) _ b.2 in
          joined c a known m t.0 b.0 p t.1 b.1 (and_first (is_type t.0 b.0.owner) _ b.2)
          (r c b.0 known (and_first (overrides_over n types c b.0) _ both))
          (r b.0 a (node_owner types b.0 b.1) (and_second (overrides_over n types c b.0) _ both))

-- ---- and no less

pub over_directly : (n : ℕ) (types : List Placed) (c a : Node) → is_candidate c a ≡ true → overrides_directly c a ≡ true → overrides_over n types c a ≡ true
over_directly zero types c a m i = and_from (is_candidate c a) (overrides_directly c a) m i
over_directly (suc n) types c a m i = and_from (is_candidate c a) _ m (or_left (overrides_directly c a) _ i)

from_shortly : (n : ℕ) (types : List Placed) (c a : Node) → length (between types c.owner a.owner) ≤ n → overrides_shortly types c a ≡ true → overrides_over n types c a ≡ true
from_shortly n types c a l h =
    let m = and_first (is_candidate c a) (overrides_directly c a || is_package_private a.method && list_any (hands_on types c a) (between types c.owner a.owner)) h in
    elim (or_cases (overrides_directly c a) (is_package_private a.method && list_any (hands_on types c a) (between types c.owner a.owner)) (and_second (is_candidate c a) _ h)) [
      | inl i ↦ over_directly n types c a m i
      | inr i ↦ by_hand n l m (and_first (is_package_private a.method) _ i) (handed types c a (and_second (is_package_private a.method) _ i))
    ]
  where
    some_in : {X : Type 0} (xs : List X) (x : X) → IsIn x xs → 0 < length xs
    some_in [] x h = absurd h
    some_in (y ∷ ys) x h = omega arith

    by_hand : (n : ℕ) → length (between types c.owner a.owner) ≤ n → is_candidate c a ≡ true → is_package_private a.method ≡ true → HandsOn types c a → overrides_over n types c a ≡ true
    by_hand zero l m p d = absurd (let k = some_in (between types c.owner a.owner) d.between_at d.place in omega arith)
    by_hand (suc n) l m p d =
        and_from (is_candidate c a) _ m (or_right (overrides_directly c a) _ (and_from (is_package_private a.method) _ p
        (any_in (λ t. list_any (λ b. is_type t b.owner && (overrides_over n types c b && overrides_over n types b a)) (nodes types)) (between types c.owner a.owner) d.between_at d.place
        (any_in (λ b. is_type d.between_at b.owner && (overrides_over n types c b && overrides_over n types b a)) (nodes types) d.node d.known
        (and_from (is_type d.between_at d.node.owner) _ d.owner
        (and_from (overrides_over n types c d.node) _
        (over_directly n types c d.node d.over (or_left (is_public d.node.method || is_protected d.node.method) _ d.strong))
        (over_directly n types d.node a d.under (or_right (is_public a.method || is_protected a.method) _ (and_from (is_package_private a.method) _ p d.package')))))))))

pub override_shortly : (types : List Placed) → IsAcyclic types → IsDistinct is_type types → (c a : Node) → Contains types c.owner → can_override types c a ≡ overrides_shortly types c a
unfolding can_override
override_shortly types acyclic distinct c a known = both_ways (can_override types c a) (overrides_shortly types c a)
    (to_shortly types acyclic distinct (length (between types c.owner a.owner)) c a (IsIn-from_Contains types c.owner known))
    (from_shortly (length (between types c.owner a.owner)) types c a (omega arith))

-- ---- by its cases

pub override_by_cases : (types : List Placed) → IsAcyclic types → IsDistinct is_type types → (c a : Node) → Contains types c.owner → can_override types c a ≡ overrides_by_cases types c a
override_by_cases types acyclic distinct c a known = short c a known ∙ both_ways (overrides_shortly types c a) (overrides_by_cases types c a) forth back
  where
    short : (c a : Node) → Contains types c.owner → can_override types c a ≡ overrides_shortly types c a
    short c a k = override_shortly types acyclic distinct c a k

    forth : overrides_shortly types c a ≡ true → overrides_by_cases types c a ≡ true
    forth h =
        let m = and_first (is_candidate c a) (overrides_directly c a || is_package_private a.method && list_any (hands_on types c a) (between types c.owner a.owner)) h in
        and_from (is_candidate c a) _ m (elim (or_cases (overrides_directly c a) (is_package_private a.method && list_any (hands_on types c a) (between types c.owner a.owner)) (and_second (is_candidate c a) _ h)) [
          | inl i ↦ or_left (overrides_directly c a) _ i
          | inr i ↦ (
              let p = and_first (is_package_private a.method) _ i in
              let d = handed types c a (and_second (is_package_private a.method) _ i) in
              let u : can_override types c d.node ≡ true = short c d.node known ∙ shortly_directly types c d.node d.over (or_left (is_public d.node.method || is_protected d.node.method) _ d.strong) in
              let v : can_override types d.node a ≡ true = short d.node a (Contains-from_IsIn types d.node.owner (node_owner types d.node d.known))
              ∙ shortly_directly types d.node a d.under (or_right (is_public a.method || is_protected a.method) _ (and_from (is_package_private a.method) _ p d.package')) in
              or_right (overrides_directly c a) _ (and_from (is_package_private a.method) _ p
              (any_in (λ t. list_any (λ b. is_type t b.owner && (can_override types c b && can_override types b a)) (nodes types)) (between types c.owner a.owner) d.between_at d.place
              (any_in (λ b. is_type d.between_at b.owner && (can_override types c b && can_override types b a)) (nodes types) d.node d.known
              (and_from (is_type d.between_at d.node.owner) _ d.owner (and_from (can_override types c d.node) _ u v))))))
        ])

    back : overrides_by_cases types c a ≡ true → overrides_shortly types c a ≡ true
    back h =
        let m = and_first (is_candidate c a) (overrides_directly c a || is_package_private a.method && list_any (λ t. list_any (λ b. is_type t b.owner && (can_override types c b && can_override types b a)) (nodes types)) (between types c.owner a.owner)) h in
        elim (or_cases (overrides_directly c a) (is_package_private a.method && list_any (λ t. list_any (λ b. is_type t b.owner && (can_override types c b && can_override types b a)) (nodes types)) (between types c.owner a.owner)) (and_second (is_candidate c a) _ h)) [
          | inl i ↦ shortly_directly types c a m i
          | inr i ↦ (
              let p = and_first (is_package_private a.method) _ i in
              let t = in_any (λ t. list_any (λ b. is_type t b.owner && (can_override types c b && can_override types b a)) (nodes types)) (between types c.owner a.owner) (and_second (is_package_private a.method) _ i) in
              let b = in_any (λ b. is_type t.0 b.owner && (can_override types c b && can_override types b a)) (nodes types) t.2 in
              let both = and_second (is_type t.0 b.0.owner) (can_override types c b.0 && can_override types b.0 a) b.2 in
              joined types acyclic distinct c a (IsIn-from_Contains types c.owner known) m t.0 b.0 p t.1 b.1 (and_first (is_type t.0 b.0.owner) _ b.2)
              (sym (short c b.0 known) ∙ and_first (can_override types c b.0) (can_override types b.0 a) both)
              (sym (short b.0 a (Contains-from_IsIn types b.0.owner (node_owner types b.0 b.1))) ∙ and_second (can_override types c b.0) (can_override types b.0 a) both))
        ]
