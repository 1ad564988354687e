-- Nodes are methods of types, and a type declares one of a signature at most.
use Rattle.std.proofs.Common.{◌≡◌, ℕ, zero, suc, ◌+◌, ◌<◌, List, [], ◌∷◌, ◌++◌, length, take, drop, refl, sym, ap, subst, ◌∙◌, inl, inr, arith}
use Rattle.std.specs.Prelude.{Bool, true, false, not, ◌&&◌, filter, find, map, slice_get, All, Option, Some, None, Contains, is_some}
use Rattle.std.specs.List.{list_any, IsDistinct, AllByRecursion}
use Rattle.std.specs.Cmp.{both_ways}
use Rattle.std.specs.Cmp.Lexicographic.{bytes_decides, nat_list_eq_equiv}
use Rattle.std.proofs.lemmas.Bool.{and_from}
use Rattle.std.proofs.lemmas.Bool.Decides.{Decides-eqb}
use Rattle.std.proofs.lemmas.Grind.{flat_map-append}
use Rattle.std.proofs.lemmas.List.{append-nil, length-map, take_at, drop_at, drop-drop}
use Rattle.std.proofs.lemmas.List.Elements.{filter-append, All-contains}
use Rattle.std.proofs.lemmas.List.Sums.{sum_by-cons}
use Rattle.fcg_views.specs.declared.view.Method.{Method}
use Rattle.fcg_views.specs.Valid.{is_alike, IsValid}
use Rattle.fcg_analysis.specs.NamesAndFlags.{same}
use Rattle.fcg_analysis.specs.Declarations.{Placed, Signature, signature_of, is_type, is_named, has_signature}
use Rattle.fcg_analysis.specs.Types.{winners, known, is_circular}
use Rattle.fcg_analysis.specs.Nodes.{Node, nodes, nodes_from, is_node, identity, declared}
use Rattle.fcg_analysis.specs.Laws.Methods.{methods_of, first_node, AreApart, IsMethodNode, IsSingle}
use Rattle.fcg_analysis.proofs.General.Members.{IsIn, IsIn-from_Contains, Contains-from_IsIn, and_first, and_second, any_in, in_any, filter_in, in_filter, find_none, find_in, in_map, map_in, in_flat_map, flat_map_in}
use Rattle.fcg_analysis.proofs.General.Places.{member_at}
use Rattle.fcg_analysis.proofs.General.Sorted.{in_all}
use Rattle.fcg_analysis.proofs.NameLaws.{find_type}
use Rattle.fcg_analysis.proofs.NodeLaws.{Rising, nodes_rise}
use Rattle.fcg_analysis.proofs.OverrideLaws.{one_of_name, node_member, node_owner}
use Rattle.fcg_analysis.proofs.WinnerLaws.{is_type_self, is_type_back, winner_of, winners_distinct}

-- ---- nodes are methods of types

of_type : (types : List Placed) (p : Placed × Method) → IsIn p (methods_of types) → IsIn p.0 types × IsIn p.1 p.0.view.methods
of_type types p h =
    let t = in_flat_map (λ t. map (λ m. (t, m)) t.view.methods) types p h in
    let m = in_map (λ m. (t.0, m)) t.0.view.methods p t.2 in
    subst (λ q. IsIn q.0 types × IsIn q.1 q.0.view.methods) m.2 (t.1, m.1)

pub node_method : (types : List Placed) (m : Node) → Contains (nodes types) m → Contains types m.owner × Contains m.owner.view.methods m.method
unfolding nodes
node_method types m c =
    let r = of_type types (m.owner, m.method) (node_member 0 (methods_of types) m (IsIn-from_Contains _ m c)) in
    (Contains-from_IsIn _ m.owner r.0, Contains-from_IsIn _ m.method r.1)

node_of : (n : ℕ) (ps : List (Placed × Method)) (p : Placed × Method) → IsIn p ps → (b : Node) × IsIn b (nodes_from n ps) × (b.owner ≡ p.0) × (b.method ≡ p.1)
node_of n [] p h = absurd h
node_of n (q ∷ ps) p (inl e) = (record { number = n; owner = q.0; method = q.1 }, inl refl, ap (λ r. r.0) e, ap (λ r. r.1) e)
node_of n (q ∷ ps) p (inr h) = let r = node_of (n + 1) ps p h in (r.0, inr r.1, r.2, r.3)

pub method_node : (types : List Placed) (t : Placed) (m : Method) → Contains types t → Contains t.view.methods m → IsMethodNode types t m
unfolding nodes
method_node types t m c d =
    let h : IsIn (t, m) (methods_of types) = flat_map_in (λ t. map (λ m. (t, m)) t.view.methods) types t (t, m) (IsIn-from_Contains types t c) (map_in (λ m. (t, m)) t.view.methods m (IsIn-from_Contains _ m d)) in
    let r = node_of 0 (methods_of types) (t, m) h in
    record { node = r.0; node_in = Contains-from_IsIn _ r.0 r.1; owner = r.2; method = r.3 }

-- ---- numbers

one_of_number : (ms : List Node) → Rising ms → (m n : Node) → IsIn m ms → IsIn n ms → m.number ≡ n.number → m ≡ n
unfolding Rising
one_of_number [] r m n h k q = absurd h
one_of_number (x ∷ xs) r m n (inl e) (inl f) q = sym e ∙ f
one_of_number (x ∷ xs) r m n (inl e) (inr k) q =
    absurd (let l : x.number < n.number = in_all (λ v. x.number < v.number) xs n r.0 k in let s : x.number ≡ m.number = ap (λ v. v.number) e in omega arith)
one_of_number (x ∷ xs) r m n (inr h) (inl f) q =
    absurd (let l : x.number < m.number = in_all (λ v. x.number < v.number) xs m r.0 h in let s : x.number ≡ n.number = ap (λ v. v.number) f in omega arith)
one_of_number (x ∷ xs) r m n (inr h) (inr k) q = one_of_number xs r.1 m n h k q

pub one_node : (types : List Placed) (m n : Node) → Contains (nodes types) m → Contains (nodes types) n → is_node m n ≡ true → m ≡ n
one_node types m n c d e = one_of_number (nodes types) (nodes_rise types) m n (IsIn-from_Contains _ m c) (IsIn-from_Contains _ n d) ((Decides-eqb m.number n.number).0 e)

nodes_joined : (k : ℕ) (xs ys : List (Placed × Method)) → nodes_from k (xs ++ ys) ≡ nodes_from k xs ++ nodes_from (k + length xs) ys
nodes_joined k [] ys = let e : k ≡ k + length {A = Placed × Method} [] = omega arith in ap (λ n. nodes_from n ys) e
nodes_joined k (x ∷ xs) ys =
    let e : k + 1 + length xs ≡ k + length (x ∷ xs) = omega arith in
    ap (λ ns. record { number = k; owner = x.0; method = x.1 } ∷ ns) (nodes_joined (k + 1) xs ys ∙ ap (λ n. nodes_from (k + 1) xs ++ nodes_from n ys) e)

pub length-nodes_from : (k : ℕ) (ps : List (Placed × Method)) → length (nodes_from k ps) ≡ length ps
length-nodes_from k [] = refl
length-nodes_from k (p ∷ ps) = ap suc (length-nodes_from (k + 1) ps)

pub nodes_go_on : (ts us : List Placed) → nodes (ts ++ us) ≡ nodes ts ++ nodes_from (length (nodes ts)) (methods_of us)
unfolding nodes
nodes_go_on ts us =
    let e : 0 + length (methods_of ts) ≡ length (nodes_from 0 (methods_of ts)) = omega (arith, length-nodes_from 0 (methods_of ts)) in
    ap (nodes_from 0) (flat_map-append (λ t. map (λ m. (t, m)) t.view.methods) ts us)
    ∙ nodes_joined 0 (methods_of ts) (methods_of us)
    ∙ ap (λ n. nodes_from 0 (methods_of ts) ++ nodes_from n (methods_of us)) e

-- ---- what a type declares

pub signature_self : (m : Method) → has_signature (signature_of m) m ≡ true
signature_self m = and_from (same m.name m.name) (same m.desc m.desc) ((bytes_decides m.name m.name).1 refl) ((bytes_decides m.desc m.desc).1 refl)

pub declared_is : (types : List Placed) (t : Placed) (s : Signature) (m : Node) → declared types s t ≡ Some m → IsIn m (nodes types) × (is_type t m.owner ≡ true) × (has_signature s m.method ≡ true)
declared_is types t s m e =
    let f = find_in (λ n. is_type t n.owner && has_signature s n.method) (nodes types) m e in
    (f.0, and_first (is_type t m.owner) (has_signature s m.method) f.1, and_second (is_type t m.owner) (has_signature s m.method) f.1)

module _ (types : List Placed) (distinct : IsDistinct is_type types) where
  pub declared_own : (t : Placed) (s : Signature) (m : Node) → Contains types t → declared types s t ≡ Some m → (m.owner ≡ t) × Contains (nodes types) m × (has_signature s m.method ≡ true)
  declared_own t s m c e =
      let d = declared_is types t s m e in
      (sym (one_of_name types t m.owner distinct (IsIn-from_Contains types t c) (node_owner types m d.0) d.1), Contains-from_IsIn _ m d.0, d.2)

  pub declared_there : (t : Placed) (s : Signature) → Contains types t → is_some (declared types s t) ≡ list_any (has_signature s) t.view.methods
  declared_there t s c = both_ways (is_some (declared types s t)) (list_any (has_signature s) t.view.methods) (forth (declared types s t) refl) (back (declared types s t) refl)
    where
      forth : (o : Option Node) → declared types s t ≡ o → is_some o ≡ true → list_any (has_signature s) t.view.methods ≡ true
      forth None e h = absurd (cc)
      forth (Some m) e h =
          let d = declared_own t s m c e in
          let i : IsIn m.method t.view.methods = subst (λ u. IsIn m.method u.view.methods) d.0 (IsIn-from_Contains _ m.method (node_method types m d.1).1) in
          any_in (has_signature s) t.view.methods m.method i d.2

      back : (o : Option Node) → declared types s t ≡ o → list_any (has_signature s) t.view.methods ≡ true → is_some o ≡ true
      back (Some m) e h = refl
      back None e h =
          let m = in_any (has_signature s) t.view.methods h in
          let n = method_node types t m.0 c (Contains-from_IsIn _ m.0 m.1) in
          absurd (find_none (λ m. is_type t m.owner && has_signature s m.method) (nodes types) n.node e (IsIn-from_Contains _ n.node n.node_in)
          (and_from (is_type t n.node.owner) (has_signature s n.node.method) (ap (is_type t) n.owner ∙ is_type_self t) (ap (has_signature s) n.method ∙ m.2)))

  pub declared_only : IsSingle types → (m : Node) → Contains (nodes types) m → declared types (signature_of m.method) m.owner ≡ Some m
  declared_only single m c = at (declared types (signature_of m.method) m.owner) refl
    where
      known : Contains types m.owner
      known = (node_method types m c).0

      at : (o : Option Node) → declared types (signature_of m.method) m.owner ≡ o → declared types (signature_of m.method) m.owner ≡ Some m
      at None e = absurd (find_none (λ n. is_type m.owner n.owner && has_signature (signature_of m.method) n.method) (nodes types) m e (IsIn-from_Contains _ m c)
          (and_from (is_type m.owner m.owner) (has_signature (signature_of m.method) m.method) (is_type_self m.owner) (signature_self m.method)))
      at (Some n) e =
          let d = declared_own m.owner (signature_of m.method) n known e in
          e ∙ ap Some (sym (single m n c d.1 (sym d.0) d.2))

-- ---- of valid views

alike_back : (m n : Method) → is_alike m n ≡ is_alike n m
alike_back m n i = nat_list_eq_equiv.symm m.name n.name i && nat_list_eq_equiv.symm m.desc n.desc i

-- the nodes of a type's methods, from number k on
abbrev row : ℕ → Placed → List Method → List Node
row k t ms = nodes_from k (map (λ m. (t, m)) ms)

method_in : (t : Placed) (k : ℕ) (ms : List Method) (m : Node) → IsIn m (row k t ms) → IsIn m.method ms
method_in t k [] m h = absurd h
method_in t k (x ∷ xs) m (inl e) = inl (ap (λ v. v.method) e)
method_in t k (x ∷ xs) m (inr h) = inr (method_in t (k + 1) xs m h)

-- of alike ones there is one
alike_nodes : (t : Placed) (k : ℕ) (ms : List Method) → IsDistinct is_alike ms → (m n : Node) → IsIn m (row k t ms) → IsIn n (row k t ms) → is_alike m.method n.method ≡ true → m ≡ n
unfolding IsDistinct
alike_nodes t k [] d m n h i a = absurd h
alike_nodes t k (x ∷ xs) d m n (inl e) (inl f) a = sym e ∙ f
alike_nodes t k (x ∷ xs) d m n (inr h) (inr i) a = alike_nodes t (k + 1) xs d.1 m n h i a
alike_nodes t k (x ∷ xs) d m n (inl e) (inr i) a =
    absurd (
    let apart : is_alike x n.method ≡ false = in_all (λ y. is_alike x y ≡ false) xs n.method d.0 (method_in t (k + 1) xs n i) in
    let v : is_alike x n.method ≡ is_alike m.method n.method = ap (λ z. is_alike z.method n.method) e in
    cc)
alike_nodes t k (x ∷ xs) d m n (inr h) (inl f) a =
    absurd (
    let apart : is_alike x m.method ≡ false = in_all (λ y. is_alike x y ≡ false) xs m.method d.0 (method_in t (k + 1) xs m h) in
    let v : is_alike m.method x ≡ is_alike m.method n.method = ap (λ z. is_alike m.method z.method) f in
    let w = alike_back m.method x in
    cc)

-- a type's methods, and the number after those of its nodes
abbrev pairs : Placed → List (Placed × Method)
pairs u = map (λ m. (u, m)) u.view.methods

abbrev after : ℕ → Placed → ℕ
after k u = k + length (pairs u)

abbrev is_of : Placed → Node → Bool
is_of t m = is_type t m.owner

row_whole : (t u : Placed) (k : ℕ) (ms : List Method) → is_type t u ≡ true → filter (is_of t) (row k u ms) ≡ row k u ms
row_whole t u k [] e = refl
row_whole t u k (m ∷ ms) e = rw e (ap (λ ns. record { number = k; owner = u; method = m } ∷ ns) (row_whole t u (k + 1) ms e))

row_none : (t u : Placed) (k : ℕ) (ms : List Method) → is_type t u ≡ false → filter (is_of t) (row k u ms) ≡ []
row_none t u k [] e = refl
row_none t u k (m ∷ ms) e = rw e (row_none t u (k + 1) ms e)

-- a type's nodes, and those of the others after it
step : (t u : Placed) (us : List Placed) (k : ℕ) → filter (is_of t) (nodes_from k (methods_of (u ∷ us)))
    ≡ filter (is_of t) (row k u u.view.methods) ++ filter (is_of t) (nodes_from (after k u) (methods_of us))
step t u us k =
    ap (filter (is_of t)) (nodes_joined k (pairs u) (methods_of us))
    ∙ filter-append (is_of t) (row k u u.view.methods) (nodes_from (after k u) (methods_of us))

none_of : (t : Placed) (us : List Placed) (k : ℕ) → AllByRecursion (λ u. is_type t u ≡ false) us → filter (is_of t) (nodes_from k (methods_of us)) ≡ []
none_of t [] k a = refl
none_of t (u ∷ us) k a =
    step t u us k
    ∙ ap (λ ns. ns ++ filter (is_of t) (nodes_from (after k u) (methods_of us))) (row_none t u k u.view.methods a.0)
    ∙ none_of t us (after k u) a.1

-- the nodes of t stand in a row, as its methods do
pub record Block (t : Placed) (all : List Node) : Type 0 where
  pub first : ℕ
  pub whole : filter (λ m. is_type t m.owner) all ≡ nodes_from first (map (λ m. (t, m)) t.view.methods)

block_from : (types : List Placed) → IsDistinct is_type types → (t : Placed) → IsIn t types → (k : ℕ) → Block t (nodes_from k (methods_of types))
unfolding IsDistinct
block_from [] d t h k = absurd h
block_from (u ∷ us) d t (inl e) k =
    let others : AllByRecursion (λ v. is_type t v ≡ false) us = subst (λ x. AllByRecursion (λ v. is_type x v ≡ false) us) e d.0 in
    let self : is_type t u ≡ true = subst (λ x. is_type t x ≡ true) (sym e) (is_type_self t) in
    let n = after k u in
    record {
      first = k;
      whole =
          step t u us k
          ∙ ap (λ ns. filter (is_of t) (row k u u.view.methods) ++ ns) (none_of t us n others)
          ∙ append-nil (filter (is_of t) (row k u u.view.methods))
          ∙ row_whole t u k u.view.methods self
          ∙ ap (λ x. row k x x.view.methods) e;
    }
block_from (u ∷ us) d t (inr h) k =
    let n = after k u in
    let r = block_from us d.1 t h n in
    let apart : is_type t u ≡ false = is_type_back t u ∙ in_all (λ v. is_type u v ≡ false) us t d.0 h in
    record {
      first = r.first;
      whole = step t u us k ∙ ap (λ ns. ns ++ filter (is_of t) (nodes_from n (methods_of us))) (row_none t u k u.view.methods apart) ∙ r.whole;
    }

pub block : (types : List Placed) → IsDistinct is_type types → (t : Placed) → Contains types t → Block t (nodes types)
unfolding nodes
block types d t c = block_from types d t (IsIn-from_Contains types t c) 0

-- they are taken out of the nodes
row_from : (types : List Placed) → IsDistinct is_type types → (x : ℕ) (t : Placed) → slice_get types x ≡ Some t → (k : ℕ)
    → filter (is_of t) (nodes_from k (methods_of types)) ≡ take (length t.view.methods) (drop (first_node types x) (nodes_from k (methods_of types)))
unfolding IsDistinct
row_from [] d x t h k = absurd (cc)
row_from (u ∷ us) d zero t h k =
    let same : u ≡ t = cc in
    let n = after k u in
    let others : AllByRecursion (λ v. is_type t v ≡ false) us = subst (λ x. AllByRecursion (λ v. is_type x v ≡ false) us) same d.0 in
    let self : is_type t u ≡ true = subst (λ x. is_type t x ≡ true) (sym same) (is_type_self t) in
    let long : length (row k u u.view.methods) ≡ length t.view.methods =
    length-nodes_from k (pairs u) ∙ length-map u.view.methods (λ m. (u, m)) ∙ ap (λ v. length v.view.methods) same in
    step t u us k
    ∙ ap (λ ns. filter (is_of t) (row k u u.view.methods) ++ ns) (none_of t us n others)
    ∙ append-nil (filter (is_of t) (row k u u.view.methods))
    ∙ row_whole t u k u.view.methods self
    ∙ sym (take_at (row k u u.view.methods) (nodes_from n (methods_of us)) (length t.view.methods) long)
    ∙ ap (take (length t.view.methods)) (sym (nodes_joined k (pairs u) (methods_of us)))
row_from (u ∷ us) d (suc x) t h k =
    let n = after k u in
    let i : IsIn t us = IsIn-from_Contains us t (member_at us x t h) in
    let apart : is_type t u ≡ false = is_type_back t u ∙ in_all (λ v. is_type u v ≡ false) us t d.0 i in
    let long : length (row k u u.view.methods) ≡ length u.view.methods = length-nodes_from k (pairs u) ∙ length-map u.view.methods (λ m. (u, m)) in
    let sum : first_node (u ∷ us) (suc x) ≡ length u.view.methods + first_node us x = sum_by-cons (λ v. length v.view.methods) u (take x us) in
    let rest : drop (first_node (u ∷ us) (suc x)) (nodes_from k (methods_of (u ∷ us))) ≡ drop (first_node us x) (nodes_from n (methods_of us)) =
    ap (λ j. drop j (nodes_from k (methods_of (u ∷ us)))) sum
    ∙ sym (drop-drop (first_node us x) (length u.view.methods) (nodes_from k (methods_of (u ∷ us))))
    ∙ ap (λ ns. drop (first_node us x) (drop (length u.view.methods) ns)) (nodes_joined k (pairs u) (methods_of us))
    ∙ ap (drop (first_node us x)) (drop_at (row k u u.view.methods) (nodes_from n (methods_of us)) (length u.view.methods) long) in
    step t u us k
    ∙ ap (λ ns. ns ++ filter (is_of t) (nodes_from n (methods_of us))) (row_none t u k u.view.methods apart)
    ∙ row_from us d.1 x t h n
    ∙ ap (take (length t.view.methods)) (sym rest)

pub row_is_taken : (types : List Placed) (x : ℕ) (t : Placed) → IsDistinct is_type types → slice_get types x ≡ Some t
    → filter (λ m. is_type t m.owner) (nodes types) ≡ take (length t.view.methods) (drop (first_node types x) (nodes types))
unfolding nodes
row_is_taken types x t d h = row_from types d x t h 0

methods_of_row : (t : Placed) (k : ℕ) (ms : List Method) → map (λ m. m.method) (row k t ms) ≡ ms
methods_of_row t k [] = refl
methods_of_row t k (m ∷ ms) = ap (λ ns. m ∷ ns) (methods_of_row t (k + 1) ms)

pub row_methods : (types : List Placed) (t : Placed) → IsDistinct is_type types → Contains types t → map (λ m. m.method) (filter (λ m. is_type t m.owner) (nodes types)) ≡ t.view.methods
row_methods types t d c = let b = block types d t c in ap (map (λ m. m.method)) b.whole ∙ methods_of_row t b.first t.view.methods

-- known types are views
pub apart_from_valid : (views : List Placed) → All (λ t. IsValid t.view) views → AreApart (known views)
unfolding known
apart_from_valid views v t c =
    let w = in_filter (λ u. not (is_circular (winners views) u)) (winners views) t (IsIn-from_Contains _ t c) in
    let first : find (is_named t.view.name) views ≡ Some t = sym (winner_of views t.view.name) ∙ find_type (winners views) (winners_distinct views) t.view.name t w.0 (is_type_self t) in
    let there : Contains views t = Contains-from_IsIn views t (find_in (is_named t.view.name) views t first).0 in
    let valid : IsValid t.view = All-contains (λ t. IsValid t.view) views t v there in
    valid.distinct

pub single : (types : List Placed) → IsDistinct is_type types → AreApart types → IsSingle types
single types d v m n c e same_owner alike =
    let t = m.owner in
    let known = (node_method types m c).0 in
    let b = block types d t known in
    alike_nodes t b.first t.view.methods (v t known) m n
    (subst (IsIn m) b.whole (filter_in (is_of t) (nodes types) m (IsIn-from_Contains _ m c) (is_type_self t)))
    (subst (IsIn n) b.whole (filter_in (is_of t) (nodes types) n (IsIn-from_Contains _ n e) (ap (is_type t) (sym same_owner) ∙ is_type_self t)))
    alike

pub identity_is_one : (types : List Placed) → IsDistinct is_type types → IsSingle types → (m n : Node) → Contains (nodes types) m → Contains (nodes types) n → identity m ≡ identity n → m ≡ n
identity_is_one types d s m n c e q =
    s m n c e
    (one_of_name types m.owner n.owner d (node_owner types m (IsIn-from_Contains _ m c)) (node_owner types n (IsIn-from_Contains _ n e))
    ((bytes_decides m.owner.view.name n.owner.view.name).1 (ap (λ u. u.class) q)))
    (and_from (same m.method.name n.method.name) (same m.method.desc n.method.desc)
    ((bytes_decides m.method.name n.method.name).1 (ap (λ u. u.name) q))
    ((bytes_decides m.method.desc n.method.desc).1 (ap (λ u. u.desc) q)))
