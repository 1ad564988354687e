-- The declared method of a signature, among the methods of its type and among the nodes.
use Rattle.std.proofs.Common.{◌≡◌, ℕ, ◌+◌, List, refl, ap, subst, ◌∙◌}
use Rattle.std.specs.Prelude.{true, false, ◌&&◌, ◌↔◌, Option, Some, None, is_some, slice_get, Contains}
use Rattle.std.specs.List.{list_any, IsDistinct}
use Rattle.std.proofs.lemmas.Bool.{and_from, false_from_ne_true}
use Rattle.fcg_views.specs.declared.view.Method.{Method}
use Rattle.fcg_analysis.specs.Declarations.{Placed, Signature, is_type, has_signature}
use Rattle.fcg_analysis.specs.Nodes.{Node, nodes, declared}
use Rattle.fcg_analysis.specs.Laws.Methods.{first_node, node_at, AreApart}
use Rattle.fcg_analysis.proofs.General.Members.{IsIn-from_Contains, Contains-from_IsIn, any_in, find_none}
use Rattle.fcg_analysis.proofs.General.Places.{member_at}
use Rattle.fcg_analysis.proofs.NodeMembers.{node_method, declared_is, declared_own, declared_there, single}
use Rattle.fcg_analysis.proofs.NodePlaces.{method_at}
use Rattle.fcg_analysis.proofs.DeclaredSearch.{only_one}
use Rattle.fcg_analysis.proofs.WinnerLaws.{is_type_self}

pub of_node : (types : List Placed) → IsDistinct is_type types → AreApart types → (t : Placed) (s : Signature) (m : Node) → Contains (nodes types) m → is_type t m.owner ≡ true
    → has_signature s m.method ≡ true → declared types s t ≡ Some m
of_node types d a t s m c o g = only_one types d (single types d a) t s m c o g

pub declared_at : (types : List Placed) → IsDistinct is_type types → AreApart types → (x k : ℕ) (t : Placed) (m : Method) (s : Signature) → slice_get types x ≡ Some t
    → slice_get t.view.methods k ≡ Some m → has_signature s m ≡ true → declared types s t ≡ Some (node_at (first_node types x + k) t m)
declared_at types d a x k t m s h i g =
    let n = first_node types x + k in
    of_node types d a t s (node_at n t m) (member_at (nodes types) n (node_at n t m) (method_at types x k t m h i)) (is_type_self t) g

pub none_own : (types : List Placed) → IsDistinct is_type types → (t : Placed) (s : Signature) → Contains types t
    → declared types s t ≡ None ↔ ((m : Method) → Contains t.view.methods m → has_signature s m ≡ false)
none_own types d t s c = (forth, back (declared types s t) refl)
  where
    forth : declared types s t ≡ None → (m : Method) → Contains t.view.methods m → has_signature s m ≡ false
    forth e m i = false_from_ne_true _ (λ g.
        let any : list_any (has_signature s) t.view.methods ≡ true = any_in (has_signature s) t.view.methods m (IsIn-from_Contains _ m i) g in
        let some : is_some (declared types s t) ≡ true = declared_there types d t s c ∙ any in
        let none : is_some (declared types s t) ≡ false = ap is_some e in
        cc)

    back : (o : Option Node) → declared types s t ≡ o → ((m : Method) → Contains t.view.methods m → has_signature s m ≡ false) → o ≡ None
    back None e h = refl
    back (Some n) e h =
        let own = declared_own types d t s n c e in
        let there : Contains t.view.methods n.method = subst (λ u. Contains u.view.methods n.method) own.0 (node_method types n own.1).1 in
        absurd (let off = h n.method there in let on = own.2 in cc)

pub none_of_nodes : (types : List Placed) (t : Placed) (s : Signature)
    → declared types s t ≡ None ↔ ((m : Node) → Contains (nodes types) m → has_signature s m.method ≡ true → is_type t m.owner ≡ false)
none_of_nodes types t s = (forth, back (declared types s t) refl)
  where
    forth : declared types s t ≡ None → (m : Node) → Contains (nodes types) m → has_signature s m.method ≡ true → is_type t m.owner ≡ false
    forth e m c g = false_from_ne_true _ (λ o.
        find_none (λ n. is_type t n.owner && has_signature s n.method) (nodes types) m e (IsIn-from_Contains _ m c) (and_from (is_type t m.owner) (has_signature s m.method) o g))

    back : (o : Option Node) → declared types s t ≡ o → ((m : Node) → Contains (nodes types) m → has_signature s m.method ≡ true → is_type t m.owner ≡ false) → o ≡ None
    back None e h = refl
    back (Some n) e h =
        let is = declared_is types t s n e in
        absurd (let off = h n (Contains-from_IsIn _ n is.0) is.2 in let on = is.1 in cc)
