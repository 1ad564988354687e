-- A search in one type looks at the method that the type declares.
use Rattle.std.proofs.Common.{◌≡◌, List, [], ◌∷◌, refl, sym, ap, ◌∙◌}
use Rattle.std.specs.Prelude.{Bool, true, false, cond, ◌&&◌, ◌||◌, find, Option, Some, None, is_some, Contains}
use Rattle.std.specs.List.{list_any, IsDistinct}
use Rattle.std.specs.Cmp.Lexicographic.{bytes_decides}
use Rattle.std.proofs.lemmas.Bool.{and_from}
use Rattle.fcg_analysis.specs.Declarations.{Placed, Signature, is_type, has_signature}
use Rattle.fcg_analysis.specs.Nodes.{Node, nodes, declared}
use Rattle.fcg_analysis.specs.Laws.Methods.{IsSingle}
use Rattle.fcg_analysis.specs.Laws.HandedOn.{where_passes, passes_at}
use Rattle.fcg_analysis.proofs.General.Members.{IsIn, IsIn-from_Contains, Contains-from_IsIn, and_first, and_second, kept}
use Rattle.fcg_analysis.proofs.General.Finding.{find_more, find_only}
use Rattle.fcg_analysis.proofs.NodeMembers.{declared_is}
use Rattle.fcg_analysis.proofs.OverrideLaws.{one_of_name, node_owner}
use Rattle.fcg_analysis.proofs.SearchLaws.{signature_shared}
use Rattle.fcg_analysis.proofs.WinnerLaws.{name_of_type}

any_is_find : {X : Type 0} (p : X → Bool) (xs : List X) → list_any p xs ≡ is_some (find p xs)
any_is_find p [] = refl
any_is_find {X} p (x ∷ xs) = at (p x) (any_is_find p xs)
  where
    at : (b : Bool) → list_any p xs ≡ is_some (find p xs) → (b || list_any p xs) ≡ is_some (cond b (Some x) (find p xs))
    at true e = refl
    at false e = e

module _ (types : List Placed) (distinct : IsDistinct is_type types) (one_each : IsSingle types) (t : Placed) (s : Signature) where
  abbrev here : Node → Bool
  here m = is_type t m.owner && has_signature s m.method

  once : (m n : Node) → IsIn m (nodes types) → IsIn n (nodes types) → here m ≡ true → here n ≡ true → m ≡ n
  once m n h k a b =
      one_each m n (Contains-from_IsIn _ m h) (Contains-from_IsIn _ n k)
      (one_of_name types m.owner n.owner distinct (node_owner types m h) (node_owner types n k)
      ((bytes_decides m.owner.view.name n.owner.view.name).1 (sym (name_of_type t m.owner (and_first (is_type t m.owner) (has_signature s m.method) a)) ∙ name_of_type t n.owner (and_first (is_type t n.owner) (has_signature s n.method) b))))
      (signature_shared s m n (and_second (is_type t m.owner) (has_signature s m.method) a) (and_second (is_type t n.owner) (has_signature s n.method) b))

  pub only_one : (m : Node) → Contains (nodes types) m → is_type t m.owner ≡ true → has_signature s m.method ≡ true → declared types s t ≡ Some m
  only_one m c o g =
      let h = IsIn-from_Contains (nodes types) m c in
      let k = and_from (is_type t m.owner) (has_signature s m.method) o g in
      find_only here (nodes types) m h k (λ n i e. once n m i h e k)

  module _ (test : Node → Bool) (more : (m : Node) → test m ≡ true → has_signature s m.method ≡ true) where
    pub search_declared : find (λ m. is_type t m.owner && test m) (nodes types) ≡ where_passes test (declared types s t)
    search_declared =
        find_more here (λ m. is_type t m.owner && test m)
        (λ m h. and_from (is_type t m.owner) (has_signature s m.method) (and_first (is_type t m.owner) (test m) h) (more m (and_second (is_type t m.owner) (test m) h)))
        (nodes types) once
        ∙ at (declared types s t) refl
      where
        at : (o : Option Node) → declared types s t ≡ o → kept (λ m. is_type t m.owner && test m) o ≡ where_passes test o
        at None e = refl
        at (Some m) e = ap (λ b. cond (b && test m) (Some m) None) (declared_is types t s m e).1

    pub any_declared : list_any (λ m. is_type t m.owner && test m) (nodes types) ≡ passes_at test (declared types s t)
    any_declared = any_is_find (λ m. is_type t m.owner && test m) (nodes types) ∙ ap is_some search_declared ∙ at (declared types s t)
      where
        passing : (m : Node) (b : Bool) → is_some (cond b (Some m) None) ≡ b
        passing m true = refl
        passing m false = refl

        at : (o : Option Node) → is_some (where_passes test o) ≡ passes_at test o
        at None = refl
        at (Some m) = passing m (test m)
