-- Chains, walked from type to type, and Object by its name.
use Rattle.std.proofs.Common.{◌≡◌, List, [], ◌∷◌, drop, refl, sym, ap, subst, ◌∙◌}
use Rattle.std.specs.Prelude.{cond, ◌&&◌, Option, Some, None, Contains, option_and_then}
use Rattle.std.specs.List.{IsDistinct}
use Rattle.fcg_analysis.specs.NamesAndFlags.{first_of_list}
use Rattle.fcg_analysis.specs.Declarations.{Placed, is_type, is_named, is_object, is_class, object_name}
use Rattle.fcg_analysis.specs.Types.{chain, superclass, type_named, object}
use Rattle.fcg_analysis.specs.Laws.Statements.{IsAcyclic, chain_above}
use Rattle.fcg_analysis.specs.Laws.ByName.{class_named}
use Rattle.fcg_analysis.specs.Laws.ChainParts.{next_in_chain, chain_of}
use Rattle.fcg_analysis.proofs.General.Members.{and_first, find_in, kept}
use Rattle.fcg_analysis.proofs.General.Finding.{find_more}
use Rattle.fcg_analysis.proofs.ChainLaws.{chain_goes_on, chain_rest}
use Rattle.fcg_analysis.proofs.NameLaws.{same_name}

module _ (types : List Placed) (acyclic : IsAcyclic types) where
  rest_is : (t : Placed) (rest : List Placed) → chain types t ≡ t ∷ rest → first_of_list rest ≡ next_in_chain types t
  rest_is t rest e = ap (λ xs. first_of_list (drop 1 xs)) (sym e)

  pub chain_walked : (t : Placed) → Contains types t → chain types t ≡ t ∷ chain_of types (next_in_chain types t)
  chain_walked t c = at (chain_above types t (superclass types t)) (chain_goes_on types acyclic t c)
    where
      at : (rest : List Placed) → chain types t ≡ t ∷ rest → chain types t ≡ t ∷ chain_of types (next_in_chain types t)
      at [] e = e ∙ ap (λ o. t ∷ chain_of types o) (rest_is t [] e)
      at (u ∷ us) e = e ∙ ap (λ xs. t ∷ xs) (sym (chain_rest types acyclic (t ∷ []) us t u c e).0) ∙ ap (λ o. t ∷ chain_of types o) (rest_is t (u ∷ us) e)

  pub next_known : (t u : Placed) → Contains types t → next_in_chain types t ≡ Some u → Contains types u
  next_known t u c n = at (chain_above types t (superclass types t)) (chain_goes_on types acyclic t c)
    where
      at : (rest : List Placed) → chain types t ≡ t ∷ rest → Contains types u
      at [] e = absurd (let k = rest_is t [] e in cc)
      at (v ∷ vs) e =
          let k : Some v ≡ Some u = rest_is t (v ∷ vs) e ∙ n in
          let same : v ≡ u = cc in
          subst (λ w. Contains types w) same (chain_rest types acyclic (t ∷ []) vs t v c e).1

pub object_by_name : (types : List Placed) → IsDistinct is_type types → object types ≡ class_named types (object_name ∷ [])
object_by_name types d =
    find_more (is_named object_name) (λ x. is_object x && is_class x) (λ x h. and_first (is_object x) (is_class x) h) types (same_name types d object_name)
    ∙ at (type_named types object_name) refl
  where
    at : (o : Option Placed) → type_named types object_name ≡ o → kept (λ x. is_object x && is_class x) o ≡ option_and_then (λ u. cond (is_class u) (Some u) None) o
    at None e = refl
    at (Some x) e = ap (λ b. cond (b && is_class x) (Some x) None) (find_in (is_named object_name) types x e).1
