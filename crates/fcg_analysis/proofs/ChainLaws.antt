-- Chains, with Object at their end.
use Rattle.std.proofs.Common.{◌≡◌, ℕ, List, [], ◌∷◌, ◌++◌, refl, ap, subst, ◌∙◌}
use Rattle.std.specs.Prelude.{Bool, true, false, not, cond, ◌||◌, ◌&&◌, filter, Option, Some, None, Contains, option_to_list}
use Rattle.std.specs.List.{list_any}
use Rattle.std.specs.Cmp.Lexicographic.{bytes_decides}
use Rattle.std.proofs.lemmas.Bool.{or_parts, false_from_ne_true}
use Rattle.fcg_analysis.specs.NamesAndFlags.{contains}
use Rattle.fcg_analysis.specs.Declarations.{Placed, is_type, is_class, is_interface, is_object, object_name, superclass_names}
use Rattle.fcg_analysis.specs.Types.{extends, superclass, line, chain, object}
use Rattle.fcg_analysis.specs.Laws.Statements.{IsAcyclic, line_above, chain_above}
use Rattle.fcg_analysis.proofs.General.Members.{Contains-from_IsIn, IsIn, and_first, and_second, find_in}
use Rattle.fcg_analysis.proofs.LineLaws.{line_goes_on}
use Rattle.fcg_analysis.proofs.WinnerLaws.{is_type_self, name_of_type}

-- a type that extends one is a class, and not Object
uses_superclass : (t : Placed) (n : List ℕ) → contains n (superclass_names t) ≡ true → (is_object t || is_interface t) ≡ false
uses_superclass t n h = at (is_object t || is_interface t) h
  where
    at : (b : Bool) → contains n (cond b [] (option_to_list t.view.superclass)) ≡ true → b ≡ false
    at true k = absurd (cc)
    at false k = refl

pub extends_class : (t s : Placed) → extends t s ≡ true → (is_object t ≡ false) × (is_interface t ≡ false) × (is_class s ≡ true)
extends_class t s h =
    let k = or_parts (is_object t) (is_interface t) (uses_superclass t s.view.name (and_second (is_class s) _ h)) in
    (k.0, k.1, and_first (is_class s) _ h)

object_apart : (t o : Placed) → is_object t ≡ false → is_object o ≡ true → is_type o t ≡ false
object_apart t o n k = false_from_ne_true _ (λ e.
    let names : object_name ≡ t.view.name = (bytes_decides object_name o.view.name).0 k ∙ name_of_type o t e in
    let again : is_object t ≡ true = (bytes_decides object_name t.view.name).1 names in
    cc)

pub object_says : (types : List Placed) (o : Placed) → object types ≡ Some o → IsIn o types × (is_object o ≡ true) × (is_class o ≡ true)
object_says types o e =
    let f = find_in (λ t. is_object t && is_class t) types o e in
    (f.0, and_first (is_object o) (is_class o) f.1, and_second (is_object o) (is_class o) f.1)

module _ (types : List Placed) (acyclic : IsAcyclic types) where
  -- the added Object is the same for t and for what it extends
  same_end : (t s : Placed) (own : List Placed) → extends t s ≡ true → (ob : Option Placed) → object types ≡ ob
      → filter (λ o. is_class t && not (list_any (is_type o) (t ∷ own))) (option_to_list ob) ≡ filter (λ o. is_class s && not (list_any (is_type o) own)) (option_to_list ob)
  same_end t s own h None e = refl
  same_end t s own h (Some o) e =
      let c = extends_class t s h in
      let apart : is_type o t ≡ false = object_apart t o c.0 (object_says types o e).1 in
      at (is_interface t) (is_class s) (is_type o t) c.1 c.2 apart
    where
      at : (b d f : Bool) → b ≡ false → d ≡ true → f ≡ false
          → cond (not b && not (f || list_any (is_type o) own)) (o ∷ []) [] ≡ cond (d && not (list_any (is_type o) own)) (o ∷ []) []
      at true d f p q r = absurd (cc)
      at false false f p q r = absurd (cc)
      at false true true p q r = absurd (cc)
      at false true false p q r = refl

  pub chain_goes_on : (t : Placed) → Contains types t → chain types t ≡ t ∷ chain_above types t (superclass types t)
  unfolding chain
  chain_goes_on t c = at (superclass types t) refl (line_goes_on types acyclic t c)
    where
      ends : List Placed → List Placed
      ends own = own ++ filter (λ o. is_class t && not (list_any (is_type o) own)) (option_to_list (object types))

      or_false : (b : Bool) → (b || false) ≡ b
      or_false true = refl
      or_false false = refl

      alone : (ob : Option Placed) → filter (λ o. is_class t && not (is_type o t || false)) (option_to_list ob) ≡ filter (λ o. is_class t && not (is_type o t)) (option_to_list ob)
      alone None = refl
      alone (Some o) = ap (λ b. cond (is_class t && not b) (o ∷ []) []) (or_false (is_type o t))

      at : (s : Option Placed) → superclass types t ≡ s → line types t ≡ t ∷ line_above types s → chain types t ≡ t ∷ chain_above types t s
      at None e l = ap ends l ∙ ap (λ xs. t ∷ xs) (alone (object types))
      at (Some s) e l = ap ends l ∙ ap (λ xs. t ∷ (line types s ++ xs)) (same_end t s (line types s) (find_in (extends t) types s e).1 (object types) refl)

  -- from each type of a chain on it is that type's chain
  pub chain_rest : (xs ys : List Placed) (t u : Placed) → Contains types t → chain types t ≡ xs ++ (u ∷ ys) → (chain types u ≡ u ∷ ys) × Contains types u
  chain_rest [] ys t u c e =
      let g = chain_goes_on t c in
      let same : t ≡ u = cc in
      (subst (λ v. chain types v ≡ u ∷ ys) same e, subst (λ v. Contains types v) same c)
  chain_rest (x ∷ xs) ys t u c e = at (superclass types t) refl (chain_goes_on t c) (chain_rest xs ys)
    where
      last : (o : Placed) → object types ≡ Some o → (zs : List Placed) → o ∷ [] ≡ zs ++ (u ∷ ys) → (chain types u ≡ u ∷ ys) × Contains types u
      last o q (z ∷ []) k = absurd (cc)
      last o q (z ∷ w ∷ zs) k = absurd (cc)
      last o q [] k =
          let says = object_says types o q in
          let there = Contains-from_IsIn types o says.0 in
          let same : o ≡ u = cc in
          let nil : [] ≡ ys = cc in
          let own : chain types o ≡ o ∷ [] = chain_goes_on o there ∙ ap (λ zs. o ∷ zs) (none o says.1 q) in
          (subst (λ v. chain types v ≡ u ∷ ys) same (own ∙ (λ i. same i ∷ nil i)), subst (λ v. Contains types v) same there)
        where
          none : (o : Placed) → is_object o ≡ true → object types ≡ Some o → chain_above types o (superclass types o) ≡ []
          none o k q = go (superclass types o) refl
            where
              self : (b d : Bool) → d ≡ true → cond (b && not d) (o ∷ []) [] ≡ []
              self true true e = refl
              self false true e = refl
              self b false e = absurd (cc)

              go : (s : Option Placed) → superclass types o ≡ s → chain_above types o s ≡ []
              go None e = ap (λ ob. filter (λ v. is_class o && not (is_type v o)) (option_to_list ob)) q ∙ self (is_class o) (is_type o o) (is_type_self o)
              go (Some s) e = absurd (let f = (extends_class o s (find_in (extends o) types s e).1).0 in cc)

      few : (ob : Option Placed) → object types ≡ ob → (b : Placed → Bool) → filter b (option_to_list ob) ≡ xs ++ (u ∷ ys) → (chain types u ≡ u ∷ ys) × Contains types u
      few None q b k = absurd (short xs k)
        where
          short : (zs : List Placed) → [] ≡ zs ++ (u ∷ ys) → ⊥
          short [] k = cc
          short (z ∷ zs) k = cc
      few (Some o) q b k = go (b o) k
        where
          short : (zs : List Placed) → [] ≡ zs ++ (u ∷ ys) → ⊥
          short [] k = cc
          short (z ∷ zs) k = cc

          go : (d : Bool) → cond d (o ∷ []) [] ≡ xs ++ (u ∷ ys) → (chain types u ≡ u ∷ ys) × Contains types u
          go true k = last o q xs k
          go false k = absurd (short xs k)

      at : (s : Option Placed) → superclass types t ≡ s → chain types t ≡ t ∷ chain_above types t s
          → ((v w : Placed) → Contains types v → chain types v ≡ xs ++ (w ∷ ys) → (chain types w ≡ w ∷ ys) × Contains types w)
          → (chain types u ≡ u ∷ ys) × Contains types u
      at None q g r = few (object types) refl (λ o. is_class t && not (is_type o t)) (let k : chain_above types t None ≡ xs ++ (u ∷ ys) = cc in k)
      at (Some s) q g r = r s u (Contains-from_IsIn types s (find_in (extends t) types s q).0) (let k : chain types s ≡ xs ++ (u ∷ ys) = cc in k)
