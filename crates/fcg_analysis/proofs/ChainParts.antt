-- What stands in a chain.
use Rattle.std.proofs.Common.{◌≡◌, ℕ, zero, suc, ◌<◌, List, [], ◌∷◌, ◌++◌, length, drop, refl, sym, ap, subst, ◌∙◌, inl, inr, arith}
use Rattle.std.specs.Prelude.{Bool, true, false, not, cond, ◌&&◌, ◌⊎◌, filter, Option, Some, None, Contains, option_to_list}
use Rattle.std.specs.List.{list_any, IsDistinct}
use Rattle.std.proofs.lemmas.Bool.{or_left, false_from_ne_true}
use Rattle.fcg_analysis.specs.NamesAndFlags.{first_of_list}
use Rattle.fcg_analysis.specs.Walks.{Walk, step}
use Rattle.fcg_analysis.specs.Declarations.{Placed, is_type, is_class, is_interface, is_object}
use Rattle.fcg_analysis.specs.Types.{links, extends, implements, above, superclass, superclass_line, line, chain, object}
use Rattle.fcg_analysis.specs.Laws.Statements.{IsAcyclic, chain_above}
use Rattle.fcg_analysis.specs.Laws.ChainParts.{IsShared, EndsWith}
use Rattle.fcg_analysis.proofs.General.Members.{IsIn, IsIn-from_Contains, Contains-from_IsIn, find_in}
use Rattle.fcg_analysis.proofs.General.Finding.{parted}
use Rattle.fcg_analysis.proofs.General.Sorted.{all_from_in}
use Rattle.fcg_analysis.proofs.General.Walking.{led_from_walk, walk_from_led}
use Rattle.fcg_analysis.proofs.ChainLaws.{chain_goes_on, chain_rest, extends_class, object_says}
use Rattle.fcg_analysis.proofs.OverrideLaws.{one_of_name}
use Rattle.fcg_analysis.proofs.WinnerLaws.{is_type_back, above_joined}

-- w follows t in its chain, and ws follow w: by a link, or as the Object at the end
data IsAfter (types : List Placed) (t w : Placed) (ws : List Placed) : Type 0 where
  linked : superclass types t ≡ Some w → IsAfter types t w ws
  added : superclass types t ≡ None → object types ≡ Some w → is_type w t ≡ false → ws ≡ [] → IsAfter types t w ws

-- a superclass is above
superclass_above : (types : List Placed) (t s : Placed) → superclass types t ≡ Some s → Contains (above types t) s
unfolding above
superclass_above types t s e =
    let f = find_in (extends t) types s e in
    led_from_walk links types t s (step (Contains-from_IsIn types s f.0) (or_left (extends t s) (implements t s) f.1))

module _ (types : List Placed) (acyclic : IsAcyclic types) where
  -- what stands in a chain
  pub chain_member : (t u : Placed) → Contains types t → IsIn u (chain types t) → Contains types u
  chain_member t u c h = let p = parted (chain types t) u h in (chain_rest types acyclic p.front p.rest t u c p.whole).1

  pub chain_shared : (t u : Placed) → Contains types t → IsIn u (chain types t) → IsShared types t u
  chain_shared t u c h =
      let p = parted (chain types t) u h in
      record { nearer = p.front; whole = p.whole ∙ ap (λ zs. p.front ++ zs) (sym (chain_rest types acyclic p.front p.rest t u c p.whole).0) }

  after : (t : Placed) → Contains types t → (w : Placed) (ws : List Placed) → chain types t ≡ t ∷ (w ∷ ws) → IsAfter types t w ws
  after t c w ws e = at (superclass types t) refl (ap (drop 1) (sym (chain_goes_on types acyclic t c) ∙ e))
    where
      of_object : (b d : Bool) (o : Placed) → superclass types t ≡ None → object types ≡ Some o → is_type o t ≡ d → cond (b && not d) (o ∷ []) [] ≡ w ∷ ws → IsAfter types t w ws
      of_object true false o q p k g =
          let same : o ≡ w = cc in
          let nil : [] ≡ ws = cc in
          added q (p ∙ ap Some same) (sym (ap (λ v. is_type v t) same) ∙ k) (sym nil)
      of_object true true o q p k g = absurd (cc)
      of_object false true o q p k g = absurd (cc)
      of_object false false o q p k g = absurd (cc)

      at_end : (ob : Option Placed) → superclass types t ≡ None → object types ≡ ob → filter (λ o. is_class t && not (is_type o t)) (option_to_list ob) ≡ w ∷ ws → IsAfter types t w ws
      at_end None q p k = absurd (cc)
      at_end (Some o) q p k = of_object (is_class t) (is_type o t) o q p refl k

      at : (s : Option Placed) → superclass types t ≡ s → chain_above types t s ≡ w ∷ ws → IsAfter types t w ws
      at None q k = at_end (object types) q refl k
      at (Some s) q k =
          let there : Contains types s = Contains-from_IsIn types s (find_in (extends t) types s q).0 in
          linked (q ∙ ap first_of_list (sym (chain_goes_on types acyclic s there) ∙ k))

  -- those after the first are classes, and are above it or Object
  record IsLater (t v : Placed) : Type 0 where
    is_class' : is_class v ≡ true
    from' : Contains (above types t) v ⊎ (is_object v ≡ true)

  later : (zs : List Placed) (t : Placed) → Contains types t → chain types t ≡ t ∷ zs → (v : Placed) → IsIn v zs → IsLater t v
  later [] t c e v h = absurd h
  later (w ∷ ws) t c e v h =
      let r = chain_rest types acyclic (t ∷ []) ws t w c e in
      at (after t c w ws e) (later ws w r.1 r.0 v) h
    where
      itself : IsAfter types t w ws → IsLater t w
      itself (linked q) = record { is_class' = (extends_class t w (find_in (extends t) types w q).1).2; from' = inl (superclass_above types t w q) }
      itself (added q p k n) = let s = object_says types w p in record { is_class' = s.2; from' = inr s.1 }

      farther : superclass types t ≡ Some w → Contains (above types w) v ⊎ (is_object v ≡ true) → Contains (above types t) v ⊎ (is_object v ≡ true)
      farther q (inl a) = inl (above_joined types t w v (superclass_above types t w q) a)
      farther q (inr o) = inr o

      at : IsAfter types t w ws → (IsIn v ws → IsLater w v) → IsIn v (w ∷ ws) → IsLater t v
      at n r (inl i) = subst (IsLater t) i (itself n)
      at (linked q) r (inr k) = let l = r k in record { is_class' = l.is_class'; from' = farther q l.from' }
      at (added q p a n) r (inr k) = absurd (subst (λ xs. IsIn v xs) n k)

  rest_of : (t : Placed) → Contains types t → chain types t ≡ t ∷ drop 1 (chain types t)
  rest_of t c = let g = chain_goes_on types acyclic t c in g ∙ ap (λ zs. t ∷ drop 1 zs) (sym g)

  pub later_is_class : (t u : Placed) → Contains types t → Contains (drop 1 (chain types t)) u → is_class u ≡ true
  later_is_class t u c h = (later (drop 1 (chain types t)) t c (rest_of t c) u (IsIn-from_Contains _ u h)).is_class'

  pub later_is_above : (t u : Placed) → Contains types t → Contains (drop 1 (chain types t)) u → Contains (above types t) u ⊎ (is_object u ≡ true)
  later_is_above t u c h = (later (drop 1 (chain types t)) t c (rest_of t c) u (IsIn-from_Contains _ u h)).from'

  module _ (distinct : IsDistinct is_type types) where
    -- t doesn't stand in its chain again
    apart : (zs : List Placed) (t : Placed) → Contains types t → chain types t ≡ t ∷ zs → (v : Placed) → IsIn v zs → is_type t v ≡ false
    unfolding above
    apart [] t c e v h = absurd h
    apart (w ∷ ws) t c e v h = false_from_ne_true _ (λ k. again k (after t c w ws e) h (later (w ∷ ws) t c e v h).from')
      where
        there : Contains types v
        there = chain_member t v c (subst (IsIn v) (sym e) (inr h))

        same : is_type t v ≡ true → t ≡ v
        same k = one_of_name types t v distinct (IsIn-from_Contains types t c) (IsIn-from_Contains types v there) k

        round : is_type t v ≡ true → Contains (above types t) v → ⊥
        round k a = acyclic t c (subst (λ x. Walk links types t x) (sym (same k)) (walk_from_led links types t v a))

        again : is_type t v ≡ true → IsAfter types t w ws → IsIn v (w ∷ ws) → Contains (above types t) v ⊎ (is_object v ≡ true) → ⊥
        again k n i (inl a) = round k a
        again k (linked q) i (inr o) = let f = (extends_class t w (find_in (extends t) types w q).1).0 in let g : is_object t ≡ is_object v = ap is_object (same k) in cc
        again k (added q p a n) (inl i) (inr o) = let b = is_type_back w t in let d : is_type t w ≡ is_type t v = ap (is_type t) i in cc
        again k (added q p a n) (inr i) (inr o) = subst (λ xs. IsIn v xs) n i

    once : (zs : List Placed) (t : Placed) → Contains types t → chain types t ≡ t ∷ zs → IsDistinct is_type (t ∷ zs)
    unfolding IsDistinct
    once [] t c e = (tt, tt)
    once (w ∷ ws) t c e =
        let r = chain_rest types acyclic (t ∷ []) ws t w c e in
        (all_from_in (λ v. is_type t v ≡ false) (w ∷ ws) (apart (w ∷ ws) t c e), once ws w r.1 r.0)

    pub chain_distinct : (t : Placed) → Contains types t → IsDistinct is_type (chain types t)
    chain_distinct t c = subst (IsDistinct is_type) (sym (rest_of t c)) (once (drop 1 (chain types t)) t c (rest_of t c))

    -- a class's chain ends with Object
    ends : (o : Placed) → object types ≡ Some o → (zs : List Placed) (t : Placed) → Contains types t → is_class t ≡ true → chain types t ≡ t ∷ zs → EndsWith types t o
    ends o p [] t c k e = record { nearer = []; whole = e ∙ ap (λ x. x ∷ []) (at (superclass types t) refl (ap (drop 1) (sym (chain_goes_on types acyclic t c) ∙ e))) }
      where
        of_test : (b d : Bool) → b ≡ true → is_type o t ≡ d → cond (b && not d) (o ∷ []) [] ≡ [] → t ≡ o
        of_test true true q g h = sym (one_of_name types o t distinct (object_says types o p).0 (IsIn-from_Contains types t c) g)
        of_test true false q g h = absurd (cc)
        of_test false d q g h = absurd (cc)

        at : (s : Option Placed) → superclass types t ≡ s → chain_above types t s ≡ [] → t ≡ o
        at None q g = of_test (is_class t) (is_type o t) k refl (sym (ap (λ ob. filter (λ v. is_class t && not (is_type v t)) (option_to_list ob)) p) ∙ g)
        at (Some s) q g = absurd (let n = sym (chain_goes_on types acyclic s (Contains-from_IsIn types s (find_in (extends t) types s q).0)) ∙ g in cc)
    ends o p (w ∷ ws) t c k e =
        let r = chain_rest types acyclic (t ∷ []) ws t w c e in
        let n = ends o p ws w r.1 (later (w ∷ ws) t c e w (inl refl)).is_class' r.0 in
        record { nearer = t ∷ n.nearer; whole = e ∙ ap (λ xs. t ∷ xs) (sym r.0 ∙ n.whole) }

    pub chain_ends : (t o : Placed) → Contains types t → is_class t ≡ true → object types ≡ Some o → EndsWith types t o
    chain_ends t o c k p = ends o p (drop 1 (chain types t)) t c k (rest_of t c)

-- an interface stands alone
pub interface_chain : (types : List Placed) (t : Placed) → Contains types t → is_interface t ≡ true → chain types t ≡ t ∷ []
unfolding chain line
interface_chain types t c k = ap ends (alone (length types) (omega (arith, c.1))) ∙ ap (λ zs. t ∷ zs) (nothing (is_class t) (λ o. not (list_any (is_type o) (t ∷ []))) (object types) (ap not k))
  where
    ends : List Placed → List Placed
    ends own = own ++ filter (λ o. is_class t && not (list_any (is_type o) own)) (option_to_list (object types))

    none : (s : Option Placed) → superclass types t ≡ s → superclass types t ≡ None
    none None e = e
    none (Some s) e = absurd (let f = (extends_class t s (find_in (extends t) types s e).1).1 in cc)

    alone : (n : ℕ) → 0 < n → superclass_line n types (Some t) ≡ t ∷ []
    alone zero l = absurd (omega arith)
    alone (suc n) l = ap (λ o. t ∷ superclass_line n types o) (none (superclass types t) refl)

    nothing : (b : Bool) (f : Placed → Bool) (ob : Option Placed) → b ≡ false → filter (λ o. b && f o) (option_to_list ob) ≡ []
    nothing true f ob e = absurd (cc)
    nothing false f None e = refl
    nothing false f (Some o) e = refl
