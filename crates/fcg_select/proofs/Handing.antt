-- Walking along a chain for what hands a method on.
use Rattle.std.proofs.Common.{◌≡◌, List, refl, sym, ap, subst, ◌∙◌}
use Rattle.std.specs.Prelude.{Bool, true, false, cond, ◌||◌, Option, Some, None, slice_get}
use Rattle.fcg_partial.specs.Parts.{PartShown}
use Rattle.fcg_analysis.specs.Declarations.{Placed}
use Rattle.fcg_analysis.specs.Laws.ChainParts.{next_in_chain, chain_of}
use Rattle.fcg_analysis.specs.Laws.HandedOn.{has_before}
use Rattle.fcg_join.specs.declared.id.TypeId.{TypeId}
use Rattle.fcg_join.specs.Parts.{types_of}
use Rattle.fcg_join.specs.Joined.{HasType, GivesType}
use Rattle.fcg_join.proofs.FoundNumbers.{type_there}
use Rattle.fcg_join.proofs.ChainWalks.{type_of, gives_there, walked}

module _ (parts : List PartShown) (stops has : Placed → Bool) where
  -- a walk along the chain of o has come to a type, or past the end; met says whether a type before has it
  pub record Meets (o : Option Placed) (met : Bool) (at : Option TypeId) : Type 0 where
    pub here : GivesType parts at (type_of parts at)
    pub same : has_before stops has false (chain_of (types_of parts) o) ≡ has_before stops has met (chain_of (types_of parts) (type_of parts at))

  pub begins : (start : Option TypeId) (o : Option Placed) → GivesType parts start o → Meets o false start
  begins start o g =
      let e = gives_there parts start o g in
      record {
        here = subst (λ p. GivesType parts start p) (sym e) g;
        same = ap (λ p. has_before stops has false (chain_of (types_of parts) p)) (sym e);
      }

  -- what is met at the type at which it is, and from the next on
  opened : (o : Option Placed) (met : Bool) (at : Option TypeId) (t : TypeId) → at ≡ Some t → Meets o met at
      → (y : Placed) × HasType parts t y
      × (has_before stops has false (chain_of (types_of parts) o) ≡ cond (stops y) met (has_before stops has (met || has y) (chain_of (types_of parts) (next_in_chain (types_of parts) y))))
  opened o met at t e w =
      let v = subst (λ p. Meets o met p) e w in
      let r = type_there parts t (slice_get (types_of parts) t.0) v.here in
      (r.0, r.2, v.same ∙ ap (λ p. has_before stops has met (chain_of (types_of parts) p)) r.2 ∙ ap (has_before stops has met) (walked parts r.0 t r.2))

  pub stopped : (o : Option Placed) (met : Bool) (at : Option TypeId) (t : TypeId) → at ≡ Some t → Meets o met at
      → ((y : Placed) → HasType parts t y → stops y ≡ true) → met ≡ has_before stops has false (chain_of (types_of parts) o)
  stopped o met at t e w s =
      let r = opened o met at t e w in
      sym (r.2 ∙ ap (λ b. cond b met (has_before stops has (met || has r.0) (chain_of (types_of parts) (next_in_chain (types_of parts) r.0)))) (s r.0 r.1))

  pub goes_on : (o : Option Placed) (met : Bool) (at : Option TypeId) (t : TypeId) (next : Option TypeId) (now : Bool) → at ≡ Some t → Meets o met at
      → ((y : Placed) → HasType parts t y → stops y ≡ false) → ((y : Placed) → HasType parts t y → now ≡ (met || has y))
      → ((y : Placed) → HasType parts t y → GivesType parts next (next_in_chain (types_of parts) y)) → Meets o now next
  goes_on o met at t next now e w s n g =
      let r = opened o met at t e w in
      let k = gives_there parts next (next_in_chain (types_of parts) r.0) (g r.0 r.1) in
      record {
        here = subst (λ p. GivesType parts next p) (sym k) (g r.0 r.1);
        same =
            r.2
            ∙ ap (λ b. cond b met (has_before stops has (met || has r.0) (chain_of (types_of parts) (next_in_chain (types_of parts) r.0)))) (s r.0 r.1)
            ∙ ap (λ b. has_before stops has b (chain_of (types_of parts) (next_in_chain (types_of parts) r.0))) (sym (n r.0 r.1))
            ∙ ap (λ p. has_before stops has now (chain_of (types_of parts) p)) (sym k);
      }

  pub ended : (o : Option Placed) (met : Bool) → Meets o met None → false ≡ has_before stops has false (chain_of (types_of parts) o)
  ended o met w = sym w.same

-- ---- what is met on the way

or_true : (b : Bool) → true ≡ (b || true)
or_true true = refl
or_true false = refl

or_false : (b : Bool) → b ≡ (b || false)
or_false true = refl
or_false false = refl

pub met_here : (now met r has : Bool) → now ≡ true → r ≡ true → r ≡ has → now ≡ (met || has)
met_here now met r has e f g = e ∙ or_true met ∙ ap (λ v. met || v) (sym f ∙ g)

pub met_before : (now met r has : Bool) → now ≡ met → r ≡ false → r ≡ has → now ≡ (met || has)
met_before now met r has e f g = e ∙ or_false met ∙ ap (λ v. met || v) (sym f ∙ g)
