use Rattle.std.proofs.Common.{sym, ◌∙◌}
use Rattle.std.proofs.lemmas.Bool.{eqb-true, eqb-false}
use Rattle.fcg_select.proofs.Handing.{stopped, goes_on, met_here, met_before}
use Rattle.fcg_select.proofs.OverLaws.{at_home, away}
use Rattle.fcg_join.proofs.ChainWalks.{less}
use Rattle.fcg_select.proofs.overriding.is_handed_on.Goals as goal
use Rattle.fcg_select.proofs.overriding.is_handed_on.Goals.{then-hands_on, else-hands_on}

pub returns-then-eq : goal.returns-then-eq
returns-then-eq c = λ a h o k.
    stopped _ _ _ o _ _ _ c.in-Some.is (c.loop-at.invariant.walks a h o k)
    (λ y i. at_home _ _ _ y a.owner i (c.owner-home.ensures.value a h) (eqb-true _ _ (sym c.eq.ensures ∙ c.if-eq.true)))

pub loop-at-smaller : goal.loop-at-smaller
loop-at-smaller c = less _ _ _ _ c.in-Some.is c.loop-at.invariant.known c.chain_next-at.ensures.value

pub loop-at-preserved : goal.loop-at-preserved
loop-at-preserved c =
    record {
      known = c.chain_next-at.ensures.range;
      walks = λ a h o k.
          goes_on _ _ _ o _ _ _ _ _ c.in-Some.is (c.loop-at.invariant.walks a h o k)
          (λ y i. away _ _ _ y a.owner i (c.owner-home.ensures.value a h) (eqb-false _ _ (sym c.eq.ensures ∙ c.if-eq.false)))
          (λ y i. elim c.if-hands_on.branch [
            | then-hands_on w ↦ met_here _ _ _ _ w.met-is w.if-hands_on.true (c.hands_on.ensures a h (c.method_signature-s.ensures.value a h) y i)
            | else-hands_on w ↦ met_before _ _ _ _ w.met-is w.if-hands_on.false (c.hands_on.ensures a h (c.method_signature-s.ensures.value a h) y i)
          ])
          c.chain_next-at.ensures.value;
    }
