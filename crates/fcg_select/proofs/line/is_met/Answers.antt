use Rattle.std.proofs.Common.{sym, ◌∙◌}
use Rattle.std.proofs.lemmas.Bool.{eqb-true, eqb-false}
use Rattle.fcg_select.proofs.Lines.{met, not_met, less}
use Rattle.fcg_select.proofs.OverLaws.{at_home, away}
use Rattle.fcg_select.proofs.line.is_met.Goals as goal

pub returns-then-eq : goal.returns-then-eq
returns-then-eq c = λ u o h k.
    met _ _ o _ _ c.in-Some.is (c.loop-at.invariant.walks u o h k) (λ y i. at_home _ _ _ y u i h (eqb-true _ _ (sym c.eq.ensures ∙ c.if-eq.true)))

pub loop-at-smaller : goal.loop-at-smaller
loop-at-smaller c = less _ _ _ _ c.in-Some.is c.loop-at.invariant.known c.superclass-at.ensures.value

pub loop-at-preserved : goal.loop-at-preserved
loop-at-preserved c =
    record {
      known = c.superclass-at.ensures.range;
      walks = λ u o h k.
          not_met _ _ o _ _ _ c.in-Some.is (c.loop-at.invariant.walks u o h k) (λ y i. away _ _ _ y u i h (eqb-false _ _ (sym c.eq.ensures ∙ c.if-eq.false))) c.superclass-at.ensures.value;
    }
