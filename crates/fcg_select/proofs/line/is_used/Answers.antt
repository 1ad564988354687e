use Rattle.std.proofs.Common.{sym, ◌∙◌}
use Rattle.fcg_select.proofs.Lines.{met, not_met, less}
use Rattle.fcg_select.proofs.line.is_used.Goals as goal

pub returns-then-uses_superclass : goal.returns-then-uses_superclass
returns-then-uses_superclass c = λ n o g k.
    met _ _ o _ _ c.in-Some.is (c.loop-at.invariant.walks n o g k) (λ y i. sym (c.uses_superclass.ensures y n i g) ∙ c.if-uses_superclass.true)

pub loop-at-smaller : goal.loop-at-smaller
loop-at-smaller c = less _ _ _ _ c.in-Some.is c.loop-at.invariant.known c.superclass-at.ensures.value

pub loop-at-preserved : goal.loop-at-preserved
loop-at-preserved c =
    record {
      known = c.superclass-at.ensures.range;
      walks = λ n o g k.
          not_met _ _ o _ _ _ c.in-Some.is (c.loop-at.invariant.walks n o g k) (λ y i. sym (c.uses_superclass.ensures y n i g) ∙ c.if-uses_superclass.false) c.superclass-at.ensures.value;
    }
