use Rattle.fcg_join.proofs.ChainWalks.{found, goes_on, less, ended}
use Rattle.fcg_resolve.proofs.found.find_in_chain.Goals as goal

pub returns-in-Some-declared_as-clause-value : goal.returns-in-Some-declared_as-clause-value
returns-in-Some-declared_as-clause-value c = λ x sig h g. found _ _ x _ _ _ c.in-Some.is (c.loop-at.invariant.walks x sig h g) (λ y k. c.in-Some-declared_as.ensures.value y sig k g)

pub loop-at-smaller : goal.loop-at-smaller
loop-at-smaller c = less _ _ _ _ c.in-Some.is c.loop-at.invariant.known c.chain_next-at.ensures.value

pub loop-at-preserved : goal.loop-at-preserved
loop-at-preserved c =
    record {
      known = c.chain_next-at.ensures.range;
      walks = λ x sig h g. goes_on _ _ x _ _ _ c.in-Some.is (c.loop-at.invariant.walks x sig h g) (λ y k. c.in-None.ensures.value y sig k g) c.chain_next-at.ensures.value;
    }

pub returns-clause-value : goal.returns-clause-value
returns-clause-value c = λ x sig h g. ended _ _ x _ c.in_default.is (c.loop-at.invariant.walks x sig h g)
