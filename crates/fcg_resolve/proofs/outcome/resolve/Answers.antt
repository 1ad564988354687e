use Rattle.std.proofs.Common.{refl}
use Rattle.fcg_join.proofs.FoundNumbers.{signature_named}
use Rattle.fcg_resolve.proofs.outcome.resolve.Goals as goal

pub returns-clause-outcome : goal.returns-clause-outcome
returns-clause-outcome g c =
    let s = signature_named _ _ _ _ c.args.reference.now c.as_slice.ensures c.as_slice-2.ensures c.signature-s.ensures.value in
    c.resolve_by.ensures.value c.args.reference.now c.as_slice-name.ensures refl c.find-owner.ensures.value s
