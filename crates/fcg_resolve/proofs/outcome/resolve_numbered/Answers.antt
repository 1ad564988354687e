use Rattle.fcg_join.proofs.FoundNumbers.{one_name}
use Rattle.fcg_resolve.proofs.outcome.resolve_numbered.Goals as goal

pub returns-clause-outcome : goal.returns-clause-outcome
returns-clause-outcome g c = λ r h. (
    let n = one_name _ _ _ r.owner c.name-name.ensures h.owner in
    c.resolve_by.ensures.value r n h.kind (c.type_named-owner.ensures.value _ c.name-name.ensures) (c.signature_of_names-s.ensures.value _ _ h.name h.desc))
