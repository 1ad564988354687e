use Rattle.fcg_top.proofs.refusal.push_bad_bundle.Goals as goal

pub returns : goal.returns
returns c = rw (← c.name_of_bundle_rule-name.ensures) c.in_ok-write.ensures.bytes
