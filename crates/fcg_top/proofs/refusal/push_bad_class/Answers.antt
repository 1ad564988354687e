use Rattle.fcg_top.proofs.refusal.push_bad_class.Goals as goal

pub returns : goal.returns
returns c = rw (← c.name_of_class_rule-name.ensures) c.in_ok-write.ensures.bytes
