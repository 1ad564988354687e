use Rattle.fcg_make.proofs.StepLemmas.{splits}
use Rattle.fcg_make.proofs.step.split_step.Goals as goal

pub returns : goal.returns
returns c = splits c.args.sites.now c.in-Some.others.now c.split_at.result.0.now c.split_at.result.1.now c.in-Some.first.now c.count_joined-count.result c.in-Some.ensures.cases.0 c.count_joined-count.ensures.value c.split_at.ensures.front c.split_at.ensures.back
