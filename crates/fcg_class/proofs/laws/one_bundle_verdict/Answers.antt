use Rattle.fcg_class.proofs.BundleLaws.{bundle_verdict}
use Rattle.fcg_class.proofs.laws.one_bundle_verdict.Goals as goal

pub returns : goal.returns
returns c = λ bytes fits. bundle_verdict bytes fits
