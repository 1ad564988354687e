use Rattle.std.proofs.Common.{subst, arith}
use Rattle.fcg_grammar.specs.Reading.{Gives}
use Rattle.fcg_class.proofs.BundleLaws.{is_found, is_valid, content_only}
use Rattle.fcg_class.proofs.FitLaws.{is_fitting}
use Rattle.fcg_class.proofs.bundle.read_bundle.Goals as goal

pub returns-clause-found : goal.returns-clause-found
returns-clause-found c = is_found c.args.bytes.now c.read_whole.result (λ i. omega (arith, c.type_inv.bytes i)) c.read_whole.ensures.exact

pub returns-clause-only : goal.returns-clause-only
returns-clause-only c = λ views content. subst (λ f. Gives (λ v. v) c.read_whole.result f) (content_only c.args.bytes.now views (λ i. omega (arith, c.type_inv.bytes i)) content) c.read_whole.ensures.exact

pub returns-clause-valid : goal.returns-clause-valid
returns-clause-valid c = is_valid c.args.bytes.now c.read_whole.result (λ i. omega (arith, c.type_inv.bytes i)) c.read_whole.ensures.exact

pub returns-clause-fits : goal.returns-clause-fits
returns-clause-fits c = λ short. is_fitting c.args.bytes.now c.read_whole.result (λ i. omega (arith, c.type_inv.bytes i)) c.read_whole.ensures.exact short
