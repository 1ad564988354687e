use Rattle.std.proofs.Common.{◌∙◌}
use Rattle.fcg_bytes.proofs.Streams.{Wrote-front, Wrote-more, any_err}
use Rattle.fcg_bytes.proofs.sink.write_whole.Goals as goal

pub returns-in_err-rest-clause-failed : goal.returns-in_err-rest-clause-failed
returns-in_err-rest-clause-failed g c = any_err _ c.from_residual.result (Wrote-front _ _ _ _ _ c.loop-rest.invariant.0 c.in_err-rest.ensures.err)

pub loop-rest-preserved : goal.loop-rest-preserved
loop-rest-preserved g c =
    (Wrote-more _ _ _ _ _ _ c.loop-rest.invariant.0 c.in_ok-rest.ensures.wrote, c.in_ok-rest.ensures.cause.kept ∙ c.loop-rest.invariant.1, c.in_ok-rest.ensures.aside ∙ c.loop-rest.invariant.2)
