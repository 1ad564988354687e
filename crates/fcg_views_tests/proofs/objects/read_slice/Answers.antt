use Rattle.std.proofs.Common.{ap}
use Rattle.fcg_bytes.proofs.Streams.{Consumes-to_end}
use Rattle.fcg_views_tests.proofs.objects.read_slice.Goals as goal

pub returns-clause-ok : goal.returns-clause-ok
returns-clause-ok c =
    Consumes-to_end _ _ _ c.read_all.result c.read_all.ensures.ok c.read_all.ensures.end (ap (λ r. r.now) c.new-source.ensures.reader)
