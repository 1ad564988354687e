use Rattle.std.proofs.Common.{◌≡◌, ◌+◌, length}
use Rattle.fcg_views.specs.Escape.{unescaped}
use Rattle.fcg_views.proofs.EscapeLaws.{all_followed}
use Rattle.fcg_views.proofs.unescaping.unescape.Given as goal

abbrev pub invariant-loop-rest : goal.invariant-loop-rest
invariant-loop-rest l = (all_followed l.bytes.items (unescaped l.place l.here l.rest) ≡ unescaped l.place l.at l.text) × (l.here + length l.rest ≡ l.at + length l.text)

abbrev pub decreases-loop-rest : goal.decreases-loop-rest
decreases-loop-rest l = length l.rest
