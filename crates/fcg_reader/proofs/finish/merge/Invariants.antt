use Rattle.std.proofs.Common.{◌≡◌, ◌++◌, length}
use Rattle.fcg_reader.specs.Internal.Handles.{merged_rows}
use Rattle.fcg_reader.proofs.finish.merge.Given as goal

abbrev pub invariant-loop-site : goal.invariant-loop-site
invariant-loop-site l = l.sites.items ++ merged_rows l.own.items l.handles.items ≡ merged_rows l.fn.own l.fn.handles.items

abbrev pub decreases-loop-site : goal.decreases-loop-site
decreases-loop-site l = length (merged_rows l.own.items l.handles.items)
