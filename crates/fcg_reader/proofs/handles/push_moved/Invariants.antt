use Rattle.std.proofs.Common.{◌≡◌, ◌≤◌, ◌+◌, ◌++◌, List, length, drop}
use Rattle.fcg_grammar.proofs.RowLemmas.{with_front}
use Rattle.fcg_classfile.specs.Breaks.Pool.{Entries}
use Rattle.fcg_reader.specs.declared.rows.SiteRow.{SiteRow}
use Rattle.fcg_reader.specs.Internal.Rows.{sites_in}
use Rattle.fcg_reader.specs.Internal.Handles.{all_moved_at}
use Rattle.fcg_reader.proofs.handles.push_moved.Given as goal

abbrev pub invariant-loop-site : goal.invariant-loop-site
invariant-loop-site l =
    ((front : List SiteRow) × (l.sites.items ≡ l.fn.sites.items ++ front)
    × ((pool : Entries) → with_front (sites_in pool front) (all_moved_at l.at l.pc (sites_in pool (drop l.site-index l.found)) (l.count + length l.sites.items)) ≡ all_moved_at l.at l.pc (sites_in pool l.found) (l.count + length l.fn.sites.items)))
    × (l.count + length l.sites.items ≤ 1000000)
