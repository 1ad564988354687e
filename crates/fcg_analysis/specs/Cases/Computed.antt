-- One name for all rules, by which a proof looks into them: worked cases compute them.
use Rattle.fcg_analysis.specs.Types.{winners, known, above, has_gap, line, chain, is_below}
use Rattle.fcg_analysis.specs.Nodes.{nodes, super_methods, specific, one_default, first_super_method}
use Rattle.fcg_analysis.specs.Resolution.{resolved}
use Rattle.fcg_analysis.specs.Selection.{between, can_override, selected}
use Rattle.fcg_analysis.specs.Special.{special}
use Rattle.fcg_analysis.specs.Edges.{meets, edge, edges, status, statuses}
use Rattle.fcg_analysis.specs.Reach.{dist, next, rows}

unfoldable pub analysis : Unit {0}
unfolding winners known above has_gap line chain is_below nodes super_methods specific one_default first_super_method resolved between can_override selected special meets edge edges status statuses dist next rows
analysis = tt
