use Rattle.fcg_analysis.proofs.RowLaws.{row_nodes, row_is, next_has_row, dist_small}
use Rattle.fcg_analysis.proofs.edge_laws.rows_are_distances.Goals as goal

pub returns-clause-node_rows : goal.returns-clause-node_rows
returns-clause-node_rows c = row_nodes

pub returns-clause-row : goal.returns-clause-row
returns-clause-row c = row_is

pub returns-clause-next_row : goal.returns-clause-next_row
returns-clause-next_row c = next_has_row

pub returns-clause-small : goal.returns-clause-small
returns-clause-small c = dist_small
