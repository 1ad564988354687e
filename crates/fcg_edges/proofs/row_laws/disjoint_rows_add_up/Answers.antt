use Rattle.fcg_edges.proofs.RowCounts.{counts_add}
use Rattle.fcg_edges.proofs.row_laws.disjoint_rows_add_up.Goals as goal

pub returns : goal.returns
returns c = counts_add
