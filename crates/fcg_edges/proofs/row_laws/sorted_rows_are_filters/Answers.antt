use Rattle.fcg_edges.proofs.RowCounts.{sorted_is_filter}
use Rattle.fcg_edges.proofs.row_laws.sorted_rows_are_filters.Goals as goal

pub returns : goal.returns
returns c = sorted_is_filter
