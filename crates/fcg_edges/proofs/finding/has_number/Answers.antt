use Rattle.std.proofs.Common.{◌∙◌}
use Rattle.fcg_edges.proofs.RowSearch.{found_in_row}
use Rattle.fcg_edges.proofs.finding.has_number.Goals as goal

pub returns : goal.returns
returns c = c.is_ok.ensures.value ∙ found_in_row c.args.row.now c.args.number c.binary_search.result c.requires c.binary_search.ensures.position
