use Rattle.fcg_analysis.proofs.TableLaws.{table_is_edges}
use Rattle.fcg_analysis.proofs.edge_laws.tables_have_the_edges.Goals as goal

pub returns : goal.returns
returns c = table_is_edges
