use Rattle.fcg_analysis.specs.Edges.{is_phantom_status, is_failed_status}
use Rattle.fcg_analysis.proofs.CountLaws.{count_of_sites, count_of, no_more}
use Rattle.fcg_analysis.proofs.edge_laws.counts_are_sums.Goals as goal

pub returns-clause-sites : goal.returns-clause-sites
returns-clause-sites c = count_of_sites

pub returns-clause-phantom_sites : goal.returns-clause-phantom_sites
returns-clause-phantom_sites c = λ types. count_of types is_phantom_status

pub returns-clause-of_failure : goal.returns-clause-of_failure
returns-clause-of_failure c = λ types. count_of types is_failed_status

pub returns-clause-no_more : goal.returns-clause-no_more
returns-clause-no_more c = no_more
