use Rattle.fcg_views.proofs.UriLaws.{uri_verdict, read_back, printed_back}
use Rattle.fcg_views.proofs.laws.one_uri_verdict.Goals as goal

pub returns-clause-verdict : goal.returns-clause-verdict
returns-clause-verdict c = λ text. uri_verdict text

pub returns-clause-read : goal.returns-clause-read
returns-clause-read c = λ u is method. read_back u is method

pub returns-clause-printed : goal.returns-clause-printed
returns-clause-printed c = λ text u e. printed_back text u e
