use Rattle.fcg_bytes.proofs.FileLaws.{listed_where_there, listed_once}
use Rattle.fcg_bytes.proofs.files.listed_paths_are_files.Goals as goal

pub returns-clause-files : goal.returns-clause-files
returns-clause-files c = listed_where_there

pub returns-clause-once : goal.returns-clause-once
returns-clause-once c = listed_once
