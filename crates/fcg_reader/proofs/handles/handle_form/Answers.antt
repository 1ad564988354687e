use Rattle.std.proofs.Common.{rules}
use Rattle.fcg_reader.proofs.handles.handle_form.Goals as goal

pub returns : goal.returns
returns c = search rules
