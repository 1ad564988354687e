use Rattle.std.proofs.Common.{rules}
use Rattle.fcg_partial.proofs.marks.read_index.Goals as goal

pub bounds-used-number : goal.bounds-used-number
bounds-used-number c = search rules
