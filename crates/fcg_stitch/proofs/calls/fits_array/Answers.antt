use Rattle.std.proofs.Common.{rules}
use Rattle.fcg_stitch.proofs.calls.fits_array.Goals as goal

pub returns-then-is_concrete : goal.returns-then-is_concrete
returns-then-is_concrete c = search rules
