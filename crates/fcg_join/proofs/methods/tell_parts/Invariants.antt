use Rattle.std.proofs.Common.{ℕ, ◌<◌, get_or}
use Rattle.std.specs.Prelude.{All}
use Rattle.fcg_views.specs.Valid.{IsValid}
use Rattle.fcg_partial.specs.Parts.{PartShown}
use Rattle.fcg_join.proofs.methods.tell_parts.Given as goal

abbrev pub invariant-loop-i : goal.invariant-loop-i
invariant-loop-i l = (k : ℕ) (d : PartShown) → k < l.i → All IsValid (get_or l.parts k d).views
