use Rattle.std.proofs.Common.{ℕ, arith, length-append}
use Rattle.std.proofs.KnownBytes.{Consumes-trans}
use Rattle.fcg_bytes.proofs.Streams.{any_err}
use Rattle.fcg_bytes.proofs.source.read_all.Goals as goal

pub returns-in_err-extend_from_slice-clause-err : goal.returns-in_err-extend_from_slice-clause-err
returns-in_err-extend_from_slice-clause-err g c =
    any_err _ c.from_residual-in_err-extend_from_slice.result
    (_, Consumes-trans _ _ _ _ _ c.loop-buf.invariant.0 c.in_ok-count.ensures.bytes.0, omega (arith, length-append {A = ℕ}, c.in_ok-count.ensures.bound))
