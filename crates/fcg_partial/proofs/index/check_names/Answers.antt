use Rattle.std.proofs.Common.{◌≡◌, ◌<◌, ℕ, length, get_or, sym, ap, arith}
use Rattle.std.specs.Prelude.{map, Err}
use Rattle.fcg_partial.specs.declared.fault.RecordRule.TheVariants.{Unused}
use Rattle.fcg_partial.specs.Fault.{fault}
use Rattle.fcg_partial.specs.Internal.RowPlaces.{text_at}
use Rattle.fcg_partial.specs.Reading.{name_place}
use Rattle.fcg_partial.proofs.NameLoop.{follow_place}
use Rattle.fcg_partial.proofs.index.check_names.Goals as goal

pub bounds-names-n : goal.bounds-names-n
bounds-names-n c = let lt = c.in-Some.ensures.below in let long = c.requires.long in omega arith

pub returns-in-Some : goal.returns-in-Some
returns-in-Some c =
    let lt : c.in-Some.n < length c.args.names.now = (let lt = c.in-Some.ensures.below in let long = c.requires.long in omega arith) in
    let f = follow_place c.args.bytes.now 10 c.args.names.now c.requires.follow.0 c.in-Some.n 0 c.requires.follow.1 c.requires.texts lt in
    let here : get_or c.args.names.now c.in-Some.n 0 ≡ name_place (map (text_at c.args.bytes.now) c.args.names.now) c.in-Some.n = omega arith in
    rw (c.fault_at.ensures, sym c.in-Some.ensures.value) (ap (λ (n : ℕ). Err (fault n Unused)) here)
