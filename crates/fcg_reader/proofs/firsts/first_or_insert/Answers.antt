use Rattle.std.proofs.Common.{◌≡◌, length, arith}
use Rattle.std.specs.BTreeMap.Entry.{map_with_value}
use Rattle.fcg_reader.proofs.firsts.first_or_insert.Goals as goal

pub returns-clause-adds : goal.returns-clause-adds
returns-clause-adds c t =
    let first = c.or_insert-first.result.now in
    let written : c.known-3-1.given.0 ≡ map_with_value c.in_ok-known.field-0 first = grind arith in
    rw written ((c.in_ok-known.ensures.update.0 first).0 (length t, record { ref_ptr = (0, 0); now = t }))
