use Rattle.std.proofs.Common.{List, length, All, ap, sym, subst, ◌∙◌, arith}
use Rattle.fcg_views.specs.declared.view.Method.{Method}
use Rattle.fcg_make.specs.declared.entry.Entry.{Entry}
use Rattle.fcg_make.specs.Steps.{Step}
use Rattle.fcg_make.specs.Needs.{rows_of}
use Rattle.fcg_make.specs.Internal.Small.{IsShortText}
use Rattle.fcg_make.specs.Unwritable.{is_placed}
use Rattle.fcg_make.proofs.LengthLemmas.{few_handles, short_rows}
use Rattle.fcg_make.proofs.WrittenLemmas.{IsSaid, full_rows, full_pool, pool_short, written_is}
use Rattle.fcg_make.proofs.class.write_placed.Goals as goal

pub returns-then-rows-gt-MOST_ROWS-clause-exact : goal.returns-then-rows-gt-MOST_ROWS-clause-exact
returns-then-rows-gt-MOST_ROWS-clause-exact c =
    let said : IsSaid c.args.view.now = record { valid = c.requires.valid; named = c.requires.named; typed = c.requires.typed; kind = c.requires.kind; placed = c.requires.placed } in
    full_rows c.args.view.now said (let n = ap (λ (rows : List Step). length rows) (c.as_slice-rows.ensures.value ∙ c.in_ok-collected.ensures ∙ ap (λ (ms : List Method). rows_of ms) c.as_slice.ensures) in omega (arith, n))

pub returns-then-as_slice-gt-MOST_ENTRIES-clause-exact : goal.returns-then-as_slice-gt-MOST_ENTRIES-clause-exact
returns-then-as_slice-gt-MOST_ENTRIES-clause-exact c =
    let said : IsSaid c.args.view.now = record { valid = c.requires.valid; named = c.requires.named; typed = c.requires.typed; kind = c.requires.kind; placed = c.requires.placed } in
    let r = c.in_ok-table.ensures in
    full_pool c.args.view.now said (let n = ap (λ (pool : List Entry). length pool) (c.as_slice-2.ensures ∙ r) in omega (arith, n))

pub write_file-requires-clause-few : goal.write_file-requires-clause-few
write_file-requires-clause-few c = let n = ap (λ (pool : List Entry). length pool) c.as_slice-2.ensures in omega (arith, n)

pub write_file-requires-clause-short : goal.write_file-requires-clause-short
write_file-requires-clause-short c =
    let said : IsSaid c.args.view.now = record { valid = c.requires.valid; named = c.requires.named; typed = c.requires.typed; kind = c.requires.kind; placed = c.requires.placed } in
    let r = c.in_ok-table.ensures in
    subst (λ (pool : List Entry). All IsShortText pool) (sym r) (pool_short c.args.view.now said (let n = ap (λ (rows : List Step). length rows) (c.as_slice-rows.ensures.value ∙ c.in_ok-collected.ensures ∙ ap (λ (ms : List Method). rows_of ms) c.as_slice.ensures) in omega (arith, n)))

pub write_file-requires-clause-placed : goal.write_file-requires-clause-placed
unfolding is_placed
write_file-requires-clause-placed c = c.requires.placed

pub write_file-requires-clause-handles : goal.write_file-requires-clause-handles
unfolding is_placed
write_file-requires-clause-handles c = few_handles c.args.view.now.methods c.requires.placed

pub write_file-requires-clause-short_rows : goal.write_file-requires-clause-short_rows
write_file-requires-clause-short_rows c = short_rows c.in_ok-table.table c.args.view.now c.requires.valid

pub returns-clause-exact : goal.returns-clause-exact
returns-clause-exact c =
    let said : IsSaid c.args.view.now = record { valid = c.requires.valid; named = c.requires.named; typed = c.requires.typed; kind = c.requires.kind; placed = c.requires.placed } in
    let r = c.in_ok-table.ensures in
    let o = c.in_ok-out.ensures.bytes in
    written_is c.args.view.now c.in_ok-table.table c.from.result said (let n = ap (λ (rows : List Step). length rows) (c.as_slice-rows.ensures.value ∙ c.in_ok-collected.ensures ∙ ap (λ (ms : List Method). rows_of ms) c.as_slice.ensures) in omega (arith, n)) (let n = ap (λ (pool : List Entry). length pool) c.as_slice-2.ensures in omega (arith, n)) r (c.from.ensures ∙ o)
