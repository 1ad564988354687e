use Rattle.std.proofs.Common.{◌∷◌, ◌++◌, []}
use Rattle.std.proofs.lemmas.Result.{err_from_is_err_and}
use Rattle.fcg_grammar.proofs.RowLemmas.{rows_fail, rows_done}
use Rattle.fcg_class.specs.Bundle.{entry_at}
use Rattle.fcg_class.specs.Internal.Entries.{entries_before}
use Rattle.fcg_class.proofs.EntryLemmas.{ArePaths-none, entries_begin, entries_go_on, views_more}
use Rattle.fcg_class.proofs.bundle.read_entries.Goals as goal

pub loop-entry-init : goal.loop-entry-init
loop-entry-init c = (([], ArePaths-none c.new-paths.result c.new-paths.ensures.empty, [], c.new-views.ensures, entries_begin c.args.bytes.now c.args.count c.args.at), c.requires)

pub loop-entry-preserved : goal.loop-entry-preserved
loop-entry-preserved c =
    let so_far = c.loop-entry.invariant.0 in
    let next = entries_go_on c.args.bytes.now c.args.count c.loop-entry.entry c.loop-entry.ahead so_far.0 so_far.2 c.in_ok-view.view c.in_ok-view.after c.read_entry.new.paths _ c.loop-entry-test.true (c.in_ok-view.ensures.value so_far.0 so_far.1) so_far.4 in
    let views = views_more so_far.2 c.in_ok-view.view c.loop-entry.views c.push_view.new.views so_far.3 c.in_ok-push_view.ensures in
    ((next.0, next.1, so_far.2 ++ c.in_ok-view.view ∷ [], views, next.2), c.in_ok-view.ensures.inside)

pub returns-in_err-view-clause-value : goal.returns-in_err-view-clause-value
returns-in_err-view-clause-value c =
    let p = err_from_is_err_and c.from_residual.result c.from_residual.ensures.1 in
    let so_far = c.loop-entry.invariant.0 in
    rw (p.1, p.2) (rows_fail (entry_at c.args.bytes.now) c.in_err-view.field-0.0 so_far.2 c.args.count c.loop-entry.entry (entries_before c.loop-entry.ahead so_far.0) _ c.loop-entry-test.true (c.in_err-view.ensures.value so_far.0 so_far.1) so_far.4)

pub returns-clause-value : goal.returns-clause-value
returns-clause-value c =
    let so_far = c.loop-entry.invariant.0 in
    let done = rows_done (entry_at c.args.bytes.now) so_far.2 c.args.count c.loop-entry.entry (entries_before c.loop-entry.ahead so_far.0) _ c.loop-entry-test.false so_far.4 in
    (so_far.2, so_far.0, c.loop-entry.ahead.room, so_far.3, done)
