use Rattle.std.proofs.Common.{◌≡◌, length, sym, ◌∙◌, arith}
use Rattle.std.proofs.lemmas.Bool.Decides.{nat_tests}
use Rattle.fcg_reader.proofs.HandleLemmas.{finished_none, finished_some}
use Rattle.fcg_reader.proofs.finish.finish_method.Goals as goal

pub returns-then-is_empty-clause-value : goal.returns-then-is_empty-clause-value
returns-then-is_empty-clause-value c =
    let empty = rw c.in_ok-handles.handles.ok.0 at (sym c.is_empty.ensures ∙ c.if-is_empty.true) in
    let none : length c.in_ok-handles.handles.items ≡ 0 = grind (arith, nat_tests, empty) in
    finished_none c.args.bootstraps.now.pool c.args.bootstraps.now.rows c.args.unfinished c.args.count c.in_ok-handles.handles.items c.in_ok-handles.ensures.value none

pub returns-clause-value : goal.returns-clause-value
returns-clause-value c =
    rw (c.len.ensures, c.in_ok-handles.handles.ok.0)
    (finished_some c.args.bootstraps.now.pool c.args.bootstraps.now.rows c.args.unfinished c.args.count c.in_ok-handles.handles.items c.in_ok-sites.sites c.in_ok-handles.ensures.value c.in_ok-sites.ensures)
