use Rattle.std.proofs.Common.{◌+◌, ℕ, length, refl, sym, ap, ◌∙◌}
use Rattle.std.specs.Prelude.{Ok, Err}
use Rattle.std.proofs.lemmas.Result.{err_from_is_err_and}
use Rattle.fcg_reader.specs.Internal.Rows.{sites_in}
use Rattle.fcg_reader.specs.Internal.Handles.{BootstrapsIn, bootstraps}
use Rattle.fcg_reader.proofs.HandleLemmas.{row_known, row_missing, row_everywhere, call_missing, call_fails, call_known, kept_more}
use Rattle.fcg_reader.proofs.handles.Bootstraps.push_call.Goals as goal

pub returns-in_default-clause-value : goal.returns-in_default-clause-value
returns-in_default-clause-value c =
    let place = ap (λ (n : ℕ). c.args.begin + n) c.from.ensures in
    let none = row_missing c.self.inside.pool.now c.self.inside.rows.items c.deref.result.now c.args.self.now c.args.call.bootstrap c.from-2.result c.self.view_is c.deref.ensures.value c.from-2.ensures c.in_default.ensures.lookup.0 in
    rw c.fault_at.ensures (call_missing c.args.self.now.pool c.args.self.now.rows c.args.begin c.args.call (c.args.begin + c.from.result) (c.args.count + length c.args.sites.now.items) place none)

pub returns-in-Some-find_kept-clause-value : goal.returns-in-Some-find_kept-clause-value
returns-in-Some-find_kept-clause-value c =
    let place = ap (λ (n : ℕ). c.args.begin + n) c.from.ensures in
    let got = c.in-Some.ensures.lookup in
    let row = row_known c.self.inside.pool.now c.self.inside.rows.items c.deref.result.now c.args.self.now c.args.call.bootstrap c.from-2.result c.self.view_is c.deref.ensures.value c.from-2.ensures c.in-Some.row.now got.0 got.1 in
    let found = rw c.deref-2.ensures.value at c.in-Some-find_kept.ensures in
    let inside = row_known c.self.inside.pool.now c.self.inside.rows.items c.deref.result.now (bootstraps c.self.inside.pool.now c.self.inside.rows.items) c.args.call.bootstrap c.from-2.result refl c.deref.ensures.value c.from-2.ensures c.in-Some.row.now got.0 got.1 in
    let known = c.self.invariant c.args.call.bootstrap c.in-Some.row.now c.in-Some-find_kept.found.now inside (sym found) in
    call_known c.args.self.now.pool c.args.self.now.rows c.args.begin c.args.call c.in-Some.row.now (c.args.begin + c.from.result) place row (sites_in c.args.self.now.pool c.as_slice.result.now) c.push_moved.result c.args.count c.args.sites.now.items c.push_moved.new.sites.items
    (rw (← c.self.view_is, c.as_slice.ensures) known) (c.push_moved.ensures.value c.args.self.now.pool)

pub returns-in_err-found-clause-value : goal.returns-in_err-found-clause-value
returns-in_err-found-clause-value c =
    let p = err_from_is_err_and c.from_residual.result c.from_residual.ensures.1 in
    let place = ap (λ (n : ℕ). c.args.begin + n) c.from.ensures in
    let got = c.in-Some.ensures.lookup in
    let row = row_known c.self.inside.pool.now c.self.inside.rows.items c.deref.result.now c.args.self.now c.args.call.bootstrap c.from-2.result c.self.view_is c.deref.ensures.value c.from-2.ensures c.in-Some.row.now got.0 got.1 in
    let given = rw (c.requires.pool, c.len.ensures, c.args.sites.now.ok.0) at c.in_err-found.ensures.value in
    rw (p.1, p.2) (call_fails c.args.self.now.pool c.args.self.now.rows c.args.begin c.args.call c.in-Some.row.now (c.args.begin + c.from.result) place row c.in_err-found.field-0.0 (c.args.count + length c.args.sites.now.items) given)

pub returns-in_err-push_moved-clause-value : goal.returns-in_err-push_moved-clause-value
returns-in_err-push_moved-clause-value c =
    let p = err_from_is_err_and c.from_residual-in_err-push_moved.result c.from_residual-in_err-push_moved.ensures.1 in
    let place = ap (λ (n : ℕ). c.args.begin + n) c.from.ensures in
    let got = c.in-Some.ensures.lookup in
    let row = row_known c.self.inside.pool.now c.self.inside.rows.items c.deref.result.now c.args.self.now c.args.call.bootstrap c.from-2.result c.self.view_is c.deref.ensures.value c.from-2.ensures c.in-Some.row.now got.0 got.1 in
    let given = rw (c.requires.pool, c.len.ensures, c.args.sites.now.ok.0) at c.in_ok-found.ensures.value in
    let known = row_everywhere c.args.self.now.pool (c.args.begin + c.from.result) c.args.call.pc (c.args.count + length c.args.sites.now.items) _ c.in-Some.row.now (sites_in c.args.self.now.pool c.in_ok-found.found.items) given in
    rw (p.1, p.2) (call_known c.args.self.now.pool c.args.self.now.rows c.args.begin c.args.call c.in-Some.row.now (c.args.begin + c.from.result) place row (sites_in c.args.self.now.pool c.deref-3.result.now) (Err c.in_err-push_moved.field-0.0) c.args.count c.args.sites.now.items c.push_moved-2.new.sites.items
    (rw c.deref-3.ensures.value known) (c.in_err-push_moved.ensures.value c.args.self.now.pool))

pub returns-clause-value : goal.returns-clause-value
returns-clause-value c =
    let place = ap (λ (n : ℕ). c.args.begin + n) c.from.ensures in
    let got = c.in-Some.ensures.lookup in
    let row = row_known c.self.inside.pool.now c.self.inside.rows.items c.deref.result.now c.args.self.now c.args.call.bootstrap c.from-2.result c.self.view_is c.deref.ensures.value c.from-2.ensures c.in-Some.row.now got.0 got.1 in
    let given = rw (c.requires.pool, c.len.ensures, c.args.sites.now.ok.0) at c.in_ok-found.ensures.value in
    let known = row_everywhere c.args.self.now.pool (c.args.begin + c.from.result) c.args.call.pc (c.args.count + length c.args.sites.now.items) _ c.in-Some.row.now (sites_in c.args.self.now.pool c.in_ok-found.found.items) given in
    call_known c.args.self.now.pool c.args.self.now.rows c.args.begin c.args.call c.in-Some.row.now (c.args.begin + c.from.result) place row (sites_in c.args.self.now.pool c.deref-3.result.now) (Ok tt) c.args.count c.args.sites.now.items c.push_moved-2.new.sites.items
    (rw c.deref-3.ensures.value known) (c.in_ok-push_moved.ensures.value c.args.self.now.pool)

pub invariant_of-self : goal.invariant_of-self
invariant_of-self c =
    let got = c.in-Some.ensures.lookup in
    let row = row_known c.self.inside.pool.now c.self.inside.rows.items c.deref.result.now (bootstraps c.self.inside.pool.now c.self.inside.rows.items) c.args.call.bootstrap c.from-2.result refl c.deref.ensures.value c.from-2.ensures c.in-Some.row.now got.0 got.1 in
    let pool = c.requires.pool ∙ ap (λ (v : BootstrapsIn). v.pool) (sym c.self.view_is) in
    let given = rw (pool, c.len.ensures, c.args.sites.now.ok.0) at c.in_ok-found.ensures.value in
    let known = row_everywhere c.self.inside.pool.now (c.args.begin + c.from.result) c.args.call.pc (c.args.count + length c.args.sites.now.items) _ c.in-Some.row.now (sites_in c.self.inside.pool.now c.in_ok-found.found.items) given in
    kept_more c.self.inside.pool.now c.self.inside.rows.items c.self.inside.kept.items c.keep.new.kept.items c.args.call.bootstrap c.from-3.result c.in-Some.row.now row (rw c.from-3.ensures known) c.keep.ensures c.self.invariant
