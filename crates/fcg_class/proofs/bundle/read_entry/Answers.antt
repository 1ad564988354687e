use Rattle.std.proofs.Common.{◌≡◌, true, false, not, sym, ◌∙◌, ap}
use Rattle.std.specs.List.{list_any}
use Rattle.std.proofs.lemmas.Result.{err_from_is_err_and}
use Rattle.fcg_views.specs.Valid.{is_same}
use Rattle.fcg_class.proofs.EntryLemmas.{stands_before, ArePaths-push, entry_at-twice, entry_at-broken, entry_at-many, entry_at-read}
use Rattle.fcg_class.proofs.bundle.read_entry.Goals as goal

pub returns-then-not-branch-clause-value : goal.returns-then-not-branch-clause-value
returns-then-not-branch-clause-value c = λ before are.
    let known = stands_before c.args.paths.now before c.in_ok-path.path c.in_ok-insert.field-0 are c.in_ok-insert.ensures.added in
    let stands : true ≡ list_any (λ p. is_same p c.in_ok-path.path.now) before = ap not (sym c.if-not-branch.true) ∙ known in
    rw c.fault_at.ensures (entry_at-twice c.args.bytes.now c.args.entry c.args.ahead before c.in_ok-path.path.now c.in_ok-path.after (sym c.in_ok-path.ensures.value) stands)

pub returns-in_err-view-clause-value : goal.returns-in_err-view-clause-value
returns-in_err-view-clause-value c = λ before are.
    let known = stands_before c.args.paths.now before c.in_ok-path.path c.in_ok-insert.field-0 are c.in_ok-insert.ensures.added in
    let fresh : false ≡ list_any (λ p. is_same p c.in_ok-path.path.now) before = ap not (sym c.if-not-branch.false) ∙ known in
    let p = err_from_is_err_and c.from_residual-in_err-view.result c.from_residual-in_err-view.ensures.1 in
    rw (p.1, p.2) (entry_at-broken c.args.bytes.now c.args.entry c.args.ahead before c.in_ok-path.path.now c.in_ok-path.after (sym c.in_ok-path.ensures.value) fresh c.in_err-view.field-0.0 c.in_err-view.ensures.value)

pub returns-in-Some-clause-value : goal.returns-in-Some-clause-value
returns-in-Some-clause-value c = λ before are.
    let known = stands_before c.args.paths.now before c.in_ok-path.path c.in_ok-insert.field-0 are c.in_ok-insert.ensures.added in
    let fresh : false ≡ list_any (λ p. is_same p c.in_ok-path.path.now) before = ap not (sym c.if-not-branch.false) ∙ known in
    let set = ArePaths-push c.args.paths.now c.insert.new.self before c.in_ok-path.path are c.in_ok-insert.ensures.updates.0 in
    let left = sym c.room_after.ensures ∙ c.in-Some.is in
    rw c.show.ensures (c.in_ok-path.path.now, set, entry_at-read c.args.bytes.now c.args.entry c.args.ahead before c.in_ok-path.path.now c.in_ok-path.after (sym c.in_ok-path.ensures.value) fresh c.in_ok-view.view c.in_ok-view.at c.in-Some.room c.in_ok-view.ensures.value left)

pub returns-in-None-clause-value : goal.returns-in-None-clause-value
returns-in-None-clause-value c = λ before are.
    let known = stands_before c.args.paths.now before c.in_ok-path.path c.in_ok-insert.field-0 are c.in_ok-insert.ensures.added in
    let fresh : false ≡ list_any (λ p. is_same p c.in_ok-path.path.now) before = ap not (sym c.if-not-branch.false) ∙ known in
    let none = sym c.room_after.ensures ∙ c.in-None.is in
    rw c.fault_at-in-None.ensures (entry_at-many c.args.bytes.now c.args.entry c.args.ahead before c.in_ok-path.path.now c.in_ok-path.after (sym c.in_ok-path.ensures.value) fresh c.in_ok-view.view c.in_ok-view.at c.in_ok-view.ensures.value none)
