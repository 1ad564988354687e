use Rattle.std.proofs.Common.{refl, sym, ◌∙◌, arith}
use Rattle.std.proofs.lemmas.Result.{err_from_is_err_and}
use Rattle.fcg_book.proofs.OpenLaws.{sequence_fails, record_fails, all_read, log_on, grows, all_taken, none_recorded}
use Rattle.fcg_book.proofs.opening.read_log.Goals as goal

pub returns-in_err-check_sequence-clause-reads : goal.returns-in_err-check_sequence-clause-reads
returns-in_err-check_sequence-clause-reads c =
    let p = err_from_is_err_and c.from_residual.result c.from_residual.ensures.1 in
    rw (p.1, p.2) (sequence_fails c.in_err-check_sequence.field-0.0 c.args.records.now (sym c.in_err-check_sequence.ensures.value))

pub loop-row-init : goal.loop-row-init
loop-row-init c = rw (c.new-register.ensures) (refl, refl, sym none_recorded, refl, omega arith)

pub returns-in_err-restore_next-clause-reads : goal.returns-in_err-restore_next-clause-reads
returns-in_err-restore_next-clause-reads c =
    let p = err_from_is_err_and c.from_residual-in_err-restore_next.result c.from_residual-in_err-restore_next.ensures.1 in
    rw (p.1, p.2) (record_fails c.args.records.now c.loop-row.row-index c.row-item.result c.loop-row.register.entries c.in_err-restore_next.field-0.0 c.loop-row-test.true c.row-item.is (sym c.in_ok-check_sequence.ensures.value) c.loop-row.invariant.1 c.in_err-restore_next.ensures.next)

pub loop-row-preserved : goal.loop-row-preserved
loop-row-preserved c =
    let rs = c.args.records.now in
    let i = c.loop-row.row-index in
    let log = c.loop-row.register.entries in
    let next = c.in_ok-restore_next.ensures.next in
    let numbered = sym c.in_ok-check_sequence.ensures.value in
    let grown = grows rs i c.row-item.result log next.0 c.loop-row-test.true c.row-item.is numbered next.3 c.loop-row.invariant.2 c.loop-row.invariant.3 next.4 in
    rw next.2 (
      c.in_ok-restore_next.ensures.fresh,
      c.loop-row.invariant.1 ∙ log_on rs i c.row-item.result c.loop-row-test.true c.row-item.is log next.0 next.1,
      grown.records,
      grown.count,
      grown.few,
    )

pub returns-clause-reads : goal.returns-clause-reads
returns-clause-reads c =
    let end = c.loop-row-test.false in
    let last = c.loop-row.auto.row-index-end in
    (all_read c.args.records.now c.loop-row.row-index c.loop-row.register.entries (omega (arith, end, last)) (sym c.in_ok-check_sequence.ensures.value) c.loop-row.invariant.1, c.loop-row.invariant.0)

pub returns-clause-back : goal.returns-clause-back
returns-clause-back c =
    let end = c.loop-row-test.false in
    let last = c.loop-row.auto.row-index-end in
    (sym (all_taken c.args.records.now c.loop-row.row-index (omega (arith, end, last))) ∙ c.loop-row.invariant.2, c.loop-row.invariant.4)
