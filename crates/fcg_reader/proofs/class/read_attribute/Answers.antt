use Rattle.std.proofs.Common.{codes, refl, sym, ◌∙◌}
use Rattle.std.specs.Prelude.{Some}
use Rattle.std.proofs.lemmas.Result.{err_from_is_err_and}
use Rattle.fcg_classfile.specs.declared.fault.ClassRule.TheVariants.{Bootstrap}
use Rattle.fcg_classfile.specs.Breaks.Bootstrap.{rows_at}
use Rattle.fcg_reader.proofs.AttributeLemmas.{one_broken, one_passed, one_fails, one_read}
use Rattle.fcg_reader.proofs.ClassLemmas.{some_said}
use Rattle.fcg_reader.proofs.class.read_attribute.Goals as goal

pub returns-in_err-named-clause-value : goal.returns-in_err-named-clause-value
returns-in_err-named-clause-value c = λ k read said.
    let again = c.is_some-again.ensures ∙ some_said read c.args.found said in
    let header = rw (c.bytes-bytes.ensures, c.as_slice.ensures, again) at (sym c.in_err-named.ensures.value) in
    let p = err_from_is_err_and c.from_residual.result c.from_residual.ensures.1 in
    rw (p.1, p.2) (one_broken (codes "BootstrapMethods") Bootstrap rows_at c.args.pool.now k c.args.at read c.in_err-named.field-0.0 header)

pub returns-then-not-named-clause-value : goal.returns-then-not-named-clause-value
returns-then-not-named-clause-value c = λ k read said.
    let again = c.is_some-again.ensures ∙ some_said read c.args.found said in
    let header = rw (c.bytes-bytes.ensures, c.as_slice.ensures, again, c.if-not-named.true) at (sym c.in_ok-named.ensures.value) in
    (read, said, one_passed (codes "BootstrapMethods") Bootstrap rows_at c.args.pool.now k c.args.at read c.in_ok-named.after header)

pub returns-in_err-rows-clause-value : goal.returns-in_err-rows-clause-value
returns-in_err-rows-clause-value c = λ k read said.
    let again = c.is_some-again.ensures ∙ some_said read c.args.found said in
    let header = rw (c.bytes-bytes.ensures, c.as_slice.ensures, again, c.if-not-named.false) at (sym c.in_ok-named.ensures.value) in
    let p = err_from_is_err_and c.from_residual-in_err-rows.result c.from_residual-in_err-rows.ensures.1 in
    let fails = rw c.bytes-bytes.ensures at (c.in_err-rows.ensures c.args.pool.now) in
    rw (p.1, p.2) (one_fails (codes "BootstrapMethods") Bootstrap rows_at c.args.pool.now k c.args.at read c.in_ok-named.after c.in_err-rows.field-0.0 header fails)

pub returns-clause-value : goal.returns-clause-value
returns-clause-value c = λ k read said.
    let again = c.is_some-again.ensures ∙ some_said read c.args.found said in
    let header = rw (c.bytes-bytes.ensures, c.as_slice.ensures, again, c.if-not-named.false) at (sym c.in_ok-named.ensures.value) in
    let says = rw c.bytes-bytes.ensures at (c.in_ok-rows.ensures c.args.pool.now) in
    (Some (c.args.at, c.in_ok-rows.rows.items), refl, one_read (codes "BootstrapMethods") Bootstrap rows_at c.args.pool.now k c.args.at read c.in_ok-named.after c.in_ok-rows.rows.items header says)
