use Rattle.std.proofs.Common.{◌≡◌, ℕ, codes, sym, subst}
use Rattle.std.specs.Prelude.{Some, Ok}
use Rattle.std.proofs.lemmas.Result.{err_from_is_err_and}
use Rattle.fcg_classfile.specs.declared.fault.ClassRule.TheVariants.{DoubleCode}
use Rattle.fcg_classfile.specs.Breaks.Code.{code_at}
use Rattle.fcg_classfile.specs.Breaks.Attributes.{one_at}
use Rattle.fcg_reader.specs.Internal.Calls.{found_in}
use Rattle.fcg_reader.specs.Internal.Members.{code_of, code_before}
use Rattle.fcg_reader.proofs.RowLemmas.{some_code}
use Rattle.fcg_reader.proofs.AttributeLemmas.{one_broken, one_passed, one_fails, one_read}
use Rattle.fcg_reader.proofs.members.read_attribute.Goals as goal

pub returns-in_err-named-clause-value : goal.returns-in_err-named-clause-value
returns-in_err-named-clause-value c =
    let header = rw (c.bytes-bytes.ensures, c.pool-pool.ensures, c.as_slice.ensures, c.is_some-again.ensures, ← some_code c.args.names.now c.args.code) at (sym c.in_err-named.ensures.value) in
    let p = err_from_is_err_and c.from_residual.result c.from_residual.ensures.1 in
    λ k. rw (p.1, p.2) (one_broken (codes "Code") DoubleCode (code_at c.args.count) c.args.names.now k c.args.at (code_of c.args.names.now c.args.code) c.in_err-named.field-0.0 header)

pub returns-then-not-named-clause-value : goal.returns-then-not-named-clause-value
returns-then-not-named-clause-value c =
    let header = rw (c.bytes-bytes.ensures, c.pool-pool.ensures, c.as_slice.ensures, c.is_some-again.ensures, ← some_code c.args.names.now c.args.code, c.if-not-named.true) at (sym c.in_ok-named.ensures.value) in
    λ k. one_passed (codes "Code") DoubleCode (code_at c.args.count) c.args.names.now k c.args.at (code_of c.args.names.now c.args.code) c.in_ok-named.after header

pub returns-in_err-code-clause-value : goal.returns-in_err-code-clause-value
returns-in_err-code-clause-value c =
    let header = rw (c.bytes-bytes.ensures, c.pool-pool.ensures, c.as_slice.ensures, c.is_some-again.ensures, ← some_code c.args.names.now c.args.code, c.if-not-named.false) at (sym c.in_ok-named.ensures.value) in
    let p = err_from_is_err_and c.from_residual-in_err-code.result c.from_residual-in_err-code.ensures.1 in
    λ k. rw (p.1, p.2) (one_fails (codes "Code") DoubleCode (code_at c.args.count) c.args.names.now k c.args.at (code_of c.args.names.now c.args.code) c.in_ok-named.after c.in_err-code.field-0.0 header (rw (c.bytes-bytes.ensures, c.pool-pool.ensures) at c.in_err-code.ensures.value))

pub returns-clause-value : goal.returns-clause-value
returns-clause-value c =
    let header = rw (c.bytes-bytes.ensures, c.pool-pool.ensures, c.as_slice.ensures, c.is_some-again.ensures, ← some_code c.args.names.now c.args.code, c.if-not-named.false) at (sym c.in_ok-named.ensures.value) in
    let says = rw (c.bytes-bytes.ensures, c.pool-pool.ensures) at c.in_ok-code.ensures.value in
    λ k.
    subst (λ (place : ℕ). one_at (codes "Code") DoubleCode (code_at c.args.count) c.args.names.now k (code_before c.args.names.now c.args.at c.args.code) ≡ Ok (tt, code_before c.args.names.now c.in_ok-named.after (Some (place, c.in_ok-code.code.1)))) (sym c.in_ok-code.ensures.place)
    (one_read (codes "Code") DoubleCode (code_at c.args.count) c.args.names.now k c.args.at (code_of c.args.names.now c.args.code) c.in_ok-named.after (found_in c.args.names.now c.in_ok-code.code.1) header says)
