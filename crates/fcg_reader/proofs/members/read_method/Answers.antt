use Rattle.std.proofs.Common.{◌≡◌, ◌∷◌, [], ◌++◌, sym, ap, ◌∙◌}
use Rattle.std.proofs.lemmas.Result.{err_from_is_err_and}
use Rattle.fcg_classfile.specs.Breaks.Members.{Unfinished, unfinished}
use Rattle.fcg_reader.specs.Internal.Members.{declared_of, code_of, code_before}
use Rattle.fcg_reader.proofs.MethodLemmas.{method_at-doubled, method_at-broken, method_at-read}
use Rattle.fcg_reader.proofs.members.read_method.Goals as goal

pub returns-then-doubled-clause-value : goal.returns-then-doubled-clause-value
returns-then-doubled-clause-value c =
    let d = declared_of c.in_ok-declared.declared in
    let declared = rw c.requires.pool at (sym c.in_ok-declared.ensures.value) in
    rw c.fault_at.ensures (λ k. method_at-doubled c.args.table.now.pool k c.args.at c.args.table.now.methods d declared (sym c.in_ok-doubled.ensures.value ∙ c.if-doubled.true))

pub returns-in_err-after-clause-value : goal.returns-in_err-after-clause-value
returns-in_err-after-clause-value c =
    let d = declared_of c.in_ok-declared.declared in
    let declared = rw c.requires.pool at (sym c.in_ok-declared.ensures.value) in
    let given = rw (c.in_ok-declared.ensures.same, c.requires.pool, c.site_count.ensures.value, c.in_ok-doubled.ensures.same) at c.in_err-after.ensures.value in
    let p = err_from_is_err_and c.from_residual-in_err-after.result c.from_residual-in_err-after.ensures.1 in
    λ k. rw (p.1, p.2) (method_at-broken c.args.table.now.pool k c.args.at c.args.table.now.methods d c.in_err-after.field-0.0 declared (sym c.in_ok-doubled.ensures.value ∙ c.if-doubled.false) given)

pub returns-clause-value : goal.returns-clause-value
returns-clause-value c =
    let d = declared_of c.in_ok-declared.declared in
    let declared = rw c.requires.pool at (sym c.in_ok-declared.ensures.value) in
    let given = rw (c.in_ok-declared.ensures.same, c.requires.pool, c.site_count.ensures.value, c.in_ok-doubled.ensures.same) at c.in_ok-after.ensures.value in
    let pool = c.args.table.now.pool in
    let m = unfinished d (code_of pool c.in_ok-after.code) in
    let named = rw c.requires.pool at c.in_ok-declared.ensures.named in
    let pushed : c.push.new.self.methods ≡ c.args.table.now.methods ++ m ∷ [] =
    (rw c.in_ok-doubled.ensures.same at c.in_ok-push.ensures.ok) ∙ ap (λ (x : Unfinished). c.args.table.now.methods ++ x ∷ []) (c.make_method-method.ensures.value pool named) in
    λ k. (m, pushed, rw pushed (method_at-read c.args.table.now.pool k c.args.at c.args.table.now.methods d (code_before pool c.in_ok-after.after c.in_ok-after.code) declared (sym c.in_ok-doubled.ensures.value ∙ c.if-doubled.false) given))
