use Rattle.std.proofs.Common.{sym, ap, ◌∙◌}
use Rattle.std.specs.Prelude.{Ok}
use Rattle.std.proofs.lemmas.Result.{err_from_is_err_and}
use Rattle.fcg_reader.specs.Internal.Rows.{site_in}
use Rattle.fcg_reader.specs.Internal.Sites.{form_in}
use Rattle.fcg_reader.proofs.HandleLemmas.{index_fails, index_other, index_formless, index_broken, index_read, site_of-few}
use Rattle.fcg_reader.proofs.handles.read_index_site.Goals as goal

pub returns-in_err-handle-clause-value : goal.returns-in_err-handle-clause-value
returns-in_err-handle-clause-value c =
    let p = err_from_is_err_and c.from_residual.result c.from_residual.ensures.1 in
    let is = rw c.pool.ensures at c.handle_indexes.ensures in
    rw (p.1, p.2) (sym (index_fails c.args.names.now c.args.at c.args.pc c.args.index c.args.count c.handle_indexes.result c.in_err-handle.field-0.0 is (sym c.at_index.ensures ∙ c.in_err-handle.was)))

pub returns-in_default-clause-value : goal.returns-in_default-clause-value
returns-in_default-clause-value c =
    let is = rw c.pool.ensures at c.handle_indexes.ensures in
    sym (index_other c.args.names.now c.args.at c.args.pc c.args.index c.args.count c.handle_indexes.result is (sym c.at_index.ensures ∙ c.in_ok-handle.was ∙ ap (λ h. Ok h) c.in_default.is))

pub returns-in_default-handle_form-clause-value : goal.returns-in_default-handle_form-clause-value
returns-in_default-handle_form-clause-value c =
    let is = rw c.pool.ensures at c.handle_indexes.ensures in
    sym (index_formless c.args.names.now c.args.at c.args.pc c.args.index c.args.count c.handle_indexes.result (c.in-Some.kind, c.in-Some.named) is (sym c.at_index.ensures ∙ c.in_ok-handle.was ∙ ap (λ h. Ok h) c.in-Some.is) c.in_default-handle_form.ensures)

pub returns-in_err-site-clause-value : goal.returns-in_err-site-clause-value
returns-in_err-site-clause-value c =
    let p = err_from_is_err_and c.from_residual-in_err-site.result c.from_residual-in_err-site.ensures.1 in
    let is = rw c.pool.ensures at c.handle_indexes.ensures in
    rw (p.1, p.2) (sym (index_broken c.args.names.now c.args.at c.args.pc c.args.index c.args.count c.handle_indexes.result (c.in-Some.kind, c.in-Some.named) (form_in c.in-Some-handle_form.form) c.in_err-site.field-0.0 is (sym c.at_index.ensures ∙ c.in_ok-handle.was ∙ ap (λ h. Ok h) c.in-Some.is) c.in-Some-handle_form.ensures (sym c.in_err-site.ensures.value)))

pub returns-clause-value : goal.returns-clause-value
returns-clause-value c =
    let is = rw c.pool.ensures at c.handle_indexes.ensures in
    sym (index_read c.args.names.now c.args.at c.args.pc c.args.index c.args.count c.handle_indexes.result (c.in-Some.kind, c.in-Some.named) (form_in c.in-Some-handle_form.form) (site_in c.args.names.now c.in_ok-site.site) is (sym c.at_index.ensures ∙ c.in_ok-handle.was ∙ ap (λ h. Ok h) c.in-Some.is) c.in-Some-handle_form.ensures (sym c.in_ok-site.ensures.value))

pub returns-clause-few : goal.returns-clause-few
returns-clause-few c = λ le. site_of-few c.args.names.now (form_in c.in-Some-handle_form.form) c.args.at c.args.pc c.in-Some.named c.args.count (site_in c.args.names.now c.in_ok-site.site) (sym c.in_ok-site.ensures.value)
