use Rattle.std.proofs.Common.{List, ℕ, length, ap, subst, arith}
use Rattle.std.proofs.lemmas.Result.{err_from_is_err_and}
use Rattle.std.specs.Prelude.{Err}
use Rattle.fcg_top.specs.Internal.Stopped.{IsMeant, stop_of_bundle}
use Rattle.fcg_top.proofs.FewSites.{content_has_few}
use Rattle.fcg_top.proofs.Meanings.{read_to_end, refused_means}
use Rattle.fcg_top.proofs.command.read_views.Goals as goal

pub returns-in_err-read_bundle-clause-means : goal.returns-in_err-read_bundle-clause-means
returns-in_err-read_bundle-clause-means g c =
    let p = err_from_is_err_and c.from_residual-in_err-read_bundle.result c.from_residual-in_err-read_bundle.ensures.1 in
    let short = c.in_ok-bytes.ensures.within in
    let same = c.as_slice.ensures in
    let meant = refused_means c.as_slice.result.now c.in_err-read_bundle.field-0.0 (omega (arith, ap length same)) c.in_err-read_bundle.ensures.jar c.in_err-read_bundle.ensures.exact c.in_err-read_bundle.ensures.only in
    let P : List ℕ → Type 0 = λ (bytes : List ℕ). IsMeant bytes (Err (stop_of_bundle c.in_err-read_bundle.field-0.0)) in
    rw (p.1, p.2) (read_to_end P (g.S.Source.left c.args.input.now) (g.S.Source.left c.read_all.new.source) c.in_ok-bytes.bytes c.in_ok-bytes.ensures.ok c.in_ok-bytes.ensures.end (subst P same meant))

pub returns-clause-few : goal.returns-clause-few
returns-clause-few g c = content_has_few _ _ c.in_ok-read_bundle.ensures.found
