use Rattle.std.proofs.Common.{drop, ap, ◌∙◌}
use Rattle.fcg_partial.proofs.intern.push_method_rows.Goals as goal

pub returns : goal.returns
returns c =
    let pushed = rw c.as_slice.ensures at c.in_ok-push_site_rows.ensures in
    λ names more e. pushed names more (c.skip.ensures ∙ ap (drop 2) e)
