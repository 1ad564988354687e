use Rattle.std.specs.List.{flat_map}
use Rattle.fcg_views.specs.NamesIn.{names_of_method}
use Rattle.fcg_partial.proofs.intern.push_view_rows.Goals as goal

pub returns : goal.returns
returns c =
    let pushed = rw c.as_slice.ensures at c.in_ok-push_methods_rows.ensures in
    λ names more e. pushed names more (c.skip_to_methods.ensures names (flat_map names_of_method c.args.view.now.methods) more e)
