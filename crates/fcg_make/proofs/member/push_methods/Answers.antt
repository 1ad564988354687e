use Rattle.std.proofs.Common.{◌+◌, List, length, ap, ◌∙◌}
use Rattle.std.specs.List.{list_all}
use Rattle.fcg_views.specs.declared.view.Site.{Site}
use Rattle.fcg_make.specs.Steps.{calls, steps_of}
use Rattle.fcg_make.specs.Unwritable.{is_placed_method}
use Rattle.fcg_make.specs.Internal.Small.{IsFlaggedMethod}
use Rattle.fcg_make.proofs.WriteLemmas.{methods_left, kept_first}
use Rattle.fcg_make.proofs.AddLemmas.{rows_more}
use Rattle.fcg_make.proofs.SoundLemmas.{both_of}
use Rattle.fcg_make.proofs.member.push_methods.Goals as goal

pub loop-method-preserved : goal.loop-method-preserved
loop-method-preserved c =
    let inv = c.loop-method.invariant in
    let split = c.in-Some.ensures.cases.0 in
    let next = c.pass_rows-row.ensures ∙ ap (λ (ss : List Site). c.loop-method.row + length (calls (steps_of ss))) c.as_slice.ensures in (
      methods_left c.args.table.now _ c.loop-method.out.items c.push_method.new.out.items c.loop-method.row c.pass_rows-row.result c.loop-method.rest.now c.in-Some.others.now c.in-Some.method.now split c.in_ok-push_method.ensures.bytes next inv.0,
      rows_more _ c.loop-method.row c.pass_rows-row.result c.loop-method.rest.now c.in-Some.others.now c.in-Some.method.now split next inv.1,
      (both_of (is_placed_method c.in-Some.method.now) (list_all is_placed_method c.in-Some.others.now) (rw split at inv.2)).1,
      kept_first IsFlaggedMethod c.args.methods.now c.loop-method.rest.now c.in-Some.others.now c.in-Some.method.now split c.in_ok-push_method.ensures.flags inv.3,
    )
