use Rattle.std.proofs.Common.{ℕ, List, ◌++◌, ◌∷◌, [], ap, ◌∙◌}
use Rattle.fcg_views.specs.NamesIn.{names_of_site}
use Rattle.fcg_partial.specs.Internal.Written.{site_rows}
use Rattle.fcg_partial.proofs.NumberedLaws.{none_yet, one_more, all_done}
use Rattle.fcg_partial.proofs.intern.push_site_rows.Goals as goal

pub loop-site-init : goal.loop-site-init
loop-site-init c = none_yet names_of_site site_rows c.args.sites.now c.args.rows.now.items c.args.numbers.now

pub loop-site-preserved : goal.loop-site-preserved
loop-site-preserved c = one_more names_of_site site_rows c.args.sites.now c.loop-site.site-index c.args.rows.now.items c.loop-site.rows.items c.args.numbers.now c.loop-site.numbers c.loop-site.invariant c.site-item.result c.loop-site-test.true c.site-item.is c.push.new.self.items c.make_row-row.new.numbers (λ names more e. (
    let made = c.make_row-row.ensures names more e in
    (c.in_ok-push.ensures.items ∙ ap (λ (row : List ℕ). c.loop-site.rows.items ++ row ∷ []) made.0, made.1)))

pub returns : goal.returns
returns c = all_done names_of_site site_rows c.args.sites.now c.loop-site.site-index c.args.rows.now.items c.loop-site.rows.items c.args.numbers.now c.loop-site.numbers c.loop-site.invariant c.loop-site-test.false
