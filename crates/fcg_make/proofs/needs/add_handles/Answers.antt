use Rattle.fcg_make.specs.Needs.{handle_needs}
use Rattle.fcg_make.proofs.AddLemmas.{added_more}
use Rattle.fcg_make.proofs.needs.add_handles.Goals as goal

pub loop-site-preserved : goal.loop-site-preserved
loop-site-preserved c = added_more handle_needs c.args.table.now c.loop-site.table c.add_handle.new.table c.args.sites.now c.loop-site.site-index c.site-item.result c.loop-site-test.true c.site-item.is c.loop-site.invariant c.in_ok-add_handle.ensures
