use Rattle.std.proofs.Common.{sym, ◌∙◌}
use Rattle.fcg_bytes.proofs.FileLemmas.{Knows-none, paths_below-none, paths_below-more}
use Rattle.fcg_bytes.proofs.memory_files.find_below.Goals as goal

pub loop-path-init : goal.loop-path-init
loop-path-init c = rw c.new-found.ensures.items (sym (paths_below-none c.args.folder.now), Knows-none c.new-known.result c.new-known.ensures.empty)

pub loop-path-preserved : goal.loop-path-preserved
loop-path-preserved c =
    let more = paths_below-more c.args.files.now c.args.folder.now c.loop-path.path-index c.loop-path-item.result c.loop-path-test.true c.loop-path-item.is in (
      c.in_ok-add_below.ensures.found c.loop-path.invariant.1 ∙ rw (c.loop-path.invariant.0, c.as_str.ensures.value) (sym more),
      c.in_ok-add_below.ensures.known c.loop-path.invariant.1,
    )
