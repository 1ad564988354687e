use Rattle.std.proofs.Common.{[], ◌∷◌, ◌++◌, ◌+◌, ◌≤◌, length, sym, arith}
use Rattle.std.proofs.lemmas.List.{append-nil, length-append}
use Rattle.fcg_classfile.specs.Breaks.Pool.{Entries}
use Rattle.fcg_reader.specs.Internal.Rows.{sites_in}
use Rattle.fcg_reader.specs.Internal.Handles.{moved_at}
use Rattle.fcg_reader.proofs.HandleLemmas.{carried_begins, moved_on, moved_past, moved_done, one_pushed}
use Rattle.fcg_reader.proofs.handles.push_moved.Goals as goal

pub loop-site-init : goal.loop-site-init
loop-site-init c = (([], sym (append-nil _), λ pool. carried_begins (moved_at c.args.at c.args.pc) (sites_in pool c.args.found.now) _), c.requires.few)

pub returns-then-count-len-ge-MOST_SITES-clause-value : goal.returns-then-count-len-ge-MOST_SITES-clause-value
returns-then-count-len-ge-MOST_SITES-clause-value c =
    let so_far = c.loop-site.invariant.0 in
    let full = rw (c.len.ensures, c.loop-site.sites.ok.0) at c.if-count-len-ge-MOST_SITES.true in
    rw c.fault_at.ensures (λ pool. moved_past c.args.at c.args.pc pool so_far.0 c.loop-site.site-index c.args.found.now _ _ c.loop-site-test.true full (so_far.2 pool))

pub loop-site-preserved : goal.loop-site-preserved
loop-site-preserved c =
    let so_far = c.loop-site.invariant.0 in
    let few = rw (c.len.ensures, c.loop-site.sites.ok.0) at c.if-count-len-ge-MOST_SITES.false in
    let pushed = c.in_ok-push.ensures.items in
    let copy = c.move_site.result in
    let all : c.args.count + length c.push.new.self.items ≤ 1000000 = rw (pushed, length-append c.loop-site.sites.items (copy ∷ [])) (omega (arith, few)) in
    let next = λ (pool : Entries). moved_on c.args.at c.args.pc pool c.args.count c.loop-site.sites.items c.push.new.self.items so_far.0 c.loop-site.site-index c.args.found.now _ copy _ c.loop-site-test.true few c.move_site.ensures pushed (so_far.2 pool) in
    ((so_far.0 ++ copy ∷ [], one_pushed c.args.sites.now.items c.loop-site.sites.items c.push.new.self.items so_far.0 copy pushed so_far.1, next), all)

pub returns-clause-value : goal.returns-clause-value
returns-clause-value c pool =
    let so_far = c.loop-site.invariant.0 in
    (so_far.0, so_far.1, moved_done c.args.at c.args.pc pool so_far.0 c.loop-site.site-index c.args.found.now _ _ c.loop-site-test.false (so_far.2 pool))
