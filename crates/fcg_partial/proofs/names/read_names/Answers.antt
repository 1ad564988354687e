use Rattle.std.proofs.lemmas.Result.{err_from_is_err_and}
use Rattle.fcg_partial.specs.Internal.RowPlaces.{HasText, of_last}
use Rattle.fcg_partial.proofs.NameLoop.{names_go_on, names_end, all_push, follow_push}
use Rattle.fcg_partial.proofs.names.read_names.Goals as goal

pub returns-in_err-name-clause-value : goal.returns-in_err-name-clause-value
returns-in_err-name-clause-value c =
    let p = err_from_is_err_and c.from_residual-in_err-name.result c.from_residual-in_err-name.ensures.1 in
    rw (p.1, p.2) (names_end c.args.bytes.now c.loop.places.items c.args.count c.loop.counter (record { at = c.loop.place; last = of_last c.loop.last }) c.in_err-name.field-0.0 _ c.loop-test.true (c.in_err-name.ensures.value c.loop.counter) c.loop.invariant.read)

pub loop-preserved : goal.loop-preserved
loop-preserved c =
    rw c.in_ok-push.ensures.items (record {
      read = names_go_on c.args.bytes.now c.loop.places.items c.args.count c.loop.counter (record { at = c.loop.place; last = of_last c.loop.last }) c.in_ok-name.name.now c.in_ok-name.after _ c.loop-test.true (c.in_ok-name.ensures.value c.loop.counter) c.in_ok-name.ensures.text.0 c.loop.invariant.read;
      follow = follow_push c.args.bytes.now c.args.at c.loop.places.items c.loop.place c.in_ok-name.after c.loop.invariant.follow c.in_ok-name.ensures.next;
      inside = c.in_ok-name.ensures.inside;
      texts = all_push (HasText c.args.bytes.now) c.loop.places.items c.loop.place c.loop.invariant.texts c.in_ok-name.ensures.text.1;
    })
