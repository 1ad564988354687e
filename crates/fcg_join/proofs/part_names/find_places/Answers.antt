use Rattle.fcg_join.specs.Internal.PartNames.{places_in}
use Rattle.fcg_join.specs.Internal.Collected.{collected}
use Rattle.fcg_join.proofs.CollectedLaws.{collected_next, collected_all}
use Rattle.fcg_join.proofs.part_names.find_places.Goals as goal

pub loop-i-preserved : goal.loop-i-preserved
loop-i-preserved c = collected_next places_in c.args.parts.now c.loop-i.i c.index-parts-i.result c.loop-i.places.items c.push_places.new.places.items (collected places_in 0 c.args.parts.now) c.loop-i-test.true c.index-parts-i.is c.in_ok-push_places.ensures c.loop-i.invariant

pub returns : goal.returns
returns c = collected_all places_in c.args.parts.now c.loop-i.i c.loop-i.places.items (collected places_in 0 c.args.parts.now) c.loop-i-test.false c.loop-i.invariant
