use Rattle.std.proofs.Common.{◌∙◌}
use Rattle.std.specs.Prelude.{map}
use Rattle.fcg_grammar.specs.Table.{place}
use Rattle.fcg_join.specs.SetNames.{part_names, set_names}
use Rattle.fcg_join.proofs.CollectedLaws.{mapped_next}
use Rattle.fcg_join.proofs.PartNameLaws.{cut_long, cut_front, cut_back}
use Rattle.fcg_join.proofs.part_names.cut_rows.Goals as goal

pub split_at-requires : goal.split_at-requires
split_at-requires c = cut_long (place (set_names c.args.parts.now)) c.args.parts.now c.loop-i.i c.index-parts-i.result c.loop-i.rest.now c.loop-i-test.true c.index-parts-i.is c.loop-i.invariant.rest c.count_names.result c.count_names.ensures

pub loop-i-preserved : goal.loop-i-preserved
loop-i-preserved c =
    let f = place (set_names c.args.parts.now) in
    let front = cut_front f c.args.parts.now c.loop-i.i c.index-parts-i.result c.loop-i.rest.now c.loop-i-test.true c.index-parts-i.is c.loop-i.invariant.rest c.count_names.result c.count_names.ensures in
    let back = cut_back f c.args.parts.now c.loop-i.i c.index-parts-i.result c.loop-i.rest.now c.loop-i-test.true c.index-parts-i.is c.loop-i.invariant.rest c.count_names.result c.count_names.ensures in
    record {
      rest = c.split_at.ensures.back ∙ back;
      rows = mapped_next (λ p. map f (part_names p)) c.args.parts.now c.loop-i.i c.index-parts-i.result c.split_at.result.0.now c.loop-i.rows c.push_row.new.self c.loop-i-test.true c.index-parts-i.is c.in_ok-push_row.ensures.ok (c.split_at.ensures.front ∙ front) c.loop-i.invariant.rows;
    }
