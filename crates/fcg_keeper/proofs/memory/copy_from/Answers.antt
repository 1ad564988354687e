use Rattle.std.proofs.Common.{take, ap, ◌∙◌, List}
use Rattle.fcg_keeper.specs.declared.record.Record.{Record}
use Rattle.fcg_keeper.specs.Internal.Steps.{with_one}
use Rattle.fcg_keeper.specs.Records.{loaded}
use Rattle.fcg_keeper.proofs.RecordLaws.{one_loaded}
use Rattle.fcg_keeper.proofs.memory.copy_from.Goals as goal

pub loop-row-preserved : goal.loop-row-preserved
loop-row-preserved c =
    c.in_ok-copy_one.ensures
    ∙ ap (λ (out : List Record). with_one c.args.from out c.row-item.result) c.loop-row.invariant
    ∙ ap (λ (row : Record). with_one c.args.from (loaded c.args.from (take c.loop-row.row-index c.args.records.now)) row) c.row-item.is
    ∙ one_loaded c.args.from c.args.records.now c.loop-row.row-index c.row-item.result c.loop-row-test.true
