use Rattle.std.proofs.Common.{codes}
use Rattle.fcg_grammar.proofs.RowLemmas.{ended_goes_on}
use Rattle.fcg_classfile.specs.declared.fault.ClassRule.TheVariants.{Bootstrap}
use Rattle.fcg_classfile.specs.Breaks.Attributes.{one_at}
use Rattle.fcg_classfile.specs.Breaks.Bootstrap.{rows_at}
use Rattle.fcg_reader.specs.Internal.Class.{rows_before}
use Rattle.fcg_reader.proofs.class.read_attribute_rows.Goals as goal

pub loop-preserved : goal.loop-preserved
loop-preserved c =
    let inv = c.loop.invariant.0 in
    let given = c.in_ok-after.ensures.value c.loop.counter inv.0 inv.1 in (
      (
        given.0,
        given.1,
        ended_goes_on (one_at (codes "BootstrapMethods") Bootstrap rows_at c.args.pool.now) c.args.attributes c.loop.counter (rows_before c.loop.place inv.0) tt (rows_before c.in_ok-after.after given.0) _ c.loop-test.true given.2 inv.2,
      ),
      c.in_ok-after.ensures.inside,
    )
