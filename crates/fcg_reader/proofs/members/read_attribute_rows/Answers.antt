use Rattle.std.proofs.Common.{codes, ◌∙◌}
use Rattle.fcg_grammar.proofs.RowLemmas.{ended_goes_on}
use Rattle.fcg_classfile.specs.declared.fault.ClassRule.TheVariants.{DoubleCode}
use Rattle.fcg_classfile.specs.Breaks.Attributes.{one_at}
use Rattle.fcg_classfile.specs.Breaks.Code.{code_at}
use Rattle.fcg_reader.specs.Internal.Members.{code_before}
use Rattle.fcg_reader.proofs.members.read_attribute_rows.Goals as goal

pub loop-preserved : goal.loop-preserved
loop-preserved c =
    let inv = c.loop.invariant in
    let given = rw inv.3 at (c.in_ok-after.ensures.value c.loop.counter) in
    let same = c.in_ok-after.ensures.same in (
      ended_goes_on (one_at (codes "Code") DoubleCode (code_at c.args.count) c.args.names.now) c.args.attributes c.loop.counter (code_before c.args.names.now c.loop.place c.loop.code) tt (code_before c.args.names.now c.in_ok-after.after c.in_ok-after.found) _ c.loop-test.true given inv.0,
      rw same c.in_ok-after.ensures.inside,
      c.in_ok-after.ensures.few,
      same ∙ inv.3,
    )
