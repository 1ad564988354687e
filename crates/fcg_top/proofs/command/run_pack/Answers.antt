use Rattle.std.proofs.Common.{rules}
use Rattle.fcg_top.specs.Packing.{pack_answer}
use Rattle.fcg_top.proofs.PackLines.{told_line}
use Rattle.fcg_top.proofs.command.run_pack.Goals as goal

pub returns-in-Err-clause-leaves : goal.returns-in-Err-clause-leaves
unfolding pack_answer
returns-in-Err-clause-leaves g c =
    record {
      words = search rules;
      output = search rules;
      bundle_is = search rules;
      errors = told_line (g.F.Files.told c.args.files.now) c.args.folder.now c.in-Err.refusal c.report.result (g.E.Sink.faults c.args.errors.now) (g.E.Sink.faults c.report.new.errors) (g.E.Sink.taken c.args.errors.now) (g.E.Sink.taken c.report.new.errors) c.in-Err.ensures.refused (rw c.from.ensures at c.report.ensures.status) (rw c.from.ensures at c.report.ensures.line);
      read_failed = search rules;
      later = search rules;
      told = search rules;
    }
