use Rattle.fcg_make.proofs.ReadLaws.{read_back}
use Rattle.fcg_make.proofs.class.write_class.Goals as goal

pub returns-clause-read : goal.returns-clause-read
returns-clause-read c = read_back c.write_exact.result c.args.view.now c.requires.valid c.write_exact.ensures.flags c.write_exact.ensures.exact
