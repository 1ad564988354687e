use Rattle.fcg_join.proofs.PairSearch.{found_pair, no_pair}
use Rattle.fcg_join.proofs.signatures.find_pair.Goals as goal

pub returns-in-Ok-clause-found : goal.returns-in-Ok-clause-found
returns-in-Ok-clause-found c = found_pair c.args.pairs.now c.args.pair c.in-Ok.place c.in-Ok.ensures.bound c.in-Ok.ensures.ok

pub returns-in-Err-clause-none : goal.returns-in-Err-clause-none
returns-in-Err-clause-none c = λ e. no_pair c.args.pairs.now c.args.pair c.in-Err.field-0 c.requires.rise c.in-Err.ensures.position
