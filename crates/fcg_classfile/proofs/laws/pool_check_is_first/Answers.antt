use Rattle.fcg_grammar.proofs.FaultLaws.{each_ok, each_err}
use Rattle.fcg_classfile.specs.Breaks.Pool.{slot_kept}
use Rattle.fcg_classfile.proofs.laws.pool_check_is_first.Goals as goal

pub returns-clause-kept : goal.returns-clause-kept
returns-clause-kept c = λ pool slots e. each_ok (slot_kept pool) 1 slots e

pub returns-clause-broken : goal.returns-clause-broken
returns-clause-broken c = λ pool slots f e. each_err (slot_kept pool) 1 slots f e
