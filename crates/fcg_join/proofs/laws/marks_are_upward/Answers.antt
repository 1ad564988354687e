use Rattle.fcg_join.proofs.MarkLaws.{mark_at, filled_upward, filled_above}
use Rattle.fcg_join.proofs.laws.marks_are_upward.Goals as goal

pub returns-clause-upward : goal.returns-clause-upward
returns-clause-upward c = λ types rows says old new d acyclic h starts f. filled_upward types rows h d says old new acyclic starts f

pub returns-clause-mark : goal.returns-clause-mark
returns-clause-mark c = λ types marks x t d l a. mark_at types marks x t d l a

pub returns-clause-above : goal.returns-clause-above
returns-clause-above c = λ types rows says old new d acyclic h starts f x t a. filled_above types rows h d says old new acyclic starts f x t a
