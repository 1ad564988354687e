use Rattle.fcg_join.proofs.KnownMarks.{known_marks}
use Rattle.fcg_join.proofs.laws.known_by_marks.Goals as goal

pub returns : goal.returns
returns c = λ views rows circular h m. known_marks views rows circular h m
