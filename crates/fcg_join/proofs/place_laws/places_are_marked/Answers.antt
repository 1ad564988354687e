use Rattle.fcg_join.proofs.WinnerPlaces.{all_places, marked_places, first_of_name}
use Rattle.fcg_join.proofs.place_laws.places_are_marked.Goals as goal

pub returns-clause-all : goal.returns-clause-all
returns-clause-all c = λ views. all_places views

pub returns-clause-marked : goal.returns-clause-marked
returns-clause-marked c = λ views types places marks h. marked_places views types places marks h

pub returns-clause-first : goal.returns-clause-first
returns-clause-first c = λ names views h k t e f. first_of_name names views h k t e f
