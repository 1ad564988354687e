use Rattle.fcg_analysis.proofs.BelowChains.{below_class, below_class_goes_on, all_below_class, all_below_object}
use Rattle.fcg_analysis.proofs.type_laws.classes_stand_in_chains.Goals as goal

pub returns-clause-in_chain : goal.returns-clause-in_chain
returns-clause-in_chain c = λ types a d t u i j k o. below_class types a d u j k o t i

pub returns-clause-walked : goal.returns-clause-walked
returns-clause-walked c = λ types a d t u i j k o. below_class_goes_on types a d u j k o t i

pub returns-clause-in_order : goal.returns-clause-in_order
returns-clause-in_order c = λ types a d u j k o. all_below_class types a d u j k o

pub returns-clause-of_object : goal.returns-clause-of_object
returns-clause-of_object c = λ types. all_below_object types
