use Rattle.fcg_join.proofs.BelowLists.{below_listed, listed_by_rows, subclasses_below, object_listed, unmentioned_listed}
use Rattle.fcg_join.proofs.table_laws.below_in_order.Goals as goal

pub returns-clause-listed : goal.returns-clause-listed
returns-clause-listed c = λ types n numbers s w h. below_listed types n numbers s w h

pub returns-clause-by_rows : goal.returns-clause-by_rows
returns-clause-by_rows c = λ names types rows up n numbers l o b s w h. listed_by_rows names types rows up n numbers l o b s w h

pub returns-clause-subclasses : goal.returns-clause-subclasses
returns-clause-subclasses c = λ types a d x u i k o numbers s z t h. subclasses_below types a d x u i k o numbers s z t h

pub returns-clause-of_object : goal.returns-clause-of_object
returns-clause-of_object c = λ types. object_listed types

pub returns-clause-unmentioned : goal.returns-clause-unmentioned
returns-clause-unmentioned c = λ names types h n o b. unmentioned_listed names types h n o b
