use Rattle.fcg_join.proofs.LinkRows.{linked_is, links_of_rows}
use Rattle.fcg_join.proofs.place_laws.links_by_rows.Goals as goal

pub returns-clause-linked : goal.returns-clause-linked
returns-clause-linked c = λ types d t u. linked_is types d t u

pub returns-clause-rows : goal.returns-clause-rows
returns-clause-rows c = λ types d rows l h. links_of_rows types d rows l h
