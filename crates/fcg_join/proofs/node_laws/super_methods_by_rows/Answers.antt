use Rattle.fcg_join.proofs.SuperRows.{super_by_rows, first_by_rows, default_by_rows}
use Rattle.fcg_join.proofs.node_laws.super_methods_by_rows.Goals as goal

pub returns-clause-members : goal.returns-clause-members
returns-clause-members c = λ names types a d rows name_at up named open_at o x t s h. super_by_rows names types a d rows name_at up named open_at o x t s h

pub returns-clause-first : goal.returns-clause-first
returns-clause-first c = λ names types a d rows name_at up named open_at o x t s h. first_by_rows names types a d rows name_at up named open_at o x t s h

pub returns-clause-default : goal.returns-clause-default
returns-clause-default c = λ names types a d rows name_at up named abstract_at h t s ks e. default_by_rows names types a d rows name_at up named abstract_at h t s ks e
