use Rattle.fcg_classfile.proofs.NameLaws.{text_found, text_only, name_found, name_only, reference_found, reference_only, handle_found, handle_only, dynamic_found, dynamic_only}
use Rattle.fcg_classfile.proofs.laws.one_name.Goals as goal

pub returns-clause-utf8 : goal.returns-clause-utf8
returns-clause-utf8 c = λ pool constants holds index text. (text_found pool constants holds index text, text_only pool constants holds index text)

pub returns-clause-class : goal.returns-clause-class
returns-clause-class c = λ pool constants holds index name. (
  λ is. (is.0, name_found pool constants holds index is.0 is.1, text_found pool constants holds is.0 name is.2),
  λ is. (is.0, name_only pool constants holds index is.0 is.1, text_only pool constants holds is.0 name is.2),
)

pub returns-clause-reference : goal.returns-clause-reference
returns-clause-reference c = λ pool constants holds index r. (reference_found pool constants holds index r, reference_only pool constants holds index r)

pub returns-clause-handle : goal.returns-clause-handle
returns-clause-handle c = λ pool constants holds index kind r. (handle_found pool constants holds index (kind, r), handle_only pool constants holds index kind r)

pub returns-clause-dynamic : goal.returns-clause-dynamic
returns-clause-dynamic c = λ pool constants holds index i. (dynamic_found pool constants holds index i, dynamic_only pool constants holds index i)
