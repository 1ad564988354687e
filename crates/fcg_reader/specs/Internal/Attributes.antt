-- What the readers of attributes answer.
use Rattle.std.specs.Prelude.{ℕ, List, Bool, not, ◌&&◌, Result, Ok}
use Rattle.fcg_grammar.specs.Reading.{◌>>=◌, unless_broken}
use Rattle.fcg_classfile.specs.declared.fault.ClassFault.{ClassFault}
use Rattle.fcg_classfile.specs.declared.fault.ClassRule.{ClassRule}
use Rattle.fcg_classfile.specs.Breaks.Fault.{fault}
use Rattle.fcg_classfile.specs.Breaks.Pool.{Entries}
use Rattle.fcg_views.specs.Valid.{is_same}
use Rattle.fcg_classfile.specs.Breaks.Attributes.{text_at, content_at}

-- whether an attribute has a name, and the place after its content; where one of the name was before, a second breaks a
-- rule
unfoldable pub one_named : Entries → ℕ → List ℕ → ClassRule → Bool → Result (Bool × ℕ) ClassFault
one_named pool at word twice again = do
  name ← text_at pool at
  once ← unless_broken (not (is_same name word && again)) (fault at 0 twice)
  after ← content_at pool at
  Ok (is_same name word, after)
