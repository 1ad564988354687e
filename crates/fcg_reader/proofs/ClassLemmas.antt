-- The attributes of a class.
use Rattle.std.proofs.Common.{◌≡◌, ℕ, List, refl, sym}
use Rattle.std.specs.Prelude.{Option, Some, None, is_some}
use Rattle.std.specs.Global.{Vec}
use Rattle.std.proofs.lemmas.Option.{none-some}
use Rattle.fcg_classfile.specs.ClassFile.{BootstrapMethod}
use Rattle.fcg_reader.specs.Internal.Class.{rows_if_read, rows_if_any}

-- one was read wherever it is said to stand
pub some_said : (read : Option (ℕ × List BootstrapMethod)) (found : Option (Vec BootstrapMethod)) → rows_if_read read ≡ rows_if_any found → is_some found ≡ is_some read
some_said None None e = refl
some_said None (Some rows) e = absurd (none-some rows.items e)
some_said (Some x) None e = absurd (none-some x.1 (sym e))
some_said (Some x) (Some rows) e = refl
