-- What is read is valid.
use Rattle.std.proofs.Common.{ℕ, List}
use Rattle.std.specs.Prelude.{Option, Some, None, Result, Ok, Err, IfOk, IfSome}
use Rattle.fcg_grammar.specs.declared.error.ReadError.{ReadError}
use Rattle.fcg_grammar.specs.Reading.{Gives}
use Rattle.fcg_grammar.specs.Spell.{IsBytes}
use Rattle.fcg_views.specs.declared.view.View.{View}
use Rattle.fcg_views.specs.Valid.{IsValid}
use Rattle.fcg_classfile.specs.declared.fault.ClassFault.{ClassFault}
use Rattle.fcg_classfile.specs.Reads.{Reads}
use Rattle.fcg_classfile.specs.Breaks.Class.{class_of}
use Rattle.fcg_classfile.proofs.ClassLaws.{class_found}
use Rattle.fcg_classfile.proofs.ValidLaws.{reads_valid}

valid_view : (bytes : List ℕ) (view : Option View) → Reads bytes view → IfSome view IsValid
valid_view bytes None reads = tt
valid_view bytes (Some v) reads = reads_valid bytes v reads

pub is_valid : (bytes : List ℕ) (r : Result (Option View) (ReadError ClassFault)) → IsBytes bytes → Gives (λ v. v) r (class_of bytes) → IfOk r (λ view. IfSome view IsValid)
is_valid bytes (Ok view) fits given = valid_view bytes view (class_found bytes view fits given)
is_valid bytes (Err e) fits given = tt
