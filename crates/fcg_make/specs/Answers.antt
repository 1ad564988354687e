-- What `write_class` answers.
use Rattle.std.specs.Prelude.{◌≡◌, ℕ, List, Result, Ok, Err}
use Rattle.fcg_make.specs.declared.refusal.NotWritable.{NotWritable}
use Rattle.fcg_make.specs.declared.refusal.WriteError.{WriteError}
use Rattle.fcg_make.specs.declared.refusal.WriteError.TheVariants as errors

-- The bytes that are written of a view, or the rule that it breaks. Where there was no memory, nothing is said.
abbrev pub Refuses : WriteError → Result (List ℕ) NotWritable → Type 0
Refuses errors.NoMemory written = Unit {0}
Refuses (errors.NotWritable rule) written = written ≡ Err rule

abbrev pub Answers : Result (List ℕ) WriteError → Result (List ℕ) NotWritable → Type 0
Answers (Ok bytes) written = written ≡ Ok bytes
Answers (Err e) written = Refuses e written
