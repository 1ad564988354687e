-- What the readers of fields and methods answer.
use Rattle.std.specs.Prelude.{◌≡◌, ℕ, List, [], ◌∷◌, ◌++◌, Option, Some, None, Result, Ok, Err}
use Rattle.fcg_grammar.specs.declared.error.ReadError.{ReadError}
use Rattle.fcg_grammar.specs.Reading.{Fails}
use Rattle.fcg_classfile.specs.declared.fault.ClassFault.{ClassFault}
use Rattle.fcg_classfile.specs.Sites.{Found}
use Rattle.fcg_pool.specs.CodeValues.{IsTextOf}
use Rattle.fcg_classfile.specs.Breaks.Pool.{Entries}
use Rattle.fcg_classfile.specs.Breaks.Attributes.{AttributesBefore}
use Rattle.fcg_classfile.specs.Breaks.Members as members
use Rattle.fcg_classfile.specs.Breaks.Members.{Unfinished, MethodsBefore}
use Rattle.fcg_reader.specs.declared.declared.Declared.{Declared}
use Rattle.fcg_reader.specs.declared.rows.SiteRow.{SiteRow}
use Rattle.fcg_reader.specs.Internal.Calls.{FoundRows, found_in, parts_of}
use Rattle.fcg_reader.specs.Internal.Methods.{methods_of}

-- what the code declares, as that of the definition
abbrev pub declared_of : Declared → members.Declared
declared_of d = record { flags = d.flags; name = d.name.bytes.now; desc = d.desc.bytes.now }

-- its texts are those of their indexes and places
abbrev pub AreTextsOf : Entries → Declared → Type 0
AreTextsOf pool d = IsTextOf pool d.name × IsTextOf pool d.desc

-- the code, with the place of its attribute
abbrev pub code_of : Entries → Option (ℕ × FoundRows) → Option (ℕ × Found)
code_of pool None = None
code_of pool (Some (at, x)) = Some (at, found_in pool x)

-- the attributes of a method of which the next stands at a place, with the code so far
abbrev pub code_before : Entries → ℕ → Option (ℕ × FoundRows) → AttributesBefore Found
code_before pool at code = record { at = at; read = code_of pool code }

-- the sites of a code, or none
abbrev pub code_sites : Option (ℕ × FoundRows) → List SiteRow
code_sites code = (parts_of code).0

abbrev pub methods_before : ℕ → List Unfinished → MethodsBefore
methods_before at methods = record { at = at; earlier = methods_of methods }

-- a method more, and the place after it; or the fault
abbrev pub GivesNext : Result ℕ (ReadError ClassFault) → List Unfinished → List Unfinished → Result (Unfinished × MethodsBefore) ClassFault → Type 0
GivesNext (Ok after) old new read = (m : Unfinished) × (new ≡ old ++ m ∷ []) × (read ≡ Ok (m, methods_before after new))
GivesNext (Err e) old new read = Fails e read
