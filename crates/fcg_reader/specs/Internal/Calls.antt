-- The sites and the calls of bootstrap methods of a method's code.
use Rattle.std.specs.Prelude.{ℕ, ◌+◌, ◌-◌, ◌<◌, ◌^◌, List, [], map, All, Option, Some, None}
use Rattle.fcg_classfile.specs.declared.code.DynamicCall.{DynamicCall}
use Rattle.fcg_classfile.specs.Sites.{Found}
use Rattle.fcg_classfile.specs.Breaks.Pool.{Entries}
use Rattle.fcg_classfile.specs.Breaks.Members.{Calls, Unfinished}
use Rattle.fcg_reader.specs.declared.rows.SiteRow.{SiteRow}
use Rattle.fcg_reader.specs.declared.rows.MethodRow.{MethodRow}
use Rattle.fcg_reader.specs.Internal.Rows.{sites_in, method_in}

-- The opcode of each call has a place in the file.
abbrev pub ArePlaced : ℕ → List DynamicCall → Type 0
ArePlaced begin calls = All (λ call. begin + call.pc < 2 ^ 64) calls

-- the sites of a code as rows, and its calls
pub record FoundRows : Type 0 where
  pub sites : List SiteRow
  pub calls : List DynamicCall

abbrev pub found_in : Entries → FoundRows → Found
found_in pool x = record { sites = sites_in pool x.sites; calls = x.calls }

-- The attribute Code stands 14 bytes before its code.
abbrev pub code_in : List SiteRow → Calls → ℕ × FoundRows
code_in sites calls = (calls.begin - 14, record { sites = sites; calls = calls.calls })

-- the sites and the calls of a code, or none
abbrev pub parts_of : Option (ℕ × FoundRows) → List SiteRow × Calls
parts_of None = ([], record { begin = 0; calls = [] })
parts_of (Some (at, x)) = (x.sites, record { begin = at + 14; calls = x.calls })

-- a method, with its calls
abbrev pub unfinished_in : Entries → MethodRow × Calls → Unfinished
unfinished_in pool m = (method_in pool m.0, m.1)

abbrev pub all_unfinished_in : Entries → List (MethodRow × Calls) → List Unfinished
all_unfinished_in pool methods = map (unfinished_in pool) methods
