-- What each call to come does, for keepers that tell it.
use Rattle.std.specs.Prelude.{◌≡◌, ℕ, ◌+◌, List, [], ◌∷◌, ◌++◌, Option, Some, None, Result, Ok, Err, IfSome}
use Rattle.fcg_keeper.specs.declared.record.Record.{Record}
use Rattle.fcg_keeper.specs.declared.keeper.KeeperRefusal.{KeeperRefusal}
use Rattle.fcg_keeper.specs.declared.keeper.KeeperRefusal.TheVariants.{Failed, NoMemory}
use Rattle.fcg_keeper.specs.declared.memory.FailMode.{FailMode}
use Rattle.fcg_keeper.specs.declared.memory.FailMode.TheVariants.{Before, After}

-- the call of a number, counted from the next one, passes or fails in a way
abbrev pub Script : Type 0
Script = ℕ → Option FailMode

-- the script after one call
abbrev pub later : Script → Script
later script k = script (k + 1)

-- every call passes
abbrev pub passing : Script
passing k = None

-- a call that passes doesn't fail, and one that fails doesn't succeed; each may want memory
abbrev pub Follows : {T : Type 0} → Option FailMode → Result T KeeperRefusal → Type 0
Follows item (Err NoMemory) = Unit {0}
Follows None (Ok x) = Unit {0}
Follows None (Err Failed) = ⊥
Follows (Some mode) (Ok x) = ⊥
Follows (Some mode) (Err Failed) = Unit {0}

-- Each call takes one item, whatever it answers.
abbrev pub Takes : {T : Type 0} → Option Script → Result T KeeperRefusal → Option Script → Type 0
Takes old result new = IfSome new (λ rest. (script : Script) × (old ≡ Some script) × (rest ≡ later script) × Follows (script 0) result)

-- the records that an append leaves which fails in a way
abbrev pub failed_append : FailMode → List Record → Record → List Record
failed_append Before before row = before
failed_append After before row = before ++ row ∷ []

-- A failed append leaves the records or adds its record, as the script says.
abbrev pub AsScripted : Option FailMode → List Record → Record → Result (Unit {0}) KeeperRefusal → List Record → Type 0
AsScripted (Some mode) before row (Err Failed) after = after ≡ failed_append mode before row
AsScripted (Some mode) before row (Err NoMemory) after = Unit {0}
AsScripted (Some mode) before row (Ok _) after = Unit {0}
AsScripted None before row result after = Unit {0}

abbrev pub AppendsAsScripted : Option Script → Option (List Record) → Record → Result (Unit {0}) KeeperRefusal → Option (List Record) → Type 0
AppendsAsScripted script old row result new = IfSome script (λ s. IfSome old (λ before. IfSome new (λ after. AsScripted (s 0) before row result after)))
