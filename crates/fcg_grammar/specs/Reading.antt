-- Reading goes from front to back, up to the first item that breaks its rule.
use Rattle.std.specs.Prelude.{◌≡◌, Bool, Result, Ok, Err, if◌then◌else◌}
use Rattle.fcg_grammar.specs.declared.error.ReadError.{ReadError}
use Rattle.fcg_grammar.specs.declared.error.ReadError.TheVariants as errors

-- one item, and then the items that it leads to
infixl 10 ◌>>=◌
abbrev pub ◌>>=◌ : {A B E : Type 0} → Result A E → (A → Result B E) → Result B E
(Ok x) >>= f = f x
(Err e) >>= f = Err e

-- a rule that holds, or else the fault
abbrev pub unless_broken : {E : Type 0} → Bool → E → Result (Unit {0}) E
unless_broken holds f = if holds then Ok tt else Err f

-- what a function returned, with its value seen by view
abbrev pub seen : {X Y E : Type 0} → (X → Y) → Result X E → Result Y E
seen view (Ok x) = Ok (view x)
seen view (Err e) = Err e

-- What a reader answered is what reading gives: the value, seen by view, or the first fault. Where there was no
-- memory, nothing is said.
abbrev pub Fails : {Y E : Type 0} → ReadError E → Result Y E → Type 0
Fails errors.NoMemory read = Unit {0}
Fails (errors.Fault f) read = read ≡ Err f

abbrev pub Gives : {X Y E : Type 0} → (X → Y) → Result X (ReadError E) → Result Y E → Type 0
Gives view (Ok x) read = read ≡ Ok (view x)
Gives view (Err e) read = Fails e read
