-- What a reference stands for, in the code and in the rules.
use Rattle.std.specs.Prelude.{◌≡◌, List, ⊤}
use Rattle.fcg_analysis.specs.Resolution as rules
use Rattle.fcg_partial.specs.Parts.{PartShown}
use Rattle.fcg_join.specs.Joined.{HasNode}
use Rattle.fcg_join.specs.declared.id.MethodId.{MethodId}
use Rattle.fcg_join.specs.declared.outcome.Cause.{Cause}
use Rattle.fcg_join.specs.declared.outcome.Cause.TheVariants as causes
use Rattle.fcg_join.specs.declared.outcome.Outcome.{Outcome}
use Rattle.fcg_join.specs.declared.outcome.Outcome.TheVariants as outcomes

abbrev pub cause_of : Cause → rules.Cause
cause_of causes.KindMismatch = rules.KindMismatch
cause_of causes.NoSuchMethod = rules.NoSuchMethod

-- it is that outcome: a method by its number
abbrev pub GivesOutcome : List PartShown → Outcome → rules.Outcome → Type 0
GivesOutcome parts (outcomes.Method m) (rules.Found n) = HasNode parts m n
GivesOutcome parts (outcomes.Method m) rules.Phantom = ⊥
GivesOutcome parts (outcomes.Method m) (rules.Failed d) = ⊥
GivesOutcome parts outcomes.Phantom (rules.Found n) = ⊥
GivesOutcome parts outcomes.Phantom rules.Phantom = ⊤
GivesOutcome parts outcomes.Phantom (rules.Failed d) = ⊥
GivesOutcome parts (outcomes.Failed c) (rules.Found n) = ⊥
GivesOutcome parts (outcomes.Failed c) rules.Phantom = ⊥
GivesOutcome parts (outcomes.Failed c) (rules.Failed d) = cause_of c ≡ d

-- where it is a method, its number is so
abbrev pub IfMethod : Outcome → (MethodId → Type 0) → Type 0
IfMethod (outcomes.Method m) says = says m
IfMethod outcomes.Phantom says = ⊤
IfMethod (outcomes.Failed c) says = ⊤
