-- What openings, submits and answers come to for a command.
use Rattle.std.specs.Prelude.{◌≡◌, ◌≢◌, ℕ, List, Result, Ok, Err}
use Rattle.fcg_keeper.specs.declared.keeper.KeeperRefusal.{KeeperRefusal}
use Rattle.fcg_keeper.specs.declared.keeper.KeeperRefusal.TheVariants as keeper_refusals
use Rattle.fcg_partial.specs.declared.fault.RecordRule.{RecordRule}
use Rattle.fcg_partial.specs.declared.fault.RecordRule.TheVariants as rules
use Rattle.fcg_book.specs.declared.answer.Accepted.{Accepted}
use Rattle.fcg_book.specs.declared.answer.Accepted.TheVariants as accepts
use Rattle.fcg_book.specs.declared.answer.Refused.{Refused}
use Rattle.fcg_book.specs.declared.answer.Refused.TheVariants as refusals
use Rattle.fcg_book.specs.declared.opening.OpenRefusal.{OpenRefusal}
use Rattle.fcg_book.specs.declared.opening.OpenRefusal.TheVariants as opens
use Rattle.fcg_json.specs.declared.reply.CommandOutcome.TheVariants as outcomes
use Rattle.fcg_json.specs.declared.reply.Reply.{Reply}
use Rattle.fcg_json.specs.declared.reply.Reply.TheVariants as replies
use Rattle.fcg_commands.specs.declared.outcome.Outcome.{Outcome}
use Rattle.fcg_commands.specs.declared.outcome.Outcome.TheVariants as ends

-- the number of a rule of records, from 1
abbrev pub rule_number : RecordRule → ℕ
rule_number rules.Magic = 1
rule_number rules.Version = 2
rule_number rules.Cut = 3
rule_number rules.Order = 4
rule_number rules.Index = 5
rule_number rules.Kind = 6
rule_number rules.DoubleMethod = 7
rule_number rules.ManySites = 8
rule_number rules.Trailing = 9
rule_number rules.Unused = 10
rule_number rules.Coordinate = 11
rule_number rules.Number = 12
rule_number rules.Withdraw = 13
rule_number rules.Limit = 14
rule_number rules.Command = 15

-- a store that isn't opened
abbrev pub opening_outcome : OpenRefusal → Outcome
opening_outcome opens.NoMemory = ends.NoMemory
opening_outcome opens.KeeperFailed = ends.KeeperFailed
opening_outcome (opens.Sequence seq) = ends.BadStore (replies.Sequence seq)
opening_outcome (opens.BadRecord seq rule) = ends.BadStore (replies.BadRecord (rule_number rule) seq)

-- an accepted command, over a log that has so many entries after it
abbrev pub accepted_reply : ℕ → Accepted → Reply
accepted_reply at (accepts.Entered entry) = replies.Command at entry outcomes.Entered
accepted_reply at (accepts.Repeated entry) = replies.Command at entry outcomes.Repeated
accepted_reply at (accepts.Standing entry) = replies.Command at entry outcomes.Standing

-- a refused one, which names a release
abbrev pub refused_outcome : ℕ → List ℕ → Refused → Outcome
refused_outcome at release refusals.NoMemory = ends.NoMemory
refused_outcome at release (refusals.RequestClash entry) = ends.Refused (replies.RequestClash entry)
refused_outcome at release refusals.AbsentRelease = ends.Refused (replies.AbsentRelease at release)
refused_outcome at release (refusals.ReleaseTooLarge bytes) = ends.Refused (replies.ReleaseTooLarge bytes)
refused_outcome at release refusals.LogFull = ends.Refused (replies.LogFull 1000000)
refused_outcome at release (refusals.StoreFull bytes) = ends.Refused (replies.StoreFull bytes)
refused_outcome at release refusals.KeeperFailed = ends.KeeperFailed
refused_outcome at release (refusals.StoreDiffers found) = ends.Refused (replies.StoreDiffers found.seq)

abbrev pub submit_outcome : ℕ → List ℕ → Result Accepted Refused → Outcome
submit_outcome at release (Ok accepted) = ends.Answered (accepted_reply at accepted)
submit_outcome at release (Err refused) = refused_outcome at release refused

-- what is answered to a query is an answer, or else a refusal
abbrev pub query_outcome : Reply → Outcome
query_outcome (replies.Releases at releases) = ends.Answered (replies.Releases at releases)
query_outcome (replies.Edges at edges failed from nodes phantoms rows) = ends.Answered (replies.Edges at edges failed from nodes phantoms rows)
query_outcome (replies.Nodes at edges failed from nodes phantoms rows) = ends.Answered (replies.Nodes at edges failed from nodes phantoms rows)
query_outcome reply = ends.Refused reply

-- a store that isn't opened, or a keeper that fails
abbrev pub keeper_outcome : KeeperRefusal → Outcome
keeper_outcome keeper_refusals.NoMemory = ends.NoMemory
keeper_outcome keeper_refusals.Failed = ends.KeeperFailed

-- an outcome, unless there was no memory
abbrev pub AnswersAs : Outcome → Outcome → Type 0
AnswersAs expected outcome = outcome ≢ ends.NoMemory → outcome ≡ expected
