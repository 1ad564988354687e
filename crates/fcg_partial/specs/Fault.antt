-- The fault at a place, and the numbers of a stored graph: what passes the end is cut, at its first byte.
use Rattle.std.specs.Prelude.{ℕ, ◌-◌, ◌^◌, min, List, Result}
use Rattle.fcg_grammar.specs.Number as number
use Rattle.fcg_partial.specs.declared.fault.RecordFault.{RecordFault}
use Rattle.fcg_partial.specs.declared.fault.RecordRule.{RecordRule}
use Rattle.fcg_partial.specs.declared.fault.RecordRule.TheVariants.{Cut}

-- a place that is too large for its field is given as the field's last value
abbrev pub fault : ℕ → RecordRule → RecordFault
fault at rule = record { offset = min at (2 ^ 32 - 1); rule = rule }

abbrev pub u1_at : List ℕ → ℕ → Result ℕ RecordFault
u1_at bytes at = number.u1_at (fault at Cut) bytes at

abbrev pub u2_at : List ℕ → ℕ → Result ℕ RecordFault
u2_at bytes at = number.u2_at (fault at Cut) bytes at

abbrev pub u4_at : List ℕ → ℕ → Result ℕ RecordFault
u4_at bytes at = number.u4_at (fault at Cut) bytes at

abbrev pub part_at : List ℕ → ℕ → ℕ → Result (List ℕ) RecordFault
part_at bytes at n = number.part_at (fault at Cut) bytes at n
