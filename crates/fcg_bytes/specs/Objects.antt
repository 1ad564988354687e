-- What sources and sinks tell of themselves.
use Rattle.std.specs.Prelude.{ℕ, List, length, ◌++◌, ◌-◌, drop, min, Option, None}
use Rattle.fcg_bytes.specs.Causes.{one_more}

-- What an object that is a source and a sink in one tells in its other direction: its bytes, where it tells them, and
-- its count of faults.
pub record Aside : Type 0 where
  pub bytes : Option (List ℕ)
  pub faults : ℕ

-- what an object of one direction tells in the other
abbrev pub aside_of_none : Aside
aside_of_none = record { bytes = None; faults = 0 }

-- a source in memory: the bytes that are left, the count of faults, the number of the next call, how many bytes a call
-- gives at most, and the numbers of the calls that fail
pub record SourceState : Type 0 where
  pub left : List ℕ
  pub faults : ℕ
  pub calls : ℕ
  pub piece : ℕ
  pub fail : List ℕ

-- how many bytes it gives into a buffer of this length
abbrev pub count_given : SourceState → ℕ → ℕ
count_given s room = min s.piece (min room (length s.left))

-- the source after a call that gave n bytes
abbrev pub after_read : SourceState → ℕ → SourceState
after_read s n = record s { left = drop n s.left; calls = one_more s.calls }

-- the source after a call that failed
abbrev pub after_failed_read : SourceState → SourceState
after_failed_read s = record s { faults = one_more s.faults; calls = one_more s.calls }

-- a sink in memory: the bytes that it took, the room for more, the count of faults, the number of the next call, and
-- the numbers of the calls that fail
pub record SinkState : Type 0 where
  pub taken : List ℕ
  pub room : ℕ
  pub faults : ℕ
  pub calls : ℕ
  pub fail : List ℕ

-- the sink after a call that took these bytes
abbrev pub after_write : SinkState → List ℕ → SinkState
after_write s bytes = record s { taken = s.taken ++ bytes; room = s.room - length bytes; calls = one_more s.calls }

-- the sink after a call that failed
abbrev pub after_failed_write : SinkState → SinkState
after_failed_write s = record s { faults = one_more s.faults; calls = one_more s.calls }
