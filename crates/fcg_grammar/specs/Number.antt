-- Numbers and strings of bytes at a place of a file (big-endian). What passes the end is cut: the fault is given.
use Rattle.std.specs.Prelude.{ℕ, ◌+◌, ◌*◌, List, length, take, drop, slice_index, Result, Ok, Err, nat_lt, if◌then◌else◌}

abbrev pub u2 : List ℕ → ℕ → ℕ
u2 bytes at = slice_index bytes at * 256 + slice_index bytes (at + 1)

abbrev pub u4 : List ℕ → ℕ → ℕ
u4 bytes at = u2 bytes at * 65536 + u2 bytes (at + 2)

-- n bytes from a place on
abbrev pub part : List ℕ → ℕ → ℕ → List ℕ
part bytes at n = take n (drop at bytes)

-- n bytes from a place on are within the file, or else it is cut
abbrev pub within : {A E : Type 0} → E → List ℕ → ℕ → ℕ → A → Result A E
within cut bytes at n x = if nat_lt (length bytes) (at + n) then Err cut else Ok x

unfoldable pub u1_at : {E : Type 0} → E → List ℕ → ℕ → Result ℕ E
u1_at cut bytes at = within cut bytes at 1 (slice_index bytes at)

unfoldable pub u2_at : {E : Type 0} → E → List ℕ → ℕ → Result ℕ E
u2_at cut bytes at = within cut bytes at 2 (u2 bytes at)

unfoldable pub u4_at : {E : Type 0} → E → List ℕ → ℕ → Result ℕ E
u4_at cut bytes at = within cut bytes at 4 (u4 bytes at)

unfoldable pub part_at : {E : Type 0} → E → List ℕ → ℕ → ℕ → Result (List ℕ) E
part_at cut bytes at n = within cut bytes at n (part bytes at n)
