-- Attributes (JVMS 4.7).
use Rattle.std.specs.Prelude.{ℕ, ◌+◌, List, take, is_none, Option, Some, None, Result, Ok, if◌then◌else◌}
use Rattle.fcg_grammar.specs.Reading.{◌>>=◌, unless_broken}
use Rattle.fcg_grammar.specs.Rows.{rows, ended}
use Rattle.fcg_classfile.specs.declared.fault.ClassFault.{ClassFault}
use Rattle.fcg_classfile.specs.declared.fault.ClassRule.{ClassRule}
use Rattle.fcg_classfile.specs.Breaks.Fault.{fault, at_place}
use Rattle.fcg_classfile.specs.Breaks.Number.{u2_at, u4_at, part_at}
use Rattle.fcg_classfile.specs.Breaks.Pool.{Entries, text_of}
use Rattle.fcg_views.specs.Valid.{is_same}

-- the same pool where other bytes are read
abbrev pub over : List ℕ → Entries → Entries
over bytes pool = record { bytes = bytes; slots = pool.slots }

-- the same pool where the bytes end at a place
abbrev pub up_to : ℕ → Entries → Entries
up_to end pool = over (take end pool.bytes) pool

-- the text of the Utf8 whose index stands at a place
unfoldable pub text_at : Entries → ℕ → Result (List ℕ) ClassFault
text_at pool at = do
  index ← u2_at pool.bytes at 0
  at_place at index (text_of pool index)

-- the place after the content of an attribute, whose length stands behind the name
unfoldable pub content_at : Entries → ℕ → Result ℕ ClassFault
content_at pool at = do
  n ← u4_at pool.bytes (at + 2) 0
  content ← part_at pool.bytes (at + 6) n 0
  Ok (at + 6 + n)

-- an attribute that is passed over by its length
unfoldable pub attribute_at : Entries → ℕ → ℕ → Result (Unit {0} × ℕ) ClassFault
attribute_at pool k at = do
  name ← text_at pool at
  after ← content_at pool at
  Ok (tt, after)

-- the place after the attributes whose count stands at a place
unfoldable pub attributes_at : Entries → ℕ → Result ℕ ClassFault
attributes_at pool at = do
  count ← u2_at pool.bytes at 0
  ended (rows (attribute_at pool) count 0 (at + 2))

-- ==== attributes of which one of a name is read, and the others are passed over

-- where the next attribute stands; and of the one that was read its place, and what it says
pub record AttributesBefore (X : Type 0) : Type 0 where
  pub at : ℕ
  pub read : Option (ℕ × X)

-- the name, the rule that a second one breaks, and what stands from a place up to the end of the content
module _ {X : Type 0} (word : List ℕ) (twice : ClassRule) (said_at : Entries → ℕ → Result X ClassFault) where
  unfoldable pub one_read_at : Entries → AttributesBefore X → Result (Unit {0} × AttributesBefore X) ClassFault
  one_read_at pool before = do
    once ← unless_broken (is_none before.read) (fault before.at 0 twice)
    after ← content_at pool before.at
    x ← said_at (up_to after pool) (before.at + 6)
    Ok (tt, record { at = after; read = Some (before.at, x) })

  abbrev pub other_at : Entries → AttributesBefore X → Result (Unit {0} × AttributesBefore X) ClassFault
  other_at pool before = content_at pool before.at >>= λ after. Ok (tt, record { at = after; read = before.read })

  unfoldable pub one_at : Entries → ℕ → AttributesBefore X → Result (Unit {0} × AttributesBefore X) ClassFault
  one_at pool k before = do
    name ← text_at pool before.at
    if is_same name word then one_read_at pool before else other_at pool before

  -- the attributes whose count stands at a place
  unfoldable pub ones_at : Entries → ℕ → Result (AttributesBefore X) ClassFault
  ones_at pool at = do
    n ← u2_at pool.bytes at 0
    ended (rows (one_at pool) n 0 (record { at = at + 2; read = None }))
