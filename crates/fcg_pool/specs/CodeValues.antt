-- The structs of the code, as those of the definition.
use Rattle.std.specs.Prelude.{◌≡◌, ◌+◌, ◌-◌, ◌^◌, ◌≤◌, ℕ, List, length, min, Option, Some, None, Result, Ok}
use Rattle.fcg_grammar.specs.Number.{part}
use Rattle.fcg_grammar.specs.Reading.{◌>>=◌}
use Rattle.fcg_classfile.specs.declared.fault.PoolRule.{PoolRule}
use Rattle.fcg_classfile.specs.ClassFile.{Constant, Utf8, Plain, Named, Pair, Handle}
use Rattle.fcg_classfile.specs.Breaks.Pool as pool
use Rattle.fcg_pool.specs.declared.pool.RefSpan.{RefSpan}
use Rattle.fcg_pool.specs.declared.pool.Text.{Text}
use Rattle.fcg_pool.specs.declared.pool.RefTexts.{RefTexts}

abbrev pub span_of : RefSpan → pool.Reference
span_of r = record { tag = r.tag; owner = r.owner.now; name = r.name.now; desc = r.desc.now }

-- a text is that of the Utf8 at its index, and stands at its place in the file
abbrev pub IsTextOf : pool.Entries → Text → Type 0
IsTextOf p t =
    (pool.text_of p t.index ≡ Ok t.bytes.now)
    × (part p.bytes t.at (length t.bytes.now) ≡ t.bytes.now)
    × (t.at + length t.bytes.now ≤ length p.bytes)

-- so are those of a reference
abbrev pub AreRefTexts : pool.Entries → RefTexts → Type 0
AreRefTexts p x = IsTextOf p x.owner × IsTextOf p x.name × IsTextOf p x.desc

abbrev pub reference_texts : RefTexts → pool.Reference
reference_texts x = record { tag = x.tag; owner = x.owner.bytes.now; name = x.name.bytes.now; desc = x.desc.bytes.now }

-- the name of the Class at an index
abbrev pub class_name_of : pool.Entries → ℕ → Result (List ℕ) PoolRule
class_name_of p index = pool.name_of p index >>= pool.text_of p

-- the kind of the MethodHandle at an index, and the index of what it names
abbrev pub handle_pair_of : pool.Entries → ℕ → Result (ℕ × ℕ) PoolRule
handle_pair_of p index = pool.constant_of p index >>= pool.handle_in

-- the kind of a method handle, and the index of what it names; a constant of another tag has none
abbrev pub handle_indexes_in : Constant → Option (ℕ × ℕ)
handle_indexes_in (Utf8 text) = None
handle_indexes_in (Plain tag bytes) = None
handle_indexes_in (Named tag i) = None
handle_indexes_in (Pair tag i j) = None
handle_indexes_in (Handle kind i) = Some (kind, i)

-- the same of the constant at an index
abbrev pub handle_indexes_of : pool.Entries → ℕ → Result (Option (ℕ × ℕ)) PoolRule
handle_indexes_of p index = pool.constant_of p index >>= λ c. Ok (handle_indexes_in c)

-- a place that is too large for its field is given as the field's last value
abbrev pub place_given : ℕ → ℕ
place_given at = min at (2 ^ 32 - 1)
