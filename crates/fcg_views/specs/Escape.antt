-- How names are escaped in the texts that are printed.
use Rattle.std.specs.Prelude.{ℕ, ◌+◌, ◌-◌, ◌*◌, Bool, true, ◌||◌, ◌&&◌, ◌==◌, nat_le, List, [], ◌∷◌, ◌/◌, ◌%◌, codes, Option, Some, None, Result, Ok, Err, if◌then◌else◌}
use Rattle.std.specs.List.{flat_map, list_any}
use Rattle.std.specs.Char.{is_ascii_alphanumeric}
use Rattle.std.specs.Fmt.{digit_glyph}
use Rattle.fcg_views.specs.declared.escaping.Place.{Place}
use Rattle.fcg_views.specs.declared.escaping.Place.TheVariants.{Class, Member, Desc}

-- the bytes beside letters and digits that stand as they are
abbrev pub others : Place → List ℕ
others Class = codes "_-$/"
others Member = codes "_-$"
others Desc = codes "_-$/();["

abbrev pub may_stand : Place → ℕ → Bool
may_stand place b = is_ascii_alphanumeric b || list_any (λ c. c == b) (others place)

-- `%` and two upper-case hexadecimal digits
abbrev pub escape_of : ℕ → List ℕ
escape_of b = 37 ∷ digit_glyph true (b / 16) ∷ digit_glyph true (b % 16) ∷ []

-- the text of a name at a place
unfoldable pub escaped : Place → List ℕ → List ℕ
escaped place bytes = flat_map (λ b. if may_stand place b then b ∷ [] else escape_of b) bytes

-- ==== how they are read back

-- the number of an upper-case hexadecimal digit
abbrev pub digit_of : ℕ → Option ℕ
digit_of c =
    if nat_le 48 c && nat_le c 57 then Some (c - 48) else (if nat_le 65 c && nat_le c 70 then Some (c - 55) else None)

-- the byte that two digits name
abbrev pub byte_of : Option ℕ → Option ℕ → Option ℕ
byte_of None low = None
byte_of (Some high) None = None
byte_of (Some high) (Some low) = Some (high * 16 + low)

-- a byte that may stand isn't escaped
abbrev pub unless_standing : Place → Option ℕ → Option ℕ
unless_standing place None = None
unless_standing place (Some b) = if may_stand place b then None else Some b

-- the byte that is escaped as these three
abbrev pub escaped_as : Place → ℕ → ℕ → ℕ → Option ℕ
escaped_as place percent high low =
    if percent == 37 then unless_standing place (byte_of (digit_of high) (digit_of low)) else None

-- a byte, and those after it
abbrev pub followed : {E : Type 0} → ℕ → Result (List ℕ) E → Result (List ℕ) E
followed b (Ok bytes) = Ok (b ∷ bytes)
followed b (Err at) = Err at

-- an escape's byte and those after it; or the escape's place, where it is none
abbrev pub followed_or : Option ℕ → ℕ → Result (List ℕ) ℕ → Result (List ℕ) ℕ
followed_or None at rest = Err at
followed_or (Some b) at rest = followed b rest

-- The name that a text at a place is escaped from, where the text begins at a number. The error is the number of the
-- first byte that breaks a rule: one that neither stands as it is nor begins an escape of a byte that may not.
unfoldable pub unescaped : Place → ℕ → List ℕ → Result (List ℕ) ℕ
unescaped place at [] = Ok []
unescaped place at (b ∷ []) = if may_stand place b then Ok (b ∷ []) else Err at
unescaped place at (b ∷ c ∷ []) = if may_stand place b then followed b (unescaped place (at + 1) (c ∷ [])) else Err at
unescaped place at (b ∷ c ∷ d ∷ rest) =
    if may_stand place b then followed b (unescaped place (at + 1) (c ∷ d ∷ rest))
    else followed_or (escaped_as place b c d) at (unescaped place (at + 3) rest)

-- the byte that a text begins with, and how many bytes of the text it takes
abbrev pub sized : ℕ → Option ℕ → Option (ℕ × ℕ)
sized n None = None
sized n (Some b) = Some (b, n)

abbrev pub front : Place → List ℕ → Option (ℕ × ℕ)
front place [] = None
front place (b ∷ []) = if may_stand place b then Some (b, 1) else None
front place (b ∷ c ∷ []) = if may_stand place b then Some (b, 1) else None
front place (b ∷ c ∷ d ∷ rest) = if may_stand place b then Some (b, 1) else sized 3 (escaped_as place b c d)
