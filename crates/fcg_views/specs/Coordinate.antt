-- Coordinates of releases: what they are, and how they are read.
use Rattle.std.specs.Prelude.{◌≡◌, ℕ, ◌≤◌, ◌<◌, List, [], ◌∷◌, ◌++◌, length, codes, Bool, true, not, ◌&&◌, ◌||◌, ◌==◌, nat_le, Option, Some, None, Result, Ok, Err, if◌then◌else◌}
use Rattle.std.specs.Char.{is_ascii_alphanumeric}
use Rattle.std.specs.List.{list_any, position, AllByRecursion}
use Rattle.std.specs.Option.{option_map}
use Rattle.fcg_grammar.specs.Reading.{◌>>=◌, unless_broken}
use Rattle.fcg_views.specs.declared.coordinate.CoordinateFault.{CoordinateFault}
use Rattle.fcg_views.specs.declared.coordinate.CoordinateFault.TheVariants.{Colons, EmptyPart, BadByte, TooLong}

-- ==== what they are

-- letters, digits and `.` `_` `-` `+` `~`
abbrev pub is_part_byte : ℕ → Bool
is_part_byte b = is_ascii_alphanumeric b || list_any (λ c. c == b) (codes "._-+~")

abbrev pub IsPart : List ℕ → Type 0
IsPart part = (0 < length part) × AllByRecursion (λ b. is_part_byte b ≡ true) part

pub record Parts : Type 0 where
  pub group : List ℕ
  pub artifact : List ℕ
  pub version : List ℕ

pub record AreParts (p : Parts) : Type 0 where
  pub group : IsPart p.group
  pub artifact : IsPart p.artifact
  pub version : IsPart p.version

-- `group:artifact:version`
abbrev pub joined : Parts → List ℕ
joined p = p.group ++ 58 ∷ (p.artifact ++ 58 ∷ p.version)

pub record IsCoordinate (text : List ℕ) : Type 0 where
  pub parts : Parts
  pub are : AreParts parts
  pub spelled : joined parts ≡ text
  pub short : length text ≤ 255

-- ==== how they are read: the first of the rules, in their order, that a text breaks

-- the bytes before the first one that is b, and those after it; none where no byte is b
unfoldable pub parted : ℕ → List ℕ → Option (List ℕ × List ℕ)
parted b [] = None
parted b (x ∷ xs) = if x == b then Some ([], xs) else option_map (λ p. (x ∷ p.0, p.1)) (parted b xs)

abbrev pub found_or : {A E : Type 0} → Option A → E → Result A E
found_or None f = Err f
found_or (Some x) f = Ok x

abbrev pub is_colon : ℕ → Bool
is_colon b = b == 58

abbrev pub has_byte : List ℕ → Bool
has_byte part = not (length part == 0)

-- neither in a part, nor between two
abbrev pub is_bad : ℕ → Bool
is_bad b = not (is_colon b) && not (is_part_byte b)

abbrev pub none_bad : Option ℕ → Result (Unit {0}) CoordinateFault
none_bad None = Ok tt
none_bad (Some at) = Err (BadByte at)

unfoldable pub coordinate_of : List ℕ → Result (List ℕ) CoordinateFault
coordinate_of text = do
  short ← unless_broken (nat_le (length text) 255) TooLong
  first ← found_or (parted 58 text) Colons
  second ← found_or (parted 58 first.1) Colons
  last ← unless_broken (not (list_any is_colon second.1)) Colons
  filled ← unless_broken (has_byte first.0 && (has_byte second.0 && has_byte second.1)) EmptyPart
  kept ← none_bad (position is_bad text)
  Ok text

-- Either a coordinate, or broken with one fault.
pub data CoordinateVerdict (text : List ℕ) : Type 0 where
  IsRead : IsCoordinate text → ((f : CoordinateFault) → coordinate_of text ≡ Err f → ⊥) → CoordinateVerdict text
  IsBroken : (f : CoordinateFault) → coordinate_of text ≡ Err f → (IsCoordinate text → ⊥) → CoordinateVerdict text
