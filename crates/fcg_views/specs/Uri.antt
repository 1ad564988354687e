-- URIs of methods: what they are, and how they are read.
use Rattle.std.specs.Prelude.{◌≡◌, ℕ, ◌+◌, ◌-◌, ◌≤◌, ◌<◌, ◌^◌, min, List, ◌∷◌, ◌++◌, length, take, drop, codes, not, nat_eq, Option, Some, None, Result, Ok, Err, if◌then◌else◌}
use Rattle.std.specs.Cmp.Lexicographic.{pointwise}
use Rattle.std.specs.List.{list_any}
use Rattle.fcg_grammar.specs.Reading.{◌>>=◌, unless_broken}
use Rattle.fcg_grammar.specs.Spell.{IsBytes}
use Rattle.fcg_views.specs.declared.escaping.Place.TheVariants.{Class, Member, Desc}
use Rattle.fcg_views.specs.declared.coordinate.CoordinateFault.{CoordinateFault}
use Rattle.fcg_views.specs.declared.uri.MethodUri.{MethodUri}
use Rattle.fcg_views.specs.declared.uri.UriFault.{UriFault}
use Rattle.fcg_views.specs.declared.uri.UriRule.{UriRule}
use Rattle.fcg_views.specs.declared.uri.UriRule.TheVariants as rules
use Rattle.fcg_views.specs.Coordinate.{Parts, AreParts, joined, parted, found_or, is_colon, has_byte, coordinate_of}
use Rattle.fcg_views.specs.Descriptor.{IsDescriptor}
use Rattle.fcg_views.specs.DescriptorSteps.{is_descriptor}
use Rattle.fcg_views.specs.Escape.{escaped, unescaped}

-- ==== what they are

abbrev pub scheme : List ℕ
scheme = codes "fasten://mvn!"

-- `group:artifact$version`
abbrev pub in_uri : Parts → List ℕ
in_uri p = p.group ++ 58 ∷ (p.artifact ++ 36 ∷ p.version)

-- a coordinate in its place, `/`, the class, `.`, the name and the descriptor
abbrev pub with_coordinate : List ℕ → MethodUri → List ℕ
with_coordinate coordinate u =
    scheme ++ coordinate ++ codes "/" ++ escaped Class u.class ++ codes "." ++ escaped Member u.name ++ escaped Desc u.desc

-- The text is the URI's.
pub record Spells (text : List ℕ) (u : MethodUri) : Type 0 where
  pub parts : Parts
  pub are : AreParts parts
  pub coordinate : joined parts ≡ u.coordinate
  pub short : length u.coordinate ≤ 255
  pub spelled : with_coordinate (in_uri parts) u ≡ text

-- the same text as a function: `$` in place of the coordinate's second colon
abbrev pub second_replaced : List ℕ → Option (List ℕ × List ℕ) → List ℕ
second_replaced rest None = rest
second_replaced rest (Some p) = p.0 ++ codes "$" ++ p.1

abbrev pub after_first : List ℕ → Option (List ℕ × List ℕ) → List ℕ
after_first text None = text
after_first text (Some p) = p.0 ++ codes ":" ++ second_replaced p.1 (parted 58 p.1)

unfoldable pub with_dollar : List ℕ → List ℕ
with_dollar coordinate = after_first coordinate (parted 58 coordinate)

unfoldable pub uri_text : MethodUri → List ℕ
uri_text u = with_coordinate (with_dollar u.coordinate) u

-- A method can be named so.
pub record IsMethod (u : MethodUri) : Type 0 where
  pub class : (0 < length u.class) × IsBytes u.class
  pub name : (0 < length u.name) × IsBytes u.name
  pub desc : IsDescriptor u.desc × IsBytes u.desc

-- The text is a URI, and names this method.
pub record Names (text : List ℕ) (u : MethodUri) : Type 0 where
  pub spells : Spells text u
  pub method : IsMethod u

-- ==== how they are read: from front to back, up to the first rule that is broken

-- a place that is too large for its field is given as the field's last value
abbrev pub fault : ℕ → UriRule → UriFault
fault at rule = record { offset = min at (2 ^ 32 - 1); rule = rule }

-- what follows the scheme
abbrev pub after_scheme : List ℕ → Option (List ℕ)
after_scheme text = if pointwise nat_eq (take 13 text) scheme then Some (drop 13 text) else None

abbrev pub broken_coordinate : Result (List ℕ) CoordinateFault → Result (List ℕ) UriFault
broken_coordinate (Ok text) = Ok text
broken_coordinate (Err f) = Err (fault 13 rules.Coordinate)

-- the coordinate that is written so
unfoldable pub coordinate_in : List ℕ → Result (List ℕ) UriFault
coordinate_in text = do
  cut ← found_or (parted 36 text) (fault 13 rules.Coordinate)
  last ← unless_broken (not (list_any is_colon cut.1)) (fault 13 rules.Coordinate)
  broken_coordinate (coordinate_of (cut.0 ++ codes ":" ++ cut.1))

-- a part that goes up to a byte, and what follows that byte: it begins at a place of a text that has so many bytes
unfoldable pub part_to : ℕ → ℕ → ℕ → List ℕ → Result (List ℕ × List ℕ) UriFault
part_to byte end at rest = do
  part ← found_or (parted byte rest) (fault end rules.Shape)
  some ← unless_broken (has_byte part.0) (fault at rules.Shape)
  Ok part

abbrev pub at_escape : Result (List ℕ) ℕ → Result (List ℕ) UriFault
at_escape (Ok bytes) = Ok bytes
at_escape (Err at) = Err (fault at rules.Escape)

-- the method whose class begins at a place, where these are its parts, escaped
unfoldable pub method_of : List ℕ → ℕ → List ℕ → List ℕ → List ℕ → Result MethodUri UriFault
method_of coordinate at class name desc = do
  c ← at_escape (unescaped Class at class)
  n ← at_escape (unescaped Member (at + length class + 1) name)
  d ← at_escape (unescaped Desc (at + length class + 1 + length name) desc)
  described ← unless_broken (is_descriptor d) (fault (at + length class + 1 + length name) rules.Descriptor)
  Ok (record { coordinate = coordinate; class = c; name = n; desc = d })

-- what follows the coordinate, where the class begins at a place of a text that has so many bytes
unfoldable pub member_at : List ℕ → ℕ → ℕ → List ℕ → Result MethodUri UriFault
member_at coordinate end at rest = do
  class ← part_to 46 end at rest
  name ← part_to 40 end (at + length class.0 + 1) class.1
  method_of coordinate at class.0 name.0 (drop (length name.0) class.1)

unfoldable pub uri_of : List ℕ → Result MethodUri UriFault
uri_of text = do
  rest ← found_or (after_scheme text) (fault 0 rules.Scheme)
  front ← found_or (parted 47 rest) (fault (length text) rules.Shape)
  coordinate ← coordinate_in front.0
  member_at coordinate (length text) (13 + length front.0 + 1) front.1

-- Either the URI of one method, or broken with one fault.
pub data UriVerdict (text : List ℕ) : Type 0 where
  IsRead : (u : MethodUri) → Names text u → ((other : MethodUri) → Names text other → other ≡ u) → ((f : UriFault) → uri_of text ≡ Err f → ⊥) → UriVerdict text
  IsBroken : (f : UriFault) → uri_of text ≡ Err f → ((u : MethodUri) → Names text u → ⊥) → UriVerdict text
