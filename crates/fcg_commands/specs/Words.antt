-- The words of a query, in the order in which they are checked: the releases, the part, the first row, and how many.
use Rattle.std.specs.Prelude.{ℕ, ◌+◌, ◌^◌, ◌&&◌, ◌-◌, min, nat_le, nat_lt, Bool, List, [], ◌∷◌, length, codes, Option, Some, None, Result, Ok, Err, if◌then◌else◌}
use Rattle.std.specs.List.{list_all}
use Rattle.std.specs.Char.{is_ascii_digit}
use Rattle.std.specs.Str.Parse.{digits_value}
use Rattle.fcg_grammar.specs.Reading.{◌>>=◌, unless_broken}
use Rattle.fcg_views.specs.Coordinate.{coordinate_of}
use Rattle.fcg_views.specs.Valid.{is_same}
use Rattle.fcg_views.specs.declared.coordinate.CoordinateFault.{CoordinateFault}
use Rattle.fcg_json.specs.declared.query.FieldName.TheVariants as fields
use Rattle.fcg_json.specs.declared.query.Page.{Page}
use Rattle.fcg_json.specs.declared.query.Page.TheVariants as pages
use Rattle.fcg_json.specs.declared.query.GraphQuery.{GraphQuery}
use Rattle.fcg_json.specs.declared.reply.Reply.{Reply}
use Rattle.fcg_json.specs.declared.reply.Reply.TheVariants.{BadField, BadCoordinate, TooManyReleases}

-- 1 to 20 digits, within 64 bits
abbrev pub is_number : List ℕ → Bool
is_number word = nat_lt 0 (length word) && (nat_le (length word) 20 && (list_all is_ascii_digit word && nat_lt (digits_value 10 word) (2 ^ 64)))

abbrev pub number_of : List ℕ → Option ℕ
number_of word = if is_number word then Some (digits_value 10 word) else None

-- a place among the releases, in 32 bits
abbrev pub place_of : ℕ → ℕ
place_of i = min i (2 ^ 32 - 1)

abbrev pub at_index : ℕ → Result (List ℕ) CoordinateFault → Result (List ℕ) Reply
at_index i (Ok c) = Ok c
at_index i (Err f) = Err (BadCoordinate i f)

-- the coordinates of texts, or the first text that is none
abbrev pub coordinates_from : ℕ → List (List ℕ) → Result (List (List ℕ)) Reply
coordinates_from i [] = Ok []
coordinates_from i (t ∷ ts) = do
  c ← at_index i (coordinate_of t)
  cs ← coordinates_from (i + 1) ts
  Ok (c ∷ cs)

-- at most 512
unfoldable pub releases_of_words : List (List ℕ) → Result (List (List ℕ)) Reply
releases_of_words texts = do
  few ← unless_broken (nat_le (length texts) 512) (TooManyReleases (place_of (length texts)))
  coordinates_from 0 texts

abbrev pub part_of : List ℕ → Result Page Reply
part_of word = if is_same word (codes "nodes") then Ok pages.Nodes else (if is_same word (codes "edges") then Ok pages.Edges else Err (BadField fields.Part))

abbrev pub number_or : Reply → Option ℕ → Result ℕ Reply
number_or refusal None = Err refusal
number_or refusal (Some n) = Ok n

-- the most rows of a page
abbrev pub most_rows : Page → ℕ
most_rows pages.Nodes = 1000
most_rows pages.Edges = 100000

-- from 1 to the most
abbrev pub count_of : Page → List ℕ → Result ℕ Reply
count_of part word = do
  n ← number_or (BadField fields.Count) (number_of word)
  within ← unless_broken (nat_lt 0 n && nat_le n (most_rows part)) (BadField fields.Count)
  Ok n

-- the query, or the first word that is wrong
unfoldable pub query_of_words : List ℕ → List ℕ → List ℕ → List (List ℕ) → Result GraphQuery Reply
query_of_words part_word from_word count_word texts = do
  set ← releases_of_words texts
  part ← part_of part_word
  from ← number_or (BadField fields.From) (number_of from_word)
  count ← count_of part count_word
  Ok (record { releases = record { releases = set }; part = part; from = from; count = count; min = 0 })
