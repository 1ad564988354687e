-- The names that are printed.
use Rattle.std.specs.Prelude.{ℕ, List, [], ◌∷◌, codes, get_or}
use Rattle.fcg_views.specs.declared.coordinate.CoordinateFault.{CoordinateFault}
use Rattle.fcg_views.specs.declared.coordinate.CoordinateFault.TheVariants as coordinate_faults
use Rattle.fcg_views.specs.declared.uri.UriRule.{UriRule}
use Rattle.fcg_views.specs.declared.uri.UriRule.TheVariants as uri_rules
use Rattle.fcg_json.specs.declared.query.FieldName.{FieldName}
use Rattle.fcg_json.specs.declared.query.FieldName.TheVariants as fields
use Rattle.fcg_json.specs.declared.reply.Allow.{Allow}
use Rattle.fcg_json.specs.declared.reply.Allow.TheVariants as methods
use Rattle.fcg_json.specs.declared.reply.CommandOutcome.{CommandOutcome}
use Rattle.fcg_json.specs.declared.reply.CommandOutcome.TheVariants as outcomes

abbrev pub outcome_name : CommandOutcome → List ℕ
outcome_name outcomes.Entered = codes "entered"
outcome_name outcomes.Repeated = codes "repeated"
outcome_name outcomes.Standing = codes "standing"

abbrev pub field_name : FieldName → List ℕ
field_name fields.Body = codes "body"
field_name fields.Releases = codes "releases"
field_name fields.Target = codes "target"
field_name fields.Part = codes "part"
field_name fields.From = codes "from"
field_name fields.Count = codes "count"
field_name fields.Min = codes "min"

-- the methods of a path, as the header `allow` has them
abbrev pub allow_text : Allow → List ℕ
allow_text methods.Get = codes "GET"
allow_text methods.PutDelete = codes "PUT, DELETE"
allow_text methods.Post = codes "POST"

abbrev pub coordinate_rule_name : CoordinateFault → List ℕ
coordinate_rule_name coordinate_faults.Colons = codes "Colons"
coordinate_rule_name coordinate_faults.EmptyPart = codes "EmptyPart"
coordinate_rule_name (coordinate_faults.BadByte at) = codes "BadByte"
coordinate_rule_name coordinate_faults.TooLong = codes "TooLong"

-- the place of the byte that may not stand there, and 0 where another rule is broken
abbrev pub bad_byte_place : CoordinateFault → ℕ
bad_byte_place coordinate_faults.Colons = 0
bad_byte_place coordinate_faults.EmptyPart = 0
bad_byte_place (coordinate_faults.BadByte at) = at
bad_byte_place coordinate_faults.TooLong = 0

abbrev pub uri_rule_name : UriRule → List ℕ
uri_rule_name uri_rules.Scheme = codes "Scheme"
uri_rule_name uri_rules.Coordinate = codes "Coordinate"
uri_rule_name uri_rules.Shape = codes "Shape"
uri_rule_name uri_rules.Escape = codes "Escape"
uri_rule_name uri_rules.Descriptor = codes "Descriptor"

-- ==== rules by their numbers

-- the n-th of these names, from 1; the empty text where n is 0 or past the last
abbrev pub name_of : List (List ℕ) → ℕ → List ℕ
name_of names n = get_or ([] ∷ names) n []

unfoldable pub bundle_rule_name : ℕ → List ℕ
bundle_rule_name = name_of (codes "Magic" ∷ codes "Version" ∷ codes "Cut" ∷ codes "Path" ∷ codes "Trailing" ∷ codes "ManySites" ∷ [])

unfoldable pub class_rule_name : ℕ → List ℕ
class_rule_name = name_of (codes "Magic" ∷ codes "Version" ∷ codes "Cut" ∷ codes "BadTag" ∷ codes "BadUtf8" ∷ codes "BadIndex" ∷ codes "WrongKind" ∷ codes "Descriptor" ∷ codes "EmptyName" ∷ codes "DoubleMethod" ∷ codes "DoubleCode" ∷ codes "CodeLength" ∷ codes "CodeCut" ∷ codes "BadOpcode" ∷ codes "BadSwitch" ∷ codes "BadWide" ∷ codes "Bootstrap" ∷ codes "Trailing" ∷ codes "ManySites" ∷ [])

unfoldable pub record_rule_name : ℕ → List ℕ
record_rule_name = name_of (codes "Magic" ∷ codes "Version" ∷ codes "Cut" ∷ codes "Order" ∷ codes "Index" ∷ codes "Kind" ∷ codes "DoubleMethod" ∷ codes "ManySites" ∷ codes "Trailing" ∷ codes "Unused" ∷ codes "Coordinate" ∷ codes "Number" ∷ codes "Withdraw" ∷ codes "Limit" ∷ codes "Command" ∷ [])
