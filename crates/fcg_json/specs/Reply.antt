-- Replies: from a reply to the value of its JSON, and from there to its text.
use Rattle.std.specs.Prelude.{ℕ, List, codes, map}
use Rattle.serde_json.specs.Data.{Data, object, Members, member, no_members, number, unsigned, string, array, item, no_items}
use Rattle.serde_json.specs.View.{items_of}
use Rattle.serde_json.specs.Written.{compact_text}
use Rattle.fcg_views.specs.declared.coordinate.CoordinateFault.{CoordinateFault}
use Rattle.fcg_views.specs.declared.uri.MethodUri.{MethodUri}
use Rattle.fcg_views.specs.declared.uri.UriFault.{UriFault}
use Rattle.fcg_views.specs.Set.{releases_of}
use Rattle.fcg_views.specs.Uri.{uri_text}
use Rattle.fcg_json.specs.declared.query.FieldName.{FieldName}
use Rattle.fcg_json.specs.declared.reply.CommandOutcome.{CommandOutcome}
use Rattle.fcg_json.specs.declared.reply.Reply.{Reply}
use Rattle.fcg_json.specs.declared.reply.Reply.TheVariants as replies
use Rattle.fcg_json.specs.Names.{outcome_name, field_name, coordinate_rule_name, uri_rule_name, bundle_rule_name, class_rule_name, record_rule_name, bad_byte_place}

-- ==== values

-- a field that is a whole number, and those after it
abbrev pub whole_field : List ℕ → ℕ → Members → Members
whole_field name n after = member name (number (unsigned n)) after

-- a field that is a text, and those after it
abbrev pub text_field : List ℕ → List ℕ → Members → Members
text_field name text after = member name (string text) after

-- the name of a fault, and the fields after it
abbrev pub fault_field : List ℕ → Members → Members
fault_field name after = text_field (codes "fault") name after

-- ==== answers

-- `{"at":n,"entry":e,"outcome":o}`
unfoldable pub command_data : ℕ → ℕ → CommandOutcome → Data
command_data at entry outcome =
    object (whole_field (codes "at") at (whole_field (codes "entry") entry (text_field (codes "outcome") (outcome_name outcome) no_members)))

-- `{"at":n,"releases":[..]}`
unfoldable pub releases_data : ℕ → List (List ℕ) → Data
releases_data at releases =
    object (whole_field (codes "at") at (member (codes "releases") (array (items_of (map string releases))) no_members))

-- `[a,b]`
abbrev pub pair_data : ℕ × ℕ → Data
pair_data p = array (item (number (unsigned p.0)) (item (number (unsigned p.1)) no_items))

-- a method is its URI
abbrev pub node_data : MethodUri → Data
node_data u = string (uri_text u)

-- what a page says of its graph
pub record Totals : Type 0 where
  pub edges : ℕ
  pub failed : ℕ
  pub nodes : ℕ
  pub phantoms : ℕ

-- `{"at":n,"edges":E,"failed":F,"from":f,"nodes":N,"part":"..","phantoms":P,"rows":[..]}`
unfoldable pub page_data : ℕ → Totals → ℕ → List ℕ → List Data → Data
page_data at totals from part rows =
    object (whole_field (codes "at") at (whole_field (codes "edges") totals.edges (whole_field (codes "failed") totals.failed (whole_field (codes "from") from
    (whole_field (codes "nodes") totals.nodes (text_field (codes "part") part (whole_field (codes "phantoms") totals.phantoms
    (member (codes "rows") (array (items_of rows)) no_members))))))))

-- ==== refusals

-- `{"fault":".."}`
abbrev pub refusal_data : List ℕ → Data
refusal_data fault = object (fault_field fault no_members)

abbrev pub field_refusal_data : List ℕ → FieldName → Data
field_refusal_data fault name = object (fault_field fault (text_field (codes "name") (field_name name) no_members))

-- one whole number, before the fault or after it
abbrev pub before_data : List ℕ → ℕ → List ℕ → Data
before_data name n fault = object (whole_field name n (fault_field fault no_members))

abbrev pub after_data : List ℕ → List ℕ → ℕ → Data
after_data fault name n = object (fault_field fault (whole_field name n no_members))

abbrev pub coordinate_data : ℕ → CoordinateFault → Data
coordinate_data index f =
    object (fault_field (codes "BadCoordinate") (whole_field (codes "index") index (whole_field (codes "offset") (bad_byte_place f) (text_field (codes "rule") (coordinate_rule_name f) no_members))))

abbrev pub uri_data : UriFault → Data
uri_data f = object (fault_field (codes "BadUri") (whole_field (codes "offset") f.offset (text_field (codes "rule") (uri_rule_name f.rule) no_members)))

abbrev pub bundle_data : ℕ → ℕ → ℕ → Data
bundle_data entry offset rule =
    object (whole_field (codes "entry") entry (fault_field (codes "BadBundle") (whole_field (codes "offset") offset (text_field (codes "rule") (bundle_rule_name rule) no_members))))

abbrev pub class_data : ℕ → ℕ → ℕ → ℕ → Data
class_data entry index offset rule =
    object (whole_field (codes "entry") entry (fault_field (codes "BadClass") (whole_field (codes "index") index (whole_field (codes "offset") offset (text_field (codes "rule") (class_rule_name rule) no_members)))))

abbrev pub absent_data : ℕ → List ℕ → Data
absent_data at coordinate =
    object (whole_field (codes "at") at (text_field (codes "coordinate") coordinate (fault_field (codes "AbsentRelease") no_members)))

abbrev pub record_data : ℕ → ℕ → Data
record_data rule seq = object (fault_field (codes "BadRecord") (text_field (codes "rule") (record_rule_name rule) (whole_field (codes "seq") seq no_members)))

-- ==== each reply

-- the value of a reply: each object's fields stand in the order of their bytes
unfoldable pub reply_data : Reply → Data
reply_data (replies.Command at entry outcome) = command_data at entry outcome
reply_data (replies.Releases at releases) = releases_data at (releases_of releases)
reply_data (replies.Edges at edges failed from nodes phantoms rows) = page_data at (record { edges = edges; failed = failed; nodes = nodes; phantoms = phantoms }) from (codes "edges") (map pair_data rows)
reply_data (replies.Nodes at edges failed from nodes phantoms rows) = page_data at (record { edges = edges; failed = failed; nodes = nodes; phantoms = phantoms }) from (codes "nodes") (map node_data rows)
reply_data replies.BadHead = refusal_data (codes "BadHead")
reply_data replies.BadLength = refusal_data (codes "BadLength")
reply_data replies.BadNumber = refusal_data (codes "BadNumber")
reply_data replies.NotJson = refusal_data (codes "NotJson")
reply_data replies.NoRoute = refusal_data (codes "NoRoute")
reply_data replies.NoLength = refusal_data (codes "NoLength")
reply_data replies.Jar = refusal_data (codes "Jar")
reply_data replies.Coded = refusal_data (codes "Coded")
reply_data replies.KeeperFailed = refusal_data (codes "KeeperFailed")
reply_data replies.NoMemory = refusal_data (codes "NoMemory")
reply_data replies.Absent = refusal_data (codes "Absent")
reply_data replies.TooLong = refusal_data (codes "TooLong")
reply_data (replies.MissingField name) = field_refusal_data (codes "MissingField") name
reply_data (replies.BadField name) = field_refusal_data (codes "BadField") name
reply_data (replies.TooManyReleases count) = before_data (codes "count") count (codes "TooManyReleases")
reply_data (replies.BadCoordinate index fault) = coordinate_data index fault
reply_data (replies.BadUri fault) = uri_data fault
reply_data (replies.WrongMethod allow) = refusal_data (codes "WrongMethod")
reply_data (replies.BodyTooLong limit) = after_data (codes "BodyTooLong") (codes "limit") limit
reply_data (replies.BadBundle entry offset rule) = bundle_data entry offset rule
reply_data (replies.BadClass entry index offset rule) = class_data entry index offset rule
reply_data (replies.AbsentRelease at coordinate) = absent_data at coordinate
reply_data (replies.RequestClash entry) = before_data (codes "entry") entry (codes "RequestClash")
reply_data (replies.Behind at) = before_data (codes "at") at (codes "Behind")
reply_data (replies.StoreDiffers seq) = after_data (codes "StoreDiffers") (codes "seq") seq
reply_data (replies.ReleaseTooLarge bytes) = before_data (codes "bytes") bytes (codes "ReleaseTooLarge")
reply_data (replies.StoreFull bytes) = before_data (codes "bytes") bytes (codes "StoreFull")
reply_data (replies.SetTooLarge bytes) = before_data (codes "bytes") bytes (codes "SetTooLarge")
reply_data (replies.LogFull entries) = before_data (codes "entries") entries (codes "LogFull")
reply_data (replies.GraphTooLarge limit) = after_data (codes "GraphTooLarge") (codes "limit") limit
reply_data (replies.BadPath entry) = before_data (codes "entry") entry (codes "BadPath")
reply_data (replies.BadRecord rule seq) = record_data rule seq
reply_data (replies.Sequence seq) = after_data (codes "Sequence") (codes "seq") seq

-- its text, which has no space between what it is made of
abbrev pub text_of_reply : Reply → List ℕ
text_of_reply reply = compact_text (reply_data reply)
