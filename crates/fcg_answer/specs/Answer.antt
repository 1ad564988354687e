-- What is answered to a query over a log.
use Rattle.std.specs.Prelude.{ℕ, ◌-◌, ◌^◌, min, nat_lt, List, [], length, map, take, drop, get_or, Result, Ok, Err, if◌then◌else◌}
use Rattle.fcg_views.specs.Set.{releases_of}
use Rattle.fcg_partial.specs.Parts.{PartShown, encoded_len}
use Rattle.fcg_analysis.specs.Declarations.{Placed}
use Rattle.fcg_analysis.specs.Nodes.{nodes, identity}
use Rattle.fcg_analysis.specs.Edges.{edges, phantoms, failed}
use Rattle.fcg_join.specs.Parts.{types_of}
use Rattle.fcg_json.specs.declared.query.Page.{Page}
use Rattle.fcg_json.specs.declared.query.Page.TheVariants as pages
use Rattle.fcg_json.specs.declared.query.GraphQuery.{GraphQuery}
use Rattle.fcg_json.specs.declared.reply.Reply.{Reply}
use Rattle.fcg_json.specs.declared.reply.Reply.TheVariants.{Releases, Edges, Nodes, AbsentRelease, Behind, SetTooLarge, GraphTooLarge}
use Rattle.fcg_book.specs.Log.{Log}
use Rattle.fcg_book.specs.Books.{index_of}
use Rattle.fcg_book.specs.Sets.{keys_of, parts_named, live_coordinates}
use Rattle.fcg_answer.specs.declared.query.Query.{Query}
use Rattle.fcg_answer.specs.declared.query.Query.TheVariants as queries

-- the rows from a place on, at most so many
abbrev pub page : {X : Type 0} → ℕ → ℕ → List X → List X
page from count rows = take count (drop from rows)

-- a page of the nodes or of the edges of some types, with their counts
abbrev pub page_of : Page → ℕ → GraphQuery → List Placed → Reply
page_of pages.Nodes at q types = Nodes at (length (edges types)) (failed types) q.from (length (nodes types)) (phantoms types) (page q.from q.count (map identity (nodes types)))
page_of pages.Edges at q types = Edges at (length (edges types)) (failed types) q.from (length (nodes types)) (phantoms types) (page q.from q.count (edges types))

-- the graph of a set, by the releases that are live: it is too large, or else a page of it
abbrev pub graph_of_parts : ℕ → GraphQuery → List PartShown → Reply
graph_of_parts at q parts =
    if nat_lt 268435456 (encoded_len parts) then SetTooLarge (min (encoded_len parts) (2 ^ 64 - 1))
    else (if nat_lt 32000000 (length (edges (types_of parts))) then GraphTooLarge 32000000
    else page_of q.part at q (types_of parts))

-- by the numbers of the live entries of a set, or the first place that isn't live, which has 32 bits
abbrev pub graph_by : Log → GraphQuery → Result (List ℕ) ℕ → Reply
graph_by log q (Err i) = AbsentRelease (length log) (get_or (releases_of q.releases) (index_of i) [])
graph_by log q (Ok key) = graph_of_parts (length log) q (parts_named log key)

-- A log that is behind answers nothing else.
abbrev pub graph_answer : Log → GraphQuery → Reply
graph_answer log q = if nat_lt (length log) q.min then Behind (length log) else graph_by log q (keys_of log (releases_of q.releases))

-- What is answered to a query.
unfoldable pub answer : Log → Query → Reply
answer log (queries.Graph q) = graph_answer log q
answer log queries.Releases = Releases (length log) (record { releases = live_coordinates log })
