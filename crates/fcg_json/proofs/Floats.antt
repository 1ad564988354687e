-- No reply has a number that isn't whole.
use Rattle.std.proofs.Common.{◌≡◌, ℕ, List, [], ◌∷◌, false, refl, map}
use Rattle.serde_json.specs.Data.{string}
use Rattle.serde_json.specs.View.{items_of}
use Rattle.serde_json.specs.Written.{has_float, items_have_float}
use Rattle.fcg_views.specs.Set.{releases_of}
use Rattle.fcg_views.specs.declared.uri.MethodUri.{MethodUri}
use Rattle.fcg_json.specs.Reply.{pair_data, node_data, command_data, releases_data, page_data, reply_data}
use Rattle.fcg_json.specs.declared.reply.Reply.{Reply}
use Rattle.fcg_json.specs.declared.reply.Reply.TheVariants as replies

pairs_have_none : (rows : List (ℕ × ℕ)) → items_have_float (items_of (map pair_data rows)) ≡ false
pairs_have_none [] = refl
pairs_have_none (r ∷ rows) = pairs_have_none rows

texts_have_none : (texts : List (List ℕ)) → items_have_float (items_of (map string texts)) ≡ false
texts_have_none [] = refl
texts_have_none (t ∷ texts) = texts_have_none texts

nodes_have_none : (rows : List MethodUri) → items_have_float (items_of (map node_data rows)) ≡ false
nodes_have_none [] = refl
nodes_have_none (r ∷ rows) = nodes_have_none rows

pub no_floats : (reply : Reply) → has_float (reply_data reply) ≡ false
unfolding command_data releases_data page_data reply_data
no_floats (replies.Command at entry outcome) = refl
no_floats (replies.Releases at releases) = rw (texts_have_none (releases_of releases)) refl
no_floats (replies.Edges at edges failed from nodes phantoms rows) = rw (pairs_have_none rows) refl
no_floats (replies.Nodes at edges failed from nodes phantoms rows) = rw (nodes_have_none rows) refl
no_floats replies.BadHead = refl
no_floats replies.BadLength = refl
no_floats replies.BadNumber = refl
no_floats replies.NotJson = refl
no_floats replies.NoRoute = refl
no_floats replies.NoLength = refl
no_floats replies.Jar = refl
no_floats replies.Coded = refl
no_floats replies.KeeperFailed = refl
no_floats replies.NoMemory = refl
no_floats replies.Absent = refl
no_floats replies.TooLong = refl
no_floats (replies.MissingField name) = refl
no_floats (replies.BadField name) = refl
no_floats (replies.TooManyReleases count) = refl
no_floats (replies.BadCoordinate index fault) = refl
no_floats (replies.BadUri fault) = refl
no_floats (replies.WrongMethod allow) = refl
no_floats (replies.BodyTooLong limit) = refl
no_floats (replies.BadBundle entry offset rule) = refl
no_floats (replies.BadClass entry index offset rule) = refl
no_floats (replies.AbsentRelease at coordinate) = refl
no_floats (replies.RequestClash entry) = refl
no_floats (replies.Behind at) = refl
no_floats (replies.StoreDiffers seq) = refl
no_floats (replies.ReleaseTooLarge bytes) = refl
no_floats (replies.StoreFull bytes) = refl
no_floats (replies.SetTooLarge bytes) = refl
no_floats (replies.LogFull entries) = refl
no_floats (replies.GraphTooLarge limit) = refl
no_floats (replies.BadPath entry) = refl
no_floats (replies.BadRecord rule seq) = refl
no_floats (replies.Sequence seq) = refl
