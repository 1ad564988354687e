-- Which words give which command.
use Rattle.std.specs.Prelude.{ℕ, List, [], ◌∷◌, length, Bool, not, ◌&&◌, ◌==◌, nat_eq, codes, Option, Some, None, if◌then◌else◌}
use Rattle.std.specs.List.{starts_with}
use Rattle.std.specs.Cmp.Lexicographic.{pointwise}
use Rattle.fcg_top.specs.declared.words.Listing.{Listing}
use Rattle.fcg_top.specs.declared.words.Listing.TheVariants as listings
use Rattle.fcg_top.specs.declared.words.Command.{Command}
use Rattle.fcg_top.specs.declared.words.Command.TheVariants as commands

-- what is asked for: a listing of a bundle, or a folder's bundle
pub data Asked : Type 0 where
  Prints : Listing → Asked
  Packs : List ℕ → Asked

abbrev pub is_word : List ℕ → List ℕ → Bool
is_word word name = pointwise nat_eq word name

-- neither empty nor an option, which begins with a hyphen
abbrev pub is_argument : List ℕ → Bool
is_argument word = not (length word == 0) && not (starts_with nat_eq word (codes "-"))

abbrev pub listing_named : List ℕ → Option Asked
listing_named word = if is_word word (codes "list") then Some (Prints listings.List) else (if is_word word (codes "sites") then Some (Prints listings.Sites) else None)

-- `list`; `sites`; `pack FOLDER`
abbrev pub command_of : List (List ℕ) → Option Asked
command_of (word ∷ []) = listing_named word
command_of (word ∷ folder ∷ []) = if is_word word (codes "pack") && is_argument folder then Some (Packs folder) else None
command_of words = None

-- a command as what is asked for
abbrev pub asked_by : Command → Asked
asked_by (commands.Print listing) = Prints listing
asked_by (commands.Pack folder) = Packs folder.now
