-- Names that are collected by the numbers of texts.
use Rattle.std.specs.Prelude.{◌≡◌, ℕ, ◌<◌, List, ◌++◌, length, map, Option, None, IfSome, slice_index_or}
use Rattle.std.specs.List.{AllByRecursion, Contains}
use Rattle.fcg_partial.specs.Views.{name_in}

-- the text of a number is a name
abbrev pub IsTextOf : List (List ℕ) → ℕ → List ℕ → Type 0
IsTextOf texts n name = (n < length texts) × (name_in texts n ≡ name)

-- texts to which a name was added, unless it was there, and the number of its text
pub record Extends (old new : List (List ℕ)) (name : List ℕ) (n : ℕ) : Type 0 where
  pub more : List (List ℕ)
  pub new_is : new ≡ old ++ more
  pub each : AllByRecursion (λ x. x ≡ name) more
  pub is : IsTextOf new n name

-- each number has a text, and each text is the one of a number
pub record AreMentions (texts : List (List ℕ)) (numbers : List ℕ) : Type 0 where
  pub below : AllByRecursion (λ n. n < length texts) numbers
  pub named : (x : List ℕ) → Contains texts x → Contains (map (name_in texts) numbers) x

-- the numbers that are known of the texts of a list, by their places in it
pub record AreKnown (texts listed : List (List ℕ)) (known : List (Option ℕ)) : Type 0 where
  pub long : length known ≡ length listed
  pub each : (k : ℕ) → k < length known → IfSome (slice_index_or known k None) (λ n. IsTextOf texts n (name_in listed k))
