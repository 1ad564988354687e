-- Texts sorted with their places, and numbered one after the other.
use Rattle.std.specs.Prelude.{◌≡◌, ℕ, ◌<◌, ◌≤◌, ◌+◌, ◌-◌, List, [], ◌∷◌, ◌++◌, false, length, map, slice_index_or, Contains, All}
use Rattle.std.specs.Borrow.{Bor}
use Rattle.std.specs.Ordering.{is_lt}
use Rattle.fcg_grammar.specs.Table.{order, Rises}
use Rattle.fcg_join.specs.Names.{texts_of, text_at}

-- a text, and its place
abbrev pub Key : Type 0
Key = Bor (List ℕ) × ℕ

-- the elements with their places, the first with the place n
abbrev pub with_places : {X : Type 0} → ℕ → List X → List (X × ℕ)
with_places n [] = []
with_places n (x ∷ xs) = (x, n) ∷ with_places (n + 1) xs

-- a key has the text of its place
abbrev pub HasOwnText : List (Bor (List ℕ)) → Key → Type 0
HasOwnText texts k = (k.1 < length texts) × (slice_index_or texts k.1 k.0 ≡ k.0)

-- no key's text is less than the one before it; each text has a key, and each key has a text with its place
pub record AreKeys (texts : List (Bor (List ℕ))) (keys : List Key) : Type 0 where
  pub long : length keys ≡ length texts
  pub in_order : (k : ℕ) (d : Key) → k + 1 < length keys → is_lt (order (slice_index_or keys (k + 1) d).0.now (slice_index_or keys k d).0.now) ≡ false
  pub each : (p : ℕ) → p < length texts → (d : Bor (List ℕ)) → Contains keys (slice_index_or texts p d, p)
  pub used : All (HasOwnText texts) keys

abbrev pub names_at : List (List ℕ) → List ℕ → List (List ℕ)
names_at texts places = map (text_at texts) places

-- the last of the places is that of this text
abbrev pub EndsWith : List (List ℕ) → List ℕ → List ℕ → Type 0
EndsWith texts places text = (0 < length places) × (text_at texts (slice_index_or places (length places - 1) 0) ≡ text)

-- the place of a key is added where the last isn't that of its text
pub record AddsPlace (texts : List (List ℕ)) (old new : List ℕ) (key : Key) : Type 0 where
  pub same : EndsWith texts old key.0.now → new ≡ old
  pub other : (EndsWith texts old key.0.now → ⊥) → new ≡ old ++ key.1 ∷ []

-- the first n keys are numbered
pub record AreNumberedUpTo (texts : List (Bor (List ℕ))) (keys : List Key) (numbers places : List ℕ) (n : ℕ) : Type 0 where
  pub long : length numbers ≡ length texts
  pub few : length places ≤ n
  pub within : All (λ p. p < length texts) places
  pub rises : Rises (names_at (texts_of texts) places)
  pub first : n ≡ 0 → places ≡ []
  pub last : (d : Key) → 0 < n → EndsWith (texts_of texts) places (slice_index_or keys (n - 1) d).0.now
  pub each : (k : ℕ) (d : Key) → k < n → (slice_index_or numbers (slice_index_or keys k d).1 0 < length places)
      × (slice_index_or (names_at (texts_of texts) places) (slice_index_or numbers (slice_index_or keys k d).1 0) [] ≡ (slice_index_or keys k d).0.now)
