-- The sets of bytes against those that may stand, byte by byte.
use Rattle.std.proofs.Common.{◌≡◌, ℕ, zero, suc, ◌<◌, Bool, true, ◌&&◌, List, [], ◌∷◌, ◌++◌, All, refl, ap₂}
use Rattle.std.specs.Str.{bytes_eq}
use Rattle.std.specs.Prelude.{if◌then◌else◌}
use Rattle.std.proofs.lemmas.Bool.Decides.{Decides-below_and}
use Rattle.std.proofs.lemmas.List.Elements.{All-head, All-tail}
use Rattle.std.proofs.lemmas.Slice.Eq.{bytes_eq-Decides}
use Rattle.percent_encoding.specs.AsciiSet.{should_percent_encode}
use Rattle.percent_encoding.specs.Percent.{encode_byte, percent_encode, percent_encode_byte}
use Rattle.fcg_views.specs.declared.escaping.Place.{Place}
use Rattle.fcg_views.specs.declared.escaping.Place.TheVariants.{Class, Member, Desc}
use Rattle.fcg_views.specs.Internal.EscapeTables.{set_of}
use Rattle.fcg_views.specs.Escape.{may_stand, escape_of, escaped}

abbrev piece : Place → ℕ → List ℕ
piece place b = if may_stand place b then b ∷ [] else escape_of b

abbrev agree : Place → ℕ → Bool
agree place zero = true
agree place (suc n) = bytes_eq (encode_byte (set_of place) n) (piece place n) && agree place n

checked : (place : Place) → agree place 256 ≡ true
unfolding percent_encode_byte should_percent_encode
checked Class = refl
checked Member = refl
checked Desc = refl

same_byte : (place : Place) (b : ℕ) → b < 256 → encode_byte (set_of place) b ≡ piece place b
same_byte place =
    (Decides-below_and (λ b. bytes_eq (encode_byte (set_of place) b) (piece place b)) (λ b. encode_byte (set_of place) b ≡ piece place b) (agree place) (λ b. bytes_eq-Decides _ _) refl (λ _. refl) 256).0 (checked place)

pub same : (place : Place) (bs : List ℕ) → All (λ b. b < 256) bs → percent_encode (set_of place) bs ≡ escaped place bs
unfolding percent_encode escaped
same place [] bytes = refl
same place (b ∷ bs) bytes =
    ap₂ (λ x y. x ++ y) (same_byte place b (All-head (λ b. b < 256) b bs bytes)) (same place bs (All-tail (λ b. b < 256) b bs bytes))
