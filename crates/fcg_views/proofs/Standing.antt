-- The tables of the bytes that stand, byte by byte, and texts that stand whole.
use Rattle.std.proofs.Common.{◌≡◌, ℕ, ◌<◌, true, false, List, [], ◌∷◌, refl, ap, get_or}
use Rattle.std.specs.List.{list_all}
use Rattle.std.proofs.lemmas.Bool.{agree_below, agree_below_at, and_parts}
use Rattle.fcg_views.specs.declared.escaping.Place.{Place}
use Rattle.fcg_views.specs.declared.escaping.Place.TheVariants.{Class, Member, Desc}
use Rattle.fcg_views.specs.Internal.EscapeTables.{table_of}
use Rattle.fcg_views.specs.Escape.{may_stand, escaped}

checked : (place : Place) → agree_below (λ b. get_or (table_of place) b false) (may_stand place) 256 ≡ true
checked Class = refl
checked Member = refl
checked Desc = refl

pub stands : (place : Place) (b : ℕ) → b < 256 → get_or (table_of place) b false ≡ may_stand place b
stands place b lt = agree_below_at (λ x. get_or (table_of place) x false) (may_stand place) 256 b (checked place) lt

pub stands_whole : (place : Place) (bs : List ℕ) → list_all (may_stand place) bs ≡ true → escaped place bs ≡ bs
unfolding escaped
stands_whole place [] e = refl
stands_whole place (b ∷ bs) e =
    let each = and_parts (may_stand place b) (list_all (may_stand place) bs) e in
    rw each.0 (ap (λ rest. b ∷ rest) (stands_whole place bs each.1))
