-- The group of modified UTF-8 at the front of a text.
use Rattle.std.specs.Prelude.{ℕ, List, [], ◌∷◌, if◌then◌else◌}
use Rattle.fcg_classfile.specs.Breaks.Groups.{is_single, is_pair, is_triple}

-- how many bytes the group at the front has, or 0
abbrev pub group_len : List ℕ → ℕ
group_len [] = 0
group_len (a ∷ []) = if is_single a then 1 else 0
group_len (a ∷ b ∷ []) = if is_single a then 1 else (if is_pair a b then 2 else 0)
group_len (a ∷ b ∷ c ∷ rest) =
    if is_single a then 1 else (if is_pair a b then 2 else (if is_triple a b c then 3 else 0))
