-- Texts of single bytes.
use Rattle.std.proofs.Common.{◌≡◌, ℕ, ◌+◌, ◌-◌, ◌<◌, ◌≤◌, ◌∙◌, List, [], ◌∷◌, length, take, drop, Bool, true, false, ◌&&◌, refl, sym, arith, length-drop}
use Rattle.std.specs.Prelude.{None}
use Rattle.std.specs.List.{list_all}
use Rattle.std.proofs.lemmas.List.{take-append-drop, drop-drop}
use Rattle.std.proofs.lemmas.List.Folds.{list_all-append}
use Rattle.fcg_classfile.specs.Breaks.Groups.{is_single, bad_group}

both : (a b : Bool) → (a && b) ≡ true → (a ≡ true) × (b ≡ true)
both true b e = (refl, e)
both false b e = absurd cc

pub single_none : (at : ℕ) (text : List ℕ) → list_all is_single text ≡ true → bad_group at text ≡ None
unfolding bad_group
single_none at [] e = refl
single_none at (a ∷ []) e = rw (both (is_single a) true e).0 refl
single_none at (a ∷ b ∷ []) e = let p = both (is_single a) (list_all is_single (b ∷ [])) e in rw p.0 (single_none (at + 1) (b ∷ []) p.1)
single_none at (a ∷ b ∷ c ∷ rest) e = let p = both (is_single a) (list_all is_single (b ∷ c ∷ rest)) e in rw p.0 (single_none (at + 1) (b ∷ c ∷ rest) p.1)

-- ---- so many bytes at a time

split : (n : ℕ) (text : List ℕ) → list_all is_single text ≡ (list_all is_single (take n text) && list_all is_single (drop n text))
split n text = rw take-append-drop at (list_all-append is_single (take n text) (drop n text))

-- some that are single are passed over
pub single_passed : (n at : ℕ) (text : List ℕ) → list_all is_single (take n (drop at text)) ≡ true → list_all is_single (drop (at + n) text) ≡ list_all is_single (drop at text)
single_passed n at text e = sym (rw (e, drop-drop n at text) at (split n (drop at text)))

-- some that are not are in the text
pub single_not : (n at : ℕ) (text : List ℕ) → list_all is_single (take n (drop at text)) ≡ false → list_all is_single (drop at text) ≡ false
single_not n at text e = rw e at (split n (drop at text))

last_of : (a b last all : Bool) → all ≡ (a && last) → last ≡ (b && all) → last ≡ all
last_of true b last all e f = sym e
last_of false true last all e f = f
last_of false false last all e f = f ∙ sym e

-- the last n tell it, where fewer are left
pub single_last : (n at : ℕ) (text : List ℕ) → n ≤ length text → at ≤ length text → length (drop at text) < n → list_all is_single (drop at text) ≡ list_all is_single text
    → list_all is_single (drop (length text - n) text) ≡ list_all is_single text
single_last n at text enough le few same =
    let m = length text - n in
    let k : ℕ = at - m in
    let there : m + k ≡ at = omega (arith, length-drop at text) in
    let rest = rw (drop-drop k m text, there, same) at (split k (drop m text)) in
    last_of _ _ _ _ (split m text) rest
