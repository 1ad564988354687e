-- Numbers in a list, and lists of the same numbers.
use Rattle.std.proofs.Common.{◌≡◌, ℕ, List, refl, subst}
use Rattle.std.specs.Prelude.{◌==◌, true, Contains}
use Rattle.std.specs.Cmp.{both_ways}
use Rattle.std.proofs.lemmas.Bool.Decides.{Decides-eqb}
use Rattle.fcg_analysis.proofs.General.Members.{IsIn, IsIn-from_Contains, Contains-from_IsIn, any_in, in_any}
use Rattle.fcg_edges.specs.Rows.{has}

pub in_numbers : (ks : List ℕ) (b : ℕ) → has ks b ≡ true → Contains ks b
in_numbers ks b h =
    let x = in_any (λ k. k == b) ks h in
    let e : x.0 ≡ b = (Decides-eqb x.0 b).0 x.2 in
    Contains-from_IsIn ks b (subst (λ k. IsIn k ks) e x.1)

pub numbers_in : (ks : List ℕ) (b : ℕ) → Contains ks b → has ks b ≡ true
numbers_in ks b c = any_in (λ k. k == b) ks b (IsIn-from_Contains ks b c) ((Decides-eqb b b).1 refl)

pub same_numbers : (ks ls : List ℕ) (b : ℕ) → (Contains ks b → Contains ls b) → (Contains ls b → Contains ks b) → has ks b ≡ has ls b
same_numbers ks ls b f g = both_ways (has ks b) (has ls b) (λ h. numbers_in ls b (f (in_numbers ks b h))) (λ h. numbers_in ks b (g (in_numbers ls b h)))
