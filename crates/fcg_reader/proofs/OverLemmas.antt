-- What a pool's indexes name depends on its constants alone, whichever bytes are read.
use Rattle.std.proofs.Common.{◌≡◌, ℕ, zero, suc, List, [], ◌∷◌, refl}
use Rattle.std.specs.Prelude.{Result, Ok, Err}
use Rattle.fcg_grammar.specs.Reading.{◌>>=◌}
use Rattle.fcg_classfile.specs.Breaks.Pool.{Entries, Indexes, constant_of, text_of, name_of, pair_of, reference_of, dynamic_of}
use Rattle.fcg_classfile.specs.Breaks.Attributes.{over}

-- two readings that begin alike and go on alike
pub bind_alike : {A B E : Type 0} (r : Result A E) (f g : A → Result B E) → ((x : A) → f x ≡ g x) → (r >>= f) ≡ (r >>= g)
bind_alike (Ok x) f g same = same x
bind_alike (Err e) f g same = refl

module _ (bytes : List ℕ) (pool : Entries) where
  pub constant_over : (index : ℕ) → constant_of (over bytes pool) index ≡ constant_of pool index
  unfolding constant_of
  constant_over zero = refl
  constant_over (suc i) = refl

  pub text_over : (index : ℕ) → text_of (over bytes pool) index ≡ text_of pool index
  unfolding text_of
  text_over index = rw (constant_over index) refl

  pub name_over : (index : ℕ) → name_of (over bytes pool) index ≡ name_of pool index
  unfolding name_of
  name_over index = rw (constant_over index) refl

  pair_over : (tags : List ℕ) (index : ℕ) → pair_of (over bytes pool) tags index ≡ pair_of pool tags index
  unfolding pair_of
  pair_over tags index = rw (constant_over index) refl

  pub reference_over : (index : ℕ) → reference_of (over bytes pool) index ≡ reference_of pool index
  unfolding reference_of
  reference_over index =
      rw (pair_over (9 ∷ 10 ∷ 11 ∷ []) index) (bind_alike (pair_of pool (9 ∷ 10 ∷ 11 ∷ []) index) _ _ (λ (pair : Indexes).
      rw (name_over pair.first) (bind_alike (name_of pool pair.first) _ _ (λ (class : ℕ).
      rw (text_over class) (bind_alike (text_of pool class) _ _ (λ (owner : List ℕ).
      rw (pair_over (12 ∷ []) pair.second) (bind_alike (pair_of pool (12 ∷ []) pair.second) _ _ (λ (member : Indexes).
      rw (text_over member.first) (bind_alike (text_of pool member.first) _ _ (λ (name : List ℕ).
      rw (text_over member.second) refl))))))))))

  pub dynamic_over : (index : ℕ) → dynamic_of (over bytes pool) index ≡ dynamic_of pool index
  unfolding dynamic_of
  dynamic_over index = rw (pair_over (18 ∷ []) index) refl
