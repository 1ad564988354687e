-- What a chain of items, a test or a table gave, taken apart.
use Rattle.std.proofs.Common.{◌≡◌, Bool, true, false, cond, refl, ◌⊎◌, inl, inr}
use Rattle.std.specs.Prelude.{Result, Ok, Err}
use Rattle.fcg_grammar.specs.Reading.{◌>>=◌, unless_broken}

-- an item, and those after it
pub bind_ok : {A B E : Type 0} (r : Result A E) (f : A → Result B E) (y : B) → (r >>= f) ≡ Ok y → (x : A) × (r ≡ Ok x) × (f x ≡ Ok y)
bind_ok (Ok x) f y e = (x, refl, e)
bind_ok (Err d) f y e = absurd cc

-- a rule that was kept holds
pub kept_ok : {E : Type 0} (b : Bool) (f : E) (u : Unit {0}) → unless_broken b f ≡ Ok u → b ≡ true
kept_ok true f u e = refl
kept_ok false f u e = absurd cc

-- a choice, by its test
pub chosen : {A : Type 0} (b : Bool) (x y z : A) → cond b x y ≡ z → ((b ≡ true) × (x ≡ z)) ⊎ ((b ≡ false) × (y ≡ z))
chosen true x y z e = inl (refl, e)
chosen false x y z e = inr (refl, e)

abbrev pub whole : {A E : Type 0} → A → Result A E
whole x = Ok x

abbrev pub broken : {A E : Type 0} → E → Result A E
broken f = Err f

pub err_is : {A E : Type 0} (f g : E) → broken {A = A} {E = E} f ≡ broken {A = A} {E = E} g → f ≡ g
err_is f g e = cc

pub ok_or_err : {A E : Type 0} (x : A) (f : E) → whole {A = A} {E = E} x ≡ broken {A = A} {E = E} f → ⊥
ok_or_err x f e = cc
