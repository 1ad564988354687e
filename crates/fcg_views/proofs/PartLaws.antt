-- Texts that are cut at a byte, and the first byte that passes a test.
use Rattle.std.proofs.Common.{◌≡◌, ℕ, zero, suc, ◌+◌, ◌<◌, get_or, Bool, true, false, ltb, List, [], ◌∷◌, ◌++◌, length, take, drop, refl, sym, ap, subst, ◌∙◌, arith}
use Rattle.std.specs.Prelude.{Option, Some, None, ◌==◌, if◌then◌else◌}
use Rattle.std.specs.List.{position, position_or_len, list_any, AllByRecursion}
use Rattle.std.specs.Option.{option_map}
use Rattle.std.proofs.lemmas.Bool.{eqb-true}
use Rattle.std.proofs.lemmas.Bool.Decides.{nat_tests}
use Rattle.std.proofs.lemmas.List.Quantifiers.{position-Some}
use Rattle.memchr.specs.Find.{IsFirstByte, is_byte}
use Rattle.fcg_views.specs.Coordinate.{parted}

-- ---- the place of the first that passes

-- one item in front
position_next : {X : Type 0} (p : X → Bool) (x : X) (xs : List X) → position p (x ∷ xs) ≡ (if p x then Some 0 else option_map suc (position p xs))
position_next p x xs = by (p x) refl (ltb (position_or_len p xs) (length xs)) refl
  where
    by : (b : Bool) → p x ≡ b → (c : Bool) → ltb (position_or_len p xs) (length xs) ≡ c → position p (x ∷ xs) ≡ (if b then Some 0 else option_map suc (position p xs))
    by true e c f =
        let g : ltb 0 (suc (length xs)) ≡ true = grind (arith, nat_tests) in
        rw (e, g) refl
    by false e true f =
        let n : 1 + position_or_len p xs ≡ suc (position_or_len p xs) = omega arith in
        let g : ltb (suc (position_or_len p xs)) (suc (length xs)) ≡ true = grind (arith, nat_tests) in
        rw (e, n, g, f) refl
    by false e false f =
        let n : 1 + position_or_len p xs ≡ suc (position_or_len p xs) = omega arith in
        let g : ltb (suc (position_or_len p xs)) (suc (length xs)) ≡ false = grind (arith, nat_tests) in
        rw (e, n, g, f) refl

-- ---- cut at a byte

-- the parts, by the place of the byte
abbrev pub at_place : List ℕ → Option ℕ → Option (List ℕ × List ℕ)
at_place text n = option_map (λ k. (take k text, drop 1 (drop k text))) n

pub parted_at : (b : ℕ) (text : List ℕ) → parted b text ≡ at_place text (position (λ x. x == b) text)
unfolding parted
parted_at b [] = refl
parted_at b (x ∷ xs) = by (parted_at b xs) (x == b) refl ∙ ap (at_place (x ∷ xs)) (sym (position_next (λ y. y == b) x xs))
  where
    moved : (o : Option ℕ) → option_map (λ p. (x ∷ p.0, p.1)) (at_place xs o) ≡ at_place (x ∷ xs) (option_map suc o)
    moved None = refl
    moved (Some n) = refl

    by : parted b xs ≡ at_place xs (position (λ y. y == b) xs) → (c : Bool) → (x == b) ≡ c → (if x == b then Some ([], xs) else option_map (λ p. (x ∷ p.0, p.1)) (parted b xs)) ≡ at_place (x ∷ xs) (if x == b then Some 0 else option_map suc (position (λ y. y == b) xs))
    by below true e = rw e refl
    by below false e = rw e (ap (option_map (λ p. (x ∷ p.0, p.1))) below ∙ moved (position (λ y. y == b) xs))

-- no byte is b
abbrev pub Without : ℕ → List ℕ → Type 0
Without b text = AllByRecursion (λ x. (x == b) ≡ false) text

pub record FoundParts (b : ℕ) (text front after : List ℕ) : Type 0 where
  pub whole : text ≡ front ++ b ∷ after
  pub none : Without b front

pub parted_found : (b : ℕ) (text : List ℕ) (p : List ℕ × List ℕ) → parted b text ≡ Some p → FoundParts b text p.0 p.1
unfolding parted
parted_found b [] p e = absurd cc
parted_found b (x ∷ xs) p e = by (parted_found b xs) (x == b) refl (parted b xs) refl
  where
    some_is : {A : Type 0} (u v : A) → Some u ≡ Some v → u ≡ v
    some_is u v same = cc

    by : ((q : List ℕ × List ℕ) → parted b xs ≡ Some q → FoundParts b xs q.0 q.1) → (c : Bool) → (x == b) ≡ c → (o : Option (List ℕ × List ℕ)) → parted b xs ≡ o → FoundParts b (x ∷ xs) p.0 p.1
    by below true same o f =
        let is : Some ([], xs) ≡ Some p = sym (rw same refl) ∙ e in
        subst (λ (q : List ℕ × List ℕ). FoundParts b (x ∷ xs) q.0 q.1) (some_is _ p is) (record { whole = ap (λ (y : ℕ). y ∷ xs) (eqb-true x b same); none = tt })
    by below false other None f = absurd (let is : None ≡ Some p = sym (rw (other, f) refl) ∙ e in cc)
    by below false other (Some q) f =
        let is : Some (x ∷ q.0, q.1) ≡ Some p = sym (rw (other, f) refl) ∙ e in
        let rest = below q f in
        subst (λ (r : List ℕ × List ℕ). FoundParts b (x ∷ xs) r.0 r.1) (some_is _ p is) (record { whole = ap (λ (l : List ℕ). x ∷ l) rest.whole; none = (other, rest.none) })

same_test : (b : ℕ) → (b == b) ≡ true
same_test b = grind (arith, nat_tests)

pub parted_only : (b : ℕ) (front after : List ℕ) → Without b front → parted b (front ++ b ∷ after) ≡ Some (front, after)
unfolding parted
parted_only b [] after none = rw (same_test b) refl
parted_only b (x ∷ xs) after none = rw (none.0, parted_only b xs after none.1) refl

-- ---- all or none

pub none_passes : {X : Type 0} (p : X → Bool) (xs : List X) → position p xs ≡ None → AllByRecursion (λ x. p x ≡ false) xs
none_passes p [] e = tt
none_passes p (x ∷ xs) e = by (none_passes p xs) (p x) refl (position p xs) refl
  where
    by : (position p xs ≡ None → AllByRecursion (λ y. p y ≡ false) xs) → (b : Bool) → p x ≡ b → (o : Option ℕ) → position p xs ≡ o → AllByRecursion (λ y. p y ≡ false) (x ∷ xs)
    by below true is o f = absurd (let bad : Some 0 ≡ None = sym (position_next p x xs ∙ rw is refl) ∙ e in cc)
    by below false is None f = (is, below f)
    by below false is (Some n) f = absurd (let bad : Some (suc n) ≡ None = sym (position_next p x xs ∙ rw (is, f) refl) ∙ e in cc)

pub none_found : {X : Type 0} (p : X → Bool) (xs : List X) → AllByRecursion (λ x. p x ≡ false) xs → position p xs ≡ None
none_found p [] all = refl
none_found p (x ∷ xs) all = position_next p x xs ∙ rw (all.0, none_found p xs all.1) refl

pub any_none : (p : ℕ → Bool) (xs : List ℕ) → list_any p xs ≡ false → AllByRecursion (λ x. p x ≡ false) xs
any_none p [] e = tt
any_none p (x ∷ xs) e = by (any_none p xs) (p x) refl
  where
    by : (list_any p xs ≡ false → AllByRecursion (λ y. p y ≡ false) xs) → (b : Bool) → p x ≡ b → AllByRecursion (λ y. p y ≡ false) (x ∷ xs)
    by below true is = absurd (let bad : true ≡ false = sym (rw is refl) ∙ e in cc)
    by below false is = (is, below (sym (rw is refl) ∙ e))

pub none_any : (p : ℕ → Bool) (xs : List ℕ) → AllByRecursion (λ x. p x ≡ false) xs → list_any p xs ≡ false
none_any p [] all = refl
none_any p (x ∷ xs) all = rw (all.0, none_any p xs all.1) refl

-- ---- facts about each item

module _ {X : Type 0} (P : X → Type 0) where
  pub all_front : (xs ys : List X) → AllByRecursion P (xs ++ ys) → AllByRecursion P xs
  all_front [] ys all = tt
  all_front (x ∷ xs) ys all = (all.0, all_front xs ys all.1)

  pub all_back : (xs ys : List X) → AllByRecursion P (xs ++ ys) → AllByRecursion P ys
  all_back [] ys all = all
  all_back (x ∷ xs) ys all = all_back xs ys all.1

  pub all_both : (xs ys : List X) → AllByRecursion P xs → AllByRecursion P ys → AllByRecursion P (xs ++ ys)
  all_both [] ys a b = b
  all_both (x ∷ xs) ys a b = (a.0, all_both xs ys a.1 b)

pub all_by : {X : Type 0} (P Q : X → Type 0) (xs : List X) → ((x : X) → P x → Q x) → AllByRecursion P xs → AllByRecursion Q xs
all_by P Q [] f all = tt
all_by P Q (x ∷ xs) f all = (f x all.0, all_by P Q xs f all.1)

pub all_of_two : {X : Type 0} (P Q R : X → Type 0) (xs : List X) → ((x : X) → P x → Q x → R x) → AllByRecursion P xs → AllByRecursion Q xs → AllByRecursion R xs
all_of_two P Q R [] f a b = tt
all_of_two P Q R (x ∷ xs) f a b = (f x a.0 b.0, all_of_two P Q R xs f a.1 b.1)

-- ---- the first place that a search finds

at_each : (P : ℕ → Type 0) (xs : List ℕ) → AllByRecursion P xs → (k : ℕ) → k < length xs → P (get_or xs k 0)
at_each P [] all k lt = absurd (omega (arith, lt))
at_each P (x ∷ xs) all zero lt = all.0
at_each P (x ∷ xs) all (suc k) lt = at_each P xs all.1 k (omega (arith, lt))

pub first_byte : (b : ℕ) (text : List ℕ) (r : Option ℕ) → IsFirstByte (is_byte b) text r → r ≡ position (λ x. x == b) text
first_byte b text r is = by r is (position (λ x. x == b) text) refl
  where
    differ : (c : Bool) → c ≡ true → c ≡ false → ⊥
    differ c e f = cc

    same : (k i : ℕ) → (k < i → ⊥) → (i < k → ⊥) → k ≡ i
    same k i first second = grind (arith, first, second)

    by : (r : Option ℕ) → IsFirstByte (is_byte b) text r → (o : Option ℕ) → position (λ x. x == b) text ≡ o → r ≡ o
    by None is None at = refl
    by None is (Some i) at = let s = position-Some (λ x. x == b) text i 0 at in absurd (is i (omega arith) s.0 s.1)
    by (Some k) is None at = absurd (differ (get_or text k 0 == b) is.1 (at_each (λ x. (x == b) ≡ false) text (none_passes (λ x. x == b) text at) k is.0.high))
    by (Some k) is (Some i) at =
        let s = position-Some (λ x. x == b) text i 0 at in
        ap (λ (n : ℕ). Some n) (same k i (λ lt. differ (get_or text k 0 == b) is.1 (s.2 k lt)) (λ lt. is.0.before i (omega arith) lt s.1))
