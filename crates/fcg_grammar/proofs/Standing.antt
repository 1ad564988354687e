-- Strings of bytes that stand in a file.
use Rattle.std.proofs.Common.{◌≡◌, ℕ, zero, suc, ◌+◌, ◌*◌, ◌^◌, ◌<◌, ◌≤◌, Bool, true, false, cond, eqb, ltb, List, [], ◌∷◌, ◌++◌, length, get_or, take, drop, refl, sym, ap, subst, ◌∙◌, append_assoc, arith}
use Rattle.std.specs.Prelude.{Result, Ok, Err}
use Rattle.std.proofs.lemmas.Bool.{ltb-false, le-ltb}
use Rattle.std.proofs.lemmas.Bool.Decides.{nat_tests}
use Rattle.std.proofs.Math.ListN.{drop_of_length-le}
use Rattle.std.proofs.lemmas.List.{append-nil, drop_at, take_at, drop-drop, drop_more, get_or-drop, take-append-drop, length-append, length-take, length-drop}
use Rattle.std.proofs.lemmas.Nat.{be_bytes_2, be_bytes_4, from_be_bytes-to_be_bytes_2, from_be_bytes-to_be_bytes_4}
use Rattle.fcg_grammar.specs.Number as number
use Rattle.fcg_grammar.specs.Number.{u1_at, u2_at, u4_at, part_at}
use Rattle.fcg_grammar.specs.Spell.{IsBytes, u2, u4}

abbrev pub done : {A E : Type 0} → A → Result A E
done x = Ok x

pub ok_is : {A E : Type 0} (x y : A) → done {A = A} {E = E} x ≡ done {A = A} {E = E} y → x ≡ y
ok_is x y e = cc

pub guard_ok : {A E : Type 0} (b : Bool) (d : E) (x y : A) → cond b (Err d) (Ok x) ≡ Ok y → (b ≡ false) × (x ≡ y)
guard_ok true d x y e = absurd cc
guard_ok false d x y e = (refl, cc)

-- text stands at a place, and after it is another
pub record Stands (bytes : List ℕ) (at : ℕ) (text : List ℕ) (after : ℕ) : Type 0 where
  pub within : after ≤ length bytes
  pub ends : after ≡ at + length text
  pub same : drop at bytes ≡ text ++ drop after bytes

pub Stands-none : (bytes : List ℕ) (at : ℕ) → at ≤ length bytes → Stands bytes at [] at
Stands-none bytes at le = record { within = le; ends = omega arith; same = refl }

pub Stands-then : {bytes : List ℕ} {a : ℕ} {x : List ℕ} {b : ℕ} {y : List ℕ} {c : ℕ} → Stands bytes a x b → Stands bytes b y c → Stands bytes a (x ++ y) c
Stands-then {bytes} {a} {x} {b} {y} {c} p q = record {
  within = q.within;
  ends = omega (arith, p.ends, q.ends, length-append x y);
  same = p.same ∙ ap (λ (t : List ℕ). x ++ t) q.same ∙ sym (append_assoc x y (drop c bytes));
}

pub Stands-back : {bytes : List ℕ} {a : ℕ} (x y : List ℕ) {c : ℕ} → Stands bytes a (x ++ y) c → Stands bytes (a + length x) y c
Stands-back {bytes} {a} x y {c} s = record {
  within = s.within;
  ends = omega (arith, s.ends, length-append x y);
  same = sym (drop-drop (length x) a bytes) ∙ ap (drop (length x)) (s.same ∙ append_assoc x y (drop c bytes)) ∙ drop_at x (y ++ drop c bytes) (length x) refl;
}

pub Stands-front : {bytes : List ℕ} {a : ℕ} (x y : List ℕ) {c : ℕ} → Stands bytes a (x ++ y) c → Stands bytes a x (a + length x)
Stands-front {bytes} {a} x y {c} s =
    let b = Stands-back x y s in
    record {
      within = omega (arith, s.within, b.ends);
      ends = refl;
      same = s.same ∙ append_assoc x y (drop c bytes) ∙ ap (λ (t : List ℕ). x ++ t) (sym b.same);
    }

-- two bytes are the spelling of their number
two_spelled : (a b n : ℕ) → a < 256 → b < 256 → n ≡ a * 256 + b → u2 n ≡ a ∷ b ∷ []
two_spelled a b n la lb e = be_bytes_2 (a ∷ b ∷ []) n refl fits e
  where
    fits : (i : ℕ) → get_or (a ∷ b ∷ []) i 0 < 256
    fits zero = la
    fits (suc zero) = lb
    fits (suc (suc i)) = omega arith

-- ---- numbers: what is read is spelled so, and what is spelled so is read

pub u1_found : {E : Type 0} (cut : E) (bytes : List ℕ) (at n : ℕ) → u1_at cut bytes at ≡ Ok n → Stands bytes at (n ∷ []) (at + 1)
unfolding u1_at
u1_found cut bytes at n e =
    let g = guard_ok (ltb (length bytes) (at + 1)) cut (get_or bytes at 0) n e in
    let long : at + 1 ≤ length bytes = ltb-false _ _ g.0 in
    record { within = long; ends = omega arith; same = drop_more bytes at 0 (omega arith) ∙ ap (λ (b : ℕ). b ∷ drop (at + 1) bytes) g.1 }

pub u1_only : {E : Type 0} (cut : E) (bytes : List ℕ) (at n : ℕ) (rest : List ℕ) (after : ℕ) → Stands bytes at (n ∷ rest) after → (u1_at cut bytes at ≡ Ok n) × Stands bytes (at + 1) rest after
unfolding u1_at
u1_only cut bytes at n rest after s =
    let long : ltb (length bytes) (at + 1) ≡ false = le-ltb _ _ (omega (arith, s.within, s.ends)) in
    let here : get_or bytes at 0 ≡ n = (let e : at + 0 ≡ at = omega arith in ap (λ (i : ℕ). get_or bytes i 0) (sym e)) ∙ sym (get_or-drop at bytes 0 0) ∙ ap (λ (l : List ℕ). get_or l 0 0) s.same in
    (rw (long, here) refl, Stands-back (n ∷ []) rest s)

-- the number at the front of what stands there
front_is : (bytes : List ℕ) (at i : ℕ) (text : List ℕ) → drop at bytes ≡ text → get_or bytes (at + i) 0 ≡ get_or text i 0
front_is bytes at i text e = sym (get_or-drop at bytes i 0) ∙ ap (λ (l : List ℕ). get_or l i 0) e

front_at : (bytes : List ℕ) (at : ℕ) (text : List ℕ) → drop at bytes ≡ text → get_or bytes at 0 ≡ get_or text 0 0
front_at bytes at text e = (let z : at ≡ at + 0 = omega arith in ap (λ (i : ℕ). get_or bytes i 0) z) ∙ front_is bytes at 0 text e

two_more : (bytes : List ℕ) (at : ℕ) → at + 2 ≤ length bytes → drop at bytes ≡ get_or bytes at 0 ∷ get_or bytes (at + 1) 0 ∷ drop (at + 2) bytes
two_more bytes at long =
    let n : at + 1 + 1 ≡ at + 2 = omega arith in
    drop_more bytes at 0 (omega arith) ∙ ap (λ (l : List ℕ). get_or bytes at 0 ∷ l) (drop_more bytes (at + 1) 0 (omega arith) ∙ rw n refl)

pub u2_found : {E : Type 0} (cut : E) (bytes : List ℕ) (at n : ℕ) → IsBytes bytes → u2_at cut bytes at ≡ Ok n → Stands bytes at (u2 n) (at + 2) × (n < 2 ^ 16)
unfolding u2_at
u2_found cut bytes at n fits e =
    let g = guard_ok (ltb (length bytes) (at + 2)) cut (number.u2 bytes at) n e in
    let long : at + 2 ≤ length bytes = ltb-false _ _ g.0 in
    let b0 = fits at in
    let b1 = fits (at + 1) in
    let pair : List ℕ = get_or bytes at 0 ∷ get_or bytes (at + 1) 0 ∷ [] in
    let here : drop at bytes ≡ pair ++ drop (at + 2) bytes = two_more bytes at long in
    let spelled : u2 n ≡ pair = two_spelled (get_or bytes at 0) (get_or bytes (at + 1) 0) n b0 b1 (sym g.1) in
    (record { within = long; ends = refl; same = here ∙ ap (λ (l : List ℕ). l ++ drop (at + 2) bytes) (sym spelled) }, (let is = g.1 in omega arith))

pub u2_only : {E : Type 0} (cut : E) (bytes : List ℕ) (at n : ℕ) (rest : List ℕ) (after : ℕ) → n < 2 ^ 16 → Stands bytes at (u2 n ++ rest) after → (u2_at cut bytes at ≡ Ok n) × Stands bytes (at + 2) rest after
unfolding u2_at
u2_only cut bytes at n rest after lt s =
    let b = Stands-back (u2 n) rest s in
    let long : ltb (length bytes) (at + 2) ≡ false = le-ltb _ _ (omega (arith, b.within, b.ends)) in
    let value : number.u2 bytes at ≡ n = rw (front_at bytes at _ s.same, front_is bytes at 1 _ s.same) (from_be_bytes-to_be_bytes_2 n lt) in
    (rw (long, value) refl, b)

-- four bytes
four_spelled : (a b c d n : ℕ) → a < 256 → b < 256 → c < 256 → d < 256 → n ≡ (a * 256 + b) * 65536 + (c * 256 + d) → u4 n ≡ a ∷ b ∷ c ∷ d ∷ []
four_spelled a b c d n la lb lc ld e = be_bytes_4 (a ∷ b ∷ c ∷ d ∷ []) n refl fits (omega (arith, e))
  where
    fits : (i : ℕ) → get_or (a ∷ b ∷ c ∷ d ∷ []) i 0 < 256
    fits zero = la
    fits (suc zero) = lb
    fits (suc (suc zero)) = lc
    fits (suc (suc (suc zero))) = ld
    fits (suc (suc (suc (suc i)))) = omega arith

pub u4_found : {E : Type 0} (cut : E) (bytes : List ℕ) (at n : ℕ) → IsBytes bytes → u4_at cut bytes at ≡ Ok n → Stands bytes at (u4 n) (at + 4) × (n < 2 ^ 32)
unfolding u4_at
u4_found cut bytes at n fits e =
    let g = guard_ok (ltb (length bytes) (at + 4)) cut (number.u4 bytes at) n e in
    let long : at + 4 ≤ length bytes = ltb-false _ _ g.0 in
    let b0 = fits at in
    let b1 = fits (at + 1) in
    let b2 = fits (at + 2) in
    let b3 = fits (at + 2 + 1) in
    let here = four_more bytes at long in
    let spelled : u4 n ≡ get_or bytes at 0 ∷ get_or bytes (at + 1) 0 ∷ get_or bytes (at + 2) 0 ∷ get_or bytes (at + 2 + 1) 0 ∷ [] = four_spelled _ _ _ _ n b0 b1 b2 b3 (sym g.1) in
    (record { within = long; ends = refl; same = here ∙ ap (λ (l : List ℕ). l ++ drop (at + 4) bytes) (sym spelled) }, (let is = g.1 in omega arith))
  where
    four_more : (bytes : List ℕ) (at : ℕ) → at + 4 ≤ length bytes → drop at bytes ≡ get_or bytes at 0 ∷ get_or bytes (at + 1) 0 ∷ get_or bytes (at + 2) 0 ∷ get_or bytes (at + 2 + 1) 0 ∷ drop (at + 4) bytes
    four_more bytes at long =
        let n : at + 2 + 2 ≡ at + 4 = omega arith in
        two_more bytes at (omega arith) ∙ ap (λ (l : List ℕ). get_or bytes at 0 ∷ get_or bytes (at + 1) 0 ∷ l) (two_more bytes (at + 2) (omega arith) ∙ rw n refl)

pub u4_only : {E : Type 0} (cut : E) (bytes : List ℕ) (at n : ℕ) (rest : List ℕ) (after : ℕ) → n < 2 ^ 32 → Stands bytes at (u4 n ++ rest) after → (u4_at cut bytes at ≡ Ok n) × Stands bytes (at + 4) rest after
unfolding u4_at
u4_only cut bytes at n rest after lt s =
    let b = Stands-back (u4 n) rest s in
    let long : ltb (length bytes) (at + 4) ≡ false = le-ltb _ _ (omega (arith, b.within, b.ends)) in
    let three : at + 2 + 1 ≡ at + 3 = omega arith in
    let h0 = front_at bytes at _ s.same in
    let h1 = front_is bytes at 1 _ s.same in
    let h2 = front_is bytes at 2 _ s.same in
    let h3 = rw (← three) at (front_is bytes at 3 _ s.same) in
    let again = from_be_bytes-to_be_bytes_4 n lt in
    let value : number.u4 bytes at ≡ n = omega (arith, h0, h1, h2, h3, again) in
    (rw (long, value) refl, b)

-- ---- strings
pub part_found : {E : Type 0} (cut : E) (bytes : List ℕ) (at n : ℕ) (text : List ℕ) → part_at cut bytes at n ≡ Ok text → Stands bytes at text (at + n) × (length text ≡ n) × (number.part bytes at n ≡ text)
unfolding part_at
part_found cut bytes at n text e =
    let g = guard_ok (ltb (length bytes) (at + n)) cut (number.part bytes at n) text e in
    let long : at + n ≤ length bytes = ltb-false _ _ g.0 in
    let len : length (number.part bytes at n) ≡ n = omega (arith, length-take n (drop at bytes), length-drop at bytes) in
    let split : drop at bytes ≡ number.part bytes at n ++ drop (at + n) bytes = sym (take-append-drop n (drop at bytes)) ∙ ap (λ (l : List ℕ). number.part bytes at n ++ l) (drop-drop n at bytes) in
    let here : Stands bytes at (number.part bytes at n) (at + n) = record { within = long; ends = omega (arith, len); same = split } in
    (subst (λ (t : List ℕ). Stands bytes at t (at + n)) g.1 here, ap length (sym g.1) ∙ len, g.1)

pub part_is : (bytes : List ℕ) (at : ℕ) (text : List ℕ) (after : ℕ) → Stands bytes at text after → number.part bytes at (length text) ≡ text
part_is bytes at text after s = ap (take (length text)) s.same ∙ take_at text (drop after bytes) (length text) refl

pub part_only : {E : Type 0} (cut : E) (bytes : List ℕ) (at : ℕ) (text rest : List ℕ) (after : ℕ) → Stands bytes at (text ++ rest) after → (part_at cut bytes at (length text) ≡ Ok text) × Stands bytes (at + length text) rest after
unfolding part_at
part_only cut bytes at text rest after s =
    let f = Stands-front text rest s in
    let long : ltb (length bytes) (at + length text) ≡ false = le-ltb _ _ f.within in
    (rw (long, part_is bytes at text _ f) refl, Stands-back text rest s)

-- ---- the whole file

-- what stands from the first byte to the last is the file
pub whole_is : (bytes text : List ℕ) → Stands bytes 0 text (length bytes) → bytes ≡ text
whole_is bytes text s = s.same ∙ ap (λ (l : List ℕ). text ++ l) (drop_of_length-le bytes (omega arith)) ∙ append-nil text

pub is_whole : (bytes text : List ℕ) → bytes ≡ text → Stands bytes 0 text (length bytes)
is_whole bytes text e = record {
  within = omega arith;
  ends = ap length e ∙ omega arith;
  same = e ∙ sym (ap (λ (l : List ℕ). text ++ l) (drop_of_length-le bytes (omega arith)) ∙ append-nil text);
}

-- the same place by another name
pub Stands-to : {bytes : List ℕ} {a : ℕ} {x : List ℕ} {b : ℕ} (c : ℕ) → b ≡ c → Stands bytes a x b → Stands bytes a x c
Stands-to {bytes} {a} {x} {b} c e s = subst (λ (n : ℕ). Stands bytes a x n) e s

-- what ends a file is at its end
pub end_is : (bytes : List ℕ) (at : ℕ) → Stands bytes at [] (length bytes) → eqb (length bytes) at ≡ true
end_is bytes at s = let e = s.ends in grind (arith, nat_tests)
