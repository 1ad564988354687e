-- How far a stream was read or written.
use Rattle.std.proofs.Common.{◌≡◌, ℕ, ◌<◌, List, [], ◌++◌, length, take, drop, Option, Some, None, refl, sym, ap, subst, ◌∙◌, append_assoc, arith, length-append}
use Rattle.std.specs.Prelude.{IfSome, IfOk, Result, Ok, Err, OnOk, OnErr}
use Rattle.std.specs.Io.KnownBytes.{Appends, Consumes, Keeps}
use Rattle.std.proofs.lemmas.List.{take_at, take-append-drop, append-nil}
use Rattle.std.proofs.KnownBytes.{Appends-trans, Appends-nil, Appends-kept}
use Rattle.fcg_bytes.specs.Internal.Streams.{Wrote}

pub Wrote-none : (before : Option (List ℕ)) (all : List ℕ) → Wrote before before all all
Wrote-none before all = record { front = []; parts = refl; taken = Appends-nil before }

pub Wrote-count : (before now : Option (List ℕ)) (all : List ℕ) (n : ℕ) → Appends before now (take n all) → Wrote before now all (drop n all)
Wrote-count before now all n more = record { front = take n all; parts = sym (take-append-drop n all); taken = more }

pub Wrote-more : (before mid now : Option (List ℕ)) (all some rest : List ℕ) → Wrote before mid all some → Wrote mid now some rest → Wrote before now all rest
Wrote-more before mid now all some rest w more = record {
  front = w.front ++ more.front;
  parts = w.parts ∙ ap (λ (x : List ℕ). w.front ++ x) more.parts ∙ sym (append_assoc w.front more.front rest);
  taken = Appends-trans before mid now w.front more.front w.taken more.taken;
}

pub Wrote-all : (before now : Option (List ℕ)) (all : List ℕ) → Wrote before now all [] → Appends before now all
Wrote-all before now all w = let e : w.front ≡ all = sym (append-nil w.front) ∙ sym w.parts in subst (λ (x : List ℕ). Appends before now x) e w.taken

-- a write that failed left what was written
pub Wrote-front : (before mid now : Option (List ℕ)) (all rest : List ℕ) → Wrote before mid all rest → Keeps mid now → (n : ℕ) × Appends before now (take n all)
Wrote-front before mid now all rest w kept =
    let e : w.front ≡ take (length w.front) all = sym (take_at w.front rest (length w.front) refl) ∙ ap (λ (x : List ℕ). take (length w.front) x) (sym w.parts) in
    (length w.front, subst (λ (x : List ℕ). Appends before now x) e (Appends-kept before mid now w.front w.taken kept))

-- more than the limit was read, so more was left
pub Consumes-long : (before now : Option (List ℕ)) (bytes : List ℕ) (limit : ℕ) → Consumes before now bytes → limit < length bytes → IfSome before (λ xs. limit < length xs)
Consumes-long None now bytes limit c long = tt
Consumes-long (Some xs) None bytes limit c long = absurd c
Consumes-long (Some xs) (Some ys) bytes limit c long = omega (arith, ap length c, length-append bytes ys)

-- a fact holds in particular where the call failed
pub any_err : {T E : Type 0} (P : Type 0) (r : Result T E) → P → OnErr r P
any_err P (Ok x) p = tt
any_err P (Err e) p = p

-- what was read up to the end is all that was left
pub Consumes-to_end : {E : Type 0} (left now all : List ℕ) (r : Result (List ℕ) E) → IfOk r (λ bytes. left ≡ bytes ++ now) → OnOk r (now ≡ []) → left ≡ all → IfOk r (λ bytes. bytes ≡ all)
Consumes-to_end left now all (Ok bytes) c end e = sym (append-nil bytes) ∙ ap (λ (x : List ℕ). bytes ++ x) (sym end) ∙ sym c ∙ e
Consumes-to_end left now all (Err x) c end e = tt
