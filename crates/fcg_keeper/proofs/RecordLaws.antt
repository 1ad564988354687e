-- Records that are loaded, and records in order.
use Rattle.std.proofs.Common.{◌≡◌, ◌≤◌, ◌<◌, ◌+◌, ℕ, zero, suc, List, [], ◌∷◌, ◌++◌, length, take, Bool, true, false, get_or, refl, sym, ap, arith}
use Rattle.std.specs.Prelude.{nat_le, nat_lt, ◌&&◌, if◌then◌else◌}
use Rattle.std.proofs.lemmas.Bool.Decides.{nat_tests}
use Rattle.fcg_keeper.specs.Internal.Steps.{with_one}
use Rattle.std.specs.List.{filter, AllByRecursion}
use Rattle.std.proofs.lemmas.List.Elements.{filter_more}
use Rattle.fcg_keeper.specs.declared.record.Record.{Record}
use Rattle.fcg_keeper.specs.Records.{BySeq, NoneAbove, loaded}
use Rattle.fcg_keeper.specs.declared.keeper.TheConstants.{MOST_LOADED}

abbrev no_records : List Record
no_records = []

nothing : (n : ℕ) → take n no_records ≡ no_records
nothing zero = refl
nothing (suc n) = refl

take_more : (n : ℕ) (xs : List Record) (x : Record) → length (take n xs) < n → take n (xs ++ x ∷ []) ≡ take n xs ++ x ∷ []
take_more zero xs x low = absurd (omega (arith, low))
take_more (suc n) [] x low = ap (λ r. x ∷ r) (nothing n)
take_more (suc n) (y ∷ xs) x low = ap (λ r. y ∷ r) (take_more n xs x (omega (arith, low)))

take_full : (n : ℕ) (xs ys : List Record) → n ≤ length (take n xs) → take n (xs ++ ys) ≡ take n xs
take_full zero xs ys full = refl
take_full (suc n) [] ys full = absurd (omega (arith, full))
take_full (suc n) (y ∷ xs) ys full = ap (λ r. y ∷ r) (take_full n xs ys (omega (arith, full)))

is_low : (n m : ℕ) → nat_lt n m ≡ true → n < m
is_low n m h = grind (arith, nat_tests, h)

is_high : (n m : ℕ) → nat_lt n m ≡ false → m ≤ n
is_high n m h = grind (arith, nat_tests, h)

right_nil : (xs : List Record) → xs ++ [] ≡ xs
right_nil [] = refl
right_nil (x ∷ xs) = ap (λ r. x ∷ r) (right_nil xs)

module _ (from : ℕ) (rs : List Record) (i : ℕ) (d : Record) (low : i < length rs) where
  pub loaded_more : length (loaded from (take i rs)) < MOST_LOADED → nat_le from (get_or rs i d).seq ≡ true → loaded from (take (i + 1) rs) ≡ loaded from (take i rs) ++ get_or rs i d ∷ []
  loaded_more room passes = rw (filter_more (λ (r : Record). nat_le from r.seq) rs i d low, passes) (take_more MOST_LOADED (filter (λ (r : Record). nat_le from r.seq) (take i rs)) (get_or rs i d) room)

  pub loaded_full : MOST_LOADED ≤ length (loaded from (take i rs)) → loaded from (take (i + 1) rs) ≡ loaded from (take i rs)
  loaded_full full = rw (filter_more (λ (r : Record). nat_le from r.seq) rs i d low) (take_full MOST_LOADED (filter (λ (r : Record). nat_le from r.seq) (take i rs)) _ full)

  pub loaded_other : nat_le from (get_or rs i d).seq ≡ false → loaded from (take (i + 1) rs) ≡ loaded from (take i rs)
  loaded_other passes = rw (filter_more (λ (r : Record). nat_le from r.seq) rs i d low, passes, right_nil (filter (λ (r : Record). nat_le from r.seq) (take i rs))) refl

pub by_seq_more : (rs : List Record) (row : Record) → BySeq rs → NoneAbove row.seq rs → BySeq (rs ++ row ∷ [])
by_seq_more [] row by none = (tt, tt)
by_seq_more (r ∷ rs) row by none = (all_more rs by.0 none.0, by_seq_more rs row by.1 none.1)
  where
    all_more : (xs : List Record) → AllByRecursion (λ later. r.seq ≤ later.seq) xs → r.seq ≤ row.seq → AllByRecursion (λ later. r.seq ≤ later.seq) (xs ++ row ∷ [])
    all_more [] h last = (last, tt)
    all_more (x ∷ xs) h last = (h.0, all_more xs h.1 last)

pub one_loaded : (from : ℕ) (rs : List Record) (i : ℕ) (d : Record) → i < length rs → with_one from (loaded from (take i rs)) (get_or rs i d) ≡ loaded from (take (i + 1) rs)
one_loaded from rs i d low = by_room (nat_lt (length (loaded from (take i rs))) MOST_LOADED) (nat_le from (get_or rs i d).seq) refl refl
  where
    by_room : (room passes : Bool) → nat_lt (length (loaded from (take i rs))) MOST_LOADED ≡ room → nat_le from (get_or rs i d).seq ≡ passes → (if room && passes then loaded from (take i rs) ++ get_or rs i d ∷ [] else loaded from (take i rs)) ≡ loaded from (take (i + 1) rs)
    by_room true true r p = sym (loaded_more from rs i d low (is_low (length (loaded from (take i rs))) MOST_LOADED r) p)
    by_room true false r p = sym (loaded_other from rs i d low p)
    by_room false passes r p = sym (loaded_full from rs i d low (is_high (length (loaded from (take i rs))) MOST_LOADED r))
