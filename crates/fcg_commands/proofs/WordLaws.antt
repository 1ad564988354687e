-- Words of numbers, and texts of coordinates one after the other.
use Rattle.std.proofs.Common.{◌≡◌, ℕ, ◌+◌, ◌^◌, ◌<◌, ◌≤◌, Bool, true, false, ◌&&◌, cond, List, [], ◌∷◌, ◌++◌, length, drop, map, get_or, refl, sym, ap, subst, ◌∙◌, append_assoc, arith}
use Rattle.std.specs.Prelude.{Option, Some, None, Result, Ok, Err, nat_lt, nat_le, ◌==◌}
use Rattle.std.specs.List.{list_all}
use Rattle.std.specs.Result.{result_ok}
use Rattle.std.specs.Char.{is_ascii_digit, digit_value}
use Rattle.std.specs.Str.Parse.{AllDigits, digits_value, without_leading_plus, ParsesUnsigned}
use Rattle.std.proofs.lemmas.Bool.Decides.{nat_tests}
use Rattle.std.proofs.lemmas.List.{drop_more, append-nil, length-map}
use Rattle.std.proofs.Math.ListN.{drop_of_length-le, get_or-map}
use Rattle.fcg_grammar.specs.Reading.{◌>>=◌}
use Rattle.fcg_views.specs.Coordinate.{coordinate_of}
use Rattle.fcg_views.specs.declared.coordinate.CoordinateFault.{CoordinateFault}
use Rattle.fcg_json.specs.declared.reply.Reply.{Reply}
use Rattle.fcg_json.specs.declared.reply.Reply.TheVariants.{BadCoordinate}
use Rattle.fcg_commands.specs.Words.{is_number, number_of, coordinates_from}

-- ---- numbers
digit_small : (c : ℕ) → is_ascii_digit c ≡ true → digit_value c < 10
digit_small c is = grind (arith, nat_tests, is)

digit_no_plus : (c : ℕ) → is_ascii_digit c ≡ true → (c == 43) ≡ false
digit_no_plus c is = grind (arith, nat_tests, is)

first_of : (a b : Bool) → (a && b) ≡ true → a ≡ true
first_of true b is = refl
first_of false b is = absurd cc

rest_of : (a b : Bool) → (a && b) ≡ true → b ≡ true
rest_of true b is = is
rest_of false b is = absurd cc

all_digits : (cs : List ℕ) → list_all is_ascii_digit cs ≡ true → AllDigits 10 cs
all_digits [] are = tt
all_digits (c ∷ cs) are = (digit_small c (first_of (is_ascii_digit c) (list_all is_ascii_digit cs) are), all_digits cs (rest_of (is_ascii_digit c) (list_all is_ascii_digit cs) are))

no_plus : (cs : List ℕ) → list_all is_ascii_digit cs ≡ true → without_leading_plus cs ≡ cs
no_plus [] are = refl
no_plus (c ∷ cs) are = rw (digit_no_plus c (first_of (is_ascii_digit c) (list_all is_ascii_digit cs) are)) refl

lt_true : (n m : ℕ) → n < m → nat_lt n m ≡ true
lt_true n m is = grind (arith, nat_tests, is)

le_true : (n m : ℕ) → n ≤ m → nat_le n m ≡ true
le_true n m is = grind (arith, nat_tests, is)

lt_is : (n m : ℕ) → nat_lt n m ≡ true → n < m
lt_is n m is = grind (arith, nat_tests, is)

-- a word of digits is parsed as the number that it is
pub parsed : {E : Type 0} (word : List ℕ) (r : Result ℕ E) → length word ≤ 20 → list_all is_ascii_digit word ≡ true → ParsesUnsigned 64 10 word r → result_ok r ≡ number_of word
parsed word (Ok n) short are p =
    let q = rw (no_plus word are) at p in
    let some = (q.0).0 in
    rw (lt_true 0 (length word) ((q.0).0).0, le_true (length word) 20 short, are, lt_true (digits_value 10 word) (2 ^ 64) (q.0).1) (ap (λ (k : ℕ). some_number k) q.1)
  where
    some_number : ℕ → Option ℕ
    some_number k = Some k
parsed word (Err e) short are p = by (is_number word) refl
  where
    no : is_number word ≡ true → ⊥
    no is =
        let q = rw (no_plus word are) at p in
        let a = first_of (nat_lt 0 (length word)) _ is in
        let b = rest_of (nat_lt 0 (length word)) _ is in
        let c = rest_of (nat_le (length word) 20) _ b in
        let d = rest_of (list_all is_ascii_digit word) _ c in
        q ((lt_is 0 (length word) a, all_digits word are), lt_is (digits_value 10 word) (2 ^ 64) d)

    by : (b : Bool) → is_number word ≡ b → None ≡ cond b (Some (digits_value 10 word)) None
    by true is = absurd (no is)
    by false is = refl

-- a word that is too long, or has another byte
pub no_number : (word : List ℕ) → nat_le (length word) 20 && list_all is_ascii_digit word ≡ false → None ≡ number_of word
no_number word is = by (nat_lt 0 (length word)) (nat_le (length word) 20) (list_all is_ascii_digit word) (nat_lt (digits_value 10 word) (2 ^ 64)) is
  where
    by : (a b c d : Bool) → (b && c) ≡ false → None ≡ cond (a && (b && (c && d))) (Some (digits_value 10 word)) None
    by true true true d is = absurd cc
    by true true false d is = refl
    by true false c d is = refl
    by false b c d is = refl

-- ---- coordinates
abbrev pub after : List (List ℕ) → Result (List (List ℕ)) Reply → Result (List (List ℕ)) Reply
after cs (Ok ds) = Ok (cs ++ ds)
after cs (Err r) = Err r

pub texts_begin : (texts : List (List ℕ)) → coordinates_from 0 texts ≡ after [] (coordinates_from 0 texts)
texts_begin texts = by (coordinates_from 0 texts)
  where
    by : (r : Result (List (List ℕ)) Reply) → r ≡ after [] r
    by (Ok cs) = refl
    by (Err e) = refl

module _ {X : Type 0} (f : X → List ℕ) (xs : List X) (i : ℕ) (x : X) (low : i < length xs) (is : x ≡ get_or xs i x) where
  next : drop i (map f xs) ≡ f x ∷ drop (i + 1) (map f xs)
  next =
      let long : i < length (map f xs) = subst (λ (n : ℕ). i < n) (sym (length-map xs f)) low in
      drop_more (map f xs) i (f x) long ∙ ap (λ (t : List ℕ). t ∷ drop (i + 1) (map f xs)) (get_or-map f xs i x ∙ ap f (sym is))

  pub texts_go_on : (c : List ℕ) (cs : List (List ℕ)) → coordinate_of (f x) ≡ Ok c → after cs (coordinates_from i (drop i (map f xs))) ≡ after (cs ++ c ∷ []) (coordinates_from (i + 1) (drop (i + 1) (map f xs)))
  texts_go_on c cs read = rw (next, read) (by (coordinates_from (i + 1) (drop (i + 1) (map f xs))))
    where
      by : (r : Result (List (List ℕ)) Reply) → after cs (r >>= λ ds. Ok (c ∷ ds)) ≡ after (cs ++ c ∷ []) r
      by (Ok ds) = ap (λ (l : List (List ℕ)). after [] (Ok l)) (sym (append_assoc cs (c ∷ []) ds))
      by (Err e) = refl

  pub texts_stop : (fault : CoordinateFault) (cs : List (List ℕ)) → coordinate_of (f x) ≡ Err fault → after cs (coordinates_from i (drop i (map f xs))) ≡ Err (BadCoordinate i fault)
  texts_stop fault cs read = rw (next, read) refl

pub texts_end : {X : Type 0} (f : X → List ℕ) (xs : List X) (i : ℕ) (cs : List (List ℕ)) → length xs ≡ i → after cs (coordinates_from i (drop i (map f xs))) ≡ Ok cs
texts_end f xs i cs end = (let high : length (map f xs) ≤ i = (let l = length-map xs f in omega (arith, l, end)) in rw (drop_of_length-le (map f xs) high, append-nil cs) refl)

abbrev pub broken : ℕ → CoordinateFault → Result (List (List ℕ)) Reply
broken i fault = Err (BadCoordinate i fault)
