-- Names that are escaped and read back.
use Rattle.std.proofs.Common.{◌≡◌, ℕ, zero, suc, ◌+◌, ◌-◌, ◌*◌, ◌/◌, ◌%◌, ◌≤◌, ◌<◌, Bool, true, false, ltb, ◌&&◌, List, [], ◌∷◌, ◌++◌, length, drop, refl, sym, ap, subst, ◌∙◌, append_assoc, arith}
use Rattle.std.specs.Prelude.{Option, Some, None, Result, Ok, Err, ◌==◌, nat_le, nat_lt, if◌then◌else◌}
use Rattle.std.specs.List.{list_any, AllByRecursion}
use Rattle.std.specs.Fmt.{digit_glyph}
use Rattle.std.proofs.lemmas.Bool.{eqb-true, and_parts}
use Rattle.std.proofs.lemmas.Bool.Decides.{nat_tests}
use Rattle.fcg_grammar.specs.Spell.{IsBytes}
use Rattle.fcg_views.specs.declared.escaping.Place.{Place}
use Rattle.fcg_views.specs.declared.escaping.Place.TheVariants.{Class, Member, Desc}
use Rattle.fcg_views.specs.Escape.{others, may_stand, escape_of, escaped, digit_of, escaped_as, followed, followed_or, unescaped, sized, front}
use Rattle.fcg_views.proofs.PartLaws.{Without}

-- ---- going over the bytes

abbrev pub all_followed : List ℕ → Result (List ℕ) ℕ → Result (List ℕ) ℕ
all_followed bs (Ok rest) = Ok (bs ++ rest)
all_followed bs (Err at) = Err at

pub none_before : (r : Result (List ℕ) ℕ) → all_followed [] r ≡ r
none_before (Ok rest) = refl
none_before (Err at) = refl

pub one_more : (bs : List ℕ) (b : ℕ) (r : Result (List ℕ) ℕ) → all_followed (bs ++ b ∷ []) r ≡ all_followed bs (followed b r)
one_more bs b (Ok rest) = ap (λ (l : List ℕ). Ok l) (append_assoc bs (b ∷ []) rest)
one_more bs b (Err at) = refl

pub record Goes (place : Place) (at : ℕ) (text : List ℕ) (b n : ℕ) : Type 0 where
  pub leads : unescaped place at text ≡ followed b (unescaped place (at + n) (drop n text))
  pub some : 0 < n
  pub within : n ≤ length text

-- what the front of a text leads to
abbrev GoesBy : Place → ℕ → List ℕ → Option (ℕ × ℕ) → Type 0
GoesBy place at text None = unescaped place at text ≡ Err at
GoesBy place at text (Some p) = Goes place at text p.0 p.1

front_goes : (place : Place) (at : ℕ) (text : List ℕ) → 0 < length text → GoesBy place at text (front place text)
unfolding unescaped
front_goes place at [] some = absurd (omega arith)
front_goes place at (b ∷ []) some = by (may_stand place b) refl
  where
    by : (c : Bool) → may_stand place b ≡ c → GoesBy place at (b ∷ []) (if c then Some (b, 1) else None)
    by true e = record { leads = rw e refl; some = omega arith; within = omega arith }
    by false e = rw e refl
front_goes place at (b ∷ c ∷ []) some = by (may_stand place b) refl
  where
    by : (s : Bool) → may_stand place b ≡ s → GoesBy place at (b ∷ c ∷ []) (if s then Some (b, 1) else None)
    by true e = record { leads = rw e refl; some = omega arith; within = omega arith }
    by false e = rw e refl
front_goes place at (b ∷ c ∷ d ∷ rest) some = by (may_stand place b) refl (escaped_as place b c d) refl
  where
    by : (s : Bool) → may_stand place b ≡ s → (o : Option ℕ) → escaped_as place b c d ≡ o → GoesBy place at (b ∷ c ∷ d ∷ rest) (if s then Some (b, 1) else sized 3 o)
    by true e o f = record { leads = rw e refl; some = omega arith; within = omega arith }
    by false e None f = rw (e, f) refl
    by false e (Some x) f = record { leads = rw (e, f) refl; some = omega arith; within = omega arith }

pub front_some : (place : Place) (at : ℕ) (text : List ℕ) (p : ℕ × ℕ) → 0 < length text → front place text ≡ Some p → Goes place at text p.0 p.1
front_some place at text p some e = subst (GoesBy place at text) e (front_goes place at text some)

pub front_none : (place : Place) (at : ℕ) (text : List ℕ) → 0 < length text → front place text ≡ None → unescaped place at text ≡ Err at
front_none place at text some e = subst (GoesBy place at text) e (front_goes place at text some)

pub front_end : (place : Place) (at : ℕ) (text : List ℕ) → length text ≡ 0 → unescaped place at text ≡ Ok []
unfolding unescaped
front_end place at [] e = refl
front_end place at (b ∷ bs) e = absurd (omega arith)

-- ---- digits

some_is : {A : Type 0} (u v : A) → Some u ≡ Some v → u ≡ v
some_is u v same = cc

digit_found : (c n : ℕ) → digit_of c ≡ Some n → (n < 16) × (digit_glyph true n ≡ c)
digit_found c n e = by (nat_le 48 c && nat_le c 57) refl (nat_le 65 c && nat_le c 70) refl
  where
    by : (x : Bool) → (nat_le 48 c && nat_le c 57) ≡ x → (y : Bool) → (nat_le 65 c && nat_le c 70) ≡ y → (n < 16) × (digit_glyph true n ≡ c)
    by true p y q =
        let is : c - 48 ≡ n = some_is (c - 48) n (sym (rw p refl) ∙ e) in
        let both = and_parts (nat_le 48 c) (nat_le c 57) p in
        let low : 48 ≤ c = grind (arith, nat_tests) in
        let high : c ≤ 57 = grind (arith, nat_tests) in
        let t : nat_lt n 10 ≡ true = grind (arith, nat_tests) in
        (omega arith, rw t (omega arith))
    by false p true q =
        let is : c - 55 ≡ n = some_is (c - 55) n (sym (rw (p, q) refl) ∙ e) in
        let both = and_parts (nat_le 65 c) (nat_le c 70) q in
        let low : 65 ≤ c = grind (arith, nat_tests) in
        let high : c ≤ 70 = grind (arith, nat_tests) in
        let t : nat_lt n 10 ≡ false = grind (arith, nat_tests) in
        (omega arith, rw t (omega arith))
    by false p false q = absurd (let bad : None ≡ Some n = sym (rw (p, q) refl) ∙ e in cc)

digit_only : (n : ℕ) → n < 16 → digit_of (digit_glyph true n) ≡ Some n
digit_only n small = by (nat_lt n 10) refl
  where
    by : (x : Bool) → nat_lt n 10 ≡ x → digit_of (digit_glyph true n) ≡ Some n
    by true t =
        let low : nat_le 48 (48 + n) ≡ true = grind (arith, nat_tests) in
        let high : nat_le (48 + n) 57 ≡ true = grind (arith, nat_tests) in
        let back : 48 + n - 48 ≡ n = omega arith in
        rw (t, low, high, back) refl
    by false t =
        let first : nat_le (55 + n) 57 ≡ false = grind (arith, nat_tests) in
        let past : nat_le 48 (55 + n) ≡ true = grind (arith, nat_tests) in
        let low : nat_le 65 (55 + n) ≡ true = grind (arith, nat_tests) in
        let high : nat_le (55 + n) 70 ≡ true = grind (arith, nat_tests) in
        let back : 55 + n - 55 ≡ n = omega arith in
        rw (t, past, first, low, high, back) refl

-- ---- escapes

percent_out : (place : Place) → may_stand place 37 ≡ false
percent_out Class = refl
percent_out Member = refl
percent_out Desc = refl

record IsEscape (place : Place) (b c d x : ℕ) : Type 0 where
  first : b ≡ 37
  out : may_stand place x ≡ false
  small : x < 256
  high : digit_glyph true (x / 16) ≡ c
  low : digit_glyph true (x % 16) ≡ d

halves : (h l x : ℕ) → h < 16 → l < 16 → h * 16 + l ≡ x → (x < 256) × (x / 16 ≡ h) × (x % 16 ≡ l)
halves h l x hs ls e = (omega arith, omega arith, omega arith)

escape_is : (place : Place) (b c d x : ℕ) → escaped_as place b c d ≡ Some x → IsEscape place b c d x
escape_is place b c d x e = by (b == 37) refl (digit_of c) refl (digit_of d) refl
  where
    named : (h l : ℕ) → b ≡ 37 → digit_of c ≡ Some h → digit_of d ≡ Some l → (s : Bool) → may_stand place (h * 16 + l) ≡ s → (if s then None else Some (h * 16 + l)) ≡ Some x → IsEscape place b c d x
    named h l first ch dl true s f = absurd cc
    named h l first ch dl false s f =
        let is : h * 16 + l ≡ x = some_is _ x f in
        let high = digit_found c h ch in
        let low = digit_found d l dl in
        let parts = halves h l x high.0 low.0 is in
        record {
          first = first;
          out = subst (λ (n : ℕ). may_stand place n ≡ false) is s;
          small = parts.0;
          high = ap (digit_glyph true) parts.1 ∙ high.1;
          low = ap (digit_glyph true) parts.2 ∙ low.1;
        }

    by : (t : Bool) → (b == 37) ≡ t → (h : Option ℕ) → digit_of c ≡ h → (l : Option ℕ) → digit_of d ≡ l → IsEscape place b c d x
    by false t h ch l dl = absurd (let bad : None ≡ Some x = sym (rw t refl) ∙ e in cc)
    by true t None ch l dl = absurd (let bad : None ≡ Some x = sym (rw (t, ch) refl) ∙ e in cc)
    by true t (Some h) ch None dl = absurd (let bad : None ≡ Some x = sym (rw (t, ch, dl) refl) ∙ e in cc)
    by true t (Some h) ch (Some l) dl = named h l (eqb-true b 37 t) ch dl (may_stand place (h * 16 + l)) refl (sym (rw (t, ch, dl) refl) ∙ e)

escape_read : (place : Place) (b : ℕ) → b < 256 → may_stand place b ≡ false → escaped_as place 37 (digit_glyph true (b / 16)) (digit_glyph true (b % 16)) ≡ Some b
escape_read place b small out =
    let back : b / 16 * 16 + b % 16 ≡ b = omega arith in
    rw (digit_only (b / 16) (omega arith), digit_only (b % 16) (omega arith), back, out) refl

in_range_small : (low high b : ℕ) → high < 256 → 256 ≤ b → (nat_le low b && nat_le b high) ≡ false
in_range_small low high b small large = by (nat_le low b)
  where
    by : (c : Bool) → (c && nat_le b high) ≡ false
    by true = grind (arith, nat_tests)
    by false = refl

other_small : (c b : ℕ) → c < 256 → 256 ≤ b → (c == b) ≡ false
other_small c b small large = grind (arith, nat_tests)

large_out : (place : Place) (b : ℕ) → 256 ≤ b → may_stand place b ≡ false
large_out place b large =
    rw (in_range_small 48 57 b (omega arith) large, in_range_small 65 90 b (omega arith) large, in_range_small 97 122 b (omega arith) large) (by place)
  where
    no : (c : ℕ) → c < 256 → (c == b) ≡ false
    no c small = other_small c b small large

    by : (p : Place) → list_any (λ c. c == b) (others p) ≡ false
    by Class = rw (no 95 (omega arith), no 45 (omega arith), no 36 (omega arith), no 47 (omega arith)) refl
    by Member = rw (no 95 (omega arith), no 45 (omega arith), no 36 (omega arith)) refl
    by Desc = rw (no 95 (omega arith), no 45 (omega arith), no 36 (omega arith), no 47 (omega arith), no 40 (omega arith), no 41 (omega arith), no 59 (omega arith), no 91 (omega arith)) refl

standing_small : (place : Place) (b : ℕ) → may_stand place b ≡ true → b < 256
standing_small place b e = by (ltb b 256) refl
  where
    by : (c : Bool) → ltb b 256 ≡ c → b < 256
    by true t = grind (arith, nat_tests)
    by false t = absurd (let large : 256 ≤ b = grind (arith, nat_tests) in let bad : true ≡ false = sym e ∙ large_out place b large in cc)

-- ---- both ways

abbrev pub AreBytes : List ℕ → Type 0
AreBytes bytes = AllByRecursion (λ b. b < 256) bytes

pub record Found (place : Place) (text bytes : List ℕ) : Type 0 where
  pub spelled : escaped place bytes ≡ text
  pub fit : AreBytes bytes

-- the rest of a text is found
abbrev Rest : Place → List ℕ → Result (List ℕ) ℕ → Type 0
Rest place text r = (bytes : List ℕ) → r ≡ Ok bytes → Found place text bytes

done : (bs : List ℕ) → Result (List ℕ) ℕ
done bs = Ok bs

stand_found : (place : Place) (b : ℕ) (text : List ℕ) (r : Result (List ℕ) ℕ) → may_stand place b ≡ true → Rest place text r → Rest place (b ∷ text) (followed b r)
unfolding escaped
stand_found place b text (Err at) s rest bytes e = absurd cc
stand_found place b text (Ok bs) s rest bytes e =
    let below = rest bs refl in
    let is : b ∷ bs ≡ bytes = cc in
    subst (Found place (b ∷ text)) is (record { spelled = rw s (ap (λ (l : List ℕ). b ∷ l) below.spelled); fit = (standing_small place b s, below.fit) })

escape_found : (place : Place) (b c d x : ℕ) (text : List ℕ) (r : Result (List ℕ) ℕ) → escaped_as place b c d ≡ Some x → Rest place text r → Rest place (b ∷ c ∷ d ∷ text) (followed x r)
unfolding escaped
escape_found place b c d x text (Err at) f rest bytes e = absurd cc
escape_found place b c d x text (Ok bs) f rest bytes e =
    let below = rest bs refl in
    let is : x ∷ bs ≡ bytes = cc in
    let esc = escape_is place b c d x f in
    subst (Found place (b ∷ c ∷ d ∷ text)) is (record { spelled = rw (esc.out, esc.high, esc.low, below.spelled, esc.first) refl; fit = (esc.small, below.fit) })

nothing : (p : Place) → escaped p [] ≡ []
unfolding escaped
nothing p = refl

pub unescaped_found : (place : Place) (at : ℕ) (text : List ℕ) → Rest place text (unescaped place at text)
unfolding unescaped
unescaped_found place at [] bytes e = let is : [] ≡ bytes = cc in subst (Found place []) is (record { spelled = nothing place; fit = tt })
unescaped_found place at (b ∷ []) bytes e = by (unescaped_found place at []) (may_stand place b) refl e
  where
    by : Rest place [] (unescaped place at []) → (s : Bool) → may_stand place b ≡ s → (if s then Ok (b ∷ []) else Err at) ≡ Ok bytes → Found place (b ∷ []) bytes
    by below true s f = stand_found place b [] (Ok []) s below bytes f
    by below false s f = absurd cc
unescaped_found place at (b ∷ c ∷ []) bytes e = by (unescaped_found place (at + 1) (c ∷ [])) (may_stand place b) refl e
  where
    by : Rest place (c ∷ []) (unescaped place (at + 1) (c ∷ [])) → (s : Bool) → may_stand place b ≡ s → (if s then followed b (unescaped place (at + 1) (c ∷ [])) else Err at) ≡ Ok bytes → Found place (b ∷ c ∷ []) bytes
    by below true s f = stand_found place b (c ∷ []) (unescaped place (at + 1) (c ∷ [])) s below bytes f
    by below false s f = absurd cc
unescaped_found place at (b ∷ c ∷ d ∷ rest) bytes e = by (unescaped_found place (at + 1) (c ∷ d ∷ rest)) (unescaped_found place (at + 3) rest) (may_stand place b) refl (escaped_as place b c d) refl e
  where
    by : Rest place (c ∷ d ∷ rest) (unescaped place (at + 1) (c ∷ d ∷ rest)) → Rest place rest (unescaped place (at + 3) rest) → (s : Bool) → may_stand place b ≡ s → (o : Option ℕ) → escaped_as place b c d ≡ o
        → (if s then followed b (unescaped place (at + 1) (c ∷ d ∷ rest)) else followed_or o at (unescaped place (at + 3) rest)) ≡ Ok bytes → Found place (b ∷ c ∷ d ∷ rest) bytes
    by one three true s o f g = stand_found place b (c ∷ d ∷ rest) (unescaped place (at + 1) (c ∷ d ∷ rest)) s one bytes g
    by one three false s None f g = absurd cc
    by one three false s (Some x) f g = escape_found place b c d x rest (unescaped place (at + 3) rest) f three bytes g

stands_next : (place : Place) (at b : ℕ) (text : List ℕ) → may_stand place b ≡ true → unescaped place at (b ∷ text) ≡ followed b (unescaped place (at + 1) text)
unfolding unescaped
stands_next place at b [] s = rw s refl
stands_next place at b (c ∷ []) s = rw s refl
stands_next place at b (c ∷ d ∷ rest) s = rw s refl

escape_next : (place : Place) (at b : ℕ) (text : List ℕ) → b < 256 → may_stand place b ≡ false → unescaped place at (escape_of b ++ text) ≡ followed b (unescaped place (at + 3) text)
unfolding unescaped
escape_next place at b text small out = rw (percent_out place, escape_read place b small out) refl

pub unescaped_only : (place : Place) (at : ℕ) (bytes : List ℕ) → AreBytes bytes → unescaped place at (escaped place bytes) ≡ Ok bytes
unfolding escaped
unescaped_only place at [] fit = front_end place at [] refl
unescaped_only place at (b ∷ bs) fit = by (λ n. unescaped_only place n bs fit.1) (may_stand place b) refl
  where
    by : ((n : ℕ) → unescaped place n (escaped place bs) ≡ Ok bs) → (s : Bool) → may_stand place b ≡ s → unescaped place at ((if s then b ∷ [] else escape_of b) ++ escaped place bs) ≡ Ok (b ∷ bs)
    by below true s = stands_next place at b (escaped place bs) s ∙ ap (followed b) (below (at + 1))
    by below false s = escape_next place at b (escaped place bs) fit.0 s ∙ ap (followed b) (below (at + 3))

-- ---- which bytes an escaped text has

other_glyph : (n stop : ℕ) → n < 16 → digit_of stop ≡ None → (digit_glyph true n == stop) ≡ false
other_glyph n stop small none = by (digit_glyph true n == stop) refl
  where
    by : (c : Bool) → (digit_glyph true n == stop) ≡ c → (digit_glyph true n == stop) ≡ false
    by true e = absurd (let bad : None ≡ Some n = sym none ∙ ap digit_of (sym (eqb-true (digit_glyph true n) stop e)) ∙ digit_only n small in cc)
    by false e = e

other_standing : (place : Place) (b stop : ℕ) → may_stand place b ≡ true → may_stand place stop ≡ false → (b == stop) ≡ false
other_standing place b stop s out = by (b == stop) refl
  where
    by : (c : Bool) → (b == stop) ≡ c → (b == stop) ≡ false
    by true e = absurd (let bad : true ≡ false = sym s ∙ ap (may_stand place) (eqb-true b stop e) ∙ out in cc)
    by false e = e

-- a byte that may not stand, and is no `%` and no digit, is in no escaped text
pub escaped_without : (place : Place) (stop : ℕ) (bytes : List ℕ) → may_stand place stop ≡ false → digit_of stop ≡ None → (37 == stop) ≡ false → AreBytes bytes → Without stop (escaped place bytes)
unfolding escaped
escaped_without place stop [] out none other fit = tt
escaped_without place stop (b ∷ bs) out none other fit = by (escaped_without place stop bs out none other fit.1) (may_stand place b) refl
  where
    by : Without stop (escaped place bs) → (s : Bool) → may_stand place b ≡ s → Without stop ((if s then b ∷ [] else escape_of b) ++ escaped place bs)
    by below true s = (other_standing place b stop s out, below)
    by below false s = (other, (other_glyph (b / 16) stop (omega (arith, fit.0)) none, (other_glyph (b % 16) stop (omega arith) none, below)))

pub escaped_some : (place : Place) (bytes : List ℕ) → 0 < length bytes → 0 < length (escaped place bytes)
unfolding escaped
escaped_some place [] some = absurd (omega arith)
escaped_some place (b ∷ bs) some = by (may_stand place b)
  where
    by : (s : Bool) → 0 < length ((if s then b ∷ [] else escape_of b) ++ escaped place bs)
    by true = omega arith
    by false = omega arith

-- ---- bytes by their places

pub by_place : (bytes : List ℕ) → AreBytes bytes → IsBytes bytes
by_place [] fit i = omega arith
by_place (b ∷ bs) fit zero = fit.0
by_place (b ∷ bs) fit (suc i) = by_place bs fit.1 i

pub in_turn : (bytes : List ℕ) → IsBytes bytes → AreBytes bytes
in_turn [] is = tt
in_turn (b ∷ bs) is = (is 0, in_turn bs (λ i. is (suc i)))
