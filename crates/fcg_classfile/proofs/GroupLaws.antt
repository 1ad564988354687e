-- A text is groups exactly where no group of it is bad.
use Rattle.std.proofs.Common.{◌≡◌, ℕ, zero, suc, ◌+◌, ◌≤◌, ◌<◌, Bool, true, false, cond, List, [], ◌∷◌, ◌++◌, length, take, drop, None, refl, sym, ap, ◌∙◌, arith, inl, inr}
use Rattle.std.specs.List.{flat_map, AllByRecursion}
use Rattle.std.proofs.lemmas.Bool.{cases_lt}
use Rattle.std.proofs.lemmas.Bool.Decides.{nat_tests}
use Rattle.std.proofs.lemmas.List.{take-append-drop, drop_at, length-drop, length-append}
use Rattle.std.proofs.lemmas.List.Concat.{flat_map-cons}
use Rattle.fcg_classfile.specs.Breaks.Groups.{is_in, is_single, is_pair, is_triple, bad_group}
use Rattle.fcg_classfile.specs.Internal.Group.{group_len}
use Rattle.fcg_classfile.specs.Reads.{IsIn, IsGroup, AreGroups}
use Rattle.fcg_classfile.proofs.GroupLemmas.{group_none, group_some, group_end}

in_true : (low high b : ℕ) → is_in low high b ≡ true → IsIn low high b
in_true low high b e = (grind (arith, nat_tests), grind (arith, nat_tests))

abbrev len_by : Bool → Bool → Bool → ℕ
len_by s p t = cond s 1 (cond p 2 (cond t 3 0))

of_one : (a : ℕ) (s : Bool) → is_single a ≡ s → 0 < cond s 1 0 → IsGroup (take (cond s 1 0) (a ∷ []))
of_one a true e lt = in_true 1 127 a e
of_one a false e lt = absurd (omega arith)

of_two : (a b : ℕ) (s p : Bool) → is_single a ≡ s → is_pair a b ≡ p → 0 < cond s 1 (cond p 2 0) → IsGroup (take (cond s 1 (cond p 2 0)) (a ∷ b ∷ []))
of_two a b true p e f lt = in_true 1 127 a e
of_two a b false true e f lt = ((grind (arith, nat_tests), grind (arith, nat_tests)), (grind (arith, nat_tests), grind (arith, nat_tests)))
of_two a b false false e f lt = absurd (omega arith)

of_three : (a b c : ℕ) (rest : List ℕ) (s p t : Bool) → is_single a ≡ s → is_pair a b ≡ p → is_triple a b c ≡ t → 0 < len_by s p t → IsGroup (take (len_by s p t) (a ∷ b ∷ c ∷ rest))
of_three a b c rest true p t e f g lt = in_true 1 127 a e
of_three a b c rest false true t e f g lt = ((grind (arith, nat_tests), grind (arith, nat_tests)), (grind (arith, nat_tests), grind (arith, nat_tests)))
of_three a b c rest false false true e f g lt = ((grind (arith, nat_tests), grind (arith, nat_tests)), (grind (arith, nat_tests), grind (arith, nat_tests)), (grind (arith, nat_tests), grind (arith, nat_tests)))
of_three a b c rest false false false e f g lt = absurd (omega arith)

front_group : (text : List ℕ) → 0 < group_len text → IsGroup (take (group_len text) text)
front_group [] lt = absurd (omega arith)
front_group (a ∷ []) lt = of_one a (is_single a) refl lt
front_group (a ∷ b ∷ []) lt = of_two a b (is_single a) (is_pair a b) refl refl lt
front_group (a ∷ b ∷ c ∷ rest) lt = of_three a b c rest (is_single a) (is_pair a b) (is_triple a b c) refl refl refl lt

groups_of : (most at : ℕ) (text : List ℕ) → length text ≤ most → bad_group at text ≡ None → AreGroups text
groups_of most at [] le e = ([], tt, refl)
groups_of zero at (b ∷ text) le e = absurd (omega arith)
groups_of (suc most) at (b ∷ text) le e =
    let n : ℕ = group_len (b ∷ text) in
    elim (cases_lt 0 n) [
      | inl lt ↦ (
          let goes = group_some at (b ∷ text) (omega arith) lt in
          let rest = groups_of most (at + n) (drop n (b ∷ text)) (omega (arith, length-drop n (b ∷ text))) (sym goes.0 ∙ e) in
          (take n (b ∷ text) ∷ rest.0, (front_group (b ∷ text) lt, rest.1), sym (take-append-drop n (b ∷ text)) ∙ ap (λ (l : List ℕ). take n (b ∷ text) ++ l) rest.2 ∙ sym (flat_map-cons (λ group. group) (take n (b ∷ text)) rest.0))
          )
      | inr le0 ↦ absurd (none_bad at (b ∷ text) (omega arith) (omega arith) e)
    ]
  where
    none_bad : (at : ℕ) (text : List ℕ) → 0 < length text → group_len text ≡ 0 → bad_group at text ≡ None → ⊥
    none_bad at text some n e = let bad = group_none at text some n in cc

pub groups_found : (at : ℕ) (text : List ℕ) → bad_group at text ≡ None → AreGroups text
groups_found at text e = groups_of (length text) at text (omega arith) e

group_front : (g rest : List ℕ) → IsGroup g → group_len (g ++ rest) ≡ length g
group_front [] rest is = absurd is
group_front (a ∷ []) [] is = grind (arith, nat_tests)
group_front (a ∷ []) (x ∷ []) is = grind (arith, nat_tests)
group_front (a ∷ []) (x ∷ y ∷ rest) is = grind (arith, nat_tests)
group_front (a ∷ b ∷ []) [] is = grind (arith, nat_tests)
group_front (a ∷ b ∷ []) (x ∷ rest) is = grind (arith, nat_tests)
group_front (a ∷ b ∷ c ∷ []) rest is = grind (arith, nat_tests)
group_front (a ∷ b ∷ c ∷ d ∷ more) rest is = absurd is

some_group : (g : List ℕ) → IsGroup g → 0 < length g
some_group [] is = absurd is
some_group (a ∷ g) is = omega arith

groups_again : (at : ℕ) (gs : List (List ℕ)) → AllByRecursion IsGroup gs → bad_group at (flat_map (λ group. group) gs) ≡ None
groups_again at [] are = group_end at [] refl
groups_again at (g ∷ gs) are =
    let rest : List ℕ = flat_map (λ group. group) gs in
    let n = group_front g rest are.0 in
    let more = some_group g are.0 in
    let len = length-append g rest in
    let goes = group_some at (g ++ rest) (omega arith) (omega arith) in
    let off : drop (group_len (g ++ rest)) (g ++ rest) ≡ rest = drop_at g rest _ (sym n) in
    ap (bad_group at) (flat_map-cons (λ group. group) g gs) ∙ goes.0 ∙ ap (bad_group (at + group_len (g ++ rest))) off ∙ groups_again (at + group_len (g ++ rest)) gs are.1

pub groups_only : (at : ℕ) (text : List ℕ) → AreGroups text → bad_group at text ≡ None
groups_only at text are = ap (bad_group at) are.2 ∙ groups_again at are.0 are.1
