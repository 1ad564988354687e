-- The rules of a pool's own indexes are kept where it is read exactly where the grammar says so.
use Rattle.std.proofs.Common.{◌≡◌, ℕ, zero, suc, ◌+◌, ◌<◌, Bool, true, false, not, ◌&&◌, ◌||◌, cond, eqb, leb, ltb, List, [], ◌∷◌, ◌++◌, length, Option, Some, None, refl, subst, arith}
use Rattle.std.specs.Prelude.{Ok}
use Rattle.std.specs.List.{slice_get, AllByRecursion}
use Rattle.std.proofs.lemmas.Bool.{lt-ltb}
use Rattle.std.proofs.lemmas.Bool.Decides.{nat_tests}
use Rattle.fcg_grammar.specs.Reading.{unless_broken}
use Rattle.fcg_grammar.specs.Rows.{each}
use Rattle.fcg_grammar.proofs.LawLemmas.{bind_ok, kept_ok}
use Rattle.fcg_classfile.specs.declared.fault.PoolRule.TheVariants.{BadIndex, WrongKind}
use Rattle.fcg_classfile.specs.ClassFile.{is_one_of, Constant, Utf8, Plain, Named, Pair, Handle, tag_of, is_wide, unusable, slots, wants, handle_tags}
use Rattle.fcg_classfile.specs.Constants.{of_slot}
use Rattle.fcg_classfile.specs.Reads.{HasTag}
use Rattle.fcg_classfile.specs.Breaks.Pool.{Placed, Entries, constant_of, want_kept, wants_kept, is_kind, has_room, constant_kept, slot_kept}
use Rattle.fcg_classfile.specs.Tables.{unplaced, Holds}
use Rattle.fcg_classfile.proofs.SlotLaws.{tag_ok}
use Rattle.fcg_classfile.proofs.NameLaws.{constant_found, constant_only}

-- what holds of each slot that has a constant
abbrev pub OfSome : (Constant → Type 0) → Option Constant → Type 0
OfSome P None = Unit {0}
OfSome P (Some c) = P c

module _ (P : Constant → Type 0) where
  usable : (w : Bool) (marks : List (Option Constant)) → AllByRecursion (OfSome P) (unusable w ++ marks) → AllByRecursion (OfSome P) marks
  usable true marks all = all.1
  usable false marks all = all

  again : (w : Bool) (marks : List (Option Constant)) → AllByRecursion (OfSome P) marks → AllByRecursion (OfSome P) (unusable w ++ marks)
  again true marks all = (tt, all)
  again false marks all = all

  pub all_constants : (cs : List Constant) → AllByRecursion (OfSome P) (slots cs) → AllByRecursion P cs
  all_constants [] all = tt
  all_constants (c ∷ cs) all = (all.0, all_constants cs (usable (is_wide c) (slots cs) all.1))

  pub all_slots : (cs : List Constant) → AllByRecursion P cs → AllByRecursion (OfSome P) (slots cs)
  all_slots [] all = tt
  all_slots (c ∷ cs) all = (all.0, again (is_wide c) (slots cs) (all_slots cs all.1))

  pub at_slot : (marks : List (Option Constant)) (i : ℕ) (c : Constant) → AllByRecursion (OfSome P) marks → of_slot (slice_get marks i) ≡ Some c → P c
  at_slot [] i c all e = absurd cc
  at_slot (None ∷ marks) zero c all e = absurd cc
  at_slot (Some d ∷ marks) zero c all e = let same : d ≡ c = cc in subst P same all.0
  at_slot (mark ∷ marks) (suc i) c all e = at_slot marks i c all.1 e

-- a kind that may name anything is one from 1 to 9
some_kind : (a b c d : Bool) (tag : ℕ) → is_one_of (cond a (9 ∷ []) (cond b (10 ∷ []) (cond c (10 ∷ 11 ∷ []) (cond d (11 ∷ []) [])))) tag ≡ true → (a || (b || (c || d))) ≡ true
some_kind true b c d tag e = refl
some_kind false true c d tag e = refl
some_kind false false true d tag e = refl
some_kind false false false true tag e = refl
some_kind false false false false tag e = absurd cc

kind_of : (kind tag : ℕ) → is_one_of (handle_tags kind) tag ≡ true → (leb 1 kind && leb kind 9) ≡ true
kind_of kind tag e =
    let some = some_kind (is_one_of (1 ∷ 2 ∷ 3 ∷ 4 ∷ []) kind) (is_one_of (5 ∷ 8 ∷ []) kind) (is_one_of (6 ∷ 7 ∷ []) kind) (eqb kind 9) tag e in
    in_range kind some
  where
    in_range : (kind : ℕ) → (is_one_of (1 ∷ 2 ∷ 3 ∷ 4 ∷ []) kind || (is_one_of (5 ∷ 8 ∷ []) kind || (is_one_of (6 ∷ 7 ∷ []) kind || eqb kind 9))) ≡ true → (leb 1 kind && leb kind 9) ≡ true
    in_range kind some = grind (arith, nat_tests)

room_back : (w b : Bool) → (w ≡ true → b ≡ true) → (not w || b) ≡ true
room_back true b h = h refl
room_back false b h = refl

-- a wide constant is followed by a slot
longer : (w : Bool) (marks : List (Option Constant)) (xs : List (Option Placed)) → unplaced xs ≡ unusable w ++ marks → w ≡ true → 0 < length xs
longer false marks xs e is = absurd cc
longer true marks [] e is = absurd cc
longer true marks (x ∷ xs) e is = omega arith

module _ (pool : Entries) (constants : List Constant) (holds : Holds pool constants) where
  want_found : (w : ℕ × List ℕ) (u : Unit {0}) → want_kept pool w ≡ Ok u → HasTag constants w
  unfolding want_kept
  want_found w u e =
      let a = bind_ok (constant_of pool w.0) _ u e in
      (a.0, constant_found pool constants holds w.0 a.0 a.1, kept_ok _ _ u a.2)

  want_only : (w : ℕ × List ℕ) → HasTag constants w → want_kept pool w ≡ Ok tt
  unfolding want_kept
  want_only w h = rw (constant_only pool constants holds w.0 h.0 h.1, h.2) refl

  wants_found : (ws : List (ℕ × List ℕ)) (u : Unit {0}) → wants_kept pool ws ≡ Ok u → AllByRecursion (HasTag constants) ws
  wants_found [] u e = tt
  wants_found (w ∷ ws) u e =
      let a = bind_ok (want_kept pool w) _ u e in
      (want_found w a.0 a.1, wants_found ws u a.2)

  wants_only : (ws : List (ℕ × List ℕ)) → AllByRecursion (HasTag constants) ws → wants_kept pool ws ≡ Ok tt
  wants_only [] h = refl
  wants_only (w ∷ ws) h = rw (want_only w h.0, wants_only ws h.1) refl

  abbrev pub IsNamed : Constant → Type 0
  IsNamed c = AllByRecursion (HasTag constants) (wants c)

  kept_found : (k : ℕ) (c : Constant) (u : Unit {0}) → constant_kept pool k c ≡ Ok u → IsNamed c
  unfolding constant_kept
  kept_found k c u e =
      let a = bind_ok (unless_broken (has_room pool k c) BadIndex) _ u e in
      let b = bind_ok (unless_broken (is_kind c) WrongKind) _ u a.2 in
      wants_found (wants c) u b.2

  kind_only : (c : Constant) → IsNamed c → is_kind c ≡ true
  kind_only (Utf8 text) h = refl
  kind_only (Plain tag bytes) h = refl
  kind_only (Named tag i) h = refl
  kind_only (Pair tag i j) h = refl
  kind_only (Handle kind i) h = kind_of kind (tag_of h.0.0) h.0.2

  kept_only : (k : ℕ) (c : Constant) → (is_wide c ≡ true → k < length pool.slots) → IsNamed c → constant_kept pool k c ≡ Ok tt
  unfolding constant_kept
  kept_only k c room h =
      let roomy : has_room pool k c ≡ true = room_back (is_wide c) (ltb k (length pool.slots)) (λ w. lt-ltb _ _ (room w)) in
      rw (roomy, kind_only c h, wants_only (wants c) h) refl

  -- ---- over all slots
  each_slot : (k : ℕ) (xs : List (Option Placed)) (u : Unit {0}) → each (slot_kept pool) k xs ≡ Ok u → AllByRecursion (OfSome IsNamed) (unplaced xs)
  unfolding slot_kept
  each_slot k [] u e = tt
  each_slot k (None ∷ xs) u e = (tt, each_slot (k + 1) xs u e)
  each_slot k (Some p ∷ xs) u e =
      let a = bind_ok (slot_kept pool k (Some p)) _ u e in
      (kept_found k p.constant a.0 (tag_ok p.tag k (constant_kept pool k p.constant) a.0 a.1), each_slot (k + 1) xs u a.2)

  pub each_found : (u : Unit {0}) → each (slot_kept pool) 1 pool.slots ≡ Ok u → AllByRecursion IsNamed constants
  each_found u e = all_constants IsNamed constants (subst (λ (marks : List (Option Constant)). AllByRecursion (OfSome IsNamed) marks) holds (each_slot 1 pool.slots u e))

  -- the slots from an index on keep their rules
  abbrev Keep : List (Option Constant) → Type 0
  Keep marks = (k : ℕ) (xs : List (Option Placed)) → unplaced xs ≡ marks → k + length xs ≡ 1 + length pool.slots → each (slot_kept pool) k xs ≡ Ok tt

  second_kept : (w : Bool) (marks : List (Option Constant)) → Keep marks → Keep (unusable w ++ marks)
  unfolding slot_kept
  second_kept false marks keep k xs same long = keep k xs same long
  second_kept true marks keep k [] same long = absurd cc
  second_kept true marks keep k (None ∷ xs) same long = (let below : unplaced xs ≡ marks = cc in keep (k + 1) xs below (omega arith))
  second_kept true marks keep k (Some p ∷ xs) same long = absurd cc

  first_kept : (c : Constant) (marks : List (Option Constant)) → IsNamed c → Keep (unusable (is_wide c) ++ marks) → Keep (Some c ∷ (unusable (is_wide c) ++ marks))
  unfolding slot_kept
  first_kept c marks h keep k [] same long = absurd cc
  first_kept c marks h keep k (None ∷ xs) same long = absurd cc
  first_kept c marks h keep k (Some p ∷ xs) same long =
      let is : p.constant ≡ c = cc in
      let below : unplaced xs ≡ unusable (is_wide c) ++ marks = cc in
      let room : is_wide c ≡ true → k < length pool.slots = λ w. (let some = longer (is_wide c) marks xs below w in omega arith) in
      rw (is, kept_only k c room h, keep (k + 1) xs below (omega arith)) refl

  all_kept : (cs : List Constant) → AllByRecursion IsNamed cs → Keep (slots cs)
  all_kept [] h k [] same long = refl
  all_kept [] h k (x ∷ xs) same long = absurd cc
  all_kept (c ∷ cs) h k xs same long = first_kept c (slots cs) h.0 (second_kept (is_wide c) (slots cs) (all_kept cs h.1)) k xs same long

  pub each_only : AllByRecursion IsNamed constants → each (slot_kept pool) 1 pool.slots ≡ Ok tt
  each_only h = all_kept constants h 1 pool.slots holds refl
