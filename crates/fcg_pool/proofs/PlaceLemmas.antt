-- The constants of a pool by their places.
use Rattle.std.proofs.Common.{◌≡◌, ℕ, zero, suc, ◌-◌, ◌<◌, List, length, get_or, map, true, Option, Some, ltb, refl, sym, ap, subst, ◌∙◌, arith}
use Rattle.std.specs.Prelude.{Result, slice_get}
use Rattle.std.proofs.lemmas.Bool.Decides.{nat_tests}
use Rattle.std.proofs.lemmas.Option.{slice_get_read, slice_get-map}
use Rattle.std.proofs.lemmas.List.{length-map}
use Rattle.std.proofs.Math.ListN.{get_or-map}
use Rattle.fcg_classfile.specs.declared.fault.PoolFault.{PoolFault}
use Rattle.fcg_classfile.specs.Breaks.Pool.{Entries, in_slot, constant_of, slot_kept}
use Rattle.fcg_pool.specs.Internal.ConstantAt.{slot_in}

abbrev pub seen_as : List ℕ → List (Option ℕ) → Entries
seen_as bytes places = record { bytes = bytes; slots = map (slot_in bytes) places }

-- the constant at an index is that of its place
pub constant_known : (bytes : List ℕ) (items places : List (Option ℕ)) (pool : Entries) (index i : ℕ) (p : Option ℕ) → seen_as bytes items ≡ pool → places ≡ items → (index ≡ 0 → ⊥) → i ≡ index
    → true ≡ ltb (i - 1) (length places) → p ≡ get_or places (i - 1) p → constant_of pool index ≡ in_slot (Some (slot_in bytes p))
unfolding constant_of
constant_known bytes items places pool zero i p view are some same lt read = absurd (some refl)
constant_known bytes items places pool (suc k) i p view are some same lt read =
    let n : i - 1 ≡ k = omega arith in
    let test : true ≡ ltb k (length places) = rw n at lt in
    let here : k < length places = grind (arith, nat_tests) in
    let got = slice_get_read places (length places) k p refl here (rw n at read) in
    let shown : slice_get (map (slot_in bytes) places) k ≡ Some (slot_in bytes p) = rw (slice_get-map (slot_in bytes) places k, got) refl in
    subst (λ (q : Entries). in_slot (slice_get q.slots k) ≡ in_slot (Some (slot_in bytes p))) view (rw (← are) (ap in_slot shown))

-- what is known of the place of an index, of the slot of the index
pub kept_at : (bytes : List ℕ) (items places : List (Option ℕ)) (pool : Entries) (index i : ℕ) (d : Option ℕ) (r : Result (Unit {0}) PoolFault) → seen_as bytes items ≡ pool → places ≡ items
    → r ≡ slot_kept pool index (slot_in pool.bytes (get_or places i d)) → slot_kept pool index (get_or pool.slots i (slot_in bytes d)) ≡ r
kept_at bytes items places pool index i d r view are kept =
    let shown : get_or (map (slot_in bytes) places) i (slot_in bytes d) ≡ slot_in bytes (get_or places i d) = get_or-map (slot_in bytes) places i d in
    let same_bytes : bytes ≡ pool.bytes = ap (λ (p : Entries). p.bytes) view in
    let same_slots : map (slot_in bytes) items ≡ pool.slots = ap (λ (p : Entries). p.slots) view in
    let here : get_or pool.slots i (slot_in bytes d) ≡ slot_in pool.bytes (get_or places i d) = rw (← same_slots, ← are) (shown ∙ ap (λ (b : List ℕ). slot_in b (get_or places i d)) same_bytes) in
    ap (slot_kept pool index) here ∙ sym kept

pub inside_slots : (bytes : List ℕ) (items places : List (Option ℕ)) (pool : Entries) (i : ℕ) → seen_as bytes items ≡ pool → places ≡ items → i < length places → i < length pool.slots
inside_slots bytes items places pool i view are lt =
    let same_slots : map (slot_in bytes) items ≡ pool.slots = ap (λ (p : Entries). p.slots) view in
    let same_length : length places ≡ length pool.slots = rw (← same_slots, are) (sym (length-map items (slot_in bytes))) in
    omega arith
