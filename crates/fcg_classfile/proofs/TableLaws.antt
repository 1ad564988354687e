-- The whole pool: what is read is spelled so, and what is spelled so is read.
use Rattle.std.proofs.Common.{◌≡◌, ℕ, ◌+◌, ◌-◌, ◌^◌, ◌<◌, Bool, true, false, List, ◌++◌, length, Option, refl, sym, ap, subst, ◌∙◌, arith}
use Rattle.std.specs.Prelude.{Ok}
use Rattle.std.specs.List.{flat_map, AllByRecursion}
use Rattle.std.proofs.lemmas.List.{append-nil, length-map}
use Rattle.fcg_grammar.specs.Rows.{rows, each}
use Rattle.fcg_grammar.specs.Spell.{IsBytes, u2}
use Rattle.fcg_grammar.proofs.LawLemmas.{bind_ok}
use Rattle.fcg_grammar.proofs.Standing.{Stands, Stands-then, ok_is}
use Rattle.fcg_classfile.specs.ClassFile.{Constant, constant, unusable, slots, wants}
use Rattle.fcg_classfile.specs.Reads.{Fits, HasTag, IsPool}
use Rattle.fcg_classfile.specs.Breaks.Pool.{u2_at, Placed, Next, slot_at, Entries, slot_kept, pool_at}
use Rattle.fcg_classfile.specs.Tables.{unplaced, Holds}
use Rattle.fcg_classfile.proofs.PoolPlaces.{u2_found, u2_only}
use Rattle.fcg_classfile.proofs.SlotLaws.{slots_found, slots_only}
use Rattle.fcg_classfile.proofs.KeptLaws.{each_found, each_only}

-- the last constant has its second index
pub none_left : (marks : List (Option Constant)) (left : List (Option Constant)) (second : Bool) → marks ++ unusable second ≡ left → second ≡ false → marks ≡ left
none_left marks left true e is = absurd cc
none_left marks left false e is = sym (append-nil marks) ∙ e

module _ (bytes : List ℕ) where
  -- the pool that was read, and its count (of a pool without constants the count may be 0)
  pub record FoundPool (at : ℕ) (pool : Entries) (after : ℕ) : Type 0 where
    pub bytes_are : pool.bytes ≡ bytes
    pub count : ℕ
    pub constants : List Constant
    pub stands : Stands bytes at (u2 count ++ flat_map constant constants) after
    pub holds : Holds pool constants
    pub many : length pool.slots ≡ count - 1
    pub few : count < 2 ^ 16
    pub fit : AllByRecursion Fits constants
    pub named : AllByRecursion (λ c. AllByRecursion (HasTag constants) (wants c)) constants

  pub pool_found : IsBytes bytes → (at : ℕ) (x : Entries × ℕ) → pool_at bytes at ≡ Ok x → FoundPool at x.0 x.1
  unfolding pool_at
  pool_found fits at x e =
      let whole : List (Option Placed) → Entries = λ (xs : List (Option Placed)). record { bytes = bytes; slots = xs } in
      let begun : Next = record { at = at + 2; second = false } in
      let a = bind_ok (u2_at bytes at) _ x e in
      let b = bind_ok (rows (slot_at bytes) (a.0 - 1) 1 begun) _ x a.2 in
      let c = bind_ok (each (slot_kept (whole b.0.0)) 1 b.0.0) _ x b.2 in
      let count = u2_found bytes at a.0 fits a.1 in
      let s = slots_found bytes fits (a.0 - 1) 1 (at + 2) false b.0 count.0.within b.1 in
      let many = s.many in
      let ended = s.room (whole b.0.0) (ap (λ (n : ℕ). 1 + n) (sym many)) (λ is. absurd cc) c.1 in
      let holds : Holds (whole b.0.0) s.constants = none_left (unplaced b.0.0) (slots s.constants) b.0.1.second s.same ended in
      subst (λ (y : Entries × ℕ). FoundPool at y.0 y.1) (ok_is (whole b.0.0, b.0.1.at) x c.2) (record {
        bytes_are = refl;
        count = a.0;
        constants = s.constants;
        stands = Stands-then count.0 s.stands;
        holds = holds;
        many = many;
        few = count.1;
        fit = s.fit;
        named = each_found (whole b.0.0) s.constants holds c.0 c.1;
      })

  -- it is a pool of the grammar
  pub pool_holds : IsBytes bytes → (at : ℕ) (x : Entries × ℕ) → pool_at bytes at ≡ Ok x → (constants : List Constant) × Holds x.0 constants × IsPool constants
  pool_holds fits at x e =
      let found = pool_found fits at x e in
      let long : length x.0.slots ≡ length (slots found.constants) = sym (length-map x.0.slots _) ∙ ap length found.holds in
      (found.constants, found.holds, record { few = omega (arith, found.few, found.many, long); fit = found.fit; named = found.named })

  pub record ReadPool (at : ℕ) (constants : List Constant) (rest : List ℕ) (after : ℕ) : Type 0 where
    pub pool : Entries
    pub end : ℕ
    pub read_is : pool_at bytes at ≡ Ok (pool, end)
    pub bytes_are : pool.bytes ≡ bytes
    pub holds : Holds pool constants
    pub stands : Stands bytes end rest after

  pub pool_only : (at : ℕ) (constants : List Constant) (rest : List ℕ) (after : ℕ) → IsPool constants → Stands bytes at (u2 (1 + length (slots constants)) ++ (flat_map constant constants ++ rest)) after → ReadPool at constants rest after
  unfolding pool_at
  pool_only at constants rest after is s =
      let n = u2_only bytes at (1 + length (slots constants)) (flat_map constant constants ++ rest) after is.few s in
      let r = slots_only bytes constants 1 (at + 2) rest after is.fit n.1 in
      let pool : Entries = record { bytes = bytes; slots = r.values } in
      let kept = each_only pool constants r.same is.named in
      let less : 1 + length (slots constants) - 1 ≡ length (slots constants) = omega arith in
      record {
        pool = pool;
        end = r.end;
        read_is = rw (n.0, less, r.read_is, kept) refl;
        bytes_are = refl;
        holds = r.same;
        stands = r.stands;
      }
