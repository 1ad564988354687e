-- The first fault: all that stands before it is spelled by the grammar.
use Rattle.std.proofs.Common.{◌≡◌, ℕ, ◌+◌, ◌-◌, List, [], ◌∷◌, ◌++◌, length, Bool, true, false, Option, refl, sym, ap, subst, ◌∙◌, append_assoc, inl, inr, arith}
use Rattle.std.specs.Prelude.{Err}
use Rattle.std.proofs.lemmas.List.{append-nil, length-map}
use Rattle.fcg_grammar.specs.Rows.{rows, each}
use Rattle.fcg_grammar.specs.Spell.{IsBytes, u2}
use Rattle.fcg_grammar.proofs.Standing.{Stands, Stands-then, part_is}
use Rattle.fcg_grammar.proofs.StateRowLaws as states
use Rattle.fcg_grammar.proofs.FaultLaws.{bind_err, BrokenRow, rows_err, each_err}
use Rattle.fcg_views.specs.declared.view.Method.{Method}
use Rattle.fcg_classfile.specs.declared.fault.PoolFault.{PoolFault}
use Rattle.fcg_classfile.specs.declared.fault.ClassFault.{ClassFault}
use Rattle.fcg_classfile.specs.ClassFile.{Constant, slots, MemberInfo, member_info}
use Rattle.fcg_views.specs.Valid.{is_alike}
use Rattle.fcg_classfile.specs.Breaks.Number.{u2_at}
use Rattle.fcg_classfile.specs.Breaks.Pool as pools
use Rattle.fcg_classfile.specs.Breaks.Pool.{constant_read, Placed, Next, index_read, slot_at, Entries, slot_kept, pool_at}
use Rattle.fcg_classfile.specs.Breaks.Members.{Unfinished, MethodsBefore, method_at, methods_at}
use Rattle.fcg_classfile.specs.Tables.{unplaced, Holds}
use Rattle.fcg_classfile.specs.Faults as faults
use Rattle.fcg_classfile.specs.Faults.{Fills, BrokenPool, own, BrokenMethods}
use Rattle.fcg_classfile.proofs.Places.{u2_found}
use Rattle.fcg_classfile.proofs.PoolPlaces as pool_places
use Rattle.fcg_classfile.proofs.SlotLaws.{FoundSlots, slots_found}
use Rattle.fcg_classfile.proofs.TableLaws.{none_left}
use Rattle.fcg_classfile.proofs.MethodLaws.{MeansMethod, HasFew, Follow, method_found, follow_found}
use Rattle.fcg_classfile.proofs.Fresh.{distinct_found}

pub fills : (bytes : List ℕ) (at : ℕ) (text : List ℕ) (after : ℕ) → Stands bytes at text after → Fills bytes at text after
fills bytes at text after s = record { within = s.within; ends = s.ends; same = part_is bytes at text after s }

module _ (bytes : List ℕ) (fits : IsBytes bytes) where
  abbrev pool_of : List (Option Placed) → Entries
  pool_of xs = record { bytes = bytes; slots = xs }

  abbrev from_one : ℕ → Next
  from_one at = record { at = at; second = false }

  -- only a constant can break
  by_second : (k at : ℕ) (second : Bool) (f : PoolFault) → index_read bytes k at second ≡ Err f → (second ≡ false) × (constant_read bytes k at ≡ Err f)
  by_second k at true f e = absurd cc
  by_second k at false f e =
      elim (bind_err (constant_read bytes k at) _ f e) [
        | inl is ↦ (refl, is)
        | inr read ↦ (let bad = read.2 in absurd cc)
      ]

  slot_broken : (k : ℕ) (next : Next) (f : PoolFault) → slot_at bytes k next ≡ Err f → (next.second ≡ false) × (constant_read bytes k next.at ≡ Err f)
  unfolding slot_at
  slot_broken k next f e = by_second k next.at next.second f e

  in_constant : (at count : ℕ) (f : PoolFault) → Stands bytes at (u2 count) (at + 2) → BrokenRow (slot_at bytes) (count - 1) 1 (from_one (at + 2)) f → BrokenPool bytes at f
  in_constant at count f s r =
      let found = slots_found bytes fits (length r.front) 1 (at + 2) false (r.front, r.at) s.within r.read_is in
      let here = slot_broken (1 + length r.front) r.at f r.broken in
      let held : unplaced r.front ≡ slots found.constants = none_left (unplaced r.front) (slots found.constants) r.at.second found.same here.0 in
      let many : length r.front ≡ length (slots found.constants) = sym (length-map r.front _) ∙ ap length held in
      let lt = r.before in
      faults.BrokenPool.InConstant count found.constants r.at.at (fills bytes at _ r.at.at (Stands-then s found.stands)) (omega (arith, many, lt)) found.fit (subst (λ (n : ℕ). constant_read bytes (1 + n) r.at.at ≡ Err f) many here.1)

  in_index : (at count : ℕ) (f : PoolFault) (xs : List (Option Placed)) (end : Next) → Stands bytes at (u2 count) (at + 2) → FoundSlots bytes (count - 1) 1 (at + 2) false xs end → each (slot_kept (pool_of xs)) 1 xs ≡ Err f → BrokenPool bytes at f
  in_index at count f xs end s found e =
      faults.BrokenPool.InIndex count (pool_of xs) found.constants end.second end.at refl (fills bytes at _ end.at (Stands-then s found.stands)) (sym found.same) found.many found.fit (each_err (slot_kept (pool_of xs)) 1 xs f e)

  pub pool_broken : (at : ℕ) (f : PoolFault) → pool_at bytes at ≡ Err f → BrokenPool bytes at f
  unfolding pool_at
  pool_broken at f e =
      elim (bind_err (pools.u2_at bytes at) _ f e) [
        | inl cut ↦ faults.BrokenPool.InCount cut
        | inr a ↦ (
            let count = pool_places.u2_found bytes at a.0 fits a.1 in
            elim (bind_err (rows (slot_at bytes) (a.0 - 1) 1 (from_one (at + 2))) _ f a.2) [
              | inl row ↦ in_constant at a.0 f count.0 (rows_err (slot_at bytes) (a.0 - 1) 1 (from_one (at + 2)) f row)
              | inr b ↦ elim (bind_err (each (slot_kept (pool_of b.0.0)) 1 b.0.0) _ f b.2) [
                | inl index ↦ in_index at a.0 f b.0.0 b.0.1 count.0 (slots_found bytes fits (a.0 - 1) 1 (at + 2) false b.0 count.0.within b.1) index
                | inr done ↦ (let bad = done.2 in absurd cc)
              ]
            ]
            )
      ]

-- ---- the methods
module _ (pool : Entries) (fits : IsBytes pool.bytes) (constants : List Constant) (holds : Holds pool constants) where
  -- the methods that were read are those before the next
  kept_earlier : (s : MethodsBefore) (cs : List MemberInfo) (ms : List Unfinished) (end : MethodsBefore) → Follow pool fits constants holds s cs ms end → s.earlier ++ own ms ≡ end.earlier
  kept_earlier s [] [] end l = append-nil s.earlier ∙ ap (λ (b : MethodsBefore). b.earlier) l
  kept_earlier s [] (m ∷ ms) end l = absurd l
  kept_earlier s (c ∷ cs) [] end l = absurd l
  kept_earlier s (c ∷ cs) (m ∷ ms) end l =
      sym (append_assoc s.earlier (m.0 ∷ []) (own ms)) ∙ ap (λ (e : List Method). e ++ own ms) (sym l.1.earlier) ∙ kept_earlier l.0 cs ms end l.2

  abbrev begun_at : ℕ → MethodsBefore
  begun_at at = record { at = at; earlier = [] }

  abbrev place : MethodsBefore → ℕ
  place s = s.at

  in_method : (at count : ℕ) (f : ClassFault) → Stands pool.bytes at (u2 count) (at + 2) → BrokenRow (method_at pool) count 0 (begun_at (at + 2)) f → BrokenMethods pool constants at f
  in_method at count f s r =
      let found = states.rows_kept pool.bytes place member_info (MeansMethod constants) (method_at pool) (HasFew pool fits constants holds) (method_found pool fits constants holds) (length r.front) 0 (begun_at (at + 2)) (r.front, r.at) s.within (omega arith) r.read_is in
      let along = follow_found pool fits constants holds (begun_at (at + 2)) found.table r.front r.at found.meant in
      let earlier : own r.front ≡ r.at.earlier = kept_earlier (begun_at (at + 2)) found.table r.front r.at found.meant in
      let here : MethodsBefore = record { at = r.at.at; earlier = own r.front } in
      let same : r.at ≡ here = ap (λ (ms : List Method). record { at = r.at.at; earlier = ms }) (sym earlier) in
      let many : 0 + length r.front ≡ length found.table = omega (arith, found.many) in
      let lt = r.before in
      faults.BrokenMethods.InMethod count found.table r.front r.at.at (fills pool.bytes at _ r.at.at (Stands-then s found.stands)) (omega (arith, many, lt)) along.0 (distinct_found is_alike (own r.front) along.1)
      (subst (λ (n : ℕ). method_at pool n here ≡ Err f) many (subst (λ (b : MethodsBefore). method_at pool (0 + length r.front) b ≡ Err f) same r.broken))

  pub methods_broken : (at : ℕ) (f : ClassFault) → methods_at pool at ≡ Err f → BrokenMethods pool constants at f
  unfolding methods_at
  methods_broken at f e =
      elim (bind_err (u2_at pool.bytes at 0) _ f e) [
        | inl cut ↦ faults.BrokenMethods.InCount cut
        | inr a ↦ (
            let count = u2_found pool.bytes at 0 a.0 fits a.1 in
            elim (bind_err (rows (method_at pool) a.0 0 (begun_at (at + 2))) _ f a.2) [
              | inl row ↦ in_method at a.0 f count.0 (rows_err (method_at pool) a.0 0 (begun_at (at + 2)) f row)
              | inr done ↦ (let bad = done.2 in absurd cc)
            ]
            )
      ]
