-- The slots of a pool, one for each index: what is read is spelled so, and what is spelled so is read.
use Rattle.std.proofs.Common.{◌≡◌, ℕ, zero, suc, ◌+◌, ◌≤◌, ◌<◌, Bool, true, false, not, ◌||◌, ltb, List, [], ◌∷◌, ◌++◌, length, Option, Some, None, refl, sym, ap, subst, ◌∙◌, append_assoc, arith}
use Rattle.std.specs.Prelude.{Result, Ok, Err}
use Rattle.std.specs.List.{flat_map, AllByRecursion}
use Rattle.std.proofs.lemmas.Bool.{ltb-true}
use Rattle.std.proofs.lemmas.List.{append-nil}
use Rattle.std.proofs.lemmas.List.Concat.{flat_map-cons}
use Rattle.fcg_grammar.specs.Reading.{◌>>=◌, unless_broken}
use Rattle.fcg_grammar.specs.Rows.{rows, each}
use Rattle.fcg_grammar.specs.Spell.{IsBytes}
use Rattle.fcg_grammar.proofs.LawLemmas.{bind_ok, kept_ok}
use Rattle.fcg_grammar.proofs.Standing.{Stands, Stands-none, Stands-then, Stands-back, ok_is}
use Rattle.fcg_classfile.specs.declared.fault.PoolFault.{PoolFault}
use Rattle.fcg_classfile.specs.declared.fault.PoolRule.{PoolRule}
use Rattle.fcg_classfile.specs.declared.fault.PoolRule.TheVariants.{BadIndex}
use Rattle.fcg_classfile.specs.ClassFile.{Constant, constant, is_wide, unusable, slots}
use Rattle.fcg_classfile.specs.Reads.{Fits}
use Rattle.fcg_classfile.specs.Breaks.Pool.{constant_read, Placed, Next, slot_at, Entries, has_room, constant_kept, at_tag, slot_kept}
use Rattle.fcg_classfile.specs.Tables.{unplaced}
use Rattle.fcg_classfile.proofs.PoolLaws.{FoundConstant, constant_found, constant_only}

pub tag_ok : {A : Type 0} (at index : ℕ) (r : Result A PoolRule) (x : A) → at_tag at index r ≡ Ok x → r ≡ Ok x
tag_ok at index (Ok y) x e = let same : y ≡ x = cc in ap (λ (z : _). Ok z) same
tag_ok at index (Err rule) x e = absurd cc

room_by : (w b : Bool) → (not w || b) ≡ true → w ≡ true → b ≡ true
room_by true b e is = e
room_by false b e is = absurd cc

-- a Long or Double that keeps its rules is not at the last index
wide_room : (pool : Entries) (k : ℕ) (p : Placed) (u : Unit {0}) → slot_kept pool k (Some p) ≡ Ok u → is_wide p.constant ≡ true → k < length pool.slots
unfolding slot_kept constant_kept
wide_room pool k p u e wide =
    let a = tag_ok p.tag k (constant_kept pool k p.constant) u e in
    let b = bind_ok (unless_broken (has_room pool k p.constant) BadIndex) _ u a in
    ltb-true _ _ (room_by (is_wide p.constant) (ltb k (length pool.slots)) (kept_ok _ _ b.0 b.1) wide)

-- a slot, and those after it
each_more : (pool : Entries) (k : ℕ) (x : Option Placed) (xs : List (Option Placed)) → each (slot_kept pool) k (x ∷ xs) ≡ Ok tt → (u : Unit {0}) × (slot_kept pool k x ≡ Ok u) × (each (slot_kept pool) (k + 1) xs ≡ Ok tt)
each_more pool k x xs e = bind_ok (slot_kept pool k x) _ tt e

is_false : (b : Bool) → (b ≡ true → ⊥) → b ≡ false
is_false true h = absurd (h refl)
is_false false h = refl

module _ (bytes : List ℕ) where
  -- What the slots from an index on are: those of some constants, the last of which may have no second index. That
  -- is no pool that keeps its rules.
  pub record FoundSlots (n k at : ℕ) (second : Bool) (xs : List (Option Placed)) (end : Next) : Type 0 where
    pub constants : List Constant
    pub stands : Stands bytes at (flat_map constant constants) end.at
    pub same : unplaced xs ++ unusable end.second ≡ unusable second ++ slots constants
    pub many : length xs ≡ n
    pub fit : AllByRecursion Fits constants
    pub room : (pool : Entries) → k + n ≡ 1 + length pool.slots → (second ≡ true → k < 1 + length pool.slots) → each (slot_kept pool) k xs ≡ Ok tt → end.second ≡ false

  none_found : (k at : ℕ) (second : Bool) → at ≤ length bytes → FoundSlots 0 k at second [] (record { at = at; second = second })
  none_found k at second le = record {
    constants = [];
    stands = Stands-none bytes at le;
    same = sym (append-nil (unusable second));
    many = refl;
    fit = tt;
    room = λ pool long first kept. is_false second (λ is. (let lt = first is in omega arith));
  }

  second_found : (n k at : ℕ) (xs : List (Option Placed)) (end : Next) → FoundSlots n (k + 1) at false xs end → FoundSlots (suc n) k at true (None ∷ xs) end
  second_found n k at xs end others = record {
    constants = others.constants;
    stands = others.stands;
    same = ap (λ (l : List (Option Constant)). None ∷ l) others.same;
    many = ap suc others.many;
    fit = others.fit;
    room = λ pool long first kept. others.room pool (omega arith) (λ is. absurd cc) (each_more pool k None xs kept).2;
  }

  first_found : (n k at : ℕ) (c : Constant) (next : ℕ) (xs : List (Option Placed)) (end : Next) → FoundConstant bytes at c next → FoundSlots n (k + 1) next (is_wide c) xs end → FoundSlots (suc n) k at false (Some (record { tag = at; constant = c }) ∷ xs) end
  first_found n k at c next xs end first others = record {
    constants = c ∷ others.constants;
    stands = rw flat_map-cons (Stands-then first.stands others.stands);
    same = ap (λ (l : List (Option Constant)). Some c ∷ l) others.same;
    many = ap suc others.many;
    fit = (first.fits, others.fit);
    room = λ pool long none kept. (
        let here : Placed = record { tag = at; constant = c } in
        let more = each_more pool k (Some here) xs kept in
        others.room pool (omega arith) (λ is. (let lt = wide_room pool k here more.0 more.1 is in omega arith)) more.2
        );
  }

  -- the row of a constant, and the rows after it
  abbrev row_of : ℕ → Constant × ℕ → Option Placed × Next
  row_of at c = (Some (record { tag = at; constant = c.0 }), record { at = c.1; second = is_wide c.0 })

  abbrev made_row : ℕ → Constant × ℕ → Result (Option Placed × Next) PoolFault
  made_row at c = Ok (row_of at c)

  abbrev then_rows : ℕ → ℕ → Option Placed × Next → Result (List (Option Placed) × Next) PoolFault
  then_rows n k row = rows (slot_at bytes) n (k + 1) row.1 >>= λ others. Ok (row.0 ∷ others.0, others.1)

  -- a row that is no second index has a constant
  row_found : (n k at : ℕ) (x : List (Option Placed) × Next) (r : Result (Constant × ℕ) PoolFault) → constant_read bytes k at ≡ r → ((r >>= made_row at) >>= then_rows n k) ≡ Ok x
      → (c : Constant × ℕ) × (constant_read bytes k at ≡ Ok c) × (then_rows n k (row_of at c) ≡ Ok x)
  row_found n k at x (Ok c) is e = (c, is, e)
  row_found n k at x (Err f) is e = absurd cc

  pub slots_found : IsBytes bytes → (n k at : ℕ) (second : Bool) (x : List (Option Placed) × Next) → at ≤ length bytes → rows (slot_at bytes) n k (record { at = at; second = second }) ≡ Ok x → FoundSlots n k at second x.0 x.1
  unfolding slot_at
  slots_found fits zero k at second x le e =
      subst (λ (y : List (Option Placed) × Next). FoundSlots 0 k at second y.0 y.1) (ok_is ([], record { at = at; second = second }) x e) (none_found k at second le)
  slots_found fits (suc n) k at true x le e =
      let b = bind_ok (rows (slot_at bytes) n (k + 1) (record { at = at; second = false })) _ x e in
      let others = slots_found fits n (k + 1) at false b.0 le b.1 in
      subst (λ (y : List (Option Placed) × Next). FoundSlots (suc n) k at true y.0 y.1) (ok_is (None ∷ b.0.0, b.0.1) x b.2) (second_found n k at b.0.0 b.0.1 others)
  slots_found fits (suc n) k at false x le e =
      let a = row_found n k at x (constant_read bytes k at) refl e in
      let b = bind_ok (rows (slot_at bytes) n (k + 1) (row_of at a.0).1) _ x a.2 in
      let first = constant_found bytes fits k at a.0 a.1 in
      let others = slots_found fits n (k + 1) a.0.1 (is_wide a.0.0) b.0 first.stands.within b.1 in
      subst (λ (y : List (Option Placed) × Next). FoundSlots (suc n) k at false y.0 y.1) (ok_is (Some (record { tag = at; constant = a.0.0 }) ∷ b.0.0, b.0.1) x b.2) (first_found n k at a.0.0 a.0.1 b.0.0 b.0.1 first others)

  -- ---- and back
  pub record ReadSlots (k at : ℕ) (second : Bool) (marks : List (Option Constant)) (rest : List ℕ) (after : ℕ) : Type 0 where
    pub values : List (Option Placed)
    pub end : ℕ
    pub read_is : rows (slot_at bytes) (length marks) k (record { at = at; second = second }) ≡ Ok (values, record { at = end; second = false })
    pub same : unplaced values ≡ marks
    pub stands : Stands bytes end rest after

  second_read : (k at : ℕ) (second : Bool) (marks : List (Option Constant)) (rest : List ℕ) (after : ℕ) → ((k : ℕ) → ReadSlots k at false marks rest after) → ReadSlots k at second (unusable second ++ marks) rest after
  unfolding slot_at
  second_read k at false marks rest after others = others k
  second_read k at true marks rest after others =
      let o = others (k + 1) in
      record { values = None ∷ o.values; end = o.end; read_is = rw o.read_is refl; same = ap (λ (l : List (Option Constant)). None ∷ l) o.same; stands = o.stands }

  first_read : (k at : ℕ) (c : Constant) (marks : List (Option Constant)) (rest : List ℕ) (after : ℕ) → constant_read bytes k at ≡ Ok (c, at + length (constant c)) → ReadSlots (k + 1) (at + length (constant c)) (is_wide c) marks rest after
      → ReadSlots k at false (Some c ∷ marks) rest after
  unfolding slot_at
  first_read k at c marks rest after r o =
      record { values = Some (record { tag = at; constant = c }) ∷ o.values; end = o.end; read_is = rw (r, o.read_is) refl; same = ap (λ (l : List (Option Constant)). Some c ∷ l) o.same; stands = o.stands }

  pub slots_only : (cs : List Constant) (k at : ℕ) (rest : List ℕ) (after : ℕ) → AllByRecursion Fits cs → Stands bytes at (flat_map constant cs ++ rest) after → ReadSlots k at false (slots cs) rest after
  slots_only [] k at rest after fit s = record { values = []; end = at; read_is = refl; same = refl; stands = s }
  slots_only (c ∷ cs) k at rest after fit s =
      let regrouped : flat_map constant (c ∷ cs) ++ rest ≡ constant c ++ (flat_map constant cs ++ rest) = ap (λ (l : List ℕ). l ++ rest) (flat_map-cons constant c cs) ∙ append_assoc (constant c) (flat_map constant cs) rest in
      let here = subst (λ (l : List ℕ). Stands bytes at l after) regrouped s in
      let first = constant_only bytes k at c (flat_map constant cs ++ rest) after fit.0 here in
      let after_c = Stands-back (constant c) (flat_map constant cs ++ rest) here in
      first_read k at c (unusable (is_wide c) ++ slots cs) rest after first (second_read (k + 1) (at + length (constant c)) (is_wide c) (slots cs) rest after (λ j. slots_only cs j (at + length (constant c)) rest after fit.1 after_c))
