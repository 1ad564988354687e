-- The tables of names and of references, both ways.
use Rattle.std.proofs.Common.{◌≡◌, ℕ, suc, ◌+◌, ◌^◌, ◌<◌, ◌≤◌, true, ltb, List, [], ◌∷◌, ◌++◌, length, refl, sym, ap, subst, ◌∙◌, append_assoc, arith}
use Rattle.std.specs.Prelude.{Ok, Some, None}
use Rattle.std.specs.Ordering.{is_lt}
use Rattle.std.specs.List.{flat_map, AllByRecursion}
use Rattle.std.specs.List.Sorted.{IsStrictlySortedBy}
use Rattle.std.proofs.lemmas.Bool.{ltb-true, lt-ltb}
use Rattle.std.proofs.lemmas.Cmp.{nat_list_cmp_total}
use Rattle.std.proofs.lemmas.Map.Keys.{sorted_head, sorted_tail}
use Rattle.std.specs.declared.cmp.Ordering.{Ordering}
use Rattle.std.specs.declared.cmp.Ordering.TheVariants.{Less, Equal, Greater}
use Rattle.fcg_grammar.specs.Reading.{unless_broken}
use Rattle.fcg_grammar.specs.Rows.{rows}
use Rattle.fcg_grammar.specs.Number as number
use Rattle.fcg_grammar.specs.Spell.{IsBytes, u2, u4}
use Rattle.fcg_grammar.proofs.LawLemmas.{bind_ok, kept_ok}
use Rattle.fcg_grammar.proofs.Standing.{guard_ok, Stands, Stands-then, ok_is}
use Rattle.fcg_partial.proofs.Numbers.{u1_found, u1_only, u2_found, u2_only, u4_found, u4_only, part_found, part_only}
use Rattle.fcg_grammar.proofs.ValueRowLaws.{Linked, FoundRow, rows_found, rows_only}
use Rattle.fcg_partial.specs.declared.fault.RecordRule.TheVariants.{Cut, Order, Index, Kind}
use Rattle.fcg_partial.specs.Fault.{fault, u1_at, u2_at, u4_at, part_at}
use Rattle.fcg_grammar.specs.Table.{order, Rises}
use Rattle.fcg_partial.specs.Graph.{number_at, name_text, ref_text, ref_uses, FitsName, FitsRef}
use Rattle.fcg_partial.specs.Reading.{TablePlace, is_above, name_at, index_at, flag_at, ref_at, names_at, refs_at}
use Rattle.fcg_partial.specs.Internal.RowPlaces.{text_at, HasText}
use Rattle.fcg_grammar.proofs.Among.{all_from_among, among_all}

-- ---- a table's rows: each fits, and is above the one before
module _ (Fits : List ℕ → Type 0) (long : List ℕ → ℕ) where
  pub record Above (s : TablePlace) (row : List ℕ) (next : TablePlace) : Type 0 where
    pub fit : Fits row
    pub above : is_above s.last row ≡ true
    pub next_is : next ≡ record { at = s.at + long row; last = Some row }

  pub above_all : (s : TablePlace) (xs : List (List ℕ)) (end : TablePlace) → Linked Above s xs end → AllByRecursion Fits xs
  above_all s [] end l = tt
  above_all s (x ∷ xs) end l = (l.1.fit, above_all l.0 xs end l.2)

  is_less : (o : Ordering) → is_lt o ≡ true → o ≡ Less
  is_less Less e = refl
  is_less Equal e = absurd cc
  is_less Greater e = absurd cc

  -- all are above the one before the first
  above_last : (s : TablePlace) (l : List ℕ) (xs : List (List ℕ)) (end : TablePlace) → s.last ≡ Some l → Linked Above s xs end → AllByRecursion (λ x. order l x ≡ Less) xs
  above_last s l [] end e k = tt
  above_last s l (x ∷ xs) end e k =
      let first : order l x ≡ Less = is_less (order l x) (let a = k.1.above in rw e at a) in
      let next = above_last k.0 x xs end (ap (λ (b : TablePlace). b.last) k.1.next_is) k.2 in
      (first, all_from_among (λ z. order l z ≡ Less) xs (λ z h. nat_list_cmp_total.trans l x z first (among_all (λ y. order x y ≡ Less) xs z next h)))

  pub above_rises : (s : TablePlace) (xs : List (List ℕ)) (end : TablePlace) → Linked Above s xs end → Rises xs
  unfolding IsStrictlySortedBy
  above_rises s [] end k = tt
  above_rises s (x ∷ xs) end k = (above_last k.0 x xs end (ap (λ (b : TablePlace). b.last) k.1.next_is) k.2, above_rises k.0 xs end k.2)

  -- and back
  pub rises_above : (s : TablePlace) (xs : List (List ℕ)) → AllByRecursion Fits xs → Rises xs → AllByRecursion (λ x. is_above s.last x ≡ true) xs → (end : TablePlace) × Linked Above s xs end
  rises_above s [] all r above = (s, refl)
  rises_above s (x ∷ xs) all r above =
      let next : TablePlace = record { at = s.at + long x; last = Some x } in
      let higher = all_from_among (λ z. is_lt (order x z) ≡ true) xs (λ z h. ap is_lt (among_all (λ y. order x y ≡ Less) xs z (sorted_head order x xs r) h)) in
      let others = rises_above next xs all.1 (sorted_tail order x xs r) higher in
      (others.0, (next, record { fit = all.0; above = above.0; next_is = refl }, others.1))

-- the text whose length was read
pub text_is : (bytes : List ℕ) (at size : ℕ) (text : List ℕ) → Ok size ≡ u2_at bytes at → Ok text ≡ part_at bytes (at + 2) size → (text_at bytes at ≡ text) × HasText bytes at
unfolding number.u2_at
text_is bytes at size text e f =
    let g = guard_ok (ltb (length bytes) (at + 2)) (fault at Cut) (number.u2 bytes at) size (sym e) in
    let p = part_found bytes (at + 2) size text (sym f) in
    (subst (λ (n : ℕ). number.part bytes (at + 2) n ≡ text) (sym g.1) p.2, subst (λ (n : ℕ). at + 2 + n ≤ length bytes) (sym g.1) p.0.within)

pub size_is : (bytes : List ℕ) (at size : ℕ) → Ok size ≡ u2_at bytes at → size ≡ number.u2 bytes at
unfolding number.u2_at
size_is bytes at size e = sym (guard_ok (ltb (length bytes) (at + 2)) (fault at Cut) (number.u2 bytes at) size (sym e)).1

-- ---- numbers of a table
module _ (bytes : List ℕ) (are : IsBytes bytes) where
  pub index_found : (n at k : ℕ) → index_at bytes n at ≡ Ok k → Stands bytes at (u4 k) (at + 4) × (k < n)
  unfolding index_at
  index_found n at k e =
      let a = bind_ok (u4_at bytes at) _ k e in
      let b = bind_ok (unless_broken (ltb a.0 n) (fault at Index)) _ k a.2 in
      let found = u4_found bytes at a.0 are a.1 in
      let below : a.0 < n = ltb-true a.0 n (kept_ok _ _ b.0 b.1) in
      subst (λ (m : ℕ). Stands bytes at (u4 m) (at + 4) × (m < n)) (ok_is a.0 k b.2) (found.0, below)

  pub index_only : (n at k : ℕ) (rest : List ℕ) (after : ℕ) → k < n → n ≤ 2 ^ 32 → Stands bytes at (u4 k ++ rest) after → (index_at bytes n at ≡ Ok k) × Stands bytes (at + 4) rest after
  unfolding index_at
  index_only n at k rest after lt le t =
      let a = u4_only bytes at k rest after (omega arith) t in
      (rw (a.0, lt-ltb k n lt) refl, a.1)

  flag_found : (at b : ℕ) → flag_at bytes at ≡ Ok b → Stands bytes at (b ∷ []) (at + 1) × (b ≤ 1)
  unfolding flag_at
  flag_found at b e =
      let a = bind_ok (u1_at bytes at) _ b e in
      let c = bind_ok (unless_broken (ltb a.0 2) (fault at Kind)) _ b a.2 in
      let found = u1_found bytes at a.0 a.1 in
      let below : a.0 < 2 = ltb-true a.0 2 (kept_ok _ _ c.0 c.1) in
      subst (λ (m : ℕ). Stands bytes at (m ∷ []) (at + 1) × (m ≤ 1)) (ok_is a.0 b c.2) (found, omega arith)

  flag_only : (at b : ℕ) (rest : List ℕ) (after : ℕ) → b ≤ 1 → Stands bytes at (b ∷ rest) after → (flag_at bytes at ≡ Ok b) × Stands bytes (at + 1) rest after
  unfolding flag_at
  flag_only at b rest after le t =
      let a = u1_only bytes at b rest after t in
      (rw (a.0, lt-ltb b 2 (omega arith)) refl, a.1)

  -- ---- names
  abbrev pub name_long : List ℕ → ℕ
  name_long name = 2 + length name

  abbrev pub NameRow : TablePlace → List ℕ → TablePlace → Type 0
  NameRow = Above FitsName name_long

  two_more : (a n : ℕ) → a + 2 + n ≡ a + (2 + n)
  two_more a n = omega arith

  name_found : (k : ℕ) (s : TablePlace) (x : List ℕ × TablePlace) → s.at ≤ length bytes → name_at bytes k s ≡ Ok x → FoundRow bytes (λ (b : TablePlace). b.at) name_text NameRow (name_at bytes) s x.0 x.1
  unfolding name_at
  name_found k s x le e =
      let a = bind_ok (u2_at bytes s.at) _ x e in
      let b = bind_ok (part_at bytes (s.at + 2) a.0) _ x a.2 in
      let c = bind_ok (unless_broken (is_above s.last b.0) (fault s.at Order)) _ x b.2 in
      let size = u2_found bytes s.at a.0 are a.1 in
      let text = part_found bytes (s.at + 2) a.0 b.0 b.1 in
      let next : TablePlace = record { at = s.at + 2 + a.0; last = Some b.0 } in
      let made : List ℕ × TablePlace = (b.0, next) in
      let stands : Stands bytes s.at (u2 a.0 ++ b.0) (s.at + 2 + a.0) = Stands-then size.0 text.0 in
      let spelled : u2 a.0 ++ b.0 ≡ name_text b.0 = ap (λ (n : ℕ). u2 n ++ b.0) (sym text.1) in
      let end : s.at + 2 + a.0 ≡ s.at + (2 + length b.0) = two_more s.at a.0 ∙ ap (λ (n : ℕ). s.at + (2 + n)) (sym text.1) in
      subst (λ (y : List ℕ × TablePlace). FoundRow bytes (λ (b : TablePlace). b.at) name_text NameRow (name_at bytes) s y.0 y.1) (ok_is made x c.2) (record {
        stands = subst (λ (t : List ℕ). Stands bytes s.at t (s.at + 2 + a.0)) spelled stands;
        fit = record { fit = subst (λ (n : ℕ). n < 2 ^ 16) (sym text.1) size.1; above = kept_ok _ _ c.0 c.1; next_is = ap (λ (n : ℕ). record { at = n; last = Some b.0 }) end };
      })

  name_only : (k : ℕ) (s : TablePlace) (x : List ℕ) (next : TablePlace) (rest : List ℕ) (after : ℕ) → NameRow s x next → Stands bytes s.at (name_text x ++ rest) after → (name_at bytes k s ≡ Ok (x, next)) × (next.at ≡ s.at + length (name_text x))
  unfolding name_at
  name_only k s x next rest after fit t =
      let t' = subst (λ (l : List ℕ). Stands bytes s.at l after) (append_assoc (u2 (length x)) x rest) t in
      let a = u2_only bytes s.at (length x) (x ++ rest) after fit.fit t' in
      let b = part_only bytes (s.at + 2) x rest after a.1 in
      let end : s.at + 2 + length x ≡ s.at + (2 + length x) = two_more s.at (length x) in
      (rw (a.0, b.0, fit.above, end) (ap (λ (b : TablePlace). Ok (x, b)) (sym fit.next_is)), ap (λ (b : TablePlace). b.at) fit.next_is ∙ long_is s.at (length x))
    where
      long_is : (a n : ℕ) → a + (2 + n) ≡ a + suc (suc n)
      long_is a n = omega arith

  pub record FoundNames (at : ℕ) (names : List (List ℕ)) (after : ℕ) : Type 0 where
    pub stands : Stands bytes at (u4 (length names) ++ flat_map name_text names) after
    pub few : length names < 2 ^ 32
    pub fit : AllByRecursion FitsName names
    pub rise : Rises names

  pub names_found : (at : ℕ) (x : List (List ℕ) × ℕ) → names_at bytes at ≡ Ok x → FoundNames at x.0 x.1
  unfolding names_at
  names_found at x e =
      let a = bind_ok (u4_at bytes at) _ x e in
      let start : TablePlace = record { at = at + 4; last = None } in
      let b = bind_ok (rows (name_at bytes) a.0 0 start) _ x a.2 in
      let count = u4_found bytes at a.0 are a.1 in
      let found = rows_found bytes (λ (b : TablePlace). b.at) name_text NameRow (name_at bytes) name_found a.0 0 start b.0 count.0.within b.1 in
      let made : List (List ℕ) × ℕ = (b.0.0, b.0.1.at) in
      subst (λ (y : List (List ℕ) × ℕ). FoundNames at y.0 y.1) (ok_is made x b.2) (record {
        stands = subst (λ (n : ℕ). Stands bytes at (u4 n ++ flat_map name_text b.0.0) b.0.1.at) (sym found.many) (Stands-then count.0 found.stands);
        few = subst (λ (n : ℕ). n < 2 ^ 32) (sym found.many) count.1;
        fit = above_all FitsName name_long start b.0.0 b.0.1 found.fit;
        rise = above_rises FitsName name_long start b.0.0 b.0.1 found.fit;
      })

  pub names_only : (at : ℕ) (names : List (List ℕ)) (rest : List ℕ) (after : ℕ) → length names < 2 ^ 32 → AllByRecursion FitsName names → Rises names → Stands bytes at (u4 (length names) ++ (flat_map name_text names ++ rest)) after → (end : ℕ) × (names_at bytes at ≡ Ok (names, end)) × Stands bytes end rest after
  unfolding names_at
  names_only at names rest after few fit rise t =
      let start : TablePlace = record { at = at + 4; last = None } in
      let a = u4_only bytes at (length names) (flat_map name_text names ++ rest) after few t in
      let l = rises_above FitsName name_long start names fit rise (all_from_among (λ x. true ≡ true) names (λ z h. refl)) in
      let b = rows_only bytes (λ (b : TablePlace). b.at) name_text NameRow (name_at bytes) name_only 0 start names l.0 rest after l.1 a.1 in
      (l.0.at, rw (a.0, b.0) refl, b.1)

  -- ---- references
  module _ (n : ℕ) (small : n < 2 ^ 32) where
    abbrev pub FitsRow : List ℕ → Type 0
    FitsRow row = FitsRef row × AllByRecursion (λ k. k < n) (ref_uses row)

    abbrev pub ref_long : List ℕ → ℕ
    ref_long row = 13

    abbrev pub RefRow : TablePlace → List ℕ → TablePlace → Type 0
    RefRow = Above FitsRow ref_long

    thirteen : (a : ℕ) → a + 4 + 1 + 4 + 4 ≡ a + 13
    thirteen a = omega arith

    ref_found : (k : ℕ) (s : TablePlace) (x : List ℕ × TablePlace) → s.at ≤ length bytes → ref_at bytes n k s ≡ Ok x → FoundRow bytes (λ (b : TablePlace). b.at) ref_text RefRow (ref_at bytes n) s x.0 x.1
    unfolding ref_at
    ref_found k s x le e =
        let a = bind_ok (index_at bytes n s.at) _ x e in
        let b = bind_ok (flag_at bytes (s.at + 4)) _ x a.2 in
        let c = bind_ok (index_at bytes n (s.at + 4 + 1)) _ x b.2 in
        let d = bind_ok (index_at bytes n (s.at + 4 + 1 + 4)) _ x c.2 in
        let row : List ℕ = a.0 ∷ b.0 ∷ c.0 ∷ d.0 ∷ [] in
        let f = bind_ok (unless_broken (is_above s.last row) (fault s.at Order)) _ x d.2 in
        let owner = index_found n s.at a.0 a.1 in
        let flag = flag_found (s.at + 4) b.0 b.1 in
        let name = index_found n (s.at + 4 + 1) c.0 c.1 in
        let desc = index_found n (s.at + 4 + 1 + 4) d.0 d.1 in
        let next : TablePlace = record { at = s.at + 4 + 1 + 4 + 4; last = Some row } in
        let made : List ℕ × TablePlace = (row, next) in
        subst (λ (y : List ℕ × TablePlace). FoundRow bytes (λ (b : TablePlace). b.at) ref_text RefRow (ref_at bytes n) s y.0 y.1) (ok_is made x f.2) (record {
          stands = Stands-then owner.0 (Stands-then flag.0 (Stands-then name.0 desc.0));
          fit = record { fit = ((refl, flag.1), (owner.1, (name.1, (desc.1, tt)))); above = kept_ok _ _ f.0 f.1; next_is = ap (λ (m : ℕ). record { at = m; last = Some row }) (thirteen s.at) };
        })

    four : (row : List ℕ) → length row ≡ 4 → row ≡ number_at 0 row ∷ number_at 1 row ∷ number_at 2 row ∷ number_at 3 row ∷ []
    four [] e = absurd (omega arith)
    four (a ∷ []) e = absurd (omega arith)
    four (a ∷ b ∷ []) e = absurd (omega arith)
    four (a ∷ b ∷ c ∷ []) e = absurd (omega arith)
    four (a ∷ b ∷ c ∷ d ∷ []) e = refl
    four (a ∷ b ∷ c ∷ d ∷ x ∷ xs) e = absurd (omega arith)

    ref_only : (k : ℕ) (s : TablePlace) (x : List ℕ) (next : TablePlace) (rest : List ℕ) (after : ℕ) → RefRow s x next → Stands bytes s.at (ref_text x ++ rest) after → (ref_at bytes n k s ≡ Ok (x, next)) × (next.at ≡ s.at + length (ref_text x))
    unfolding ref_at
    ref_only k s x next rest after fit t =
        let f = fit.fit in
        let le : n ≤ 2 ^ 32 = omega arith in
        let r3 = u4 (number_at 3 x) ++ rest in
        let r2 = u4 (number_at 2 x) ++ r3 in
        let a = index_only n s.at (number_at 0 x) (number_at 1 x ∷ r2) after f.1.0 le t in
        let b = flag_only (s.at + 4) (number_at 1 x) r2 after f.0.1 a.1 in
        let c = index_only n (s.at + 4 + 1) (number_at 2 x) r3 after f.1.1.0 le b.1 in
        let d = index_only n (s.at + 4 + 1 + 4) (number_at 3 x) rest after f.1.1.1.0 le c.1 in
        let row = sym (four x f.0.0) in
        (rw (a.0, b.0, c.0, d.0, row, fit.above, thirteen s.at) (ap (λ (b : TablePlace). Ok (x, b)) (sym fit.next_is)), ap (λ (b : TablePlace). b.at) fit.next_is)

    pub record FoundRefs (at : ℕ) (refs : List (List ℕ)) (after : ℕ) : Type 0 where
      pub stands : Stands bytes at (u4 (length refs) ++ flat_map ref_text refs) after
      pub few : length refs < 2 ^ 32
      pub fit : AllByRecursion FitsRow refs
      pub rise : Rises refs

    pub refs_found : (at : ℕ) (x : List (List ℕ) × ℕ) → refs_at bytes n at ≡ Ok x → FoundRefs at x.0 x.1
    unfolding refs_at
    refs_found at x e =
        let a = bind_ok (u4_at bytes at) _ x e in
        let start : TablePlace = record { at = at + 4; last = None } in
        let b = bind_ok (rows (ref_at bytes n) a.0 0 start) _ x a.2 in
        let count = u4_found bytes at a.0 are a.1 in
        let found = rows_found bytes (λ (b : TablePlace). b.at) ref_text RefRow (ref_at bytes n) ref_found a.0 0 start b.0 count.0.within b.1 in
        let made : List (List ℕ) × ℕ = (b.0.0, b.0.1.at) in
        subst (λ (y : List (List ℕ) × ℕ). FoundRefs at y.0 y.1) (ok_is made x b.2) (record {
          stands = subst (λ (m : ℕ). Stands bytes at (u4 m ++ flat_map ref_text b.0.0) b.0.1.at) (sym found.many) (Stands-then count.0 found.stands);
          few = subst (λ (m : ℕ). m < 2 ^ 32) (sym found.many) count.1;
          fit = above_all FitsRow ref_long start b.0.0 b.0.1 found.fit;
          rise = above_rises FitsRow ref_long start b.0.0 b.0.1 found.fit;
        })

    pub refs_only : (at : ℕ) (refs : List (List ℕ)) (rest : List ℕ) (after : ℕ) → length refs < 2 ^ 32 → AllByRecursion FitsRow refs → Rises refs → Stands bytes at (u4 (length refs) ++ (flat_map ref_text refs ++ rest)) after → (end : ℕ) × (refs_at bytes n at ≡ Ok (refs, end)) × Stands bytes end rest after
    unfolding refs_at
    refs_only at refs rest after few fit rise t =
        let start : TablePlace = record { at = at + 4; last = None } in
        let a = u4_only bytes at (length refs) (flat_map ref_text refs ++ rest) after few t in
        let l = rises_above FitsRow ref_long start refs fit rise (all_from_among (λ x. true ≡ true) refs (λ z h. refl)) in
        let b = rows_only bytes (λ (b : TablePlace). b.at) ref_text RefRow (ref_at bytes n) ref_only 0 start refs l.0 rest after l.1 a.1 in
        (l.0.at, rw (a.0, b.0) refl, b.1)
