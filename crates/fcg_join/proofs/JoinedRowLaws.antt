-- Rows that are joined one after the other along the order.
use Rattle.std.proofs.Common.{◌≡◌, ℕ, suc, ◌+◌, ◌<◌, ◌≤◌, List, [], ◌∷◌, ◌++◌, length, eqb, get_or, set, take, drop, min, refl, sym, ap, subst, ◌∙◌, inl, inr, arith}
use Rattle.std.proofs.Math.Seq.{drop-cons, get_or-append_seam}
use Rattle.std.specs.Prelude.{◌↔◌, true, ◌⊎◌, flat_map, All, Contains}
use Rattle.std.specs.List.{list_any}
use Rattle.std.specs.List.Sorted.{IsStrictlyIncreasing}
use Rattle.std.proofs.lemmas.Bool.{cases_eq}
use Rattle.std.proofs.lemmas.Bool.Decides.{Decides-eqb}
use Rattle.std.proofs.lemmas.Map.Steps.{length-le_from_distinct_below}
use Rattle.std.proofs.lemmas.Map.Made.{IsDistinct-from_AllPairs}
use Rattle.std.proofs.lemmas.List.{length-set, length-append, get_or-set_same, get_or-set_other, get_or-take, get_or_default, length-take, take-append-drop, get_or_append_left}
use Rattle.fcg_analysis.proofs.General.Members.{IsIn, IsIn-from_Contains, Contains-from_IsIn, in_any, append_left, append_right, in_append, flat_map_in, in_flat_map}
use Rattle.fcg_order.specs.Links.{row, HasLink, IsCircular}
use Rattle.fcg_order.specs.Order.{IsOrder}
use Rattle.fcg_join.specs.declared.joined_rows.JoinedRows.{JoinedRows}
use Rattle.fcg_join.specs.TypeTables.{IsJoinedRow}
use Rattle.fcg_join.specs.Internal.Mentions.{row_of, AreSorted, AreJoinedRows}

-- the k-th row is that of the k-th node of the order
pub record IsJoinedAt (links own : List (List ℕ)) (order : List ℕ) (rows : List (List ℕ)) (k : ℕ) : Type 0 where
  pub joined : (n : ℕ) → Contains (row rows k) n
      ↔ (Contains (row own (get_or order k 0)) n ⊎ ((j : ℕ) × (j < k) × HasLink links (get_or order k 0) (get_or order j 0) × Contains (row rows j) n))
  pub rise : IsStrictlyIncreasing (row rows k)

-- the first i nodes of the order have their rows
pub record AreJoinedTo (links own : List (List ℕ)) (order : List ℕ) (rows : List (List ℕ)) (places : List ℕ) (i : ℕ) : Type 0 where
  pub long : length places ≡ length links
  pub many : length rows ≡ i
  pub placed : (k : ℕ) → k < i → get_or places (get_or order k 0) 0 ≡ k
  pub each : (k : ℕ) → k < i → IsJoinedAt links own order rows k

pub joined_none : (links own : List (List ℕ)) (order places : List ℕ) → length places ≡ length links → AreJoinedTo links own order [] places 0
joined_none links own order places l = record { long = l; many = refl; placed = λ k m. absurd (omega arith); each = λ k m. absurd (omega arith) }

-- rows that are the same up to a place are joined alike
same_joined : (links own : List (List ℕ)) (order : List ℕ) (rows more : List (List ℕ)) (k : ℕ) → ((j : ℕ) → j ≤ k → row rows j ≡ row more j) → IsJoinedAt links own order rows k → IsJoinedAt links own order more k
same_joined links own order rows more k same s = record {
  joined = λ n. (
    λ c. (elim ((s.joined n).0 (subst (λ ns. Contains ns n) (sym (same k (omega arith))) c)) [
      | inl a ↦ inl a
      | inr b ↦ inr (b.0, b.1, b.2, subst (λ ns. Contains ns n) (same b.0 (let l = b.1 in omega arith)) b.3)
    ]),
    λ h. subst (λ ns. Contains ns n) (same k (omega arith)) ((s.joined n).1 (elim h [
      | inl a ↦ inl a
      | inr b ↦ inr (b.0, b.1, b.2, subst (λ ns. Contains ns n) (sym (same b.0 (let l = b.1 in omega arith))) b.3)
    ])),
  );
  rise = subst IsStrictlyIncreasing (same k (omega arith)) s.rise;
}

module _ (links own : List (List ℕ)) (order : List ℕ) (h : IsOrder links order) (acyclic : (x : ℕ) → x < length links → ¬ IsCircular links x) where
  -- what stands in the order is a node
  pub is_node : (k : ℕ) → k < length order → get_or order k 0 < length links
  is_node k l = (h.each (get_or order k 0)).0 (k, l, get_or_default order k (get_or order k 0) 0 l)

  -- what a node links to stands before it
  earlier : (k y : ℕ) → k < length order → HasLink links (get_or order k 0) y → (j : ℕ) × (j < k) × (get_or order j 0 ≡ y)
  earlier k y l c =
      let parts : order ≡ take k order ++ get_or order k 0 ∷ drop (suc k) order = sym (take-append-drop k order) ∙ ap (λ xs. take k order ++ xs) (drop-cons order k 0 l) in
      let t = h.after (take k order) (drop (suc k) order) (get_or order k 0) y parts (acyclic (get_or order k 0) (is_node k l)) c in
      let m : length (take k order) ≡ min k (length order) = length-take k order in
      let a : t.0 < length (take k order) = t.1 in
      (t.0, omega arith, get_or_default order t.0 0 y (omega arith) ∙ sym (get_or-take k order t.0 y (omega arith)) ∙ t.2)

  -- there are no more in the order than nodes
  pub few_in_order : length order ≤ length links
  few_in_order = length-le_from_distinct_below order (length links) (IsDistinct-from_AllPairs Decides-eqb order h.once) each
    where
      each : (q : ℕ) → list_any (eqb q) order ≡ true → q < length links
      each q e =
          let r = in_any (eqb q) order e in
          subst (λ n. n < length links) (sym ((Decides-eqb q r.0).0 r.2)) ((h.each r.0).0 (Contains-from_IsIn order r.0 r.1))

  module _ (rows : List (List ℕ)) (places : List ℕ) (i : ℕ) (l : i < length order) (s : AreJoinedTo links own order rows places i) where
    abbrev row_at : ℕ → List ℕ
    row_at y = row rows (get_or places y 0)

    pub next_is_node : get_or order i 0 < length places
    next_is_node = (let a = is_node i l in let b = s.long in omega arith)

    pub few_rows : length rows < length links
    few_rows = (let a = few_in_order in let b = s.many in omega arith)

    -- the row of a node that stands before
    row_before : (j y : ℕ) → j < i → get_or order j 0 ≡ y → row_at y ≡ row rows j
    row_before j y m e = ap (λ z. row rows (get_or places z 0)) (sym e) ∙ ap (row rows) (s.placed j m)

    pub linked_have_rows : All (λ y. (y < length places) × (get_or places y 0 < length rows)) (row links (get_or order i 0))
    linked_have_rows = λ k d m. (
        let y = get_or (row links (get_or order i 0)) k d in
        let e = earlier i y l (k, m, get_or_default (row links (get_or order i 0)) k y d m) in
        let a : get_or order e.0 0 < length links = is_node e.0 (let b = e.1 in omega arith) in
        let p : get_or places y 0 ≡ e.0 = ap (λ z. get_or places z 0) (sym e.2) ∙ s.placed e.0 e.1 in
        (subst (λ z. z < length places) e.2 (let b = s.long in omega arith), (let b = s.many in let c = e.1 in omega arith)))

    module _ (new : List ℕ) (sorted : AreSorted (row own (get_or order i 0) ++ flat_map row_at (row links (get_or order i 0))) new) where
      same_row : (j : ℕ) → j < i → row rows j ≡ row (rows ++ new ∷ []) j
      same_row j m = sym (get_or_append_left rows (new ∷ []) [] j (let b = s.many in omega arith))

      last_row : row (rows ++ new ∷ []) i ≡ new
      last_row = ap (λ k. get_or (rows ++ new ∷ []) k []) (sym s.many) ∙ get_or-append_seam rows new [] []

      -- the row of a node to which the last one links
      in_last : (n : ℕ) → Contains (row (rows ++ new ∷ []) i) n
          ↔ (Contains (row own (get_or order i 0)) n ⊎ ((j : ℕ) × (j < i) × HasLink links (get_or order i 0) (get_or order j 0) × Contains (row (rows ++ new ∷ []) j) n))
      in_last n = (forth, back)
        where
          forth : Contains (row (rows ++ new ∷ []) i) n → Contains (row own (get_or order i 0)) n ⊎ ((j : ℕ) × (j < i) × HasLink links (get_or order i 0) (get_or order j 0) × Contains (row (rows ++ new ∷ []) j) n)
          forth c = at (in_append (row own (get_or order i 0)) (flat_map row_at (row links (get_or order i 0))) n (IsIn-from_Contains _ n ((sorted.same n).0 (subst (λ ns. Contains ns n) last_row c))))
            where
              at : IsIn n (row own (get_or order i 0)) ⊎ IsIn n (flat_map row_at (row links (get_or order i 0)))
                  → Contains (row own (get_or order i 0)) n ⊎ ((j : ℕ) × (j < i) × HasLink links (get_or order i 0) (get_or order j 0) × Contains (row (rows ++ new ∷ []) j) n)
              at (inl a) = inl (Contains-from_IsIn _ n a)
              at (inr b) =
                  let y = in_flat_map row_at (row links (get_or order i 0)) n b in
                  let link : HasLink links (get_or order i 0) y.0 = Contains-from_IsIn _ y.0 y.1 in
                  let e = earlier i y.0 l link in
                  inr (
                    e.0,
                    e.1,
                    subst (HasLink links (get_or order i 0)) (sym e.2) link,
                    subst (λ ns. Contains ns n) (row_before e.0 y.0 e.1 e.2 ∙ same_row e.0 e.1) (Contains-from_IsIn (row_at y.0) n y.2),
                  )

          back : Contains (row own (get_or order i 0)) n ⊎ ((j : ℕ) × (j < i) × HasLink links (get_or order i 0) (get_or order j 0) × Contains (row (rows ++ new ∷ []) j) n) → Contains (row (rows ++ new ∷ []) i) n
          back b = subst (λ ns. Contains ns n) (sym last_row) ((sorted.same n).1 (Contains-from_IsIn _ n (at b)))
            where
              at : Contains (row own (get_or order i 0)) n ⊎ ((j : ℕ) × (j < i) × HasLink links (get_or order i 0) (get_or order j 0) × Contains (row (rows ++ new ∷ []) j) n)
                  → IsIn n (row own (get_or order i 0) ++ flat_map row_at (row links (get_or order i 0)))
              at (inl a) = append_left (row own (get_or order i 0)) (flat_map row_at (row links (get_or order i 0))) n (IsIn-from_Contains _ n a)
              at (inr c) =
                  let here : Contains (row_at (get_or order c.0 0)) n = subst (λ ns. Contains ns n) (sym (row_before c.0 (get_or order c.0 0) c.1 refl ∙ same_row c.0 c.1)) c.3 in
                  append_right (row own (get_or order i 0)) (flat_map row_at (row links (get_or order i 0))) n
                  (flat_map_in row_at (row links (get_or order i 0)) (get_or order c.0 0) n (IsIn-from_Contains _ (get_or order c.0 0) c.2) (IsIn-from_Contains (row_at (get_or order c.0 0)) n here))

      pub next : AreJoinedTo links own order (rows ++ new ∷ []) (set places (get_or order i 0) (length rows)) (i + 1)
      next = record {
        long = length-set places (get_or order i 0) (length rows) ∙ s.long;
        many = (let a = length-append rows (new ∷ []) in let b = s.many in omega arith);
        placed = placed;
        each = each;
      }
        where
          placed : (k : ℕ) → k < i + 1 → get_or (set places (get_or order i 0) (length rows)) (get_or order k 0) 0 ≡ k
          placed k m = elim (cases_eq k i) [
            | inl q ↦ ap (λ j. get_or (set places (get_or order i 0) (length rows)) (get_or order j 0) 0) q
                ∙ get_or-set_same places (get_or order i 0) (length rows) 0 next_is_node ∙ s.many ∙ sym q
            | inr ne ↦ get_or-set_other places (get_or order i 0) (get_or order k 0) (length rows) 0 (λ q. h.once k i 0 (omega arith) l q) ∙ s.placed k (omega arith)
          ]

          each : (k : ℕ) → k < i + 1 → IsJoinedAt links own order (rows ++ new ∷ []) k
          each k m = elim (cases_eq k i) [
            | inl q ↦ subst (IsJoinedAt links own order (rows ++ new ∷ [])) (sym q) (record { joined = in_last; rise = subst IsStrictlyIncreasing (sym last_row) sorted.rise })
            | inr ne ↦ same_joined links own order rows (rows ++ new ∷ []) k (λ j a. same_row j (omega arith)) (s.each k (omega arith))
          ]

  module _ (r : JoinedRows) (s : AreJoinedTo links own order r.rows r.places.items (length order)) where
    place : (x : ℕ) → x < length links → (k : ℕ) × (k < length order) × (get_or order k 0 ≡ x)
    place x l = (let t = (h.each x).1 l in (t.0, t.1, get_or_default order t.0 0 x t.1 ∙ t.2))

    row_is : (k : ℕ) → k < length order → row_of r (get_or order k 0) ≡ row r.rows k
    row_is k m = ap (row r.rows) (s.placed k m)

    joined_at : (k : ℕ) → k < length order → IsJoinedRow links (row own) (row_of r) (get_or order k 0) (row_of r (get_or order k 0))
    joined_at k m n = (forth, back)
      where
        forth : Contains (row_of r (get_or order k 0)) n → Contains (row own (get_or order k 0)) n ⊎ ((y : ℕ) × HasLink links (get_or order k 0) y × Contains (row_of r y) n)
        forth c = at (((s.each k m).joined n).0 (subst (λ ns. Contains ns n) (row_is k m) c))
          where
            at : Contains (row own (get_or order k 0)) n ⊎ ((j : ℕ) × (j < k) × HasLink links (get_or order k 0) (get_or order j 0) × Contains (row r.rows j) n)
                → Contains (row own (get_or order k 0)) n ⊎ ((y : ℕ) × HasLink links (get_or order k 0) y × Contains (row_of r y) n)
            at (inl a) = inl a
            at (inr b) = inr (get_or order b.0 0, b.2, subst (λ ns. Contains ns n) (sym (row_is b.0 (let e = b.1 in omega arith))) b.3)

        back : Contains (row own (get_or order k 0)) n ⊎ ((y : ℕ) × HasLink links (get_or order k 0) y × Contains (row_of r y) n) → Contains (row_of r (get_or order k 0)) n
        back (inl a) = subst (λ ns. Contains ns n) (sym (row_is k m)) (((s.each k m).joined n).1 (inl a))
        back (inr b) =
            let e = earlier k b.0 m b.1 in
            let same : row_of r b.0 ≡ row r.rows e.0 = ap (row_of r) (sym e.2) ∙ row_is e.0 (let f = e.1 in omega arith) in
            subst (λ ns. Contains ns n) (sym (row_is k m))
            (((s.each k m).joined n).1 (inr (e.0, e.1, subst (HasLink links (get_or order k 0)) (sym e.2) b.1, subst (λ ns. Contains ns n) same b.2)))

    pub joined_all : AreJoinedRows links own r
    joined_all = record {
      long = s.long;
      there = λ x l. (
          let p = place x l in
          let q : get_or r.places.items x 0 ≡ p.0 = ap (λ z. get_or r.places.items z 0) (sym p.2) ∙ s.placed p.0 p.1 in
          ((let a = s.long in omega arith), (let a = s.many in let b = p.1 in omega arith)));
      joined = λ x l. (let p = place x l in subst (λ y. IsJoinedRow links (row own) (row_of r) y (row_of r y)) p.2 (joined_at p.0 p.1));
      rise = λ x l. (let p = place x l in subst (λ y. IsStrictlyIncreasing (row_of r y)) p.2 (subst IsStrictlyIncreasing (sym (row_is p.0 p.1)) (s.each p.0 p.1).rise));
    }
