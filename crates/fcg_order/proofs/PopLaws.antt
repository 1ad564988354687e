-- A frame whose links were all followed, and that is the first of its component, is finished with all that stands after it.
use Rattle.std.proofs.Common.{◌≡◌, ℕ, ◌+◌, ◌-◌, ◌<◌, ◌≤◌, List, ◌∷◌, ◌++◌, length, get_or, take, drop, min, refl, sym, ap, subst, ◌∙◌, inl, inr, arith}
use Rattle.std.specs.Prelude.{◌⊎◌, Bool, false, Contains}
use Rattle.std.proofs.lemmas.Bool.{cases_eq, cases_lt, cases_order}
use Rattle.std.proofs.lemmas.List.{get_or-drop, get_or-take, get_or_past, get_or_default, get_or-append-add, get_or_append_left, length-drop, length-append, length-take, length-take-le, take-append-le}
use Rattle.fcg_order.specs.declared.search.Mark.{Mark}
use Rattle.fcg_order.specs.declared.search.Mark.TheVariants.{Unvisited, OnStack, Finished}
use Rattle.fcg_order.specs.declared.search.Frame.{Frame}
use Rattle.fcg_order.specs.Links.{row, HasLink, LinkWalk, first_link}
use Rattle.fcg_order.specs.Internal.Search.{SearchState, mark, node_at, is_marked, IsVisitedFrom, AreFrames, IsSearchState, set_all, after_pop, AreMarksAfterPop}
use Rattle.fcg_order.proofs.WalkLaws.{joined, first_of_walk, kept_along}
use Rattle.fcg_order.proofs.FrameLaws.{same_place, SameStack, KeepsVisitedFrom, frames_kept}
use Rattle.fcg_order.proofs.SetAllLaws.{length-set_all, set_all_in, set_all_out}

module _ (rows : List (List ℕ)) (s : SearchState) (h : IsSearchState rows s) (f : Frame) (fs : List Frame) (top : s.frames ≡ f ∷ fs)
    (all_followed : f.next ≡ length (row rows (node_at s f.place))) (is_first : f.low ≡ f.place) where
  frames : AreFrames rows s (f ∷ fs) (length s.stack)
  frames = subst (λ gs. AreFrames rows s gs (length s.stack)) top h.frames

  under : f.place < length s.stack
  under = frames.0.under

  -- what stands after the frame leads to each other
  pub each_other : (i j : ℕ) → f.place ≤ i → i < length s.stack → f.place ≤ j → j < length s.stack → (i ≡ j → ⊥) → LinkWalk rows (node_at s i) (node_at s j)
  each_other i j a b c d ne = elim (cases_order i j) [
    | inl q ↦ absurd (ne q)
    | inr (inl k) ↦ h.up i j k d
    | inr (inr k) ↦ (let w : LinkWalk rows (node_at s i) (node_at s f.place) = frames.0.back i (omega arith) b in
        elim (cases_eq f.place j) [
          | inl q ↦ subst (λ l. LinkWalk rows (node_at s i) (node_at s l)) q w
          | inr ne2 ↦ joined w (h.up f.place j (omega arith) d)
        ])
  ]

  -- its links lead to finished nodes, or to what stands after the frame
  pub visited : (i w : ℕ) → f.place ≤ i → i < length s.stack → HasLink rows (node_at s i) w → IsVisitedFrom s f.place w
  visited i w a b l =
      let same : get_or (row rows (node_at s i)) l.0 0 ≡ w = get_or_default (row rows (node_at s i)) l.0 0 w l.1 ∙ l.2 in
      subst (IsVisitedFrom s f.place) same (elim (cases_eq i f.place) [
        | inl q ↦ subst (λ j. IsVisitedFrom s f.place (get_or (row rows (node_at s j)) l.0 0)) (sym q)
            (subst (λ low. IsVisitedFrom s low (get_or (row rows (node_at s f.place)) l.0 0)) is_first
            (frames.0.own l.0 (let m : l.0 < length (row rows (node_at s f.place)) = subst (λ j. l.0 < length (row rows (node_at s j))) q l.1 in omega arith)))
        | inr ne ↦ subst (λ low. IsVisitedFrom s low (get_or (row rows (node_at s i)) l.0 0)) is_first (frames.0.others i l.0 (omega arith) b l.1)
      ])

  -- a frame alone, without a link to itself, is on no circle
  pub alone : length s.stack ≡ f.place + 1 → is_marked s (node_at s f.place) ≡ false → LinkWalk rows (node_at s f.place) (node_at s f.place) → ⊥
  alone single off w =
      let v : ℕ = node_at s f.place in
      let opened : mark s (node_at s f.place) ≡ OnStack f.place = h.on_stack f.place under in
      let first : (z : ℕ) → HasLink rows (node_at s f.place) z → mark s z ≡ Finished = (λ z l. elim (visited f.place z (omega arith) under l) [
        | inl d ↦ d
        | inr r ↦ absurd (
            let p = h.place z r.0 r.2 in
            let q : f.place ≡ r.0 = (let a : f.place ≤ r.0 = r.1 in let b : r.0 < length s.stack = p.0 in omega arith) in
            h.self (node_at s f.place) off (subst (HasLink rows (node_at s f.place)) (sym (ap (node_at s) q ∙ p.1)) l))
      ]) in
      let clash : mark s (node_at s f.place) ≡ Finished → ⊥ = (λ d. let e : OnStack f.place ≡ Finished = sym opened ∙ d in cc) in
      elim (first_of_walk w) [
        | inl l ↦ clash (first (node_at s f.place) l)
        | inr r ↦ clash (kept_along (λ z. mark s z ≡ Finished) h.closed (first r.0 r.1) r.2)
      ]

  module _ (circular : List Bool) (c : AreMarksAfterPop rows s f.place circular) where
    t : SearchState
    t = after_pop s f.place fs circular

    in_range : (i : ℕ) → i < length s.stack → node_at s i < length s.marks
    in_range i l = elim (cases_lt (node_at s i) (length s.marks)) [
      | inl k ↦ k
      | inr k ↦ absurd (let e : Unvisited ≡ OnStack i = sym (get_or_past s.marks (node_at s i) Unvisited k) ∙ h.on_stack i l in cc)
    ]

    in_group : (k : ℕ) → get_or (drop f.place s.stack) k 0 ≡ node_at s (f.place + k)
    in_group k = get_or-drop f.place s.stack k 0

    in_done : (i : ℕ) → f.place ≤ i → i < length s.stack → mark t (node_at s i) ≡ Finished
    unfolding t
    in_done i a b =
        let k : ℕ = i - f.place in
        let q : f.place + (i - f.place) ≡ i = omega arith in
        let e : get_or (drop f.place s.stack) (i - f.place) 0 ≡ node_at s i = in_group (i - f.place) ∙ ap (node_at s) q in
        subst (λ v. get_or (set_all s.marks (drop f.place s.stack) Finished) v Unvisited ≡ Finished) e
        (set_all_in s.marks (drop f.place s.stack) Finished Unvisited (i - f.place) (let m = length-drop f.place s.stack in omega arith) (subst (λ v. v < length s.marks) (sym e) (in_range i b)))

    out_same : (v : ℕ) → ((i : ℕ) → f.place ≤ i → i < length s.stack → node_at s i ≡ v → ⊥) → mark t v ≡ mark s v
    unfolding t
    out_same v n = set_all_out s.marks (drop f.place s.stack) Finished Unvisited v
        (λ k l e. n (f.place + k) (omega arith) (let m = length-drop f.place s.stack in omega arith) (sym (in_group k) ∙ e))

    done_kept : (v : ℕ) → mark s v ≡ Finished → mark t v ≡ Finished
    done_kept v e = out_same v (λ i a b q. let k : Finished ≡ OnStack i = sym e ∙ sym (ap (mark s) q) ∙ h.on_stack i b in cc) ∙ e

    -- a node is after the frame, or has its mark as before
    in_or_out : (v : ℕ) → ((i : ℕ) × (f.place ≤ i) × (i < length s.stack) × (node_at s i ≡ v)) ⊎ (mark t v ≡ mark s v)
    in_or_out v = go (mark s v) refl
      where
        out : (m : Mark) → mark s v ≡ m → ((i : ℕ) → f.place ≤ i → m ≡ OnStack i → ⊥) → mark t v ≡ mark s v
        out m e n = out_same v (λ i a b q. n i a (sym e ∙ sym (ap (mark s) q) ∙ h.on_stack i b))

        go : (m : Mark) → mark s v ≡ m → ((i : ℕ) × (f.place ≤ i) × (i < length s.stack) × (node_at s i ≡ v)) ⊎ (mark t v ≡ mark s v)
        go Unvisited e = inr (out Unvisited e (λ i a q. cc))
        go Finished e = inr (out Finished e (λ i a q. cc))
        go (OnStack j) e = elim (cases_lt j f.place) [
          | inl k ↦ inr (out (OnStack j) e (λ i a q. let same : j ≡ i = same_place j i q in omega arith))
          | inr k ↦ inl (j, k, (h.place v j e).0, (h.place v j e).1)
        ]

    was_open : (v i : ℕ) → mark t v ≡ OnStack i → (mark s v ≡ OnStack i) × (i < f.place)
    was_open v i e = elim (in_or_out v) [
      | inl r ↦ absurd (let k : Finished ≡ OnStack i = sym (in_done r.0 r.1 r.2) ∙ ap (mark t) r.3 ∙ e in cc)
      | inr q ↦ (let o : mark s v ≡ OnStack i = sym q ∙ e in (
        o,
        elim (cases_lt i f.place) [
          | inl k ↦ k
          | inr k ↦ absurd (let p = h.place v i o in let d : Finished ≡ OnStack i = sym (in_done i k p.0) ∙ ap (mark t) p.1 ∙ e in cc)
        ],
      ))
    ]

    was_done : (v : ℕ) → mark t v ≡ Finished → ((i : ℕ) × (f.place ≤ i) × (i < length s.stack) × (node_at s i ≡ v)) ⊎ (mark s v ≡ Finished)
    was_done v e = elim (in_or_out v) [ inl r ↦ inl r | inr q ↦ inr (sym q ∙ e) ]

    visited_finished : (w : ℕ) → IsVisitedFrom s f.place w → mark t w ≡ Finished
    visited_finished w (inl d) = done_kept w d
    visited_finished w (inr r) = let p = h.place w r.0 r.2 in sym (ap (mark t) p.1) ∙ in_done r.0 r.1 p.0

    keeps : KeepsVisitedFrom s t
    keeps l w (inl d) = inl (done_kept w d)
    keeps l w (inr r) = elim (in_or_out w) [
      | inl q ↦ inl (sym (ap (mark t) q.3) ∙ in_done q.0 q.1 q.2)
      | inr q ↦ inr (r.0, r.1, q ∙ r.2)
    ]

    stack_long : length t.stack ≡ f.place
    unfolding t
    stack_long = length-take-le f.place s.stack (omega (arith, under))

    same_stack : SameStack s t f.place
    unfolding t
    same_stack i l = get_or-take f.place s.stack i 0 l

    -- the order: what was in it, or what stands after the frame
    old_order : (k : ℕ) → k < length s.order → get_or t.order k 0 ≡ get_or s.order k 0
    unfolding t
    old_order k l = get_or_append_left s.order (drop f.place s.stack) 0 k l

    new_order : (k : ℕ) → get_or t.order (length s.order + k) 0 ≡ node_at s (f.place + k)
    unfolding t
    new_order k = get_or-append-add s.order (drop f.place s.stack) k 0 ∙ in_group k

    order_long : length t.order ≡ length s.order + (length s.stack - f.place)
    unfolding t
    order_long = length-append s.order (drop f.place s.stack) ∙ ap (λ n. length s.order + n) (length-drop f.place s.stack)

    -- the place after the frame of a number of the order
    place_in : ℕ → ℕ
    place_in k = f.place + (k - length s.order)

    new_at : (k : ℕ) → length s.order ≤ k → get_or t.order k 0 ≡ node_at s (place_in k)
    unfolding place_in
    new_at k l = let q : length s.order + (k - length s.order) ≡ k = omega arith in subst (λ j. get_or t.order j 0 ≡ node_at s (f.place + (k - length s.order))) q (new_order (k - length s.order))

    new_in : (k : ℕ) → length s.order ≤ k → k < length t.order → place_in k < length s.stack
    unfolding place_in
    new_in k a b = let m = order_long in let u = under in omega arith

    in_take : (k w : ℕ) → length s.order ≤ k → Contains s.order w → Contains (take k t.order) w
    unfolding t
    in_take k w a c =
        let l : c.0 < length s.order = c.1 in
        let m : length (take k (s.order ++ drop f.place s.stack)) ≡ min k (length (s.order ++ drop f.place s.stack)) = length-take k (s.order ++ drop f.place s.stack) in
        let o : length (s.order ++ drop f.place s.stack) ≡ length s.order + length (drop f.place s.stack) = length-append s.order (drop f.place s.stack) in
        (c.0, omega arith, get_or-take k (s.order ++ drop f.place s.stack) c.0 w (omega arith) ∙ get_or_append_left s.order (drop f.place s.stack) w c.0 l ∙ c.2)

    pub pop_keeps : IsSearchState rows (after_pop s f.place fs circular)
    unfolding t place_in
    pop_keeps = record {
      marks_long = length-set_all s.marks (drop f.place s.stack) Finished ∙ h.marks_long;
      circular_long = c.long;
      on_stack = λ i l. (let b : i < f.place = (let m = stack_long in omega arith) in
          let e : node_at t i ≡ node_at s i = same_stack i b in
          ap (mark t) e ∙ (elim (in_or_out (node_at s i)) [
            | inl r ↦ absurd (let k : OnStack r.0 ≡ OnStack i = sym (h.on_stack r.0 r.2) ∙ ap (mark s) r.3 ∙ h.on_stack i (let u = under in omega arith) in
                let q : r.0 ≡ i = same_place r.0 i k in let a : f.place ≤ r.0 = r.1 in omega arith)
            | inr q ↦ q ∙ h.on_stack i (let u = under in omega arith)
          ]));
      place = λ v i e. (let w = was_open v i e in let l : i < f.place = w.1 in (let m = stack_long in omega arith, same_stack i l ∙ (h.place v i w.0).1));
      up = λ i j l b. (let m = stack_long in let u = under in
          let d : node_at t i ≡ node_at s i = same_stack i (omega arith) in
          let g : node_at t j ≡ node_at s j = same_stack j (omega arith) in
          rw (d, g) (h.up i j l (omega arith)));
      frames = subst (AreFrames rows t fs) (sym stack_long) (frames_kept rows s t fs f.place same_stack keeps frames.1);
      closed = λ v w e l. (elim (was_done v e) [
        | inl r ↦ visited_finished w (visited r.0 w r.1 r.2 (subst (λ z. HasLink rows z w) (sym r.3) l))
        | inr d ↦ done_kept w (h.closed v w d l)
      ]);
      circle = c.circle;
      none = λ v e n. (elim (was_done v e) [
        | inl r ↦ (λ w. c.none r.0 r.1 r.2 (ap (λ z. get_or circular z false) r.3 ∙ n) (subst (λ z. LinkWalk rows z z) (sym r.3) w))
        | inr d ↦ h.none v d (c.was v n)
      ]);
      self = λ v n. h.self v (c.was v n);
      ordered = λ v e. (elim (was_done v e) [
        | inl r ↦ (let a : f.place ≤ r.0 = r.1 in let b : r.0 < length s.stack = r.2 in
            let q : f.place + (r.0 - f.place) ≡ r.0 = omega arith in
            let k : ℕ = length s.order + (r.0 - f.place) in
            let l : length s.order + (r.0 - f.place) < length t.order = (let m = order_long in omega arith) in
            (length s.order + (r.0 - f.place), l, get_or_default t.order (length s.order + (r.0 - f.place)) v 0 l ∙ new_order (r.0 - f.place) ∙ ap (node_at s) q ∙ r.3))
        | inr d ↦ (let o = h.ordered v d in let l : o.0 < length s.order = o.1 in
            (o.0, (let m = order_long in omega arith), get_or_append_left s.order (drop f.place s.stack) v o.0 l ∙ o.2))
      ]);
      finished = λ k l. (elim (cases_lt k (length s.order)) [
        | inl b ↦ ap (mark t) (old_order k b) ∙ done_kept (get_or s.order k 0) (h.finished k b)
        | inr b ↦ ap (mark t) (new_at k b) ∙ in_done (place_in k) (omega arith) (new_in k b l)
      ]);
      once = λ j k l b e. (elim (cases_lt k (length s.order)) [
        | inl a ↦ h.once j k l a (sym (old_order j (omega arith)) ∙ e ∙ old_order k a)
        | inr a ↦ (elim (cases_lt j (length s.order)) [
          | inl g ↦ (let d : mark s (get_or s.order j 0) ≡ Finished = h.finished j g in
              let o : mark s (node_at s (place_in k)) ≡ OnStack (place_in k) = h.on_stack (place_in k) (new_in k a b) in
              let x : Finished ≡ OnStack (place_in k) = sym d ∙ ap (mark s) (sym (old_order j g) ∙ e ∙ new_at k a) ∙ o in cc)
          | inr g ↦ (let x : node_at s (place_in j) ≡ node_at s (place_in k) = sym (new_at j g) ∙ e ∙ new_at k a in
              let y : OnStack (place_in j) ≡ OnStack (place_in k) = sym (h.on_stack (place_in j) (new_in j g (omega arith))) ∙ ap (mark s) x ∙ h.on_stack (place_in k) (new_in k a b) in
              let z : place_in j ≡ place_in k = same_place (place_in j) (place_in k) y in omega arith)
        ])
      ]);
      after = λ k y l n w. (elim (cases_lt k (length s.order)) [
        | inl b ↦ (let e : get_or t.order k 0 ≡ get_or s.order k 0 = old_order k b in
            subst (λ xs. Contains xs y) (sym (take-append-le k s.order (drop f.place s.stack) (omega arith)))
            (h.after k y b (c.was (get_or s.order k 0) (sym (ap (λ z. get_or circular z false) e) ∙ n)) (subst (λ z. HasLink rows z y) e w)))
        | inr b ↦ (let e : get_or t.order k 0 ≡ node_at s (place_in k) = new_at k b in
            let i : f.place ≤ place_in k = omega arith in
            let g : place_in k < length s.stack = new_in k b l in
            let v : HasLink rows (node_at s (place_in k)) y = subst (λ z. HasLink rows z y) e w in
            let off : get_or circular (node_at s (place_in k)) false ≡ false = sym (ap (λ z. get_or circular z false) e) ∙ n in
            elim (visited (place_in k) y i g v) [
              | inl d ↦ in_take k y b (h.ordered y d)
              | inr r ↦ absurd (
                  let p = h.place y r.0 r.2 in
                  elim (cases_eq (place_in k) r.0) [
                    | inl q ↦ c.none (place_in k) i g off (subst (LinkWalk rows (node_at s (place_in k))) (sym (ap (node_at s) q ∙ p.1)) (first_link v))
                    | inr ne ↦ c.none (place_in k) i g off (joined (first_link v) (subst (λ z. LinkWalk rows z (node_at s (place_in k))) p.1 (each_other r.0 (place_in k) r.1 p.0 i g (λ q. ne (sym q)))))
                  ])
            ])
      ]);
    }
