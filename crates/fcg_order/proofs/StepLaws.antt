-- Each step keeps what holds between two steps.
use Rattle.std.proofs.Common.{◌≡◌, ℕ, ◌+◌, ◌-◌, ◌<◌, ◌≤◌, List, [], ◌∷◌, length, get_or, set, drop, min, refl, sym, ap, subst, ◌∙◌, inl, inr, arith, eqb}
use Rattle.std.specs.Prelude.{◌⊎◌, Bool, true, false, cond}
use Rattle.std.proofs.lemmas.Bool.{cases_eq, cases_lt, cases_Bool}
use Rattle.std.proofs.lemmas.Bool.Decides.{Decides-eqb}
use Rattle.std.proofs.lemmas.List.{get_or-drop, get_or-set_same, get_or-set_other, get_or_past, get_or_default, length-drop, length-set}
use Rattle.fcg_order.specs.declared.search.Mark.{Mark}
use Rattle.fcg_order.specs.declared.search.Mark.TheVariants.{Unvisited, OnStack, Finished}
use Rattle.fcg_order.specs.declared.search.Frame.{Frame}
use Rattle.fcg_order.specs.Links.{row, LinkWalk, IsWithin}
use Rattle.fcg_order.specs.Internal.Search.{SearchState, mark, node_at, is_marked, AreFrames, IsSearchState, with_top, with_frames, after_enter, after_link, after_follow, frames_after_lower, after_pop_component, circles_after_pop, set_all, link_count, KeepsVisited, AreMarksAfterPop, IsStep}
use Rattle.fcg_order.proofs.WalkLaws.{joined}
use Rattle.fcg_order.proofs.FrameLaws.{same_place}
use Rattle.fcg_order.proofs.FollowLaws.{leads, follow_done, follow_open, follow_new}
use Rattle.fcg_order.proofs.LowerLaws.{lower_keeps}
use Rattle.fcg_order.proofs.PopLaws.{each_other, alone, pop_keeps}
use Rattle.fcg_order.proofs.SetAllLaws.{length-set_all, set_all_keeps, set_all_in, set_all_out}
use Rattle.fcg_order.proofs.WorkLaws.{row_small, work_old, work_new, work_lowered, work_popped}

module _ (rows : List (List ℕ)) (s : SearchState) (f : Frame) (h : IsSearchState rows (with_top f s)) where
  enter_keeps : (w : ℕ) (fs : List Frame) → w < length rows → KeepsVisited s (after_enter s w fs)
  enter_keeps w fs b u e = elim (cases_eq u w) [
    | inl q ↦ absurd (let k : OnStack (length s.stack) ≡ Unvisited = sym (get_or-set_same s.marks w (OnStack (length s.stack)) Unvisited (let m = h.marks_long in omega arith)) ∙ sym (ap (λ x. get_or (set s.marks w (OnStack (length s.stack))) x Unvisited) q) ∙ e in cc)
    | inr ne ↦ sym (get_or-set_other s.marks w u (OnStack (length s.stack)) Unvisited ne) ∙ e
  ]

  pub step_follow : IsWithin rows → f.next < length (row rows (node_at s f.place))
      → IsStep rows s (after_follow (mark s (get_or (row rows (node_at s f.place)) f.next 0)) s f (get_or (row rows (node_at s f.place)) f.next 0)) f
  step_follow within left = go (mark s w) refl
    where
      w : ℕ
      w = get_or (row rows (node_at s f.place)) f.next 0

      small : w < length rows
      small = within.each (node_at s f.place) (get_or (row rows (node_at s f.place)) f.next 0) (leads rows (with_top f s) h f s.frames refl left)

      few : f.next < link_count rows
      few = let l = row_small rows (node_at s f.place) in omega arith

      go : (m : Mark) → mark s w ≡ m → IsStep rows s (after_follow m s f w) f
      go Unvisited e = record {
        state = follow_new rows (with_top f s) h f s.frames refl left small e;
        less = work_new rows s f w few (let m = h.marks_long in let b = small in omega arith) e;
        keeps = enter_keeps w (after_link f f.low ∷ s.frames) small;
      }
      go (OnStack j) e = record {
        state = follow_open rows (with_top f s) h f s.frames refl left j e;
        less = work_old rows s f (min f.low j) few;
        keeps = λ u k. k;
      }
      go Finished e = record {
        state = follow_done rows (with_top f s) h f s.frames refl left e;
        less = work_old rows s f f.low few;
        keeps = λ u k. k;
      }

  pub step_lower : length (row rows (node_at s f.place)) ≤ f.next → f.low < f.place → IsStep rows s (with_frames s (frames_after_lower f.low s.frames)) f
  step_lower all not_first = record {
    state = go s.frames refl;
    less = work_lowered rows s f f.low;
    keeps = λ u k. k;
  }
    where
      next_is : f.next ≡ length (row rows (node_at s f.place))
      next_is = let b = h.frames.0.next in omega arith

      go : (gs : List Frame) → s.frames ≡ gs → IsSearchState rows (with_frames s (frames_after_lower f.low gs))
      go [] e = absurd (let z : f.place ≡ 0 = subst (λ gs. AreFrames rows (with_top f s) gs f.place) e h.frames.1 in omega arith)
      go (p ∷ fs) e = lower_keeps rows (with_top f s) h f p fs (ap (λ gs. f ∷ gs) e) next_is not_first

  pub step_pop : length (row rows (node_at s f.place)) ≤ f.next → f.place ≤ f.low → IsStep rows s (after_pop_component s f.place) f
  step_pop all first = record {
    state = pop_keeps rows (with_top f s) h f s.frames refl next_is low_is (circles_after_pop s f.place) marked;
    less = work_popped rows s f (circles_after_pop s f.place);
    keeps = keeps;
  }
    where
      next_is : f.next ≡ length (row rows (node_at s f.place))
      next_is = let b = h.frames.0.next in omega arith

      low_is : f.low ≡ f.place
      low_is = let b = h.frames.0.low in omega arith

      under : f.place < length s.stack
      under = h.frames.0.under

      either : {X : Type 0} (xs : List X) (vs : List ℕ) (x d : X) (u : ℕ) → (get_or (set_all xs vs x) u d ≡ x) ⊎ (get_or (set_all xs vs x) u d ≡ get_or xs u d)
      either xs [] x d u = inr refl
      either xs (y ∷ vs) x d u = elim (either (set xs y x) vs x d u) [
        | inl e ↦ inl e
        | inr e ↦ (elim (cases_lt u (length xs)) [
          | inl l ↦ (elim (cases_eq u y) [
            | inl q ↦ inl (e ∙ ap (λ i. get_or (set xs i x) u d) (sym q) ∙ get_or-set_same xs u x d l)
            | inr ne ↦ inr (e ∙ get_or-set_other xs y u x d ne)
          ])
          | inr l ↦ inr (e ∙ get_or_past (set xs y x) u d (let m = length-set xs y x in omega arith) ∙ sym (get_or_past xs u d l))
        ])
      ]

      keeps : KeepsVisited s (after_pop_component s f.place)
      keeps u e = elim (either s.marks (drop f.place s.stack) Finished Unvisited u) [
        | inl k ↦ absurd (let x : Finished ≡ Unvisited = sym k ∙ e in cc)
        | inr k ↦ sym k ∙ e
      ]

      all_marked : List Bool
      all_marked = set_all s.circular (drop f.place s.stack) true

      in_range : (i : ℕ) → i < length s.stack → node_at s i < length s.circular
      in_range i l = elim (cases_lt (node_at s i) (length s.marks)) [
        | inl k ↦ (let a = h.marks_long in let b = h.circular_long in omega arith)
        | inr k ↦ absurd (let e : Unvisited ≡ OnStack i = sym (get_or_past s.marks (node_at s i) Unvisited k) ∙ h.on_stack i l in cc)
      ]

      group_is_marked : (i : ℕ) → f.place ≤ i → i < length s.stack → get_or all_marked (node_at s i) false ≡ true
      group_is_marked i a b =
          let q : f.place + (i - f.place) ≡ i = omega arith in
          let e : get_or (drop f.place s.stack) (i - f.place) 0 ≡ node_at s i = get_or-drop f.place s.stack (i - f.place) 0 ∙ ap (node_at s) q in
          subst (λ x. get_or (set_all s.circular (drop f.place s.stack) true) x false ≡ true) e
          (set_all_in s.circular (drop f.place s.stack) true false (i - f.place) (let m = length-drop f.place s.stack in omega arith) (subst (λ x. x < length s.circular) (sym e) (in_range i b)))

      -- of two or more that stand after the frame each is on a circle
      on_circle : f.place + 1 < length s.stack → (i : ℕ) → f.place ≤ i → i < length s.stack → LinkWalk rows (node_at s i) (node_at s i)
      on_circle many i a b = elim (cases_eq i f.place) [
        | inl q ↦ joined (each_other rows (with_top f s) h f s.frames refl next_is low_is i (i + 1) a b (omega arith) (omega arith) (λ z. omega arith))
            (each_other rows (with_top f s) h f s.frames refl next_is low_is (i + 1) i (omega arith) (omega arith) a b (λ z. omega arith))
        | inr ne ↦ joined (each_other rows (with_top f s) h f s.frames refl next_is low_is i f.place a b (omega arith) under ne)
            (each_other rows (with_top f s) h f s.frames refl next_is low_is f.place i (omega arith) under a b (λ z. ne (sym z)))
      ]

      circle_all : f.place + 1 < length s.stack → (u : ℕ) → get_or all_marked u false ≡ true → LinkWalk rows u u
      circle_all many u e = go (mark s u) refl
        where
          out : (m : Mark) → mark s u ≡ m → ((i : ℕ) → f.place ≤ i → m ≡ OnStack i → ⊥) → LinkWalk rows u u
          out m q n = h.circle u (sym (set_all_out s.circular (drop f.place s.stack) true false u
              (λ k l r. (let a : k < length s.stack - f.place = (let x = length-drop f.place s.stack in omega arith) in
              let o : node_at s (f.place + k) ≡ u = sym (get_or-drop f.place s.stack k 0) ∙ r in
              n (f.place + k) (omega arith) (sym q ∙ sym (ap (mark s) o) ∙ h.on_stack (f.place + k) (omega arith))))) ∙ e)

          go : (m : Mark) → mark s u ≡ m → LinkWalk rows u u
          go Unvisited q = out Unvisited q (λ i a r. cc)
          go Finished q = out Finished q (λ i a r. cc)
          go (OnStack j) q =
              let p = h.place u j q in
              elim (cases_lt j f.place) [
                | inl k ↦ out (OnStack j) q (λ i a r. let z : j ≡ i = same_place j i r in omega arith)
                | inr k ↦ subst (λ x. LinkWalk rows x x) p.1 (on_circle many j k p.0)
              ]

      was_all : (u : ℕ) → get_or all_marked u false ≡ false → is_marked s u ≡ false
      was_all u e = elim (cases_Bool (is_marked s u)) [
        | inr k ↦ k
        | inl k ↦ (elim (cases_lt u (length s.circular)) [
          | inl l ↦ absurd (let x = set_all_keeps s.circular (drop f.place s.stack) true false u l k in cc)
          | inr l ↦ get_or_past s.circular u false l
        ])
      ]

      single : length s.stack ≡ f.place + 1 → AreMarksAfterPop rows (with_top f s) f.place s.circular
      single one = record {
        long = h.circular_long;
        circle = h.circle;
        was = λ u e. e;
        none = λ i a b n. (let q : i ≡ f.place = omega arith in
            subst (λ j. LinkWalk rows (node_at s j) (node_at s j) → ⊥) (sym q)
            (alone rows (with_top f s) h f s.frames refl next_is low_is one (ap (λ j. is_marked s (node_at s j)) (sym q) ∙ n)));
      }

      several : f.place + 1 < length s.stack → AreMarksAfterPop rows (with_top f s) f.place all_marked
      several many = record {
        long = length-set_all s.circular (drop f.place s.stack) true ∙ h.circular_long;
        circle = circle_all many;
        was = was_all;
        none = λ i a b n. absurd (let x = group_is_marked i a b in cc);
      }

      marked : AreMarksAfterPop rows (with_top f s) f.place (circles_after_pop s f.place)
      marked = choose (eqb (length s.stack) (f.place + 1)) refl
        where
          choose : (b : Bool) → eqb (length s.stack) (f.place + 1) ≡ b → AreMarksAfterPop rows (with_top f s) f.place (cond b s.circular (set_all s.circular (drop f.place s.stack) true))
          choose true e = single ((Decides-eqb (length s.stack) (f.place + 1)).0 e)
          choose false e = several (
              let ne : length s.stack ≡ f.place + 1 → ⊥ = (λ k. let t : eqb (length s.stack) (f.place + 1) ≡ true = (Decides-eqb (length s.stack) (f.place + 1)).1 k in cc) in
              let u = under in omega arith)

pub stack_below : (rows : List (List ℕ)) (s : SearchState) → IsSearchState rows s → (k d : ℕ) → k < length s.stack → get_or s.stack k d < length rows
stack_below rows s h k d l = elim (cases_lt (node_at s k) (length s.marks)) [
  | inl b ↦ (let e : get_or s.stack k d ≡ node_at s k = get_or_default s.stack k d 0 l in let a = h.marks_long in omega arith)
  | inr b ↦ absurd (let e : Unvisited ≡ OnStack k = sym (get_or_past s.marks (node_at s k) Unvisited b) ∙ h.on_stack k l in cc)
]

pub target_below : (rows : List (List ℕ)) (s : SearchState) (f : Frame) → IsSearchState rows (with_top f s) → IsWithin rows → f.next < length (row rows (node_at s f.place))
    → get_or (row rows (node_at s f.place)) f.next 0 < length rows
target_below rows s f h within left = within.each (node_at s f.place) (get_or (row rows (node_at s f.place)) f.next 0) (leads rows (with_top f s) h f s.frames refl left)

-- the node of a frame, and its row, as the code reads them
pub row_read : (rows : List (List ℕ)) (s : SearchState) (f : Frame) → IsSearchState rows (with_top f s) → (node : ℕ) (r : List ℕ) → node ≡ get_or s.stack f.place node → r ≡ row rows node → r ≡ row rows (node_at s f.place)
row_read rows s f h node r e q = q ∙ ap (row rows) (e ∙ get_or_default s.stack f.place node 0 h.frames.0.under)

-- where there is no frame, nothing stands on the stack
pub stack_empty : (rows : List (List ℕ)) (s : SearchState) → IsSearchState rows s → s.frames ≡ [] → (u i : ℕ) → mark s u ≡ OnStack i → ⊥
stack_empty rows s h e u i o =
    let z : length s.stack ≡ 0 = subst (λ gs. AreFrames rows s gs (length s.stack)) e h.frames in
    let l : i < length s.stack = (h.place u i o).0 in
    omega arith
