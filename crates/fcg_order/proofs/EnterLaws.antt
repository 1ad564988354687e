-- An unvisited node is put on the stack.
use Rattle.std.proofs.Common.{◌≡◌, ℕ, ◌+◌, ◌<◌, List, [], ◌∷◌, ◌++◌, length, get_or, refl, sym, ap, subst, ◌∙◌, inl, inr, arith}
use Rattle.std.proofs.lemmas.Bool.{cases_eq}
use Rattle.std.proofs.lemmas.List.{length-set, get_or-set_same, get_or-set_other, length_push, get_or_push, get_or_append_left}
use Rattle.fcg_order.specs.declared.search.Mark.{Mark}
use Rattle.fcg_order.specs.declared.search.Mark.TheVariants.{Unvisited, OnStack, Finished}
use Rattle.fcg_order.specs.declared.search.Frame.{Frame}
use Rattle.fcg_order.specs.Links.{LinkWalk}
use Rattle.fcg_order.specs.Internal.Search.{SearchState, mark, node_at, AreFrames, IsSearchState, after_enter}
use Rattle.fcg_order.proofs.FrameLaws.{same_place, SameStack, KeepsVisitedFrom}

module _ (rows : List (List ℕ)) (s : SearchState) (h : IsSearchState rows s) (v : ℕ) (small : v < length rows) (new : mark s v ≡ Unvisited) (fs : List Frame) where
  t : SearchState
  t = after_enter s v fs

  n : ℕ
  n = length s.stack

  here : mark t v ≡ OnStack n
  unfolding t n
  here = get_or-set_same s.marks v (OnStack (length s.stack)) Unvisited (let e = h.marks_long in omega arith)

  other : (w : ℕ) → (w ≡ v → ⊥) → mark t w ≡ mark s w
  unfolding t
  other w ne = get_or-set_other s.marks v w (OnStack (length s.stack)) Unvisited ne

  apart : (w : ℕ) (m : Mark) → mark s w ≡ m → (Unvisited ≡ m → ⊥) → w ≡ v → ⊥
  apart w m e ne q = ne (sym new ∙ sym (ap (mark s) q) ∙ e)

  done_kept : (w : ℕ) → mark s w ≡ Finished → mark t w ≡ Finished
  done_kept w e = other w (apart w Finished e (λ q. cc)) ∙ e

  done_was : (w : ℕ) → mark t w ≡ Finished → mark s w ≡ Finished
  done_was w e =
      elim (cases_eq w v) [
        | inl q ↦ absurd (let k : OnStack n ≡ Finished = sym here ∙ sym (ap (mark t) q) ∙ e in cc)
        | inr ne ↦ sym (other w ne) ∙ e
      ]

  pub enter_keeps_visited : KeepsVisitedFrom s (after_enter s v fs)
  unfolding t
  enter_keeps_visited l w (inl e) = inl (done_kept w e)
  enter_keeps_visited l w (inr r) = inr (r.0, r.1, other w (apart w (OnStack r.0) r.2 (λ q. cc)) ∙ r.2)

  pub enter_stack : SameStack s (after_enter s v fs) (length s.stack)
  enter_stack i l = get_or_append_left s.stack (v ∷ []) 0 i l

  last : node_at t n ≡ v
  unfolding t n
  last = get_or_push s.stack v 0 (length s.stack) refl

  pub enter_state : ((i : ℕ) → i < length s.stack → LinkWalk rows (node_at s i) v) → AreFrames rows (after_enter s v fs) fs (length s.stack) → IsSearchState rows (after_enter s v fs)
  unfolding t n
  enter_state way below = record {
    marks_long = length-set s.marks v (OnStack (length s.stack)) ∙ h.marks_long;
    circular_long = h.circular_long;
    on_stack = λ i l. (elim (cases_eq i (length s.stack)) [
      | inl q ↦ subst (λ j. mark t (node_at t j) ≡ OnStack j) (sym q) (ap (mark t) last ∙ here)
      | inr ne ↦ (let b : i < length s.stack = (let m : length (s.stack ++ (v ∷ [])) ≡ length s.stack + 1 = length_push s.stack v in omega arith) in
          ap (mark t) (enter_stack i b) ∙ other (node_at s i) (apart (node_at s i) (OnStack i) (h.on_stack i b) (λ q. cc)) ∙ h.on_stack i b)
    ]);
    place = λ w i e. (elim (cases_eq w v) [
      | inl q ↦ (let k : OnStack (length s.stack) ≡ OnStack i = sym here ∙ sym (ap (mark t) q) ∙ e in
          let same : length s.stack ≡ i = same_place (length s.stack) i k in
          let m : length (s.stack ++ (v ∷ [])) ≡ length s.stack + 1 = length_push s.stack v in
          (omega arith, ap (node_at t) (sym same) ∙ last ∙ sym q))
      | inr ne ↦ (let p = h.place w i (sym (other w ne) ∙ e) in
          let b : i < length s.stack = p.0 in
          let m : length (s.stack ++ (v ∷ [])) ≡ length s.stack + 1 = length_push s.stack v in
          (omega arith, enter_stack i b ∙ p.1))
    ]);
    up = λ i j l b. (elim (cases_eq j (length s.stack)) [
      | inl q ↦ (let c : i < length s.stack = omega arith in
          let d : node_at t i ≡ node_at s i = enter_stack i c in
          let f : node_at t j ≡ v = ap (node_at t) q ∙ last in
          rw (d, f) (way i c))
      | inr ne ↦ (let m : length (s.stack ++ (v ∷ [])) ≡ length s.stack + 1 = length_push s.stack v in
          let c : j < length s.stack = omega arith in
          let d : node_at t i ≡ node_at s i = enter_stack i (omega arith) in
          let f : node_at t j ≡ node_at s j = enter_stack j c in
          rw (d, f) (h.up i j l c))
    ]);
    frames = (
      record {
        under = (let m : length (s.stack ++ (v ∷ [])) ≡ length s.stack + 1 = length_push s.stack v in omega arith);
        low = omega arith;
        low_walk = λ l. absurd (omega arith);
        next = omega arith;
        back = λ i a b. absurd (let m : length (s.stack ++ (v ∷ [])) ≡ length s.stack + 1 = length_push s.stack v in omega arith);
        own = λ k l. absurd (omega arith);
        others = λ i k a b l. absurd (let m : length (s.stack ++ (v ∷ [])) ≡ length s.stack + 1 = length_push s.stack v in omega arith);
      },
      below,
    );
    closed = λ w z e l. done_kept z (h.closed w z (done_was w e) l);
    circle = h.circle;
    none = λ w e. h.none w (done_was w e);
    self = h.self;
    ordered = λ w e. h.ordered w (done_was w e);
    finished = λ k l. done_kept (get_or s.order k 0) (h.finished k l);
    once = h.once;
    after = h.after;
  }
