-- A frame whose links were all followed, and that isn't the first of its component, is joined with the one below.
use Rattle.std.proofs.Common.{◌≡◌, ℕ, ◌<◌, List, ◌∷◌, length, get_or, min, sym, subst, inl, inr, arith}
use Rattle.std.proofs.lemmas.Bool.{cases_lt, cases_order}
use Rattle.fcg_order.specs.declared.search.Frame.{Frame}
use Rattle.fcg_order.specs.Links.{row, LinkWalk}
use Rattle.fcg_order.specs.Internal.Search.{SearchState, node_at, IsVisitedFrom, AreFrames, IsSearchState, with_frames}
use Rattle.fcg_order.proofs.WalkLaws.{joined}
use Rattle.fcg_order.proofs.FollowLaws.{reframed, visited_from}

abbrev pub with_low : Frame → ℕ → Frame
with_low p low = record { place = p.place; next = p.next; low = low }

module _ (rows : List (List ℕ)) (s : SearchState) (h : IsSearchState rows s) (f p : Frame) (fs : List Frame) (top : s.frames ≡ f ∷ p ∷ fs)
    (all_followed : f.next ≡ length (row rows (node_at s f.place))) (not_first : f.low < f.place) where
  frames : AreFrames rows s (f ∷ p ∷ fs) (length s.stack)
  frames = subst (λ gs. AreFrames rows s gs (length s.stack)) top h.frames

  low : ℕ
  low = min p.low f.low

  -- f leads to p
  to_below : LinkWalk rows (node_at s f.place) (node_at s p.place)
  to_below =
      let w : LinkWalk rows (node_at s f.place) (node_at s f.low) = frames.0.low_walk not_first in
      let u : f.place < length s.stack = frames.0.under in
      let b : p.place < f.place = frames.1.0.under in
      elim (cases_order f.low p.place) [
        | inl q ↦ subst (λ i. LinkWalk rows (node_at s f.place) (node_at s i)) q w
        | inr (inl k) ↦ joined w (h.up f.low p.place k (omega arith))
        | inr (inr k) ↦ joined w (frames.1.0.back f.low k not_first)
      ]

  back : (i : ℕ) → p.place < i → i < length s.stack → LinkWalk rows (node_at s i) (node_at s p.place)
  back i a b = elim (cases_order i f.place) [
    | inl q ↦ subst (λ j. LinkWalk rows (node_at s j) (node_at s p.place)) (sym q) to_below
    | inr (inl k) ↦ frames.1.0.back i a k
    | inr (inr k) ↦ joined (frames.0.back i k b) to_below
  ]

  low_walk : low < p.place → LinkWalk rows (node_at s p.place) (node_at s low)
  unfolding low
  low_walk l =
      let u : f.place < length s.stack = frames.0.under in
      let b : p.place < f.place = frames.1.0.under in
      elim (cases_lt f.low p.low) [
        | inl k ↦ (let q : min p.low f.low ≡ f.low = omega arith in
            subst (λ i. LinkWalk rows (node_at s p.place) (node_at s i)) (sym q) (joined (h.up p.place f.place b u) (frames.0.low_walk not_first)))
        | inr k ↦ (let q : min p.low f.low ≡ p.low = omega arith in
            subst (λ i. LinkWalk rows (node_at s p.place) (node_at s i)) (sym q) (frames.1.0.low_walk (omega arith)))
      ]

  others : (i k : ℕ) → p.place < i → i < length s.stack → k < length (row rows (node_at s i)) → IsVisitedFrom s low (get_or (row rows (node_at s i)) k 0)
  unfolding low
  others i k a b l = elim (cases_order i f.place) [
    | inl q ↦ subst (λ j. IsVisitedFrom s (min p.low f.low) (get_or (row rows (node_at s j)) k 0)) (sym q)
        (visited_from s (min p.low f.low) f.low (get_or (row rows (node_at s f.place)) k 0) (omega arith)
        (frames.0.own k (let m : k < length (row rows (node_at s f.place)) = subst (λ j. k < length (row rows (node_at s j))) q l in omega arith)))
    | inr (inl c) ↦ visited_from s (min p.low f.low) p.low (get_or (row rows (node_at s i)) k 0) (omega arith) (frames.1.0.others i k a c l)
    | inr (inr c) ↦ visited_from s (min p.low f.low) f.low (get_or (row rows (node_at s i)) k 0) (omega arith) (frames.0.others i k c b l)
  ]

  pub lower_keeps : IsSearchState rows (with_frames s (with_low p (min p.low f.low) ∷ fs))
  unfolding low
  lower_keeps = reframed rows s (with_low p (min p.low f.low) ∷ fs) h (
    record {
      under = (let a = frames.0.under in let b = frames.1.0.under in omega arith);
      low = (let a = frames.1.0.low in omega arith);
      low_walk = low_walk;
      next = frames.1.0.next;
      back = back;
      own = λ k l. visited_from s (min p.low f.low) p.low (get_or (row rows (node_at s p.place)) k 0) (omega arith) (frames.1.0.own k l);
      others = others;
    },
    frames.1.1,
  )
