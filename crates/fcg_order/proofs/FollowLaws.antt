-- A link of the top frame is followed.
use Rattle.std.proofs.Common.{◌≡◌, ℕ, zero, suc, ◌<◌, ◌≤◌, List, [], ◌∷◌, length, get_or, min, refl, sym, subst, inl, inr, arith}
use Rattle.std.proofs.lemmas.List.{get_or-set_same}
use Rattle.std.proofs.lemmas.Bool.{cases_eq, cases_lt, cases_order}
use Rattle.fcg_order.specs.declared.search.Mark.TheVariants.{Unvisited, OnStack, Finished}
use Rattle.fcg_order.specs.declared.search.Frame.{Frame}
use Rattle.fcg_order.specs.Links.{row, HasLink, LinkWalk, first_link, next_link}
use Rattle.fcg_order.specs.Internal.Search.{SearchState, mark, node_at, IsVisitedFrom, IsFrame, AreFrames, IsSearchState, after_enter, with_frames, after_link}
use Rattle.fcg_order.proofs.FrameLaws.{SameStack, KeepsVisitedFrom, frame_kept, frames_kept}
use Rattle.fcg_order.proofs.EnterLaws.{enter_state, enter_keeps_visited, enter_stack}

-- other frames
pub reframed : (rows : List (List ℕ)) (s : SearchState) (fs : List Frame) → IsSearchState rows s → AreFrames rows s fs (length s.stack) → IsSearchState rows (with_frames s fs)
reframed rows s fs h a = record {
  marks_long = h.marks_long;
  circular_long = h.circular_long;
  on_stack = h.on_stack;
  place = h.place;
  up = h.up;
  frames = frames_kept rows s (with_frames s fs) fs (length s.stack) (λ i l. refl) (λ l w m. m) a;
  closed = h.closed;
  circle = h.circle;
  none = h.none;
  self = h.self;
  ordered = h.ordered;
  finished = h.finished;
  once = h.once;
  after = h.after;
}

pub visited_from : (s : SearchState) (l k w : ℕ) → l ≤ k → IsVisitedFrom s k w → IsVisitedFrom s l w
visited_from s l k w e (inl d) = inl d
visited_from s l k w e (inr r) = let q : k ≤ r.0 = r.1 in inr (r.0, omega arith, r.2)

pub frame_next : (rows : List (List ℕ)) (s : SearchState) (f : Frame) (u low : ℕ) → IsFrame rows s f u
    → f.next < length (row rows (node_at s f.place)) → low ≤ f.low → (low < f.place → LinkWalk rows (node_at s f.place) (node_at s low))
    → IsVisitedFrom s low (get_or (row rows (node_at s f.place)) f.next 0) → IsFrame rows s (after_link f low) u
frame_next rows s f u low g more_left less way visited = record {
  under = g.under;
  low = (let b = g.low in omega arith);
  low_walk = way;
  next = omega arith;
  back = g.back;
  own = λ k l. (elim (cases_eq k f.next) [
    | inl q ↦ subst (λ j. IsVisitedFrom s low (get_or (row rows (node_at s f.place)) j 0)) (sym q) visited
    | inr ne ↦ visited_from s low f.low (get_or (row rows (node_at s f.place)) k 0) less (g.own k (omega arith))
  ]);
  others = λ i k a b l. visited_from s low f.low (get_or (row rows (node_at s i)) k 0) less (g.others i k a b l);
}

module _ (rows : List (List ℕ)) (s : SearchState) (h : IsSearchState rows s) (f : Frame) (fs : List Frame) (top : s.frames ≡ f ∷ fs)
    (more_left : f.next < length (row rows (node_at s f.place))) where
  frames : AreFrames rows s (f ∷ fs) (length s.stack)
  frames = subst (λ gs. AreFrames rows s gs (length s.stack)) top h.frames

  abbrev pub v : ℕ
  v = get_or (row rows (node_at s f.place)) f.next 0

  pub leads : HasLink rows (node_at s f.place) v
  leads = (f.next, more_left, get_or_same (row rows (node_at s f.place)) f.next more_left)
    where
      get_or_same : (xs : List ℕ) (k : ℕ) → k < length xs → get_or xs k (get_or xs k 0) ≡ get_or xs k 0
      get_or_same [] k l = absurd (omega arith)
      get_or_same (x ∷ xs) zero l = refl
      get_or_same (x ∷ xs) (suc k) l = get_or_same xs k (omega arith)

  -- to a finished node
  pub follow_done : mark s v ≡ Finished → IsSearchState rows (with_frames s (after_link f f.low ∷ fs))
  follow_done e = reframed rows s (after_link f f.low ∷ fs) h (frame_next rows s f (length s.stack) f.low frames.0 more_left (omega arith) frames.0.low_walk (inl e), frames.1)

  -- to a node of the stack
  pub follow_open : (j : ℕ) → mark s v ≡ OnStack j → IsSearchState rows (with_frames s (after_link f (min f.low j) ∷ fs))
  follow_open j e =
      reframed rows s (after_link f (min f.low j) ∷ fs) h
      (frame_next rows s f (length s.stack) (min f.low j) frames.0 more_left (omega arith) way (inr (j, omega arith, e)), frames.1)
    where
      way : min f.low j < f.place → LinkWalk rows (node_at s f.place) (node_at s (min f.low j))
      way l = elim (cases_lt j f.low) [
        | inl k ↦ (let q : min f.low j ≡ j = omega arith in subst (λ i. LinkWalk rows (node_at s f.place) (node_at s i)) (sym q) (subst (LinkWalk rows (node_at s f.place)) (sym (h.place v j e).1) (first_link leads)))
        | inr k ↦ (let q : min f.low j ≡ f.low = omega arith in subst (λ i. LinkWalk rows (node_at s f.place) (node_at s i)) (sym q) (frames.0.low_walk (omega arith)))
      ]

  -- what stands on the stack leads to v
  all_lead : (i : ℕ) → i < length s.stack → LinkWalk rows (node_at s i) v
  all_lead i l = elim (cases_order i f.place) [
    | inl q ↦ subst (λ j. LinkWalk rows (node_at s j) v) (sym q) (first_link leads)
    | inr (inl k) ↦ next_link (h.up i f.place k frames.0.under) leads
    | inr (inr k) ↦ next_link (frames.0.back i k l) leads
  ]

  -- to an unvisited node
  pub follow_new : v < length rows → mark s v ≡ Unvisited → IsSearchState rows (after_enter s v (after_link f f.low ∷ fs))
  follow_new small e = enter_state rows s h v small e (after_link f f.low ∷ fs) all_lead (first, others)
    where
      t : SearchState
      t = after_enter s v (after_link f f.low ∷ fs)

      same : SameStack s t (length s.stack)
      same = enter_stack rows s h v small e (after_link f f.low ∷ fs)

      keeps : KeepsVisitedFrom s t
      keeps = enter_keeps_visited rows s h v small e (after_link f f.low ∷ fs)

      kept : IsFrame rows t f (length s.stack)
      kept = frame_kept rows s t f (length s.stack) same keeps frames.0

      here : node_at t f.place ≡ node_at s f.place
      here = same f.place frames.0.under

      opened : mark t v ≡ OnStack (length s.stack)
      opened = get_or-set_same s.marks v (OnStack (length s.stack)) Unvisited (let q = h.marks_long in omega arith)

      first : IsFrame rows t (after_link f f.low) (length s.stack)
      first = frame_next rows t f (length s.stack) f.low kept (subst (λ x. f.next < length (row rows x)) (sym here) more_left) (omega arith) kept.low_walk
          (subst (λ x. IsVisitedFrom t f.low (get_or (row rows x) f.next 0)) (sym here) (inr (length s.stack, (let a = frames.0.low in let b = frames.0.under in omega arith), opened)))

      others : AreFrames rows t fs f.place
      others = frames_kept rows s t fs f.place (λ i l. same i (let b = frames.0.under in omega arith)) keeps frames.1
