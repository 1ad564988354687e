-- What stays from one state to another.
use Rattle.std.proofs.Common.{◌≡◌, ℕ, ◌<◌, List, [], ◌∷◌, length, get_or, ap, subst, arith}
use Rattle.fcg_order.specs.declared.search.Mark.{Mark}
use Rattle.fcg_order.specs.declared.search.Mark.TheVariants.{Unvisited, OnStack, Finished}
use Rattle.fcg_order.specs.declared.search.Frame.{Frame}
use Rattle.fcg_order.specs.Links.{row}
use Rattle.fcg_order.specs.Internal.Search.{SearchState, node_at, IsVisitedFrom, IsFrame, AreFrames}

-- the place that a mark has, else a number of the caller's
pub place_of : Mark → ℕ → ℕ
place_of Unvisited d = d
place_of (OnStack i) d = i
place_of Finished d = d

pub same_place : (i j : ℕ) → OnStack i ≡ OnStack j → i ≡ j
unfolding place_of
same_place i j e = ap (λ m. place_of m 0) e

-- the same stack below u
abbrev pub SameStack : SearchState → SearchState → ℕ → Type 0
SameStack s t u = (i : ℕ) → i < u → node_at t i ≡ node_at s i

-- what is visited stays so
abbrev pub KeepsVisitedFrom : SearchState → SearchState → Type 0
KeepsVisitedFrom s t = (l w : ℕ) → IsVisitedFrom s l w → IsVisitedFrom t l w

pub frame_kept : (rows : List (List ℕ)) (s t : SearchState) (f : Frame) (u : ℕ) → SameStack s t u → KeepsVisitedFrom s t → IsFrame rows s f u → IsFrame rows t f u
frame_kept rows s t f u p k g = record {
  under = g.under;
  low = g.low;
  low_walk = λ l. (let d : node_at t f.low ≡ node_at s f.low = p f.low (omega (arith, g.under)) in rw (e, d) (g.low_walk l));
  next = rw e g.next;
  back = λ i a b. (let d : node_at t i ≡ node_at s i = p i b in rw (e, d) (g.back i a b));
  own = λ j l. rw e (k f.low (get_or (row rows (node_at s f.place)) j 0) (g.own j l));
  others = λ i j a b l. (let d : node_at t i ≡ node_at s i = p i b in rw d (k f.low (get_or (row rows (node_at s i)) j 0) (g.others i j a b (subst (λ x. j < length (row rows x)) d l))));
}
  where
    e : node_at t f.place ≡ node_at s f.place
    e = p f.place g.under

pub frames_kept : (rows : List (List ℕ)) (s t : SearchState) (fs : List Frame) (u : ℕ) → SameStack s t u → KeepsVisitedFrom s t → AreFrames rows s fs u → AreFrames rows t fs u
frames_kept rows s t [] u p k h = h
frames_kept rows s t (f ∷ fs) u p k h =
    let l : f.place < u = h.0.under in
    (frame_kept rows s t f u p k h.0, frames_kept rows s t fs f.place (λ i j. p i (omega arith)) k h.1)
