-- What stands between two steps of the depth-first search, and what each step makes of it.
use Rattle.std.specs.Prelude.{◌≡◌, ℕ, ◌+◌, ◌<◌, ◌≤◌, List, [], ◌∷◌, ◌++◌, reverse, suc, ◌*◌, ◌-◌, length, take, drop, Bool, true, false, slice_index_or, slice_set, min, Contains, ◌⊎◌, ◌==◌, if◌then◌else◌}
use Rattle.std.specs.List.{list_any}
use Rattle.fcg_order.specs.declared.search.Mark.{Mark}
use Rattle.fcg_order.specs.declared.search.Mark.TheVariants.{Unvisited, OnStack, Finished}
use Rattle.fcg_order.specs.declared.search.Frame.{Frame}
use Rattle.fcg_order.specs.declared.search.Search.{Search}
use Rattle.fcg_order.specs.Links.{row, HasLink, LinkWalk, IsCircular}

-- The code's search, with the frames from the top down.
pub record SearchState : Type 0 where
  pub marks : List Mark
  pub stack : List ℕ
  pub frames : List Frame
  pub order : List ℕ
  pub circular : List Bool

abbrev pub state_of : Search → SearchState
state_of s = record { marks = s.marks.items; stack = s.stack.items; frames = reverse s.frames.items; order = s.order.items; circular = s.circular.items }

-- the mark of a node
abbrev pub mark : SearchState → ℕ → Mark
mark s v = slice_index_or s.marks v Unvisited

-- the node at a place of the stack
abbrev pub node_at : SearchState → ℕ → ℕ
node_at s i = slice_index_or s.stack i 0

-- whether a node is marked as circular
abbrev pub is_marked : SearchState → ℕ → Bool
is_marked s v = slice_index_or s.circular v false

-- ---- what holds between two steps
-- w is finished, or stands on the stack at a place from l on
abbrev pub IsVisitedFrom : SearchState → ℕ → ℕ → Type 0
IsVisitedFrom s l w = (mark s w ≡ Finished) ⊎ ((j : ℕ) × (l ≤ j) × (mark s w ≡ OnStack j))

-- A frame, with what stands on the stack from its place on, up to the place u of the next frame.
pub record IsFrame (rows : List (List ℕ)) (s : SearchState) (f : Frame) (u : ℕ) : Type 0 where
  pub under : f.place < u
  pub low : f.low ≤ f.place
  pub low_walk : f.low < f.place → LinkWalk rows (node_at s f.place) (node_at s f.low)
  pub next : f.next ≤ length (row rows (node_at s f.place))
  -- the other nodes lead back to the frame's
  pub back : (i : ℕ) → f.place < i → i < u → LinkWalk rows (node_at s i) (node_at s f.place)
  -- the links of the frame's node before the next, and all links of the others, lead to no place below the frame's low
  pub own : (k : ℕ) → k < f.next → IsVisitedFrom s f.low (slice_index_or (row rows (node_at s f.place)) k 0)
  pub others : (i k : ℕ) → f.place < i → i < u → k < length (row rows (node_at s i)) → IsVisitedFrom s f.low (slice_index_or (row rows (node_at s i)) k 0)

-- frames from the top down, the last of which is at the bottom of the stack
abbrev pub AreFrames : List (List ℕ) → SearchState → List Frame → ℕ → Type 0
AreFrames rows s [] u = u ≡ 0
AreFrames rows s (f ∷ fs) u = IsFrame rows s f u × AreFrames rows s fs f.place

pub record IsSearchState (rows : List (List ℕ)) (s : SearchState) : Type 0 where
  pub marks_long : length s.marks ≡ length rows
  pub circular_long : length s.circular ≡ length rows
  -- the stack and the marks agree
  pub on_stack : (i : ℕ) → i < length s.stack → mark s (node_at s i) ≡ OnStack i
  pub place : (v i : ℕ) → mark s v ≡ OnStack i → (i < length s.stack) × (node_at s i ≡ v)
  -- each node of the stack leads to what stands after it
  pub up : (i j : ℕ) → i < j → j < length s.stack → LinkWalk rows (node_at s i) (node_at s j)
  pub frames : AreFrames rows s s.frames (length s.stack)
  -- finished nodes link to finished nodes alone
  pub closed : (v w : ℕ) → mark s v ≡ Finished → HasLink rows v w → mark s w ≡ Finished
  -- the nodes marked as circular are, and of the finished ones all that are; what links to itself is from the start
  pub circle : (v : ℕ) → is_marked s v ≡ true → IsCircular rows v
  pub none : (v : ℕ) → mark s v ≡ Finished → is_marked s v ≡ false → ¬ IsCircular rows v
  pub self : (v : ℕ) → is_marked s v ≡ false → ¬ HasLink rows v v
  -- the order has the finished nodes, each once, and each that isn't circular after all to which it links
  pub ordered : (v : ℕ) → mark s v ≡ Finished → Contains s.order v
  pub finished : (k : ℕ) → k < length s.order → mark s (slice_index_or s.order k 0) ≡ Finished
  pub once : (j k : ℕ) → j < k → k < length s.order → ¬ (slice_index_or s.order j 0 ≡ slice_index_or s.order k 0)
  pub after : (k y : ℕ) → k < length s.order → is_marked s (slice_index_or s.order k 0) ≡ false → HasLink rows (slice_index_or s.order k 0) y → Contains (take k s.order) y

-- a mark for each node that links to itself
pub record AreSelfLinks (rows : List (List ℕ)) (marks : List Bool) : Type 0 where
  pub long : length marks ≡ length rows
  pub each : (v : ℕ) → v < length rows → slice_index_or marks v false ≡ list_any (λ w. w == v) (row rows v)

-- ---- the steps
-- one value at each of these places
abbrev pub set_all : {X : Type 0} → List X → List ℕ → X → List X
set_all xs [] x = xs
set_all xs (v ∷ vs) x = set_all (slice_set xs v x) vs x

-- with other frames
abbrev pub with_frames : SearchState → List Frame → SearchState
with_frames s fs = record { marks = s.marks; stack = s.stack; frames = fs; order = s.order; circular = s.circular }

-- with a frame that was taken off the top
abbrev pub with_top : Frame → SearchState → SearchState
with_top f s = record { marks = s.marks; stack = s.stack; frames = f ∷ s.frames; order = s.order; circular = s.circular }

-- v is put on the stack, with a frame above these
abbrev pub after_enter : SearchState → ℕ → List Frame → SearchState
after_enter s v fs = record {
  marks = slice_set s.marks v (OnStack (length s.stack));
  stack = s.stack ++ (v ∷ []);
  frames = record { place = length s.stack; next = 0; low = length s.stack } ∷ fs;
  order = s.order;
  circular = s.circular;
}

-- a frame with one more link followed, and another low
abbrev pub after_link : Frame → ℕ → Frame
after_link f low = record { place = f.place; next = f.next + 1; low = low }

-- a link of f to the node v, which has this mark, is followed
abbrev pub after_follow : Mark → SearchState → Frame → ℕ → SearchState
after_follow Unvisited s f v = after_enter s v (after_link f f.low ∷ s.frames)
after_follow (OnStack i) s f v = with_frames s (after_link f (min f.low i) ∷ s.frames)
after_follow Finished s f v = with_frames s (after_link f f.low ∷ s.frames)

-- the top frame has no higher low than this
abbrev pub frames_after_lower : ℕ → List Frame → List Frame
frames_after_lower low [] = []
frames_after_lower low (p ∷ fs) = record { place = p.place; next = p.next; low = min p.low low } ∷ fs

-- what stands on the stack from n on is finished
abbrev pub after_pop : SearchState → ℕ → List Frame → List Bool → SearchState
after_pop s n fs circular = record {
  marks = set_all s.marks (drop n s.stack) Finished;
  stack = take n s.stack;
  frames = fs;
  order = s.order ++ drop n s.stack;
  circular = circular;
}

-- a component of one node keeps the mark that it has; the nodes of a larger one are circular
abbrev pub circles_after_pop : SearchState → ℕ → List Bool
circles_after_pop s n = if length s.stack == n + 1 then s.circular else set_all s.circular (drop n s.stack) true

abbrev pub after_pop_component : SearchState → ℕ → SearchState
after_pop_component s n = after_pop s n s.frames (circles_after_pop s n)

-- the marks of circular nodes are right of what stands on the stack from n on too
pub record AreMarksAfterPop (rows : List (List ℕ)) (s : SearchState) (n : ℕ) (circular : List Bool) : Type 0 where
  pub long : length circular ≡ length rows
  pub circle : (v : ℕ) → slice_index_or circular v false ≡ true → IsCircular rows v
  pub was : (v : ℕ) → slice_index_or circular v false ≡ false → is_marked s v ≡ false
  pub none : (i : ℕ) → n ≤ i → i < length s.stack → slice_index_or circular (node_at s i) false ≡ false → ¬ IsCircular rows (node_at s i)

-- ---- what is left to do: for each unvisited node a step for each link and two more, and for each frame its links
abbrev pub link_count : List (List ℕ) → ℕ
link_count [] = 0
link_count (r ∷ rows) = length r + link_count rows

abbrev pub unvisited_count : List Mark → ℕ
unvisited_count [] = 0
unvisited_count (Unvisited ∷ ms) = suc (unvisited_count ms)
unvisited_count (OnStack i ∷ ms) = unvisited_count ms
unvisited_count (Finished ∷ ms) = unvisited_count ms

abbrev pub frame_work : ℕ → List Frame → ℕ
frame_work k [] = 0
frame_work k (f ∷ fs) = suc ((k - f.next) + frame_work k fs)

abbrev pub work_left : List (List ℕ) → SearchState → ℕ
work_left rows s = (link_count rows + 2) * unvisited_count s.marks + frame_work (link_count rows) s.frames

-- ---- what is left behind
-- no visited node is unvisited again
abbrev pub KeepsVisited : SearchState → SearchState → Type 0
KeepsVisited s t = (v : ℕ) → mark t v ≡ Unvisited → mark s v ≡ Unvisited

-- by a step with the frame f
pub record IsStep (rows : List (List ℕ)) (s t : SearchState) (f : Frame) : Type 0 where
  pub state : IsSearchState rows t
  pub less : work_left rows t < work_left rows (with_top f s)
  pub keeps : KeepsVisited s t

-- by a search from a node
pub record IsSearchFrom (rows : List (List ℕ)) (s t : SearchState) (root : ℕ) : Type 0 where
  pub state : IsSearchState rows t
  pub ended : t.frames ≡ []
  pub keeps : KeepsVisited s t
  pub visited : ¬ (mark t root ≡ Unvisited)
