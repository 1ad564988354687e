-- What is left to do grows less with each step.
use Rattle.std.proofs.Common.{◌≡◌, ℕ, zero, suc, ◌+◌, ◌*◌, ◌<◌, ◌≤◌, List, [], ◌∷◌, length, get_or, set, drop, Bool, refl, sym, ap, arith}
use Rattle.std.proofs.Math.Nat.{mul-le-mul_left}
use Rattle.fcg_order.specs.declared.search.Mark.{Mark}
use Rattle.fcg_order.specs.declared.search.Mark.TheVariants.{Unvisited, OnStack, Finished}
use Rattle.fcg_order.specs.declared.search.Frame.{Frame}
use Rattle.fcg_order.specs.Links.{row}
use Rattle.fcg_order.specs.Internal.Search.{SearchState, with_top, with_frames, after_enter, after_pop, after_link, frames_after_lower, set_all, link_count, unvisited_count, frame_work, work_left}

pub row_small : (rows : List (List ℕ)) (x : ℕ) → length (row rows x) ≤ link_count rows
row_small [] x = omega arith
row_small (r ∷ rows) zero = omega arith
row_small (r ∷ rows) (suc x) = let l : length (row rows x) ≤ link_count rows = row_small rows x in omega arith

unvisited_tail : (m : Mark) (ms ns : List Mark) → unvisited_count ms ≤ unvisited_count ns → unvisited_count (m ∷ ms) ≤ unvisited_count (m ∷ ns)
unvisited_tail Unvisited ms ns h = omega arith
unvisited_tail (OnStack i) ms ns h = h
unvisited_tail Finished ms ns h = h

unvisited_more : (m : Mark) (ms : List Mark) → unvisited_count ms ≤ unvisited_count (m ∷ ms)
unvisited_more Unvisited ms = omega arith
unvisited_more (OnStack i) ms = omega arith
unvisited_more Finished ms = omega arith

-- another mark makes no more unvisited nodes
unvisited_less : (ms : List Mark) (v : ℕ) (m : Mark) → ((ns : List Mark) → unvisited_count (m ∷ ns) ≡ unvisited_count ns) → unvisited_count (set ms v m) ≤ unvisited_count ms
unvisited_less [] v m o = omega arith
unvisited_less (n ∷ ms) zero m o = let a : unvisited_count (m ∷ ms) ≡ unvisited_count ms = o ms in let b : unvisited_count ms ≤ unvisited_count (n ∷ ms) = unvisited_more n ms in omega arith
unvisited_less (n ∷ ms) (suc v) m o = unvisited_tail n (set ms v m) ms (unvisited_less ms v m o)

pub unvisited_finished : (ms : List Mark) (vs : List ℕ) → unvisited_count (set_all ms vs Finished) ≤ unvisited_count ms
unvisited_finished ms [] = omega arith
unvisited_finished ms (v ∷ vs) =
    let a : unvisited_count (set_all (set ms v Finished) vs Finished) ≤ unvisited_count (set ms v Finished) = unvisited_finished (set ms v Finished) vs in
    let b : unvisited_count (set ms v Finished) ≤ unvisited_count ms = unvisited_less ms v Finished (λ ns. refl) in omega arith

unvisited_tail_one : (m : Mark) (ms ns : List Mark) → suc (unvisited_count ms) ≡ unvisited_count ns → suc (unvisited_count (m ∷ ms)) ≡ unvisited_count (m ∷ ns)
unvisited_tail_one Unvisited ms ns h = ap suc h
unvisited_tail_one (OnStack i) ms ns h = h
unvisited_tail_one Finished ms ns h = h

-- a node that is put on the stack is one unvisited one less
pub unvisited_on_stack : (ms : List Mark) (v i : ℕ) → v < length ms → get_or ms v Unvisited ≡ Unvisited → suc (unvisited_count (set ms v (OnStack i))) ≡ unvisited_count ms
unvisited_on_stack [] v i l e = absurd (omega arith)
unvisited_on_stack (n ∷ ms) zero i l e = ap (λ m. unvisited_count (m ∷ ms)) (sym e)
unvisited_on_stack (n ∷ ms) (suc v) i l e = unvisited_tail_one n (set ms v (OnStack i)) ms (unvisited_on_stack ms v i (omega arith) e)

-- ---- a step

pub work_old : (rows : List (List ℕ)) (s : SearchState) (f : Frame) (low : ℕ) → f.next < link_count rows → work_left rows (with_frames s (after_link f low ∷ s.frames)) < work_left rows (with_top f s)
work_old rows s f low l = omega arith

pub work_new : (rows : List (List ℕ)) (s : SearchState) (f : Frame) (v : ℕ) → f.next < link_count rows → v < length s.marks → get_or s.marks v Unvisited ≡ Unvisited
    → work_left rows (after_enter s v (after_link f f.low ∷ s.frames)) < work_left rows (with_top f s)
work_new rows s f v l b e =
    let n : suc (unvisited_count (set s.marks v (OnStack (length s.stack)))) ≡ unvisited_count s.marks = unvisited_on_stack s.marks v (length s.stack) b e in
    let m : ℕ = unvisited_count (set s.marks v (OnStack (length s.stack))) in
    let k : (link_count rows + 2) * suc m ≡ (link_count rows + 2) * unvisited_count s.marks = ap (λ x. (link_count rows + 2) * x) n in
    omega arith

frame_work_lowered : (k low : ℕ) (fs : List Frame) → frame_work k (frames_after_lower low fs) ≡ frame_work k fs
frame_work_lowered k low [] = refl
frame_work_lowered k low (f ∷ fs) = refl

pub work_lowered : (rows : List (List ℕ)) (s : SearchState) (f : Frame) (low : ℕ) → work_left rows (with_frames s (frames_after_lower low s.frames)) < work_left rows (with_top f s)
work_lowered rows s f low = let e = frame_work_lowered (link_count rows) low s.frames in omega arith

pub work_popped : (rows : List (List ℕ)) (s : SearchState) (f : Frame) (circular : List Bool) → work_left rows (after_pop s f.place s.frames circular) < work_left rows (with_top f s)
work_popped rows s f circular =
    let l : unvisited_count (set_all s.marks (drop f.place s.stack) Finished) ≤ unvisited_count s.marks = unvisited_finished s.marks (drop f.place s.stack) in
    let m = mul-le-mul_left (link_count rows + 2) l in
    omega arith
