-- Rows whose numbers are marked, one after the other.
use Rattle.std.proofs.Common.{◌≡◌, ℕ, ◌-◌, ◌+◌, ◌<◌, ◌≤◌, Bool, List, [], ◌∷◌, ◌++◌, length, refl, sym, ap, ◌∙◌, append_assoc, arith}
use Rattle.std.specs.Prelude.{Result, Ok, Err}
use Rattle.std.specs.List.{flat_map}
use Rattle.std.proofs.lemmas.List.{append-nil}
use Rattle.std.proofs.lemmas.List.Concat.{flat_map-cons}
use Rattle.fcg_grammar.specs.Rows.{rows}
use Rattle.fcg_grammar.proofs.RowLemmas.{with_front, rows_go_on, rows_end, rows_done}
use Rattle.fcg_partial.specs.declared.fault.RecordFault.{RecordFault}
use Rattle.fcg_partial.specs.Internal.UsedNumbers.{marked}
use Rattle.fcg_partial.proofs.MarkLaws.{length_marked, marked_append}

pub flat_push : {X : Type 0} (f : X → List ℕ) (xs : List X) (x : X) → flat_map f (xs ++ x ∷ []) ≡ flat_map f xs ++ f x
flat_push f [] x = flat_map-cons f x [] ∙ append-nil (f x)
flat_push f (y ∷ xs) x = flat_map-cons f y (xs ++ x ∷ []) ∙ ap (λ (l : List ℕ). f y ++ l) (flat_push f xs x) ∙ sym (append_assoc (f y) (flat_map f xs) (f x)) ∙ ap (λ (l : List ℕ). l ++ f x) (sym (flat_map-cons f y xs))

module _ {X S : Type 0} (uses : X → List ℕ) (read : ℕ → S → Result (X × S) RecordFault) where
  -- so many rows were read, and their numbers are marked
  pub record MarkedRows (count : ℕ) (start : S) (old : List Bool) (k : ℕ) (s : S) (now : List Bool) : Type 0 where
    pub front : List X
    pub so_far : with_front front (rows read (count - k) k s) ≡ rows read count 0 start
    pub marks : now ≡ marked old (flat_map uses front)

  pub marks_long : {count : ℕ} {start : S} {old : List Bool} {k : ℕ} {s : S} {now : List Bool} → MarkedRows count start old k s now → length now ≡ length old
  marks_long {count} {start} {old} {k} {s} {now} m = ap length m.marks ∙ length_marked old (flat_map uses m.front)

  pub mark_begin : (count : ℕ) (start : S) (old : List Bool) → MarkedRows count start old 0 start old
  unfolding marked
  mark_begin count start old = record { front = []; so_far = (let n : count - 0 ≡ count = omega arith in rw n (whole (rows read count 0 start))); marks = refl }
    where
      whole : (r : Result (List X × S) RecordFault) → with_front [] r ≡ r
      whole (Ok x) = refl
      whole (Err f) = refl

  pub mark_more : (count : ℕ) (start : S) (old : List Bool) (k : ℕ) (s : S) (now : List Bool) (x : X) (next : S) (new : List Bool) → k < count → read k s ≡ Ok (x, next) → new ≡ marked now (uses x)
      → MarkedRows count start old k s now → MarkedRows count start old (k + 1) next new
  mark_more count start old k s now x next new lt is marks m = record {
    front = m.front ++ x ∷ [];
    so_far = rows_go_on read m.front count k s x next (rows read count 0 start) lt is m.so_far;
    marks = marks ∙ ap (λ (l : List Bool). marked l (uses x)) m.marks ∙ sym (marked_append old (flat_map uses m.front) (uses x)) ∙ ap (marked old) (sym (flat_push uses m.front x));
  }

  pub mark_fail : (count : ℕ) (start : S) (old : List Bool) (k : ℕ) (s : S) (now : List Bool) (f : RecordFault) → k < count → read k s ≡ Err f → MarkedRows count start old k s now → rows read count 0 start ≡ Err f
  mark_fail count start old k s now f lt is m = rows_end read m.front count k s f (rows read count 0 start) lt is m.so_far

  pub mark_done : (count : ℕ) (start : S) (old : List Bool) (k : ℕ) (s : S) (now : List Bool) → count ≤ k → (m : MarkedRows count start old k s now) → rows read count 0 start ≡ Ok (m.front, s)
  mark_done count start old k s now le m = rows_done read m.front count k s (rows read count 0 start) le m.so_far
