-- Rows whose names and references are marked, and whose places are kept.
use Rattle.std.proofs.Common.{◌≡◌, ℕ, suc, ◌-◌, ◌+◌, ◌<◌, ◌≤◌, List, [], ◌∷◌, ◌++◌, length, refl, sym, ap, ◌∙◌, arith}
use Rattle.std.specs.Prelude.{Result, Ok, Err}
use Rattle.std.specs.List.{flat_map, AllZip}
use Rattle.fcg_grammar.specs.Rows.{rows}
use Rattle.fcg_grammar.proofs.RowLemmas.{with_front, rows_go_on, rows_end, rows_done}
use Rattle.fcg_partial.specs.declared.fault.RecordFault.{RecordFault}
use Rattle.fcg_partial.specs.Internal.UsedNumbers.{marked, UsedMarks, ReadAt}
use Rattle.fcg_partial.proofs.MarkLaws.{length_marked, marked_append}
use Rattle.fcg_partial.proofs.MarkRows.{flat_push}

module _ {A B : Type 0} (R : A → B → Type 0) where
  pub zip_push : (xs : List A) (ys : List B) (x : A) (y : B) → AllZip R xs ys → R x y → AllZip R (xs ++ x ∷ []) (ys ++ y ∷ [])
  zip_push [] [] x y all here = (here, tt)
  zip_push [] (b ∷ ys) x y all here = absurd all
  zip_push (a ∷ xs) [] x y all here = absurd all
  zip_push (a ∷ xs) (b ∷ ys) x y all here = (all.0, zip_push xs ys x y all.1 here)

  pub zip_append : (xs : List A) (ys : List B) (us : List A) (vs : List B) → AllZip R xs ys → AllZip R us vs → AllZip R (xs ++ us) (ys ++ vs)
  zip_append [] [] us vs all more = more
  zip_append [] (b ∷ ys) us vs all more = absurd all
  zip_append (a ∷ xs) [] us vs all more = absurd all
  zip_append (a ∷ xs) (b ∷ ys) us vs all more = (all.0, zip_append xs ys us vs all.1 more)

  pub zip_length : (xs : List A) (ys : List B) → AllZip R xs ys → length xs ≡ length ys
  zip_length [] [] all = refl
  zip_length [] (b ∷ ys) all = absurd all
  zip_length (a ∷ xs) [] all = absurd all
  zip_length (a ∷ xs) (b ∷ ys) all = ap suc (zip_length xs ys all.1)

module _ {X S : Type 0} (uses targets : X → List ℕ) (read : ℕ → S → Result (X × S) RecordFault) (place : S → ℕ) where
  -- so many rows were read
  pub record BothRows (count : ℕ) (start : S) (old : UsedMarks) (k : ℕ) (s : S) (now : UsedMarks) (places : List ℕ) : Type 0 where
    pub front : List X
    pub so_far : with_front front (rows read (count - k) k s) ≡ rows read count 0 start
    pub names : now.names ≡ marked old.names (flat_map uses front)
    pub refs : now.refs ≡ marked old.refs (flat_map targets front)
    pub placed : AllZip (ReadAt read place) places front

  pub both_names : {count : ℕ} {start : S} {old : UsedMarks} {k : ℕ} {s : S} {now : UsedMarks} {places : List ℕ} → BothRows count start old k s now places → length now.names ≡ length old.names
  both_names {count} {start} {old} {k} {s} {now} {places} b = ap length b.names ∙ length_marked old.names (flat_map uses b.front)

  pub both_refs : {count : ℕ} {start : S} {old : UsedMarks} {k : ℕ} {s : S} {now : UsedMarks} {places : List ℕ} → BothRows count start old k s now places → length now.refs ≡ length old.refs
  both_refs {count} {start} {old} {k} {s} {now} {places} b = ap length b.refs ∙ length_marked old.refs (flat_map targets b.front)

  unfoldable pub both_begin : (count : ℕ) (start : S) (old : UsedMarks) → BothRows count start old 0 start old []
  unfolding marked
  both_begin count start old = record { front = []; so_far = (let n : count - 0 ≡ count = omega arith in rw n (whole (rows read count 0 start))); names = refl; refs = refl; placed = tt }
    where
      whole : (r : Result (List X × S) RecordFault) → with_front [] r ≡ r
      whole (Ok x) = refl
      whole (Err f) = refl

  unfoldable pub both_more : (count : ℕ) (start : S) (old : UsedMarks) (k : ℕ) (s : S) (now : UsedMarks) (places : List ℕ) (x : X) (next : S) (new : UsedMarks) → k < count → read k s ≡ Ok (x, next) → new.names ≡ marked now.names (uses x) → new.refs ≡ marked now.refs (targets x)
      → BothRows count start old k s now places → BothRows count start old (k + 1) next new (places ++ place s ∷ [])
  both_more count start old k s now places x next new lt is names refs m = record {
    front = m.front ++ x ∷ [];
    so_far = rows_go_on read m.front count k s x next (rows read count 0 start) lt is m.so_far;
    names = names ∙ ap (λ (l : List _). marked l (uses x)) m.names ∙ sym (marked_append old.names (flat_map uses m.front) (uses x)) ∙ ap (marked old.names) (sym (flat_push uses m.front x));
    refs = refs ∙ ap (λ (l : List _). marked l (targets x)) m.refs ∙ sym (marked_append old.refs (flat_map targets m.front) (targets x)) ∙ ap (marked old.refs) (sym (flat_push targets m.front x));
    placed = zip_push (ReadAt read place) places m.front (place s) x m.placed (record { number = k; state = s; next = next; at_is = refl; read_is = is });
  }

  pub both_fail : (count : ℕ) (start : S) (old : UsedMarks) (k : ℕ) (s : S) (now : UsedMarks) (places : List ℕ) (f : RecordFault) → k < count → read k s ≡ Err f → BothRows count start old k s now places → rows read count 0 start ≡ Err f
  both_fail count start old k s now places f lt is m = rows_end read m.front count k s f (rows read count 0 start) lt is m.so_far

  pub both_done : (count : ℕ) (start : S) (old : UsedMarks) (k : ℕ) (s : S) (now : UsedMarks) (places : List ℕ) → count ≤ k → (m : BothRows count start old k s now places) → rows read count 0 start ≡ Ok (m.front, s)
  both_done count start old k s now places le m = rows_done read m.front count k s (rows read count 0 start) le m.so_far
