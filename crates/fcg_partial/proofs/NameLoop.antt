-- The loop over the names.
use Rattle.std.proofs.Common.{◌≡◌, ℕ, zero, suc, ◌+◌, ◌-◌, ◌<◌, ◌≤◌, List, [], ◌∷◌, ◌++◌, length, get_or, drop, sym, ap, ◌∙◌, arith}
use Rattle.std.specs.Prelude.{map, Result, Ok, Err}
use Rattle.std.specs.List.{AllByRecursion}
use Rattle.fcg_grammar.specs.Reading.{seen}
use Rattle.fcg_grammar.specs.Rows.{rows}
use Rattle.fcg_grammar.proofs.RowLemmas.{with_front, rows_go_on, rows_end}
use Rattle.fcg_partial.specs.declared.fault.RecordFault.{RecordFault}
use Rattle.std.proofs.lemmas.List.{length-take, length-drop}
use Rattle.fcg_grammar.specs.Number.{u2, part}
use Rattle.fcg_partial.specs.Reading.{TablePlace, name_at, name_place}
use Rattle.fcg_partial.specs.Internal.RowPlaces.{text_at, HasText, Follow, after_row}
use Rattle.fcg_grammar.proofs.Among.{map_append}

abbrev pub rows_end_at : Result (List (List ℕ) × TablePlace) RecordFault → Result (List (List ℕ) × ℕ) RecordFault
rows_end_at read = seen (λ x. (x.0, x.1.at)) read

pub names_go_on : (bytes places : List ℕ) (count k : ℕ) (s : TablePlace) (x : List ℕ) (after : ℕ) (total : Result (List (List ℕ) × TablePlace) RecordFault) → k < count → Ok (x, after_row after x) ≡ name_at bytes k s → text_at bytes s.at ≡ x
    → with_front (map (text_at bytes) places) (rows (name_at bytes) (count - k) k s) ≡ total → with_front (map (text_at bytes) (places ++ s.at ∷ [])) (rows (name_at bytes) (count - (k + 1)) (k + 1) (after_row after x)) ≡ total
names_go_on bytes places count k s x after total lt h text so_far =
    let front : map (text_at bytes) (places ++ s.at ∷ []) ≡ map (text_at bytes) places ++ x ∷ [] = map_append (text_at bytes) places (s.at ∷ []) ∙ ap (λ (y : List ℕ). map (text_at bytes) places ++ y ∷ []) text in
    rw front (rows_go_on (name_at bytes) (map (text_at bytes) places) count k s x (after_row after x) total lt (sym h) so_far)

pub names_end : (bytes places : List ℕ) (count k : ℕ) (s : TablePlace) (f : RecordFault) (total : Result (List (List ℕ) × TablePlace) RecordFault) → k < count → Err f ≡ name_at bytes k s
    → with_front (map (text_at bytes) places) (rows (name_at bytes) (count - k) k s) ≡ total → rows_end_at total ≡ Err f
names_end bytes places count k s f total lt h so_far = ap rows_end_at (rows_end (name_at bytes) (map (text_at bytes) places) count k s f total lt (sym h) so_far)

pub all_push : {X : Type 0} (P : X → Type 0) (xs : List X) (x : X) → AllByRecursion P xs → P x → AllByRecursion P (xs ++ x ∷ [])
all_push P [] x all here = (here, tt)
all_push P (y ∷ xs) x all here = (all.0, all_push P xs x all.1 here)

pub follow_push : (bytes : List ℕ) (at : ℕ) (places : List ℕ) (end next : ℕ) → Follow bytes at places end → next ≡ end + 2 + u2 bytes end → Follow bytes at (places ++ end ∷ []) next
follow_push bytes at [] end next f e = (sym f, ap (λ (n : ℕ). n + 2 + u2 bytes n) f ∙ sym e)
follow_push bytes at (p ∷ places) end next f e = (f.0, follow_push bytes (at + 2 + u2 bytes at) places end next f.1 e)

-- so the name of a number stands where the definition says
pub follow_place : (bytes : List ℕ) (at : ℕ) (places : List ℕ) (end k d : ℕ) → Follow bytes at places end → AllByRecursion (HasText bytes) places → k < length places → get_or places k d + 10 ≡ at + name_place (map (text_at bytes) places) k
follow_place bytes at [] end k d f all lt = absurd (omega arith)
follow_place bytes at (p ∷ places) end zero d f all lt = ap (λ (n : ℕ). n + 10) f.0
follow_place bytes at (p ∷ places) end (suc k) d f all lt =
    let long : length (text_at bytes p) ≡ u2 bytes p = part_long bytes (p + 2) (u2 bytes p) all.0 in
    let rest = follow_place bytes (at + 2 + u2 bytes at) places end k d f.1 all.1 (omega arith) in
    let here : u2 bytes p ≡ u2 bytes at = ap (u2 bytes) f.0 in
    rest ∙ moved at (u2 bytes at) (length (text_at bytes p)) (name_place (map (text_at bytes) places) k) (long ∙ here)
  where
    moved : (a b c d : ℕ) → c ≡ b → a + 2 + b + d ≡ a + (2 + c + d)
    moved a b c d e = omega arith

    part_long : (bytes : List ℕ) (at n : ℕ) → at + n ≤ length bytes → length (part bytes at n) ≡ n
    part_long bytes at n le = omega (arith, length-take n (drop at bytes), length-drop at bytes)
