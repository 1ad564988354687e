-- A stored graph that is read with its marks: the rows, and then what is left to check.
use Rattle.std.proofs.Common.{◌≡◌, ℕ, zero, suc, ◌+◌, ◌*◌, ◌<◌, Bool, true, false, ◌||◌, List, [], ◌∷◌, length, get_or, refl, sym, ap, ◌∙◌, arith}
use Rattle.std.specs.Prelude.{Result, Ok, Err, replicate, map, ◌==◌}
use Rattle.std.specs.List.{flat_map, list_any}
use Rattle.fcg_grammar.specs.declared.error.ReadError.{ReadError}
use Rattle.fcg_grammar.specs.declared.error.ReadError.TheVariants as errors
use Rattle.fcg_grammar.specs.Reading.{◌>>=◌, Fails, seen}
use Rattle.fcg_grammar.specs.Rows.{rows}
use Rattle.fcg_grammar.proofs.LawLemmas.{bind_ok}
use Rattle.fcg_grammar.proofs.Standing.{ok_is}
use Rattle.fcg_partial.specs.declared.fault.RecordFault.{RecordFault}
use Rattle.fcg_partial.specs.declared.fault.RecordRule.TheVariants.{Trailing}
use Rattle.fcg_partial.specs.Fault.{fault, u2_at, u4_at}
use Rattle.fcg_partial.specs.Graph.{Graph, StoredType, type_uses, type_targets, name_uses, ref_uses_of}
use Rattle.fcg_partial.specs.Internal.UsedNumbers.{marked, Marked, first_unmarked, refs_read, refs_uses, types_read}
use Rattle.fcg_partial.specs.Internal.RowPlaces.{first_row}
use Rattle.fcg_partial.specs.Reading.{TablePlace, ref_at, names_at, refs_at, types_at, unused_at, unused_from, name_place, finished, graph_with, graph_at}
use Rattle.fcg_partial.proofs.MarkLaws.{length_marked, marked_append, marked_is, first_is_unused}
use Rattle.fcg_partial.proofs.SeenLaws.{seen_ok, seen_err}

pub rows_many : {X S : Type 0} (read : ℕ → S → Result (X × S) RecordFault) (n k : ℕ) (s : S) (x : List X × S) → rows read n k s ≡ Ok x → length x.0 ≡ n
rows_many read zero k s x e = ap (λ (y : List _ × _). length y.0) (sym (ok_is ([], s) x e))
rows_many read (suc n) k s x e =
    let a = bind_ok (read k s) _ x e in
    let b = bind_ok (rows read n (k + 1) a.0.1) _ x a.2 in
    let made = ok_is (a.0.0 ∷ b.0.0, b.0.1) x b.2 in
    ap (λ (y : List _ × _). length y.0) (sym made) ∙ ap suc (rows_many read n (k + 1) a.0.1 b.0 b.1)

none_marked : (n j : ℕ) → get_or (replicate n false) j false ≡ false
none_marked zero j = refl
none_marked (suc n) zero = refl
none_marked (suc n) (suc j) = none_marked n j

pub length_replicate : (n : ℕ) → length (replicate n false) ≡ n
length_replicate zero = refl
length_replicate (suc n) = ap suc (length_replicate n)

-- the first number without a mark is the first that isn't used
pub unmarked_unused : (n : ℕ) (uses : List ℕ) (marks : List Bool) → marks ≡ marked (replicate n false) uses → first_unmarked marks 0 ≡ unused_from uses n 0
unmarked_unused n uses marks e =
    let falses = replicate n false in
    let long : length (marked falses uses) ≡ n = length_marked falses uses ∙ length_replicate n in
    ap (λ (m : List Bool). first_unmarked m 0) e
    ∙ first_is_unused uses (marked falses uses) 0 (λ j lt. marked_is falses uses j (below j lt long) ∙ ap (λ (b : Bool). b || list_any (λ u. u == j) uses) (none_marked n j) ∙ at_zero j)
    ∙ ap (λ (m : ℕ). unused_from uses m 0) long
  where
    below : (j : ℕ) → j < length (marked (replicate n false) uses) → length (marked (replicate n false) uses) ≡ n → j < length (replicate n false)
    below j lt long = let same = length_replicate n in omega arith

    at_zero : (j : ℕ) → list_any (λ u. u == j) uses ≡ list_any (λ u. u == j + 0) uses
    at_zero j = let z : j ≡ j + 0 = omega arith in ap (λ (i : ℕ). list_any (λ u. u == i) uses) z

module _ (bytes : List ℕ) (names : List (List ℕ)) (at_refs : ℕ)
    (magic : u4_at bytes 0 ≡ Ok 0x46434752) (version : u2_at bytes 4 ≡ Ok 1) (names_is : names_at bytes 6 ≡ Ok (names, at_refs)) where
  pub no_ref_count : (f : RecordFault) → Err f ≡ u4_at bytes at_refs → graph_at bytes ≡ Err f
  unfolding graph_at refs_at
  no_ref_count f e = rw (magic, version, names_is, sym e) refl

  pub refs_fail : (count : ℕ) (f : RecordFault) → Ok count ≡ u4_at bytes at_refs → refs_read bytes (length names) count (first_row (at_refs + 4)) ≡ Err f → graph_at bytes ≡ Err f
  unfolding graph_at refs_at
  refs_fail count f e h = rw (magic, version, names_is, sym e, seen_err {Y = List (List ℕ) × ℕ} (λ x. (x.0, x.1.at)) (rows (ref_at bytes (length names)) count 0 (first_row (at_refs + 4))) f h) refl

module _ (bytes : List ℕ) (names : List (List ℕ)) (at_refs count after_refs : ℕ) (one : List Bool)
    (magic : u4_at bytes 0 ≡ Ok 0x46434752) (version : u2_at bytes 4 ≡ Ok 1) (names_is : names_at bytes 6 ≡ Ok (names, at_refs))
    (count_is : u4_at bytes at_refs ≡ Ok count) (refs : Marked refs_uses (refs_read bytes (length names) count (first_row (at_refs + 4))) (replicate (length names) false) after_refs one) where
  ended_rows : (r : Result (List (List ℕ) × TablePlace) RecordFault) → seen {Y = List (List ℕ) × ℕ} (λ x. (x.0, x.1.at)) r ≡ Ok (refs.value, after_refs) → (s : TablePlace) × (r ≡ Ok (refs.value, s)) × (s.at ≡ after_refs)
  ended_rows r e =
      let m = seen_ok {Y = List (List ℕ) × ℕ} (λ x. (x.0, x.1.at)) r (refs.value, after_refs) e in
      (m.0.1, m.1 ∙ ap (λ (y : List (List ℕ) × ℕ). Ok (y.0, m.0.1)) m.2, ap (λ (y : List (List ℕ) × ℕ). y.1) m.2)

  refs_rows : (s : TablePlace) × (rows (ref_at bytes (length names)) count 0 (first_row (at_refs + 4)) ≡ Ok (refs.value, s)) × (s.at ≡ after_refs)
  refs_rows = ended_rows (rows (ref_at bytes (length names)) count 0 (first_row (at_refs + 4))) refs.read_is

  pub refs_long : length refs.value ≡ count
  refs_long = rows_many (ref_at bytes (length names)) count 0 (first_row (at_refs + 4)) (refs.value, refs_rows.0) refs_rows.1

  pub refs_are : refs_at bytes (length names) at_refs ≡ Ok (refs.value, after_refs)
  unfolding refs_at
  refs_are = rw (count_is, refs_rows.1) (ap (λ (n : ℕ). Ok (refs.value, n)) refs_rows.2)

  pub no_type_count : (f : RecordFault) → Err f ≡ u4_at bytes after_refs → graph_at bytes ≡ Err f
  unfolding graph_at types_at
  no_type_count f e = rw (magic, version, names_is, refs_are, sym e) refl

  module _ (type_count : ℕ) (type_count_is : u4_at bytes after_refs ≡ Ok type_count) where
    abbrev left : Result (List StoredType × ℕ) RecordFault → Result Graph RecordFault
    left read = read >>= λ t. finished bytes at_refs t.1 (graph_with names refs.value t.0)

    chain : graph_at bytes ≡ left (types_read bytes (length names) (length refs.value) type_count (after_refs + 4))
    unfolding graph_at types_at
    chain = rw (magic, version, names_is, refs_are, type_count_is) refl

    types_counted : types_read bytes (length names) (length refs.value) type_count (after_refs + 4) ≡ types_read bytes (length names) count type_count (after_refs + 4)
    types_counted = ap (λ (n : ℕ). types_read bytes (length names) n type_count (after_refs + 4)) refs_long

    pub types_fail : (e : ReadError RecordFault) → Fails e (types_read bytes (length names) count type_count (after_refs + 4)) → Fails e (graph_at bytes)
    types_fail errors.NoMemory h = tt
    types_fail (errors.Fault f) h = chain ∙ ap left (types_counted ∙ h)

    module _ (types : List StoredType) (end : ℕ) (types_is : types_read bytes (length names) count type_count (after_refs + 4) ≡ Ok (types, end)) (two refs_marks : List Bool)
        (two_is : two ≡ marked one (flat_map type_uses types)) (refs_marks_are : refs_marks ≡ marked (replicate count false) (flat_map type_targets types)) where
      abbrev pub graph : Graph
      graph = graph_with names refs.value types

      pub left_is : graph_at bytes ≡ finished bytes at_refs end graph
      left_is = chain ∙ ap left (types_counted ∙ types_is)

      pub names_unused : first_unmarked two 0 ≡ unused_from (name_uses graph) (length names) 0
      names_unused = unmarked_unused (length names) (name_uses graph) two (two_is ∙ ap (λ (m : List Bool). marked m (flat_map type_uses types)) refs.marks ∙ sym (marked_append (replicate (length names) false) (refs_uses refs.value) (flat_map type_uses types)))

      pub refs_unused : first_unmarked refs_marks 0 ≡ unused_from (ref_uses_of graph) (length refs.value) 0
      refs_unused = unmarked_unused count (ref_uses_of graph) refs_marks refs_marks_are ∙ ap (λ (n : ℕ). unused_from (ref_uses_of graph) n 0) (sym refs_long)

      pub trailing : (end == length bytes) ≡ false → graph_at bytes ≡ Err (fault end Trailing)
      trailing e = left_is ∙ rw e refl

      pub unused_name : (f : RecordFault) → (end == length bytes) ≡ true → Err f ≡ unused_at (name_place names) (first_unmarked two 0) → graph_at bytes ≡ Err f
      unused_name f e h = left_is ∙ rw (e, sym (h ∙ ap (unused_at (name_place names)) names_unused)) refl

      pub unused_ref : (f : RecordFault) → (end == length bytes) ≡ true → Ok tt ≡ unused_at (name_place names) (first_unmarked two 0) → Err f ≡ unused_at (λ k. at_refs + 4 + 13 * k) (first_unmarked refs_marks 0) → graph_at bytes ≡ Err f
      unused_ref f e h r = left_is ∙ rw (e, sym (h ∙ ap (unused_at (name_place names)) names_unused), sym (r ∙ ap (unused_at (λ k. at_refs + 4 + 13 * k)) refs_unused)) refl

      pub all_used : (end == length bytes) ≡ true → Ok tt ≡ unused_at (name_place names) (first_unmarked two 0) → Ok tt ≡ unused_at (λ k. at_refs + 4 + 13 * k) (first_unmarked refs_marks 0) → graph_at bytes ≡ Ok graph
      all_used e h r = left_is ∙ rw (e, sym (h ∙ ap (unused_at (name_place names)) names_unused), sym (r ∙ ap (unused_at (λ k. at_refs + 4 + 13 * k)) refs_unused)) refl

pub length_map : {X Y : Type 0} (f : X → Y) (xs : List X) → length (map f xs) ≡ length xs
length_map f [] = refl
length_map f (x ∷ xs) = ap suc (length_map f xs)
