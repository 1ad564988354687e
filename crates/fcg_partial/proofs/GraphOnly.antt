-- The whole: a well-formed graph's spelling is read as that graph.
use Rattle.std.proofs.Common.{◌≡◌, ℕ, zero, suc, ◌+◌, ◌<◌, ◌≤◌, Bool, true, false, ◌||◌, inl, inr, eqb, List, [], ◌∷◌, ◌++◌, length, refl, arith}
use Rattle.std.specs.Prelude.{Ok, None, ◌==◌}
use Rattle.std.specs.List.{flat_map, AllByRecursion, list_any}
use Rattle.std.proofs.lemmas.Bool.{eq-eqb}
use Rattle.fcg_grammar.specs.Spell.{IsBytes, u2, u4}
use Rattle.fcg_grammar.proofs.Standing.{Stands, is_whole}
use Rattle.fcg_partial.proofs.Numbers.{u2_only, u4_only}
use Rattle.fcg_partial.specs.Graph.{Graph, StoredType, name_text, ref_text, type_text, spelling, FitsRef, FitsType, ref_uses, type_uses, type_targets, name_uses, ref_uses_of, IsUsed, IsGraph}
use Rattle.fcg_partial.specs.Reading.{unused_from, graph_at}
use Rattle.fcg_grammar.proofs.Among.{Among, among_from_contains, all_left, all_right, all_flat}
use Rattle.fcg_partial.proofs.TableRows.{names_only, refs_only}
use Rattle.fcg_partial.proofs.TypeRows as rows
use Rattle.fcg_partial.proofs.TypeOnly.{types_only}

any_from_among : (k : ℕ) (uses : List ℕ) → Among k uses → list_any (λ u. u == k) uses ≡ true
any_from_among k [] h = absurd h
any_from_among k (u ∷ uses) (inl e) = rw (eq-eqb u k e) refl
any_from_among k (u ∷ uses) (inr h) = rw (any_from_among k uses h) (or_true (u == k))
  where
    or_true : (b : Bool) → (b || true) ≡ true
    or_true true = refl
    or_true false = refl

none_left : (uses : List ℕ) (n k : ℕ) → ((j : ℕ) → k ≤ j → j < k + n → Among j uses) → unused_from uses n k ≡ None
none_left uses zero k each = refl
none_left uses (suc n) k each = rw (any_from_among k uses (each k (omega arith) (omega arith))) (none_left uses n (k + 1) (λ j lo hi. each j (omega arith) (omega arith)))

used_all : (uses : List ℕ) (n : ℕ) → IsUsed n uses → unused_from uses n 0 ≡ None
used_all uses n u = none_left uses n 0 (λ j lo hi. among_from_contains j uses (u.each j (omega arith)))

zip_refs : (P Q : List ℕ → Type 0) (xs : List (List ℕ)) → AllByRecursion P xs → AllByRecursion Q xs → AllByRecursion (λ x. P x × Q x) xs
zip_refs P Q [] p q = tt
zip_refs P Q (x ∷ xs) p q = ((p.0, q.0), zip_refs P Q xs p.1 q.1)

module _ (bytes : List ℕ) (are : IsBytes bytes) (g : Graph) (is : IsGraph g) where
  zip_types : (ts : List StoredType) → AllByRecursion FitsType ts → AllByRecursion (λ t. AllByRecursion (λ k. k < length g.names) (type_uses t)) ts → AllByRecursion (λ t. AllByRecursion (λ k. k < length g.refs) (type_targets t)) ts → AllByRecursion (rows.FitsRow bytes are (length g.names) (length g.refs)) ts
  zip_types [] p q u = tt
  zip_types (t ∷ ts) p q u = (record { alone = p.0; names = q.0; refs = u.0 }, zip_types ts p.1 q.1 u.1)

  pub graph_only : bytes ≡ spelling g → graph_at bytes ≡ Ok g
  unfolding graph_at
  graph_only spelled =
      let P : ℕ → Type 0 = λ k. k < length g.names in
      let end = length bytes in
      let r3 = u4 (length g.types) ++ (flat_map type_text g.types ++ []) in
      let r2 = u4 (length g.refs) ++ (flat_map ref_text g.refs ++ r3) in
      let r1 = u4 (length g.names) ++ (flat_map name_text g.names ++ r2) in
      let s : Stands bytes 0 (u4 0x46434752 ++ (u2 1 ++ r1)) end = is_whole bytes (spelling g) spelled in
      let a = u4_only bytes 0 0x46434752 (u2 1 ++ r1) end (omega arith) s in
      let b = u2_only bytes 4 1 r1 end (omega arith) a.1 in
      let c = names_only bytes are 6 g.names r2 end is.few_names is.names is.names_rise b.1 in
      let ur = flat_map ref_uses g.refs in
      let ut = flat_map type_uses g.types in
      let d = refs_only bytes are (length g.names) is.few_names c.0 g.refs r3 end is.few_refs (zip_refs FitsRef (λ row. AllByRecursion P (ref_uses row)) g.refs is.refs (all_flat ref_uses P g.refs (all_left P ur ut is.names_used.below))) is.refs_rise c.2 in
      let e = types_only bytes are (length g.names) (length g.refs) is.few_names is.few_refs d.0 g.types [] end is.few_types (zip_types g.types is.types (all_flat type_uses P g.types (all_right P ur ut is.names_used.below)) (all_flat type_targets (λ k. k < length g.refs) g.types is.refs_used.below)) d.2 in
      let last : eqb e.0 (length bytes) ≡ true = eq-eqb e.0 (length bytes) (at_end e.0 (length bytes) e.2.ends) in
      rw (a.0, b.0, c.1, d.1, e.1, last, used_all (name_uses g) (length g.names) is.names_used, used_all (ref_uses_of g) (length g.refs) is.refs_used) refl
    where
      at_end : (a b : ℕ) → b ≡ a + 0 → a ≡ b
      at_end a b e = omega arith
