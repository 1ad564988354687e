-- Rows of nodes, in the order of the nodes, and turned round.
use Rattle.std.proofs.Common.{◌≡◌, ℕ, zero, suc, ◌+◌, ◌<◌, ◌≤◌, List, [], ◌∷◌, ◌++◌, length, get_or, refl, sym, ap, subst, ◌∙◌, inl, inr, arith}
use Rattle.std.specs.Prelude.{true, not, ◌&&◌, nat_lt, Contains, map}
use Rattle.std.specs.List.{range_with_len}
use Rattle.std.specs.List.Sorted.{IsStrictlyIncreasing}
use Rattle.std.proofs.lemmas.Bool.{cases_lt}
use Rattle.std.proofs.lemmas.List.{get_or_past}
use Rattle.std.proofs.lemmas.List.FromFn.{length-map-range_with_len, get_or-map-range_with_len}
use Rattle.fcg_order.specs.Links.{row, HasLink}
use Rattle.fcg_order.specs.Turn.{HaveRising, AreTurned}
use Rattle.fcg_join.specs.declared.joined_rows.JoinedRows.{JoinedRows}
use Rattle.std.specs.List.{list_any}
use Rattle.std.proofs.lemmas.Bool.{or_cases, ltb-true}
use Rattle.fcg_analysis.specs.Declarations.{Placed}
use Rattle.fcg_analysis.specs.Types.{above}
use Rattle.fcg_analysis.proofs.General.Members.{in_any, and_first}
use Rattle.fcg_analysis.proofs.General.Places.{some_at}
use Rattle.fcg_join.specs.Names.{text_at}
use Rattle.fcg_join.specs.TypeTables.{mentions_at, mentions, is_class_name}
use Rattle.fcg_join.specs.Internal.Mentions.{row_of, AreMentions, AreTurnedRows}

pub range_more : (a n : ℕ) → range_with_len a (n + 1) ≡ range_with_len a n ++ (a + n) ∷ []
range_more a zero = let e : a ≡ a + 0 = omega arith in ap (λ x. x ∷ []) e
range_more a (suc n) =
    let e : a + 1 + n ≡ a + suc n = omega arith in
    let s : suc n + 1 ≡ suc (n + 1) = omega arith in
    ap (range_with_len a) s ∙ ap (λ xs. a ∷ xs) (range_more (a + 1) n ∙ ap (λ x. range_with_len (a + 1) n ++ x ∷ []) e)

module _ (r : JoinedRows) where
  abbrev rows : List (List ℕ)
  rows = map (row_of r) (range_with_len 0 (length r.places.items))

  pub many_rows : length rows ≡ length r.places.items
  many_rows = length-map-range_with_len (row_of r) 0 (length r.places.items)

  row_is : (x : ℕ) → x < length r.places.items → row rows x ≡ row_of r x
  row_is x l = get_or-map-range_with_len (row_of r) 0 (length r.places.items) x x [] l (omega arith)

  there : (x n : ℕ) → HasLink rows x n → x < length r.places.items
  there x n c = elim (cases_lt x (length rows)) [
    | inl l ↦ (let m = many_rows in omega (arith, l, m))
    | inr g ↦ absurd (let e : row rows x ≡ [] = get_or_past rows x [] (omega (arith, g)) in let l : c.0 < length (row rows x) = c.1 in let q = ap (λ xs. length xs) e in omega (arith, l, q))
  ]

  module _ (count : ℕ) where
    pub have_rising : ((x n : ℕ) → x < length r.places.items → Contains (row_of r x) n → n < count) → ((x : ℕ) → x < length r.places.items → IsStrictlyIncreasing (row_of r x)) → HaveRising rows count
    have_rising h g = record {
      below = λ x n c. (let l = there x n c in h x n l (subst (λ (xs : List ℕ). Contains xs n) (row_is x l) c));
      rise = λ x l. (let m = many_rows in let k = subst (λ i. x < i) m l in subst IsStrictlyIncreasing (sym (row_is x k)) (g x k));
    }

    pub turned_rows : (turned : List (List ℕ)) → AreTurned rows count turned → AreTurnedRows r count turned
    turned_rows turned t = record {
      long = t.long;
      each = λ n x l. (
        (λ c. (let d = (t.each n x l).0 c in let k = there x n d in (k, subst (λ (xs : List ℕ). Contains xs n) (row_is x k) d))),
        (λ c. (t.each n x l).1 (subst (λ (xs : List ℕ). Contains xs n) (sym (row_is x c.0)) c.1)),
      );
      rise = t.rise;
    }

-- the numbers of mentions are those of names
pub mentions_below : (names : List (List ℕ)) (types : List Placed) (r : JoinedRows) → AreMentions names types r → (x n : ℕ) → x < length r.places.items → Contains (row_of r x) n → n < length names
mentions_below names types r m x n l c =
    let w = m.long in
    let t = some_at types x (omega (arith, l, w)) in
    elim (or_cases (mentions_at names types n t.0) (list_any (mentions_at names types n) (above types t.0)) ((m.upward x t.0 t.1 n).0 c)) [
      | inl e ↦ of t.0 e
      | inr e ↦ (let u = in_any (mentions_at names types n) (above types t.0) e in of u.0 u.2)
    ]
  where
    of : (t : Placed) → mentions_at names types n t ≡ true → n < length names
    of t e = ltb-true n (length names) (and_first (nat_lt n (length names)) (not (is_class_name types (text_at names n)) && mentions types (text_at names n) t) e)
