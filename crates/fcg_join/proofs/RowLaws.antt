-- Rows of numbers that are joined along the links.
use Rattle.std.proofs.Common.{◌≡◌, ◌∷◌, ◌++◌, ℕ, zero, suc, ◌<◌, List, length, sym, subst, ◌∙◌, inl, inr, arith}
use Rattle.std.specs.Prelude.{Bool, true, ◌&&◌, ◌||◌, Contains, flat_map}
use Rattle.std.specs.List.{list_any, IsDistinct}
use Rattle.std.proofs.lemmas.Bool.{or_cases, or_left, or_right, and_from}
use Rattle.std.proofs.lemmas.Option.{slice_get_within}
use Rattle.fcg_analysis.specs.Walks.{step}
use Rattle.fcg_analysis.specs.Declarations.{Placed, is_type}
use Rattle.fcg_analysis.specs.Types.{links, above}
use Rattle.fcg_analysis.specs.Laws.Statements.{IsAcyclic}
use Rattle.fcg_order.specs.Links.{row, HasLink}
use Rattle.fcg_order.specs.Order.{IsOrder}
use Rattle.fcg_join.specs.TypeLinks.{HasTypeAt, HasLinks}
use Rattle.fcg_join.specs.TypeTables.{HasOwnRows, IsUpwardRow, IsJoinedRow, AreJoined}
use Rattle.fcg_analysis.proofs.General.Members.{Contains-from_IsIn, IsIn-from_Contains, any_in, in_any, and_first, and_second, in_append, append_left, append_right, in_flat_map, flat_map_in}
use Rattle.fcg_analysis.proofs.General.Walking.{any_led_goes_on}
use Rattle.fcg_analysis.proofs.LineLaws.{height, height_less, height_small}
use Rattle.fcg_join.proofs.Places.{place_of, has_in}
use Rattle.fcg_join.proofs.Circles.{some_type}
use Rattle.fcg_join.proofs.MarkLaws.{no_circle}

-- the own numbers, and those of the rows one after the other
pub joined_rows_are : (links : List (List ℕ)) (own rows : ℕ → List ℕ) (x : ℕ) → IsJoinedRow links own rows x (own x ++ flat_map rows (row links x))
joined_rows_are links own rows x n = (
  λ c. (elim (in_append (own x) (flat_map rows (row links x)) n (IsIn-from_Contains _ n c)) [
    | inl i ↦ inl (Contains-from_IsIn (own x) n i)
    | inr i ↦ (let y = in_flat_map rows (row links x) n i in inr (y.0, Contains-from_IsIn (row links x) y.0 y.1, Contains-from_IsIn (rows y.0) n y.2))
  ]),
  λ h. (elim h [
    | inl c ↦ Contains-from_IsIn _ n (append_left (own x) (flat_map rows (row links x)) n (IsIn-from_Contains (own x) n c))
    | inr r ↦ Contains-from_IsIn _ n (append_right (own x) (flat_map rows (row links x)) n (flat_map_in rows (row links x) r.0 n (IsIn-from_Contains (row links x) r.0 r.1) (IsIn-from_Contains (rows r.0) n r.2)))
  ]),
)

module _ (types : List Placed) (rows : List (List ℕ)) (h : HasLinks types rows) (says : ℕ → Placed → Bool) (own : ℕ → List ℕ) (starts : HasOwnRows types says own) where
  -- t has a number, or a type above it, or one to which t links has it or has a type above it that does
  abbrev says_at : ℕ → Placed → Bool
  says_at n t = says n t || list_any (says n) (above types t)

  goes_on : (n : ℕ) (t : Placed) → list_any (says n) (above types t) ≡ list_any (λ u. links t u && says_at n u) types
  unfolding above
  goes_on n t = any_led_goes_on links types (says n) t

  pub joined_row : (joined : ℕ → List ℕ) (x : ℕ) (t : Placed) (numbers : List ℕ) → HasTypeAt types x t
      → ((y : ℕ) (u : Placed) → HasLink rows x y → HasTypeAt types y u → IsUpwardRow types says u (joined y))
      → IsJoinedRow rows own joined x numbers → IsUpwardRow types says t numbers
  joined_row joined x t numbers a before j n = (forth, back)
    where
      forth : Contains numbers n → says_at n t ≡ true
      forth c =
          elim ((j n).0 c) [
            | inl o ↦ or_left (says n t) (list_any (says n) (above types t)) ((starts x t a n).0 o)
            | inr r ↦ (let u = some_type types rows h x r.0 r.1 in
                let l : links t u.0 ≡ true = (h.each x r.0 t u.0 a u.1).0 r.1 in
                let s : says_at n u.0 ≡ true = (before r.0 u.0 r.1 u.1 n).0 r.2 in
                or_right (says n t) (list_any (says n) (above types t))
                (goes_on n t ∙ any_in (λ u. links t u && says_at n u) types u.0 (IsIn-from_Contains types u.0 (has_in types r.0 u.0 u.1)) (and_from (links t u.0) (says_at n u.0) l s)))
          ]

      back : says_at n t ≡ true → Contains numbers n
      back e =
          elim (or_cases (says n t) (list_any (says n) (above types t)) e) [
            | inl s ↦ (j n).1 (inl ((starts x t a n).1 s))
            | inr s ↦ (let u = in_any (λ u. links t u && says_at n u) types (sym (goes_on n t) ∙ s) in
                let p = place_of types u.0 (Contains-from_IsIn types u.0 u.1) in
                let l : HasLink rows x p.0 = (h.each x p.0 t u.0 a p.1).1 (and_first (links t u.0) (says_at n u.0) u.2) in
                (j n).1 (inr (p.0, l, (before p.0 u.0 l p.1 n).1 (and_second (links t u.0) (says_at n u.0) u.2))))
          ]

  -- along the order, the rows to which x links are there before
  pub joined_in_order : IsAcyclic types → IsDistinct is_type types → (order before later : List ℕ) → IsOrder rows order → (joined : ℕ → List ℕ) (x : ℕ) (t : Placed) (numbers : List ℕ) → order ≡ before ++ x ∷ later → HasTypeAt types x t
      → ((y : ℕ) (u : Placed) → Contains before y → HasTypeAt types y u → IsUpwardRow types says u (joined y)) → IsJoinedRow rows own joined x numbers → IsUpwardRow types says t numbers
  joined_in_order acyclic d order before later o joined x t numbers e a b j =
      joined_row joined x t numbers a (λ y u l i. b y u (o.after before later x y e (no_circle types rows h d acyclic x t a) l) i) j

  module _ (acyclic : IsAcyclic types) (joined : ℕ → List ℕ) (each : AreJoined rows own joined) where
    joined_below : (k x : ℕ) (t : Placed) → HasTypeAt types x t → height types acyclic t < k → IsUpwardRow types says t (joined x)
    joined_below zero x t a l = absurd (omega arith)
    joined_below (suc k) x t a l =
        joined_row joined x t (joined x) a (lower (joined_below k)) (each x (subst (λ n. x < n) (sym h.long) (slice_get_within types x t a)))
      where
        lower : ((y : ℕ) (u : Placed) → HasTypeAt types y u → height types acyclic u < k → IsUpwardRow types says u (joined y))
            → (y : ℕ) (u : Placed) → HasLink rows x y → HasTypeAt types y u → IsUpwardRow types says u (joined y)
        lower r y u m b =
            let d = has_in types y u b in
            let less : height types acyclic u < height types acyclic t = height_less types acyclic u t (step d ((h.each x y t u a b).0 m)) d in
            r y u b (omega arith)

    pub joined_rows : (x : ℕ) (t : Placed) → HasTypeAt types x t → IsUpwardRow types says t (joined x)
    joined_rows x t a = joined_below (length types) x t a (height_small types acyclic t (has_in types x t a))
