-- A table is determined by what it has.
use Rattle.std.proofs.Common.{◌≡◌, ℕ, zero, suc, ◌<◌, true, false, cond, List, [], ◌∷◌, length, get_or, refl, sym, ap, subst, ◌∙◌, ◌⊎◌, inl, inr, arith}
use Rattle.std.specs.List.Sorted.{IsStrictlySortedBy}
use Rattle.std.specs.Cmp.Lexicographic.{pointwise, same_text, nat_list_eq_equiv}
use Rattle.std.specs.Prelude.{nat_eq}
use Rattle.std.specs.FinSet.{slice_cmp-IsAntisymmetric, nat_cmp-IsAntisymmetric}
use Rattle.std.specs.declared.cmp.Ordering.TheVariants.{Less, Equal, Greater}
use Rattle.std.proofs.lemmas.Cmp.{nat_list_cmp_total, tied_itself}
use Rattle.std.proofs.lemmas.Map.Keys.{sorted_head, sorted_tail}
use Rattle.fcg_grammar.specs.Table.{order, Rises, IsTable, by, put, table, place}
use Rattle.fcg_grammar.proofs.Among.{Among, Contains-among, among_at, among_from_contains, among_all, all_from_among}

-- ---- the order
pub itself : (x : List ℕ) → order x x ≡ Equal
itself x = tied_itself nat_list_cmp_total x

pub one_row : (x y : List ℕ) → order x y ≡ Equal → x ≡ y
one_row = slice_cmp-IsAntisymmetric nat_cmp-IsAntisymmetric

pub not_below_itself : (x : List ℕ) → order x x ≡ Less → ⊥
not_below_itself x e = let i = itself x in absurd cc

not_both : (x y : List ℕ) → order x y ≡ Less → order y x ≡ Less → ⊥
not_both x y a b = not_below_itself x (nat_list_cmp_total.trans x y x a b)

pub above_first : (x y : List ℕ) (ys : List (List ℕ)) → Rises (y ∷ ys) → Among x ys → order y x ≡ Less
above_first x y ys r h = among_all (λ z. order y z ≡ Less) ys x (sorted_head order y ys r) h

-- ---- two tables with the same members are one
same_first : (x y : List ℕ) (xs ys : List (List ℕ)) → Rises (x ∷ xs) → Rises (y ∷ ys) → Among x (y ∷ ys) → Among y (x ∷ xs) → x ≡ y
same_first x y xs ys r s (inl e) b = sym e
same_first x y xs ys r s (inr a) (inl e) = e
same_first x y xs ys r s (inr a) (inr b) = absurd (not_both x y (above_first y x xs r b) (above_first x y ys s a))

not_first : (x y z : List ℕ) (xs ys : List (List ℕ)) → Rises (x ∷ xs) → x ≡ y → Among z xs → Among z (y ∷ ys) → Among z ys
not_first x y z xs ys r e h (inl f) = absurd (not_below_itself x (subst (λ (w : List ℕ). order x w ≡ Less) (sym (e ∙ f)) (above_first z x xs r h)))
not_first x y z xs ys r e h (inr g) = g

pub one_table : (xs ys : List (List ℕ)) → Rises xs → Rises ys → ((z : List ℕ) → Among z xs → Among z ys) → ((z : List ℕ) → Among z ys → Among z xs) → xs ≡ ys
one_table [] [] r s to back = refl
one_table [] (y ∷ ys) r s to back = absurd (back y (inl refl))
one_table (x ∷ xs) [] r s to back = absurd (to x (inl refl))
one_table (x ∷ xs) (y ∷ ys) r s to back =
    let e : x ≡ y = same_first x y xs ys r s (to x (inl refl)) (back y (inl refl)) in
    let rest : xs ≡ ys = one_table xs ys (sorted_tail order x xs r) (sorted_tail order y ys s)
    (λ z h. not_first x y z xs ys r e h (to z (inr h)))
    (λ z h. not_first y x z ys xs s (sym e) h (back z (inr h))) in
    cc

-- ---- the table that is made
or_later : (x y z : List ℕ) (ys : List (List ℕ)) → (x ≡ z) ⊎ Among z ys → (x ≡ z) ⊎ Among z (y ∷ ys)
or_later x y z ys (inl e) = inl e
or_later x y z ys (inr k) = inr (inr k)

put_among : (x z : List ℕ) (ys : List (List ℕ)) → Among z (put x ys) → (x ≡ z) ⊎ Among z ys
put_among x z [] (inl e) = inl e
put_among x z [] (inr h) = absurd h
put_among x z (y ∷ ys) h =
    elim (order x y) as (λ o. Among z (by o (x ∷ y ∷ ys) (y ∷ ys) (y ∷ put x ys)) → (x ≡ z) ⊎ Among z (y ∷ ys)) [
      | Less ↦ λ g. g
      | Equal ↦ λ g. inr g
      | Greater ↦ λ g. later (put_among x z ys) g
    ] h
  where
    later : (Among z (put x ys) → (x ≡ z) ⊎ Among z ys) → (y ≡ z) ⊎ Among z (put x ys) → (x ≡ z) ⊎ Among z (y ∷ ys)
    later next (inl e) = inr (inl e)
    later next (inr g) = or_later x y z ys (next g)

among_put : (x z : List ℕ) (ys : List (List ℕ)) → (x ≡ z) ⊎ Among z ys → Among z (put x ys)
among_put x z [] h = h
among_put x z (y ∷ ys) h =
    elim (order x y) as (λ o. order x y ≡ o → Among z (by o (x ∷ y ∷ ys) (y ∷ ys) (y ∷ put x ys))) [
      | Less ↦ λ e. h
      | Equal ↦ λ e. tied (one_row x y e) h
      | Greater ↦ λ e. later (among_put x z ys) h
    ] refl
  where
    tied : x ≡ y → (x ≡ z) ⊎ Among z (y ∷ ys) → Among z (y ∷ ys)
    tied e (inl f) = inl (sym e ∙ f)
    tied e (inr g) = g

    later : ((x ≡ z) ⊎ Among z ys → Among z (put x ys)) → (x ≡ z) ⊎ Among z (y ∷ ys) → Among z (y ∷ put x ys)
    later next (inl f) = inr (next (inl f))
    later next (inr (inl f)) = inl f
    later next (inr (inr g)) = inr (next (inr g))

pub rises_cons : (x : List ℕ) (ys : List (List ℕ)) → ((z : List ℕ) → Among z ys → order x z ≡ Less) → Rises ys → Rises (x ∷ ys)
unfolding IsStrictlySortedBy
rises_cons x ys each r = (all_from_among (λ z. order x z ≡ Less) ys each, r)

turned : (x y : List ℕ) → order x y ≡ Greater → order y x ≡ Less
turned x y e = let a = nat_list_cmp_total.antisymm y x in rw e at a

rises_put : (x : List ℕ) (ys : List (List ℕ)) → Rises ys → Rises (put x ys)
rises_put x [] r = rises_cons x [] (λ z h. absurd h) r
rises_put x (y ∷ ys) r =
    elim (order x y) as (λ o. order x y ≡ o → Rises (by o (x ∷ y ∷ ys) (y ∷ ys) (y ∷ put x ys))) [
      | Less ↦ λ e. rises_cons x (y ∷ ys) (λ z h. below e z h) r
      | Equal ↦ λ e. r
      | Greater ↦ λ e. rises_cons y (put x ys) (λ z h. above (turned x y e) z (put_among x z ys h)) (rises_put x ys (sorted_tail order y ys r))
    ] refl
  where
    below : order x y ≡ Less → (z : List ℕ) → Among z (y ∷ ys) → order x z ≡ Less
    below e z (inl f) = subst (λ (w : List ℕ). order x w ≡ Less) f e
    below e z (inr h) = nat_list_cmp_total.trans x y z e (above_first z y ys r h)

    above : order y x ≡ Less → (z : List ℕ) → (x ≡ z) ⊎ Among z ys → order y z ≡ Less
    above e z (inl f) = subst (λ (w : List ℕ). order y w ≡ Less) f e
    above e z (inr h) = above_first z y ys r h

pub table_rises : (xs : List (List ℕ)) → Rises (table xs)
unfolding table IsStrictlySortedBy
table_rises [] = tt
table_rises (x ∷ xs) = rises_put x (table xs) (table_rises xs)

pub table_among : (xs : List (List ℕ)) (z : List ℕ) → Among z xs → Among z (table xs)
unfolding table
table_among [] z h = absurd h
table_among (x ∷ xs) z (inl e) = among_put x z (table xs) (inl e)
table_among (x ∷ xs) z (inr h) = among_put x z (table xs) (inr (table_among xs z h))

pub among_table : (xs : List (List ℕ)) (z : List ℕ) → Among z (table xs) → Among z xs
unfolding table
among_table [] z h = absurd h
among_table (x ∷ xs) z h = or_else (put_among x z (table xs) h) (among_table xs z)
  where
    or_else : (x ≡ z) ⊎ Among z (table xs) → (Among z (table xs) → Among z xs) → Among z (x ∷ xs)
    or_else (inl e) next = inl e
    or_else (inr h) next = inr (next h)

-- the law: one table for each list of rows
pub table_is : (xs : List (List ℕ)) → IsTable xs (table xs)
table_is xs = record {
  rises = table_rises xs;
  each = λ z c. Contains-among z (table xs) (table_among xs z (among_from_contains z xs c));
  used = λ z c. Contains-among z xs (among_table xs z (among_from_contains z (table xs) c));
}

pub is_table : (xs rows : List (List ℕ)) → IsTable xs rows → rows ≡ table xs
is_table xs rows t = one_table rows (table xs) t.rises (table_rises xs)
    (λ z h. table_among xs z (among_from_contains z xs (t.used z (Contains-among z rows h))))
    (λ z h. among_from_contains z rows (t.each z (Contains-among z xs (among_table xs z h))))

-- ---- places
same_bytes : (x y : List ℕ) → pointwise nat_eq x y ≡ true → x ≡ y
same_bytes x y e = same_text x y (sym e)

itself_alike : (x : List ℕ) → pointwise nat_eq x x ≡ true
itself_alike x = nat_list_eq_equiv.refl x

not_alike : (x y : List ℕ) → order x y ≡ Less → pointwise nat_eq x y ≡ false
not_alike x y e = elim (pointwise nat_eq x y) as (λ b. pointwise nat_eq x y ≡ b → b ≡ false) [
  | true ↦ λ t. absurd (not_below_itself x (subst (λ (w : List ℕ). order x w ≡ Less) (sym (same_bytes x y t)) e))
  | false ↦ λ t. refl
] refl

-- the number of a row that stands at a place is that place
pub place_at : (rows : List (List ℕ)) (k : ℕ) (d : List ℕ) → Rises rows → k < length rows → place rows (get_or rows k d) ≡ k
unfolding place
place_at [] k d r lt = absurd (omega arith)
place_at (y ∷ ys) zero d r lt = rw (itself_alike y) refl
place_at (y ∷ ys) (suc k) d r lt =
    let below : k < length ys = omega arith in
    let apart = not_alike y (get_or ys k d) (above_first (get_or ys k d) y ys r (among_at ys k d below)) in
    rw apart (ap suc (place_at ys k d (sorted_tail order y ys r) below))

-- and at the number of a member stands the member
pub at_place : (rows : List (List ℕ)) (x : List ℕ) (d : List ℕ) → Among x rows → (place rows x < length rows) × (get_or rows (place rows x) d ≡ x)
unfolding place
at_place [] x d h = absurd h
at_place (y ∷ ys) x d h =
    elim (pointwise nat_eq y x) as (λ b. pointwise nat_eq y x ≡ b → (cond b 0 (suc (place ys x)) < length (y ∷ ys)) × (get_or (y ∷ ys) (cond b 0 (suc (place ys x))) d ≡ x)) [
      | true ↦ λ t. (omega arith, same_bytes y x t)
      | false ↦ λ t. later t h (at_place ys x d)
    ] refl
  where
    later : pointwise nat_eq y x ≡ false → Among x (y ∷ ys) → (Among x ys → (place ys x < length ys) × (get_or ys (place ys x) d ≡ x)) → (suc (place ys x) < length (y ∷ ys)) × (get_or (y ∷ ys) (suc (place ys x)) d ≡ x)
    later t (inl e) next = let f = itself_alike y in absurd (let g : pointwise nat_eq y x ≡ true = subst (λ (w : List ℕ). pointwise nat_eq y w ≡ true) e f in cc)
    later t (inr h) next = let n = next h in ((let lt = n.0 in omega arith), n.1)
