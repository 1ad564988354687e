-- Keys of nodes, sorted by their pairs and cut into a row for each pair.
use Rattle.std.proofs.Common.{◌≡◌, ℕ, zero, suc, ◌+◌, ◌<◌, ◌≤◌, List, [], ◌∷◌, ◌++◌, length, get_or, take, drop, refl, sym, ap, subst, ◌∙◌, inl, inr, cond, eqb, arith}
use Rattle.std.specs.Prelude.{Bool, true, false, not, ◌&&◌, map, filter}
use Rattle.std.specs.List.{AllByRecursion, prefix_len}
use Rattle.std.specs.List.Sorted.{IsSortedByKey}
use Rattle.std.specs.Cmp.{IsStrictWeakOrder}
use Rattle.std.specs.Cmp.Lexicographic.{bytes_decides}
use Rattle.std.specs.Ordering.{is_lt, nat_cmp, ordering_then, ordering_reverse}
use Rattle.std.specs.declared.cmp.Ordering.{Ordering}
use Rattle.std.specs.declared.cmp.Ordering.TheVariants.{Less, Equal, Greater}
use Rattle.std.proofs.lemmas.Bool.Decides.{Decides-eqb}
use Rattle.std.proofs.lemmas.Cmp.{nat_list_cmp_total}
use Rattle.std.proofs.lemmas.List.{map_push, append_assoc, append-nil}
use Rattle.std.proofs.lemmas.List.Sorted.{ranks_by, sorted_far, IsPermutation-map, IsPermutation-sym, Contains-permutation}
use Rattle.fcg_grammar.specs.Table.{order, table, put, by}
use Rattle.fcg_grammar.proofs.Among.{Among, among_at}
use Rattle.fcg_grammar.proofs.TableLaws.{itself, one_row, among_table, table_is, table_rises, is_table}
use Rattle.fcg_analysis.specs.NamesAndFlags.{same}
use Rattle.fcg_analysis.proofs.General.Members.{and_first, and_second}
use Rattle.fcg_join.specs.Internal.Signatures.{Pair, Key, row_of_pair, same_pair, pair_order, AreSortedKeys, Ascends, rows_of_keys, pairs_of_keys, nodes_of_row, IsCutUpTo}
use Rattle.fcg_join.proofs.CollectedLaws.{same_map}

-- ---- pairs and their rows
then_equal : (o : Ordering) → ordering_then o Equal ≡ o
then_equal Less = refl
then_equal Equal = refl
then_equal Greater = refl

pub pair_order_is : (p q : Pair) → order (row_of_pair p) (row_of_pair q) ≡ pair_order p q
pair_order_is p q = ap (ordering_then (nat_cmp p.0 q.0)) (then_equal (nat_cmp p.1 q.1))

same_pair_row : (p q : Pair) → same_pair p q ≡ true → row_of_pair p ≡ row_of_pair q
same_pair_row p q e =
    let a : p.0 ≡ q.0 = (Decides-eqb p.0 q.0).0 (and_first (eqb p.0 q.0) (eqb p.1 q.1) e) in
    let b : p.1 ≡ q.1 = (Decides-eqb p.1 q.1).0 (and_second (eqb p.0 q.0) (eqb p.1 q.1) e) in
    λ i. a i ∷ b i ∷ []

same_row_pair : (p q : Pair) → row_of_pair p ≡ row_of_pair q → same_pair p q ≡ true
same_row_pair p q e =
    let a : p.0 ≡ q.0 = ap (λ ns. get_or ns 0 0) e in
    let b : p.1 ≡ q.1 = ap (λ ns. get_or ns 1 0) e in
    ap (λ v. v && eqb p.1 q.1) ((Decides-eqb p.0 q.0).1 a) ∙ (Decides-eqb p.1 q.1).1 b

not_alike : (x y : List ℕ) → order x y ≡ Less → same x y ≡ false
not_alike x y e = at (same x y) refl
  where
    at : (b : Bool) → same x y ≡ b → b ≡ false
    at true s =
        let i = itself x in
        let l : order x x ≡ Less = subst (λ (w : List ℕ). order x w ≡ Less) (sym ((bytes_decides x y).0 s)) e in
        absurd cc
    at false s = refl

-- less than a row that isn't less than another
chain_up : (x y z : List ℕ) → order x y ≡ Less → is_lt (order z y) ≡ false → order x z ≡ Less
chain_up x y z l n = at (order y z) refl
  where
    at : (o : Ordering) → order y z ≡ o → order x z ≡ Less
    at Less e = nat_list_cmp_total.trans x y z l e
    at Equal e = subst (λ (w : List ℕ). order x w ≡ Less) (one_row y z e) l
    at Greater e = absurd (let k : order z y ≡ Less = nat_list_cmp_total.antisymm z y ∙ ap ordering_reverse e in let f : is_lt (order z y) ≡ true = ap is_lt k in cc)

less_unless_same : (p q : Pair) → is_lt (pair_order q p) ≡ false → same_pair p q ≡ false → order (row_of_pair p) (row_of_pair q) ≡ Less
less_unless_same p q n d = at (order (row_of_pair p) (row_of_pair q)) refl
  where
    at : (o : Ordering) → order (row_of_pair p) (row_of_pair q) ≡ o → o ≡ Less
    at Less e = refl
    at Equal e = absurd (let s = same_row_pair p q (one_row (row_of_pair p) (row_of_pair q) e) in cc)
    at Greater e = absurd (let k : pair_order q p ≡ Less = sym (pair_order_is q p) ∙ nat_list_cmp_total.antisymm (row_of_pair q) (row_of_pair p) ∙ ap ordering_reverse e in let f : is_lt (pair_order q p) ≡ true = ap is_lt k in cc)

-- ---- a table whose first row is known
put_first : (x : List ℕ) (ys : List (List ℕ)) → ((z : List ℕ) → Among z ys → order x z ≡ Less) → put x ys ≡ x ∷ ys
put_first x [] h = refl
put_first x (y ∷ ys) h = ap (λ o. by o (x ∷ y ∷ ys) (y ∷ ys) (y ∷ put x ys)) (h y (inl refl))

put_again : (x : List ℕ) (ys : List (List ℕ)) → put x (x ∷ ys) ≡ x ∷ ys
put_again x ys = ap (λ o. by o (x ∷ x ∷ ys) (x ∷ ys) (x ∷ put x ys)) (itself x)

-- ---- the keys of the first pair
abbrev AreAbove : Pair → List Key → Type 0
AreAbove p ks = AllByRecursion (λ (q : Key). order (row_of_pair p) (row_of_pair q.0) ≡ Less) ks

row_above : (p : Pair) (ks : List Key) → AreAbove p ks → (z : List ℕ) → Among z (rows_of_keys ks) → order (row_of_pair p) z ≡ Less
row_above p [] a z h = absurd h
row_above p (k ∷ ks) a z (inl e) = subst (λ (w : List ℕ). order (row_of_pair p) w ≡ Less) e a.0
row_above p (k ∷ ks) a z (inr h) = row_above p ks a.1 z h

none_above : (p : Pair) (ks : List Key) → AreAbove p ks → nodes_of_row ks (row_of_pair p) ≡ []
none_above p [] a = refl
none_above p (k ∷ ks) a =
    ap (λ b. map (λ (q : Key). q.1) (cond b (k ∷ filter (λ (q : Key). same (row_of_pair p) (row_of_pair q.0)) ks) (filter (λ (q : Key). same (row_of_pair p) (row_of_pair q.0)) ks))) (not_alike (row_of_pair p) (row_of_pair k.0) a.0)
    ∙ none_above p ks a.1

above_all : (p : Pair) (k : Key) (ks : List Key) → order (row_of_pair p) (row_of_pair k.0) ≡ Less → AllByRecursion (λ (q : Key). is_lt (pair_order q.0 k.0) ≡ false) ks → AreAbove p ks
above_all p k [] l a = tt
above_all p k (q ∷ ks) l a = (chain_up (row_of_pair p) (row_of_pair k.0) (row_of_pair q.0) l (ap is_lt (pair_order_is q.0 k.0) ∙ a.0), above_all p k ks l a.1)

-- the first n keys have the pair, and it isn't that of a later one
record IsRun (p : Pair) (ks : List Key) (n : ℕ) : Type 0 where
  first : table (row_of_pair p ∷ rows_of_keys ks) ≡ row_of_pair p ∷ pairs_of_keys (drop n ks)
  own : nodes_of_row ks (row_of_pair p) ≡ map (λ (q : Key). q.1) (take n ks)
  other : (row : List ℕ) → (row_of_pair p ≡ row → ⊥) → nodes_of_row ks row ≡ nodes_of_row (drop n ks) row
  above : AreAbove p (drop n ks)
  ascends : Ascends (drop n ks)

no_run : (p : Pair) (ks : List Key) → AreAbove p ks → Ascends ks → IsRun p ks 0
unfolding table
no_run p ks a up = record {
  first = put_first (row_of_pair p) (pairs_of_keys ks) (λ z h. row_above p ks a z (among_table (rows_of_keys ks) z h));
  own = none_above p ks a;
  other = λ row d. refl;
  above = a;
  ascends = up;
}

longer_run : (p : Pair) (k : Key) (ks : List Key) (n : ℕ) → row_of_pair p ≡ row_of_pair k.0 → IsRun p ks n → IsRun p (k ∷ ks) (suc n)
unfolding table
longer_run p k ks n e r = record {
  first = ap (λ row. put (row_of_pair p) (put row (table (rows_of_keys ks)))) (sym e) ∙ ap (put (row_of_pair p)) r.first ∙ put_again (row_of_pair p) (pairs_of_keys (drop n ks));
  own = ap (λ b. map (λ (q : Key). q.1) (cond b (k ∷ filter (λ (q : Key). same (row_of_pair p) (row_of_pair q.0)) ks) (filter (λ (q : Key). same (row_of_pair p) (row_of_pair q.0)) ks))) ((bytes_decides (row_of_pair p) (row_of_pair k.0)).1 e)
      ∙ ap (λ ns. k.1 ∷ ns) r.own;
  other = λ row d. ap (λ b. map (λ (q : Key). q.1) (cond b (k ∷ filter (λ (q : Key). same row (row_of_pair q.0)) ks) (filter (λ (q : Key). same row (row_of_pair q.0)) ks))) (apart row d) ∙ r.other row d;
  above = r.above;
  ascends = r.ascends;
}
  where
    apart : (row : List ℕ) → (row_of_pair p ≡ row → ⊥) → same row (row_of_pair k.0) ≡ false
    apart row d = at (same row (row_of_pair k.0)) refl
      where
        at : (b : Bool) → same row (row_of_pair k.0) ≡ b → b ≡ false
        at true s = absurd (d (e ∙ sym ((bytes_decides row (row_of_pair k.0)).0 s)))
        at false s = refl

run : (p : Pair) (ks : List Key) → Ascends ks → AllByRecursion (λ (q : Key). is_lt (pair_order q.0 p) ≡ false) ks → IsRun p ks (prefix_len (λ (q : Key). same_pair p q.0) ks)
run p [] up low = no_run p [] tt tt
run p (k ∷ ks) up low = at (same_pair p k.0) refl (run p ks up.1 low.1)
  where
    n : ℕ
    n = prefix_len (λ (q : Key). same_pair p q.0) ks

    at : (b : Bool) → same_pair p k.0 ≡ b → IsRun p ks (prefix_len (λ (q : Key). same_pair p q.0) ks) → IsRun p (k ∷ ks) (cond (same_pair p k.0) (1 + prefix_len (λ (q : Key). same_pair p q.0) ks) 0)
    at true e r =
        let long : suc n ≡ cond (same_pair p k.0) (1 + n) 0 = (let s : suc n ≡ 1 + n = omega arith in s ∙ sym (ap (λ b. cond b (1 + n) 0) e)) in
        subst (λ (m : ℕ). IsRun p (k ∷ ks) m) long (longer_run p k ks n (same_pair_row p k.0 e) r)
    at false e r =
        let l = less_unless_same p k.0 low.0 e in
        subst (λ (b : Bool). IsRun p (k ∷ ks) (cond b (1 + n) 0)) (sym e) (no_run p (k ∷ ks) (l, above_all p k ks l up.0) up)

-- ---- the cut of all keys
pub cut_all : (keys rest : List Key) (pairs : List Pair) (rows : List (List ℕ)) → length rest ≡ 0 → IsCutUpTo keys rest pairs rows → (map row_of_pair pairs ≡ pairs_of_keys keys) × (rows ≡ map (nodes_of_row keys) (pairs_of_keys keys))
unfolding table
cut_all keys [] pairs rows l c = (sym (append-nil (map row_of_pair pairs)) ∙ c.pairs_are, sym (append-nil rows) ∙ c.rows_are)
cut_all keys (k ∷ ks) pairs rows l c = absurd (omega arith)

module _ (keys : List Key) (pairs pairs' : List Pair) (rows rows' : List (List ℕ)) where
  cut_first : (k : Key) (ks : List Key) → IsCutUpTo keys (k ∷ ks) pairs rows → (n : ℕ) → n ≡ prefix_len (λ (q : Key). same_pair k.0 q.0) (k ∷ ks)
      → pairs' ≡ pairs ++ k.0 ∷ [] → rows' ≡ rows ++ map (λ (q : Key). q.1) (take n (k ∷ ks)) ∷ [] → IsCutUpTo keys (drop n (k ∷ ks)) pairs' rows'
  cut_first k ks c n e f g = subst (λ (m : ℕ). rows' ≡ rows ++ map (λ (q : Key). q.1) (take m (k ∷ ks)) ∷ [] → IsCutUpTo keys (drop m (k ∷ ks)) pairs' rows') (sym (e ∙ long)) at g
    where
      p : List ℕ
      p = row_of_pair k.0

      m : ℕ
      m = prefix_len (λ (q : Key). same_pair k.0 q.0) ks

      long : prefix_len (λ (q : Key). same_pair k.0 q.0) (k ∷ ks) ≡ suc (prefix_len (λ (q : Key). same_pair k.0 q.0) ks)
      long = (let s : 1 + m ≡ suc m = omega arith in ap (λ b. cond b (1 + m) 0) (same_row_pair k.0 k.0 refl) ∙ s)

      r : IsRun k.0 ks (prefix_len (λ (q : Key). same_pair k.0 q.0) ks)
      r = run k.0 ks c.ascends.1 c.ascends.0

      whole : IsRun k.0 (k ∷ ks) (suc (prefix_len (λ (q : Key). same_pair k.0 q.0) ks))
      whole = longer_run k.0 k ks m refl r

      apart : (row : List ℕ) → Among row (pairs_of_keys (drop m ks)) → row_of_pair k.0 ≡ row → ⊥
      apart row h s =
          let l = row_above k.0 (drop m ks) r.above row (among_table (rows_of_keys (drop m ks)) row h) in
          let i : order row row ≡ Less = subst (λ (w : List ℕ). order w row ≡ Less) s l in
          (let t = itself row in absurd cc)

      others : map (nodes_of_row (k ∷ ks)) (pairs_of_keys (drop m ks)) ≡ map (nodes_of_row (drop m ks)) (pairs_of_keys (drop m ks))
      others = same_map (nodes_of_row (k ∷ ks)) (nodes_of_row (drop m ks)) (pairs_of_keys (drop m ks))
          (λ j d l. whole.other (get_or (pairs_of_keys (drop m ks)) j d) (apart (get_or (pairs_of_keys (drop m ks)) j d) (among_at (pairs_of_keys (drop m ks)) j d l)))

      at : rows' ≡ rows ++ map (λ (q : Key). q.1) (take (suc (prefix_len (λ (q : Key). same_pair k.0 q.0) ks)) (k ∷ ks)) ∷ [] → IsCutUpTo keys (drop (suc (prefix_len (λ (q : Key). same_pair k.0 q.0) ks)) (k ∷ ks)) pairs' rows'
      at h = record {
        pairs_are = ap (λ ps. map row_of_pair ps ++ pairs_of_keys (drop m ks)) f ∙ ap (λ rs. rs ++ pairs_of_keys (drop m ks)) (map_push row_of_pair pairs k.0)
            ∙ append_assoc (map row_of_pair pairs) (row_of_pair k.0 ∷ []) (pairs_of_keys (drop m ks)) ∙ ap (λ rs. map row_of_pair pairs ++ rs) (sym r.first) ∙ c.pairs_are;
        rows_are = ap (λ rs. rs ++ map (nodes_of_row (drop m ks)) (pairs_of_keys (drop m ks))) h
            ∙ append_assoc rows (map (λ (q : Key). q.1) (take (suc m) (k ∷ ks)) ∷ []) (map (nodes_of_row (drop m ks)) (pairs_of_keys (drop m ks)))
            ∙ ap (λ rs. rows ++ map (λ (q : Key). q.1) (take (suc m) (k ∷ ks)) ∷ rs) (sym others)
            ∙ ap (λ row. rows ++ row ∷ map (nodes_of_row (k ∷ ks)) (pairs_of_keys (drop m ks))) (sym whole.own)
            ∙ ap (λ rs. rows ++ map (nodes_of_row (k ∷ ks)) rs) (sym r.first) ∙ c.rows_are;
        ascends = r.ascends;
      }

  pub cut_next : (rest : List Key) → IsCutUpTo keys rest pairs rows → 0 < length rest → (first : Key) → first ≡ get_or rest 0 first → (n : ℕ) → n ≡ prefix_len (λ (q : Key). same_pair first.0 q.0) rest
      → (own later : List Key) → own ≡ take n rest → later ≡ drop n rest → (row : List ℕ) → row ≡ map (λ (q : Key). q.1) own → pairs' ≡ pairs ++ first.0 ∷ [] → rows' ≡ rows ++ row ∷ [] → IsCutUpTo keys later pairs' rows'
  cut_next [] c l first e n long own later o r row i f g = absurd (omega arith)
  cut_next (k ∷ ks) c l first e n long own later o r row i f g =
      subst (λ (qs : List Key). IsCutUpTo keys qs pairs' rows') (sym r)
      (cut_first k ks c n (long ∙ ap (λ (q : Key). prefix_len (λ (x : Key). same_pair q.0 x.0) (k ∷ ks)) e) (f ∙ ap (λ (q : Key). pairs ++ q.0 ∷ []) e)
      (g ∙ ap (λ ns. rows ++ ns ∷ []) (i ∙ ap (map (λ (q : Key). q.1)) o)))

pub some_keys : (n : ℕ) → false ≡ eqb n 0 → 0 < n
some_keys zero e = absurd cc
some_keys (suc n) e = omega arith

pub no_keys : (n : ℕ) → true ≡ eqb n 0 → n ≡ 0
no_keys n e = (Decides-eqb n 0).0 (sym e)

-- ---- sorted keys
weak : IsStrictWeakOrder (λ (x y : Key). is_lt (pair_order x.0 y.0))
weak = subst (λ (f : Key → Key → Bool). IsStrictWeakOrder f) (λ i x y. is_lt (pair_order_is x.0 y.0 i)) (ranks_by nat_list_cmp_total (λ (k : Key). row_of_pair k.0))

pub ascends_from : (keys : List Key) → IsSortedByKey (λ (k : Key). k.0) pair_order keys → Ascends keys
ascends_from keys s = at keys (λ i j d a b. sorted_far (λ (x y : Key). is_lt (pair_order x.0 y.0)) weak keys s i j d a b)
  where
    firsts : (k : Key) (ks : List Key) → ((j : ℕ) (d : Key) → j < length ks → is_lt (pair_order (get_or ks j d).0 k.0) ≡ false) → AllByRecursion (λ (q : Key). is_lt (pair_order q.0 k.0) ≡ false) ks
    firsts k [] h = tt
    firsts k (q ∷ ks) h = (h 0 q (omega arith), firsts k ks (λ j d l. h (suc j) d (omega arith)))

    at : (ks : List Key) → ((i j : ℕ) (d : Key) → i ≤ j → j < length ks → is_lt (pair_order (get_or ks j d).0 (get_or ks i d).0) ≡ false) → Ascends ks
    at [] h = tt
    at (k ∷ ks) h = (firsts k ks (λ j d l. h 0 (suc j) d (omega arith) (omega arith)), at ks (λ i j d a b. h (suc i) (suc j) d (omega arith) (omega arith)))

ties_are : (p q : Pair) → (not (is_lt (pair_order p q)) && not (is_lt (pair_order q p))) ≡ same (row_of_pair p) (row_of_pair q)
ties_are p q =
    ap (λ o. not (is_lt o) && not (is_lt (pair_order q p))) (sym (pair_order_is p q)) ∙ ap (λ o. not (is_lt (order (row_of_pair p) (row_of_pair q))) && not (is_lt o)) (sym (pair_order_is q p))
    ∙ at (order (row_of_pair p) (row_of_pair q)) refl
  where
    x : List ℕ
    x = row_of_pair p

    y : List ℕ
    y = row_of_pair q

    at : (o : Ordering) → order (row_of_pair p) (row_of_pair q) ≡ o
        → (not (is_lt (order (row_of_pair p) (row_of_pair q))) && not (is_lt (order (row_of_pair q) (row_of_pair p)))) ≡ same (row_of_pair p) (row_of_pair q)
    at Less e = ap (λ o. not (is_lt o) && not (is_lt (order y x))) e ∙ sym (not_alike x y e)
    at Equal e =
        let r : x ≡ y = one_row x y e in
        ap (λ o. not (is_lt o) && not (is_lt (order y x))) e ∙ ap (λ (w : List ℕ). not (is_lt (order y w))) r ∙ ap (λ o. not (is_lt o)) (itself y) ∙ sym ((bytes_decides x y).1 r)
    at Greater e =
        let k : order y x ≡ Less = nat_list_cmp_total.antisymm y x ∙ ap ordering_reverse e in
        let d : same x y ≡ false = swapped (not_alike y x k) in
        ap (λ o. not (is_lt (order x y)) && not (is_lt o)) k ∙ and_false (not (is_lt (order x y))) ∙ sym d
      where
        and_false : (b : Bool) → (b && false) ≡ false
        and_false true = refl
        and_false false = refl

        swapped : same (row_of_pair q) (row_of_pair p) ≡ false → same (row_of_pair p) (row_of_pair q) ≡ false
        swapped f = to (same x y) refl
          where
            to : (b : Bool) → same (row_of_pair p) (row_of_pair q) ≡ b → b ≡ false
            to true s = absurd (let t = (bytes_decides y x).1 (sym ((bytes_decides x y).0 s)) in cc)
            to false s = refl

module _ (made keys : List Key) (s : AreSortedKeys made keys) where
  -- the nodes of a pair stand as before
  kept_rows : (p : Pair) → nodes_of_row keys (row_of_pair p) ≡ nodes_of_row made (row_of_pair p)
  kept_rows p =
      let tied = λ (k : Key). not (is_lt (pair_order p k.0)) && not (is_lt (pair_order k.0 p)) in
      let alike = λ (k : Key). same (row_of_pair p) (row_of_pair k.0) in
      let e : tied ≡ alike = λ i k. ties_are p k.0 i in
      ap (map (λ (k : Key). k.1)) (ap (λ f. filter f keys) (sym e) ∙ s.stable (p, 0) ∙ ap (λ f. filter f made) e)

  pub kept_pairs : pairs_of_keys keys ≡ pairs_of_keys made
  kept_pairs =
      let there = IsPermutation-map (λ (k : Key). row_of_pair k.0) made keys s.permutation in
      let back = IsPermutation-sym (rows_of_keys made) (rows_of_keys keys) there in
      let t = table_is (rows_of_keys keys) in
      is_table (rows_of_keys made) (pairs_of_keys keys) (record {
        rises = table_rises (rows_of_keys keys);
        each = λ x c. t.each x (Contains-permutation (rows_of_keys made) (rows_of_keys keys) x there c);
        used = λ x c. Contains-permutation (rows_of_keys keys) (rows_of_keys made) x back (t.used x c);
      })

  pair_there : (ks : List Key) (row : List ℕ) → Among row (rows_of_keys ks) → (p : Pair) × (row_of_pair p ≡ row)
  pair_there [] row h = absurd h
  pair_there (k ∷ ks) row (inl e) = (k.0, e)
  pair_there (k ∷ ks) row (inr h) = pair_there ks row h

  pub kept : map (nodes_of_row keys) (pairs_of_keys keys) ≡ map (nodes_of_row made) (pairs_of_keys made)
  kept =
      same_map (nodes_of_row keys) (nodes_of_row made) (pairs_of_keys keys) (λ j d l. (
      let row = get_or (pairs_of_keys keys) j d in
      let p = pair_there keys row (among_table (rows_of_keys keys) row (among_at (pairs_of_keys keys) j d l)) in
      ap (nodes_of_row keys) (sym p.1) ∙ kept_rows p.0 ∙ ap (nodes_of_row made) p.1))
      ∙ ap (map (nodes_of_row made)) kept_pairs
