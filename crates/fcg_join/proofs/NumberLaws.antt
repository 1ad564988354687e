-- Texts are numbered key by key.
use Rattle.std.proofs.Common.{◌≡◌, ℕ, zero, suc, ◌+◌, ◌-◌, ◌<◌, ◌≤◌, List, [], ◌∷◌, ◌++◌, length, get_or, set, take, refl, sym, ap, subst, ◌∙◌, ◌⊎◌, inl, inr, arith}
use Rattle.std.specs.Prelude.{Bool, true, false, nat_eq, map}
use Rattle.std.specs.Borrow.{Bor}
use Rattle.std.specs.Cmp.Lexicographic.{pointwise, bytes_decides}
use Rattle.std.specs.Ordering.{is_lt, ordering_reverse}
use Rattle.std.specs.List.Sorted.{IsStrictlySortedBy}
use Rattle.std.specs.declared.cmp.Ordering.{Ordering}
use Rattle.std.specs.declared.cmp.Ordering.TheVariants.{Less, Equal, Greater}
use Rattle.std.proofs.lemmas.Bool.{cases_eq}
use Rattle.std.proofs.lemmas.Cmp.{nat_list_cmp_total}
use Rattle.std.proofs.lemmas.List.{length-append, length-set, length-map, map_push, take_more, take_all, get_or_default, get_or-map, get_or-append-add, get_or-set_same, get_or-set_other}
use Rattle.std.proofs.lemmas.List.Elements.{All-push}
use Rattle.std.proofs.lemmas.Map.Keys.{sorted_tail}
use Rattle.std.proofs.Math.ListN.{get_or-append}
use Rattle.fcg_grammar.specs.Table.{order, Rises, IsTable, table, place}
use Rattle.fcg_grammar.proofs.Among.{Among, among_either}
use Rattle.fcg_grammar.proofs.TableLaws.{above_first, rises_cons, one_row, is_table, place_at}
use Rattle.fcg_join.specs.Names.{texts_of, text_at, AreNumbered}
use Rattle.fcg_join.specs.Internal.Numbering.{Key, names_at, AreKeys, EndsWith, AddsPlace, AreNumberedUpTo}
use Rattle.fcg_join.proofs.KeyLists.{text_is}

-- ---- rising lists

pub rises_push : (xs : List (List ℕ)) (y : List ℕ) → Rises xs → ((z : List ℕ) → Among z xs → order z y ≡ Less) → Rises (xs ++ y ∷ [])
unfolding IsStrictlySortedBy
rises_push [] y r h = (tt, tt)
rises_push (x ∷ xs) y r h = rises_cons x (xs ++ y ∷ []) (λ z m. at z (among_either z xs (y ∷ []) m)) (rises_push xs y (sorted_tail order x xs r) (λ z m. h z (inr m)))
  where
    at : (z : List ℕ) → Among z xs ⊎ Among z (y ∷ []) → order x z ≡ Less
    at z (inl i) = above_first z x xs r i
    at z (inr (inl e)) = subst (λ (w : List ℕ). order x w ≡ Less) e (h x (inl refl))
    at z (inr (inr e)) = absurd e

-- the members before the last are less than it
below_last : (xs : List (List ℕ)) (y z : List ℕ) → Rises (xs ++ y ∷ []) → Among z (xs ++ y ∷ []) → (z ≡ y) ⊎ (order z y ≡ Less)
below_last [] y z r (inl e) = inl (sym e)
below_last [] y z r (inr e) = absurd e
below_last (x ∷ xs) y z r (inl e) = inr (subst (λ (w : List ℕ). order w y ≡ Less) e (above_first y x (xs ++ y ∷ []) r (end xs)))
  where
    end : (ws : List (List ℕ)) → Among y (ws ++ y ∷ [])
    end [] = inl refl
    end (w ∷ ws) = inr (end ws)
below_last (x ∷ xs) y z r (inr m) = below_last xs y z (sorted_tail order x (xs ++ y ∷ []) r) m

less_from : (x y : List ℕ) → is_lt (order y x) ≡ false → (x ≡ y → ⊥) → order x y ≡ Less
less_from x y n d = at (order x y) refl
  where
    at : (o : Ordering) → order x y ≡ o → o ≡ Less
    at Less e = refl
    at Equal e = absurd (d (one_row x y e))
    at Greater e = absurd (let k : order y x ≡ Less = nat_list_cmp_total.antisymm y x ∙ ap ordering_reverse e in let f : is_lt (order y x) ≡ true = ap is_lt k in cc)

-- ---- the last of the places

pub ends_or_not : (texts : List (List ℕ)) (places : List ℕ) (text : List ℕ) → EndsWith texts places text ⊎ (EndsWith texts places text → ⊥)
ends_or_not texts [] text = inr (λ e. let l = e.0 in omega arith)
ends_or_not texts (p ∷ ps) text = at (pointwise nat_eq (text_at texts (get_or (p ∷ ps) (length (p ∷ ps) - 1) 0)) text) refl
  where
    last : List ℕ
    last = text_at texts (get_or (p ∷ ps) (length (p ∷ ps) - 1) 0)

    at : (b : Bool) → pointwise nat_eq (text_at texts (get_or (p ∷ ps) (length (p ∷ ps) - 1) 0)) text ≡ b → EndsWith texts (p ∷ ps) text ⊎ (EndsWith texts (p ∷ ps) text → ⊥)
    at true e = inl (omega arith, (bytes_decides (text_at texts (get_or (p ∷ ps) (length (p ∷ ps) - 1) 0)) text).0 e)
    at false e = inr (λ w. (let k = (bytes_decides (text_at texts (get_or (p ∷ ps) (length (p ∷ ps) - 1) 0)) text).1 w.1 in cc))

-- the names end with the text of the last place
names_end : (texts : List (List ℕ)) (places : List ℕ) (text : List ℕ) → EndsWith texts places text → (front : List (List ℕ)) × (names_at texts places ≡ front ++ text ∷ [])
names_end texts places text e = at (length places) refl
  where
    at : (n : ℕ) → length places ≡ n → (front : List (List ℕ)) × (names_at texts places ≡ front ++ text ∷ [])
    at zero l = absurd (let k = e.0 in omega arith)
    at (suc n) l =
        let whole : places ≡ take n places ++ get_or places n 0 ∷ [] = sym (take_all (n + 1) places (omega arith)) ∙ take_more places n 0 (omega arith) in
        let last : get_or places n 0 ≡ get_or places (length places - 1) 0 = ap (λ k. get_or places k 0) (omega arith) in
        (names_at texts (take n places), ap (names_at texts) whole ∙ map_push (text_at texts) (take n places) (get_or places n 0) ∙ ap (λ t. names_at texts (take n places) ++ t ∷ []) (ap (text_at texts) last ∙ e.1))

module _ (texts : List (Bor (List ℕ))) (keys : List Key) (keyed : AreKeys texts keys) where
  own_text : (k : ℕ) (d : Key) → k < length keys → get_or (texts_of texts) (get_or keys k d).1 [] ≡ (get_or keys k d).0.now
  own_text k d l =
      let u = keyed.used k d l in
      text_is texts (get_or keys k d).1 (get_or keys k d).0 u.0 ∙ ap (λ (t : Bor (List ℕ)). t.now) u.1

  module _ (numbers places : List ℕ) (n : ℕ) (d : Key) (l : n < length keys) (a : AreNumberedUpTo texts keys numbers places n) where
    -- all names are less than a text that isn't the last
    all_less : (EndsWith (texts_of texts) places (get_or keys n d).0.now → ⊥) → (z : List ℕ) → Among z (names_at (texts_of texts) places) → order z (get_or keys n d).0.now ≡ Less
    all_less unlike z m = at n refl
      where
        none : (ps : List ℕ) → ps ≡ [] → Among z (names_at (texts_of texts) ps) → ⊥
        none [] e h = h
        none (p ∷ ps) e h = absurd (cc)

        at : (k : ℕ) → n ≡ k → order z (get_or keys n d).0.now ≡ Less
        at zero e = absurd (none places (a.first e) m)
        at (suc k) e =
            let some : 0 < n = omega arith in
            let last = a.last d some in
            let text = (get_or keys (n - 1) d).0.now in
            let f = names_end (texts_of texts) places text last in
            let apart : text ≡ (get_or keys n d).0.now → ⊥ = λ s. unlike (last.0, last.1 ∙ s) in
            let back : (n - 1) + 1 ≡ n = omega arith in
            let up : is_lt (order (get_or keys n d).0.now text) ≡ false = subst (λ (j : ℕ). is_lt (order (get_or keys j d).0.now text) ≡ false) back (keyed.in_order (n - 1) d (omega arith)) in
            let less : order text (get_or keys n d).0.now ≡ Less = less_from text (get_or keys n d).0.now up apart in
            go text less (below_last f.0 text z (subst Rises f.1 a.rises) (subst (λ (xs : List (List ℕ)). Among z xs) f.1 m))
          where
            go : (text : List ℕ) → order text (get_or keys n d).0.now ≡ Less → (z ≡ text) ⊎ (order z text ≡ Less) → order z (get_or keys n d).0.now ≡ Less
            go text less (inl s) = subst (λ (w : List ℕ). order w (get_or keys n d).0.now ≡ Less) (sym s) less
            go text less (inr s) = nat_list_cmp_total.trans z text (get_or keys n d).0.now s less

    -- the number of the next key is set
    each_after : (new : List ℕ) (m : ℕ) → length places ≤ length new → ((i : ℕ) → i < length places → get_or (names_at (texts_of texts) new) i [] ≡ get_or (names_at (texts_of texts) places) i [])
        → m < length new → get_or (names_at (texts_of texts) new) m [] ≡ (get_or keys n d).0.now
        → (k : ℕ) (e : Key) → k < n + 1 → (get_or (set numbers (get_or keys n d).1 m) (get_or keys k e).1 0 < length new)
        × (get_or (names_at (texts_of texts) new) (get_or (set numbers (get_or keys n d).1 m) (get_or keys k e).1 0) [] ≡ (get_or keys k e).0.now)
    each_after new m more kept small is k e b = elim (cases_eq (get_or keys k e).1 (get_or keys n d).1) [
      | inl s ↦ (let inside : (get_or keys n d).1 < length numbers = (let u = (keyed.used n d l).0 in let g = a.long in omega arith) in
          let number : get_or (set numbers (get_or keys n d).1 m) (get_or keys k e).1 0 ≡ m = ap (λ p. get_or (set numbers (get_or keys n d).1 m) p 0) s ∙ get_or-set_same numbers (get_or keys n d).1 m 0 inside in
          let text : (get_or keys n d).0.now ≡ (get_or keys k e).0.now = sym (own_text n d l) ∙ ap (λ p. get_or (texts_of texts) p []) (sym s) ∙ own_text k e (omega arith) in
          (subst (λ (i : ℕ). i < length new) (sym number) small, ap (λ i. get_or (names_at (texts_of texts) new) i []) number ∙ is ∙ text))
      | inr s ↦ (let number : get_or (set numbers (get_or keys n d).1 m) (get_or keys k e).1 0 ≡ get_or numbers (get_or keys k e).1 0 = get_or-set_other numbers (get_or keys n d).1 (get_or keys k e).1 m 0 s in
          let earlier : k < n = before s in
          let r = a.each k e earlier in
          (subst (λ (i : ℕ). i < length new) (sym number) (let q = r.0 in omega arith), ap (λ i. get_or (names_at (texts_of texts) new) i []) number ∙ kept (get_or numbers (get_or keys k e).1 0) r.0 ∙ r.1))
    ]
      where
        before : ((get_or keys k e).1 ≡ (get_or keys n d).1 → ⊥) → k < n
        before s = elim (cases_eq k n) [
          | inl q ↦ absurd (s (ap (λ j. (get_or keys j e).1) q ∙ ap (λ (x : Key). x.1) (get_or_default keys n e d l)))
          | inr q ↦ omega arith
        ]

    last_after : (new : List ℕ) → EndsWith (texts_of texts) new (get_or keys n d).0.now → (e : Key) → 0 < n + 1 → EndsWith (texts_of texts) new (get_or keys ((n + 1) - 1) e).0.now
    last_after new w e s =
        let same : get_or keys n d ≡ get_or keys ((n + 1) - 1) e = get_or_default keys n d e l ∙ ap (λ j. get_or keys j e) (omega arith) in
        subst (λ (x : Key). EndsWith (texts_of texts) new x.0.now) same w

    number_same : (m : ℕ) → EndsWith (texts_of texts) places (get_or keys n d).0.now → m + 1 ≡ length places → AreNumberedUpTo texts keys (set numbers (get_or keys n d).1 m) places (n + 1)
    number_same m w e = record {
      long = length-set numbers (get_or keys n d).1 m ∙ a.long;
      few = let f = a.few in omega arith;
      within = a.within;
      rises = a.rises;
      first = λ z. absurd (omega arith);
      last = last_after places w;
      each = each_after places m (omega arith) (λ i b. refl) (omega arith)
          (get_or-map (text_at (texts_of texts)) places m 0 [] (omega arith) ∙ ap (λ i. text_at (texts_of texts) (get_or places i 0)) (omega arith) ∙ w.1);
    }

    number_other : (m : ℕ) → (EndsWith (texts_of texts) places (get_or keys n d).0.now → ⊥) → m ≡ length places
        → AreNumberedUpTo texts keys (set numbers (get_or keys n d).1 m) (places ++ (get_or keys n d).1 ∷ []) (n + 1)
    number_other m unlike e = record {
      long = length-set numbers (get_or keys n d).1 m ∙ a.long;
      few = let f = a.few in let g = longer in omega arith;
      within = All-push (λ p. p < length texts) places (get_or keys n d).1 a.within (keyed.used n d l).0;
      rises = subst Rises (sym names) (rises_push (names_at (texts_of texts) places) (get_or keys n d).0.now a.rises (all_less unlike));
      first = λ z. absurd (omega arith);
      last = last_after (places ++ (get_or keys n d).1 ∷ []) ((let g = longer in omega arith), ap (text_at (texts_of texts)) at_end ∙ own_text n d l);
      each = each_after (places ++ (get_or keys n d).1 ∷ []) m (let g = longer in omega arith)
          (λ i b. ap (λ xs. get_or xs i []) names ∙ get_or-append (names_at (texts_of texts) places) ((get_or keys n d).0.now ∷ []) [] i (let q = names_long in omega arith)) (let g = longer in omega arith)
          (ap (λ xs. get_or xs m []) names ∙ ap (λ j. get_or (names_at (texts_of texts) places ++ (get_or keys n d).0.now ∷ []) j []) (let q = names_long in omega arith)
          ∙ get_or-append-add (names_at (texts_of texts) places) ((get_or keys n d).0.now ∷ []) 0 []);
    }
      where
        longer : length (places ++ (get_or keys n d).1 ∷ []) ≡ length places + 1
        longer = length-append places ((get_or keys n d).1 ∷ [])

        names_long : length (names_at (texts_of texts) places) ≡ length places
        names_long = length-map places (text_at (texts_of texts))

        names : names_at (texts_of texts) (places ++ (get_or keys n d).1 ∷ []) ≡ names_at (texts_of texts) places ++ (get_or keys n d).0.now ∷ []
        names = map_push (text_at (texts_of texts)) places (get_or keys n d).1 ∙ ap (λ t. names_at (texts_of texts) places ++ t ∷ []) (own_text n d l)

        at_end : get_or (places ++ (get_or keys n d).1 ∷ []) (length (places ++ (get_or keys n d).1 ∷ []) - 1) 0 ≡ (get_or keys n d).1
        at_end = ap (λ j. get_or (places ++ (get_or keys n d).1 ∷ []) j 0) (let g = longer in omega arith) ∙ get_or-append-add places ((get_or keys n d).1 ∷ []) 0 0

    pub number_next : (new : List ℕ) (m : ℕ) → AddsPlace (texts_of texts) places new (get_or keys n d) → m ≡ length new - 1 → AreNumberedUpTo texts keys (set numbers (get_or keys n d).1 m) new (n + 1)
    number_next new m adds e = elim (ends_or_not (texts_of texts) places (get_or keys n d).0.now) [
      | inl w ↦ (let s = adds.same w in subst (λ (ps : List ℕ). AreNumberedUpTo texts keys (set numbers (get_or keys n d).1 m) ps (n + 1)) (sym s) (number_same m w (let q = w.0 in let r = ap (λ ps. length ps) s in omega arith)))
      | inr w ↦ (let s = adds.other w in subst (λ (ps : List ℕ). AreNumberedUpTo texts keys (set numbers (get_or keys n d).1 m) ps (n + 1)) (sym s) (number_other m w (let r = ap (λ ps. length ps) s ∙ length-append places ((get_or keys n d).1 ∷ []) in omega arith)))
    ]

    -- there is a place after the next key, and at most as many places as keys
    pub some_place : (new : List ℕ) → AddsPlace (texts_of texts) places new (get_or keys n d) → (1 ≤ length new) × (length new ≤ n + 1)
    some_place new adds = elim (ends_or_not (texts_of texts) places (get_or keys n d).0.now) [
      | inl w ↦ (let q = w.0 in let r = ap (λ ps. length ps) (adds.same w) in let f = a.few in (omega arith, omega arith))
      | inr w ↦ (let r = ap (λ ps. length ps) (adds.other w) ∙ length-append places ((get_or keys n d).1 ∷ []) in let f = a.few in (omega arith, omega arith))
    ]

  start : (numbers : List ℕ) → length numbers ≡ length texts → AreNumberedUpTo texts keys numbers [] 0
  unfolding IsStrictlySortedBy
  start numbers e = record {
    long = e;
    few = omega arith;
    within = λ k d l. absurd (omega arith);
    rises = tt;
    first = λ z. refl;
    last = λ d l. absurd (omega arith);
    each = λ k d l. absurd (omega arith);
  }

  pub number_none : (numbers places : List ℕ) → length numbers ≡ length texts → places ≡ [] → AreNumberedUpTo texts keys numbers places 0
  number_none numbers places e f = subst (λ (ps : List ℕ). AreNumberedUpTo texts keys numbers ps 0) (sym f) (start numbers e)

  pub number_all : (numbers places : List ℕ) (n : ℕ) → length keys ≤ n → n ≤ length keys → AreNumberedUpTo texts keys numbers places n → AreNumbered (texts_of texts) numbers places
  number_all numbers places n up down a = record {
    of_texts = listed numbers (texts_of texts) (a.long ∙ sym long) (λ q l. number_is q l);
    within = λ k d l. (let w = a.within k d l in let g = long in omega arith);
    of_numbers = is;
  }
    where
      long : length (texts_of texts) ≡ length texts
      long = length-map texts (λ (t : Bor (List ℕ)). t.now)

      names_long : length (names_at (texts_of texts) places) ≡ length places
      names_long = length-map places (text_at (texts_of texts))

      empty : Bor (List ℕ)
      empty = record { ref_ptr = (0, 0); now = [] }

      -- the number of each text is the place of its name
      named : (q : ℕ) → q < length texts → (get_or numbers q 0 < length places) × (get_or (names_at (texts_of texts) places) (get_or numbers q 0) [] ≡ get_or (texts_of texts) q [])
      named q l =
          let c = keyed.each q l (record { ref_ptr = (0, 0); now = [] }) in
          let key : Key = (get_or texts q (record { ref_ptr = (0, 0); now = [] }), q) in
          let r = a.each c.0 key (let b = c.1 in omega arith) in
          let at : (get_or keys c.0 key).1 ≡ q = ap (λ (k : Key). k.1) c.2 in
          let text : (get_or keys c.0 key).0.now ≡ get_or (texts_of texts) q [] = ap (λ (k : Key). k.0.now) c.2 ∙ sym (text_is texts q (record { ref_ptr = (0, 0); now = [] }) l) in
          (subst (λ (p : ℕ). get_or numbers p 0 < length places) at r.0, ap (λ p. get_or (names_at (texts_of texts) places) (get_or numbers p 0) []) (sym at) ∙ r.1 ∙ text)

      is_of : IsTable (texts_of texts) (names_at (texts_of texts) places)
      is_of = record {
        rises = a.rises;
        each = λ x c. (let r = named c.0 (let b = c.1 in let g = long in omega arith) in (
          get_or numbers c.0 0,
          (let b = r.0 in let g = names_long in omega arith),
          get_or_default (names_at (texts_of texts) places) (get_or numbers c.0 0) x [] (let b = r.0 in let g = names_long in omega arith) ∙ r.1 ∙ get_or_default (texts_of texts) c.0 [] x c.1 ∙ c.2,
        ));
        used = λ x c. (let inside : c.0 < length places = (let b = c.1 in let g = names_long in omega arith) in
            let w = a.within c.0 0 inside in (
              get_or places c.0 0,
              (let g = long in omega arith),
              get_or_default (texts_of texts) (get_or places c.0 0) x [] (let g = long in omega arith) ∙ sym (get_or-map (text_at (texts_of texts)) places c.0 0 x inside) ∙ c.2,
            ));
      }

      is : names_at (texts_of texts) places ≡ table (texts_of texts)
      is = is_table (texts_of texts) (names_at (texts_of texts) places) is_of

      number_is : (q : ℕ) → q < length (texts_of texts) → get_or numbers q 0 ≡ place (table (texts_of texts)) (get_or (texts_of texts) q [])
      number_is q l =
          let r = named q (let g = long in omega arith) in
          sym (place_at (names_at (texts_of texts) places) (get_or numbers q 0) [] a.rises (let b = r.0 in let g = names_long in omega arith))
          ∙ ap (place (names_at (texts_of texts) places)) r.1 ∙ ap (λ rows. place rows (get_or (texts_of texts) q [])) is

      listed : (ns : List ℕ) (xs : List (List ℕ)) → length ns ≡ length xs → ((q : ℕ) → q < length xs → get_or ns q 0 ≡ place (table (texts_of texts)) (get_or xs q [])) → ns ≡ map (place (table (texts_of texts))) xs
      listed [] [] e h = refl
      listed [] (x ∷ xs) e h = absurd (omega arith)
      listed (m ∷ ns) [] e h = absurd (omega arith)
      listed (m ∷ ns) (x ∷ xs) e h = (let first = h 0 (omega arith) in let rest = listed ns xs (omega arith) (λ q l. h (suc q) (omega arith)) in λ i. first i ∷ rest i)
