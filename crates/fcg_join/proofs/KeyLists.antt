-- Texts with their places, sorted.
use Rattle.std.proofs.Common.{◌≡◌, ℕ, zero, suc, ◌+◌, ◌-◌, ◌<◌, List, [], ◌∷◌, length, get_or, refl, sym, ap, subst, ◌∙◌, inl, inr, arith}
use Rattle.std.specs.Prelude.{Bool, false, nat_eq, ◌↔◌, IsTrue, Contains, All}
use Rattle.std.specs.Cmp.Lexicographic.{pointwise, bytes_decides}
use Rattle.std.specs.Borrow.{Bor}
use Rattle.std.specs.List.Sorted.{IsPermutation, IsSorted}
use Rattle.std.specs.Ordering.{is_lt, nat_cmp, ordering_then}
use Rattle.std.specs.declared.cmp.Ordering.{Ordering}
use Rattle.std.specs.declared.cmp.Ordering.TheVariants.{Less, Equal, Greater}
use Rattle.std.proofs.lemmas.List.{get_or-map}
use Rattle.std.proofs.lemmas.List.Elements.{All-from_recursion}
use Rattle.std.proofs.lemmas.List.Sorted.{Contains-permutation, All-permutation, length_permutation}
use Rattle.fcg_grammar.specs.Table.{order}
use Rattle.fcg_grammar.proofs.Among.{Among, Contains-among, all_from_among}
use Rattle.fcg_join.specs.Internal.Numbering.{Key, HasOwnText, EndsWith, with_places, AreKeys}
use Rattle.fcg_join.specs.Names.{texts_of}

module _ {X : Type 0} where
  places_long : (n : ℕ) (xs : List X) → length (with_places n xs) ≡ length xs
  places_long n [] = refl
  places_long n (x ∷ xs) = ap suc (places_long (n + 1) xs)

  place_in : (n : ℕ) (xs : List X) (p : ℕ) (d : X) → p < length xs → Among (get_or xs p d, n + p) (with_places n xs)
  place_in n [] p d l = absurd (omega arith)
  place_in n (x ∷ xs) zero d l = inl (let e : n ≡ n + 0 = omega arith in λ i. (x, e i))
  place_in n (x ∷ xs) (suc p) d l = inr (let e : (n + 1) + p ≡ n + suc p = omega arith in subst (λ (m : ℕ). Among (get_or xs p d, m) (with_places (n + 1) xs)) e (place_in (n + 1) xs p d (omega arith)))

  in_place : (n : ℕ) (xs : List X) (k : X × ℕ) → Among k (with_places n xs) → (p : ℕ) × (k.1 ≡ n + p) × (p < length xs) × (get_or xs p k.0 ≡ k.0)
  in_place n [] k h = absurd h
  in_place n (x ∷ xs) k (inl e) = (0, (let f = ap (λ (q : X × ℕ). q.1) e in omega arith), omega arith, ap (λ (q : X × ℕ). q.0) e)
  in_place n (x ∷ xs) k (inr h) = (let r = in_place (n + 1) xs k h in (suc r.0, (let f = r.1 in omega arith), (let l = r.2 in omega arith), r.3))

first_part : (a b : Ordering) → is_lt (ordering_then a b) ≡ false → is_lt a ≡ false
first_part Less b e = e
first_part Equal b e = refl
first_part Greater b e = e

abbrev pub key_order : Key → Key → Ordering
key_order x y = ordering_then (order x.0.now y.0.now) (nat_cmp x.1 y.1)

pub key_list : (texts : List (Bor (List ℕ))) (made sorted : List Key) → made ≡ with_places 0 texts → IsPermutation made sorted → IsSorted key_order sorted → AreKeys texts sorted
key_list texts made sorted e p s = record {
  long = length_permutation made sorted p ∙ ap (λ ks. length ks) e ∙ places_long 0 texts;
  in_order = λ k d l. first_part (order (get_or sorted (k + 1) d).0.now (get_or sorted k d).0.now) (nat_cmp (get_or sorted (k + 1) d).1 (get_or sorted k d).1) (s k d (omega arith) l);
  each = λ q l d. Contains-permutation made sorted (get_or texts q d, q) p (subst (λ (ks : List Key). Contains ks (get_or texts q d, q)) (sym e) (Contains-among (get_or texts q d, q) (with_places 0 texts) (subst (λ (m : ℕ). Among (get_or texts q d, m) (with_places 0 texts)) (omega arith) (place_in 0 texts q d l))));
  used = All-permutation (HasOwnText texts) made sorted p (subst (λ (ks : List Key). All (HasOwnText texts) ks) (sym e) (All-from_recursion (HasOwnText texts) (with_places 0 texts) (all_from_among (HasOwnText texts) (with_places 0 texts) (λ k h. is k (in_place 0 texts k h)))));
}
  where
    is : (k : Key) → ((p : ℕ) × (k.1 ≡ 0 + p) × (p < length texts) × (get_or texts p k.0 ≡ k.0)) → HasOwnText texts k
    is k r = ((let e = r.1 in let l = r.2 in omega arith), subst (λ (q : ℕ). get_or texts q k.0 ≡ k.0) (let e = r.1 in omega arith) r.3)

pub text_is : (texts : List (Bor (List ℕ))) (p : ℕ) (d : Bor (List ℕ)) → p < length texts → get_or (texts_of texts) p [] ≡ (get_or texts p d).now
text_is texts p d l = get_or-map (λ (t : Bor (List ℕ)). t.now) texts p d [] l

pub ends : (texts : List (Bor (List ℕ))) (places : List ℕ) (text : List ℕ) (place : ℕ) (d : Bor (List ℕ)) (r : Bool) → 0 < length places → place ≡ get_or places (length places - 1) 0 → place < length texts
    → r ≡ pointwise nat_eq (get_or texts place d).now text → IsTrue r ↔ EndsWith (texts_of texts) places text
ends texts places text place d r some last l e =
    let m : get_or (texts_of texts) (get_or places (length places - 1) 0) [] ≡ (get_or texts place d).now = ap (λ p. get_or (texts_of texts) p []) (sym last) ∙ text_is texts place d l in (
      (λ t. (some, m ∙ (bytes_decides (get_or texts place d).now text).0 (sym e ∙ t))),
      (λ w. e ∙ (bytes_decides (get_or texts place d).now text).1 (sym m ∙ w.1)),
    )
