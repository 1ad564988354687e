-- Which numbers were seen so far.
use Rattle.std.proofs.Common.{◌≡◌, ℕ, ◌+◌, ◌<◌, ◌≤◌, List, [], ◌∷◌, ◌++◌, length, get_or, set, take, drop, replicate, refl, sym, ap, ◌∙◌, inl, inr, arith, eqb}
use Rattle.std.specs.Prelude.{Bool, true, false, not, ◌||◌}
use Rattle.std.specs.List.{list_any}
use Rattle.std.proofs.lemmas.Bool.{cases_eq}
use Rattle.std.proofs.lemmas.Bool.Decides.{Decides-eqb}
use Rattle.std.proofs.lemmas.List.{take_more, drop_more, get_or-set_same, get_or-set_other, length-set, get_or-replicate, length-replicate, append_assoc, append-nil, drop_all}
use Rattle.std.proofs.lemmas.List.Folds.{list_any-append}
use Rattle.fcg_join.specs.Winners.{first_marks_after}

abbrev pub was_seen : List ℕ → ℕ → Bool
was_seen before n = list_any (λ m. eqb m n) before

-- after i numbers
pub record AreSeen (numbers : List ℕ) (seen marks : List Bool) (count i : ℕ) : Type 0 where
  pub long : length seen ≡ count
  pub each : (n : ℕ) → n < count → get_or seen n false ≡ was_seen (take i numbers) n
  pub marks_are : marks ++ first_marks_after (take i numbers) (drop i numbers) ≡ first_marks_after [] numbers

pub seen_none : (numbers : List ℕ) (seen : List Bool) (count : ℕ) → seen ≡ replicate count false → AreSeen numbers seen [] count 0
seen_none numbers seen count e = record {
  long = ap (λ ms. length ms) e ∙ length-replicate count false;
  each = λ n l. ap (λ ms. get_or ms n false) e ∙ get_or-replicate count n false false l;
  marks_are = refl;
}

pub seen_more : (numbers : List ℕ) (seen marks : List Bool) (count i d : ℕ) (first : Bool) → i < length numbers → get_or numbers i d < count → AreSeen numbers seen marks count i
    → first ≡ not (get_or seen (get_or numbers i d) false) → AreSeen numbers (set seen (get_or numbers i d) true) (marks ++ first ∷ []) count (i + 1)
seen_more numbers seen marks count i d first l small a e = record {
  long = length-set seen (get_or numbers i d) true ∙ a.long;
  each = λ n b. (let t : was_seen (take (i + 1) numbers) n ≡ (was_seen (take i numbers) n || (eqb (get_or numbers i d) n || false)) =
      ap (λ xs. was_seen xs n) (take_more numbers i d l) ∙ list_any-append (λ m. eqb m n) (take i numbers) (get_or numbers i d ∷ []) in
      (elim (cases_eq n (get_or numbers i d)) [
        | inl q ↦ ap (λ j. get_or (set seen (get_or numbers i d) true) j false) q ∙ get_or-set_same seen (get_or numbers i d) true false (let m = a.long in omega arith)
            ∙ sym (t ∙ ap (λ x. was_seen (take i numbers) n || (x || false)) ((Decides-eqb (get_or numbers i d) n).1 (sym q)) ∙ or_true (was_seen (take i numbers) n))
        | inr ne ↦ get_or-set_other seen (get_or numbers i d) n true false ne ∙ a.each n b
            ∙ sym (t ∙ ap (λ x. was_seen (take i numbers) n || (x || false)) (apart n ne) ∙ or_false (was_seen (take i numbers) n))
      ]));
  marks_are = append_assoc marks (first ∷ []) (first_marks_after (take (i + 1) numbers) (drop (i + 1) numbers))
      ∙ ap (λ ms. marks ++ ms) (sym (ap (first_marks_after (take i numbers)) (drop_more numbers i d l)
      ∙ ap (λ b. b ∷ first_marks_after (take i numbers ++ get_or numbers i d ∷ []) (drop (i + 1) numbers)) (ap not (sym (a.each (get_or numbers i d) small)) ∙ sym e)
      ∙ ap (λ xs. first ∷ first_marks_after xs (drop (i + 1) numbers)) (sym (take_more numbers i d l))))
      ∙ a.marks_are;
}
  where
    or_true : (b : Bool) → (b || true) ≡ true
    or_true true = refl
    or_true false = refl

    or_false : (b : Bool) → (b || false) ≡ b
    or_false true = refl
    or_false false = refl

    apart : (n : ℕ) → (n ≡ get_or numbers i d → ⊥) → eqb (get_or numbers i d) n ≡ false
    apart n ne = go (eqb (get_or numbers i d) n) refl
      where
        go : (b : Bool) → eqb (get_or numbers i d) n ≡ b → b ≡ false
        go true q = absurd (ne (sym ((Decides-eqb (get_or numbers i d) n).0 q)))
        go false q = refl

pub seen_all : (numbers : List ℕ) (seen marks : List Bool) (count i : ℕ) → length numbers ≤ i → AreSeen numbers seen marks count i → marks ≡ first_marks_after [] numbers
seen_all numbers seen marks count i l a =
    sym (append-nil marks) ∙ sym (ap (λ xs. marks ++ first_marks_after (take i numbers) xs) (drop_all i numbers l)) ∙ a.marks_are
