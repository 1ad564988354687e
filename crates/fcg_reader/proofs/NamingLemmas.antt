-- NamesMore that are made of texts, one after the other.
use Rattle.std.proofs.Common.{◌≡◌, ◌⊎◌, inl, inr, ℕ, suc, ◌<◌, List, [], ◌∷◌, ◌++◌, length, map, get_or, ◌+◌, refl, sym, subst, ◌∙◌, arith}
use Rattle.std.specs.List.{All}
use Rattle.std.proofs.lemmas.List.{append-nil, length_push, get_or_push, get_or_append_left}
use Rattle.std.proofs.lemmas.List.Elements.{All-push}
use Rattle.fcg_views.specs.NamesIn.{TextNumbers, names_by}
use Rattle.fcg_views.specs.NamesIn as numbered
use Rattle.fcg_classfile.specs.Breaks.Pool.{Entries}
use Rattle.fcg_reader.specs.Internal.Rows.{text_in}
use Rattle.fcg_reader.specs.Internal.Naming.{Named, IsNumberOf, NumberKept, NamesMore, IsNamed}

-- ---- a text more

abbrev pub with_text : TextNumbers → List ℕ → TextNumbers
with_text list text = record { block = list.block; texts = list.texts ++ text ∷ []; numbers = list.numbers }

-- the texts of the numbers that there were are as before
same_texts : (texts : List (List ℕ)) (text : List ℕ) (numbers : List ℕ) → All (λ n. n < length texts) numbers → map (numbered.text_in (texts ++ text ∷ [])) numbers ≡ map (numbered.text_in texts) numbers
same_texts texts text [] below = refl
same_texts texts text (n ∷ ns) below =
    let first : n < length texts = below 0 n (omega arith) in
    rw (get_or_append_left texts (text ∷ []) [] n first, same_texts texts text ns (λ k d lt. below (suc k) d (omega (arith, lt)))) refl

module _ (pool : Entries) (list now : TextNumbers) (text : List ℕ) (added : now ≡ with_text list text) where
  abbrev before : Named
  before = record { pool = pool; list = list }

  abbrev after : Named
  after = record { pool = pool; list = now }

  pub names_kept : (old new : List ℕ) → IsNamed before old → NamesMore before after []
  names_kept old new was = record { pool = refl; names = rw added (same_texts list.texts text list.numbers was.below) ∙ sym (append-nil (names_by list)) }

  -- a number is that of the same text
  number_kept : (i number : ℕ) → IsNumberOf before i number → IsNumberOf after i number
  number_kept i number was =
      let lt = was.0 in
      let more = length_push list.texts text in
      (rw added (omega (arith, lt, more)), rw added (get_or_append_left list.texts (text ∷ []) [] number was.0 ∙ was.1))

  pub number_added : (index number : ℕ) → number ≡ length list.texts → text ≡ text_in pool index → IsNumberOf after index number
  number_added index number last is =
      let more = length_push list.texts text in
      (rw added (omega (arith, last, more)), rw added (get_or_push list.texts text [] number (sym last) ∙ is))

  all_below : All (λ n. n < length list.texts) list.numbers → All (λ n. n < length now.texts) now.numbers
  all_below below = rw added (λ k d lt. (let here = below k d lt in let more = length_push list.texts text in omega (arith, here, more)))

  pub named_added : (index number : ℕ) (old new : List ℕ) → number ≡ length list.texts → text ≡ text_in pool index → NumberKept index number old new → IsNamed before old → IsNamed after new
  named_added index number old new last is kept was = record {
    block = rw added was.block;
    below = all_below was.below;
    kept = λ i n found. by i n (kept i n found);
  }
    where
      by : (i n : ℕ) → (get_or old i 0 ≡ n + 1) ⊎ ((i ≡ index) × (n ≡ number)) → IsNumberOf after i n
      by i n (inl known) = number_kept i n (was.kept i n known)
      by i n (inr one) = subst (λ (m : ℕ). IsNumberOf after i m) (sym one.1) (subst (λ (j : ℕ). IsNumberOf after j number) (sym one.0) (number_added index number last is))

-- ---- a name more

pub named_push : (pool : Entries) (list now : TextNumbers) (number : ℕ) (numbers : List ℕ) → now ≡ record { block = list.block; texts = list.texts; numbers = list.numbers ++ number ∷ [] } → number < length list.texts
    → IsNamed (record { pool = pool; list = list }) numbers → IsNamed (record { pool = pool; list = now }) numbers
named_push pool list now number numbers pushed lt was = rw pushed (record {
  block = was.block;
  below = All-push (λ n. n < length list.texts) list.numbers number was.below lt;
  kept = was.kept;
})
