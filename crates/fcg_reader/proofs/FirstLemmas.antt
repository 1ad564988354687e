-- The first indexes of texts.
use Rattle.std.proofs.Common.{◌≡◌, ◌⊎◌, inl, inr, ℕ, List, Bool, true, false, cond, get_or, nat_eq, ◌==◌, ◌&&◌, ◌<◌, length, slice_set, refl, sym, ap, ◌∙◌}
use Rattle.std.specs.Prelude.{Option, Some, None, Result, Ok, Err, IfOk, OnErr}
use Rattle.std.specs.declared.alloc.AllocError.{AllocError}
use Rattle.std.specs.Option.{unwrap_or}
use Rattle.std.specs.Bool.{Decides}
use Rattle.std.specs.Ordering.{is_eq, nat_cmp, ordering_then}
use Rattle.std.specs.declared.cmp.Ordering.{Ordering}
use Rattle.std.specs.declared.cmp.Ordering.TheVariants.{Less, Equal, Greater}
use Rattle.std.specs.Cmp.{unsigned_ties}
use Rattle.std.specs.Cmp.Lexicographic.{pointwise, slice_cmp, texts_ties}
use Rattle.std.proofs.lemmas.Bool.Decides.{Decides-eqb, not_from_Decides, same_from_decides}
use Rattle.std.proofs.lemmas.Grind.{get_or-set_at}
use Rattle.std.proofs.lemmas.List.{get_or-set_other}
use Rattle.fcg_classfile.specs.Breaks.Pool.{Entries, text_of}
use Rattle.fcg_grammar.proofs.Standing.{ok_is}
use Rattle.fcg_classfile.proofs.WordLaws.{same_text}
use Rattle.fcg_reader.specs.Internal.FirstIndexes.{Known, text_cmp, first_in, Adds, AreKnown, Grows, AreFirsts}

pub some_is : (a b : ℕ) → Some a ≡ Some b → a ≡ b
some_is a b e = cc

pub at_bool : (b : Bool) → (b ≡ true) ⊎ (b ≡ false)
at_bool true = inl refl
at_bool false = inr refl

-- Two texts are the same where their first indexes are.
pub same_first : (pool : Entries) (known : Known) → AreKnown pool known → (i j : ℕ) (p q : List ℕ) → first_in known p ≡ Some i → first_in known q ≡ Some j
    → is_eq (nat_cmp i j) ≡ pointwise nat_eq p q
same_first pool known are i j p q at_i at_j =
    sym (unsigned_ties i j) ∙ same_from_decides (i == j) (pointwise nat_eq p q) first (same_text p q)
  where
    first : Decides (i == j) (p ≡ q)
    first = (
      (λ e. ok_is p q (sym (are p i at_i) ∙ ap (λ (n : ℕ). text_of pool n) ((Decides-eqb i j).0 e) ∙ are q j at_j)),
      (λ e. (Decides-eqb i j).1 (some_is i j (sym at_i ∙ ap (λ (t : List ℕ). first_in known t) e ∙ at_j))),
    )

-- An index is that of one text.
pub one_text : (pool : Entries) (known : Known) → AreKnown pool known → (i : ℕ) (p q : List ℕ) → first_in known p ≡ Some i → first_in known q ≡ Some i → p ≡ q
one_text pool known are i p q at_p at_q = ok_is p q (sym (are p i at_p) ∙ are q i at_q)

-- ---- a text more

pub both_equal : (a b : Ordering) → is_eq (ordering_then a b) ≡ (is_eq a && is_eq b)
both_equal Less b = refl
both_equal Equal b = refl
both_equal Greater b = refl

-- texts of one order are the same
text_ties : (s t : List ℕ) → is_eq (text_cmp (length s, s) (length t, t)) ≡ pointwise nat_eq s t
text_ties s t =
    both_equal (nat_cmp (length s) (length t)) (slice_cmp nat_cmp s t)
    ∙ rw (← unsigned_ties (length s) (length t), ← texts_ties s t) (split (at_bool (pointwise nat_eq s t)))
  where
    split : (pointwise nat_eq s t ≡ true) ⊎ (pointwise nat_eq s t ≡ false) → (length s == length t && pointwise nat_eq s t) ≡ pointwise nat_eq s t
    split (inl same) =
        let lengths : (length s == length t) ≡ true = (Decides-eqb (length s) (length t)).1 (ap (λ (u : List ℕ). length u) ((same_text s t).0 same)) in
        rw (lengths, same) refl
    split (inr other) = rw other (none (length s == length t))
      where
        none : (b : Bool) → (b && false) ≡ false
        none true = refl
        none false = refl

after : (old new : Known) (here : List ℕ) (index : ℕ) → Adds old new here index → (t : List ℕ) → first_in new t ≡ cond (pointwise nat_eq here t) (Some index) (first_in old t)
after old new here index adds t = adds t ∙ rw (text_ties here t) refl

pub added_first : (old new : Known) (here : List ℕ) (first : ℕ) → Adds old new here first → first_in new here ≡ Some first
added_first old new here first adds = after old new here first adds here ∙ rw ((same_text here here).1 refl) refl

pub added_grows : (old new : Known) (here : List ℕ) (index first : ℕ) → first ≡ unwrap_or (first_in old here) index → Adds old new here first → Grows old new
added_grows old new here index first is adds t c e = after old new here first adds t ∙ split (at_bool (pointwise nat_eq here t))
  where
    split : (pointwise nat_eq here t ≡ true) ⊎ (pointwise nat_eq here t ≡ false) → cond (pointwise nat_eq here t) (Some first) (first_in old t) ≡ Some c
    split (inl same) =
        let had : first_in old here ≡ Some c = ap (λ (u : List ℕ). first_in old u) ((same_text here t).0 same) ∙ e in
        rw same (ap Some (is ∙ ap (λ (o : Option ℕ). unwrap_or o index) had))
    split (inr other) = rw other e

pub added_known : (pool : Entries) (old new : Known) (here : List ℕ) (index first : ℕ) → text_of pool index ≡ Ok here → first ≡ unwrap_or (first_in old here) index → Adds old new here first → AreKnown pool old → AreKnown pool new
added_known pool old new here index first at is adds are t c e = back (at_bool (pointwise nat_eq here t)) (sym (after old new here first adds t) ∙ e)
  where
    named : (o : Option ℕ) → first_in old here ≡ o → text_of pool (unwrap_or o index) ≡ Ok here
    named None had = at
    named (Some f) had = are here f had

    back : (pointwise nat_eq here t ≡ true) ⊎ (pointwise nat_eq here t ≡ false) → cond (pointwise nat_eq here t) (Some first) (first_in old t) ≡ Some c → text_of pool c ≡ Ok t
    back (inl same) e2 = ap (λ (n : ℕ). text_of pool n) (sym (some_is first c (rw same at e2)) ∙ is) ∙ named (first_in old here) refl ∙ ap Ok ((same_text here t).0 same)
    back (inr other) e2 = are t c (rw other at e2)

-- what a call leaves that adds a text, with memory or without
pub record IsLeft (pool : Entries) (old new : Known) (here : List ℕ) (result : Result ℕ AllocError) : Type 0 where
  pub grows : Grows old new
  pub known : AreKnown pool new
  pub first : IfOk result (λ first. first_in new here ≡ Some first)

pub left_of : (pool : Entries) (old new : Known) (here : List ℕ) (index : ℕ) (result : Result ℕ AllocError) → text_of pool index ≡ Ok here → AreKnown pool old
    → IfOk result (λ first. first ≡ unwrap_or (first_in old here) index) → IfOk result (Adds old new here) → OnErr result ((t : List ℕ) → first_in new t ≡ first_in old t) → IsLeft pool old new here result
left_of pool old new here index (Ok first) at are is adds same = record {
  grows = added_grows old new here index first is adds;
  known = added_known pool old new here index first at is adds are;
  first = added_first old new here first adds;
}
left_of pool old new here index (Err e) at are is adds same = record {
  grows = λ t c e. same t ∙ e;
  known = λ t c e. are t c (sym (same t) ∙ e);
  first = is;
}

pub firsts_grow : (pool : Entries) (old new : Known) (firsts : List ℕ) → Grows old new → AreFirsts pool old firsts → AreFirsts pool new firsts
firsts_grow pool old new firsts grows are i text at some = grows text (get_or firsts i 0) (are i text at some)

pub firsts_set : (pool : Entries) (known : Known) (firsts : List ℕ) (i first : ℕ) (here : List ℕ) → text_of pool i ≡ Ok here → first_in known here ≡ Some first → i < length firsts → AreFirsts pool known firsts → AreFirsts pool known (slice_set firsts i first)
firsts_set pool known firsts i first here at is lt are j text there some = split (at_bool (j == i))
  where
    split : ((j == i) ≡ true) ⊎ ((j == i) ≡ false) → first_in known text ≡ Some (get_or (slice_set firsts i first) j 0)
    split (inl same) =
        let e : j ≡ i = (Decides-eqb j i).0 same in
        let texts : text ≡ here = ok_is text here (sym there ∙ ap (λ (n : ℕ). text_of pool n) e ∙ at) in
        ap (λ (t : List ℕ). first_in known t) texts ∙ is ∙ ap Some (sym (get_or-set_at firsts i j first 0 e lt))
    split (inr other) =
        let kept = get_or-set_other firsts i j first 0 (not_from_Decides (j == i) (Decides-eqb j i) other) in
        are j text there (λ (z : get_or firsts j 0 ≡ 0). some (kept ∙ z)) ∙ ap Some (sym kept)
