-- The first indexes of a pool's texts, of those that were asked for.
use Rattle.std.specs.Prelude.{◌≡◌, ℕ, List, length, slice_index_or, Option, Some, Ok, if◌then◌else◌}
use Rattle.std.specs.Borrow.{Bor}
use Rattle.std.specs.Ordering.{is_eq, nat_cmp, ordering_then}
use Rattle.std.specs.declared.cmp.Ordering.{Ordering}
use Rattle.std.specs.Cmp.Lexicographic.{slice_cmp}
use Rattle.std.specs.BTreeMap as tree
use Rattle.std.specs.BTreeMap.{BTreeMap}
use Rattle.fcg_classfile.specs.Breaks.Pool.{Entries, text_of}

-- texts with their lengths, and for each an index of it
abbrev pub Known : Type 0
Known = BTreeMap (ℕ × Bor (List ℕ)) ℕ

-- the order of texts by their lengths, and of those of one length by their bytes
abbrev pub text_cmp : ℕ × List ℕ → ℕ × List ℕ → Ordering
text_cmp x y = ordering_then (nat_cmp x.0 y.0) (slice_cmp nat_cmp x.1 y.1)

-- the index that a map has for a text
abbrev pub first_in : Known → List ℕ → Option ℕ
first_in known text = tree.get_by (λ key. text_cmp (length text, text) (key.0, key.1.now)) known

-- a map has this text, by this index, beside the texts of another
abbrev pub Adds : Known → Known → List ℕ → ℕ → Type 0
Adds old new here index = (t : List ℕ) → first_in new t ≡ if is_eq (text_cmp (length here, here) (length t, t)) then Some index else first_in old t

-- what a map has is an index of the text
abbrev pub AreKnown : Entries → Known → Type 0
AreKnown pool known = (text : List ℕ) (c : ℕ) → first_in known text ≡ Some c → text_of pool c ≡ Ok text

-- each text keeps its index
abbrev pub Grows : Known → Known → Type 0
Grows old new = (text : List ℕ) (c : ℕ) → first_in old text ≡ Some c → first_in new text ≡ Some c

-- what stands at the index of a Utf8 is the index of its text; 0 says nothing
abbrev pub AreFirsts : Entries → Known → List ℕ → Type 0
AreFirsts pool known firsts = (i : ℕ) (text : List ℕ) → text_of pool i ≡ Ok text → (slice_index_or firsts i 0 ≡ 0 → ⊥) → first_in known text ≡ Some (slice_index_or firsts i 0)

pub record AreAsked (pool : Entries) (known : Known) (firsts : List ℕ) : Type 0 where
  pub known_are : AreKnown pool known
  pub firsts_are : AreFirsts pool known firsts

-- no text was asked for
abbrev pub AllUnasked : List ℕ → Type 0
AllUnasked firsts = (i : ℕ) → slice_index_or firsts i 0 ≡ 0
