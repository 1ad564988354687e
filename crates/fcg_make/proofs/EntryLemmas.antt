-- Entries that say the same, and the order of a map's keys.
use Rattle.std.proofs.Common.{◌≡◌, ℕ, Bool, true, false, ◌&&◌, eqb, List, refl, sym, ◌∙◌}
use Rattle.std.specs.Bool.{Decides}
use Rattle.std.specs.Ordering.{is_eq, nat_cmp, ordering_then}
use Rattle.std.specs.declared.cmp.Ordering.{Ordering}
use Rattle.std.specs.declared.cmp.Ordering.TheVariants.{Less, Equal, Greater}
use Rattle.std.specs.Cmp.{unsigned_ties}
use Rattle.std.specs.Cmp.Lexicographic.{slice_cmp, texts_ties}
use Rattle.std.proofs.lemmas.Bool.Decides.{Decides-eqb}
use Rattle.fcg_views.specs.Valid.{is_same}
use Rattle.fcg_classfile.proofs.WordLaws.{same_name, is_itself}
use Rattle.fcg_make.specs.declared.entry.Entry.{Entry}
use Rattle.fcg_make.specs.declared.entry.Entry.TheVariants.{Text, Class, Member, Reference, Handle, Dynamic}
use Rattle.fcg_make.specs.contracts.entry.EntryOrd.TheImpl.{ghosts}
use Rattle.fcg_make.specs.Entries.{is_entry}

and_first : (a b : Bool) → (a && b) ≡ true → a ≡ true
and_first true b e = refl
and_first false b e = absurd cc

and_second : (a b : Bool) → (a && b) ≡ true → b ≡ true
and_second true b e = e
and_second false b e = absurd cc

both_true : (a b : Bool) → a ≡ true → b ≡ true → (a && b) ≡ true
both_true a b e f = rw (e, f) refl

same_number : (a b : ℕ) → eqb a b ≡ true → a ≡ b
same_number a b e = (Decides-eqb a b).0 e

number_itself : (a : ℕ) → eqb a a ≡ true
number_itself a = (Decides-eqb a a).1 refl

pub entry_is : (x y : Entry) → is_entry x y ≡ true → x ≡ y
entry_is (Text a0) (Text b0) e = let p0 : a0 ≡ b0 = same_name a0 b0 e in rw (p0) refl
entry_is (Text a0) (Class b0) e = absurd cc
entry_is (Text a0) (Member b0 b1) e = absurd cc
entry_is (Text a0) (Reference b0 b1 b2 b3) e = absurd cc
entry_is (Text a0) (Handle b0 b1 b2 b3 b4) e = absurd cc
entry_is (Text a0) (Dynamic b0) e = absurd cc
entry_is (Class a0) (Text b0) e = absurd cc
entry_is (Class a0) (Class b0) e = let p0 : a0 ≡ b0 = same_name a0 b0 e in rw (p0) refl
entry_is (Class a0) (Member b0 b1) e = absurd cc
entry_is (Class a0) (Reference b0 b1 b2 b3) e = absurd cc
entry_is (Class a0) (Handle b0 b1 b2 b3 b4) e = absurd cc
entry_is (Class a0) (Dynamic b0) e = absurd cc
entry_is (Member a0 a1) (Text b0) e = absurd cc
entry_is (Member a0 a1) (Class b0) e = absurd cc
entry_is (Member a0 a1) (Member b0 b1) e = let p0 : a0 ≡ b0 = same_name a0 b0 (and_first (is_same a0 b0) (is_same a1 b1) e) in let p1 : a1 ≡ b1 = same_name a1 b1 (and_second (is_same a0 b0) (is_same a1 b1) e) in rw (p0, p1) refl
entry_is (Member a0 a1) (Reference b0 b1 b2 b3) e = absurd cc
entry_is (Member a0 a1) (Handle b0 b1 b2 b3 b4) e = absurd cc
entry_is (Member a0 a1) (Dynamic b0) e = absurd cc
entry_is (Reference a0 a1 a2 a3) (Text b0) e = absurd cc
entry_is (Reference a0 a1 a2 a3) (Class b0) e = absurd cc
entry_is (Reference a0 a1 a2 a3) (Member b0 b1) e = absurd cc
entry_is (Reference a0 a1 a2 a3) (Reference b0 b1 b2 b3) e = let p0 : a0 ≡ b0 = same_number a0 b0 (and_first (eqb a0 b0) (is_same a1 b1 && (is_same a2 b2 && is_same a3 b3)) e) in let p1 : a1 ≡ b1 = same_name a1 b1 (and_first (is_same a1 b1) (is_same a2 b2 && is_same a3 b3) (and_second (eqb a0 b0) (is_same a1 b1 && (is_same a2 b2 && is_same a3 b3)) e)) in let p2 : a2 ≡ b2 = same_name a2 b2 (and_first (is_same a2 b2) (is_same a3 b3) (and_second (is_same a1 b1) (is_same a2 b2 && is_same a3 b3) (and_second (eqb a0 b0) (is_same a1 b1 && (is_same a2 b2 && is_same a3 b3)) e))) in let p3 : a3 ≡ b3 = same_name a3 b3 (and_second (is_same a2 b2) (is_same a3 b3) (and_second (is_same a1 b1) (is_same a2 b2 && is_same a3 b3) (and_second (eqb a0 b0) (is_same a1 b1 && (is_same a2 b2 && is_same a3 b3)) e))) in rw (p0, p1, p2, p3) refl
entry_is (Reference a0 a1 a2 a3) (Handle b0 b1 b2 b3 b4) e = absurd cc
entry_is (Reference a0 a1 a2 a3) (Dynamic b0) e = absurd cc
entry_is (Handle a0 a1 a2 a3 a4) (Text b0) e = absurd cc
entry_is (Handle a0 a1 a2 a3 a4) (Class b0) e = absurd cc
entry_is (Handle a0 a1 a2 a3 a4) (Member b0 b1) e = absurd cc
entry_is (Handle a0 a1 a2 a3 a4) (Reference b0 b1 b2 b3) e = absurd cc
entry_is (Handle a0 a1 a2 a3 a4) (Handle b0 b1 b2 b3 b4) e = let p0 : a0 ≡ b0 = same_number a0 b0 (and_first (eqb a0 b0) (eqb a1 b1 && (is_same a2 b2 && (is_same a3 b3 && is_same a4 b4))) e) in let p1 : a1 ≡ b1 = same_number a1 b1 (and_first (eqb a1 b1) (is_same a2 b2 && (is_same a3 b3 && is_same a4 b4)) (and_second (eqb a0 b0) (eqb a1 b1 && (is_same a2 b2 && (is_same a3 b3 && is_same a4 b4))) e)) in let p2 : a2 ≡ b2 = same_name a2 b2 (and_first (is_same a2 b2) (is_same a3 b3 && is_same a4 b4) (and_second (eqb a1 b1) (is_same a2 b2 && (is_same a3 b3 && is_same a4 b4)) (and_second (eqb a0 b0) (eqb a1 b1 && (is_same a2 b2 && (is_same a3 b3 && is_same a4 b4))) e))) in let p3 : a3 ≡ b3 = same_name a3 b3 (and_first (is_same a3 b3) (is_same a4 b4) (and_second (is_same a2 b2) (is_same a3 b3 && is_same a4 b4) (and_second (eqb a1 b1) (is_same a2 b2 && (is_same a3 b3 && is_same a4 b4)) (and_second (eqb a0 b0) (eqb a1 b1 && (is_same a2 b2 && (is_same a3 b3 && is_same a4 b4))) e)))) in let p4 : a4 ≡ b4 = same_name a4 b4 (and_second (is_same a3 b3) (is_same a4 b4) (and_second (is_same a2 b2) (is_same a3 b3 && is_same a4 b4) (and_second (eqb a1 b1) (is_same a2 b2 && (is_same a3 b3 && is_same a4 b4)) (and_second (eqb a0 b0) (eqb a1 b1 && (is_same a2 b2 && (is_same a3 b3 && is_same a4 b4))) e)))) in rw (p0, p1, p2, p3, p4) refl
entry_is (Handle a0 a1 a2 a3 a4) (Dynamic b0) e = absurd cc
entry_is (Dynamic a0) (Text b0) e = absurd cc
entry_is (Dynamic a0) (Class b0) e = absurd cc
entry_is (Dynamic a0) (Member b0 b1) e = absurd cc
entry_is (Dynamic a0) (Reference b0 b1 b2 b3) e = absurd cc
entry_is (Dynamic a0) (Handle b0 b1 b2 b3 b4) e = absurd cc
entry_is (Dynamic a0) (Dynamic b0) e = let p0 : a0 ≡ b0 = same_number a0 b0 e in rw (p0) refl

pub entry_itself : (x : Entry) → is_entry x x ≡ true
entry_itself (Text a0) = is_itself a0
entry_itself (Class a0) = is_itself a0
entry_itself (Member a0 a1) = both_true _ _ (is_itself a0) (is_itself a1)
entry_itself (Reference a0 a1 a2 a3) = both_true _ _ (number_itself a0) (both_true _ _ (is_itself a1) (both_true _ _ (is_itself a2) (is_itself a3)))
entry_itself (Handle a0 a1 a2 a3 a4) = both_true _ _ (number_itself a0) (both_true _ _ (number_itself a1) (both_true _ _ (is_itself a2) (both_true _ _ (is_itself a3) (is_itself a4))))
entry_itself (Dynamic a0) = number_itself a0

pub same_entry : (x y : Entry) → Decides (is_entry x y) (x ≡ y)
same_entry x y = (entry_is x y, λ e. rw e (entry_itself y))

then_equal : (a b : Ordering) → is_eq (ordering_then a b) ≡ (is_eq a && is_eq b)
then_equal Less b = refl
then_equal Equal b = refl
then_equal Greater b = refl

both_as : (a b : Ordering) (p q : Bool) → is_eq a ≡ p → is_eq b ≡ q → is_eq (ordering_then a b) ≡ (p && q)
both_as a b p q e f = then_equal a b ∙ rw (e, f) refl

text_as : (a b : List ℕ) → is_eq (slice_cmp nat_cmp a b) ≡ is_same a b
text_as a b = sym (texts_ties a b)

number_as : (a b : ℕ) → is_eq (nat_cmp a b) ≡ eqb a b
number_as a b = sym (unsigned_ties a b)

-- The order of the keys finds two entries equal where they say the same.
pub entry_ties : (x y : Entry) → is_eq (ghosts.cmp x y) ≡ is_entry x y
entry_ties (Text a0) (Text b0) = text_as a0 b0
entry_ties (Text a0) (Class b0) = refl
entry_ties (Text a0) (Member b0 b1) = refl
entry_ties (Text a0) (Reference b0 b1 b2 b3) = refl
entry_ties (Text a0) (Handle b0 b1 b2 b3 b4) = refl
entry_ties (Text a0) (Dynamic b0) = refl
entry_ties (Class a0) (Text b0) = refl
entry_ties (Class a0) (Class b0) = text_as a0 b0
entry_ties (Class a0) (Member b0 b1) = refl
entry_ties (Class a0) (Reference b0 b1 b2 b3) = refl
entry_ties (Class a0) (Handle b0 b1 b2 b3 b4) = refl
entry_ties (Class a0) (Dynamic b0) = refl
entry_ties (Member a0 a1) (Text b0) = refl
entry_ties (Member a0 a1) (Class b0) = refl
entry_ties (Member a0 a1) (Member b0 b1) = both_as _ _ _ _ (text_as a0 b0) (text_as a1 b1)
entry_ties (Member a0 a1) (Reference b0 b1 b2 b3) = refl
entry_ties (Member a0 a1) (Handle b0 b1 b2 b3 b4) = refl
entry_ties (Member a0 a1) (Dynamic b0) = refl
entry_ties (Reference a0 a1 a2 a3) (Text b0) = refl
entry_ties (Reference a0 a1 a2 a3) (Class b0) = refl
entry_ties (Reference a0 a1 a2 a3) (Member b0 b1) = refl
entry_ties (Reference a0 a1 a2 a3) (Reference b0 b1 b2 b3) = both_as _ _ _ _ (number_as a0 b0) (both_as _ _ _ _ (text_as a1 b1) (both_as _ _ _ _ (text_as a2 b2) (text_as a3 b3)))
entry_ties (Reference a0 a1 a2 a3) (Handle b0 b1 b2 b3 b4) = refl
entry_ties (Reference a0 a1 a2 a3) (Dynamic b0) = refl
entry_ties (Handle a0 a1 a2 a3 a4) (Text b0) = refl
entry_ties (Handle a0 a1 a2 a3 a4) (Class b0) = refl
entry_ties (Handle a0 a1 a2 a3 a4) (Member b0 b1) = refl
entry_ties (Handle a0 a1 a2 a3 a4) (Reference b0 b1 b2 b3) = refl
entry_ties (Handle a0 a1 a2 a3 a4) (Handle b0 b1 b2 b3 b4) = both_as _ _ _ _ (number_as a0 b0) (both_as _ _ _ _ (number_as a1 b1) (both_as _ _ _ _ (text_as a2 b2) (both_as _ _ _ _ (text_as a3 b3) (text_as a4 b4))))
entry_ties (Handle a0 a1 a2 a3 a4) (Dynamic b0) = refl
entry_ties (Dynamic a0) (Text b0) = refl
entry_ties (Dynamic a0) (Class b0) = refl
entry_ties (Dynamic a0) (Member b0 b1) = refl
entry_ties (Dynamic a0) (Reference b0 b1 b2 b3) = refl
entry_ties (Dynamic a0) (Handle b0 b1 b2 b3 b4) = refl
entry_ties (Dynamic a0) (Dynamic b0) = number_as a0 b0
