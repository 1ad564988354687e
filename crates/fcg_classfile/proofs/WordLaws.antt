-- What the reading order's tests of words say.
use Rattle.std.proofs.Common.{◌≡◌, ◌≢◌, ℕ, Bool, true, false, List, nat_eq, refl}
use Rattle.std.specs.Bool.{Decides}
use Rattle.std.specs.List.{AllPairs, IsDistinct}
use Rattle.std.specs.Cmp.Lexicographic.{pointwise}
use Rattle.std.proofs.lemmas.Bool.Decides.{Decides-eqb, Decides-and, not_from_Decides}
use Rattle.std.proofs.lemmas.Slice.Eq.{slice_eq-Decides}
use Rattle.fcg_views.specs.declared.view.Method.{Method}
use Rattle.fcg_views.specs.Valid.{is_same, is_alike}
use Rattle.fcg_classfile.proofs.Fresh.{pairs_found, pairs_only}

pub same_text : (p q : List ℕ) → Decides (pointwise nat_eq p q) (p ≡ q)
same_text p q = slice_eq-Decides Decides-eqb p q (pointwise nat_eq p q) refl

not_true : (b : Bool) → (b ≡ true → ⊥) → b ≡ false
not_true true h = absurd (h refl)
not_true false h = refl

pub same_name : (name word : List ℕ) → is_same name word ≡ true → name ≡ word
same_name name word e = (same_text name word).0 e

pub is_itself : (word : List ℕ) → is_same word word ≡ true
is_itself word = (same_text word word).1 refl

pub other_name : (name word : List ℕ) → is_same name word ≡ false → name ≢ word
other_name name word e = not_from_Decides (is_same name word) (same_text name word) e

pub is_other_name : (name word : List ℕ) → name ≢ word → is_same name word ≡ false
is_other_name name word p = not_true (is_same name word) (λ e. p (same_name name word e))

abbrev pub Differ : Method → Method → Type 0
Differ m n = m.name ≡ n.name → m.desc ≢ n.desc

alike_says : (m n : Method) → Decides (is_alike m n) ((m.name ≡ n.name) × (m.desc ≡ n.desc))
alike_says m n = Decides-and _ _ (same_text m.name n.name) (same_text m.desc n.desc)

differ_found : (m n : Method) → is_alike m n ≡ false → Differ m n
differ_found m n e name desc = not_from_Decides (is_alike m n) (alike_says m n) e (name, desc)

differ_only : (m n : Method) → Differ m n → is_alike m n ≡ false
differ_only m n h = not_true (is_alike m n) (λ e. (let both = (alike_says m n).0 e in h both.0 both.1))

-- no two methods are alike
pub methods_differ : (ms : List Method) → IsDistinct is_alike ms → AllPairs Differ ms
methods_differ ms d = pairs_found is_alike Differ differ_found ms d

pub methods_distinct : (ms : List Method) → AllPairs Differ ms → IsDistinct is_alike ms
methods_distinct ms p = pairs_only is_alike Differ differ_only ms p
