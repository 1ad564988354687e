-- The set of names and descriptors beside the list of them.
use Rattle.std.proofs.Common.{◌≡◌, ℕ, List, [], ◌∷◌, ◌++◌, Bool, true, false, not, cond, ◌&&◌, ◌||◌, refl, sym, ap, ◌∙◌}
use Rattle.std.specs.Prelude.{nat_eq, map}
use Rattle.std.specs.List.{list_any, flat_map}
use Rattle.std.specs.Cmp.{unsigned_ties}
use Rattle.std.specs.Cmp.Lexicographic.{pointwise, nat_list_eq_equiv}
use Rattle.std.specs.Ordering.{is_eq, nat_cmp, ordering_then}
use Rattle.std.specs.declared.cmp.Ordering.{Ordering}
use Rattle.std.specs.declared.cmp.Ordering.TheVariants.{Less, Equal, Greater}
use Rattle.std.specs.BTreeSet as tree
use Rattle.std.specs.BTreeSet.{BTreeSet}
use Rattle.std.proofs.lemmas.List.Folds.{list_any-append}
use Rattle.std.proofs.lemmas.List.Concat.{flat_map-cons}
use Rattle.fcg_partial.specs.Graph.{StoredSite}
use Rattle.fcg_partial.specs.Internal.UsedNumbers.{Key, key_cmp, AreKeys, site_target}

abbrev pub key_of : ℕ → ℕ → List ℕ
key_of name desc = name ∷ desc ∷ []

both_equal : (a b : Ordering) → is_eq (ordering_then a b) ≡ (is_eq a && is_eq b)
both_equal Less b = refl
both_equal Equal b = refl
both_equal Greater b = refl

and_true : (a b : Bool) → (a && b) ≡ (a && (b && true))
and_true false b = refl
and_true true true = refl
and_true true false = refl

same_key : (a b x y : ℕ) → is_eq (key_cmp (a, b) (x, y)) ≡ pointwise nat_eq (key_of x y) (key_of a b)
same_key a b x y =
    both_equal (nat_cmp a x) (nat_cmp b y)
    ∙ rw (sym (unsigned_ties a x), sym (unsigned_ties b y)) (and_true (nat_eq a x) (nat_eq b y))
    ∙ nat_list_eq_equiv.symm (key_of a b) (key_of x y)

pub double_after : (set : BTreeSet Key) (before : List (List ℕ)) (name desc : ℕ) (added : Bool) → AreKeys set before → added ≡ not (tree.contains key_cmp set (name, desc)) → added ≡ false → list_any (pointwise nat_eq (key_of name desc)) before ≡ true
double_after set before name desc added are is known = sym (are (name, desc)) ∙ turned (tree.contains key_cmp set (name, desc)) (sym is ∙ known)
  where
    turned : (b : Bool) → not b ≡ false → b ≡ true
    turned true e = refl
    turned false e = absurd cc

pub fresh_after : (set : BTreeSet Key) (before : List (List ℕ)) (name desc : ℕ) (added : Bool) → AreKeys set before → added ≡ not (tree.contains key_cmp set (name, desc)) → added ≡ true → list_any (pointwise nat_eq (key_of name desc)) before ≡ false
fresh_after set before name desc added are is fresh = sym (are (name, desc)) ∙ turned (tree.contains key_cmp set (name, desc)) (sym is ∙ fresh)
  where
    turned : (b : Bool) → not b ≡ true → b ≡ false
    turned true e = absurd cc
    turned false e = refl

either : (a b : Bool) → cond a true b ≡ (b || (a || false))
either true true = refl
either true false = refl
either false true = refl
either false false = refl

-- one more method, and its key
pub AreKeys-push : (old new : BTreeSet Key) (before : List (List ℕ)) (name desc : ℕ) → AreKeys old before
    → ((k : Key) → tree.contains key_cmp new k ≡ cond (is_eq (key_cmp (name, desc) k)) true (tree.contains key_cmp old k)) → AreKeys new (before ++ key_of name desc ∷ [])
AreKeys-push old new before name desc are updates k =
    updates k
    ∙ rw (same_key name desc k.0 k.1, are k) (either (pointwise nat_eq (key_of k.0 k.1) (key_of name desc)) (list_any (pointwise nat_eq (key_of k.0 k.1)) before))
    ∙ sym (list_any-append (pointwise nat_eq (key_of k.0 k.1)) before (key_of name desc ∷ []))

pub flat_targets : (sites : List StoredSite) → flat_map site_target sites ≡ map (λ s. s.reference) sites
flat_targets [] = refl
flat_targets (s ∷ ss) = flat_map-cons site_target s ss ∙ ap (λ (l : List ℕ). s.reference ∷ l) (flat_targets ss)
