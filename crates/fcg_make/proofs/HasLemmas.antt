-- The entries that a pool has, and the constants at their indexes.
use Rattle.std.proofs.Common.{◌≡◌, ◌⊎◌, inl, inr, ℕ, suc, ◌<◌, ◌≤◌, ◌^◌, true, false, eqb, List, [], ◌∷◌, ◌++◌, length, map, add-one, refl, sym, ap, subst, ◌∙◌, arith}
use Rattle.std.specs.Prelude.{Option, Some, None, option_map, is_some}
use Rattle.std.specs.List.{slice_get, AllByRecursion}
use Rattle.std.proofs.lemmas.Bool.Decides.{Decides-eqb}
use Rattle.std.proofs.lemmas.Option.{slice_get-map}
use Rattle.fcg_classfile.specs.ClassFile.{is_one_of, Constant, is_wide, slots}
use Rattle.fcg_classfile.specs.Constants.{constant_at}
use Rattle.fcg_make.specs.declared.entry.Entry.{Entry}
use Rattle.fcg_make.specs.declared.entry.Entry.TheVariants.{Text, Class, Member, Reference, Handle, Dynamic}
use Rattle.fcg_make.specs.Entries.{is_entry, place_in, added, added_all, index_of}
use Rattle.fcg_make.specs.Layout.{constant_of}
use Rattle.fcg_make.proofs.EntryLemmas.{entry_is, entry_itself}
use Rattle.fcg_make.proofs.TableLemmas.{at_bool, place_push, place_below, added_there, added_new, none_of}

-- ---- entries that are there

pub record Has (pool : List Entry) (e : Entry) : Type 0 where
  pub place : ℕ
  pub found : place_in pool e ≡ Some place

has_by : (pool : List Entry) (e : Entry) (o : Option ℕ) → place_in pool e ≡ o → is_some o ≡ true → Has pool e
has_by pool e (Some i) at some = record { place = i; found = at }
has_by pool e None at some = absurd cc

pub has_added : (pool : List Entry) (e : Entry) → Has (added pool e) e
has_added pool e = split (at_bool (is_some (place_in pool e)))
  where
    split : (is_some (place_in pool e) ≡ true) ⊎ (is_some (place_in pool e) ≡ false) → Has (added pool e) e
    split (inl there) = rw (added_there pool e there) (has_by pool e (place_in pool e) refl there)
    split (inr new) =
        let none = none_of (place_in pool e) new in
        rw (added_new pool e none) (record { place = length pool; found = place_push pool e e ∙ rw (none, entry_itself e) refl })

pub has_kept : (pool : List Entry) (e x : Entry) → Has pool x → Has (added pool e) x
has_kept pool e x has = split (at_bool (is_some (place_in pool e)))
  where
    split : (is_some (place_in pool e) ≡ true) ⊎ (is_some (place_in pool e) ≡ false) → Has (added pool e) x
    split (inl there) = rw (added_there pool e there) has
    split (inr new) = rw (added_new pool e (none_of (place_in pool e) new)) (record { place = has.place; found = place_push pool e x ∙ rw has.found refl })

pub has_kept_all : (pool es : List Entry) (x : Entry) → Has pool x → Has (added_all pool es) x
has_kept_all pool [] x has = has
has_kept_all pool (e ∷ es) x has = has_kept_all (added pool e) es x (has_kept pool e x has)

-- what was added is there
pub has_all : (pool es : List Entry) → AllByRecursion (Has (added_all pool es)) es
has_all pool [] = tt
has_all pool (e ∷ es) = (has_kept_all (added pool e) es e (has_added pool e), has_all (added pool e) es)

-- what all that was added keep, the pool does
all_push : (P : Entry → Type 0) (pool : List Entry) (e : Entry) → AllByRecursion P pool → P e → AllByRecursion P (pool ++ e ∷ [])
all_push P [] e kept p = (p, tt)
all_push P (x ∷ xs) e kept p = (kept.0, all_push P xs e kept.1 p)

all_added_one : (P : Entry → Type 0) (pool : List Entry) (e : Entry) → AllByRecursion P pool → P e → AllByRecursion P (added pool e)
all_added_one P pool e kept p = split (at_bool (is_some (place_in pool e)))
  where
    split : (is_some (place_in pool e) ≡ true) ⊎ (is_some (place_in pool e) ≡ false) → AllByRecursion P (added pool e)
    split (inl there) = rw (added_there pool e there) kept
    split (inr new) = rw (added_new pool e (none_of (place_in pool e) new)) (all_push P pool e kept p)

pub all_kept : (P : Entry → Type 0) (pool es : List Entry) → AllByRecursion P pool → AllByRecursion P es → AllByRecursion P (added_all pool es)
all_kept P pool [] kept ps = kept
all_kept P pool (e ∷ es) kept ps = all_kept P (added pool e) es (all_added_one P pool e kept ps.0) ps.1

-- ---- constants at indexes

-- an entry stands at its place
entry_at : (pool : List Entry) (e : Entry) (i : ℕ) → place_in pool e ≡ Some i → slice_get pool i ≡ Some e
entry_at [] e i found = absurd cc
entry_at (x ∷ xs) e i found = split (entry_at xs e) (at_bool (is_entry e x))
  where
    later : (o : Option ℕ) → option_map suc o ≡ Some i → ((j : ℕ) → o ≡ Some j → slice_get xs j ≡ Some e) → slice_get (x ∷ xs) i ≡ Some e
    later None h below = absurd cc
    later (Some j) h below = let same : suc j ≡ i = cc in subst (λ (k : ℕ). slice_get (x ∷ xs) k ≡ Some e) same (below j refl)

    split : ((j : ℕ) → place_in xs e ≡ Some j → slice_get xs j ≡ Some e) → (is_entry e x ≡ true) ⊎ (is_entry e x ≡ false) → slice_get (x ∷ xs) i ≡ Some e
    split below (inl t) =
        let first : 0 ≡ i = (let h : Some 0 ≡ Some i = rw t at found in cc) in
        subst (λ (k : ℕ). slice_get (x ∷ xs) k ≡ Some e) first (ap (λ (y : Entry). Some y) (sym (entry_is e x t)))
    split below (inr f) = later (place_in xs e) (rw f at found) below

-- the tag of a reference is one
abbrev pub IsTagged : Entry → Type 0
IsTagged (Text text) = Unit {0}
IsTagged (Class name) = Unit {0}
IsTagged (Member name desc) = Unit {0}
IsTagged (Reference tag owner name desc) = is_one_of (9 ∷ 10 ∷ 11 ∷ []) tag ≡ true
IsTagged (Handle kind tag owner name desc) = Unit {0}
IsTagged (Dynamic row) = Unit {0}

pub one_of_three : (a b c tag : ℕ) → is_one_of (a ∷ b ∷ c ∷ []) tag ≡ true → (a ≡ tag) ⊎ ((b ≡ tag) ⊎ (c ≡ tag))
one_of_three a b c tag e = first (at_bool (eqb a tag))
  where
    third : (eqb a tag ≡ false) → (eqb b tag ≡ false) → (eqb c tag ≡ true) ⊎ (eqb c tag ≡ false) → (a ≡ tag) ⊎ ((b ≡ tag) ⊎ (c ≡ tag))
    third f g (inl t) = inr (inr ((Decides-eqb c tag).0 t))
    third f g (inr h) = absurd (let no_tag : false ≡ true = rw (f, g, h) at e in cc)

    second : (eqb a tag ≡ false) → (eqb b tag ≡ true) ⊎ (eqb b tag ≡ false) → (a ≡ tag) ⊎ ((b ≡ tag) ⊎ (c ≡ tag))
    second f (inl t) = inr (inl ((Decides-eqb b tag).0 t))
    second f (inr g) = third f g (at_bool (eqb c tag))

    first : (eqb a tag ≡ true) ⊎ (eqb a tag ≡ false) → (a ≡ tag) ⊎ ((b ≡ tag) ⊎ (c ≡ tag))
    first (inl t) = inl ((Decides-eqb a tag).0 t)
    first (inr f) = second f (at_bool (eqb b tag))

-- what holds of the three tags of references holds of each
pub tags : (P : ℕ → Type 0) → P 9 → P 10 → P 11 → (tag : ℕ) → is_one_of (9 ∷ 10 ∷ 11 ∷ []) tag ≡ true → P tag
tags P a b c tag e = split (one_of_three 9 10 11 tag e)
  where
    split : (9 ≡ tag) ⊎ ((10 ≡ tag) ⊎ (11 ≡ tag)) → P tag
    split (inl is) = subst P is a
    split (inr (inl is)) = subst P is b
    split (inr (inr is)) = subst P is c

-- no constant takes two indexes
not_wide : (pool : List Entry) (e : Entry) → IsTagged e → is_wide (constant_of pool e) ≡ false
not_wide pool (Text text) t = refl
not_wide pool (Class name) t = refl
not_wide pool (Member name desc) t = refl
not_wide pool (Reference tag owner name desc) t = tags (λ (n : ℕ). is_one_of (5 ∷ 6 ∷ []) n ≡ false) refl refl refl tag t
not_wide pool (Handle kind tag owner name desc) t = refl
not_wide pool (Dynamic row) t = refl

pub slots_of : (pool es : List Entry) → AllByRecursion IsTagged es → slots (map (constant_of pool) es) ≡ map (λ c. Some c) (map (constant_of pool) es)
slots_of pool [] t = refl
slots_of pool (e ∷ es) t = rw (not_wide pool e t.0) (ap (λ (l : List (Option Constant)). Some (constant_of pool e) ∷ l) (slots_of pool es t.1))

abbrev pub constants : List Entry → List Constant
constants pool = map (constant_of pool) pool

pub index_is : (pool : List Entry) (e : Entry) (has : Has pool e) → index_of pool e ≡ suc has.place
unfolding index_of
index_is pool e has = rw (has.found, add-one) refl

pub constant_there : (pool : List Entry) (e : Entry) → AllByRecursion IsTagged pool → Has pool e → constant_at (constants pool) (index_of pool e) ≡ Some (constant_of pool e)
constant_there pool e t has =
    rw (index_is pool e has, slots_of pool pool t, slice_get-map (λ (c : Constant). Some c) (constants pool) has.place, slice_get-map (constant_of pool) pool has.place, entry_at pool e has.place has.found) refl

pub index_small : (pool : List Entry) (e : Entry) → length pool ≤ 65534 → Has pool e → index_of pool e < 2 ^ 16
index_small pool e few has = let lt = place_below pool e has.place has.found in rw (index_is pool e has) (omega (arith, few, lt))

pub index_some : (pool : List Entry) (e : Entry) → Has pool e → 0 < index_of pool e
index_some pool e has = rw (index_is pool e has) (omega arith)
