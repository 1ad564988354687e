-- What an index names, in the pool that is read and in the file's.
use Rattle.std.proofs.Common.{◌≡◌, ℕ, zero, suc, Bool, true, false, ◌||◌, eqb, List, [], ◌∷◌, Option, Some, None, refl, sym, ap, subst, ◌∙◌, arith}
use Rattle.std.specs.Prelude.{Result, Ok, Err, option_map}
use Rattle.std.specs.List.{slice_get}
use Rattle.std.proofs.lemmas.Bool.{eqb-true}
use Rattle.std.proofs.lemmas.Bool.Decides.{nat_tests}
use Rattle.std.proofs.lemmas.Option.{slice_get-map}
use Rattle.fcg_grammar.specs.Reading.{◌>>=◌, unless_broken}
use Rattle.fcg_grammar.proofs.LawLemmas.{bind_ok, kept_ok}
use Rattle.fcg_grammar.proofs.Standing.{ok_is}
use Rattle.fcg_classfile.specs.declared.fault.PoolRule.{PoolRule}
use Rattle.fcg_classfile.specs.declared.fault.PoolRule.TheVariants.{WrongKind}
use Rattle.fcg_classfile.specs.ClassFile.{is_one_of, Constant, Utf8, Plain, Named, Pair, Handle}
use Rattle.fcg_classfile.specs.Constants.{of_slot, constant_at, NamesUtf8, NamesClass, NamesPair, NamesMember, NamesReference, NamesHandle, NamesDynamic}
use Rattle.fcg_classfile.specs.Breaks.Fault.{at_place}
use Rattle.fcg_classfile.specs.Breaks.Pool.{Placed, Entries, in_slot, constant_of, text_in, text_of, name_in, name_of, Indexes, pair_in, pair_of, Reference, reference_of, handle_in, handle_of, dynamic_of}
use Rattle.fcg_classfile.specs.Tables.{Holds}

pub at_ok : {A : Type 0} (at index : ℕ) (r : Result A PoolRule) (x : A) → at_place at index r ≡ Ok x → r ≡ Ok x
at_ok at index (Ok y) x e = let same : y ≡ x = cc in ap (λ (z : _). Ok z) same
at_ok at index (Err rule) x e = absurd cc

abbrev bare : Option Placed → Option Constant
bare slot = option_map (λ p. p.constant) slot

slot_by : (o : Option (Option Placed)) (c : Constant) → in_slot o ≡ Ok c → of_slot (option_map bare o) ≡ Some c
slot_by None c e = absurd cc
slot_by (Some None) c e = absurd cc
slot_by (Some (Some p)) c e = let same : p.constant ≡ c = cc in ap (λ (x : Constant). Some x) same

slot_back : (o : Option (Option Placed)) (c : Constant) → of_slot (option_map bare o) ≡ Some c → in_slot o ≡ Ok c
slot_back None c e = absurd cc
slot_back (Some None) c e = absurd cc
slot_back (Some (Some p)) c e = let same : p.constant ≡ c = cc in ap (λ (x : Constant). Ok x) same

text_by : (c : Constant) (text : List ℕ) → text_in c ≡ Ok text → c ≡ Utf8 text
text_by (Utf8 t) text e = let same : t ≡ text = cc in ap Utf8 same
text_by (Plain tag bytes) text e = absurd cc
text_by (Named tag i) text e = absurd cc
text_by (Pair tag i j) text e = absurd cc
text_by (Handle kind i) text e = absurd cc

name_by : (c : Constant) (i : ℕ) → name_in c ≡ Ok i → c ≡ Named 7 i
name_by (Utf8 text) i e = absurd cc
name_by (Plain tag bytes) i e = absurd cc
name_by (Named tag j) i e =
    let a = bind_ok (unless_broken (eqb tag 7) WrongKind) _ i e in
    let tag_is : tag ≡ 7 = eqb-true _ _ (kept_ok _ _ a.0 a.1) in
    let same : j ≡ i = ok_is j i a.2 in
    rw (tag_is, same) refl
name_by (Pair tag j k) i e = absurd cc
name_by (Handle kind j) i e = absurd cc

pair_by : (tags : List ℕ) (c : Constant) (p : Indexes) → pair_in tags c ≡ Ok p → (c ≡ Pair p.tag p.first p.second) × (is_one_of tags p.tag ≡ true)
pair_by tags (Utf8 text) p e = absurd cc
pair_by tags (Plain tag bytes) p e = absurd cc
pair_by tags (Named tag i) p e = absurd cc
pair_by tags (Pair tag i j) p e =
    let a = bind_ok (unless_broken (is_one_of tags tag) WrongKind) _ p e in
    let made : Indexes = record { tag = tag; first = i; second = j } in
    let same : made ≡ p = ok_is made p a.2 in
    (ap (λ (x : Indexes). Pair x.tag x.first x.second) same, ap (λ (x : Indexes). is_one_of tags x.tag) (sym same) ∙ kept_ok _ _ a.0 a.1)
pair_by tags (Handle kind i) p e = absurd cc

pub handle_by : (c : Constant) (x : ℕ × ℕ) → handle_in c ≡ Ok x → c ≡ Handle x.0 x.1
handle_by (Utf8 text) x e = absurd cc
handle_by (Plain tag bytes) x e = absurd cc
handle_by (Named tag i) x e = absurd cc
handle_by (Pair tag i j) x e = absurd cc
handle_by (Handle kind i) x e = ap (λ (y : ℕ × ℕ). Handle y.0 y.1) (ok_is (kind, i) x e)

by_test : (b : Bool) → (b || false) ≡ true → b ≡ true
by_test true e = refl
by_test false e = absurd cc

only_one : (one tag : ℕ) → is_one_of (one ∷ []) tag ≡ true → tag ≡ one
only_one one tag e = sym (eqb-true _ _ (by_test (eqb one tag) e))

is_itself : (tag : ℕ) → is_one_of (tag ∷ []) tag ≡ true
is_itself tag = let same : eqb tag tag ≡ true = grind (arith, nat_tests) in rw same refl

module _ (pool : Entries) (constants : List Constant) (holds : Holds pool constants) where
  pub constant_found : (index : ℕ) (c : Constant) → constant_of pool index ≡ Ok c → constant_at constants index ≡ Some c
  unfolding constant_of
  constant_found zero c e = absurd cc
  constant_found (suc i) c e =
      ap (λ (l : List (Option Constant)). of_slot (slice_get l i)) (sym holds) ∙ ap of_slot (slice_get-map bare pool.slots i) ∙ slot_by (slice_get pool.slots i) c e

  pub constant_only : (index : ℕ) (c : Constant) → constant_at constants index ≡ Some c → constant_of pool index ≡ Ok c
  unfolding constant_of
  constant_only zero c e = absurd cc
  constant_only (suc i) c e =
      slot_back (slice_get pool.slots i) c (sym (ap of_slot (slice_get-map bare pool.slots i)) ∙ ap (λ (l : List (Option Constant)). of_slot (slice_get l i)) holds ∙ e)

  pub text_found : (index : ℕ) (text : List ℕ) → text_of pool index ≡ Ok text → NamesUtf8 constants index text
  unfolding text_of
  text_found index text e =
      let a = bind_ok (constant_of pool index) text_in text e in
      constant_found index a.0 a.1 ∙ ap (λ (c : Constant). Some c) (text_by a.0 text a.2)

  pub text_only : (index : ℕ) (text : List ℕ) → NamesUtf8 constants index text → text_of pool index ≡ Ok text
  unfolding text_of
  text_only index text is = rw (constant_only index (Utf8 text) is) refl

  pub name_found : (index i : ℕ) → name_of pool index ≡ Ok i → constant_at constants index ≡ Some (Named 7 i)
  unfolding name_of
  name_found index i e =
      let a = bind_ok (constant_of pool index) name_in i e in
      constant_found index a.0 a.1 ∙ ap (λ (c : Constant). Some c) (name_by a.0 i a.2)

  pub name_only : (index i : ℕ) → constant_at constants index ≡ Some (Named 7 i) → name_of pool index ≡ Ok i
  unfolding name_of
  name_only index i is = rw (constant_only index (Named 7 i) is) refl

  -- the name of a Class: the index that it holds, and the text that this names
  pub class_name_found : (index : ℕ) (name : List ℕ) → (name_of pool index >>= text_of pool) ≡ Ok name → NamesClass constants index name
  class_name_found index name e =
      let a = bind_ok (name_of pool index) (text_of pool) name e in
      (a.0, name_found index a.0 a.1, text_found a.0 name a.2)

  pub class_name_only : (index : ℕ) (name : List ℕ) → NamesClass constants index name → (name_of pool index >>= text_of pool) ≡ Ok name
  class_name_only index name is = rw (name_only index is.0 is.1) (text_only is.0 name is.2)

  pub pair_found : (tags : List ℕ) (index : ℕ) (pair : Indexes) → pair_of pool tags index ≡ Ok pair → NamesPair constants tags index pair.tag pair.first pair.second
  unfolding pair_of
  pair_found tags index pair e =
      let a = bind_ok (constant_of pool index) (pair_in tags) pair e in
      let p = pair_by tags a.0 pair a.2 in
      (constant_found index a.0 a.1 ∙ ap (λ (c : Constant). Some c) p.0, p.1)

  pub pair_only : (tags : List ℕ) (index tag i j : ℕ) → NamesPair constants tags index tag i j → pair_of pool tags index ≡ Ok (record { tag = tag; first = i; second = j })
  unfolding pair_of
  pair_only tags index tag i j is = rw (constant_only index (Pair tag i j) is.0, is.1) refl

  -- the constant of the only tag that is asked
  one_found : (tag index : ℕ) (pair : Indexes) → pair_of pool (tag ∷ []) index ≡ Ok pair → constant_at constants index ≡ Some (Pair tag pair.first pair.second)
  one_found tag index pair e =
      let p = pair_found (tag ∷ []) index pair e in
      p.0 ∙ ap (λ (t : ℕ). Some (Pair t pair.first pair.second)) (only_one tag pair.tag p.1)

  one_only : (tag index i j : ℕ) → constant_at constants index ≡ Some (Pair tag i j) → pair_of pool (tag ∷ []) index ≡ Ok (record { tag = tag; first = i; second = j })
  one_only tag index i j is = pair_only (tag ∷ []) index tag i j (is, is_itself tag)

  -- what a reference names besides its class
  member_found : (tag index : ℕ) (owner : List ℕ) (r : Reference)
      → (pair_of pool (12 ∷ []) index >>= λ m. text_of pool m.first >>= λ name. text_of pool m.second >>= λ desc. Ok (record { tag = tag; owner = owner; name = name; desc = desc })) ≡ Ok r
      → (r.tag ≡ tag) × (r.owner ≡ owner) × NamesMember constants index r.name r.desc
  member_found tag index owner r e =
      let a = bind_ok (pair_of pool (12 ∷ []) index) _ r e in
      let b = bind_ok (text_of pool a.0.first) _ r a.2 in
      let c = bind_ok (text_of pool a.0.second) _ r b.2 in
      let made : Reference = record { tag = tag; owner = owner; name = b.0; desc = c.0 } in
      let names : NamesMember constants index b.0 c.0 = (a.0.first, a.0.second, one_found 12 index a.0 a.1, text_found a.0.first b.0 b.1, text_found a.0.second c.0 c.1) in
      subst (λ (x : Reference). (x.tag ≡ tag) × (x.owner ≡ owner) × NamesMember constants index x.name x.desc) (ok_is made r c.2) (refl, refl, names)

  pub reference_found : (index : ℕ) (r : Reference) → reference_of pool index ≡ Ok r → NamesReference constants index r.tag r.owner r.name r.desc
  unfolding reference_of
  reference_found index r e =
      let a = bind_ok (pair_of pool (9 ∷ 10 ∷ 11 ∷ []) index) _ r e in
      let b = bind_ok (name_of pool a.0.first) _ r a.2 in
      let c = bind_ok (text_of pool b.0) _ r b.2 in
      let pair = pair_found (9 ∷ 10 ∷ 11 ∷ []) index a.0 a.1 in
      let m = member_found a.0.tag a.0.second c.0 r c.2 in
      let here = subst (λ (t : ℕ). NamesPair constants (9 ∷ 10 ∷ 11 ∷ []) index t a.0.first a.0.second) (sym m.0) pair in
      let owner = subst (NamesUtf8 constants b.0) (sym m.1) (text_found b.0 c.0 c.1) in
      (a.0.first, a.0.second, here, (b.0, name_found a.0.first b.0 b.1, owner), m.2)

  pub reference_only : (index : ℕ) (r : Reference) → NamesReference constants index r.tag r.owner r.name r.desc → reference_of pool index ≡ Ok r
  unfolding reference_of
  reference_only index r (i, j, pair, class, (n, d, member, name, desc)) =
      let p = pair_only (9 ∷ 10 ∷ 11 ∷ []) index r.tag i j pair in
      let c = name_only i class.0 class.1 in
      let owner = text_only class.0 r.owner class.2 in
      let m = one_only 12 j n d member in
      rw (p, c, owner, m, text_only n r.name name, text_only d r.desc desc) refl

  pub handle_found : (index : ℕ) (x : ℕ × Reference) → handle_of pool index ≡ Ok x → NamesHandle constants index x.0 x.1.tag x.1.owner x.1.name x.1.desc
  unfolding handle_of
  handle_found index x e =
      let a = bind_ok (constant_of pool index >>= handle_in) _ x e in
      let b = bind_ok (reference_of pool a.0.1) _ x a.2 in
      let c = bind_ok (constant_of pool index) handle_in a.0 a.1 in
      let names = constant_found index c.0 c.1 ∙ ap (λ (k : Constant). Some k) (handle_by c.0 a.0 c.2) in
      subst (λ (y : ℕ × Reference). NamesHandle constants index y.0 y.1.tag y.1.owner y.1.name y.1.desc) (ok_is (a.0.0, b.0) x b.2) (a.0.1, names, reference_found a.0.1 b.0 b.1)

  pub handle_only : (index kind : ℕ) (r : Reference) → NamesHandle constants index kind r.tag r.owner r.name r.desc → handle_of pool index ≡ Ok (kind, r)
  unfolding handle_of
  handle_only index kind r is = rw (constant_only index (Handle kind is.0) is.1, reference_only is.0 r is.2) refl

  pub dynamic_found : (index i : ℕ) → dynamic_of pool index ≡ Ok i → NamesDynamic constants index i
  unfolding dynamic_of
  dynamic_found index i e =
      let a = bind_ok (pair_of pool (18 ∷ []) index) _ i e in
      subst (NamesDynamic constants index) (ok_is a.0.first i a.2) (a.0.second, one_found 18 index a.0 a.1)

  pub dynamic_only : (index i : ℕ) → NamesDynamic constants index i → dynamic_of pool index ≡ Ok i
  unfolding dynamic_of
  dynamic_only index i is = rw (one_only 18 index i is.0 is.1) refl
