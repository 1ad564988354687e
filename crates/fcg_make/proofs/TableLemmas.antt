-- The map of the places of entries.
use Rattle.std.proofs.Common.{◌≡◌, ◌⊎◌, inl, inr, ℕ, suc, ◌+◌, ◌<◌, Bool, true, false, cond, List, [], ◌∷◌, ◌++◌, length, refl, sym, ap, subst, ◌∙◌, arith}
use Rattle.std.specs.Prelude.{Option, Some, None, option_map, is_some}
use Rattle.std.specs.Ordering.{is_eq}
use Rattle.std.specs.BTreeMap as tree
use Rattle.std.specs.BTreeMap.{BTreeMap}
use Rattle.fcg_make.specs.declared.entry.Entry.{Entry}
use Rattle.fcg_make.specs.contracts.entry.EntryOrd.TheImpl.{ghosts}
use Rattle.fcg_make.specs.contracts.entry.EntryClone.TheImpl.{by_variants}
use Rattle.fcg_make.specs.declared.entry.Entry.TheVariants.{Text, Class, Member, Reference, Handle, Dynamic}
use Rattle.fcg_make.specs.Entries.{is_entry, place_in, added, index_of}
use Rattle.fcg_make.specs.Internal.Places.{ArePlaces}
use Rattle.fcg_make.proofs.EntryLemmas.{entry_is, entry_itself, entry_ties}

-- a copy says the same
pub copy_is : (x y : Entry) → by_variants x y → y ≡ x
copy_is (Text a0) (Text b0) h = cc
copy_is (Text a0) (Class b0) h = absurd h
copy_is (Text a0) (Member b0 b1) h = absurd h
copy_is (Text a0) (Reference b0 b1 b2 b3) h = absurd h
copy_is (Text a0) (Handle b0 b1 b2 b3 b4) h = absurd h
copy_is (Text a0) (Dynamic b0) h = absurd h
copy_is (Class a0) (Text b0) h = absurd h
copy_is (Class a0) (Class b0) h = cc
copy_is (Class a0) (Member b0 b1) h = absurd h
copy_is (Class a0) (Reference b0 b1 b2 b3) h = absurd h
copy_is (Class a0) (Handle b0 b1 b2 b3 b4) h = absurd h
copy_is (Class a0) (Dynamic b0) h = absurd h
copy_is (Member a0 a1) (Text b0) h = absurd h
copy_is (Member a0 a1) (Class b0) h = absurd h
copy_is (Member a0 a1) (Member b0 b1) h = cc
copy_is (Member a0 a1) (Reference b0 b1 b2 b3) h = absurd h
copy_is (Member a0 a1) (Handle b0 b1 b2 b3 b4) h = absurd h
copy_is (Member a0 a1) (Dynamic b0) h = absurd h
copy_is (Reference a0 a1 a2 a3) (Text b0) h = absurd h
copy_is (Reference a0 a1 a2 a3) (Class b0) h = absurd h
copy_is (Reference a0 a1 a2 a3) (Member b0 b1) h = absurd h
copy_is (Reference a0 a1 a2 a3) (Reference b0 b1 b2 b3) h = cc
copy_is (Reference a0 a1 a2 a3) (Handle b0 b1 b2 b3 b4) h = absurd h
copy_is (Reference a0 a1 a2 a3) (Dynamic b0) h = absurd h
copy_is (Handle a0 a1 a2 a3 a4) (Text b0) h = absurd h
copy_is (Handle a0 a1 a2 a3 a4) (Class b0) h = absurd h
copy_is (Handle a0 a1 a2 a3 a4) (Member b0 b1) h = absurd h
copy_is (Handle a0 a1 a2 a3 a4) (Reference b0 b1 b2 b3) h = absurd h
copy_is (Handle a0 a1 a2 a3 a4) (Handle b0 b1 b2 b3 b4) h = cc
copy_is (Handle a0 a1 a2 a3 a4) (Dynamic b0) h = absurd h
copy_is (Dynamic a0) (Text b0) h = absurd h
copy_is (Dynamic a0) (Class b0) h = absurd h
copy_is (Dynamic a0) (Member b0 b1) h = absurd h
copy_is (Dynamic a0) (Reference b0 b1 b2 b3) h = absurd h
copy_is (Dynamic a0) (Handle b0 b1 b2 b3 b4) h = absurd h
copy_is (Dynamic a0) (Dynamic b0) h = cc

some_or_none : (o : Option ℕ) → (is_some o ≡ true) ⊎ (o ≡ None)
some_or_none (Some i) = inl refl
some_or_none None = inr refl

pub at_bool : (b : Bool) → (b ≡ true) ⊎ (b ≡ false)
at_bool true = inl refl
at_bool false = inr refl

abbrev or_else : Option ℕ → Option ℕ → Option ℕ
or_else (Some i) o = Some i
or_else None o = o

later : (b : Bool) (o : Option ℕ) (n : ℕ) → option_map suc (or_else o (cond b (Some n) None)) ≡ or_else (option_map suc o) (cond b (Some (suc n)) None)
later b (Some i) n = refl
later true None n = refl
later false None n = refl

-- the place of an entry when one more stands at the end
pub place_push : (pool : List Entry) (e q : Entry) → place_in (pool ++ e ∷ []) q ≡ or_else (place_in pool q) (cond (is_entry q e) (Some (length pool)) None)
place_push [] e q = elim (is_entry q e) as (λ b. cond b (Some 0) (option_map suc None) ≡ or_else None (cond b (Some 0) None)) [ true ↦ refl | false ↦ refl ]
place_push (x ∷ xs) e q = split (place_push xs e q) (at_bool (is_entry q x))
  where
    split : place_in (xs ++ e ∷ []) q ≡ or_else (place_in xs q) (cond (is_entry q e) (Some (length xs)) None) → (is_entry q x ≡ true) ⊎ (is_entry q x ≡ false)
        → place_in (x ∷ (xs ++ e ∷ [])) q ≡ or_else (place_in (x ∷ xs) q) (cond (is_entry q e) (Some (suc (length xs))) None)
    split here (inl t) = rw t refl
    split here (inr f) = rw f (ap (option_map suc) here ∙ later (is_entry q e) (place_in xs q) (length xs))

-- an entry that is there stays
pub added_there : (pool : List Entry) (e : Entry) → is_some (place_in pool e) ≡ true → added pool e ≡ pool
unfolding added
added_there pool e is = rw is refl

pub added_new : (pool : List Entry) (e : Entry) → place_in pool e ≡ None → added pool e ≡ pool ++ e ∷ []
unfolding added
added_new pool e none = rw none refl

pub none_of : (o : Option ℕ) → is_some o ≡ false → o ≡ None
none_of None e = refl
none_of (Some i) e = absurd cc

-- one entry more, and its place
pub places_push : (old new : BTreeMap Entry ℕ) (pool : List Entry) (e : Entry) (n : ℕ) → n ≡ length pool → ArePlaces ghosts.cmp pool old → place_in pool e ≡ None
    → ((q : Entry) → tree.get ghosts.cmp new q ≡ cond (is_eq (ghosts.cmp e q)) (Some n) (tree.get ghosts.cmp old q)) → ArePlaces ghosts.cmp (pool ++ e ∷ []) new
places_push old new pool e n counted are none updates q = updates q ∙ rw (counted, entry_ties e q, are q) (split (at_bool (is_entry e q)) ∙ sym (place_push pool e q))
  where
    split : (is_entry e q ≡ true) ⊎ (is_entry e q ≡ false) → cond (is_entry e q) (Some (length pool)) (place_in pool q) ≡ or_else (place_in pool q) (cond (is_entry q e) (Some (length pool)) None)
    split (inl t) = let same : e ≡ q = entry_is e q t in subst (λ (x : Entry). cond (is_entry e x) (Some (length pool)) (place_in pool x) ≡ or_else (place_in pool x) (cond (is_entry x e) (Some (length pool)) None)) same (rw (entry_itself e, none) refl)
    split (inr f) = rw (f, other) (as_it_was (place_in pool q))
      where
        as_it_was : (o : Option ℕ) → o ≡ or_else o None
        as_it_was None = refl
        as_it_was (Some i) = refl

        no_other : (b : Bool) → is_entry q e ≡ b → b ≡ false
        no_other false is = refl
        no_other true is = absurd (let same : q ≡ e = entry_is q e is in let t : is_entry e q ≡ true = rw same (entry_itself e) in cc)

        other : is_entry q e ≡ false
        other = no_other (is_entry q e) refl

pub place_below : (pool : List Entry) (e : Entry) (i : ℕ) → place_in pool e ≡ Some i → i < length pool
place_below [] e i is = absurd cc
place_below (x ∷ xs) e i is = split (place_below xs e) (at_bool (is_entry e x))
  where
    earlier : (o : Option ℕ) → option_map suc o ≡ Some i → ((j : ℕ) → o ≡ Some j → j < length xs) → i < suc (length xs)
    earlier None h below = absurd cc
    earlier (Some j) h below = let same : suc j ≡ i = cc in let lt = below j refl in omega (arith, same, lt)

    split : ((j : ℕ) → place_in xs e ≡ Some j → j < length xs) → (is_entry e x ≡ true) ⊎ (is_entry e x ≡ false) → i < suc (length xs)
    split below (inl t) = let zero_is : 0 ≡ i = (let h : Some 0 ≡ Some i = rw t at is in cc) in omega (arith, zero_is)
    split below (inr f) = earlier (place_in xs e) (rw f at is) below

-- what the map's answer says
pub absent : (pool : List Entry) (places : BTreeMap Entry ℕ) (e : Entry) (b : Bool) → ArePlaces ghosts.cmp pool places → b ≡ is_some (tree.get ghosts.cmp places e) → b ≡ false → place_in pool e ≡ None
absent pool places e b are is no_key = none_of (place_in pool e) (ap (λ (o : Option ℕ). is_some o) (sym (are e)) ∙ sym is ∙ no_key)

pub present : (pool : List Entry) (places : BTreeMap Entry ℕ) (e : Entry) (b : Bool) → ArePlaces ghosts.cmp pool places → b ≡ is_some (tree.get ghosts.cmp places e) → b ≡ true → pool ≡ added pool e
present pool places e b are is key = sym (added_there pool e (ap (λ (o : Option ℕ). is_some o) (sym (are e)) ∙ sym is ∙ key))

pub index_none : (pool : List Entry) (e : Entry) → place_in pool e ≡ None → 0 ≡ index_of pool e
unfolding index_of
index_none pool e none = rw none refl

pub index_some : (pool : List Entry) (e : Entry) (i : ℕ) → place_in pool e ≡ Some i → i + 1 ≡ index_of pool e
unfolding index_of
index_some pool e i some = rw some refl
