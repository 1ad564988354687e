-- Handle sites: how a loop reads them, and that they are the same wherever a call stands.
use Rattle.std.proofs.Common.{◌≡◌, ℕ, ◌+◌, ◌<◌, ◌≤◌, Bool, true, false, ltb, List, [], ◌∷◌, ◌++◌, length, map, get_or, drop, refl, sym, ap, subst, ◌∙◌, ◌⊎◌, inl, inr, append_assoc, arith}
use Rattle.std.specs.Prelude.{Option, Some, None, Result, Ok, Err, nat_lt, if◌then◌else◌}
use Rattle.std.specs.List.{slice_get}
use Rattle.std.specs.Option.{option_to_list}
use Rattle.std.proofs.lemmas.Option.{same_Some, slice_get_read, slice_get_past}
use Rattle.std.proofs.Math.ListN.{drop_of_length-le}
use Rattle.std.proofs.lemmas.List.{append-nil, drop_more, length-append, length-drop, map-append, nil_from_length}
use Rattle.std.proofs.lemmas.Bool.{lt-ltb, le-ltb}
use Rattle.std.proofs.lemmas.Bool.Decides.{nat_tests}
use Rattle.fcg_grammar.specs.declared.error.ReadError.{ReadError}
use Rattle.fcg_grammar.specs.declared.error.ReadError.TheVariants as errors
use Rattle.fcg_grammar.specs.Reading.{◌>>=◌, unless_broken, Fails}
use Rattle.fcg_grammar.specs.Rows.{carried}
use Rattle.fcg_grammar.proofs.LawLemmas.{bind_ok, kept_ok, err_is}
use Rattle.fcg_grammar.proofs.RowLemmas.{with_front}
use Rattle.fcg_grammar.proofs.Standing.{ok_is}
use Rattle.fcg_classfile.specs.declared.code.DynamicCall.{DynamicCall}
use Rattle.fcg_views.specs.declared.view.Ref.{Ref}
use Rattle.fcg_views.specs.declared.view.Site.{Site}
use Rattle.fcg_classfile.specs.declared.fault.ClassFault.{ClassFault}
use Rattle.fcg_classfile.specs.declared.fault.PoolRule.{PoolRule}
use Rattle.fcg_classfile.specs.declared.fault.ClassRule.TheVariants.{WrongKind, EmptyName, Descriptor, ManySites, Bootstrap}
use Rattle.fcg_classfile.specs.ClassFile.{is_one_of, Constant, Utf8, Plain, Named, Pair, Handle, BootstrapMethod}
use Rattle.fcg_views.specs.DescriptorSteps.{is_descriptor, is_field_descriptor}
use Rattle.fcg_classfile.specs.Sites.{Target, ToMethod, ToField, ToType, SiteForm, handle_form, concat_sites, merged}
use Rattle.fcg_classfile.specs.Breaks.Fault.{fault, rule_of, at_place}
use Rattle.fcg_classfile.specs.Breaks.Pool.{Entries, constant_of, reference_of, name_of, text_of, handle_in}
use Rattle.fcg_classfile.specs.Breaks.Names.{type_of}
use Rattle.fcg_classfile.specs.Breaks.Code.{member_of, target_of, site_of}
use Rattle.fcg_classfile.specs.Breaks.Bootstrap.{formed_sites, constant_sites, index_sites, row_sites, call_sites}
use Rattle.fcg_classfile.specs.Breaks.Members.{Calls, finished}
use Rattle.fcg_pool.specs.CodeValues.{handle_indexes_in, handle_indexes_of}
use Rattle.fcg_reader.specs.declared.rows.SiteRow.{SiteRow}
use Rattle.fcg_reader.specs.declared.rows.MethodRow.{MethodRow}
use Rattle.fcg_reader.specs.Internal.Kept.{IsKept}
use Rattle.fcg_reader.specs.Internal.Rows.{site_in, sites_in, method_in}
use Rattle.fcg_reader.specs.Internal.Calls.{unfinished_in}
use Rattle.fcg_reader.specs.Internal.Handles.{BootstrapsIn, bootstraps, moved, moved_row, moved_at, all_moved_at, AreSitesOf, AreKept, counted, all_joined, is_second, merged_rows, GivesMore}

-- ---- a loop over a list

-- one more after those that were read
module _ {X Y S : Type 0} (read : X → S → Result (Y × S) ClassFault) where
  regroup : (front : List Y) (y : Y) (others : Result (List Y × S) ClassFault) → with_front front (others >>= λ o. Ok (y ∷ o.0, o.1)) ≡ with_front (front ++ y ∷ []) others
  regroup front y (Ok o) = ap (λ (ys : List Y). Ok (ys, o.1)) (simp append_assoc)
  regroup front y (Err f) = refl

  pub carried_goes_on : (front : List Y) (x : X) (xs : List X) (s : S) (y : Y) (after : S) (total : Result (List Y × S) ClassFault) → read x s ≡ Ok (y, after)
      → with_front front (carried read (x ∷ xs) s) ≡ total → with_front (front ++ y ∷ []) (carried read xs after) ≡ total
  carried_goes_on front x xs s y after total h so_far =
      let one : with_front front (carried read (x ∷ xs) s) ≡ with_front (front ++ y ∷ []) (carried read xs after) = rw h (regroup front y (carried read xs after)) in
      sym one ∙ so_far

  pub carried_fails : (e : ReadError ClassFault) (front : List Y) (x : X) (xs : List X) (s : S) (total : Result (List Y × S) ClassFault) → Fails e (read x s)
      → with_front front (carried read (x ∷ xs) s) ≡ total → Fails e total
  carried_fails errors.NoMemory front x xs s total h so_far = tt
  carried_fails (errors.Fault f) front x xs s total h so_far =
      let one : with_front front (carried read (x ∷ xs) s) ≡ Err f = rw h refl in
      sym so_far ∙ one

  pub carried_done : (front : List Y) (s : S) (total : Result (List Y × S) ClassFault) → with_front front (carried read [] s) ≡ total → total ≡ Ok (front, s)
  carried_done front s total so_far = sym so_far ∙ ap (λ (ys : List Y). Ok (ys, s)) (append-nil front)

  pub carried_begins : (xs : List X) (s : S) → with_front [] (carried read xs s) ≡ carried read xs s
  carried_begins xs s = whole (carried read xs s)
    where
      whole : (r : Result (List Y × S) ClassFault) → with_front [] r ≡ r
      whole (Ok x) = refl
      whole (Err f) = refl

  -- what a first part gives, and then the rest
  abbrev then_rest : List X → Result (List Y × S) ClassFault → Result (List Y × S) ClassFault
  then_rest ys a = a >>= λ x. with_front x.0 (carried read ys x.1)

  front_first : (ys : List X) (y : Y) (a : Result (List Y × S) ClassFault) → (then_rest ys a >>= λ o. Ok (y ∷ o.0, o.1)) ≡ then_rest ys (a >>= λ o. Ok (y ∷ o.0, o.1))
  front_first ys y (Err f) = refl
  front_first ys y (Ok a) = last (carried read ys a.1)
    where
      last : (r : Result (List Y × S) ClassFault) → (with_front a.0 r >>= λ o. Ok (y ∷ o.0, o.1)) ≡ with_front (y ∷ a.0) r
      last (Ok b) = refl
      last (Err f) = refl

  pub carried_append : (xs ys : List X) (s : S) → carried read (xs ++ ys) s ≡ then_rest ys (carried read xs s)
  carried_append [] ys s = sym (carried_begins ys s)
  carried_append (x ∷ xs) ys s = by_first (λ after. carried_append xs ys after) (read x s)
    where
      by_first : ((after : S) → carried read (xs ++ ys) after ≡ then_rest ys (carried read xs after)) → (r : Result (Y × S) ClassFault)
          → (r >>= λ first. carried read (xs ++ ys) first.1 >>= λ o. Ok (first.0 ∷ o.0, o.1)) ≡ then_rest ys (r >>= λ first. carried read xs first.1 >>= λ o. Ok (first.0 ∷ o.0, o.1))
      by_first others (Err f) = refl
      by_first others (Ok first) = rw (others first.1) (front_first ys first.0 (carried read xs first.1))

-- one more of a list of rows
module _ {V W X Y S : Type 0} (f : V → X) (g : W → Y) (read : X → S → Result (Y × S) ClassFault) where
  pub mapped_goes_on : (front : List W) (v : V) (vs : List V) (s : S) (w : W) (after : S) (total : Result (List Y × S) ClassFault) → read (f v) s ≡ Ok (g w, after)
      → with_front (map g front) (carried read (map f (v ∷ vs)) s) ≡ total → with_front (map g (front ++ w ∷ [])) (carried read (map f vs) after) ≡ total
  mapped_goes_on front v vs s w after total h so_far = rw (map-append g front (w ∷ [])) (carried_goes_on read (map g front) (f v) (map f vs) s (g w) after total h so_far)

-- the same where each of the list gives a list
abbrev pub with_joined : Entries → List SiteRow → Result (List (List Site) × ℕ) ClassFault → Result (List Site × ℕ) ClassFault
with_joined pool front read = read >>= λ x. Ok (sites_in pool front ++ concat_sites x.0, x.1)

module _ {X : Type 0} (pool : Entries) (read : X → ℕ → Result (List Site × ℕ) ClassFault) where
  regroup_joined : (front here : List SiteRow) (others : Result (List (List Site) × ℕ) ClassFault) → with_joined pool front (others >>= λ o. Ok (sites_in pool here ∷ o.0, o.1)) ≡ with_joined pool (front ++ here) others
  regroup_joined front here (Ok o) = ap (λ (ys : List Site). Ok (ys, o.1)) (rw (map-append (site_in pool) front here) (simp append_assoc))
  regroup_joined front here (Err f) = refl

  pub joined_begins : (x : X) (xs : List X) (s after : ℕ) (here : List SiteRow) → read x s ≡ Ok (sites_in pool here, after) → with_joined pool here (carried read xs after) ≡ all_joined (carried read (x ∷ xs) s)
  joined_begins x xs s after here h = rw h (whole (carried read xs after))
    where
      whole : (r : Result (List (List Site) × ℕ) ClassFault) → with_joined pool here r ≡ all_joined (r >>= λ o. Ok (sites_in pool here ∷ o.0, o.1))
      whole (Ok o) = refl
      whole (Err f) = refl

  pub joined_starts : (xs : List X) (s : ℕ) → with_joined pool [] (carried read xs s) ≡ all_joined (carried read xs s)
  joined_starts xs s = whole (carried read xs s)
    where
      whole : (r : Result (List (List Site) × ℕ) ClassFault) → with_joined pool [] r ≡ all_joined r
      whole (Ok o) = refl
      whole (Err f) = refl

  pub joined_fails_first : (e : ReadError ClassFault) (x : X) (xs : List X) (s : ℕ) → Fails e (read x s) → Fails e (all_joined (carried read (x ∷ xs) s))
  joined_fails_first errors.NoMemory x xs s h = tt
  joined_fails_first (errors.Fault f) x xs s h = rw h refl

  pub joined_goes_on : (front : List SiteRow) (i : ℕ) (xs : List X) (d : X) (s after : ℕ) (here : List SiteRow) (total : Result (List Site × ℕ) ClassFault) → i < length xs → read (get_or xs i d) s ≡ Ok (sites_in pool here, after)
      → with_joined pool front (carried read (drop i xs) s) ≡ total → with_joined pool (front ++ here) (carried read (drop (i + 1) xs) after) ≡ total
  joined_goes_on front i xs d s after here total lt h so_far =
      let one : with_joined pool front (carried read (drop i xs) s) ≡ with_joined pool (front ++ here) (carried read (drop (i + 1) xs) after) = rw (drop_more xs i d lt, h) (regroup_joined front here (carried read (drop (i + 1) xs) after)) in
      sym one ∙ so_far

  pub joined_fails : (e : ReadError ClassFault) (front : List SiteRow) (i : ℕ) (xs : List X) (d : X) (s : ℕ) (total : Result (List Site × ℕ) ClassFault) → i < length xs → Fails e (read (get_or xs i d) s)
      → with_joined pool front (carried read (drop i xs) s) ≡ total → Fails e total
  joined_fails errors.NoMemory front i xs d s total lt h so_far = tt
  joined_fails (errors.Fault f) front i xs d s total lt h so_far =
      let one : with_joined pool front (carried read (drop i xs) s) ≡ Err f = rw (drop_more xs i d lt, h) refl in
      sym so_far ∙ one

  pub joined_done : (front : List SiteRow) (i : ℕ) (xs : List X) (s : ℕ) (total : Result (List Site × ℕ) ClassFault) → length xs ≤ i → with_joined pool front (carried read (drop i xs) s) ≡ total → total ≡ Ok (sites_in pool front, s)
  joined_done front i xs s total le so_far =
      let one : with_joined pool front (carried read (drop i xs) s) ≡ Ok (sites_in pool front, s) = rw (drop_of_length-le xs le) (ap (λ (ys : List Site). Ok (ys, s)) (append-nil (sites_in pool front))) in
      sym so_far ∙ one

pub given_more : (pool : Entries) (count : ℕ) (old new here : List SiteRow) (read : Result (List Site × ℕ) ClassFault) → new ≡ old ++ here → read ≡ Ok (sites_in pool here, count + length old + length here) → GivesMore pool (Ok tt) count old new read
given_more pool count old new here read pushed is =
    let n : count + length old + length here ≡ count + length new = rw (pushed, length-append old here) (omega arith) in
    (here, pushed, is ∙ ap (λ (k : ℕ). Ok (sites_in pool here, k)) n)

-- ---- the sites of an index

module _ (pool : Entries) (at pc index count : ℕ) where
  pub index_fails : (found : Result (Option (ℕ × ℕ)) PoolRule) (f : ClassFault) → found ≡ handle_indexes_of pool index → at_place at index found ≡ Err f → index_sites pool at pc index count ≡ Err f
  unfolding index_sites
  index_fails found f is e = by (constant_of pool index) (subst (λ (r : Result (Option (ℕ × ℕ)) PoolRule). at_place at index r ≡ Err f) is e)
    where
      by : (r : Result Constant PoolRule) → at_place at index (r >>= λ c. Ok (handle_indexes_in c)) ≡ Err f → (at_place at index r >>= λ c. constant_sites pool at pc c count) ≡ Err f
      by (Ok c) e = absurd cc
      by (Err rule) e = ap (λ (g : ClassFault). Err g) (err_is (fault at index (rule_of rule)) f e)

  pub index_other : (found : Result (Option (ℕ × ℕ)) PoolRule) → found ≡ handle_indexes_of pool index → at_place at index found ≡ Ok None → index_sites pool at pc index count ≡ Ok ([], count + 0)
  unfolding index_sites
  index_other found is e =
      let n : count ≡ count + 0 = omega arith in
      by (constant_of pool index) (subst (λ (r : Result (Option (ℕ × ℕ)) PoolRule). at_place at index r ≡ Ok None) is e) ∙ ap (λ (k : ℕ). Ok ([], k)) n
    where
      by_constant : (c : Constant) → at_place at index (Ok (handle_indexes_in c)) ≡ Ok None → constant_sites pool at pc c count ≡ Ok ([], count)
      by_constant (Utf8 text) e = refl
      by_constant (Plain tag bytes) e = refl
      by_constant (Named tag i) e = refl
      by_constant (Pair tag i j) e = refl
      by_constant (Handle kind i) e = absurd cc

      by : (r : Result Constant PoolRule) → at_place at index (r >>= λ c. Ok (handle_indexes_in c)) ≡ Ok None → (at_place at index r >>= λ c. constant_sites pool at pc c count) ≡ Ok ([], count)
      by (Ok c) e = by_constant c e
      by (Err rule) e = absurd cc

  pub index_handle : (found : Result (Option (ℕ × ℕ)) PoolRule) (handle : ℕ × ℕ) → found ≡ handle_indexes_of pool index → at_place at index found ≡ Ok (Some handle)
      → index_sites pool at pc index count ≡ formed_sites pool at pc (handle_form handle.0) handle.1 count
  unfolding index_sites
  index_handle found handle is e = by (constant_of pool index) (subst (λ (r : Result (Option (ℕ × ℕ)) PoolRule). at_place at index r ≡ Ok (Some handle)) is e)
    where
      by_constant : (c : Constant) → at_place at index (Ok (handle_indexes_in c)) ≡ Ok (Some handle) → constant_sites pool at pc c count ≡ formed_sites pool at pc (handle_form handle.0) handle.1 count
      by_constant (Utf8 text) e = absurd cc
      by_constant (Plain tag bytes) e = absurd cc
      by_constant (Named tag i) e = absurd cc
      by_constant (Pair tag i j) e = absurd cc
      by_constant (Handle kind i) e =
          let same : (kind, i) ≡ handle = cc in
          subst (λ (h : ℕ × ℕ). formed_sites pool at pc (handle_form kind) i count ≡ formed_sites pool at pc (handle_form h.0) h.1 count) same refl

      by : (r : Result Constant PoolRule) → at_place at index (r >>= λ c. Ok (handle_indexes_in c)) ≡ Ok (Some handle)
          → (at_place at index r >>= λ c. constant_sites pool at pc c count) ≡ formed_sites pool at pc (handle_form handle.0) handle.1 count
      by (Ok c) e = by_constant c e
      by (Err rule) e = absurd cc

  -- a method handle that calls no method, or one that calls the method of a form
  pub index_formless : (found : Result (Option (ℕ × ℕ)) PoolRule) (handle : ℕ × ℕ) → found ≡ handle_indexes_of pool index → at_place at index found ≡ Ok (Some handle) → None ≡ handle_form handle.0
      → index_sites pool at pc index count ≡ Ok ([], count + 0)
  index_formless found handle is e form_is =
      let n : count ≡ count + 0 = omega arith in
      index_handle found handle is e ∙ rw (← form_is) refl ∙ ap (λ (k : ℕ). Ok ([], k)) n

  index_formed : (found : Result (Option (ℕ × ℕ)) PoolRule) (handle : ℕ × ℕ) (form : SiteForm) → found ≡ handle_indexes_of pool index → at_place at index found ≡ Ok (Some handle) → Some form ≡ handle_form handle.0
      → index_sites pool at pc index count ≡ (site_of pool form at pc handle.1 count >>= λ s. Ok (s ∷ [], count + 1))
  index_formed found handle form is e form_is = index_handle found handle is e ∙ rw (← form_is) refl

  pub index_broken : (found : Result (Option (ℕ × ℕ)) PoolRule) (handle : ℕ × ℕ) (form : SiteForm) (f : ClassFault) → found ≡ handle_indexes_of pool index → at_place at index found ≡ Ok (Some handle)
      → Some form ≡ handle_form handle.0 → site_of pool form at pc handle.1 count ≡ Err f → index_sites pool at pc index count ≡ Err f
  index_broken found handle form f is e form_is broken = index_formed found handle form is e form_is ∙ rw broken refl

  pub index_read : (found : Result (Option (ℕ × ℕ)) PoolRule) (handle : ℕ × ℕ) (form : SiteForm) (s : Site) → found ≡ handle_indexes_of pool index → at_place at index found ≡ Ok (Some handle)
      → Some form ≡ handle_form handle.0 → site_of pool form at pc handle.1 count ≡ Ok s → index_sites pool at pc index count ≡ Ok (s ∷ [], count + 1)
  index_read found handle form s is e form_is read = index_formed found handle form is e form_is ∙ rw read refl

-- where there is a site more, there were fewer before
pub site_of-few : (pool : Entries) (form : SiteForm) (at pc index count : ℕ) (s : Site) → site_of pool form at pc index count ≡ Ok s → count + 1 ≤ 1000000
unfolding site_of
site_of-few pool form at pc index count s e =
    let a = bind_ok (target_of pool form.target at index) _ s e in
    let b = bind_ok (unless_broken (nat_lt count 1000000) (fault at 0 ManySites)) _ s a.2 in
    below count (kept_ok (nat_lt count 1000000) (fault at 0 ManySites) b.0 b.1)
  where
    below : (n : ℕ) → nat_lt n 1000000 ≡ true → n + 1 ≤ 1000000
    below n is = grind (arith, nat_tests)

-- ---- the sites of a bootstrap method are the same wherever a call stands

-- what the first reading gives the second gives too
abbrev Agrees : {A E : Type 0} → Result A E → Result A E → Type 0
Agrees {A} r s = (x : A) → r ≡ Ok x → s ≡ Ok x

agrees_bind : {A B E : Type 0} (r s : Result A E) (f g : A → Result B E) → Agrees r s → ((a : A) → Agrees (f a) (g a)) → Agrees (r >>= f) (s >>= g)
agrees_bind (Ok a) s f g h k x e = rw (h a refl) (k a x e)
agrees_bind (Err d) s f g h k x e = absurd cc

agrees_self : {A E : Type 0} (r : Result A E) → Agrees r r
agrees_self r x e = e

agrees_place : {A : Type 0} (at there index : ℕ) (r : Result A PoolRule) → Agrees (at_place at index r) (at_place there index r)
agrees_place at there index (Ok a) x e = e
agrees_place at there index (Err rule) x e = absurd cc

-- a site, and how many there are with it
abbrev one_more : ℕ → Result Site ClassFault → Result (List Site × ℕ) ClassFault
one_more count r = r >>= λ s. Ok (s ∷ [], count + 1)

module _ (pool : Entries) (at there : ℕ) where
  member_agrees : (is_typed : List ℕ → Bool) (tags : List ℕ) (index : ℕ) → Agrees (member_of pool is_typed tags at index) (member_of pool is_typed tags there index)
  unfolding member_of
  member_agrees is_typed tags index r e =
      let a = bind_ok (at_place at index (reference_of pool index)) _ r e in
      let allowed = bind_ok (unless_broken (is_one_of tags a.0.tag) (fault at index WrongKind)) _ r a.2 in
      let owned = bind_ok (unless_broken (nat_lt 0 (length a.0.owner)) (fault at 0 EmptyName)) _ r allowed.2 in
      let named = bind_ok (unless_broken (nat_lt 0 (length a.0.name)) (fault at 0 EmptyName)) _ r owned.2 in
      let typed = bind_ok (unless_broken (is_typed a.0.desc) (fault at 0 Descriptor)) _ r named.2 in
      rw (agrees_place at there index (reference_of pool index) a.0 a.1, kept_ok _ _ allowed.0 allowed.1, kept_ok _ _ owned.0 owned.1, kept_ok _ _ named.0 named.1, kept_ok _ _ typed.0 typed.1) typed.2

  type_agrees : (index : ℕ) → Agrees (type_of pool at index) (type_of pool there index)
  unfolding type_of
  type_agrees index r e =
      let a = bind_ok (at_place at index (name_of pool index >>= text_of pool)) _ r e in
      let filled = bind_ok (unless_broken (nat_lt 0 (length a.0)) (fault at 0 EmptyName)) _ r a.2 in
      rw (agrees_place at there index (name_of pool index >>= text_of pool) a.0 a.1, kept_ok _ _ filled.0 filled.1) filled.2

  target_agrees : (target : Target) (index : ℕ) → Agrees (target_of pool target at index) (target_of pool target there index)
  target_agrees (ToMethod tags) index = member_agrees is_descriptor tags index
  target_agrees ToField index = member_agrees is_field_descriptor (9 ∷ []) index
  target_agrees ToType index = agrees_bind _ _ _ _ (type_agrees index) (λ name. agrees_self _)

  module _ (pc count to now : ℕ) where
    site_by : (form : SiteForm) (index : ℕ) (r : Ref) → target_of pool form.target there index ≡ Ok r
        → one_more now (site_of pool form there to index now) ≡ all_moved_at there to (record { pc = pc; kind = form.kind; target = r } ∷ []) now
    unfolding site_of moved_at
    site_by form index r e = rw e (by_count (nat_lt now 1000000) (record { pc = to; kind = form.kind; target = r }))
      where
        site_then : Bool → Site → Result (Site × ℕ) ClassFault
        site_then few x = unless_broken few (fault there 0 ManySites) >>= λ counted. Ok (x, now + 1)

        by_count : (few : Bool) (x : Site) → one_more now (unless_broken few (fault there 0 ManySites) >>= λ counted. Ok x) ≡ (site_then few x >>= λ first. carried (moved_at there to) [] first.1 >>= λ o. Ok (first.0 ∷ o.0, o.1))
        by_count true x = refl
        by_count false x = refl

    site_again : (form : SiteForm) (index : ℕ) (s : Site) → site_of pool form at pc index count ≡ Ok s
        → one_more now (site_of pool form there to index now) ≡ all_moved_at there to (s ∷ []) now
    unfolding site_of
    site_again form index s e =
        let a = bind_ok (target_of pool form.target at index) _ s e in
        let b = bind_ok (unless_broken (nat_lt count 1000000) (fault at 0 ManySites)) _ s a.2 in
        subst (λ (x : Site). one_more now (site_of pool form there to index now) ≡ all_moved_at there to (x ∷ []) now) (ok_is _ s b.2) (site_by form index a.0 (target_agrees form.target index a.0 a.1))

    formed_again : (form : Option SiteForm) (index : ℕ) (here : List Site × ℕ) → formed_sites pool at pc form index count ≡ Ok here → formed_sites pool there to form index now ≡ all_moved_at there to here.0 now
    formed_again None index here e = rw (← ok_is _ here e) refl
    formed_again (Some form) index here e =
        let a = bind_ok (site_of pool form at pc index count) _ here e in
        rw (← ok_is _ here a.2) (site_again form index a.0 a.1)

    constant_again : (c : Constant) (here : List Site × ℕ) → constant_sites pool at pc c count ≡ Ok here → constant_sites pool there to c now ≡ all_moved_at there to here.0 now
    constant_again (Utf8 text) here e = rw (← ok_is _ here e) refl
    constant_again (Plain tag bytes) here e = rw (← ok_is _ here e) refl
    constant_again (Named tag i) here e = rw (← ok_is _ here e) refl
    constant_again (Pair tag i j) here e = rw (← ok_is _ here e) refl
    constant_again (Handle kind i) here e = formed_again (handle_form kind) i here e

    index_again : (index : ℕ) (here : List Site × ℕ) → index_sites pool at pc index count ≡ Ok here → index_sites pool there to index now ≡ all_moved_at there to here.0 now
    unfolding index_sites
    index_again index here e =
        let a = bind_ok (at_place at index (constant_of pool index)) _ here e in
        rw (agrees_place at there index (constant_of pool index) a.0 a.1) (constant_again a.0 here a.2)

  again_first : (pc to : ℕ) (is : List ℕ) (rest : List Site) → ((n : ℕ) → all_joined (carried (index_sites pool there to) is n) ≡ all_moved_at there to rest n) → (r : Result (List Site × ℕ) ClassFault)
      → all_joined (r >>= λ first. carried (index_sites pool there to) is first.1 >>= λ o. Ok (first.0 ∷ o.0, o.1)) ≡ (r >>= λ x. with_front x.0 (all_moved_at there to rest x.1))
  again_first pc to is rest others (Err f) = refl
  again_first pc to is rest others (Ok first) = rw (← others first.1) (last (carried (index_sites pool there to) is first.1))
    where
      last : (o : Result (List (List Site) × ℕ) ClassFault) → all_joined (o >>= λ o. Ok (first.0 ∷ o.0, o.1)) ≡ with_front first.0 (all_joined o)
      last (Ok x) = refl
      last (Err f) = refl

  indexes_again : (pc to : ℕ) (indexes : List ℕ) (count now : ℕ) (read : List (List Site) × ℕ) → carried (index_sites pool at pc) indexes count ≡ Ok read
      → all_joined (carried (index_sites pool there to) indexes now) ≡ all_moved_at there to (concat_sites read.0) now
  indexes_again pc to [] count now read e = rw (← ok_is _ read e) refl
  indexes_again pc to (i ∷ is) count now read e =
      let a = bind_ok (index_sites pool at pc i count) _ read e in
      let b = bind_ok (carried (index_sites pool at pc) is a.0.1) _ read a.2 in
      rw (← ok_is _ read b.2, index_again pc count to now i a.0 a.1, carried_append (moved_at there to) a.0.0 (concat_sites b.0.0) now)
      (again_first pc to is (concat_sites b.0.0) (λ n. indexes_again pc to is a.0.1 n b.0 b.1) (all_moved_at there to a.0.0 now))

pub row_everywhere : (pool : Entries) (at pc count n : ℕ) (b : BootstrapMethod) (sites : List Site) → row_sites pool at pc b count ≡ Ok (sites, n) → AreSitesOf pool b sites
unfolding row_sites
row_everywhere pool at pc count n b sites e there to now =
    let a = bind_ok (at_place at b.handle (constant_of pool b.handle >>= handle_in)) _ (sites, n) e in
    let r = bind_ok (carried (index_sites pool at pc) (b.handle ∷ b.arguments) count) _ (sites, n) a.2 in
    let sites_are = ap (λ (x : List Site × ℕ). x.0) (ok_is _ (sites, n) r.2) in
    rw (agrees_place at there b.handle (constant_of pool b.handle >>= handle_in) a.0 a.1, ← sites_are) (indexes_again pool at there pc to (b.handle ∷ b.arguments) count now r.0 r.1)

-- ---- the loop over the sites of a bootstrap method

module _ (at pc : ℕ) where
  moved_few : (s : Site) (count : ℕ) → count < 1000000 → moved_at at pc s count ≡ Ok (moved pc s, count + 1)
  unfolding moved_at
  moved_few s count few = rw (lt-ltb count 1000000 few) refl

  moved_many : (s : Site) (count : ℕ) → 1000000 ≤ count → moved_at at pc s count ≡ Err (fault at 0 ManySites)
  unfolding moved_at
  moved_many s count many = rw (le-ltb count 1000000 many) refl

  pub moved_past : (pool : Entries) (front : List SiteRow) (i : ℕ) (found : List SiteRow) (count : ℕ) (total : Result (List Site × ℕ) ClassFault) → i < length found → 1000000 ≤ count
      → with_front (sites_in pool front) (all_moved_at at pc (sites_in pool (drop i found)) count) ≡ total → total ≡ Err (fault at 0 ManySites)
  moved_past pool front i found count total lt many so_far = sym so_far ∙ by (drop i found) (let left = length-drop i found in omega (arith, lt, left))
    where
      by : (rest : List SiteRow) → 0 < length rest → with_front (sites_in pool front) (all_moved_at at pc (sites_in pool rest) count) ≡ Err (fault at 0 ManySites)
      by [] some = absurd (omega (arith, some))
      by (s ∷ ss) some = rw (moved_many (site_in pool s) count many) refl

  pub moved_done : (pool : Entries) (front : List SiteRow) (i : ℕ) (found : List SiteRow) (count : ℕ) (total : Result (List Site × ℕ) ClassFault) → length found ≤ i
      → with_front (sites_in pool front) (all_moved_at at pc (sites_in pool (drop i found)) count) ≡ total → total ≡ Ok (sites_in pool front, count)
  moved_done pool front i found count total le so_far = carried_done (moved_at at pc) (sites_in pool front) count total (rw (drop_of_length-le found le) at so_far)

  pub moved_on : (pool : Entries) (count : ℕ) (items new front : List SiteRow) (i : ℕ) (found : List SiteRow) (d copy : SiteRow) (total : Result (List Site × ℕ) ClassFault) → i < length found
      → count + length items < 1000000 → copy ≡ moved_row pc (get_or found i d) → new ≡ items ++ copy ∷ []
      → with_front (sites_in pool front) (all_moved_at at pc (sites_in pool (drop i found)) (count + length items)) ≡ total
      → with_front (sites_in pool (front ++ copy ∷ [])) (all_moved_at at pc (sites_in pool (drop (i + 1) found)) (count + length new)) ≡ total
  moved_on pool count items new front i found d copy total lt few copied pushed so_far =
      let n : count + length items + 1 ≡ count + length new = rw (pushed, length-append items (copy ∷ [])) (omega arith) in
      let first : with_front (sites_in pool front) (all_moved_at at pc (sites_in pool (get_or found i d ∷ drop (i + 1) found)) (count + length items)) ≡ total = rw (drop_more found i d lt) at so_far in
      let read : moved_at at pc (site_in pool (get_or found i d)) (count + length items) ≡ Ok (site_in pool copy, count + length new) = moved_few (site_in pool (get_or found i d)) (count + length items) few ∙ rw (copied, n) refl in
      mapped_goes_on (site_in pool) (site_in pool) (moved_at at pc) front (get_or found i d) (drop (i + 1) found) (count + length items) copy (count + length new) total read first

pub one_pushed : (old items new front : List SiteRow) (copy : SiteRow) → new ≡ items ++ copy ∷ [] → items ≡ old ++ front → new ≡ old ++ (front ++ copy ∷ [])
one_pushed old items new front copy pushed kept = pushed ∙ rw kept (append_assoc old front (copy ∷ []))

-- ---- the sites of a call

-- the row that a call names, as the code finds it
module _ (pool : Entries) (inside seen : List BootstrapMethod) (value : BootstrapsIn) (number i : ℕ) (view_is : bootstraps pool inside ≡ value) (seen_is : seen ≡ inside) (same : i ≡ number) where
  pub row_known : (b : BootstrapMethod) → true ≡ ltb i (length seen) → b ≡ get_or seen i b → slice_get value.rows number ≡ Some b
  row_known b lt read =
      let found : slice_get seen i ≡ Some b = slice_get_read seen (length seen) i b refl (grind (arith, nat_tests, lt)) read in
      let rows : seen ≡ value.rows = seen_is ∙ ap (λ (v : BootstrapsIn). v.rows) view_is in
      rw (← rows, ← same) found

  pub row_missing : false ≡ ltb i (length seen) → slice_get value.rows number ≡ None
  row_missing past =
      let le : length seen ≤ i = grind (arith, nat_tests, past) in
      let rows : seen ≡ value.rows = seen_is ∙ ap (λ (v : BootstrapsIn). v.rows) view_is in
      rw (← rows, ← same) (slice_get_past seen i le)

pub call_missing : (pool : Entries) (rows : List BootstrapMethod) (begin : ℕ) (call : DynamicCall) (at count : ℕ) → at ≡ begin + call.pc → slice_get rows call.bootstrap ≡ None
    → call_sites pool rows begin call count ≡ Err (fault at 0 Bootstrap)
unfolding call_sites
call_missing pool rows begin call at count place none = rw (none, place) refl

module _ (pool : Entries) (rows : List BootstrapMethod) (begin : ℕ) (call : DynamicCall) (b : BootstrapMethod) (at : ℕ) (place : at ≡ begin + call.pc) (row : slice_get rows call.bootstrap ≡ Some b) where
  call_by : (count : ℕ) → call_sites pool rows begin call count ≡ row_sites pool at call.pc b count
  unfolding call_sites
  call_by count = rw (row, place) refl

  pub call_fails : (e : ReadError ClassFault) (count : ℕ) → Fails e (row_sites pool at call.pc b count) → Fails e (call_sites pool rows begin call count)
  call_fails errors.NoMemory count broken = tt
  call_fails (errors.Fault f) count broken = call_by count ∙ broken

  pub call_known : (sites : List Site) (result : Result (Unit {0}) (ReadError ClassFault)) (count : ℕ) (old new : List SiteRow) → AreSitesOf pool b sites
      → GivesMore pool result count old new (all_moved_at at call.pc sites (count + length old)) → GivesMore pool result count old new (call_sites pool rows begin call (count + length old))
  call_known sites result count old new known given =
      subst (λ (read : Result (List Site × ℕ) ClassFault). GivesMore pool result count old new read) (sym (call_by (count + length old) ∙ known at call.pc (count + length old))) given

-- what is kept stays kept, with the sites of one row more
pub kept_more : (pool : Entries) (rows : List BootstrapMethod) (old new : List (Option (List SiteRow))) (number : ℕ) (sites : List SiteRow) (b : BootstrapMethod) → slice_get rows number ≡ Some b → AreSitesOf pool b (sites_in pool sites)
    → IsKept number sites old new → AreKept pool rows old → AreKept pool rows new
kept_more pool rows old new number sites b row known more before i c here row_is kept_is = by (more i here kept_is)
  where
    by : (get_or old i None ≡ Some here) ⊎ ((i ≡ number) × (here ≡ sites)) → AreSitesOf pool c (sites_in pool here)
    by (inl was) = before i c here row_is was
    by (inr one) =
        let same : c ≡ b = same_Some _ _ (sym row_is ∙ ap (λ (n : ℕ). slice_get rows n) one.0 ∙ row) in
        subst (λ (x : BootstrapMethod). AreSitesOf pool x (sites_in pool here)) (sym same) (subst (λ (xs : List SiteRow). AreSitesOf pool b (sites_in pool xs)) (sym one.1) known)

-- ---- two lists of sites as one

merged_none : (ss : List Site) → merged ss [] ≡ ss
merged_none [] = refl
merged_none (s ∷ ss) = refl

merged_rows_none : (ss : List SiteRow) → merged_rows ss [] ≡ ss
merged_rows_none [] = refl
merged_rows_none (s ∷ ss) = refl

-- the first list's site is the next
pub own_next : (ss hs rest : List SiteRow) (r : Option SiteRow) → is_second ss hs ≡ false → ss ≡ option_to_list r ++ rest → merged_rows ss hs ≡ option_to_list r ++ merged_rows rest hs
own_next ss hs rest None own parts = rw parts refl
own_next ss hs rest (Some s) own parts = rw parts (by hs (rw parts at own))
  where
    by : (hs : List SiteRow) → is_second (s ∷ rest) hs ≡ false → merged_rows (s ∷ rest) hs ≡ s ∷ merged_rows rest hs
    by [] own = rw (merged_rows_none rest) refl
    by (h ∷ hs) own = rw own refl

-- the pc's alone decide
merged_in : (pool : Entries) (ss hs : List SiteRow) → sites_in pool (merged_rows ss hs) ≡ merged (sites_in pool ss) (sites_in pool hs)
merged_in pool [] hs = refl
merged_in pool (s ∷ ss) [] = refl
merged_in pool (s ∷ ss) (h ∷ hs) = by (nat_lt h.pc s.pc) (merged_in pool (s ∷ ss) hs) (merged_in pool ss (h ∷ hs))
  where
    by : (second : Bool) → sites_in pool (merged_rows (s ∷ ss) hs) ≡ merged (sites_in pool (s ∷ ss)) (sites_in pool hs) → sites_in pool (merged_rows ss (h ∷ hs)) ≡ merged (sites_in pool ss) (sites_in pool (h ∷ hs))
        → sites_in pool (if second then h ∷ merged_rows (s ∷ ss) hs else s ∷ merged_rows ss (h ∷ hs)) ≡ (if second then site_in pool h ∷ merged (sites_in pool (s ∷ ss)) (sites_in pool hs) else site_in pool s ∷ merged (sites_in pool ss) (sites_in pool (h ∷ hs)))
    by true handle own = ap (λ (rest : List Site). site_in pool h ∷ rest) handle
    by false handle own = ap (λ (rest : List Site). site_in pool s ∷ rest) own

-- ---- a method whole

module _ (pool : Entries) (rows : List BootstrapMethod) (m : MethodRow × Calls) (count : ℕ) (sites : List SiteRow) where
  -- a method without handle sites stays as it is
  pub finished_none : all_joined (carried (call_sites pool rows m.1.begin) m.1.calls count) ≡ Ok (counted pool count sites) → length sites ≡ 0 → finished pool rows (unfinished_in pool m) count ≡ Ok (method_in pool m.0, count)
  unfolding finished
  finished_none read none =
      let a = bind_ok (carried (call_sites pool rows m.1.begin) m.1.calls count) _ (counted pool count sites) read in
      let last = ok_is _ (counted pool count sites) a.2 in
      let empty : concat_sites a.0.0 ≡ [] = ap (λ (x : List Site × ℕ). x.0) last ∙ ap (sites_in pool) (nil_from_length sites none) in
      let after : a.0.1 ≡ count = ap (λ (x : List Site × ℕ). x.1) last ∙ omega (arith, none) in
      rw (a.1, empty, after, merged_none (sites_in pool m.0.sites)) refl

  pub finished_some : (merged : List SiteRow) → all_joined (carried (call_sites pool rows m.1.begin) m.1.calls count) ≡ Ok (counted pool count sites) → merged ≡ merged_rows m.0.sites sites
      → finished pool rows (unfinished_in pool m) count ≡ Ok (method_in pool (record { name = m.0.name; desc = m.0.desc; flags = m.0.flags; sites = merged }), count + length sites)
  unfolding finished
  finished_some merged read is =
      let a = bind_ok (carried (call_sites pool rows m.1.begin) m.1.calls count) _ (counted pool count sites) read in
      let last = ok_is _ (counted pool count sites) a.2 in
      let handles : concat_sites a.0.0 ≡ sites_in pool sites = ap (λ (x : List Site × ℕ). x.0) last in
      let after : a.0.1 ≡ count + length sites = ap (λ (x : List Site × ℕ). x.1) last in
      rw (a.1, handles, after, is, merged_in pool m.0.sites sites) refl
