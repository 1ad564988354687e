-- The handle sites of the calls, merged with the other sites, are the sites of a method.
use Rattle.std.proofs.Common.{◌≡◌, ◌⊎◌, inl, inr, ℕ, ◌+◌, ◌<◌, ◌≤◌, true, false, List, [], ◌∷◌, ◌++◌, append_assoc, length, length-append, map, refl, sym, ap, subst, ◌∙◌, arith}
use Rattle.std.specs.Prelude.{Option, Some, option_map, nat_lt}
use Rattle.std.specs.List.{slice_get, flat_map, AllByRecursion, AllZip}
use Rattle.std.proofs.lemmas.Bool.Decides.{nat_tests}
use Rattle.std.proofs.lemmas.List.Folds.{flat_map-map}
use Rattle.std.proofs.lemmas.Option.{slice_get-map}
use Rattle.fcg_views.specs.declared.view.Site.{Site}
use Rattle.fcg_views.specs.declared.view.SiteKind.{SiteKind}
use Rattle.fcg_views.specs.declared.view.SiteKind.TheVariants as kinds
use Rattle.fcg_views.specs.declared.view.HandleKind.{HandleKind}
use Rattle.fcg_views.specs.declared.view.HandleKind.TheVariants.{K5, K6, K7, K8, K9}
use Rattle.fcg_classfile.specs.ClassFile as file
use Rattle.fcg_classfile.specs.ClassFile.{is_one_of, Constant, BootstrapMethod}
use Rattle.fcg_views.specs.DescriptorSteps.{is_descriptor}
use Rattle.fcg_classfile.specs.Sites.{ToMethod, Target, SiteForm, IsTarget, handle_form, concat_sites, AreFormedAt, AreOfIndex, AreOfBootstrap, AreOfCall, merged, AreSites}
use Rattle.fcg_make.specs.declared.entry.Entry.{Entry}
use Rattle.fcg_make.specs.Entries.{index_of}
use Rattle.fcg_make.specs.Steps.{Step, is_handle, is_joined, is_call, before, calls, steps_of, size_of}
use Rattle.fcg_make.specs.Needs.{reference, reference_needs, method_tag, handle_number, handle_kind, handle, handle_needs}
use Rattle.fcg_make.specs.Unwritable.{is_member_name, is_typed_by, allows, allows_handle, has_member, is_placed_from}
use Rattle.fcg_make.specs.Layout.{handle_index, row_of}
use Rattle.fcg_make.proofs.TableLemmas.{at_bool}
use Rattle.fcg_make.proofs.HasLemmas.{Has, constants}
use Rattle.fcg_make.proofs.FactLemmas.{all_first}
use Rattle.fcg_make.proofs.LengthLemmas.{placed_first, all_append}
use Rattle.fcg_make.proofs.SoundLemmas.{both_of, IsGood, IsJoined, IsGoodStep}
use Rattle.fcg_make.proofs.PooledLaws.{IsPooled, names}
use Rattle.fcg_make.proofs.CodeLaws.{own, dynamic, found_of, IsTyped, only_method, either_method, only_interface, filled, member}

abbrev pub sites_of : Step → List Site
sites_of t = t.first ∷ t.more

-- ---- the sites of all instructions

before_sites : (s : Site) (ts : List Step) → flat_map sites_of (before s ts) ≡ s ∷ flat_map sites_of ts
before_sites s [] = refl
before_sites s (t ∷ ts) = split (at_bool (is_joined s t.first))
  where
    split : (is_joined s t.first ≡ true) ⊎ (is_joined s t.first ≡ false) → flat_map sites_of (before s (t ∷ ts)) ≡ s ∷ flat_map sites_of (t ∷ ts)
    split (inl j) = rw j refl
    split (inr other) = rw other refl

pub all_sites : (ss : List Site) → flat_map sites_of (steps_of ss) ≡ ss
all_sites [] = refl
all_sites (s ∷ ss) = before_sites s (steps_of ss) ∙ ap (λ (l : List Site). s ∷ l) (all_sites ss)

-- ---- their order

abbrev After : ℕ → List Site → Type 0
After at ss = AllByRecursion (λ s. at ≤ s.pc) ss

sooner : (at later : ℕ) (ss : List Site) → at ≤ later → After later ss → After at ss
sooner at later [] le after = tt
sooner at later (s ∷ ss) le after = (let here = after.0 in omega (arith, le, here), sooner at later ss le after.1)

size_some : (kind : SiteKind) → 0 < size_of kind
size_some kinds.Virtual = omega arith
size_some kinds.Interface = omega arith
size_some kinds.Special = omega arith
size_some kinds.Static = omega arith
size_some kinds.New = omega arith
size_some kinds.StaticField = omega arith
size_some (kinds.Handle kind) = omega arith

own_after : (at : ℕ) (ts : List Step) → is_placed_from at ts ≡ true → After at (own ts)
own_after at [] placed = tt
own_after at (t ∷ ts) placed =
    let p = placed_first at t ts placed in
    let le = p.after in
    let rest = sooner at (t.first.pc + size_of t.first.kind) (own ts) (omega (arith, le)) (own_after (t.first.pc + size_of t.first.kind) ts p.others) in
    split le rest (at_bool (is_call t))
  where
    split : at ≤ t.first.pc → After at (own ts) → (is_call t ≡ true) ⊎ (is_call t ≡ false) → After at (own (t ∷ ts))
    split le rest (inl call) = rw call rest
    split le rest (inr other) = rw other (le, rest)

group_after : (at : ℕ) (first : Site) (ss : List Site) → at ≤ first.pc → AllByRecursion (IsJoined first) ss → After at ss
group_after at first [] le joined = tt
group_after at first (s ∷ ss) le joined = (let same = joined.0.place in omega (arith, same, le), group_after at first ss le joined.1)

handles_after : (at : ℕ) (ts : List Step) → is_placed_from at ts ≡ true → AllByRecursion IsGoodStep ts → After at (flat_map sites_of (calls ts))
handles_after at [] placed good = tt
handles_after at (t ∷ ts) placed good =
    let p = placed_first at t ts placed in
    let le = p.after in
    let rest = sooner at (t.first.pc + size_of t.first.kind) (flat_map sites_of (calls ts)) (omega (arith, le)) (handles_after (t.first.pc + size_of t.first.kind) ts p.others good.1) in
    split le rest (at_bool (is_call t))
  where
    split : at ≤ t.first.pc → After at (flat_map sites_of (calls ts)) → (is_call t ≡ true) ⊎ (is_call t ≡ false) → After at (flat_map sites_of (calls (t ∷ ts)))
    split le rest (inl call) = rw call (all_append (λ (s : Site). at ≤ s.pc) (sites_of t) (flat_map sites_of (calls ts)) (le, group_after at t.first t.more le good.0.joined) rest)
    split le rest (inr other) = rw other rest

not_lt : (a b : ℕ) → b ≤ a → nat_lt a b ≡ false
not_lt a b le = grind (arith, nat_tests)

is_lt : (a b : ℕ) → a < b → nat_lt a b ≡ true
is_lt a b lt = grind (arith, nat_tests)

merged_none : (ss : List Site) → merged ss [] ≡ ss
merged_none [] = refl
merged_none (s ∷ ss) = refl

-- a site before all handle sites
site_first : (s : Site) (ss hs : List Site) → After s.pc hs → merged (s ∷ ss) hs ≡ s ∷ merged ss hs
site_first s ss [] after = ap (λ (l : List Site). s ∷ l) (sym (merged_none ss))
site_first s ss (h ∷ hs) after = rw (not_lt h.pc s.pc after.0) refl

-- handle sites before all sites
handles_first : (at : ℕ) (gs ss hs : List Site) → AllByRecursion (λ g. g.pc < at) gs → After at ss → merged ss (gs ++ hs) ≡ gs ++ merged ss hs
handles_first at [] ss hs early after = refl
handles_first at (g ∷ gs) [] hs early after = ap (λ (l : List Site). g ∷ l) (handles_first at gs [] hs early.1 after)
handles_first at (g ∷ gs) (s ∷ ss) hs early after =
    let lt = early.0 in
    let le = after.0 in
    rw (is_lt g.pc s.pc (omega (arith, lt, le))) (ap (λ (l : List Site). g ∷ l) (handles_first at gs (s ∷ ss) hs early.1 after))

group_early : (at : ℕ) (first : Site) (ss : List Site) → first.pc < at → AllByRecursion (IsJoined first) ss → AllByRecursion (λ g. g.pc < at) ss
group_early at first [] lt joined = tt
group_early at first (s ∷ ss) lt joined = (let same = joined.0.place in omega (arith, same, lt), group_early at first ss lt joined.1)

pub merged_all : (at : ℕ) (ts : List Step) → is_placed_from at ts ≡ true → AllByRecursion IsGoodStep ts → merged (own ts) (flat_map sites_of (calls ts)) ≡ flat_map sites_of ts
merged_all at [] placed good = refl
merged_all at (t ∷ ts) placed good =
    let p = placed_first at t ts placed in
    split p.others (merged_all (t.first.pc + size_of t.first.kind) ts p.others good.1) (at_bool (is_call t))
  where
    split : is_placed_from (t.first.pc + size_of t.first.kind) ts ≡ true → merged (own ts) (flat_map sites_of (calls ts)) ≡ flat_map sites_of ts → (is_call t ≡ true) ⊎ (is_call t ≡ false)
        → merged (own (t ∷ ts)) (flat_map sites_of (calls (t ∷ ts))) ≡ flat_map sites_of (t ∷ ts)
    split others rest (inl call) =
        let some = size_some t.first.kind in
        let lt : t.first.pc < t.first.pc + size_of t.first.kind = omega (arith, some) in
        rw call (handles_first (t.first.pc + size_of t.first.kind) (sites_of t) (own ts) (flat_map sites_of (calls ts)) (lt, group_early (t.first.pc + size_of t.first.kind) t.first t.more lt good.0.joined) (own_after (t.first.pc + size_of t.first.kind) ts others)
        ∙ ap (λ (l : List Site). sites_of t ++ l) rest)
    split others rest (inr other) =
        let alone = good.0.alone other in
        rw (other, alone) (site_first t.first (own ts) (flat_map sites_of (calls ts)) (sooner t.first.pc (t.first.pc + size_of t.first.kind) (flat_map sites_of (calls ts)) (omega arith) (handles_after (t.first.pc + size_of t.first.kind) ts others good.1))
        ∙ ap (λ (l : List Site). t.first ∷ l) rest)

-- ---- the handle sites of a call

abbrev single : Site → List Site
single s = s ∷ []

joined_singles : (ss : List Site) → ss ≡ concat_sites (map single ss)
joined_singles [] = refl
joined_singles (s ∷ ss) = ap (λ (l : List Site). s ∷ l) (joined_singles ss)

module _ (pool : List Entry) (p : IsPooled pool) where
  by_method : (s : Site) (form : SiteForm) (allowed : List ℕ) → s.kind ≡ form.kind → form.target ≡ ToMethod allowed → is_one_of allowed (method_tag s.target) ≡ true → IsGood s → 0 < length s.target.name → is_descriptor s.target.desc ≡ true → AllByRecursion (Has pool) (handle_needs s)
      → AreFormedAt (constants pool) (Some form) s.pc (index_of pool (reference (method_tag s.target) s.target)) (single s)
  by_method s form allowed kind target tag good name typed has = (
    s,
    refl,
    record {
      pc_is = refl;
      kind_is = kind;
      target_is = subst (λ (x : Target). IsTarget (constants pool) x (index_of pool (reference (method_tag s.target) s.target)) s.target) (sym target)
          (member pool p allowed s.target tag good.owner name typed (all_first (Has pool) (reference_needs (method_tag s.target) s.target) (handle s ∷ []) has));
    },
  )

  of_handle_kind : (s : Site) (k : HandleKind) → s.kind ≡ kinds.Handle k → IsGood s → is_member_name (kinds.Handle k) s.target.name ≡ true → is_typed_by (kinds.Handle k) s.target.desc ≡ true → allows_handle k s.target.owner_is_interface_ref ≡ true
      → AllByRecursion (Has pool) (handle_needs s) → AreFormedAt (constants pool) (handle_form (handle_number k)) s.pc (index_of pool (reference (method_tag s.target) s.target)) (single s)
  of_handle_kind s K5 is good named typed allowed has = by_method s (record { kind = kinds.Handle K5; target = ToMethod (10 ∷ []) }) (10 ∷ []) is refl (only_method s.target.owner_is_interface_ref allowed) good (filled s.target.name named) typed has
  of_handle_kind s K6 is good named typed allowed has = by_method s (record { kind = kinds.Handle K6; target = ToMethod (10 ∷ 11 ∷ []) }) (10 ∷ 11 ∷ []) is refl (either_method s.target.owner_is_interface_ref) good (filled s.target.name named) typed has
  of_handle_kind s K7 is good named typed allowed has = by_method s (record { kind = kinds.Handle K7; target = ToMethod (10 ∷ 11 ∷ []) }) (10 ∷ 11 ∷ []) is refl (either_method s.target.owner_is_interface_ref) good (filled s.target.name named) typed has
  of_handle_kind s K8 is good named typed allowed has = by_method s (record { kind = kinds.Handle K8; target = ToMethod (10 ∷ []) }) (10 ∷ []) is refl (only_method s.target.owner_is_interface_ref allowed) good (filled s.target.name named) typed has
  of_handle_kind s K9 is good named typed allowed has = by_method s (record { kind = kinds.Handle K9; target = ToMethod (11 ∷ []) }) (11 ∷ []) is refl (only_interface s.target.owner_is_interface_ref allowed) good (filled s.target.name named) typed has

  of_handle : (s : Site) (kind : SiteKind) → s.kind ≡ kind → is_handle kind ≡ true → IsGood s → is_member_name kind s.target.name ≡ true → is_typed_by kind s.target.desc ≡ true → allows kind s.target.owner_is_interface_ref ≡ true
      → AllByRecursion (Has pool) (handle_needs s) → AreFormedAt (constants pool) (handle_form (handle_kind kind)) s.pc (index_of pool (reference (method_tag s.target) s.target)) (single s)
  of_handle s kinds.Virtual is h good named typed allowed has = absurd cc
  of_handle s kinds.Interface is h good named typed allowed has = absurd cc
  of_handle s kinds.Special is h good named typed allowed has = absurd cc
  of_handle s kinds.Static is h good named typed allowed has = absurd cc
  of_handle s kinds.New is h good named typed allowed has = absurd cc
  of_handle s kinds.StaticField is h good named typed allowed has = absurd cc
  of_handle s (kinds.Handle k) is h good named typed allowed has = of_handle_kind s k is good named typed allowed has

  -- a handle site of a call at a place, whose handle is in the pool
  pub record IsHandled (pc : ℕ) (s : Site) : Type 0 where
    pub handle : is_handle s.kind ≡ true
    pub place : s.pc ≡ pc
    pub typed : IsTyped s
    pub has : AllByRecursion (Has pool) (handle_needs s)

  of_index : (pc : ℕ) (s : Site) → IsHandled pc s → AreOfIndex (constants pool) pc (handle_index pool s) (single s)
  of_index pc s h =
      let k = both_of (allows s.kind s.target.owner_is_interface_ref) (has_member s.kind s.target.name s.target.desc) h.typed.good.kind in (
        file.Handle (handle_kind s.kind) (index_of pool (reference (method_tag s.target) s.target)),
        names pool p (handle s) h.has.1.1.1.1.1.1.0,
        subst (λ (place : ℕ). AreFormedAt (constants pool) (handle_form (handle_kind s.kind)) place (index_of pool (reference (method_tag s.target) s.target)) (single s)) h.place (of_handle s s.kind refl h.handle h.typed.good h.typed.good.named h.typed.typed k.0 h.has),
      )

  of_indexes : (pc : ℕ) (ss : List Site) → AllByRecursion (IsHandled pc) ss → AllZip (AreOfIndex (constants pool) pc) (map (handle_index pool) ss) (map single ss)
  of_indexes pc [] h = tt
  of_indexes pc (s ∷ ss) h = (of_index pc s h.0, of_indexes pc ss h.1)

  of_bootstrap : (t : Step) → AllByRecursion (IsHandled t.first.pc) (sites_of t) → AreOfBootstrap (constants pool) t.first.pc (row_of pool t) (sites_of t)
  of_bootstrap t h = record {
    kind = handle_kind t.first.kind;
    index = index_of pool (reference (method_tag t.first.target) t.first.target);
    handle = names pool p (handle t.first) h.0.has.1.1.1.1.1.1.0;
    each = map single (sites_of t);
    each_is = of_indexes t.first.pc (sites_of t) h;
    all = joined_singles (sites_of t);
  }

  -- ---- the calls of a method, by their rows

  row_at : (front rest : List Step) (t : Step) → slice_get (front ++ t ∷ rest) (length front) ≡ Some t
  row_at [] rest t = refl
  row_at (x ∷ xs) rest t = row_at xs rest t

  abbrev pub IsCalled : Step → Type 0
  IsCalled t = AllByRecursion (IsHandled t.first.pc) (sites_of t)

  pub of_calls : (all front rest : List Step) (row : ℕ) (ts : List Step) → all ≡ front ++ (calls ts ++ rest) → length front ≡ row → AllByRecursion IsCalled (calls ts)
      → AllZip (AreOfCall (constants pool) (map (row_of pool) all)) (dynamic row ts) (map sites_of (calls ts))
  of_calls all front rest row [] is counted h = tt
  of_calls all front rest row (t ∷ ts) is counted h = split (λ (front rest : List Step) (row : ℕ). of_calls all front rest row ts) (at_bool (is_call t))
    where
      split : ((front rest : List Step) (row : ℕ) → all ≡ front ++ (calls ts ++ rest) → length front ≡ row → AllByRecursion IsCalled (calls ts) → AllZip (AreOfCall (constants pool) (map (row_of pool) all)) (dynamic row ts) (map sites_of (calls ts)))
          → (is_call t ≡ true) ⊎ (is_call t ≡ false) → AllZip (AreOfCall (constants pool) (map (row_of pool) all)) (dynamic row (t ∷ ts)) (map sites_of (calls (t ∷ ts)))
      split more (inl call) =
          let here = rw call at is in
          let ready = rw call at h in
          let found : slice_get all row ≡ Some t = subst (λ (i : ℕ). slice_get all i ≡ Some t) counted (ap (λ (l : List Step). slice_get l (length front)) here ∙ row_at front (calls ts ++ rest) t) in
          let at_row : slice_get (map (row_of pool) all) row ≡ Some (row_of pool t) = slice_get-map (row_of pool) all row ∙ ap (λ (o : Option Step). option_map (row_of pool) o) found in
          let next : length (front ++ t ∷ []) ≡ row + 1 = omega (arith, length-append front (t ∷ []), counted) in
          rw call ((row_of pool t, at_row, of_bootstrap t ready.0), more (front ++ t ∷ []) rest (row + 1) (here ∙ sym (append_assoc front (t ∷ []) (calls ts ++ rest))) next ready.1)
      split more (inr other) =
          let here = rw other at is in
          let ready = rw other at h in
          let next : length front ≡ row + 0 = omega (arith, counted) in
          rw other (more front rest (row + 0) here next ready)

  pub are_sites : (all front rest : List Step) (row : ℕ) (ss : List Site) → is_placed_from 0 (steps_of ss) ≡ true → AllByRecursion IsGoodStep (steps_of ss) → all ≡ front ++ (calls (steps_of ss) ++ rest) → length front ≡ row → AllByRecursion IsCalled (calls (steps_of ss))
      → AreSites (constants pool) (map (row_of pool) all) (found_of row (steps_of ss)) ss
  are_sites all front rest row ss placed good is counted h = record {
    each = map sites_of (calls (steps_of ss));
    each_is = of_calls all front rest row (steps_of ss) is counted h;
    merged_are = sym (ap (λ (hs : List Site). merged (own (steps_of ss)) hs) (flat_map-map (λ (sites : List Site). sites) sites_of (calls (steps_of ss))) ∙ merged_all 0 (steps_of ss) placed good ∙ all_sites ss);
  }
