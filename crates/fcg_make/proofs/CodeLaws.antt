-- The code that is written is instructions, which have the sites.
use Rattle.std.proofs.Common.{◌≡◌, ◌⊎◌, inl, inr, ℕ, zero, suc, ◌+◌, ◌-◌, ◌<◌, Bool, true, false, not, List, [], ◌∷◌, ◌++◌, length, replicate, refl, sym, subst, arith}
use Rattle.std.specs.Prelude.{Some, nat_le, ◌==◌, if◌then◌else◌}
use Rattle.std.specs.List.{flat_map, AllByRecursion}
use Rattle.fcg_grammar.specs.Spell.{u2}
use Rattle.fcg_classfile.specs.declared.code.DynamicCall.{DynamicCall}
use Rattle.fcg_views.specs.declared.view.Ref.{Ref}
use Rattle.fcg_views.specs.declared.view.Site.{Site}
use Rattle.fcg_views.specs.declared.view.SiteKind.{SiteKind}
use Rattle.fcg_views.specs.declared.view.SiteKind.TheVariants as kinds
use Rattle.fcg_classfile.specs.ClassFile.{is_one_of}
use Rattle.fcg_views.specs.Descriptor.{IsDescriptor, IsFieldDescriptor}
use Rattle.fcg_views.specs.DescriptorSteps.{is_descriptor, is_field_descriptor}
use Rattle.fcg_views.proofs.DescLaws.{descriptor_found, field_descriptor_found}
use Rattle.fcg_classfile.specs.Instructions.{Fixed, form_of, Instruction, FitFrom}
use Rattle.fcg_classfile.specs.Sites.{ToMethod, ToField, ToType, SiteForm, site_form, is_dynamic, IsMember, IsType, IsTarget, IsSite, HasIndex, AreFormed, IsCall, AreDynamic, Found, nothing, both, AreOf, AreFound}
use Rattle.fcg_make.specs.declared.entry.Entry.{Entry}
use Rattle.fcg_make.specs.declared.entry.Entry.TheVariants.{Text, Class, Member, Dynamic}
use Rattle.fcg_make.specs.Entries.{index_of}
use Rattle.fcg_make.specs.Steps.{Step, is_handle, is_call, row_count, size_of, numbered}
use Rattle.fcg_make.specs.Needs.{dynamic_name, dynamic_desc, reference, reference_needs, method_tag, site_needs, step_needs}
use Rattle.fcg_make.specs.Unwritable.{is_name, is_member_name, is_typed_by, allows, has_member, is_placed_from}
use Rattle.fcg_make.specs.Layout.{opcode_of, operand_of, tail_of, instruction_of, nop, instructions_from}
use Rattle.fcg_make.proofs.TableLemmas.{at_bool}
use Rattle.fcg_make.proofs.HasLemmas.{Has, constants, index_small}
use Rattle.fcg_make.proofs.FactLemmas.{all_first, all_second}
use Rattle.fcg_make.proofs.LengthLemmas.{le_true, instruction_size, placed_first}
use Rattle.fcg_make.proofs.SoundLemmas.{both_of, IsName, IsGood}
use Rattle.fcg_make.proofs.PooledLaws.{IsPooled, names, names_class, names_reference}

-- ---- forms

form_by : (kind : SiteKind) (i : ℕ) → form_of (opcode_of kind) ≡ Some (Fixed (length (u2 i ++ tail_of kind)))
form_by kinds.Virtual i = refl
form_by kinds.Interface i = refl
form_by kinds.Special i = refl
form_by kinds.Static i = refl
form_by kinds.New i = refl
form_by kinds.StaticField i = refl
form_by (kinds.Handle kind) i = refl

nops_fit : (n at : ℕ) (is : List Instruction) → FitFrom (at + n) is → FitFrom at (replicate n nop ++ is)
nops_fit zero at is fit = subst (λ (place : ℕ). FitFrom place is) (let e : at + 0 ≡ at = omega arith in e) fit
nops_fit (suc n) at is fit = (refl, nops_fit n (at + 1) is (subst (λ (place : ℕ). FitFrom place is) (let e : at + suc n ≡ at + 1 + n = omega arith in e) fit))

pub fit_from : (pool : List Entry) (at row : ℕ) (ts : List Step) → is_placed_from at ts ≡ true → FitFrom at (instructions_from pool at (numbered row_count row ts))
fit_from pool at row [] e = (refl, tt)
fit_from pool at row (t ∷ ts) e =
    let p = placed_first at t ts e in
    let after = p.after in
    let here : at + (t.first.pc - at) ≡ t.first.pc = omega (arith, after) in
    let next = instruction_size pool row t.first in
    nops_fit (t.first.pc - at) at _ (subst (λ (place : ℕ). FitFrom place (instruction_of pool row t.first ∷ instructions_from pool (t.first.pc + size_of t.first.kind) (numbered row_count (row + row_count t) ts))) (sym here) (
      form_by t.first.kind (index_of pool (operand_of row t.first.kind t.first.target)),
      subst (λ (n : ℕ). FitFrom (t.first.pc + n) (instructions_from pool (t.first.pc + size_of t.first.kind) (numbered row_count (row + row_count t) ts))) (sym next) (fit_from pool (t.first.pc + size_of t.first.kind) (row + row_count t) ts p.others),
    ))

-- ---- what instructions have

-- the sites of instructions that are no calls, and the calls
abbrev pub own : List Step → List Site
own [] = []
own (t ∷ ts) = if is_call t then own ts else t.first ∷ own ts

abbrev pub call_of : ℕ → Step → DynamicCall
call_of row t = record { pc = t.first.pc; bootstrap = row }

abbrev pub dynamic : ℕ → List Step → List DynamicCall
dynamic row [] = []
dynamic row (t ∷ ts) = if is_call t then call_of row t ∷ dynamic (row + row_count t) ts else dynamic (row + row_count t) ts

abbrev pub found_of : ℕ → List Step → Found
found_of row ts = record { sites = own ts; calls = dynamic row ts }

-- a site whose descriptor is one
pub record IsTyped (s : Site) : Type 0 where
  pub good : IsGood s
  pub typed : is_typed_by s.kind s.target.desc ≡ true

tag_is : (b : Bool) → is_one_of (9 ∷ 10 ∷ 11 ∷ []) (if b then 11 else 10) ≡ true
tag_is true = refl
tag_is false = refl

flag_is : (b : Bool) → b ≡ ((if b then 11 else 10) == 11)
flag_is true = refl
flag_is false = refl

pub only_method : (b : Bool) → not b ≡ true → is_one_of (10 ∷ []) (if b then 11 else 10) ≡ true
only_method false e = refl
only_method true e = absurd cc

pub either_method : (b : Bool) → is_one_of (10 ∷ 11 ∷ []) (if b then 11 else 10) ≡ true
either_method false = refl
either_method true = refl

pub only_interface : (b : Bool) → b ≡ true → is_one_of (11 ∷ []) (if b then 11 else 10) ≡ true
only_interface true e = refl
only_interface false e = absurd cc

not_flag : (b : Bool) → not b ≡ true → b ≡ (9 == 11)
not_flag false e = refl
not_flag true e = absurd cc

pub filled : (name : List ℕ) → is_name name ≡ true → 0 < length name
filled [] e = absurd cc
filled (b ∷ bs) e = omega arith

is_false : (b : Bool) → not b ≡ true → b ≡ false
is_false false e = refl
is_false true e = absurd cc

is_empty : (text : List ℕ) → nat_le (length text) 0 ≡ true → text ≡ []
is_empty [] e = refl
is_empty (b ∷ bs) e = absurd (let le = le_true (suc (length bs)) 0 e in omega (arith, le))

module _ (pool : List Entry) (p : IsPooled pool) where
  -- a method that an instruction or a handle names
  pub member : (allowed : List ℕ) (r : Ref) → is_one_of allowed (method_tag r) ≡ true → IsName r.owner → 0 < length r.name → is_descriptor r.desc ≡ true → AllByRecursion (Has pool) (reference_needs (method_tag r) r)
      → IsMember (constants pool) IsDescriptor allowed (index_of pool (reference (method_tag r) r)) r
  member allowed r is owner name typed has = record {
    tag = method_tag r;
    allowed = is;
    named = names_reference pool p (method_tag r) r (tag_is r.owner_is_interface_ref) has;
    interface = flag_is r.owner_is_interface_ref;
    owner = owner.some;
    name = name;
    typed = descriptor_found r.desc typed;
  }

  field : (r : Ref) → not r.owner_is_interface_ref ≡ true → IsName r.owner → 0 < length r.name → is_field_descriptor r.desc ≡ true → AllByRecursion (Has pool) (reference_needs 9 r) → IsMember (constants pool) IsFieldDescriptor (9 ∷ []) (index_of pool (reference 9 r)) r
  field r plain owner name typed has = record {
    tag = 9;
    allowed = refl;
    named = names_reference pool p 9 r refl has;
    interface = not_flag r.owner_is_interface_ref plain;
    owner = owner.some;
    name = name;
    typed = field_descriptor_found r.desc typed;
  }

  type : (r : Ref) → not r.owner_is_interface_ref ≡ true → has_member kinds.New r.name r.desc ≡ true → IsName r.owner → AllByRecursion (Has pool) (Text r.owner ∷ Class r.owner ∷ []) → IsType (constants pool) (index_of pool (Class r.owner)) r
  type r plain alone owner has =
      let b = both_of (nat_le (length r.name) 0) (nat_le (length r.desc) 0) alone in
      record { named = names_class pool p r.owner has; owner = owner.some; interface = is_false r.owner_is_interface_ref plain; name = is_empty r.name b.0; desc = is_empty r.desc b.1 }

  -- what the two bytes after an opcode name
  indexed : {X : Type 0} (Means : ℕ → X → Type 0) (e : Entry) (more : List ℕ) (x : X) → Has pool e → Means (index_of pool e) x → HasIndex Means (u2 (index_of pool e) ++ more) x
  indexed Means e more x has means = record { index = index_of pool e; more = more; few = index_small pool e p.few has; spelled = refl; means = means }

  one : (form : SiteForm) (s : Site) (e : Entry) (more : List ℕ) → s.kind ≡ form.kind → Has pool e → IsTarget (constants pool) form.target (index_of pool e) s.target
      → AreFormed (constants pool) (Some form) s.pc (u2 (index_of pool e) ++ more) (s ∷ [])
  one form s e more kind has target = (s, refl, indexed (IsSite (constants pool) form s.pc) e more s has (record { pc_is = refl; kind_is = kind; target_is = target }))

  of_kind : (row : ℕ) (s : Site) (kind : SiteKind) → s.kind ≡ kind → IsGood s → is_member_name kind s.target.name ≡ true → is_typed_by kind s.target.desc ≡ true → allows kind s.target.owner_is_interface_ref ≡ true
      → has_member kind s.target.name s.target.desc ≡ true → AllByRecursion (Has pool) (site_needs row kind s.target)
      → AreFormed (constants pool) (site_form (opcode_of kind)) s.pc (u2 (index_of pool (operand_of row kind s.target)) ++ tail_of kind) (if is_handle kind then [] else s ∷ [])
  of_kind row s kinds.Virtual is good named typed allowed alone has =
      one (record { kind = kinds.Virtual; target = ToMethod (10 ∷ []) }) s (reference (method_tag s.target) s.target) [] is has.1.1.1.1.1.0 (member (10 ∷ []) s.target (only_method s.target.owner_is_interface_ref allowed) good.owner (filled s.target.name named) typed has)
  of_kind row s kinds.Interface is good named typed allowed alone has =
      one (record { kind = kinds.Interface; target = ToMethod (11 ∷ []) }) s (reference (method_tag s.target) s.target) (1 ∷ 0 ∷ []) is has.1.1.1.1.1.0 (member (11 ∷ []) s.target (only_interface s.target.owner_is_interface_ref allowed) good.owner (filled s.target.name named) typed has)
  of_kind row s kinds.Special is good named typed allowed alone has =
      one (record { kind = kinds.Special; target = ToMethod (10 ∷ 11 ∷ []) }) s (reference (method_tag s.target) s.target) [] is has.1.1.1.1.1.0 (member (10 ∷ 11 ∷ []) s.target (either_method s.target.owner_is_interface_ref) good.owner (filled s.target.name named) typed has)
  of_kind row s kinds.Static is good named typed allowed alone has =
      one (record { kind = kinds.Static; target = ToMethod (10 ∷ 11 ∷ []) }) s (reference (method_tag s.target) s.target) [] is has.1.1.1.1.1.0 (member (10 ∷ 11 ∷ []) s.target (either_method s.target.owner_is_interface_ref) good.owner (filled s.target.name named) typed has)
  of_kind row s kinds.New is good named typed allowed alone has =
      one (record { kind = kinds.New; target = ToType }) s (Class s.target.owner) [] is has.1.0 (type s.target allowed alone good.owner has)
  of_kind row s kinds.StaticField is good named typed allowed alone has =
      one (record { kind = kinds.StaticField; target = ToField }) s (reference 9 s.target) [] is has.1.1.1.1.1.0 (field s.target allowed good.owner (filled s.target.name named) typed has)
  of_kind row s (kinds.Handle kind) is good named typed allowed alone has = refl

  abbrev here : ℕ → SiteKind → Site → DynamicCall → Found
  here row kind s call = record { sites = if is_handle kind then [] else s ∷ []; calls = if is_handle kind then call ∷ [] else [] }

  calls_of_kind : (row : ℕ) (s : Site) (kind : SiteKind) → AllByRecursion (Has pool) (site_needs row kind s.target)
      → AreDynamic (constants pool) (is_dynamic (opcode_of kind)) s.pc (u2 (index_of pool (operand_of row kind s.target)) ++ tail_of kind) (if is_handle kind then record { pc = s.pc; bootstrap = row } ∷ [] else [])
  calls_of_kind row s kinds.Virtual has = refl
  calls_of_kind row s kinds.Interface has = refl
  calls_of_kind row s kinds.Special has = refl
  calls_of_kind row s kinds.Static has = refl
  calls_of_kind row s kinds.New has = refl
  calls_of_kind row s kinds.StaticField has = refl
  calls_of_kind row s (kinds.Handle kind) has =
      let call : DynamicCall = record { pc = s.pc; bootstrap = row } in
      (call, refl, indexed (IsCall (constants pool) s.pc) (Dynamic row) (0 ∷ 0 ∷ []) call has.1.1.1.0 (record { pc_is = refl; named = (index_of pool (Member dynamic_name dynamic_desc), names pool p (Dynamic row) has.1.1.1.0) }))

  of_step : (row : ℕ) (t : Step) → IsTyped t.first → AllByRecursion (Has pool) (step_needs (row, t)) → AreOf (constants pool) t.first.pc (instruction_of pool row t.first) (here row t.first.kind t.first (call_of row t))
  of_step row t typed has =
      let k = both_of (allows t.first.kind t.first.target.owner_is_interface_ref) (has_member t.first.kind t.first.target.name t.first.target.desc) typed.good.kind in
      (of_kind row t.first t.first.kind refl typed.good typed.good.named typed.typed k.0 k.1 has, calls_of_kind row t.first t.first.kind has)

  first_found : (row : ℕ) (t : Step) (ts : List Step) → found_of row (t ∷ ts) ≡ both (here row t.first.kind t.first (call_of row t)) (found_of (row + row_count t) ts)
  first_found row t ts = split (at_bool (is_call t))
    where
      split : (is_call t ≡ true) ⊎ (is_call t ≡ false) → found_of row (t ∷ ts) ≡ both (here row t.first.kind t.first (call_of row t)) (found_of (row + row_count t) ts)
      split (inl call) = rw call refl
      split (inr other) = rw other refl

  nops_found : (n at : ℕ) (is : List Instruction) (x : Found) → AreFound (constants pool) (at + n) is x → AreFound (constants pool) at (replicate n nop ++ is) x
  nops_found zero at is x found = subst (λ (place : ℕ). AreFound (constants pool) place is x) (let e : at + 0 ≡ at = omega arith in e) found
  nops_found (suc n) at is x found = (nothing, x, refl, (refl, refl), nops_found n (at + 1) is x (subst (λ (place : ℕ). AreFound (constants pool) place is x) (let e : at + suc n ≡ at + 1 + n = omega arith in e) found))

  pub are_found : (at row : ℕ) (ts : List Step) → is_placed_from at ts ≡ true → AllByRecursion (λ t. IsTyped t.first) ts → AllByRecursion (Has pool) (flat_map step_needs (numbered row_count row ts))
      → AreFound (constants pool) at (instructions_from pool at (numbered row_count row ts)) (found_of row ts)
  are_found at row [] placed typed has = (nothing, nothing, refl, (refl, refl), refl)
  are_found at row (t ∷ ts) placed typed has =
      let placed_t = placed_first at t ts placed in
      let after = placed_t.after in
      let place : at + (t.first.pc - at) ≡ t.first.pc = omega (arith, after) in
      let size = instruction_size pool row t.first in
      let more : List Instruction = instructions_from pool (t.first.pc + size_of t.first.kind) (numbered row_count (row + row_count t) ts) in
      let others = are_found (t.first.pc + size_of t.first.kind) (row + row_count t) ts placed_t.others typed.1 (all_second (Has pool) (step_needs (row, t)) (flat_map step_needs (numbered row_count (row + row_count t) ts)) has) in
      nops_found (t.first.pc - at) at (instruction_of pool row t.first ∷ more) (found_of row (t ∷ ts)) (subst (λ (n : ℕ). AreFound (constants pool) n (instruction_of pool row t.first ∷ more) (found_of row (t ∷ ts))) (sym place) (
        here row t.first.kind t.first (call_of row t),
        found_of (row + row_count t) ts,
        first_found row t ts,
        of_step row t typed.0 (all_first (Has pool) (step_needs (row, t)) (flat_map step_needs (numbered row_count (row + row_count t) ts)) has),
        subst (λ (n : ℕ). AreFound (constants pool) (t.first.pc + n) more (found_of (row + row_count t) ts)) (sym size) others,
      ))
