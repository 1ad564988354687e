-- What a view that breaks no rule says of the entries that it needs.
use Rattle.std.proofs.Common.{◌≡◌, ◌⊎◌, inl, inr, ℕ, suc, ◌+◌, ◌<◌, ◌≤◌, ◌^◌, Bool, true, false, ◌&&◌, eqb, List, [], ◌∷◌, ◌++◌, length, length-append, refl, sym, ◌∙◌, arith}
use Rattle.std.specs.Prelude.{Option, Some, None, codes, nat_lt, if◌then◌else◌}
use Rattle.std.specs.List.{flat_map, list_all, AllByRecursion}
use Rattle.std.proofs.lemmas.Bool.Decides.{Decides-eqb}
use Rattle.std.proofs.lemmas.List.Elements.{recursion_from_All}
use Rattle.fcg_views.specs.declared.view.View.{View}
use Rattle.fcg_views.specs.declared.view.Field.{Field}
use Rattle.fcg_views.specs.declared.view.Method.{Method}
use Rattle.fcg_views.specs.declared.view.Site.{Site}
use Rattle.fcg_views.specs.declared.view.SiteKind.{SiteKind}
use Rattle.fcg_views.specs.declared.view.SiteKind.TheVariants as kinds
use Rattle.fcg_views.specs.declared.view.HandleKind.{HandleKind}
use Rattle.fcg_views.specs.declared.view.HandleKind.TheVariants.{K5, K6, K7, K8, K9}
use Rattle.fcg_classfile.specs.ClassFile.{is_one_of, handle_tags}
use Rattle.fcg_classfile.specs.Breaks.Groups.{bad_group}
use Rattle.fcg_views.specs.Valid.{IsShort, IsShortOrNone, HasShortNames, IsValidField, IsValidMethod, IsValid}
use Rattle.fcg_make.specs.declared.entry.Entry.{Entry}
use Rattle.fcg_make.specs.declared.entry.Entry.TheVariants.{Text, Class, Member, Reference, Handle, Dynamic}
use Rattle.fcg_make.specs.Steps.{Step, is_handle, is_joined, is_call, before, calls, steps_of, row_count, method_rows, numbered}
use Rattle.fcg_make.specs.Needs.{dynamic_name, dynamic_desc, type_needs, reference_needs, method_tag, handle_number, handle_kind, handle_needs, dynamic_needs, site_needs, step_needs, code_needs, field_needs, method_needs, super_needs, row_needs, rows_of, rows_needs, numbered_methods, needs}
use Rattle.fcg_make.specs.Unwritable.{is_groups, is_name, is_name_or_none, is_member_name, is_named_site, is_named_field, is_named_method, is_named, allows_handle, allows, has_member, is_kind_site, is_kind_method, is_kind}
use Rattle.fcg_make.proofs.TableLemmas.{at_bool}
use Rattle.fcg_make.proofs.StepLemmas.{joined_by}
use Rattle.fcg_make.proofs.LengthLemmas.{all_append}
use Rattle.fcg_make.proofs.FactLemmas.{all_first, all_second}

-- ---- what the checks say

pub both_of : (a b : Bool) → (a && b) ≡ true → (a ≡ true) × (b ≡ true)
both_of true b f = (refl, f)
both_of false b f = absurd cc

-- a text that a Utf8 holds
pub record IsText (text : List ℕ) : Type 0 where
  pub short : length text < 2 ^ 16
  pub groups : is_groups text ≡ true

-- and one with a byte or more
pub record IsName (name : List ℕ) : Type 0 where
  pub text : IsText name
  pub some : 0 < length name

name_by : (name : List ℕ) → IsShort name → is_name name ≡ true → IsName name
name_by [] short e = absurd cc
name_by (b ∷ bs) short e = record { text = record { short = omega (arith, short); groups = (both_of (nat_lt 0 (suc (length bs))) (is_groups (b ∷ bs)) e).1 }; some = omega arith }

-- a site that breaks no rule
pub record IsGood (s : Site) : Type 0 where
  pub owner : IsName s.target.owner
  pub name : IsText s.target.name
  pub named : is_member_name s.kind s.target.name ≡ true
  pub desc : IsText s.target.desc
  pub kind : is_kind_site s ≡ true

text_of_member : (kind : SiteKind) (name : List ℕ) → IsShort name → is_member_name kind name ≡ true → IsText name
text_of_member kinds.Virtual name short e = (name_by name short e).text
text_of_member kinds.Interface name short e = (name_by name short e).text
text_of_member kinds.Special name short e = (name_by name short e).text
text_of_member kinds.Static name short e = (name_by name short e).text
text_of_member kinds.New name short e = record { short = omega (arith, short); groups = e }
text_of_member kinds.StaticField name short e = (name_by name short e).text
text_of_member (kinds.Handle kind) name short e = (name_by name short e).text

good_site : (s : Site) → HasShortNames s → is_named_site s ≡ true → is_kind_site s ≡ true → IsGood s
good_site s short named kind =
    let owner = both_of (is_name s.target.owner) (is_member_name s.kind s.target.name && is_groups s.target.desc) named in
    let member = both_of (is_member_name s.kind s.target.name) (is_groups s.target.desc) owner.1 in
    let desc_short = short.2 in
    record {
      owner = name_by s.target.owner short.0 owner.0;
      name = text_of_member s.kind s.target.name short.1 member.0;
      named = member.0;
      desc = record { short = omega (arith, desc_short); groups = member.1 };
      kind = kind;
    }

good_sites : (ss : List Site) → AllByRecursion HasShortNames ss → list_all is_named_site ss ≡ true → list_all is_kind_site ss ≡ true → AllByRecursion IsGood ss
good_sites [] short named kind = tt
good_sites (s ∷ ss) short named kind =
    let n = both_of (is_named_site s) (list_all is_named_site ss) named in
    let k = both_of (is_kind_site s) (list_all is_kind_site ss) kind in
    (good_site s short.0 n.0 k.0, good_sites ss short.1 n.1 k.1)

pub record IsGoodMethod (m : Method) : Type 0 where
  pub name : IsName m.name
  pub desc : IsText m.desc
  pub sites : AllByRecursion IsGood m.sites

good_methods : (ms : List Method) → AllByRecursion IsValidMethod ms → list_all is_named_method ms ≡ true → list_all is_kind_method ms ≡ true → AllByRecursion IsGoodMethod ms
good_methods [] valid named kind = tt
good_methods (m ∷ ms) valid named kind =
    let n = both_of (is_named_method m) (list_all is_named_method ms) named in
    let k = both_of (is_kind_method m) (list_all is_kind_method ms) kind in
    let name = both_of (is_name m.name) (is_groups m.desc && list_all is_named_site m.sites) n.0 in
    let desc = both_of (is_groups m.desc) (list_all is_named_site m.sites) name.1 in
    let desc_short = valid.0.1 in (
      record {
        name = name_by m.name valid.0.0 name.0;
        desc = record { short = omega (arith, desc_short); groups = desc.0 };
        sites = good_sites m.sites (recursion_from_All HasShortNames m.sites valid.0.2) desc.1 k.0;
      },
      good_methods ms valid.1 n.1 k.1,
    )

pub record IsGoodField (f : Field) : Type 0 where
  pub name : IsName f.name
  pub desc : IsText f.desc

good_fields : (fs : List Field) → AllByRecursion IsValidField fs → list_all is_named_field fs ≡ true → AllByRecursion IsGoodField fs
good_fields [] valid named = tt
good_fields (f ∷ fs) valid named =
    let n = both_of (is_named_field f) (list_all is_named_field fs) named in
    let name = both_of (is_name f.name) (is_groups f.desc) n.0 in
    let desc_short = valid.0.1 in
    (record { name = name_by f.name valid.0.0 name.0; desc = record { short = omega (arith, desc_short); groups = name.1 } }, good_fields fs valid.1 n.1)

good_names : (ns : List (List ℕ)) → AllByRecursion IsShort ns → list_all is_name ns ≡ true → AllByRecursion IsName ns
good_names [] short named = tt
good_names (n ∷ ns) short named = let b = both_of (is_name n) (list_all is_name ns) named in (name_by n short.0 b.0, good_names ns short.1 b.1)

abbrev pub IsNameOrNone : Option (List ℕ) → Type 0
IsNameOrNone None = Unit {0}
IsNameOrNone (Some name) = IsName name

good_super : (o : Option (List ℕ)) → IsShortOrNone o → is_name_or_none o ≡ true → IsNameOrNone o
good_super None short named = tt
good_super (Some name) short named = name_by name short named

pub record IsGoodView (v : View) : Type 0 where
  pub name : IsName v.name
  pub super : IsNameOrNone v.superclass
  pub interfaces : AllByRecursion IsName v.interfaces
  pub fields : AllByRecursion IsGoodField v.fields
  pub methods : AllByRecursion IsGoodMethod v.methods

pub good_view : (v : View) → IsValid v → is_named v ≡ true → is_kind v ≡ true → IsGoodView v
unfolding is_named is_kind
good_view v valid named kind =
    let a = both_of (is_name v.name) _ named in
    let b = both_of (is_name_or_none v.superclass) _ a.1 in
    let c = both_of (list_all is_name v.interfaces) _ b.1 in
    let d = both_of (list_all is_named_field v.fields) _ c.1 in
    let k = both_of _ (list_all is_kind_method v.methods) kind in
    record {
      name = name_by v.name valid.name a.0;
      super = good_super v.superclass valid.superclass b.0;
      interfaces = good_names v.interfaces (recursion_from_All IsShort v.interfaces valid.interfaces.1) c.0;
      fields = good_fields v.fields (recursion_from_All IsValidField v.fields valid.fields.1) d.0;
      methods = good_methods v.methods (recursion_from_All IsValidMethod v.methods valid.methods.1) d.1 k.1;
    }

-- ---- instructions

pub record IsJoined (first s : Site) : Type 0 where
  pub handle : is_handle s.kind ≡ true
  pub place : s.pc ≡ first.pc

pub record IsGoodStep (t : Step) : Type 0 where
  pub first : IsGood t.first
  pub more : AllByRecursion IsGood t.more
  pub joined : AllByRecursion (IsJoined t.first) t.more
  pub alone : is_call t ≡ false → t.more ≡ []

joined_over : (s t : Site) (ss : List Site) → t.pc ≡ s.pc → AllByRecursion (IsJoined t) ss → AllByRecursion (IsJoined s) ss
joined_over s t [] same j = tt
joined_over s t (u ∷ us) same j = (record { handle = j.0.handle; place = j.0.place ∙ same }, joined_over s t us same j.1)

good_before : (s : Site) (ts : List Step) → IsGood s → AllByRecursion IsGoodStep ts → AllByRecursion IsGoodStep (before s ts)
good_before s [] good steps = (record { first = good; more = tt; joined = tt; alone = λ e. refl }, tt)
good_before s (t ∷ ts) good steps = split (at_bool (is_joined s t.first))
  where
    split : (is_joined s t.first ≡ true) ⊎ (is_joined s t.first ≡ false) → AllByRecursion IsGoodStep (before s (t ∷ ts))
    split (inl j) =
        let p = joined_by (is_handle s.kind) (is_handle t.first.kind) (eqb s.pc t.first.pc) j in
        let same : t.first.pc ≡ s.pc = sym ((Decides-eqb s.pc t.first.pc).0 p.2) in
        rw j (
          record {
            first = good;
            more = (steps.0.first, steps.0.more);
            joined = (record { handle = p.1; place = same }, joined_over s t.first t.more same steps.0.joined);
            alone = λ e. absurd (let contra : true ≡ false = sym p.0 ∙ e in cc);
          },
          steps.1,
        )
    split (inr other) = rw other (record { first = good; more = tt; joined = tt; alone = λ e. refl }, steps)

pub good_steps : (ss : List Site) → AllByRecursion IsGood ss → AllByRecursion IsGoodStep (steps_of ss)
good_steps [] good = tt
good_steps (s ∷ ss) good = good_before s (steps_of ss) good.0 (good_steps ss good.1)

-- ---- sound entries

abbrev pub IsSound : Entry → Type 0
IsSound (Text text) = IsText text
IsSound (Class name) = Unit {0}
IsSound (Member name desc) = Unit {0}
IsSound (Reference tag owner name desc) = Unit {0}
IsSound (Handle kind tag owner name desc) = is_one_of (handle_tags kind) tag ≡ true
IsSound (Dynamic row) = row < 2 ^ 16

word : (text : List ℕ) → length text < 2 ^ 16 → is_groups text ≡ true → IsText text
word text short groups = record { short = short; groups = groups }

code_text : IsText (codes "Code")
unfolding bad_group
code_text = word (codes "Code") (omega arith) refl

rows_text : IsText (codes "BootstrapMethods")
unfolding bad_group
rows_text = word (codes "BootstrapMethods") (omega arith) refl

name_text : IsText dynamic_name
unfolding bad_group
name_text = word dynamic_name (omega arith) refl

desc_text : IsText dynamic_desc
unfolding bad_group
desc_text = word dynamic_desc (omega arith) refl

sound_type : (name : List ℕ) → IsText name → AllByRecursion IsSound (type_needs name)
sound_type name text = (text, (tt, tt))

sound_reference : (tag : ℕ) (s : Site) → IsGood s → AllByRecursion IsSound (reference_needs tag s.target)
sound_reference tag s good = (good.owner.text, (tt, (good.name, (good.desc, (tt, (tt, tt))))))

tag_of_flag : Bool → ℕ
tag_of_flag b = if b then 11 else 10

handle_tag : (k : HandleKind) (b : Bool) → allows_handle k b ≡ true → is_one_of (handle_tags (handle_number k)) (if b then 11 else 10) ≡ true
handle_tag K5 false e = refl
handle_tag K5 true e = absurd cc
handle_tag K6 false e = refl
handle_tag K6 true e = refl
handle_tag K7 false e = refl
handle_tag K7 true e = refl
handle_tag K8 false e = refl
handle_tag K8 true e = absurd cc
handle_tag K9 false e = absurd cc
handle_tag K9 true e = refl

pub handle_allowed : (kind : SiteKind) (b : Bool) → is_handle kind ≡ true → allows kind b ≡ true → is_one_of (handle_tags (handle_kind kind)) (if b then 11 else 10) ≡ true
handle_allowed kinds.Virtual b h e = absurd cc
handle_allowed kinds.Interface b h e = absurd cc
handle_allowed kinds.Special b h e = absurd cc
handle_allowed kinds.Static b h e = absurd cc
handle_allowed kinds.New b h e = absurd cc
handle_allowed kinds.StaticField b h e = absurd cc
handle_allowed (kinds.Handle k) b h e = handle_tag k b e

pub allowed : (s : Site) → IsGood s → allows s.kind s.target.owner_is_interface_ref ≡ true
allowed s good = (both_of (allows s.kind s.target.owner_is_interface_ref) (has_member s.kind s.target.name s.target.desc) good.kind).0

sound_handle : (s : Site) → IsGood s → is_handle s.kind ≡ true → AllByRecursion IsSound (handle_needs s)
sound_handle s good h = (good.owner.text, (tt, (good.name, (good.desc, (tt, (tt, (handle_allowed s.kind s.target.owner_is_interface_ref h (allowed s good), tt)))))))

sound_handles : (first : Site) (ss : List Site) → AllByRecursion IsGood ss → AllByRecursion (IsJoined first) ss → AllByRecursion IsSound (flat_map handle_needs ss)
sound_handles first [] good joined = tt
sound_handles first (s ∷ ss) good joined = all_append IsSound (handle_needs s) (flat_map handle_needs ss) (sound_handle s good.0 joined.0.handle) (sound_handles first ss good.1 joined.1)

sound_dynamic : (row : ℕ) → row < 65535 → AllByRecursion IsSound (dynamic_needs row)
sound_dynamic row lt = (name_text, (desc_text, (tt, (omega (arith, lt), tt))))

sound_site : (row : ℕ) (s : Site) → IsGood s → (is_handle s.kind ≡ true → row < 65535) → AllByRecursion IsSound (site_needs row s.kind s.target)
sound_site row s good few = by s.kind few
  where
    by : (kind : SiteKind) → (is_handle kind ≡ true → row < 65535) → AllByRecursion IsSound (site_needs row kind s.target)
    by kinds.Virtual few = sound_reference (method_tag s.target) s good
    by kinds.Interface few = sound_reference (method_tag s.target) s good
    by kinds.Special few = sound_reference (method_tag s.target) s good
    by kinds.Static few = sound_reference (method_tag s.target) s good
    by kinds.New few = sound_type s.target.owner good.owner.text
    by kinds.StaticField few = sound_reference 9 s good
    by (kinds.Handle kind) few = sound_dynamic row (few refl)

sound_steps : (row : ℕ) (ts : List Step) → AllByRecursion IsGoodStep ts → row + length (calls ts) ≤ 65535 → AllByRecursion IsSound (flat_map step_needs (numbered row_count row ts))
sound_steps row [] good few = tt
sound_steps row (t ∷ ts) good few = split (sound_steps (row + row_count t) ts good.1) (at_bool (is_call t))
  where
    here : (is_handle t.first.kind ≡ true → row < 65535) → AllByRecursion IsSound (step_needs (row, t))
    here lt = sound_site row t.first good.0.first lt

    split : (row + row_count t + length (calls ts) ≤ 65535 → AllByRecursion IsSound (flat_map step_needs (numbered row_count (row + row_count t) ts))) → (is_call t ≡ true) ⊎ (is_call t ≡ false) → AllByRecursion IsSound (flat_map step_needs (numbered row_count row (t ∷ ts)))
    split others (inl call) =
        let le = rw call at few in
        all_append IsSound (step_needs (row, t)) (flat_map step_needs (numbered row_count (row + row_count t) ts)) (here (λ e. omega (arith, le))) (others (rw call (omega (arith, le))))
    split others (inr other) =
        let le = rw other at few in
        all_append IsSound (step_needs (row, t)) (flat_map step_needs (numbered row_count (row + row_count t) ts)) (here (λ e. absurd (let contra : true ≡ false = sym e ∙ other in cc))) (others (rw other (omega (arith, le))))

sound_code : (row : ℕ) (ts : List Step) → AllByRecursion IsGoodStep ts → row + length (calls ts) ≤ 65535 → AllByRecursion IsSound (code_needs row ts)
sound_code row [] good few = tt
sound_code row (t ∷ ts) good few = (code_text, sound_steps row (t ∷ ts) good few)

sound_methods : (row : ℕ) (ms : List Method) → AllByRecursion IsGoodMethod ms → row + length (rows_of ms) ≤ 65535 → AllByRecursion IsSound (flat_map method_needs (numbered method_rows row ms))
sound_methods row [] good few = tt
sound_methods row (m ∷ ms) good few =
    let sum = length-append (calls (steps_of m.sites)) (rows_of ms) in (
      good.0.name.text,
      (
        good.0.desc,
        all_append IsSound (code_needs row (steps_of m.sites)) (flat_map method_needs (numbered method_rows (row + method_rows m) ms))
            (sound_code row (steps_of m.sites) (good_steps m.sites good.0.sites) (omega (arith, few, sum)))
            (sound_methods (row + method_rows m) ms good.1 (omega (arith, few, sum))),
      ),
    )

sound_calls : (ts : List Step) → AllByRecursion IsGoodStep ts → AllByRecursion IsSound (flat_map row_needs (calls ts))
sound_calls [] good = tt
sound_calls (t ∷ ts) good = split (sound_calls ts good.1) (at_bool (is_call t))
  where
    split : AllByRecursion IsSound (flat_map row_needs (calls ts)) → (is_call t ≡ true) ⊎ (is_call t ≡ false) → AllByRecursion IsSound (flat_map row_needs (calls (t ∷ ts)))
    split others (inl call) = rw call (all_append IsSound (row_needs t) (flat_map row_needs (calls ts))
        (all_append IsSound (handle_needs t.first) (flat_map handle_needs t.more) (sound_handle t.first good.0.first call) (sound_handles t.first t.more good.0.more good.0.joined)) others)
    split others (inr other) = rw other others

flat_two : {X Y : Type 0} (P : Y → Type 0) (f : X → List Y) (xs ys : List X) → AllByRecursion P (flat_map f xs) → AllByRecursion P (flat_map f ys) → AllByRecursion P (flat_map f (xs ++ ys))
flat_two P f [] ys a b = b
flat_two P f (x ∷ xs) ys a b = all_append P (f x) (flat_map f (xs ++ ys)) (all_first P (f x) (flat_map f xs) a) (flat_two P f xs ys (all_second P (f x) (flat_map f xs) a) b)

sound_rows : (ms : List Method) → AllByRecursion IsGoodMethod ms → AllByRecursion IsSound (flat_map row_needs (rows_of ms))
sound_rows [] good = tt
sound_rows (m ∷ ms) good = flat_two IsSound row_needs (calls (steps_of m.sites)) (rows_of ms) (sound_calls (steps_of m.sites) (good_steps m.sites good.0.sites)) (sound_rows ms good.1)

with_word : (rows : List Step) → AllByRecursion IsSound (flat_map row_needs rows) → AllByRecursion IsSound (rows_needs rows)
with_word [] sound = tt
with_word (t ∷ ts) sound = (rows_text, sound)

sound_names : (ns : List (List ℕ)) → AllByRecursion IsName ns → AllByRecursion IsSound (flat_map type_needs ns)
sound_names [] good = tt
sound_names (n ∷ ns) good = (good.0.text, (tt, sound_names ns good.1))

sound_fields : (fs : List Field) → AllByRecursion IsGoodField fs → AllByRecursion IsSound (flat_map field_needs fs)
sound_fields [] good = tt
sound_fields (f ∷ fs) good = (good.0.name.text, (good.0.desc, sound_fields fs good.1))

sound_super : (o : Option (List ℕ)) → IsNameOrNone o → AllByRecursion IsSound (super_needs o)
sound_super None good = tt
sound_super (Some name) good = sound_type name good.text

pub sound_needs : (v : View) → IsGoodView v → length (rows_of v.methods) ≤ 65535 → AllByRecursion IsSound (needs v)
unfolding needs
sound_needs v good few =
    all_append IsSound (type_needs v.name) _ (sound_type v.name good.name.text) (
    all_append IsSound (super_needs v.superclass) _ (sound_super v.superclass good.super) (
    all_append IsSound (flat_map type_needs v.interfaces) _ (sound_names v.interfaces good.interfaces) (
    all_append IsSound (flat_map field_needs v.fields) _ (sound_fields v.fields good.fields) (
    all_append IsSound (flat_map method_needs (numbered_methods v.methods)) _ (sound_methods 0 v.methods good.methods (omega (arith, few))) (with_word (rows_of v.methods) (sound_rows v.methods good.methods))))))
