-- The sites and the calls of a code: what is read is what the instructions name, and what they name is read.
use Rattle.std.proofs.Common.{◌≡◌, ℕ, zero, suc, ◌+◌, ◌*◌, ◌^◌, ◌≤◌, ◌<◌, Bool, true, false, eqb, ltb, List, [], ◌∷◌, ◌++◌, length, get_or, Option, Some, None, refl, sym, ap, subst, ◌∙◌, inl, inr, arith}
use Rattle.std.specs.Prelude.{Result, Ok, Err}
use Rattle.std.specs.List.{flat_map}
use Rattle.std.proofs.lemmas.Bool.{eqb-true, ltb-true, lt-ltb}
use Rattle.std.proofs.lemmas.Bool.Decides.{nat_tests}
use Rattle.std.proofs.lemmas.List.{append-nil, length-append}
use Rattle.std.proofs.lemmas.List.Concat.{flat_map-cons}
use Rattle.std.proofs.lemmas.Nat.{be_bytes_2}
use Rattle.fcg_grammar.specs.Reading.{◌>>=◌, unless_broken}
use Rattle.fcg_grammar.specs.Spell.{IsBytes, u2}
use Rattle.fcg_grammar.proofs.LawLemmas.{bind_ok, chosen, kept_ok, ok_or_err}
use Rattle.fcg_grammar.proofs.FaultLaws.{bind_err}
use Rattle.fcg_grammar.proofs.Standing.{Stands, Stands-none, Stands-back, ok_is}
use Rattle.fcg_classfile.specs.declared.code.DynamicCall.{DynamicCall}
use Rattle.fcg_views.specs.declared.view.Ref.{Ref}
use Rattle.fcg_views.specs.declared.view.Site.{Site}
use Rattle.fcg_classfile.specs.declared.code.CodeRule.{CodeRule}
use Rattle.fcg_classfile.specs.declared.fault.ClassFault.{ClassFault}
use Rattle.fcg_classfile.specs.declared.fault.ClassRule.TheVariants.{WrongKind, EmptyName, Descriptor, ManySites}
use Rattle.fcg_classfile.specs.ClassFile.{is_one_of, Constant}
use Rattle.fcg_views.specs.Descriptor.{IsDescriptor, IsFieldDescriptor}
use Rattle.fcg_views.specs.DescriptorSteps.{is_descriptor, is_field_descriptor}
use Rattle.fcg_classfile.specs.Instructions.{Form, Fixed, Table, Lookup, Wide, form_of, Instruction, Plain, TableSwitch, LookupSwitch, Widened, instruction, FitsAt, FitFrom}
use Rattle.fcg_classfile.specs.Sites.{Target, ToMethod, ToField, ToType, SiteForm, site_form, is_dynamic, IsMember, IsType, IsTarget, IsSite, HasIndex, AreFormed, IsCall, AreDynamic, Found, nothing, both, AreOf, AreFound}
use Rattle.fcg_classfile.specs.Breaks.Fault.{fault, at_place, at_opcode}
use Rattle.fcg_classfile.specs.Breaks.Pool.{Entries, Reference, reference_of, dynamic_of}
use Rattle.fcg_classfile.specs.Breaks.Instructions.{next_at, operand_at}
use Rattle.fcg_classfile.specs.Breaks.Names.{type_of}
use Rattle.fcg_classfile.specs.Breaks.Code.{member_of, type_ref, target_of, site_of, sites_by, calls_by, found_at, found_from}
use Rattle.fcg_views.proofs.DescLaws.{descriptor_found, descriptor_only, field_descriptor_found, field_descriptor_only}
use Rattle.fcg_classfile.specs.Tables.{Holds}
use Rattle.fcg_classfile.proofs.NameLaws.{at_ok, reference_found, reference_only, dynamic_found, dynamic_only}
use Rattle.fcg_classfile.proofs.TypeNameLaws.{type_of_found, type_of_only}
use Rattle.fcg_classfile.proofs.InstructionLaws.{FoundAt, next_found, next_only, some_byte, opcode_is, operand_is, stands_first, not_end, further}

-- ---- the opcodes that are looked at have two bytes or more after them

-- an opcode with two bytes or more after it
abbrev IsLong : ℕ → Type 0
IsLong op = (n : ℕ) × (form_of op ≡ Some (Fixed (suc (suc n))))

by_number : (k op : ℕ) → IsLong k → eqb op k ≡ true → IsLong op
by_number k op long e = subst IsLong (sym (eqb-true _ _ e)) long

called_long : (op : ℕ) (form : SiteForm) → site_form op ≡ Some form → IsLong op
called_long op form e =
    elim (chosen (eqb op 182) _ _ _ e) [
      | inl is ↦ by_number 182 op (0, refl) is.0
      | inr a ↦ elim (chosen (eqb op 183) _ _ _ a.1) [
        | inl is ↦ by_number 183 op (0, refl) is.0
        | inr b ↦ elim (chosen (eqb op 184) _ _ _ b.1) [
          | inl is ↦ by_number 184 op (0, refl) is.0
          | inr c ↦ elim (chosen (eqb op 185) _ _ _ c.1) [
            | inl is ↦ by_number 185 op (2, refl) is.0
            | inr d ↦ elim (chosen (eqb op 187) _ _ _ d.1) [
              | inl is ↦ by_number 187 op (0, refl) is.0
              | inr f ↦ elim (chosen (eqb op 178) _ _ _ f.1) [
                | inl is ↦ by_number 178 op (0, refl) is.0
                | inr g ↦ elim (chosen (eqb op 179) _ _ _ g.1) [
                  | inl is ↦ by_number 179 op (0, refl) is.0
                  | inr h ↦ (let bad = h.1 in absurd cc)
                ]
              ]
            ]
          ]
        ]
      ]
    ]

dynamic_long : (op : ℕ) → is_dynamic op ≡ true → IsLong op
dynamic_long op e = by_number 186 op (2, refl) e

-- an opcode of another form is none of them
abbrev IsShortForm : Form → Type 0
IsShortForm (Fixed n) = ⊥
IsShortForm Table = Unit {0}
IsShortForm Lookup = Unit {0}
IsShortForm Wide = Unit {0}

not_long : (op : ℕ) (f : Form) → IsShortForm f → form_of op ≡ Some f → IsLong op → ⊥
not_long op (Fixed n) short is long = short
not_long op Table short is long = let bad = sym is ∙ long.1 in cc
not_long op Lookup short is long = let bad = sym is ∙ long.1 in cc
not_long op Wide short is long = let bad = sym is ∙ long.1 in cc

none_by : (o : Option SiteForm) → ((f : SiteForm) → o ≡ Some f → ⊥) → o ≡ None
none_by None h = refl
none_by (Some f) h = absurd (h f refl)

false_by : (b : Bool) → (b ≡ true → ⊥) → b ≡ false
false_by true h = absurd (h refl)
false_by false h = refl

no_call : (op : ℕ) (f : Form) → IsShortForm f → form_of op ≡ Some f → site_form op ≡ None
no_call op f short is = none_by (site_form op) (λ g e. not_long op f short is (called_long op g e))

no_dynamic : (op : ℕ) (f : Form) → IsShortForm f → form_of op ≡ Some f → is_dynamic op ≡ false
no_dynamic op f short is = false_by (is_dynamic op) (λ e. not_long op f short is (dynamic_long op e))

-- ---- a site
abbrev site : SiteForm → ℕ → Ref → Site
site form pc target = record { pc = pc; kind = form.kind; target = target }

module _ (pool : Entries) (constants : List Constant) (holds : Holds pool constants) where
  -- a member of a type
  module _ (IsTyped : List ℕ → Type 0) (is_typed : List ℕ → Bool) (found : (text : List ℕ) → is_typed text ≡ true → IsTyped text) (only : (text : List ℕ) → IsTyped text → is_typed text ≡ true) where
    member_found : (tags : List ℕ) (at index : ℕ) (r : Ref) → member_of pool is_typed tags at index ≡ Ok r → IsMember constants IsTyped tags index r
    unfolding member_of
    member_found tags at index r e =
        let a = bind_ok (at_place at index (reference_of pool index)) _ r e in
        let b = bind_ok (unless_broken (is_one_of tags a.0.tag) (fault at index WrongKind)) _ r a.2 in
        let c = bind_ok (unless_broken (ltb 0 (length a.0.owner)) (fault at 0 EmptyName)) _ r b.2 in
        let d = bind_ok (unless_broken (ltb 0 (length a.0.name)) (fault at 0 EmptyName)) _ r c.2 in
        let f = bind_ok (unless_broken (is_typed a.0.desc) (fault at 0 Descriptor)) _ r d.2 in
        let named = reference_found pool constants holds index a.0 (at_ok at index (reference_of pool index) a.0 a.1) in
        subst (λ (x : Ref). IsMember constants IsTyped tags index x) (ok_is _ r f.2) (record {
          tag = a.0.tag;
          allowed = kept_ok _ _ b.0 b.1;
          named = named;
          interface = refl;
          owner = ltb-true _ _ (kept_ok _ _ c.0 c.1);
          name = ltb-true _ _ (kept_ok _ _ d.0 d.1);
          typed = found a.0.desc (kept_ok _ _ f.0 f.1);
        })

    member_only : (tags : List ℕ) (at index : ℕ) (r : Ref) → IsMember constants IsTyped tags index r → member_of pool is_typed tags at index ≡ Ok r
    unfolding member_of
    member_only tags at index r is =
        let reference : Reference = record { tag = is.tag; owner = r.owner; name = r.name; desc = r.desc } in
        let named = reference_only pool constants holds index reference is.named in
        let owner : ltb 0 (length r.owner) ≡ true = lt-ltb _ _ is.owner in
        let name : ltb 0 (length r.name) ≡ true = lt-ltb _ _ is.name in
        let typed = only r.desc is.typed in
        rw (named, is.allowed, owner, name, typed) (ap (λ (b : Bool). Ok (record { owner = r.owner; owner_is_interface_ref = b; name = r.name; desc = r.desc })) (sym is.interface))

  abbrev made_ref : List ℕ → Bool → List ℕ → List ℕ → Ref
  made_ref owner interface name desc = record { owner = owner; owner_is_interface_ref = interface; name = name; desc = desc }

  type_is : (r : Ref) → r.owner_is_interface_ref ≡ false → r.name ≡ [] → r.desc ≡ [] → type_ref r.owner ≡ r
  type_is r i n d = ap (λ (b : Bool). made_ref r.owner b [] []) (sym i) ∙ ap (λ (l : List ℕ). made_ref r.owner r.owner_is_interface_ref l []) (sym n) ∙ ap (λ (l : List ℕ). made_ref r.owner r.owner_is_interface_ref r.name l) (sym d)

  target_found : (target : Target) (at index : ℕ) (r : Ref) → target_of pool target at index ≡ Ok r → IsTarget constants target index r
  target_found (ToMethod tags) at index r e = member_found IsDescriptor is_descriptor descriptor_found descriptor_only tags at index r e
  target_found ToField at index r e = member_found IsFieldDescriptor is_field_descriptor field_descriptor_found field_descriptor_only (9 ∷ []) at index r e
  target_found ToType at index r e =
      let a = bind_ok (type_of pool at index) _ r e in
      let t = type_of_found pool constants holds at index a.0 a.1 in
      subst (λ (x : Ref). IsType constants index x) (ok_is (type_ref a.0) r a.2) (record { named = t.0; owner = t.1; interface = refl; name = refl; desc = refl })

  target_only : (target : Target) (at index : ℕ) (r : Ref) → IsTarget constants target index r → target_of pool target at index ≡ Ok r
  target_only (ToMethod tags) at index r is = member_only IsDescriptor is_descriptor descriptor_found descriptor_only tags at index r is
  target_only ToField at index r is = member_only IsFieldDescriptor is_field_descriptor field_descriptor_found field_descriptor_only (9 ∷ []) at index r is
  target_only ToType at index r is = rw (type_of_only pool constants holds at index r.owner is.named is.owner) (ap (λ (x : Ref). Ok x) (type_is r is.interface is.name is.desc))

  made_is : (form : SiteForm) (pc : ℕ) (s : Site) → s.pc ≡ pc → s.kind ≡ form.kind → site form pc s.target ≡ s
  made_is form pc s p k = rw (← p, ← k) refl

  pub site_found : (form : SiteForm) (at pc index count : ℕ) (s : Site) → site_of pool form at pc index count ≡ Ok s → IsSite constants form pc index s × (count < 1000000)
  unfolding site_of
  site_found form at pc index count s e =
      let a = bind_ok (target_of pool form.target at index) _ s e in
      let b = bind_ok (unless_broken (ltb count 1000000) (fault at 0 ManySites)) _ s a.2 in
      let t = target_found form.target at index a.0 a.1 in
      let few : count < 1000000 = ltb-true _ _ (kept_ok _ _ b.0 b.1) in
      subst (λ (x : Site). IsSite constants form pc index x × (count < 1000000)) (ok_is (site form pc a.0) s b.2) (record { pc_is = refl; kind_is = refl; target_is = t }, few)

  pub site_only : (form : SiteForm) (at pc index count : ℕ) (s : Site) → count < 1000000 → IsSite constants form pc index s → site_of pool form at pc index count ≡ Ok s
  unfolding site_of
  site_only form at pc index count s few is =
      let t = target_only form.target at index s.target is.target_is in
      let counted : ltb count 1000000 ≡ true = lt-ltb _ _ few in
      rw (t, counted) (ap (λ (x : Site). Ok x) (made_is form pc s is.pc_is is.kind_is))

  module _ (begin : ℕ) (code : List ℕ) where
    -- ---- the index of an instruction

    -- the two bytes after an opcode are the spelling of their number
    record FoundOperand (pc a b : ℕ) (more : List ℕ) : Type 0 where
      index : ℕ
      few : index < 2 ^ 16
      spelled : a ∷ b ∷ more ≡ u2 index ++ more
      read_is : operand_at code pc ≡ index

    two_spelled : (a b : ℕ) → a < 256 → b < 256 → u2 (a * 256 + b) ≡ a ∷ b ∷ []
    two_spelled a b la lb = be_bytes_2 (a ∷ b ∷ []) (a * 256 + b) refl fits refl
      where
        fits : (i : ℕ) → get_or (a ∷ b ∷ []) i 0 < 256
        fits zero = la
        fits (suc zero) = lb
        fits (suc (suc i)) = omega arith

    operand_for : (pc op : ℕ) (operands : List ℕ) (index : ℕ) (more rest : List ℕ) (after : ℕ) → index < 2 ^ 16 → operands ≡ u2 index ++ more → FitsAt pc (Plain op operands) → Stands code pc (instruction (Plain op operands) ++ rest) after → operand_at code pc ≡ index
    operand_for pc op operands index more rest after few spelled fits s =
        operand_is code pc op index more rest after few (subst (λ (l : List ℕ). FitsAt pc (Plain op l)) spelled fits) (subst (λ (l : List ℕ). Stands code pc (instruction (Plain op l) ++ rest) after) spelled s)

    found_operand : IsBytes code → (pc op a b : ℕ) (more rest : List ℕ) (after : ℕ) → FitsAt pc (Plain op (a ∷ b ∷ more)) → Stands code pc (op ∷ a ∷ b ∷ (more ++ rest)) after → FoundOperand pc a b more
    found_operand bytes pc op a b more rest after fits s =
        let s1 = Stands-back (op ∷ []) (a ∷ b ∷ (more ++ rest)) s in
        let s2 = Stands-back (a ∷ []) (b ∷ (more ++ rest)) s1 in
        let a_is = opcode_is code (pc + 1) a (b ∷ (more ++ rest)) after s1 in
        let b_is = opcode_is code (pc + 1 + 1) b (more ++ rest) after s2 in
        let la : a < 256 = subst (λ (n : ℕ). n < 256) a_is (bytes (pc + 1)) in
        let lb : b < 256 = subst (λ (n : ℕ). n < 256) b_is (bytes (pc + 1 + 1)) in
        let index : ℕ = a * 256 + b in
        let few : index < 2 ^ 16 = omega arith in
        let spelled : a ∷ b ∷ more ≡ u2 index ++ more = ap (λ (l : List ℕ). l ++ more) (sym (two_spelled a b la lb)) in
        record { index = index; few = few; spelled = spelled; read_is = operand_for pc op (a ∷ b ∷ more) index more rest after few spelled fits s }

    -- an opcode with two bytes or more has an index, and what it means has it too
    with_index : {X : Type 0} (Means : ℕ → X → Type 0) → IsBytes code → (pc op : ℕ) (operands rest : List ℕ) (after : ℕ) (x : X) → IsLong op → FitsAt pc (Plain op operands) → Stands code pc (op ∷ (operands ++ rest)) after → Means (operand_at code pc) x → HasIndex Means operands x
    with_index Means bytes pc op [] rest after x long fits s is = let bad = sym long.1 ∙ fits in absurd cc
    with_index Means bytes pc op (a ∷ []) rest after x long fits s is = let bad = sym long.1 ∙ fits in absurd cc
    with_index Means bytes pc op (a ∷ b ∷ more) rest after x long fits s is =
        let operand = found_operand bytes pc op a b more rest after fits s in
        record { index = operand.index; more = more; few = operand.few; spelled = operand.spelled; means = subst (λ (n : ℕ). Means n x) operand.read_is is }

    by_index : {X : Type 0} (Means : ℕ → X → Type 0) (pc op : ℕ) (operands rest : List ℕ) (after : ℕ) (x : X) → FitsAt pc (Plain op operands) → Stands code pc (op ∷ (operands ++ rest)) after → HasIndex Means operands x → Means (operand_at code pc) x
    by_index Means pc op operands rest after x fits s has =
        subst (λ (n : ℕ). Means n x) (sym (operand_for pc op operands has.index has.more rest after has.few has.spelled fits s)) has.means

    -- ---- what an instruction has

    abbrev Few : ℕ → List Site → Type 0
    Few count sites = count + length sites ≤ 1000000

    formed_found : IsBytes code → (pc op count : ℕ) (operands rest : List ℕ) (after : ℕ) (here : List Site) (o : Option SiteForm) → site_form op ≡ o → FitsAt pc (Plain op operands) → Stands code pc (op ∷ (operands ++ rest)) after → count ≤ 1000000 → sites_by pool begin code o pc count ≡ Ok here
        → AreFormed constants o pc operands here × Few count here
    formed_found bytes pc op count operands rest after here None is fits s le e =
        subst (λ (l : List Site). (l ≡ []) × Few count l) (ok_is [] here e) (refl, omega arith)
    formed_found bytes pc op count operands rest after here (Some form) is fits s le e =
        let found = bind_ok (site_of pool form (begin + pc) pc (operand_at code pc) count) _ here e in
        let site = site_found form (begin + pc) pc (operand_at code pc) count found.0 found.1 in
        let has = with_index (IsSite constants form pc) bytes pc op operands rest after found.0 (called_long op form is) fits s site.0 in
        let lt = site.1 in
        subst (λ (l : List Site). AreFormed constants (Some form) pc operands l × Few count l) (ok_is (found.0 ∷ []) here found.2) ((found.0, refl, has), omega arith)

    formed_only : (pc op count : ℕ) (operands rest : List ℕ) (after : ℕ) (here : List Site) (o : Option SiteForm) → FitsAt pc (Plain op operands) → Stands code pc (op ∷ (operands ++ rest)) after → Few count here → AreFormed constants o pc operands here → sites_by pool begin code o pc count ≡ Ok here
    formed_only pc op count operands rest after here None fits s few is = ap (λ (l : List Site). Ok l) (sym is)
    formed_only pc op count operands rest after here (Some form) fits s few is =
        let one : length here ≡ 1 = ap length is.1 in
        let lt : count < 1000000 = omega arith in
        let read = site_only form (begin + pc) pc (operand_at code pc) count is.0 lt (by_index (IsSite constants form pc) pc op operands rest after is.0 fits s is.2) in
        rw read (ap (λ (l : List Site). Ok l) (sym is.1))

    abbrev call : ℕ → ℕ → DynamicCall
    call pc n = record { pc = pc; bootstrap = n }

    dynamic_calls_found : IsBytes code → (pc op : ℕ) (operands rest : List ℕ) (after : ℕ) (here : List DynamicCall) (b : Bool) → is_dynamic op ≡ b → FitsAt pc (Plain op operands) → Stands code pc (op ∷ (operands ++ rest)) after → calls_by pool begin code b pc ≡ Ok here
        → AreDynamic constants b pc operands here
    dynamic_calls_found bytes pc op operands rest after here false is fits s e = sym (ok_is [] here e)
    dynamic_calls_found bytes pc op operands rest after here true is fits s e =
        let found = bind_ok (at_place (begin + pc) (operand_at code pc) (dynamic_of pool (operand_at code pc))) _ here e in
        let named = dynamic_found pool constants holds (operand_at code pc) found.0 (at_ok (begin + pc) (operand_at code pc) (dynamic_of pool (operand_at code pc)) found.0 found.1) in
        let has = with_index (IsCall constants pc) bytes pc op operands rest after (call pc found.0) (dynamic_long op is) fits s (record { pc_is = refl; named = named }) in
        subst (λ (l : List DynamicCall). AreDynamic constants true pc operands l) (ok_is (call pc found.0 ∷ []) here found.2) (call pc found.0, refl, has)

    call_is : (pc : ℕ) (c : DynamicCall) → c.pc ≡ pc → call pc c.bootstrap ≡ c
    call_is pc c p = ap (λ (n : ℕ). call n c.bootstrap) (sym p)

    dynamic_calls_only : (pc op : ℕ) (operands rest : List ℕ) (after : ℕ) (here : List DynamicCall) (b : Bool) → FitsAt pc (Plain op operands) → Stands code pc (op ∷ (operands ++ rest)) after → AreDynamic constants b pc operands here → calls_by pool begin code b pc ≡ Ok here
    dynamic_calls_only pc op operands rest after here false fits s is = ap (λ (l : List DynamicCall). Ok l) (sym is)
    dynamic_calls_only pc op operands rest after here true fits s is =
        let has = by_index (IsCall constants pc) pc op operands rest after is.0 fits s is.2 in
        let read = dynamic_only pool constants holds (operand_at code pc) is.0.bootstrap has.named in
        rw read (ap (λ (c : DynamicCall). Ok (c ∷ [])) (call_is pc is.0 has.pc_is) ∙ ap (λ (l : List DynamicCall). Ok l) (sym is.1))

    abbrev made_found : List Site → List DynamicCall → Found
    made_found sites calls = record { sites = sites; calls = calls }

    -- what is read at an opcode
    record ReadAt (op pc count : ℕ) (x : Found) : Type 0 where
      sites_are : sites_by pool begin code (site_form op) pc count ≡ Ok x.sites
      calls_are : calls_by pool begin code (is_dynamic op) pc ≡ Ok x.calls

    by_opcode : (pc op count : ℕ) (x : Found) → get_or code pc 0 ≡ op → found_at pool begin code pc count ≡ Ok x → ReadAt op pc count x
    unfolding found_at
    by_opcode pc op count x is e =
        let a = bind_ok (sites_by pool begin code (site_form (get_or code pc 0)) pc count) _ x e in
        let b = bind_ok (calls_by pool begin code (is_dynamic (get_or code pc 0)) pc) _ x a.2 in
        subst (λ (n : ℕ). ReadAt n pc count x) is (subst (λ (y : Found). ReadAt (get_or code pc 0) pc count y) (ok_is (made_found a.0 b.0) x b.2) (record { sites_are = a.1; calls_are = b.1 }))

    at_opcode_only : (pc op count : ℕ) (x : Found) → get_or code pc 0 ≡ op → ReadAt op pc count x → found_at pool begin code pc count ≡ Ok x
    unfolding found_at
    at_opcode_only pc op count x is r = rw (is, r.sites_are, r.calls_are) refl

    nothing_found : (pc op count : ℕ) (f : Form) (x : Found) → get_or code pc 0 ≡ op → IsShortForm f → form_of op ≡ Some f → count ≤ 1000000 → found_at pool begin code pc count ≡ Ok x → (x ≡ nothing) × Few count x.sites
    nothing_found pc op count f x at short is le e =
        let r = by_opcode pc op count x at e in
        let sites : [] ≡ x.sites = ok_is [] x.sites (subst (λ (o : Option SiteForm). sites_by pool begin code o pc count ≡ Ok x.sites) (no_call op f short is) r.sites_are) in
        let calls : [] ≡ x.calls = ok_is [] x.calls (subst (λ (b : Bool). calls_by pool begin code b pc ≡ Ok x.calls) (no_dynamic op f short is) r.calls_are) in
        (ap (λ (l : List Site). made_found l x.calls) (sym sites) ∙ ap (λ (l : List DynamicCall). made_found [] l) (sym calls), subst (λ (l : List Site). Few count l) sites (omega arith))

    nothing_only : (pc op count : ℕ) (f : Form) (x : Found) → get_or code pc 0 ≡ op → IsShortForm f → form_of op ≡ Some f → x ≡ nothing → found_at pool begin code pc count ≡ Ok x
    nothing_only pc op count f x at short is none =
        subst (λ (y : Found). found_at pool begin code pc count ≡ Ok y) (sym none) (at_opcode_only pc op count nothing at (record { sites_are = rw (no_call op f short is) refl; calls_are = rw (no_dynamic op f short is) refl }))

    instruction_found : IsBytes code → (pc count : ℕ) (i : Instruction) (rest : List ℕ) (after : ℕ) (x : Found) → FitsAt pc i → Stands code pc (instruction i ++ rest) after → count ≤ 1000000 → found_at pool begin code pc count ≡ Ok x → AreOf constants pc i x × Few count x.sites
    instruction_found bytes pc count (Plain op operands) rest after x fits s le e =
        let r = by_opcode pc op count x (opcode_is code pc op (operands ++ rest) after s) e in
        let f = formed_found bytes pc op count operands rest after x.sites (site_form op) refl fits s le r.sites_are in
        ((f.0, dynamic_calls_found bytes pc op operands rest after x.calls (is_dynamic op) refl fits s r.calls_are), f.1)
    instruction_found bytes pc count (TableSwitch op pad default low high offsets) rest after x fits s le e =
        nothing_found pc op count Table x (opcode_is code pc op _ after s) tt fits.0 le e
    instruction_found bytes pc count (LookupSwitch op pad default pairs_count pairs) rest after x fits s le e =
        nothing_found pc op count Lookup x (opcode_is code pc op _ after s) tt fits.0 le e
    instruction_found bytes pc count (Widened op inner operands) rest after x fits s le e =
        nothing_found pc op count Wide x (opcode_is code pc op _ after s) tt fits.0 le e

    instruction_only : (pc count : ℕ) (i : Instruction) (rest : List ℕ) (after : ℕ) (x : Found) → FitsAt pc i → Stands code pc (instruction i ++ rest) after → Few count x.sites → AreOf constants pc i x → found_at pool begin code pc count ≡ Ok x
    instruction_only pc count (Plain op operands) rest after x fits s few is =
        at_opcode_only pc op count x (opcode_is code pc op (operands ++ rest) after s)
        (record { sites_are = formed_only pc op count operands rest after x.sites (site_form op) fits s few is.0; calls_are = dynamic_calls_only pc op operands rest after x.calls (is_dynamic op) fits s is.1 })
    instruction_only pc count (TableSwitch op pad default low high offsets) rest after x fits s few is =
        nothing_only pc op count Table x (opcode_is code pc op _ after s) tt fits.0 is
    instruction_only pc count (LookupSwitch op pad default pairs_count pairs) rest after x fits s few is =
        nothing_only pc op count Lookup x (opcode_is code pc op _ after s) tt fits.0 is
    instruction_only pc count (Widened op inner operands) rest after x fits s few is =
        nothing_only pc op count Wide x (opcode_is code pc op _ after s) tt fits.0 is

    -- ---- what the whole code has
    pub record FoundAll (pc count : ℕ) (x : Found) : Type 0 where
      pub instrs : List Instruction
      pub stands : Stands code pc (flat_map instruction instrs) (length code)
      pub fits : FitFrom pc instrs
      pub are : AreFound constants pc instrs x
      pub few : count + length x.sites ≤ 1000000

    opcode_ok : {A : Type 0} (at : ℕ) (r : Result A CodeRule) (x : A) → at_opcode at r ≡ Ok x → r ≡ Ok x
    opcode_ok at (Ok y) x e = ap (λ (z : _). Ok z) (ok_is y x e)
    opcode_ok at (Err rule) x e = absurd cc

    -- what an instruction has, and those after it
    found_more : IsBytes code → (pc count next : ℕ) (here others : Found) → count ≤ 1000000 → FoundAt code pc next → found_at pool begin code pc count ≡ Ok here → (count + length here.sites ≤ 1000000 → FoundAll next (count + length here.sites) others) → FoundAll pc count (both here others)
    found_more bytes pc count next here others le first e rest =
        let i = first.instr in
        let whole = subst (λ (l : List ℕ). Stands code pc l next) (sym (append-nil (instruction i))) first.stands in
        let found = instruction_found bytes pc count i [] next here first.fits whole le e in
        let below = rest found.1 in
        let at : next ≡ pc + length (instruction i) = first.stands.ends in
        record {
          instrs = i ∷ below.instrs;
          stands = stands_first code pc next (length code) i below.instrs first.stands below.stands;
          fits = (first.fits, subst (λ (n : ℕ). FitFrom n below.instrs) at below.fits);
          are = (here, others, refl, found.0, subst (λ (n : ℕ). AreFound constants n below.instrs others) at below.are);
          few = (let few = below.few in omega (arith, few, length-append here.sites others.sites));
        }

    pub all_found : IsBytes code → (fuel pc count : ℕ) (x : Found) → count ≤ 1000000 → found_from pool begin code fuel pc count ≡ Ok x → FoundAll pc count x
    unfolding found_from
    all_found bytes zero pc count x le e = absurd cc
    all_found bytes (suc fuel) pc count x le e =
        elim (chosen (eqb (length code) pc) _ _ _ e) [
          | inl end ↦ (
              let here : length code ≡ pc = eqb-true _ _ end.0 in
              let stands = subst (λ (n : ℕ). Stands code n [] (length code)) here (Stands-none code (length code) (omega arith)) in
              subst (λ (y : Found). FoundAll pc count y) (ok_is nothing x end.1) (record { instrs = []; stands = stands; fits = tt; are = refl; few = omega arith })
              )
          | inr more ↦ (
              let a = bind_ok (at_opcode (begin + pc) (next_at code pc)) _ x more.1 in
              let b = bind_ok (found_at pool begin code pc count) _ x a.2 in
              let c = bind_ok (found_from pool begin code fuel a.0 (count + length b.0.sites)) _ x b.2 in
              let first = next_found code bytes pc a.0 (opcode_ok (begin + pc) (next_at code pc) a.0 a.1) in
              subst (λ (y : Found). FoundAll pc count y) (ok_is (both b.0 c.0) x c.2) (found_more bytes pc count a.0 b.0 c.0 le first b.1 (λ few. all_found bytes fuel a.0 (count + length b.0.sites) c.0 few c.1))
              )
        ]

    pub all_only : (fuel pc count : ℕ) (is : List Instruction) (x : Found) → length code < fuel + pc → FitFrom pc is → AreFound constants pc is x → count + length x.sites ≤ 1000000 → Stands code pc (flat_map instruction is) (length code) → found_from pool begin code fuel pc count ≡ Ok x
    unfolding found_from
    all_only zero pc count is x lt fit are few s = let within = s.ends in absurd (omega arith)
    all_only (suc fuel) pc count [] x lt fit are few s =
        let here : eqb (length code) pc ≡ true = (let e = s.ends in grind (arith, nat_tests)) in
        rw here (ap (λ (y : Found). Ok y) (sym are))
    all_only (suc fuel) pc count (i ∷ is) x lt fit (here, others, joined, at, rest) few s =
        let stands = subst (λ (l : List ℕ). Stands code pc l (length code)) (flat_map-cons instruction i is) s in
        let some = some_byte i in
        let after = Stands-back (instruction i) (flat_map instruction is) stands in
        let more : eqb (length code) pc ≡ false = not_end code pc (length (instruction i)) (length (flat_map instruction is)) (length code) some after.ends in
        let next = next_only code pc i (flat_map instruction is) (length code) fit.0 stands in
        let many : length x.sites ≡ length here.sites + length others.sites = ap (λ (y : Found). length y.sites) joined ∙ length-append here.sites others.sites in
        let first = instruction_only pc count i (flat_map instruction is) (length code) here fit.0 stands (omega arith) at in
        let below : length code < fuel + (pc + length (instruction i)) = further code (length code) fuel pc (length (instruction i)) lt some in
        let last = all_only fuel (pc + length (instruction i)) (count + length here.sites) is others below fit.1 rest (omega arith) after in
        rw (more, next, first, last) (ap (λ (y : Found). Ok y) (sym joined))

    -- ---- the first fault

    -- an instruction breaks a rule, or what it has does; all before it is spelled by the grammar
    pub record BrokenFrom (pc count : ℕ) (f : ClassFault) : Type 0 where
      pub before : List Instruction
      pub found : Found
      pub at : ℕ
      pub stands : Stands code pc (flat_map instruction before) at
      pub fits : FitFrom pc before
      pub are : AreFound constants pc before found
      pub few : count + length found.sites ≤ 1000000
      pub within : at < length code
      pub broken : (at_opcode (begin + at) (next_at code at) >>= λ next. found_at pool begin code at (count + length found.sites)) ≡ Err f

    at_once : (pc count : ℕ) (f : ClassFault) → count ≤ 1000000 → pc < length code → (at_opcode (begin + pc) (next_at code pc) >>= λ next. found_at pool begin code pc count) ≡ Err f → BrokenFrom pc count f
    at_once pc count f le within e = record {
      before = [];
      found = nothing;
      at = pc;
      stands = Stands-none code pc (omega arith);
      fits = tt;
      are = refl;
      few = omega arith;
      within = within;
      broken = (let none : count ≡ count + 0 = omega arith in subst (λ (n : ℕ). (at_opcode (begin + pc) (next_at code pc) >>= λ next. found_at pool begin code pc n) ≡ Err f) none e);
    }

    later : IsBytes code → (pc count next : ℕ) (here : Found) (f : ClassFault) → count ≤ 1000000 → FoundAt code pc next → found_at pool begin code pc count ≡ Ok here → (count + length here.sites ≤ 1000000 → BrokenFrom next (count + length here.sites) f) → BrokenFrom pc count f
    later bytes pc count next here f le first e rest =
        let i = first.instr in
        let whole = subst (λ (l : List ℕ). Stands code pc l next) (sym (append-nil (instruction i))) first.stands in
        let found = instruction_found bytes pc count i [] next here first.fits whole le e in
        let below = rest found.1 in
        let at : next ≡ pc + length (instruction i) = first.stands.ends in
        let many : count + length here.sites + length below.found.sites ≡ count + length (here.sites ++ below.found.sites) = omega (arith, length-append here.sites below.found.sites) in
        record {
          before = i ∷ below.before;
          found = both here below.found;
          at = below.at;
          stands = stands_first code pc next below.at i below.before first.stands below.stands;
          fits = (first.fits, subst (λ (n : ℕ). FitFrom n below.before) at below.fits);
          are = (here, below.found, refl, found.0, subst (λ (n : ℕ). AreFound constants n below.before below.found) at below.are);
          few = subst (λ (n : ℕ). n ≤ 1000000) many below.few;
          within = below.within;
          broken = subst (λ (n : ℕ). (at_opcode (begin + below.at) (next_at code below.at) >>= λ next. found_at pool begin code below.at n) ≡ Err f) many below.broken;
        }

    before_end : (len pc : ℕ) → pc ≤ len → eqb len pc ≡ false → pc < len
    before_end len pc le e = grind (arith, nat_tests)

    pub all_broken : IsBytes code → (fuel pc count : ℕ) (f : ClassFault) → length code < fuel + pc → pc ≤ length code → count ≤ 1000000 → found_from pool begin code fuel pc count ≡ Err f → BrokenFrom pc count f
    unfolding found_from
    all_broken bytes zero pc count f lt le few e = absurd (omega arith)
    all_broken bytes (suc fuel) pc count f lt le few e =
        elim (chosen (eqb (length code) pc) _ _ _ e) [
          | inl end ↦ absurd (ok_or_err nothing f end.1)
          | inr more ↦ elim (bind_err (at_opcode (begin + pc) (next_at code pc)) _ f more.1) [
            | inl here ↦ at_once pc count f few (before_end (length code) pc le more.0) (rw here refl)
            | inr there ↦ elim (bind_err (found_at pool begin code pc count) _ f there.2) [
              | inl site ↦ at_once pc count f few (before_end (length code) pc le more.0) (rw (there.1, site) refl)
              | inr found ↦ elim (bind_err (found_from pool begin code fuel there.0 (count + length found.0.sites)) _ f found.2) [
                | inl below ↦ (
                    let first = next_found code bytes pc there.0 (opcode_ok (begin + pc) (next_at code pc) there.0 there.1) in
                    let some = some_byte first.instr in
                    let next : there.0 ≡ pc + length (instruction first.instr) = first.stands.ends in
                    let still : length code < fuel + there.0 = subst (λ (n : ℕ). length code < fuel + n) (sym next) (further code (length code) fuel pc (length (instruction first.instr)) lt some) in
                    later bytes pc count there.0 found.0 f few first found.1 (λ less. all_broken bytes fuel there.0 (count + length found.0.sites) f still first.stands.within less below)
                    )
                | inr none ↦ absurd (ok_or_err (both found.0 none.0) f none.2)
              ]
            ]
          ]
        ]
