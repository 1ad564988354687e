-- What stands after the pool: what is read is spelled so, and what is spelled so is read.
use Rattle.std.proofs.Common.{◌≡◌, ℕ, ◌+◌, ◌^◌, ◌<◌, ◌≤◌, eqb, List, [], ◌∷◌, ◌++◌, length, Option, inl, inr, refl, sym, ap, subst, ◌∙◌, arith}
use Rattle.std.specs.Prelude.{Ok, codes}
use Rattle.std.specs.List.{flat_map, AllZip, IsDistinct}
use Rattle.std.proofs.lemmas.Bool.{eqb-true}
use Rattle.fcg_grammar.specs.Reading.{unless_broken}
use Rattle.fcg_grammar.specs.Spell.{IsBytes, u2}
use Rattle.fcg_grammar.proofs.LawLemmas.{bind_ok, kept_ok}
use Rattle.fcg_grammar.proofs.Standing.{Stands, Stands-then, Stands-to, ok_is, end_is}
use Rattle.fcg_views.specs.declared.view.View.{View}
use Rattle.fcg_views.specs.declared.view.Field.{Field}
use Rattle.fcg_views.specs.declared.view.Method.{Method}
use Rattle.fcg_classfile.specs.declared.fault.ClassRule.TheVariants.{Bootstrap, Trailing}
use Rattle.fcg_classfile.specs.ClassFile.{Constant, Attribute, attribute, BootstrapMethod, MemberInfo, member_info}
use Rattle.fcg_classfile.specs.Reads.{HasOne, SaysRows, HasRows, NamesType, NamesSuper, IsFieldOf, IsMethodOf}
use Rattle.fcg_views.specs.Valid.{site_count, is_alike}
use Rattle.fcg_classfile.specs.Breaks.Fault.{fault}
use Rattle.fcg_classfile.specs.Breaks.Number.{u2_at}
use Rattle.fcg_classfile.specs.Breaks.Pool.{Entries}
use Rattle.fcg_classfile.specs.Breaks.Attributes.{ones_at}
use Rattle.fcg_classfile.specs.Breaks.Bootstrap.{rows_at}
use Rattle.fcg_classfile.specs.Breaks.Members.{fields_at, methods_at, all_finished}
use Rattle.fcg_classfile.specs.Breaks.Class.{type_at, super_at, interfaces_at, rows_or_none, members_at, body_at}
use Rattle.fcg_classfile.proofs.Places.{u2_found, u2_only, closed}
use Rattle.fcg_classfile.specs.Tables.{Holds}
use Rattle.fcg_classfile.proofs.OneLaws.{placed, ones_found, ones_only}
use Rattle.fcg_classfile.proofs.HandleLaws.{Any, rows_reading}
use Rattle.fcg_classfile.proofs.FinishLaws.{whole_found, whole_only}
use Rattle.fcg_classfile.proofs.FieldLaws.{fields_found, fields_only}
use Rattle.fcg_classfile.proofs.MethodLaws.{methods_found, methods_only, all_whole, all_distinct}
use Rattle.fcg_classfile.proofs.TypeLaws.{type_found, type_only, super_found, super_only, interfaces_found, interfaces_only}

abbrev pub members_text : List MemberInfo → List MemberInfo → List Attribute → List ℕ
members_text fields methods attributes = u2 (length fields) ++ (flat_map member_info fields ++ (u2 (length methods) ++ (flat_map member_info methods ++ (u2 (length attributes) ++ (flat_map attribute attributes ++ [])))))

abbrev pub body_text : ℕ → ℕ → ℕ → List ℕ → List MemberInfo → List MemberInfo → List Attribute → List ℕ
body_text flags this super interfaces fields methods attributes = u2 flags ++ (u2 this ++ (u2 super ++ (u2 (length interfaces) ++ (flat_map u2 interfaces ++ members_text fields methods attributes))))

members_stand : {bytes : List ℕ} {at a b c : ℕ} (fields methods : List MemberInfo) (attributes : List Attribute) → Stands bytes at (u2 (length fields) ++ flat_map member_info fields) a → Stands bytes a (u2 (length methods) ++ flat_map member_info methods) b → Stands bytes b (u2 (length attributes) ++ flat_map attribute attributes) c
    → Stands bytes at (members_text fields methods attributes) c
members_stand fields methods attributes fs ms last = Stands-then fs (Stands-then ms (closed (u2 (length attributes)) (flat_map attribute attributes) last))

body_stand : {bytes : List ℕ} {at a b c d e : ℕ} (flags this super : ℕ) (interfaces : List ℕ) (fields methods : List MemberInfo) (attributes : List Attribute) → Stands bytes at (u2 flags) a → Stands bytes a (u2 this) b → Stands bytes b (u2 super) c
    → Stands bytes c (u2 (length interfaces) ++ flat_map u2 interfaces) d → Stands bytes d (members_text fields methods attributes) e → Stands bytes at (body_text flags this super interfaces fields methods attributes) e
body_stand flags this super interfaces fields methods attributes s0 s1 s2 s3 last = Stands-then s0 (Stands-then s1 (Stands-then s2 (Stands-then s3 last)))

four : (at : ℕ) → at + 2 + 2 ≡ at + 4
four at = omega arith

six : (at : ℕ) → at + 4 + 2 ≡ at + 6
six at = omega arith

abbrev made : ℕ → List ℕ → Option (List ℕ) → List (List ℕ) → List Field → List Method → View
made flags name super interfaces fields methods = record { name = name; flags = flags; superclass = super; interfaces = interfaces; fields = fields; methods = methods }

made_is : (v : View) (flags : ℕ) → v.flags ≡ flags → made flags v.name v.superclass v.interfaces v.fields v.methods ≡ v
made_is v flags f = ap (λ (x : ℕ). made x v.name v.superclass v.interfaces v.fields v.methods) (sym f)

-- what the file keeps after its pool
pub record IsBody (cs : List Constant) (flags this super : ℕ) (interfaces : List ℕ) (fields methods : List MemberInfo) (attributes : List Attribute) (v : View) : Type 0 where
  pub flags_few : flags < 2 ^ 16
  pub flags_are : v.flags ≡ flags
  pub name : NamesType cs this v.name
  pub super_is : NamesSuper cs super v.superclass
  pub few_interfaces : length interfaces < 2 ^ 16
  pub interfaces_are : AllZip (NamesType cs) interfaces v.interfaces
  pub few_fields : length fields < 2 ^ 16
  pub fields_are : AllZip (IsFieldOf cs) fields v.fields
  pub few_methods : length methods < 2 ^ 16
  pub rows : List BootstrapMethod
  pub methods_are : AllZip (IsMethodOf cs rows) methods v.methods
  pub distinct : IsDistinct is_alike v.methods
  pub few_sites : site_count v.methods ≤ 1000000
  pub attributes_are : HasRows cs attributes rows

-- the rows that an attribute has that is placed
rows_placed : (cs : List Constant) (at : ℕ) (table : List Attribute) (rows : List BootstrapMethod) (has : HasOne cs (codes "BootstrapMethods") SaysRows [] table rows) → rows_or_none (placed cs (codes "BootstrapMethods") SaysRows [] at table rows has) ≡ rows
rows_placed cs at [] rows has = sym has
rows_placed cs at (a ∷ more) rows (inl (other, has)) = rows_placed cs (at + length (attribute a)) more rows has
rows_placed cs at (a ∷ more) rows (inr one) = refl

module _ (pool : Entries) (fits : IsBytes pool.bytes) (constants : List Constant) (holds : Holds pool constants) where
  record FoundMembers (at : ℕ) (fs : List Field) (ms : List Method) : Type 0 where
    fields : List MemberInfo
    methods : List MemberInfo
    attributes : List Attribute
    stands : Stands pool.bytes at (members_text fields methods attributes) (length pool.bytes)
    few_fields : length fields < 2 ^ 16
    fields_are : AllZip (IsFieldOf constants) fields fs
    few : length methods < 2 ^ 16
    rows : List BootstrapMethod
    methods_are : AllZip (IsMethodOf constants rows) methods ms
    distinct : IsDistinct is_alike ms
    few_sites : site_count ms ≤ 1000000
    attributes_are : HasRows constants attributes rows

  members_found : (at : ℕ) (x : List Field × List Method) → members_at pool at ≡ Ok x → FoundMembers at x.0 x.1
  unfolding members_at
  members_found at x e =
      let a = bind_ok (fields_at pool at) _ x e in
      let b = bind_ok (methods_at pool a.0.1) _ x a.2 in
      let c = bind_ok (ones_at (codes "BootstrapMethods") Bootstrap rows_at pool b.0.1) _ x b.2 in
      let w = bind_ok (all_finished pool (rows_or_none c.0.read) b.0.0) _ x c.2 in
      let d = bind_ok (unless_broken (eqb (length pool.bytes) c.0.at) (fault c.0.at 0 Trailing)) _ x w.2 in
      let fields = fields_found pool fits constants holds at a.0 a.1 in
      let methods = methods_found pool fits constants holds a.0.1 b.0 b.1 in
      let attributes = ones_found pool fits constants holds (codes "BootstrapMethods") Bootstrap rows_at SaysRows Any [] (rows_reading constants) tt b.0.1 c.0 c.1 in
      let rows : rows_or_none c.0.read ≡ attributes.x = ap rows_or_none attributes.read_is ∙ rows_placed constants (b.0.1 + 2) attributes.table attributes.x attributes.has in
      let read = subst (λ (l : List BootstrapMethod). all_finished pool l b.0.0 ≡ Ok w.0) rows w.1 in
      let whole = whole_found pool constants holds attributes.x b.0.0 w.0 methods.few_sites read in
      let end : length pool.bytes ≡ c.0.at = eqb-true _ _ (kept_ok _ _ d.0 d.1) in
      let last = Stands-to (length pool.bytes) (sym end) attributes.stands in
      subst (λ (y : List Field × List Method). FoundMembers at y.0 y.1) (ok_is _ x d.2) (record {
        fields = fields.table;
        methods = methods.table;
        attributes = attributes.table;
        stands = members_stand fields.table methods.table attributes.table fields.stands methods.stands last;
        few_fields = fields.few;
        fields_are = fields.fields;
        few = methods.few;
        rows = attributes.x;
        methods_are = all_whole pool fits constants holds attributes.x methods.table b.0.0 w.0 methods.methods whole.each;
        distinct = all_distinct pool fits constants holds attributes.x b.0.0 w.0 whole.each methods.distinct;
        few_sites = whole.few;
        attributes_are = record { few = attributes.few; rows_are = attributes.has };
      })

  members_only : (at : ℕ) (fields methods : List MemberInfo) (attributes : List Attribute) (rows : List BootstrapMethod) (fs : List Field) (ms : List Method) → length fields < 2 ^ 16 → AllZip (IsFieldOf constants) fields fs → length methods < 2 ^ 16 → AllZip (IsMethodOf constants rows) methods ms
      → IsDistinct is_alike ms → site_count ms ≤ 1000000 → HasRows constants attributes rows → Stands pool.bytes at (members_text fields methods attributes) (length pool.bytes) → members_at pool at ≡ Ok (fs, ms)
  unfolding members_at
  members_only at fields methods attributes rows fs ms few_fields fields_are few methods_are distinct few_sites has s =
      let end : ℕ = length pool.bytes in
      let last : List ℕ = u2 (length attributes) ++ (flat_map attribute attributes ++ []) in
      let a = fields_only pool fits constants holds at fields fs (u2 (length methods) ++ (flat_map member_info methods ++ last)) end few_fields fields_are s in
      let b = methods_only pool fits constants holds rows a.end methods ms last end few methods_are distinct few_sites a.stands in
      let c = ones_only pool fits constants holds (codes "BootstrapMethods") Bootstrap rows_at SaysRows Any [] (rows_reading constants) b.end attributes rows [] end has.few has.rows_are tt b.stands in
      let rows_read : rows_or_none c.end.read ≡ rows = ap rows_or_none c.value ∙ rows_placed constants (b.end + 2) attributes rows has.rows_are in
      let whole = subst (λ (l : List BootstrapMethod). all_finished pool l b.methods ≡ Ok ms) (sym rows_read) (whole_only pool constants holds rows b.methods ms b.finish few_sites) in
      let ended = end_is pool.bytes c.end.at c.stands in
      rw (a.read_is, b.read_is, c.read_is, whole, ended) refl

  pub record FoundBody (at : ℕ) (v : View) : Type 0 where
    pub flags : ℕ
    pub this : ℕ
    pub super : ℕ
    pub interfaces : List ℕ
    pub fields : List MemberInfo
    pub methods : List MemberInfo
    pub attributes : List Attribute
    pub stands : Stands pool.bytes at (body_text flags this super interfaces fields methods attributes) (length pool.bytes)
    pub body : IsBody constants flags this super interfaces fields methods attributes v

  pub body_found : (at : ℕ) (v : View) → body_at pool at ≡ Ok v → FoundBody at v
  unfolding body_at
  body_found at v e =
      let a = bind_ok (u2_at pool.bytes at 0) _ v e in
      let b = bind_ok (type_at pool (at + 2)) _ v a.2 in
      let c = bind_ok (super_at pool (at + 4)) _ v b.2 in
      let d = bind_ok (interfaces_at pool (at + 6)) _ v c.2 in
      let f = bind_ok (members_at pool d.0.1) _ v d.2 in
      let flags = u2_found pool.bytes at 0 a.0 fits a.1 in
      let name = type_found pool fits constants holds (at + 2) b.0 b.1 in
      let super = super_found pool fits constants holds (at + 4) c.0 c.1 in
      let interfaces = interfaces_found pool fits constants holds (at + 6) d.0 d.1 in
      let members = members_found d.0.1 f.0 f.1 in
      let s1 = Stands-to (at + 4) (four at) name.stands in
      let s2 = Stands-to (at + 6) (six at) super.stands in
      subst (λ (x : View). FoundBody at x) (ok_is (made a.0 b.0 c.0 d.0.0 f.0.0 f.0.1) v f.2) (record {
        flags = a.0;
        this = name.index;
        super = super.index;
        interfaces = interfaces.table;
        fields = members.fields;
        methods = members.methods;
        attributes = members.attributes;
        stands = body_stand a.0 name.index super.index interfaces.table members.fields members.methods members.attributes flags.0 s1 s2 interfaces.stands members.stands;
        body = record {
          flags_few = flags.1;
          flags_are = refl;
          name = name.named;
          super_is = super.named;
          few_interfaces = interfaces.few;
          interfaces_are = interfaces.named;
          few_fields = members.few_fields;
          fields_are = members.fields_are;
          few_methods = members.few;
          rows = members.rows;
          methods_are = members.methods_are;
          distinct = members.distinct;
          few_sites = members.few_sites;
          attributes_are = members.attributes_are;
        };
      })

  pub body_only : (at flags this super : ℕ) (interfaces : List ℕ) (fields methods : List MemberInfo) (attributes : List Attribute) (v : View) → IsBody constants flags this super interfaces fields methods attributes v
      → Stands pool.bytes at (body_text flags this super interfaces fields methods attributes) (length pool.bytes) → body_at pool at ≡ Ok v
  unfolding body_at
  body_only at flags this super interfaces fields methods attributes v is s =
      let end : ℕ = length pool.bytes in
      let members : List ℕ = members_text fields methods attributes in
      let a = u2_only pool.bytes at 0 flags (u2 this ++ (u2 super ++ (u2 (length interfaces) ++ (flat_map u2 interfaces ++ members)))) end is.flags_few s in
      let b = type_only pool fits constants holds (at + 2) this v.name (u2 super ++ (u2 (length interfaces) ++ (flat_map u2 interfaces ++ members))) end is.name a.1 in
      let s4 = subst (λ (n : ℕ). Stands pool.bytes n (u2 super ++ (u2 (length interfaces) ++ (flat_map u2 interfaces ++ members))) end) (four at) b.1 in
      let c = super_only pool fits constants holds (at + 4) super v.superclass (u2 (length interfaces) ++ (flat_map u2 interfaces ++ members)) end is.super_is s4 in
      let s6 = subst (λ (n : ℕ). Stands pool.bytes n (u2 (length interfaces) ++ (flat_map u2 interfaces ++ members)) end) (six at) c.1 in
      let d = interfaces_only pool fits constants holds (at + 6) interfaces v.interfaces members end is.few_interfaces is.interfaces_are s6 in
      let f = members_only d.end fields methods attributes is.rows v.fields v.methods is.few_fields is.fields_are is.few_methods is.methods_are is.distinct is.few_sites is.attributes_are d.stands in
      rw (a.0, b.0, c.0, d.read_is, f) (ap (λ (x : View). Ok x) (made_is v flags is.flags_are))
