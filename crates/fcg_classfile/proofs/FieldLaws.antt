-- Fields: what is read is spelled so, and what is spelled so is read.
use Rattle.std.proofs.Common.{◌≡◌, ℕ, ◌+◌, ◌^◌, ◌<◌, ◌≤◌, List, [], ◌∷◌, ◌++◌, length, refl, sym, subst, ◌∙◌, arith}
use Rattle.std.specs.Prelude.{Ok}
use Rattle.std.specs.List.{flat_map, AllByRecursion, AllZip}
use Rattle.fcg_grammar.specs.Spell.{IsBytes, u2}
use Rattle.fcg_grammar.proofs.LawLemmas.{bind_ok}
use Rattle.fcg_grammar.proofs.RowLaws.{FoundRow, ReadRow, rows_found, rows_only}
use Rattle.fcg_grammar.proofs.Standing.{Stands, Stands-then, ok_is}
use Rattle.fcg_views.specs.declared.view.Field.{Field}
use Rattle.fcg_classfile.specs.ClassFile.{Constant, attribute, MemberInfo, member_info}
use Rattle.fcg_views.specs.Descriptor.{IsFieldDescriptor}
use Rattle.fcg_views.specs.DescriptorSteps.{is_field_descriptor}
use Rattle.fcg_classfile.specs.Reads.{IsFieldOf}
use Rattle.fcg_classfile.specs.Breaks.Number.{u2_at}
use Rattle.fcg_classfile.specs.Breaks.Pool.{Entries}
use Rattle.fcg_classfile.specs.Breaks.Attributes.{attributes_at}
use Rattle.fcg_classfile.specs.Breaks.Members.{Declared, declared_at, field_at, fields_at}
use Rattle.fcg_views.proofs.DescLaws.{field_descriptor_found, field_descriptor_only}
use Rattle.fcg_classfile.specs.Tables.{Holds}
use Rattle.fcg_classfile.proofs.Places.{u2_found, u2_only, row_end, closed, opened}
use Rattle.fcg_classfile.proofs.AttributeLaws.{attributes_found, attributes_only}
use Rattle.fcg_classfile.proofs.TypeLaws.{utf8_one}
use Rattle.fcg_classfile.proofs.DeclaredLaws.{declared_found, declared_only}

module _ (pool : Entries) (fits : IsBytes pool.bytes) (constants : List Constant) (holds : Holds pool constants) where
  abbrev Means : MemberInfo → Field → Type 0
  Means c f = IsFieldOf constants c f

  field_found : (k at : ℕ) (x : Field × ℕ) → at ≤ length pool.bytes → field_at pool k at ≡ Ok x → FoundRow pool.bytes member_info Means (field_at pool) at x.0 x.1
  unfolding field_at
  field_found k at x le e =
      let a = bind_ok (declared_at pool is_field_descriptor at) _ x e in
      let b = bind_ok (attributes_at pool (at + 6)) _ x a.2 in
      let d = declared_found IsFieldDescriptor is_field_descriptor field_descriptor_found field_descriptor_only pool fits constants holds at a.0 a.1 in
      let attributes = attributes_found pool fits constants holds (at + 6) b.0 b.1 in
      let whole = closed (u2 d.flags ++ (u2 d.name ++ (u2 d.desc ++ u2 (length attributes.table)))) (flat_map attribute attributes.table) (Stands-then d.stands attributes.stands) in
      subst (λ (y : Field × ℕ). FoundRow pool.bytes member_info Means (field_at pool) at y.0 y.1) (ok_is _ x b.2) (record {
        row = record { flags = d.flags; name = d.name; desc = d.desc; attributes = attributes.table };
        stands = whole;
        meant = record { declared = d.declared attributes.table; attributes = attributes.passed };
      })

  field_only : (k at : ℕ) (c : MemberInfo) (rest : List ℕ) (after : ℕ) → ((f : Field) × Means c f) → Stands pool.bytes at (member_info c ++ rest) after → ReadRow pool.bytes member_info Means (field_at pool) k at c
  unfolding field_at
  field_only k at c rest after (f, is) s =
      let table : List ℕ = flat_map attribute c.attributes in
      let here = opened (u2 c.flags ++ (u2 c.name ++ (u2 c.desc ++ u2 (length c.attributes)))) table rest s in
      let declared : Declared = record { flags = f.flags; name = f.name; desc = f.desc } in
      let d = declared_only IsFieldDescriptor is_field_descriptor field_descriptor_found field_descriptor_only pool fits constants holds at c declared (u2 (length c.attributes) ++ (table ++ rest)) after is.declared here in
      let a = attributes_only pool fits constants holds (at + 6) c.attributes rest after is.attributes d.1 in
      let end = row_end pool.bytes at a.end after (member_info c) rest s a.stands in
      record { value = f; read_is = rw (d.0, a.read_is, end) refl; meant = is }

  -- a row of the file has one field
  one_field : (c : MemberInfo) (f g : Field) → Means c f → Means c g → f ≡ g
  one_field c f g p q =
      let flags : f.flags ≡ g.flags = p.declared.flags_are ∙ sym q.declared.flags_are in
      let name : f.name ≡ g.name = utf8_one constants c.name f.name g.name p.declared.name_is q.declared.name_is in
      let desc : f.desc ≡ g.desc = utf8_one constants c.desc f.desc g.desc p.declared.desc_is q.declared.desc_is in
      rw (flags, name, desc) refl

  fields_one : (cs : List MemberInfo) (fs gs : List Field) → AllZip Means cs fs → AllZip Means cs gs → fs ≡ gs
  fields_one [] [] [] p q = refl
  fields_one [] [] (g ∷ gs) p q = absurd q
  fields_one [] (f ∷ fs) gs p q = absurd p
  fields_one (c ∷ cs) [] gs p q = absurd p
  fields_one (c ∷ cs) (f ∷ fs) [] p q = absurd q
  fields_one (c ∷ cs) (f ∷ fs) (g ∷ gs) p q =
      let first = one_field c f g p.0 q.0 in
      let others = fields_one cs fs gs p.1 q.1 in
      rw (first, others) refl

  each_field : (cs : List MemberInfo) (fs : List Field) → AllZip Means cs fs → AllByRecursion (λ c. (f : Field) × Means c f) cs
  each_field [] [] p = tt
  each_field [] (f ∷ fs) p = absurd p
  each_field (c ∷ cs) [] p = absurd p
  each_field (c ∷ cs) (f ∷ fs) p = ((f, p.0), each_field cs fs p.1)

  pub record FoundFields (at : ℕ) (fs : List Field) (after : ℕ) : Type 0 where
    pub table : List MemberInfo
    pub stands : Stands pool.bytes at (u2 (length table) ++ flat_map member_info table) after
    pub few : length table < 2 ^ 16
    pub fields : AllZip (IsFieldOf constants) table fs

  pub fields_found : (at : ℕ) (x : List Field × ℕ) → fields_at pool at ≡ Ok x → FoundFields at x.0 x.1
  unfolding fields_at
  fields_found at x e =
      let a = bind_ok (u2_at pool.bytes at 0) _ x e in
      let n = u2_found pool.bytes at 0 a.0 fits a.1 in
      let r = rows_found pool.bytes member_info Means (field_at pool) field_found a.0 0 (at + 2) x n.0.within a.2 in
      record {
        table = r.table;
        stands = subst (λ (k : ℕ). Stands pool.bytes at (u2 k ++ flat_map member_info r.table) x.1) (sym r.many) (Stands-then n.0 r.stands);
        few = omega (arith, r.many, n.1);
        fields = r.meant;
      }

  pub record ReadFields (at : ℕ) (fs : List Field) (rest : List ℕ) (after : ℕ) : Type 0 where
    pub end : ℕ
    pub read_is : fields_at pool at ≡ Ok (fs, end)
    pub stands : Stands pool.bytes end rest after

  pub fields_only : (at : ℕ) (table : List MemberInfo) (fs : List Field) (rest : List ℕ) (after : ℕ) → length table < 2 ^ 16 → AllZip (IsFieldOf constants) table fs → Stands pool.bytes at (u2 (length table) ++ (flat_map member_info table ++ rest)) after
      → ReadFields at fs rest after
  unfolding fields_at
  fields_only at table fs rest after few fields s =
      let n = u2_only pool.bytes at 0 (length table) (flat_map member_info table ++ rest) after few s in
      let r = rows_only pool.bytes member_info Means (field_at pool) (λ c. (f : Field) × Means c f) field_only 0 (at + 2) table rest after (each_field table fs fields) n.1 in
      let same : r.values ≡ fs = fields_one table r.values fs r.meant fields in
      record { end = r.end; read_is = rw (n.0, r.read_is, same) refl; stands = r.stands }
