-- What a field or a method declares: what is read is spelled so, and what is spelled so is read.
use Rattle.std.proofs.Common.{◌≡◌, ℕ, ◌+◌, Bool, true, ltb, List, ◌++◌, length, refl, sym, ap, subst, arith}
use Rattle.std.specs.Prelude.{Ok}
use Rattle.std.proofs.lemmas.Bool.{ltb-true, lt-ltb}
use Rattle.fcg_grammar.specs.Reading.{unless_broken}
use Rattle.fcg_grammar.specs.Spell.{IsBytes, u2}
use Rattle.fcg_grammar.proofs.LawLemmas.{bind_ok, kept_ok}
use Rattle.fcg_grammar.proofs.Standing.{Stands, Stands-then, Stands-to, ok_is}
use Rattle.fcg_classfile.specs.declared.fault.ClassRule.TheVariants.{Descriptor, EmptyName}
use Rattle.fcg_classfile.specs.ClassFile.{Constant, Attribute, MemberInfo}
use Rattle.fcg_classfile.specs.Reads.{IsDeclared}
use Rattle.fcg_classfile.specs.Breaks.Fault.{fault}
use Rattle.fcg_classfile.specs.Breaks.Number.{u2_at}
use Rattle.fcg_classfile.specs.Breaks.Pool.{Entries}
use Rattle.fcg_classfile.specs.Breaks.Attributes.{text_at}
use Rattle.fcg_classfile.specs.Breaks.Members.{Declared, declared_at}
use Rattle.fcg_classfile.specs.Tables.{Holds}
use Rattle.fcg_classfile.proofs.Places.{u2_found, u2_only}
use Rattle.fcg_classfile.proofs.AttributeLaws.{text_at_found, text_at_only}

four : (at : ℕ) → at + 2 + 2 ≡ at + 4
four at = omega arith

four_two : (at : ℕ) → at + 4 + 2 ≡ at + 6
four_two at = omega arith

abbrev pub made : ℕ → ℕ → ℕ → List Attribute → MemberInfo
made flags name desc attributes = record { flags = flags; name = name; desc = desc; attributes = attributes }

module _ (IsTyped : List ℕ → Type 0) (is_typed : List ℕ → Bool) (typed_found : (text : List ℕ) → is_typed text ≡ true → IsTyped text) (typed_only : (text : List ℕ) → IsTyped text → is_typed text ≡ true)
    (pool : Entries) (fits : IsBytes pool.bytes) (constants : List Constant) (holds : Holds pool constants) where
  pub record FoundDeclared (at : ℕ) (d : Declared) : Type 0 where
    pub flags : ℕ
    pub name : ℕ
    pub desc : ℕ
    pub stands : Stands pool.bytes at (u2 flags ++ (u2 name ++ u2 desc)) (at + 6)
    pub declared : (attributes : List Attribute) → IsDeclared constants IsTyped (made flags name desc attributes) d.flags d.name d.desc

  pub declared_found : (at : ℕ) (d : Declared) → declared_at pool is_typed at ≡ Ok d → FoundDeclared at d
  unfolding declared_at
  declared_found at d e =
      let a = bind_ok (u2_at pool.bytes at 0) _ d e in
      let b = bind_ok (text_at pool (at + 2)) _ d a.2 in
      let c = bind_ok (unless_broken (ltb 0 (length b.0)) (fault (at + 2) 0 EmptyName)) _ d b.2 in
      let f = bind_ok (text_at pool (at + 4)) _ d c.2 in
      let g = bind_ok (unless_broken (is_typed f.0) (fault (at + 4) 0 Descriptor)) _ d f.2 in
      let flags = u2_found pool.bytes at 0 a.0 fits a.1 in
      let name = text_at_found pool fits constants holds (at + 2) b.0 b.1 in
      let desc = text_at_found pool fits constants holds (at + 4) f.0 f.1 in
      let s1 = Stands-to (at + 4) (four at) name.stands in
      let s2 = Stands-to (at + 6) (four_two at) desc.stands in
      subst (λ (x : Declared). FoundDeclared at x) (ok_is _ d g.2) (record {
        flags = a.0;
        name = name.index;
        desc = desc.index;
        stands = Stands-then flags.0 (Stands-then s1 s2);
        declared = λ attributes. record {
          flags_few = flags.1;
          flags_are = refl;
          name_index = name.few;
          name_is = name.named;
          filled = ltb-true _ _ (kept_ok _ _ c.0 c.1);
          desc_index = desc.few;
          desc_is = desc.named;
          typed = typed_found f.0 (kept_ok _ _ g.0 g.1);
        };
      })

  pub declared_only : (at : ℕ) (c : MemberInfo) (d : Declared) (rest : List ℕ) (after : ℕ) → IsDeclared constants IsTyped c d.flags d.name d.desc → Stands pool.bytes at (u2 c.flags ++ (u2 c.name ++ (u2 c.desc ++ rest))) after
      → (declared_at pool is_typed at ≡ Ok d) × Stands pool.bytes (at + 6) rest after
  unfolding declared_at
  declared_only at c d rest after is s =
      let a = u2_only pool.bytes at 0 c.flags (u2 c.name ++ (u2 c.desc ++ rest)) after is.flags_few s in
      let b = text_at_only pool fits constants holds (at + 2) c.name d.name (u2 c.desc ++ rest) after is.name_index is.name_is a.1 in
      let filled : ltb 0 (length d.name) ≡ true = lt-ltb _ _ is.filled in
      let s4 = subst (λ (n : ℕ). Stands pool.bytes n (u2 c.desc ++ rest) after) (four at) b.1 in
      let f = text_at_only pool fits constants holds (at + 4) c.desc d.desc rest after is.desc_index is.desc_is s4 in
      let typed = typed_only d.desc is.typed in
      (rw (a.0, b.0, filled, f.0, typed) (ap (λ (n : ℕ). Ok (record { flags = n; name = d.name; desc = d.desc })) (sym is.flags_are)), subst (λ (n : ℕ). Stands pool.bytes n rest after) (four_two at) f.1)
