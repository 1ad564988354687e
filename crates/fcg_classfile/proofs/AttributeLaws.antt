-- Attributes: what is read is spelled so, and what is spelled so is read.
use Rattle.std.proofs.Common.{◌≡◌, ℕ, ◌+◌, ◌^◌, ◌<◌, ◌≤◌, List, [], ◌∷◌, ◌++◌, length, refl, sym, ap, subst, arith}
use Rattle.std.specs.Prelude.{Ok}
use Rattle.std.specs.List.{flat_map, AllByRecursion, AllZip}
use Rattle.std.proofs.lemmas.List.{append-nil}
use Rattle.fcg_grammar.specs.Rows.{rows}
use Rattle.fcg_grammar.specs.Spell.{IsBytes, u2, u4}
use Rattle.fcg_grammar.proofs.LawLemmas.{bind_ok}
use Rattle.fcg_grammar.proofs.Standing.{Stands, Stands-then, Stands-to, ok_is}
use Rattle.fcg_grammar.proofs.RowLaws.{FoundRow, ReadRow, rows_found, rows_only}
use Rattle.fcg_classfile.specs.ClassFile.{Constant, Attribute, attribute}
use Rattle.fcg_classfile.specs.Constants.{NamesUtf8}
use Rattle.fcg_classfile.specs.Reads.{IsNamed, IsPassed, ArePassed}
use Rattle.fcg_classfile.specs.Breaks.Number.{u2_at, u4_at, part_at}
use Rattle.fcg_classfile.specs.Breaks.Pool.{Entries, text_of}
use Rattle.fcg_classfile.specs.Breaks.Attributes.{text_at, content_at, attribute_at, attributes_at}
use Rattle.fcg_classfile.proofs.Places.{u2_found, u2_only, u4_found, u4_only, part_found, part_only, closed, opened}
use Rattle.fcg_classfile.specs.Tables.{Holds}
use Rattle.fcg_classfile.proofs.NameLaws.{text_found, text_only, at_ok}

-- what holds of each row
pub zip_left : {C X : Type 0} (R : C → X → Type 0) (P : C → Type 0) → ((c : C) (x : X) → R c x → P c) → (cs : List C) (xs : List X) → AllZip R cs xs → AllByRecursion P cs
zip_left R P h [] xs z = tt
zip_left R P h (c ∷ cs) [] z = absurd z
zip_left R P h (c ∷ cs) (x ∷ xs) z = (h c x z.0, zip_left R P h cs xs z.1)

pub six : (at : ℕ) → at + 2 + 4 ≡ at + 6
six at = omega arith

module _ (pool : Entries) (fits : IsBytes pool.bytes) (constants : List Constant) (holds : Holds pool constants) where
  pub record FoundText (at : ℕ) (text : List ℕ) : Type 0 where
    pub index : ℕ
    pub few : index < 2 ^ 16
    pub stands : Stands pool.bytes at (u2 index) (at + 2)
    pub named : NamesUtf8 constants index text

  pub text_at_found : (at : ℕ) (text : List ℕ) → text_at pool at ≡ Ok text → FoundText at text
  unfolding text_at
  text_at_found at text e =
      let a = bind_ok (u2_at pool.bytes at 0) _ text e in
      let n = u2_found pool.bytes at 0 a.0 fits a.1 in
      record { index = a.0; few = n.1; stands = n.0; named = text_found pool constants holds a.0 text (at_ok at a.0 (text_of pool a.0) text a.2) }

  pub text_at_only : (at index : ℕ) (text rest : List ℕ) (after : ℕ) → index < 2 ^ 16 → NamesUtf8 constants index text → Stands pool.bytes at (u2 index ++ rest) after → (text_at pool at ≡ Ok text) × Stands pool.bytes (at + 2) rest after
  unfolding text_at
  text_at_only at index text rest after few named s =
      let n = u2_only pool.bytes at 0 index rest after few s in
      let t = text_only pool constants holds index text named in
      (rw (n.0, t) refl, n.1)

  pub record FoundContent (at after : ℕ) : Type 0 where
    pub content : List ℕ
    pub few : length content < 2 ^ 32
    pub stands : Stands pool.bytes (at + 2) (u4 (length content) ++ content) after
    pub here : Stands pool.bytes (at + 6) content after

  pub content_found : (at after : ℕ) → content_at pool at ≡ Ok after → FoundContent at after
  unfolding content_at
  content_found at after e =
      let a = bind_ok (u4_at pool.bytes (at + 2) 0) _ after e in
      let b = bind_ok (part_at pool.bytes (at + 6) a.0 0) _ after a.2 in
      let n = u4_found pool.bytes (at + 2) 0 a.0 fits a.1 in
      let content = part_found pool.bytes (at + 6) a.0 0 b.0 b.1 in
      let s0 = Stands-to (at + 6) (six at) n.0 in
      let s1 = subst (λ (m : ℕ). Stands pool.bytes (at + 2) (u4 m ++ b.0) (at + 6 + a.0)) (sym content.1) (Stands-then s0 content.0) in
      subst (λ (y : ℕ). FoundContent at y) (ok_is _ after b.2) (record { content = b.0; few = omega (arith, content.1, n.1); stands = s1; here = content.0 })

  pub content_only : (at : ℕ) (content rest : List ℕ) (after : ℕ) → length content < 2 ^ 32 → Stands pool.bytes (at + 2) (u4 (length content) ++ (content ++ rest)) after
      → (content_at pool at ≡ Ok (at + 6 + length content)) × Stands pool.bytes (at + 6) (content ++ rest) after
  unfolding content_at
  content_only at content rest after few s =
      let m = u4_only pool.bytes (at + 2) 0 (length content) (content ++ rest) after few s in
      let s6 = subst (λ (p : ℕ). Stands pool.bytes p (content ++ rest) after) (six at) m.1 in
      let c = part_only pool.bytes (at + 6) 0 content rest after s6 in
      (rw (m.0, c.0) refl, s6)

  -- an attribute of a name
  pub record FoundAttribute (at : ℕ) (name : List ℕ) (after : ℕ) : Type 0 where
    pub row : Attribute
    pub stands : Stands pool.bytes at (attribute row) after
    pub named : IsNamed constants row name
    pub here : Stands pool.bytes (at + 6) row.content after

  pub whole_attribute : (at after : ℕ) (name : List ℕ) → FoundText at name → FoundContent at after → FoundAttribute at name after
  whole_attribute at after name n c = record {
    row = record { name = n.index; content = c.content };
    stands = closed (u2 n.index ++ u4 (length c.content)) c.content (Stands-then n.stands c.stands);
    named = record { index = n.few; named = n.named; fits = c.few };
    here = c.here;
  }

  pub record ReadAttribute (at : ℕ) (a : Attribute) (name rest : List ℕ) (after : ℕ) : Type 0 where
    pub name_is : text_at pool at ≡ Ok name
    pub content_is : content_at pool at ≡ Ok (at + length (attribute a))
    pub content_stands : Stands pool.bytes (at + 6) (a.content ++ rest) after
    pub ends : at + 6 + length a.content ≡ at + length (attribute a)

  pub attribute_read : (at : ℕ) (a : Attribute) (name rest : List ℕ) (after : ℕ) → IsNamed constants a name → Stands pool.bytes at (attribute a ++ rest) after → ReadAttribute at a name rest after
  attribute_read at a name rest after is s =
      let here = opened (u2 a.name ++ u4 (length a.content)) a.content rest s in
      let n = text_at_only at a.name name (u4 (length a.content) ++ (a.content ++ rest)) after is.index is.named here in
      let c = content_only at a.content rest after is.fits n.1 in
      let ends : at + 6 + length a.content ≡ at + length (attribute a) = omega (arith, ap length (append-nil a.content)) in
      record { name_is = n.0; content_is = subst (λ (end : ℕ). content_at pool at ≡ Ok end) ends c.0; content_stands = c.1; ends = ends }

  abbrev Passes : Attribute → Unit {0} → Type 0
  Passes a u = IsPassed constants a

  attribute_found : (k at : ℕ) (x : Unit {0} × ℕ) → at ≤ length pool.bytes → attribute_at pool k at ≡ Ok x → FoundRow pool.bytes attribute Passes (attribute_at pool) at x.0 x.1
  unfolding attribute_at
  attribute_found k at x le e =
      let a = bind_ok (text_at pool at) _ x e in
      let b = bind_ok (content_at pool at) _ x a.2 in
      let f = whole_attribute at b.0 a.0 (text_at_found at a.0 a.1) (content_found at b.0 b.1) in
      subst (λ (y : Unit {0} × ℕ). FoundRow pool.bytes attribute Passes (attribute_at pool) at y.0 y.1) (ok_is _ x b.2) (record { row = f.row; stands = f.stands; meant = (a.0, f.named) })

  attribute_only : (k at : ℕ) (a : Attribute) (rest : List ℕ) (after : ℕ) → IsPassed constants a → Stands pool.bytes at (attribute a ++ rest) after → ReadRow pool.bytes attribute Passes (attribute_at pool) k at a
  unfolding attribute_at
  attribute_only k at a rest after is s =
      let r = attribute_read at a is.0 rest after is.1 s in
      record { value = tt; read_is = rw (r.name_is, r.content_is) refl; meant = is }

  pub record FoundAttributes (at after : ℕ) : Type 0 where
    pub table : List Attribute
    pub stands : Stands pool.bytes at (u2 (length table) ++ flat_map attribute table) after
    pub passed : ArePassed constants table

  pub attributes_found : (at after : ℕ) → attributes_at pool at ≡ Ok after → FoundAttributes at after
  unfolding attributes_at
  attributes_found at after e =
      let a = bind_ok (u2_at pool.bytes at 0) _ after e in
      let b = bind_ok (rows (attribute_at pool) a.0 0 (at + 2)) _ after a.2 in
      let n = u2_found pool.bytes at 0 a.0 fits a.1 in
      let r = rows_found pool.bytes attribute Passes (attribute_at pool) attribute_found a.0 0 (at + 2) b.0 n.0.within b.1 in
      subst (λ (y : ℕ). FoundAttributes at y) (ok_is b.0.1 after b.2) (record {
        table = r.table;
        stands = subst (λ (k : ℕ). Stands pool.bytes at (u2 k ++ flat_map attribute r.table) b.0.1) (sym r.many) (Stands-then n.0 r.stands);
        passed = record { few = omega (arith, r.many, n.1); each = zip_left Passes (IsPassed constants) (λ a x h. h) r.table b.0.0 r.meant };
      })

  pub record ReadAttributes (at : ℕ) (rest : List ℕ) (after : ℕ) : Type 0 where
    pub end : ℕ
    pub read_is : attributes_at pool at ≡ Ok end
    pub stands : Stands pool.bytes end rest after

  pub attributes_only : (at : ℕ) (table : List Attribute) (rest : List ℕ) (after : ℕ) → ArePassed constants table → Stands pool.bytes at (u2 (length table) ++ (flat_map attribute table ++ rest)) after → ReadAttributes at rest after
  unfolding attributes_at
  attributes_only at table rest after are s =
      let n = u2_only pool.bytes at 0 (length table) (flat_map attribute table ++ rest) after are.few s in
      let r = rows_only pool.bytes attribute Passes (attribute_at pool) (IsPassed constants) attribute_only 0 (at + 2) table rest after are.each n.1 in
      record { end = r.end; read_is = rw (n.0, r.read_is) refl; stands = r.stands }
