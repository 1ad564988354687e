-- Attributes of which one of a name is read: what is read is spelled so, and what is spelled so is read.
use Rattle.std.proofs.Common.{◌≡◌, ◌⊎◌, ℕ, ◌+◌, ◌^◌, ◌<◌, ◌≤◌, true, false, List, [], ◌∷◌, ◌++◌, length, take, Option, Some, None, refl, sym, ap, subst, ◌∙◌, inl, inr, arith}
use Rattle.std.specs.Prelude.{Result, Ok, is_none}
use Rattle.std.specs.List.{flat_map, AllByRecursion}
use Rattle.std.proofs.lemmas.List.{length-take}
use Rattle.fcg_grammar.specs.Number.{part}
use Rattle.fcg_grammar.specs.Reading.{unless_broken}
use Rattle.fcg_grammar.specs.Rows.{rows}
use Rattle.fcg_grammar.specs.Spell.{IsBytes, u2}
use Rattle.fcg_grammar.proofs.LawLemmas.{bind_ok, chosen, kept_ok}
use Rattle.fcg_grammar.proofs.Limits.{IsBytes-take, outer, inner}
use Rattle.fcg_grammar.proofs.Standing.{Stands, Stands-then, Stands-to, Stands-front, ok_is, part_is}
use Rattle.fcg_grammar.proofs.StateRowLaws.{Linked, FoundRow, rows_found, rows_only}
use Rattle.fcg_classfile.specs.declared.fault.ClassFault.{ClassFault}
use Rattle.fcg_classfile.specs.declared.fault.ClassRule.{ClassRule}
use Rattle.fcg_classfile.specs.ClassFile.{Constant, Attribute, attribute}
use Rattle.fcg_classfile.specs.Reads.{IsNamed, IsOther, HasOne}
use Rattle.fcg_views.specs.Valid.{is_same}
use Rattle.fcg_classfile.specs.Breaks.Fault.{fault}
use Rattle.fcg_classfile.specs.Breaks.Number.{u2_at}
use Rattle.fcg_classfile.specs.Breaks.Pool.{Entries}
use Rattle.fcg_classfile.specs.Breaks.Attributes.{up_to, text_at, content_at, AttributesBefore, one_read_at, other_at, one_at, ones_at}
use Rattle.fcg_classfile.specs.Tables.{Holds}
use Rattle.fcg_classfile.proofs.Places.{u2_found, u2_only}
use Rattle.fcg_classfile.proofs.WordLaws.{same_name, is_itself, other_name, is_other_name}
use Rattle.fcg_classfile.proofs.AttributeLaws.{text_at_found, content_found, whole_attribute, attribute_read}

none_is : {A : Type 0} (o : Option A) → is_none o ≡ true → o ≡ None
none_is None e = refl
none_is (Some x) e = absurd cc

-- what stands from a place up to another is one text
one_text : (bytes : List ℕ) (a b : ℕ) (x y : List ℕ) → Stands bytes a x b → Stands bytes a y b → x ≡ y
one_text bytes a b x y p q =
    let long : length x ≡ length y = (let m = p.ends in let n = q.ends in omega arith) in
    sym (part_is bytes a x b p) ∙ ap (λ (n : ℕ). part bytes a n) long ∙ part_is bytes a y b q

-- where the bytes end at a place
ends_at : (bytes : List ℕ) (end : ℕ) → end ≤ length bytes → length (take end bytes) ≡ end
ends_at bytes end le = omega (arith, length-take end bytes)

-- what stands up to the end of the bytes says something, which keeps a rule
pub record SaidText {X : Type 0} (Says : List ℕ → X → Type 0) (Keeps : X → Type 0) (bytes : List ℕ) (at : ℕ) (x : X) : Type 0 where
  pub text : List ℕ
  pub stands : Stands bytes at text (length bytes)
  pub says : Says text x
  pub keeps : Keeps x

-- a content is read as what it says
pub record IsReading {X : Type 0} (constants : List Constant) (said_at : Entries → ℕ → Result X ClassFault) (Says : List ℕ → X → Type 0) (Keeps : X → Type 0) : Type 0 where
  pub found : (pool : Entries) → IsBytes pool.bytes → Holds pool constants → (at : ℕ) (x : X) → said_at pool at ≡ Ok x → SaidText Says Keeps pool.bytes at x
  pub only : (pool : Entries) → IsBytes pool.bytes → Holds pool constants → (at : ℕ) (text : List ℕ) (x : X) → Says text x → Keeps x → Stands pool.bytes at text (length pool.bytes) → said_at pool at ≡ Ok x

module _ {X : Type 0} where
  abbrev pub stood : ℕ → Option (ℕ × X) → AttributesBefore X
  stood at read = record { at = at; read = read }

  begun_is : (b : AttributesBefore X) (at : ℕ) (read : Option (ℕ × X)) → b.at ≡ at → b.read ≡ read → stood at read ≡ b
  begun_is b at read p q = ap (λ (n : ℕ). stood n read) (sym p) ∙ ap (λ (r : Option (ℕ × X)). stood b.at r) (sym q)

  -- where the attribute of the name stands, if there is one, and what it says
  abbrev pub placed : (cs : List Constant) (word : List ℕ) (Says : List ℕ → X → Type 0) (without : X) → ℕ → (table : List Attribute) (x : X) → HasOne cs word Says without table x → Option (ℕ × X)
  placed cs word Says without at [] x has = None
  placed cs word Says without at (a ∷ more) x (inl (other, has)) = placed cs word Says without (at + length (attribute a)) more x has
  placed cs word Says without at (a ∷ more) x (inr one) = Some (at, x)

-- The pool, and its constants; the name; the rule that a second one breaks; how its content is read, and what it says.
module _ {X : Type 0} (pool : Entries) (fits : IsBytes pool.bytes) (constants : List Constant) (holds : Holds pool constants) (word : List ℕ) (twice : ClassRule) (said_at : Entries → ℕ → Result X ClassFault) (Says : List ℕ → X → Type 0) (Keeps : X → Type 0) (without : X) (reading : IsReading constants said_at Says Keeps) where
  -- the only attribute of the name
  record IsOne (s : AttributesBefore X) (a : Attribute) (next : AttributesBefore X) : Type 0 where
    x : X
    once : s.read ≡ None
    named : IsNamed constants a word
    says : Says a.content x
    read : next.read ≡ Some (s.at, x)
    keeps : Keeps x

  -- from attribute to attribute, with what was read before
  abbrev Means : AttributesBefore X → Attribute → Unit {0} → AttributesBefore X → Type 0
  Means s a u next = (next.at ≡ s.at + length (attribute a)) × ((IsOther constants word a × (next.read ≡ s.read)) ⊎ IsOne s a next)

  abbrev place : AttributesBefore X → ℕ
  place s = s.at

  abbrev Row : ℕ → AttributesBefore X → Result (Unit {0} × AttributesBefore X) ClassFault
  Row = one_at word twice said_at pool

  -- ---- what is read

  abbrev Found : AttributesBefore X → Unit {0} × AttributesBefore X → Type 0
  Found s x = FoundRow pool.bytes place attribute Means Row s x.0 x.1

  -- the content of an attribute is the text that was read in it
  content_is : (at after : ℕ) (content text : List ℕ) → Stands pool.bytes at content after → Stands (take after pool.bytes) at text (length (take after pool.bytes)) → content ≡ text
  content_is at after content text here there =
      let end = ends_at pool.bytes after here.within in
      one_text pool.bytes at after content text here (Stands-to after end (outer after pool.bytes at text (length (take after pool.bytes)) here.within there))

  one_found : (s : AttributesBefore X) (name : List ℕ) (x : Unit {0} × AttributesBefore X) → text_at pool s.at ≡ Ok name → is_same name word ≡ true → one_read_at word twice said_at pool s ≡ Ok x → Found s x
  unfolding one_read_at
  one_found s name x named is e =
      let a = bind_ok (unless_broken (is_none s.read) (fault s.at 0 twice)) _ x e in
      let b = bind_ok (content_at pool s.at) _ x a.2 in
      let c = bind_ok (said_at (up_to b.0 pool) (s.at + 6)) _ x b.2 in
      let f = whole_attribute pool fits constants holds s.at b.0 name (text_at_found pool fits constants holds s.at name named) (content_found pool fits constants holds s.at b.0 b.1) in
      let said = reading.found (up_to b.0 pool) (IsBytes-take b.0 pool.bytes fits) holds (s.at + 6) c.0 c.1 in
      let same = content_is (s.at + 6) b.0 f.row.content said.text f.here said.stands in
      subst (Found s) (ok_is _ x c.2) (record {
        row = f.row;
        stands = f.stands;
        meant = (
          f.stands.ends,
          inr (record {
            x = c.0;
            once = none_is s.read (kept_ok _ _ a.0 a.1);
            named = subst (λ (n : List ℕ). IsNamed constants f.row n) (same_name name word is) f.named;
            says = subst (λ (l : List ℕ). Says l c.0) (sym same) said.says;
            read = refl;
            keeps = said.keeps;
          }),
        );
      })

  other_found : (s : AttributesBefore X) (name : List ℕ) (x : Unit {0} × AttributesBefore X) → text_at pool s.at ≡ Ok name → is_same name word ≡ false → other_at word twice said_at pool s ≡ Ok x → Found s x
  other_found s name x named is e =
      let b = bind_ok (content_at pool s.at) _ x e in
      let f = whole_attribute pool fits constants holds s.at b.0 name (text_at_found pool fits constants holds s.at name named) (content_found pool fits constants holds s.at b.0 b.1) in
      subst (Found s) (ok_is _ x b.2) (record { row = f.row; stands = f.stands; meant = (f.stands.ends, inl ((name, f.named, other_name name word is), refl)) })

  row_found : (k : ℕ) (s : AttributesBefore X) (x : Unit {0} × AttributesBefore X) → s.at ≤ length pool.bytes → Row k s ≡ Ok x → Found s x
  unfolding one_at
  row_found k s x le e =
      let a = bind_ok (text_at pool s.at) _ x e in
      elim (chosen (is_same a.0 word) _ _ _ a.2) [
        | inl is ↦ one_found s a.0 x a.1 is.0 is.1
        | inr other ↦ other_found s a.0 x a.1 other.0 other.1
      ]

  -- ---- what is spelled

  -- the content of an attribute, where the bytes end with it
  limited : (at : ℕ) (a : Attribute) (rest : List ℕ) (after : ℕ) → at + 6 + length a.content ≡ at + length (attribute a) → Stands pool.bytes (at + 6) (a.content ++ rest) after
      → Stands (take (at + length (attribute a)) pool.bytes) (at + 6) a.content (length (take (at + length (attribute a)) pool.bytes))
  limited at a rest after ends s =
      let front = Stands-to (at + length (attribute a)) ends (Stands-front a.content rest s) in
      let end : at + length (attribute a) ≡ length (take (at + length (attribute a)) pool.bytes) = sym (ends_at pool.bytes (at + length (attribute a)) front.within) in
      Stands-to (length (take (at + length (attribute a)) pool.bytes)) end (inner (at + length (attribute a)) pool.bytes (at + 6) a.content (at + length (attribute a)) (omega arith) front.within front)

  row_only : (k : ℕ) (s : AttributesBefore X) (a : Attribute) (u : Unit {0}) (next : AttributesBefore X) (rest : List ℕ) (after : ℕ) → Means s a u next → Stands pool.bytes s.at (attribute a ++ rest) after
      → (Row k s ≡ Ok (u, next)) × (next.at ≡ s.at + length (attribute a))
  unfolding one_at one_read_at
  row_only k s a u next rest after (at, inl ((name, named, other), same)) t =
      let r = attribute_read pool fits constants holds s.at a name rest after named t in
      (rw (r.name_is, is_other_name name word other, r.content_is) (ap (λ (b : AttributesBefore X). Ok (tt, b)) (begun_is next (s.at + length (attribute a)) s.read at same)), at)
  row_only k s a u next rest after (at, inr is) t =
      let r = attribute_read pool fits constants holds s.at a word rest after is.named t in
      let there = limited s.at a rest after r.ends r.content_stands in
      let end : ℕ = s.at + length (attribute a) in
      let c = reading.only (up_to end pool) (IsBytes-take end pool.bytes fits) holds (s.at + 6) a.content is.x is.says is.keeps there in
      (rw (r.name_is, is_itself word, is.once, r.content_is, c) (ap (λ (b : AttributesBefore X). Ok (tt, b)) (begun_is next end (Some (s.at, is.x)) at is.read)), at)

  -- ---- along the rows
  abbrev Follow : AttributesBefore X → List Attribute → List (Unit {0}) → AttributesBefore X → Type 0
  Follow s cs us end = Linked pool.bytes place attribute Means Row s cs us end

  none_or_some : (o : Option (ℕ × X)) (x : ℕ × X) → o ≡ None → o ≡ Some x → ⊥
  none_or_some o x p q = let bad = sym p ∙ q in cc

  -- after the one there is no other
  after_one : (s : AttributesBefore X) (cs : List Attribute) (us : List (Unit {0})) (end : AttributesBefore X) (x : ℕ × X) → s.read ≡ Some x → Follow s cs us end → AllByRecursion (IsOther constants word) cs × (end.read ≡ Some x)
  after_one s [] [] end x is l = (tt, ap (λ (b : AttributesBefore X). b.read) (sym l) ∙ is)
  after_one s [] (u ∷ us) end x is l = absurd l
  after_one s (c ∷ cs) [] end x is l = absurd l
  after_one s (c ∷ cs) (u ∷ us) end x is (next, (at, inl (other, same)), more) =
      let below = after_one next cs us end x (same ∙ is) more in
      ((other, below.0), below.1)
  after_one s (c ∷ cs) (u ∷ us) end x is (next, (at, inr one), more) = absurd (none_or_some s.read x one.once is)

  abbrev Has : List Attribute → X → Type 0
  Has table x = HasOne constants word Says without table x

  abbrev pub at_place : ℕ → (table : List Attribute) (x : X) → Has table x → Option (ℕ × X)
  at_place at table x has = placed constants word Says without at table x has

  record Followed (at : ℕ) (table : List Attribute) (read : Option (ℕ × X)) : Type 0 where
    x : X
    has : Has table x
    read_is : read ≡ at_place at table x has
    keeps : Keeps x

  follow_found : Keeps without → (s : AttributesBefore X) (cs : List Attribute) (us : List (Unit {0})) (end : AttributesBefore X) → s.read ≡ None → Follow s cs us end → Followed s.at cs end.read
  follow_found k s [] [] end is l = record { x = without; has = refl; read_is = ap (λ (b : AttributesBefore X). b.read) (sym l) ∙ is; keeps = k }
  follow_found k s [] (u ∷ us) end is l = absurd l
  follow_found k s (c ∷ cs) [] end is l = absurd l
  follow_found k s (c ∷ cs) (u ∷ us) end is (next, (at, inl (other, same)), more) =
      let below = follow_found k next cs us end (same ∙ is) more in
      record {
        x = below.x;
        has = inl (other, below.has);
        read_is = below.read_is ∙ ap (λ (n : ℕ). at_place n cs below.x below.has) at;
        keeps = below.keeps;
      }
  follow_found k s (c ∷ cs) (u ∷ us) end is (next, (at, inr one), more) =
      let below = after_one next cs us end (s.at, one.x) one.read more in
      record { x = one.x; has = inr (one.named, one.says, below.0); read_is = below.1; keeps = one.keeps }

  record Ended (s : AttributesBefore X) (cs : List Attribute) (read : Option (ℕ × X)) : Type 0 where
    units : List (Unit {0})
    end : AttributesBefore X
    linked : Follow s cs units end
    read_is : end.read ≡ read

  others_follow : (s : AttributesBefore X) (cs : List Attribute) → AllByRecursion (IsOther constants word) cs → Ended s cs s.read
  others_follow s [] are = record { units = []; end = s; linked = refl; read_is = refl }
  others_follow s (c ∷ cs) are =
      let next : AttributesBefore X = stood (s.at + length (attribute c)) s.read in
      let below = others_follow next cs are.1 in
      record { units = tt ∷ below.units; end = below.end; linked = (next, (refl, inl (are.0, refl)), below.linked); read_is = below.read_is }

  follow_only : (s : AttributesBefore X) (cs : List Attribute) (x : X) → s.read ≡ None → (has : Has cs x) → Keeps x → Ended s cs (at_place s.at cs x has)
  follow_only s [] x none has k = record { units = []; end = s; linked = refl; read_is = none }
  follow_only s (c ∷ cs) x none (inl (other, has)) k =
      let next : AttributesBefore X = stood (s.at + length (attribute c)) s.read in
      let below = follow_only next cs x none has k in
      record { units = tt ∷ below.units; end = below.end; linked = (next, (refl, inl (other, refl)), below.linked); read_is = below.read_is }
  follow_only s (c ∷ cs) x none (inr (named, says, others)) k =
      let next : AttributesBefore X = stood (s.at + length (attribute c)) (Some (s.at, x)) in
      let below = others_follow next cs others in
      record {
        units = tt ∷ below.units;
        end = below.end;
        linked = (next, (refl, inr (record { x = x; once = none; named = named; says = says; read = refl; keeps = k })), below.linked);
        read_is = below.read_is;
      }

  -- ---- all attributes
  pub record FoundOnes (at : ℕ) (end : AttributesBefore X) : Type 0 where
    pub table : List Attribute
    pub stands : Stands pool.bytes at (u2 (length table) ++ flat_map attribute table) end.at
    pub few : length table < 2 ^ 16
    pub x : X
    pub has : HasOne constants word Says without table x
    pub read_is : end.read ≡ at_place (at + 2) table x has
    pub keeps : Keeps x

  pub ones_found : Keeps without → (at : ℕ) (end : AttributesBefore X) → ones_at word twice said_at pool at ≡ Ok end → FoundOnes at end
  unfolding ones_at
  ones_found k at end e =
      let begun : AttributesBefore X = stood (at + 2) None in
      let a = bind_ok (u2_at pool.bytes at 0) _ end e in
      let b = bind_ok (rows Row a.0 0 begun) _ end a.2 in
      let n = u2_found pool.bytes at 0 a.0 fits a.1 in
      let r = rows_found pool.bytes place attribute Means Row row_found a.0 0 begun b.0 n.0.within b.1 in
      let along = follow_found k begun r.table b.0.0 b.0.1 refl r.meant in
      subst (λ (y : AttributesBefore X). FoundOnes at y) (ok_is b.0.1 end b.2) (record {
        table = r.table;
        stands = subst (λ (m : ℕ). Stands pool.bytes at (u2 m ++ flat_map attribute r.table) b.0.1.at) (sym r.many) (Stands-then n.0 r.stands);
        few = omega (arith, r.many, n.1);
        x = along.x;
        has = along.has;
        read_is = along.read_is;
        keeps = along.keeps;
      })

  pub record ReadOnes (at : ℕ) (read : Option (ℕ × X)) (rest : List ℕ) (after : ℕ) : Type 0 where
    pub end : AttributesBefore X
    pub read_is : ones_at word twice said_at pool at ≡ Ok end
    pub value : end.read ≡ read
    pub stands : Stands pool.bytes end.at rest after

  pub ones_only : (at : ℕ) (table : List Attribute) (x : X) (rest : List ℕ) (after : ℕ) → length table < 2 ^ 16 → (has : HasOne constants word Says without table x) → Keeps x → Stands pool.bytes at (u2 (length table) ++ (flat_map attribute table ++ rest)) after
      → ReadOnes at (at_place (at + 2) table x has) rest after
  unfolding ones_at
  ones_only at table x rest after few has k s =
      let begun : AttributesBefore X = stood (at + 2) None in
      let n = u2_only pool.bytes at 0 (length table) (flat_map attribute table ++ rest) after few s in
      let along = follow_only begun table x refl has k in
      let r = rows_only pool.bytes place attribute Means Row row_only 0 begun table along.units along.end rest after along.linked n.1 in
      record { end = along.end; read_is = rw (n.0, r.0) refl; value = along.read_is; stands = r.1 }
