-- The class file: what is read is spelled so, and what is spelled so is read. So it has one view, or one first fault.
use Rattle.std.proofs.Common.{◌≡◌, ℕ, zero, suc, ◌+◌, ◌^◌, ◌≤◌, ◌<◌, Bool, true, false, cond, eqb, leb, ltb, ◌&&◌, List, [], ◌∷◌, ◌++◌, length, Option, Some, None, refl, sym, ap, subst, ◌∙◌, arith}
use Rattle.std.specs.Prelude.{Result, Ok, Err, IfOk}
use Rattle.std.specs.List.{flat_map}
use Rattle.std.proofs.lemmas.List.{length-map}
use Rattle.std.proofs.lemmas.Bool.{eqb-true, leb-true, ltb-true, ltb-false, lt-ltb, le-ltb, and_parts}
use Rattle.std.proofs.lemmas.Bool.Decides.{nat_tests}
use Rattle.fcg_grammar.specs.declared.error.ReadError.{ReadError}
use Rattle.fcg_grammar.specs.Reading.{unless_broken, Gives}
use Rattle.fcg_grammar.specs.Spell.{IsBytes, u2, u4}
use Rattle.fcg_grammar.proofs.LawLemmas.{bind_ok, kept_ok, err_is, ok_or_err}
use Rattle.fcg_grammar.proofs.Standing.{Stands, Stands-then, ok_is, whole_is, is_whole}
use Rattle.fcg_views.specs.declared.view.View.{View}
use Rattle.fcg_classfile.specs.declared.fault.PoolFault.{PoolFault}
use Rattle.fcg_classfile.specs.declared.fault.ClassFault.{ClassFault}
use Rattle.fcg_classfile.specs.declared.fault.ClassRule.TheVariants.{Magic}
use Rattle.fcg_classfile.specs.ClassFile.{Constant, Named, constant, slots, ClassFile, spelling}
use Rattle.fcg_classfile.specs.Constants.{constant_at}
use Rattle.fcg_classfile.specs.Reads.{IsViewOf, IsShown, Reads, Verdict, IsRead, IsBroken}
use Rattle.fcg_classfile.specs.Breaks.Fault.{fault, in_pool}
use Rattle.fcg_classfile.specs.Breaks.Number.{u2_at, u4_at}
use Rattle.fcg_classfile.specs.Breaks.Pool.{Entries, pool_at}
use Rattle.fcg_classfile.specs.Breaks.Class.{header_kept, body_at, shown, class_of}
use Rattle.fcg_classfile.proofs.Places.{u2_found, u2_only, u4_found, u4_only}
use Rattle.fcg_classfile.specs.Tables.{Holds}
use Rattle.fcg_classfile.proofs.WordLaws.{methods_differ, methods_distinct}
use Rattle.fcg_classfile.proofs.TableLaws.{FoundPool, pool_found, pool_only}
use Rattle.fcg_classfile.proofs.BodyLaws.{body_text, IsBody, FoundBody, body_found, body_only}

record FoundHeader (bytes : List ℕ) : Type 0 where
  minor : ℕ
  major : ℕ
  stands : Stands bytes 0 (u4 0xcafebabe ++ (u2 minor ++ u2 major)) 8
  few : minor < 2 ^ 16
  from : 45 ≤ major
  to : major ≤ 65

header_found : (bytes : List ℕ) → IsBytes bytes → (u : Unit {0}) → header_kept bytes ≡ Ok u → FoundHeader bytes
unfolding header_kept
header_found bytes fits u e =
    let a = bind_ok (u4_at bytes 0 0) _ u e in
    let b = bind_ok (unless_broken (eqb a.0 0xcafebabe) (fault 0 0 Magic)) _ u a.2 in
    let c = bind_ok (u2_at bytes 4 0) _ u b.2 in
    let d = bind_ok (u2_at bytes 6 0) _ u c.2 in
    let magic : a.0 ≡ 0xcafebabe = eqb-true _ _ (kept_ok _ _ b.0 b.1) in
    let s0 = subst (λ (n : ℕ). Stands bytes 0 (u4 n) 4) magic (u4_found bytes 0 0 a.0 fits a.1).0 in
    let minor = u2_found bytes 4 0 c.0 fits c.1 in
    let major = u2_found bytes 6 0 d.0 fits d.1 in
    let version = and_parts (leb 45 d.0) (leb d.0 65) (kept_ok _ _ u d.2) in
    record { minor = c.0; major = d.0; stands = Stands-then s0 (Stands-then minor.0 major.0); few = minor.1; from = leb-true _ _ version.0; to = leb-true _ _ version.1 }

header_only : (bytes : List ℕ) (minor major : ℕ) (rest : List ℕ) (after : ℕ) → minor < 2 ^ 16 → 45 ≤ major → major ≤ 65 → Stands bytes 0 (u4 0xcafebabe ++ (u2 minor ++ (u2 major ++ rest))) after → (header_kept bytes ≡ Ok tt) × Stands bytes 8 rest after
unfolding header_kept
header_only bytes minor major rest after few from to s =
    let a = u4_only bytes 0 0 0xcafebabe (u2 minor ++ (u2 major ++ rest)) after (omega arith) s in
    let b = u2_only bytes 4 0 minor (u2 major ++ rest) after few a.1 in
    let c = u2_only bytes 6 0 major rest after (omega arith) b.1 in
    let version : (leb 45 major && leb major 65) ≡ true = grind (arith, nat_tests) in
    (rw (a.0, b.0, c.0, version) refl, c.1)

-- no index names anything in an empty pool
some_constant : (cs : List Constant) (i : ℕ) (c : Constant) → constant_at cs i ≡ Some c → 0 < length (slots cs)
some_constant cs zero c e = absurd cc
some_constant [] (suc i) c e = absurd cc
some_constant (d ∷ cs) (suc i) c e = omega arith

-- the pool's rules are among those of the class file
in_ok : {A : Type 0} (r : Result A PoolFault) (x : A) → in_pool r ≡ Ok x → r ≡ Ok x
in_ok (Ok y) x e = rw (ok_is y x e) refl
in_ok (Err f) x e = absurd cc

assembled : (bytes : List ℕ) (pool : Entries) (fits : IsBytes pool.bytes) (after : ℕ) (v : View) → FoundHeader bytes → (p : FoundPool bytes 8 pool after) → FoundBody pool fits p.constants p.holds after v → (c : ClassFile) × (bytes ≡ spelling c) × IsViewOf c v
assembled bytes pool fits after v header p found =
    let table : List Constant = p.constants in
    let body = found.body in
    let some = some_constant table found.this (Named 7 body.name.1.0) body.name.1.1 in
    let long : length pool.slots ≡ length (slots table) = sym (length-map pool.slots _) ∙ ap length p.holds in
    let count : p.count ≡ 1 + length (slots table) = omega (arith, p.many, long) in
    let rest = subst (λ (x : List ℕ). Stands x after (body_text found.flags found.this found.super found.interfaces found.fields found.methods found.attributes) (length x)) p.bytes_are found.stands in
    let pool_stands = subst (λ (n : ℕ). Stands bytes 8 (u2 n ++ flat_map constant table) after) count p.stands in (
      record { minor = header.minor; major = header.major; pool = table; flags = found.flags; this = found.this; super = found.super; interfaces = found.interfaces; fields = found.fields; methods = found.methods; attributes = found.attributes },
      whole_is bytes _ (Stands-then header.stands (Stands-then pool_stands rest)),
      record {
        minor = header.few;
        from = header.from;
        to = header.to;
        pool = record { few = omega (arith, count, p.few); fit = p.fit; named = p.named };
        flags_few = body.flags_few;
        flags = body.flags_are;
        name = body.name;
        super = body.super_is;
        few_interfaces = body.few_interfaces;
        interfaces = body.interfaces_are;
        few_fields = body.few_fields;
        fields = body.fields_are;
        few_methods = body.few_methods;
        rows = body.rows;
        methods = body.methods_are;
        distinct = methods_differ v.methods body.distinct;
        few_sites = body.few_sites;
        attributes = body.attributes_are;
      },
    )

-- what is shown of what a class file says
shown_found : (v : View) → IsShown v (shown v)
shown_found v = by_test (ltb v.flags 0x8000) refl
  where
    by_test : (b : Bool) → ltb v.flags 0x8000 ≡ b → IsShown v (cond b (Some v) None)
    by_test true is = (ltb-true _ _ is, refl)
    by_test false is = ltb-false _ _ is

shown_only : (v : View) (r : Option View) → IsShown v r → shown v ≡ r
shown_only v None is = let past : ltb v.flags 0x8000 ≡ false = le-ltb _ _ is in rw past refl
shown_only v (Some w) is = let below : ltb v.flags 0x8000 ≡ true = lt-ltb _ _ is.0 in rw below (ap (λ (x : View). Some x) (sym is.1))

-- what is read is a class file with that view
pub class_found : (bytes : List ℕ) (r : Option View) → IsBytes bytes → class_of bytes ≡ Ok r → Reads bytes r
unfolding class_of
class_found bytes r fits e =
    let a = bind_ok (header_kept bytes) _ r e in
    let b = bind_ok (in_pool (pool_at bytes 8)) _ r a.2 in
    let c = bind_ok (body_at b.0.0 b.0.1) _ r b.2 in
    let header = header_found bytes fits a.0 a.1 in
    let pool = pool_found bytes fits 8 b.0 (in_ok (pool_at bytes 8) b.0 b.1) in
    let fits1 = subst (λ (x : List ℕ). IsBytes x) (sym pool.bytes_are) fits in
    let file = assembled bytes b.0.0 fits1 b.0.1 c.0 header pool (body_found b.0.0 fits1 pool.constants pool.holds b.0.1 c.0 c.1) in
    subst (λ (x : Option View). Reads bytes x) (ok_is (shown c.0) r c.2) (record { file = file.0; spelled = file.1; view = c.0; is = file.2; shown = shown_found c.0 })

abbrev text_of_body : ClassFile → List ℕ
text_of_body c = body_text c.flags c.this c.super c.interfaces c.fields c.methods c.attributes

abbrev IsBodyOf : List Constant → ClassFile → View → Type 0
IsBodyOf cs c v = IsBody cs c.flags c.this c.super c.interfaces c.fields c.methods c.attributes v

body_of : (c : ClassFile) (v : View) → IsViewOf c v → IsBodyOf c.pool c v
body_of c v is = record {
  flags_few = is.flags_few;
  flags_are = is.flags;
  name = is.name;
  super_is = is.super;
  few_interfaces = is.few_interfaces;
  interfaces_are = is.interfaces;
  few_fields = is.few_fields;
  fields_are = is.fields;
  few_methods = is.few_methods;
  rows = is.rows;
  methods_are = is.methods;
  distinct = methods_distinct v.methods is.distinct;
  few_sites = is.few_sites;
  attributes_are = is.attributes;
}

-- the body, by the pool that was read
body_again : (bytes : List ℕ) → IsBytes bytes → (c : ClassFile) (v : View) (pool : Entries) (end : ℕ) → pool.bytes ≡ bytes → Holds pool c.pool → IsViewOf c v → Stands bytes end (text_of_body c) (length bytes) → body_at pool end ≡ Ok v
body_again bytes fits c v pool end bytes_are holds is s =
    let fits1 = subst (λ (x : List ℕ). IsBytes x) (sym bytes_are) fits in
    let here = subst (λ (x : List ℕ). Stands x end (text_of_body c) (length x)) (sym bytes_are) s in
    body_only pool fits1 c.pool holds end c.flags c.this c.super c.interfaces c.fields c.methods c.attributes v (body_of c v is) here

-- a class file is read, with its view
pub class_only : (bytes : List ℕ) (s : Option View) → IsBytes bytes → Reads bytes s → class_of bytes ≡ Ok s
unfolding class_of
class_only bytes view fits r =
    let c = r.file in
    let v = r.view in
    let is = r.is in
    let text : List ℕ = text_of_body c in
    let s = is_whole bytes (spelling c) r.spelled in
    let h = header_only bytes c.minor c.major (u2 (1 + length (slots c.pool)) ++ (flat_map constant c.pool ++ text)) (length bytes) is.minor is.from is.to s in
    let p = pool_only bytes 8 c.pool text (length bytes) is.pool h.1 in
    let body = body_again bytes fits c v p.pool p.end p.bytes_are p.holds is p.stands in
    rw (h.0, p.read_is, body) (ap (λ (x : Option View). Ok x) (shown_only v view r.shown))

-- what a reader answers
pub is_found : (bytes : List ℕ) (r : Result (Option View) (ReadError ClassFault)) → IsBytes bytes → Gives (λ v. v) r (class_of bytes) → IfOk r (λ v. Reads bytes v)
is_found bytes (Ok v) fits given = class_found bytes v fits given
is_found bytes (Err e) fits given = tt

verdict_by : (bytes : List ℕ) → IsBytes bytes → (r : Result (Option View) ClassFault) → class_of bytes ≡ r → Verdict bytes
verdict_by bytes fits (Ok v) is =
    IsRead v (class_found bytes v fits is) (λ w reads. ok_is w v (sym (class_only bytes w fits reads) ∙ is)) (λ f broken. ok_or_err v f (sym is ∙ broken))
verdict_by bytes fits (Err f) is =
    IsBroken f is (λ g broken. err_is g f (sym broken ∙ is)) (λ v reads. ok_or_err v f (sym (class_only bytes v fits reads) ∙ is))

pub verdict : (bytes : List ℕ) → IsBytes bytes → Verdict bytes
verdict bytes fits = verdict_by bytes fits (class_of bytes) refl
