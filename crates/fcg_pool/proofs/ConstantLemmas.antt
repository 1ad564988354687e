-- A constant that was read stands in the file.
use Rattle.std.proofs.Common.{◌≡◌, ℕ, ◌+◌, ◌≤◌, ◌<◌, List, length, get_or, Option, Some, None, true, false, refl, sym, ap, subst, ◌∙◌, ltb, arith}
use Rattle.std.specs.Prelude.{Ok}
use Rattle.std.specs.List.{list_all}
use Rattle.std.proofs.lemmas.Bool.{ltb-false, le-ltb}
use Rattle.fcg_grammar.specs.Number as number
use Rattle.fcg_grammar.specs.Number.{u1_at, u2_at, part_at}
use Rattle.fcg_grammar.proofs.LawLemmas.{bind_ok}
use Rattle.fcg_grammar.proofs.Standing.{guard_ok, ok_is}
use Rattle.fcg_classfile.specs.ClassFile.{Shape, Text, Bytes, One, Two, Kinded, shape_of, Constant, is_wide, Utf8, Plain, Named, Pair, Handle}
use Rattle.fcg_classfile.specs.Breaks.Groups.{is_single, bad_group}
use Rattle.fcg_classfile.specs.Breaks.Pool as pool
use Rattle.fcg_classfile.specs.Breaks.Pool.{grouped, shaped_at, constant_read, slot_at}
use Rattle.fcg_pool.specs.Internal.ConstantAt.{shaped_in, constant_in, slot_in, ShapeLies, Lies}
use Rattle.fcg_pool.specs.Internal.Entry.{before_first}
use Rattle.fcg_pool.proofs.GroupLemmas.{single_none}

u1_is : {E : Type 0} (cut : E) (bytes : List ℕ) (at n : ℕ) → u1_at cut bytes at ≡ Ok n → (at + 1 ≤ length bytes) × (get_or bytes at 0 ≡ n)
unfolding u1_at
u1_is cut bytes at n e =
    let g = guard_ok (ltb (length bytes) (at + 1)) cut (get_or bytes at 0) n e in
    (ltb-false _ _ g.0, g.1)

u2_is : {E : Type 0} (cut : E) (bytes : List ℕ) (at n : ℕ) → u2_at cut bytes at ≡ Ok n → (at + 2 ≤ length bytes) × (number.u2 bytes at ≡ n)
unfolding u2_at
u2_is cut bytes at n e =
    let g = guard_ok (ltb (length bytes) (at + 2)) cut (number.u2 bytes at) n e in
    (ltb-false _ _ g.0, g.1)

part_is : {E : Type 0} (cut : E) (bytes : List ℕ) (at n : ℕ) (text : List ℕ) → part_at cut bytes at n ≡ Ok text → (at + n ≤ length bytes) × (number.part bytes at n ≡ text)
unfolding part_at
part_is cut bytes at n text e =
    let g = guard_ok (ltb (length bytes) (at + n)) cut (number.part bytes at n) text e in
    (ltb-false _ _ g.0, g.1)

record IsShaped (bytes : List ℕ) (at tag : ℕ) (shape : Option Shape) (x : Constant × ℕ) : Type 0 where
  pub same : shaped_in bytes at tag shape ≡ x.0
  pub lies : ShapeLies bytes at shape
  pub within : x.1 ≤ length bytes

shaped_found : (bytes : List ℕ) (index at tag : ℕ) (shape : Option Shape) (x : Constant × ℕ) → shaped_at bytes index at tag shape ≡ Ok x → IsShaped bytes at tag shape x
unfolding shaped_at shaped_in ShapeLies
shaped_found bytes index at tag None x e = absurd cc
shaped_found bytes index at tag (Some Text) x e =
    let a = bind_ok (pool.u2_at bytes (at + 1)) _ x e in
    let b = bind_ok (pool.part_at bytes (at + 3) a.0) _ x a.2 in
    let d = bind_ok (grouped (bad_group (at + 3) b.0) index) _ x b.2 in
    let n = u2_is _ bytes (at + 1) a.0 a.1 in
    let t = part_is _ bytes (at + 3) a.0 b.0 b.1 in
    let first : at + 3 ≤ length bytes = (let l = n.0 in omega arith) in
    let second : at + 3 + number.u2 bytes (at + 1) ≤ length bytes = rw n.1 t.0 in
    subst (λ (y : Constant × ℕ). IsShaped bytes at tag (Some Text) y) (ok_is (Utf8 b.0, at + 3 + a.0) x d.2) (record {
      same = ap (λ (m : ℕ). Utf8 (number.part bytes (at + 3) m)) n.1 ∙ ap (λ (text : List ℕ). Utf8 text) t.1;
      lies = (first, second);
      within = t.0;
    })
shaped_found bytes index at tag (Some (Bytes m)) x e =
    let a = bind_ok (pool.part_at bytes (at + 1) m) _ x e in
    let t = part_is _ bytes (at + 1) m a.0 a.1 in
    subst (λ (y : Constant × ℕ). IsShaped bytes at tag (Some (Bytes m)) y) (ok_is (Plain tag a.0, at + 1 + m) x a.2) (record {
      same = ap (λ (text : List ℕ). Plain tag text) t.1;
      lies = t.0;
      within = t.0;
    })
shaped_found bytes index at tag (Some One) x e =
    let a = bind_ok (pool.u2_at bytes (at + 1)) _ x e in
    let n = u2_is _ bytes (at + 1) a.0 a.1 in
    let first : at + 3 ≤ length bytes = (let l = n.0 in omega arith) in
    subst (λ (y : Constant × ℕ). IsShaped bytes at tag (Some One) y) (ok_is (Named tag a.0, at + 3) x a.2) (record {
      same = ap (λ (i : ℕ). Named tag i) n.1;
      lies = first;
      within = first;
    })
shaped_found bytes index at tag (Some Two) x e =
    let a = bind_ok (pool.u2_at bytes (at + 1)) _ x e in
    let b = bind_ok (pool.u2_at bytes (at + 3)) _ x a.2 in
    let n = u2_is _ bytes (at + 1) a.0 a.1 in
    let m = u2_is _ bytes (at + 3) b.0 b.1 in
    let first : at + 5 ≤ length bytes = (let l = m.0 in omega arith) in
    subst (λ (y : Constant × ℕ). IsShaped bytes at tag (Some Two) y) (ok_is (Pair tag a.0 b.0, at + 5) x b.2) (record {
      same = ap (λ (i : ℕ). Pair tag i (number.u2 bytes (at + 3))) n.1 ∙ ap (λ (j : ℕ). Pair tag a.0 j) m.1;
      lies = first;
      within = first;
    })
shaped_found bytes index at tag (Some Kinded) x e =
    let a = bind_ok (pool.u1_at bytes (at + 1)) _ x e in
    let b = bind_ok (pool.u2_at bytes (at + 2)) _ x a.2 in
    let n = u1_is _ bytes (at + 1) a.0 a.1 in
    let m = u2_is _ bytes (at + 2) b.0 b.1 in
    let first : at + 4 ≤ length bytes = (let l = m.0 in omega arith) in
    subst (λ (y : Constant × ℕ). IsShaped bytes at tag (Some Kinded) y) (ok_is (Handle a.0 b.0, at + 4) x b.2) (record {
      same = ap (λ (k : ℕ). Handle k (number.u2 bytes (at + 2))) n.1 ∙ ap (λ (i : ℕ). Handle a.0 i) m.1;
      lies = first;
      within = first;
    })

-- what was read at a place is the constant that stands there, whole
pub record StandsAt (bytes : List ℕ) (at : ℕ) (x : Constant × ℕ) : Type 0 where
  pub same : constant_in bytes at ≡ x.0
  pub lies : Lies bytes at
  pub within : x.1 ≤ length bytes

pub constant_found : (bytes : List ℕ) (index at : ℕ) (x : Constant × ℕ) → constant_read bytes index at ≡ Ok x → StandsAt bytes at x
unfolding constant_read constant_in
constant_found bytes index at x e =
    let a = bind_ok (pool.u1_at bytes at) _ x e in
    let n = u1_is _ bytes at a.0 a.1 in
    let here = subst (λ (tag : ℕ). shaped_at bytes index at tag (shape_of tag) ≡ Ok x) (sym n.1) a.2 in
    let s = shaped_found bytes index at (get_or bytes at 0) (shape_of (get_or bytes at 0)) x here in
    let before : at < length bytes = (let l = n.0 in omega arith) in
    record { same = s.same; lies = record { tag = before; rest = s.lies }; within = s.within }

-- the row of an index that is not the second of a Long or Double
pub slot_is : (bytes : List ℕ) (index : ℕ) (next : pool.Next) (x : Constant × ℕ) → next.second ≡ false → constant_read bytes index next.at ≡ Ok x
    → slot_at bytes index next ≡ Ok (Some (record { tag = next.at; constant = x.0 }), record { at = x.1; second = is_wide x.0 })
unfolding slot_at
slot_is bytes index next x first read = rw (first, read) refl

-- ---- a Utf8 of single bytes

single_read : (bytes : List ℕ) (index at : ℕ) → at + 3 + number.u2 bytes (at + 1) ≤ length bytes → get_or bytes at 0 ≡ 1 → list_all is_single (number.part bytes (at + 3) (number.u2 bytes (at + 1))) ≡ true
    → constant_read bytes index at ≡ Ok (Utf8 (number.part bytes (at + 3) (number.u2 bytes (at + 1))), at + 3 + number.u2 bytes (at + 1))
unfolding constant_read shaped_at u1_at u2_at part_at
single_read bytes index at le tag single =
    let one : ltb (length bytes) (at + 1) ≡ false = le-ltb _ _ (omega arith) in
    let two : ltb (length bytes) (at + 1 + 2) ≡ false = le-ltb _ _ (omega arith) in
    let all : ltb (length bytes) (at + 3 + number.u2 bytes (at + 1)) ≡ false = le-ltb _ _ le in
    rw (one, tag, two, all, single_none (at + 3) _ single) refl

single_in : (bytes : List ℕ) (at : ℕ) → get_or bytes at 0 ≡ 1 → constant_in bytes at ≡ Utf8 (number.part bytes (at + 3) (number.u2 bytes (at + 1)))
unfolding constant_in shaped_in
single_in bytes at tag = rw tag refl

pub single_slot : (bytes : List ℕ) (index at : ℕ) → at + 3 + number.u2 bytes (at + 1) ≤ length bytes → get_or bytes at 0 ≡ 1 → list_all is_single (number.part bytes (at + 3) (number.u2 bytes (at + 1))) ≡ true
    → slot_at bytes index (before_first at) ≡ Ok (slot_in bytes (Some at), before_first (at + 3 + number.u2 bytes (at + 1)))
unfolding slot_at
single_slot bytes index at le tag single = rw (single_in bytes at tag, single_read bytes index at le tag single) refl

pub single_lies : (bytes : List ℕ) (at : ℕ) → at + 3 + number.u2 bytes (at + 1) ≤ length bytes → get_or bytes at 0 ≡ 1 → list_all is_single (number.part bytes (at + 3) (number.u2 bytes (at + 1))) ≡ true → Lies bytes at
single_lies bytes at le tag single = (constant_found bytes 0 at _ (single_read bytes 0 at le tag single)).lies
