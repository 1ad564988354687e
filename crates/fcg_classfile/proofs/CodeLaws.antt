-- The code of a method: what is read is spelled so, and what is spelled so is read.
use Rattle.std.proofs.Common.{◌≡◌, ℕ, ◌+◌, ◌^◌, ◌≤◌, ◌<◌, true, eqb, leb, ◌&&◌, List, [], ◌++◌, length, refl, sym, subst, arith}
use Rattle.std.specs.Prelude.{Ok}
use Rattle.std.specs.List.{flat_map, AllByRecursion}
use Rattle.std.proofs.lemmas.Bool.{eqb-true, leb-true, and_parts}
use Rattle.std.proofs.lemmas.Bool.Decides.{nat_tests}
use Rattle.fcg_grammar.specs.Reading.{unless_broken}
use Rattle.fcg_grammar.specs.Rows.{rows}
use Rattle.fcg_grammar.specs.Spell.{IsBytes, u2, u4}
use Rattle.fcg_grammar.proofs.LawLemmas.{bind_ok, kept_ok}
use Rattle.fcg_grammar.proofs.Limits.{IsBytes-part}
use Rattle.fcg_grammar.proofs.RowLaws.{FoundRow, ReadRow, rows_found, rows_only}
use Rattle.fcg_grammar.proofs.Standing.{Stands, Stands-then, Stands-to, ok_is, whole_is, is_whole, end_is}
use Rattle.fcg_classfile.specs.declared.fault.ClassRule.TheVariants.{CodeLength, Trailing}
use Rattle.fcg_classfile.specs.ClassFile.{Constant, Attribute, attribute, Code, code_info}
use Rattle.fcg_classfile.specs.Reads.{IsCodeOf}
use Rattle.fcg_classfile.specs.Sites.{Found}
use Rattle.fcg_classfile.specs.Breaks.Fault.{fault}
use Rattle.fcg_classfile.specs.Breaks.Number.{u2_at, u4_at, part_at}
use Rattle.fcg_classfile.specs.Breaks.Pool.{Entries}
use Rattle.fcg_classfile.specs.Breaks.Attributes.{attributes_at}
use Rattle.fcg_classfile.specs.Breaks.Code.{found_of, handler_at, handlers_at, code_at}
use Rattle.fcg_classfile.specs.Tables.{Holds}
use Rattle.fcg_classfile.proofs.Places.{u2_found, u2_only, u4_found, u4_only, part_found, part_only, closed}
use Rattle.fcg_classfile.proofs.AttributeLaws.{zip_left, attributes_found, attributes_only}
use Rattle.fcg_classfile.proofs.SiteLaws.{all_found, all_only}

-- ---- the exception table
module _ (bytes : List ℕ) where
  abbrev IsRow : List ℕ → Unit {0} → Type 0
  IsRow row u = length row ≡ 8

  abbrev itself : List ℕ → List ℕ
  itself = λ row. row

  handler_found : (k at : ℕ) (x : Unit {0} × ℕ) → at ≤ length bytes → handler_at bytes k at ≡ Ok x → FoundRow bytes itself IsRow (handler_at bytes) at x.0 x.1
  unfolding handler_at
  handler_found k at x le e =
      let a = bind_ok (part_at bytes at 8 0) _ x e in
      let row = part_found bytes at 8 0 a.0 a.1 in
      subst (λ (y : Unit {0} × ℕ). FoundRow bytes itself IsRow (handler_at bytes) at y.0 y.1) (ok_is _ x a.2) (record { row = a.0; stands = row.0; meant = row.1 })

  handler_only : (k at : ℕ) (row rest : List ℕ) (after : ℕ) → length row ≡ 8 → Stands bytes at (row ++ rest) after → ReadRow bytes itself IsRow (handler_at bytes) k at row
  unfolding handler_at
  handler_only k at row rest after long s =
      let r = part_only bytes at 0 row rest after s in
      let read : part_at bytes at 8 0 ≡ Ok row = subst (λ (n : ℕ). part_at bytes at n 0 ≡ Ok row) long r.0 in
      record { value = tt; read_is = rw (read, long) refl; meant = long }

  record FoundHandlers (at after : ℕ) : Type 0 where
    table : List (List ℕ)
    stands : Stands bytes at (u2 (length table) ++ flat_map itself table) after
    few : length table < 2 ^ 16
    long : AllByRecursion (λ row. length row ≡ 8) table

  handlers_found : IsBytes bytes → (at after : ℕ) → handlers_at bytes at ≡ Ok after → FoundHandlers at after
  unfolding handlers_at
  handlers_found fits at after e =
      let a = bind_ok (u2_at bytes at 0) _ after e in
      let b = bind_ok (rows (handler_at bytes) a.0 0 (at + 2)) _ after a.2 in
      let n = u2_found bytes at 0 a.0 fits a.1 in
      let r = rows_found bytes itself IsRow (handler_at bytes) handler_found a.0 0 (at + 2) b.0 n.0.within b.1 in
      subst (λ (y : ℕ). FoundHandlers at y) (ok_is b.0.1 after b.2) (record {
        table = r.table;
        stands = subst (λ (k : ℕ). Stands bytes at (u2 k ++ flat_map itself r.table) b.0.1) (sym r.many) (Stands-then n.0 r.stands);
        few = omega (arith, r.many, n.1);
        long = zip_left IsRow (λ row. length row ≡ 8) (λ row u h. h) r.table b.0.0 r.meant;
      })

  record ReadHandlers (at : ℕ) (rest : List ℕ) (after : ℕ) : Type 0 where
    end : ℕ
    read_is : handlers_at bytes at ≡ Ok end
    stands : Stands bytes end rest after

  handlers_only : (at : ℕ) (table : List (List ℕ)) (rest : List ℕ) (after : ℕ) → length table < 2 ^ 16 → AllByRecursion (λ row. length row ≡ 8) table → Stands bytes at (u2 (length table) ++ (flat_map itself table ++ rest)) after → ReadHandlers at rest after
  unfolding handlers_at
  handlers_only at table rest after few long s =
      let n = u2_only bytes at 0 (length table) (flat_map itself table ++ rest) after few s in
      let r = rows_only bytes itself IsRow (handler_at bytes) (λ row. length row ≡ 8) handler_only 0 (at + 2) table rest after long n.1 in
      record { end = r.end; read_is = rw (n.0, r.read_is) refl; stands = r.stands }

-- ---- the content of a Code attribute

abbrev code_text : ℕ → ℕ → List ℕ → List (List ℕ) → List Attribute → List ℕ
code_text stack locals code handlers attributes =
    u2 stack ++ (u2 locals ++ (u4 (length code) ++ (code ++ (u2 (length handlers) ++ (flat_map (λ row. row) handlers ++ (u2 (length attributes) ++ (flat_map attribute attributes ++ [])))))))

code_stands : {bytes : List ℕ} {a b c d e f g : ℕ} (stack locals : ℕ) (code : List ℕ) (handlers : List (List ℕ)) (attributes : List Attribute) → Stands bytes a (u2 stack) b → Stands bytes b (u2 locals) c → Stands bytes c (u4 (length code)) d → Stands bytes d code e
    → Stands bytes e (u2 (length handlers) ++ flat_map (λ row. row) handlers) f → Stands bytes f (u2 (length attributes) ++ flat_map attribute attributes) g → Stands bytes a (code_text stack locals code handlers attributes) g
code_stands stack locals code handlers attributes s0 s1 s2 s3 s4 s5 =
    Stands-then s0 (Stands-then s1 (Stands-then s2 (Stands-then s3 (Stands-then s4 (closed (u2 (length attributes)) (flat_map attribute attributes) s5)))))

four : (at : ℕ) → at + 2 + 2 ≡ at + 4
four at = omega arith

eight : (at : ℕ) → at + 4 + 4 ≡ at + 8
eight at = omega arith

module _ (pool : Entries) (bytes_fit : IsBytes pool.bytes) (constants : List Constant) (holds : Holds pool constants) where
  pub record FoundCode (at count : ℕ) (x : Found) : Type 0 where
    pub info : Code
    pub stands : Stands pool.bytes at (code_info info) (length pool.bytes)
    pub code : IsCodeOf constants info x
    pub few : count + length x.sites ≤ 1000000

  pub code_found : (at count : ℕ) (x : Found) → count ≤ 1000000 → code_at count pool at ≡ Ok x → FoundCode at count x
  unfolding code_at
  code_found at count x le e =
      let a = bind_ok (u2_at pool.bytes at 0) _ x e in
      let b = bind_ok (u2_at pool.bytes (at + 2) 0) _ x a.2 in
      let c = bind_ok (u4_at pool.bytes (at + 4) 0) _ x b.2 in
      let d = bind_ok (unless_broken (leb 1 c.0 && leb c.0 65535) (fault (at + 4) 0 CodeLength)) _ x c.2 in
      let f = bind_ok (part_at pool.bytes (at + 8) c.0 0) _ x d.2 in
      let g = bind_ok (found_of pool (at + 8) f.0 count) _ x f.2 in
      let h = bind_ok (handlers_at pool.bytes (at + 8 + c.0)) _ x g.2 in
      let i = bind_ok (attributes_at pool h.0) _ x h.2 in
      let j = bind_ok (unless_broken (eqb (length pool.bytes) i.0) (fault i.0 0 Trailing)) _ x i.2 in
      let stack = u2_found pool.bytes at 0 a.0 bytes_fit a.1 in
      let locals = u2_found pool.bytes (at + 2) 0 b.0 bytes_fit b.1 in
      let n = u4_found pool.bytes (at + 4) 0 c.0 bytes_fit c.1 in
      let sized = and_parts (leb 1 c.0) (leb c.0 65535) (kept_ok _ _ d.0 d.1) in
      let code = part_found pool.bytes (at + 8) c.0 0 f.0 f.1 in
      let code_fits : IsBytes f.0 = IsBytes-part pool.bytes (at + 8) c.0 f.0 bytes_fit code.2 in
      let inner = all_found pool constants holds (at + 8) f.0 code_fits (1 + length f.0) 0 count g.0 le g.1 in
      let handlers = handlers_found pool.bytes bytes_fit (at + 8 + c.0) h.0 h.1 in
      let attributes = attributes_found pool bytes_fit constants holds h.0 i.0 i.1 in
      let end : length pool.bytes ≡ i.0 = eqb-true _ _ (kept_ok _ _ j.0 j.1) in
      let s1 = Stands-to (at + 4) (four at) locals.0 in
      let s2 = subst (λ (m : ℕ). Stands pool.bytes (at + 4) (u4 m) (at + 8)) (sym code.1) (Stands-to (at + 8) (eight at) n.0) in
      let last = Stands-to (length pool.bytes) (sym end) attributes.stands in
      let least : 1 ≤ c.0 = leb-true _ _ sized.0 in
      let most : c.0 ≤ 65535 = leb-true _ _ sized.1 in
      subst (λ (y : Found). FoundCode at count y) (ok_is g.0 x j.2) (record {
        info = record { stack = a.0; locals = b.0; code = f.0; handlers = handlers.table; attributes = attributes.table };
        stands = code_stands a.0 b.0 f.0 handlers.table attributes.table stack.0 s1 s2 code.0 handlers.stands last;
        code = record {
          stack = stack.1;
          locals = locals.1;
          some = omega (arith, least, code.1);
          short = omega (arith, most, code.1);
          instructions = inner.instrs;
          code = record { spelled = whole_is f.0 _ inner.stands; fit = inner.fits };
          found = inner.are;
          few_handlers = handlers.few;
          handlers = handlers.long;
          attributes = attributes.passed;
        };
        few = inner.few;
      })

  pub code_only : (at count : ℕ) (c : Code) (x : Found) → IsCodeOf constants c x → count + length x.sites ≤ 1000000 → Stands pool.bytes at (code_info c) (length pool.bytes) → code_at count pool at ≡ Ok x
  unfolding code_at
  code_only at count c x is few s =
      let end : ℕ = length pool.bytes in
      let last : List ℕ = u2 (length c.attributes) ++ (flat_map attribute c.attributes ++ []) in
      let rest : List ℕ = u2 (length c.handlers) ++ (flat_map (λ row. row) c.handlers ++ last) in
      let a = u2_only pool.bytes at 0 c.stack (u2 c.locals ++ (u4 (length c.code) ++ (c.code ++ rest))) end is.stack s in
      let b = u2_only pool.bytes (at + 2) 0 c.locals (u4 (length c.code) ++ (c.code ++ rest)) end is.locals a.1 in
      let s4 = subst (λ (n : ℕ). Stands pool.bytes n (u4 (length c.code) ++ (c.code ++ rest)) end) (four at) b.1 in
      let n = u4_only pool.bytes (at + 4) 0 (length c.code) (c.code ++ rest) end (let most = is.short in omega arith) s4 in
      let sized : (leb 1 (length c.code) && leb (length c.code) 65535) ≡ true = (let most = is.short in let least = is.some in grind (arith, nat_tests)) in
      let s8 = subst (λ (n : ℕ). Stands pool.bytes n (c.code ++ rest) end) (eight at) n.1 in
      let code = part_only pool.bytes (at + 8) 0 c.code rest end s8 in
      let inner = all_only pool constants holds (at + 8) c.code (1 + length c.code) 0 count is.instructions x (omega arith) is.code.fit is.found few (is_whole c.code _ is.code.spelled) in
      let h = handlers_only pool.bytes (at + 8 + length c.code) c.handlers last end is.few_handlers is.handlers code.1 in
      let k = attributes_only pool bytes_fit constants holds h.end c.attributes [] end is.attributes h.stands in
      let ended = end_is pool.bytes k.end k.stands in
      rw (a.0, b.0, n.0, sized, code.0, inner, h.read_is, k.read_is, ended) refl
