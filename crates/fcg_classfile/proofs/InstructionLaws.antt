-- Instructions: what is read is spelled so, and what is spelled so is read.
use Rattle.std.proofs.Common.{◌≡◌, ℕ, zero, suc, ◌+◌, ◌*◌, ◌^◌, ◌≤◌, ◌<◌, Bool, true, false, cond, eqb, leb, ltb, List, [], ◌∷◌, ◌++◌, length, get_or, Option, Some, None, refl, sym, ap, subst, ◌∙◌, append_assoc, inl, inr, arith}
use Rattle.std.specs.Prelude.{Result, Ok, Err, count_by, is_some}
use Rattle.std.specs.List.{flat_map}
use Rattle.std.proofs.lemmas.Bool.{agree_below_at, eqb-true, leb-true, ltb-true, lt-ltb, le-leb}
use Rattle.std.proofs.lemmas.Bool.Decides.{nat_tests}
use Rattle.std.proofs.lemmas.List.{length-append}
use Rattle.std.proofs.lemmas.List.Concat.{flat_map-cons}
use Rattle.fcg_grammar.specs.Reading.{◌>>=◌, unless_broken}
use Rattle.fcg_grammar.specs.Number as number
use Rattle.fcg_grammar.specs.Number.{u1_at, u2_at, u4_at, part_at}
use Rattle.fcg_grammar.specs.Spell.{IsBytes, u2, u4}
use Rattle.fcg_grammar.proofs.LawLemmas.{bind_ok, chosen, kept_ok, ok_or_err, err_is}
use Rattle.fcg_grammar.proofs.FaultLaws.{bind_err}
use Rattle.fcg_grammar.proofs.Standing.{Stands, Stands-none, Stands-then, Stands-back, Stands-to, guard_ok, ok_is, u1_found, u1_only, u2_only, u4_found, u4_only, part_only, whole_is, is_whole}
use Rattle.fcg_classfile.specs.declared.code.CodeRule.{CodeRule}
use Rattle.fcg_classfile.specs.declared.code.CodeRule.TheVariants.{CodeCut, BadSwitch}
use Rattle.fcg_classfile.specs.Instructions.{Form, Fixed, Table, Lookup, Wide, is_in_any, forms, form_of, wide_of, pad_of, moved_up, offset_count, Instruction, Plain, TableSwitch, LookupSwitch, Widened, instruction, FitsAt, FitFrom, starts, IsCode}
use Rattle.fcg_classfile.proofs.InstructionPlaces.{passed_found}
use Rattle.fcg_classfile.specs.Breaks.Instructions.{passed, table_at, lookup_at, widened_at, wide_at, formed_at, next_at, operand_at, broken_at, starts_at, starts_of}

-- ---- places

passed_only : (code : List ℕ) (at n : ℕ) (text rest : List ℕ) (after : ℕ) → length text ≡ n → Stands code at (text ++ rest) after → (passed code at n ≡ Ok (at + n)) × Stands code (at + n) rest after
unfolding passed
passed_only code at n text rest after len s =
    let p = part_only CodeCut code at text rest after s in
    let read : part_at CodeCut code at n ≡ Ok text = subst (λ (k : ℕ). part_at CodeCut code at k ≡ Ok text) len p.0 in
    (rw read refl, subst (λ (k : ℕ). Stands code (at + k) rest after) len p.1)

Stands-from : {code : List ℕ} {a : ℕ} {x : List ℕ} {b : ℕ} (c : ℕ) → a ≡ c → Stands code a x b → Stands code c x b
Stands-from {code} {a} {x} {b} c e s = subst (λ (n : ℕ). Stands code n x b) e s

next_four : (at : ℕ) → at + 4 + 4 ≡ at + 8
next_four at = omega arith

last_four : (at : ℕ) → at + 8 + 4 ≡ at + 12
last_four at = omega arith

-- ---- what is read is spelled so
module _ (code : List ℕ) where
  pub record FoundAt (at next : ℕ) : Type 0 where
    pub instr : Instruction
    pub stands : Stands code at (instruction instr) next
    pub fits : FitsAt at instr

  -- what a switch has after its padding
  record FoundTable (at next : ℕ) : Type 0 where
    default : ℕ
    low : ℕ
    high : ℕ
    offsets : List ℕ
    stands : Stands code at (u4 default ++ (u4 low ++ (u4 high ++ offsets))) next
    fits : (default < 2 ^ 32) × (low < 2 ^ 32) × (high < 2 ^ 32) × (moved_up low ≤ moved_up high) × (length offsets ≡ 4 * offset_count low high)

  record FoundLookup (at next : ℕ) : Type 0 where
    default : ℕ
    count : ℕ
    pairs : List ℕ
    stands : Stands code at (u4 default ++ (u4 count ++ pairs)) next
    fits : (default < 2 ^ 32) × (count < 2 ^ 31) × (length pairs ≡ 8 * count)

  record FoundWide (at next : ℕ) : Type 0 where
    inner : ℕ
    operands : List ℕ
    stands : Stands code at (inner ∷ operands) next
    fits : wide_of inner ≡ Some (length operands)

  table_stands : (at next default low high : ℕ) (offsets : List ℕ) → Stands code at (u4 default) (at + 4) → Stands code (at + 4) (u4 low) (at + 4 + 4) → Stands code (at + 8) (u4 high) (at + 8 + 4) → Stands code (at + 12) offsets next → Stands code at (u4 default ++ (u4 low ++ (u4 high ++ offsets))) next
  table_stands at next default low high offsets d l h o = Stands-then d (Stands-then (Stands-to (at + 8) (next_four at) l) (Stands-then (Stands-to (at + 12) (last_four at) h) o))

  lookup_stands : (at next default count : ℕ) (pairs : List ℕ) → Stands code at (u4 default) (at + 4) → Stands code (at + 4) (u4 count) (at + 4 + 4) → Stands code (at + 8) pairs next → Stands code at (u4 default ++ (u4 count ++ pairs)) next
  lookup_stands at next default count pairs d n o = Stands-then d (Stands-then (Stands-to (at + 8) (next_four at) n) o)

  table_found : IsBytes code → (at next : ℕ) → table_at code at ≡ Ok next → FoundTable at next
  unfolding table_at
  table_found fits at next e =
      let a = bind_ok (u4_at CodeCut code at) _ next e in
      let b = bind_ok (u4_at CodeCut code (at + 4)) _ next a.2 in
      let c = bind_ok (u4_at CodeCut code (at + 8)) _ next b.2 in
      let d = bind_ok (unless_broken (leb (moved_up b.0) (moved_up c.0)) BadSwitch) _ next c.2 in
      let default = u4_found CodeCut code at a.0 fits a.1 in
      let low = u4_found CodeCut code (at + 4) b.0 fits b.1 in
      let high = u4_found CodeCut code (at + 8) c.0 fits c.1 in
      let rest = passed_found code (at + 12) (4 * offset_count b.0 c.0) next d.2 in
      record {
        default = a.0;
        low = b.0;
        high = c.0;
        offsets = rest.text;
        stands = table_stands at next a.0 b.0 c.0 rest.text default.0 low.0 high.0 rest.stands;
        fits = (default.1, low.1, high.1, leb-true _ _ (kept_ok _ BadSwitch d.0 d.1), rest.many);
      }

  lookup_found : IsBytes code → (at next : ℕ) → lookup_at code at ≡ Ok next → FoundLookup at next
  unfolding lookup_at
  lookup_found fits at next e =
      let a = bind_ok (u4_at CodeCut code at) _ next e in
      let b = bind_ok (u4_at CodeCut code (at + 4)) _ next a.2 in
      let c = bind_ok (unless_broken (ltb b.0 (2 ^ 31)) BadSwitch) _ next b.2 in
      let default = u4_found CodeCut code at a.0 fits a.1 in
      let count = u4_found CodeCut code (at + 4) b.0 fits b.1 in
      let rest = passed_found code (at + 8) (8 * b.0) next c.2 in
      record {
        default = a.0;
        count = b.0;
        pairs = rest.text;
        stands = lookup_stands at next a.0 b.0 rest.text default.0 count.0 rest.stands;
        fits = (default.1, ltb-true b.0 (2 ^ 31) (kept_ok _ BadSwitch c.0 c.1), rest.many);
      }

  widened_found : (at inner next : ℕ) (w : Option ℕ) → wide_of inner ≡ w → Stands code at (inner ∷ []) (at + 1) → widened_at code at w ≡ Ok next → FoundWide at next
  widened_found at inner next None is s e = absurd cc
  widened_found at inner next (Some n) is s e =
      let p = passed_found code (at + 1) n next e in
      record { inner = inner; operands = p.text; stands = Stands-then s p.stands; fits = is ∙ ap (λ (k : ℕ). Some k) (sym p.many) }

  wide_found : (at next : ℕ) → wide_at code at ≡ Ok next → FoundWide at next
  unfolding wide_at
  wide_found at next e =
      let a = bind_ok (u1_at CodeCut code at) _ next e in
      widened_found at a.0 next (wide_of a.0) refl (u1_found CodeCut code at a.0 a.1) a.2

  formed_found : IsBytes code → (at op : ℕ) (form : Option Form) (x : ℕ) → form_of op ≡ form → Stands code at (op ∷ []) (at + 1) → formed_at code at form ≡ Ok x → FoundAt at x
  formed_found fits at op None x is s e = absurd cc
  formed_found fits at op (Some (Fixed n)) x is s e =
      let p = passed_found code (at + 1) n x e in
      record { instr = Plain op p.text; stands = Stands-then s p.stands; fits = is ∙ ap (λ (k : ℕ). Some (Fixed k)) (sym p.many) }
  formed_found fits at op (Some Table) x is s e =
      let a = bind_ok (passed code (at + 1) (pad_of at)) (table_at code) x e in
      let pad = passed_found code (at + 1) (pad_of at) a.0 a.1 in
      let t = table_found fits a.0 x a.2 in
      record {
        instr = TableSwitch op pad.text t.default t.low t.high t.offsets;
        stands = Stands-then s (Stands-then pad.stands t.stands);
        fits = (is, pad.many, t.fits.0, t.fits.1, t.fits.2, t.fits.3, t.fits.4);
      }
  formed_found fits at op (Some Lookup) x is s e =
      let a = bind_ok (passed code (at + 1) (pad_of at)) (lookup_at code) x e in
      let pad = passed_found code (at + 1) (pad_of at) a.0 a.1 in
      let t = lookup_found fits a.0 x a.2 in
      record {
        instr = LookupSwitch op pad.text t.default t.count t.pairs;
        stands = Stands-then s (Stands-then pad.stands t.stands);
        fits = (is, pad.many, t.fits.0, t.fits.1, t.fits.2);
      }
  formed_found fits at op (Some Wide) x is s e =
      let w = wide_found (at + 1) x e in
      record { instr = Widened op w.inner w.operands; stands = Stands-then s w.stands; fits = (is, w.fits) }

  pub next_found : IsBytes code → (at x : ℕ) → next_at code at ≡ Ok x → FoundAt at x
  unfolding next_at
  next_found fits at x e =
      let a = bind_ok (u1_at CodeCut code at) _ x e in
      formed_found fits at a.0 (form_of a.0) x refl (u1_found CodeCut code at a.0 a.1) a.2

pub some_byte : (i : Instruction) → 0 < length (instruction i)
some_byte (Plain op operands) = omega arith
some_byte (TableSwitch op pad default low high offsets) = omega arith
some_byte (LookupSwitch op pad default count pairs) = omega arith
some_byte (Widened op inner operands) = omega arith

-- the next place is above, and in the code or its end
pub next_inside : (code : List ℕ) → IsBytes code → (at x : ℕ) → next_at code at ≡ Ok x → (at < x) × (x ≤ length code)
next_inside code fits at x e =
    let f = next_found code fits at x e in
    let some = some_byte f.instr in
    (omega (arith, f.stands.ends, some), f.stands.within)

-- ---- what is spelled so is read
twelve : (l : List ℕ) → suc (suc (suc (suc (suc (suc (suc (suc (suc (suc (suc (suc (length l)))))))))))) ≡ 12 + length l
twelve l = omega arith

eight : (l : List ℕ) → suc (suc (suc (suc (suc (suc (suc (suc (length l)))))))) ≡ 8 + length l
eight l = omega arith

below_more : (n : ℕ) → n < 2 ^ 31 → n < 2 ^ 32
below_more n lt = omega arith

table_ends : (at : ℕ) (pad offsets y : List ℕ) (n m : ℕ) → length pad ≡ n → length offsets ≡ m → length y ≡ 12 + length offsets → at + 1 + n + 12 + m ≡ at + suc (length (pad ++ y))
table_ends at pad offsets y n m p o l = omega (arith, length-append pad y)

lookup_ends : (at : ℕ) (pad pairs y : List ℕ) (n m : ℕ) → length pad ≡ n → length pairs ≡ m → length y ≡ 8 + length pairs → at + 1 + n + 8 + m ≡ at + suc (length (pad ++ y))
lookup_ends at pad pairs y n m p o l = omega (arith, length-append pad y)

module _ (code : List ℕ) where
  table_only : (at default low high : ℕ) (offsets rest : List ℕ) (after : ℕ) → default < 2 ^ 32 → low < 2 ^ 32 → high < 2 ^ 32 → moved_up low ≤ moved_up high → length offsets ≡ 4 * offset_count low high → Stands code at (u4 default ++ (u4 low ++ (u4 high ++ (offsets ++ rest)))) after → table_at code at ≡ Ok (at + 12 + 4 * offset_count low high)
  unfolding table_at
  table_only at default low high offsets rest after d-fits l-fits h-fits in_order many s =
      let d = u4_only CodeCut code at default (u4 low ++ (u4 high ++ (offsets ++ rest))) after d-fits s in
      let l = u4_only CodeCut code (at + 4) low (u4 high ++ (offsets ++ rest)) after l-fits d.1 in
      let h = u4_only CodeCut code (at + 8) high (offsets ++ rest) after h-fits (Stands-from (at + 8) (next_four at) l.1) in
      let ordered = le-leb (moved_up low) (moved_up high) in_order in
      let o = passed_only code (at + 12) (4 * offset_count low high) offsets rest after many (Stands-from (at + 12) (last_four at) h.1) in
      rw (d.0, l.0, h.0, ordered, o.0) refl

  lookup_only : (at default count : ℕ) (pairs rest : List ℕ) (after : ℕ) → default < 2 ^ 32 → count < 2 ^ 31 → length pairs ≡ 8 * count → Stands code at (u4 default ++ (u4 count ++ (pairs ++ rest))) after → lookup_at code at ≡ Ok (at + 8 + 8 * count)
  unfolding lookup_at
  lookup_only at default count pairs rest after d-fits few many s =
      let d = u4_only CodeCut code at default (u4 count ++ (pairs ++ rest)) after d-fits s in
      let n = u4_only CodeCut code (at + 4) count (pairs ++ rest) after (below_more count few) d.1 in
      let signed = lt-ltb count (2 ^ 31) few in
      let o = passed_only code (at + 8) (8 * count) pairs rest after many (Stands-from (at + 8) (next_four at) n.1) in
      rw (d.0, n.0, signed, o.0) refl

  wide_only : (at inner : ℕ) (operands rest : List ℕ) (after : ℕ) → wide_of inner ≡ Some (length operands) → Stands code at (inner ∷ (operands ++ rest)) after → wide_at code at ≡ Ok (at + 1 + length operands)
  unfolding wide_at
  wide_only at inner operands rest after is s =
      let first = u1_only CodeCut code at inner (operands ++ rest) after s in
      let t = passed_only code (at + 1) (length operands) operands rest after refl first.1 in
      rw (first.0, is, t.0) refl

  pub next_only : (at : ℕ) (i : Instruction) (rest : List ℕ) (after : ℕ) → FitsAt at i → Stands code at (instruction i ++ rest) after → next_at code at ≡ Ok (at + length (instruction i))
  unfolding next_at
  next_only at (Plain op operands) rest after fits s =
      let first = u1_only CodeCut code at op (operands ++ rest) after s in
      let t = passed_only code (at + 1) (length operands) operands rest after refl first.1 in
      let ends : at + 1 + length operands ≡ at + length (op ∷ operands) = omega arith in
      rw (first.0, fits, t.0, ends) refl
  next_only at (TableSwitch op pad default low high offsets) rest after fits s =
      let y : List ℕ = u4 default ++ (u4 low ++ (u4 high ++ offsets)) in
      let first = u1_only CodeCut code at op ((pad ++ y) ++ rest) after s in
      let t = passed_only code (at + 1) (pad_of at) pad (y ++ rest) after fits.1 (subst (λ (l : List ℕ). Stands code (at + 1) l after) (append_assoc pad y rest) first.1) in
      let body = table_only (at + 1 + pad_of at) default low high offsets rest after fits.2 fits.3 fits.4 fits.5 fits.6 t.1 in
      rw (first.0, fits.0, t.0, body, table_ends at pad offsets y _ _ fits.1 fits.6 (twelve offsets)) refl
  next_only at (LookupSwitch op pad default count pairs) rest after fits s =
      let y : List ℕ = u4 default ++ (u4 count ++ pairs) in
      let first = u1_only CodeCut code at op ((pad ++ y) ++ rest) after s in
      let t = passed_only code (at + 1) (pad_of at) pad (y ++ rest) after fits.1 (subst (λ (l : List ℕ). Stands code (at + 1) l after) (append_assoc pad y rest) first.1) in
      let body = lookup_only (at + 1 + pad_of at) default count pairs rest after fits.2 fits.3 fits.4 t.1 in
      rw (first.0, fits.0, t.0, body, lookup_ends at pad pairs y _ _ fits.1 fits.4 (eight pairs)) refl
  next_only at (Widened op inner operands) rest after fits s =
      let first = u1_only CodeCut code at op (inner ∷ (operands ++ rest)) after s in
      let body = wide_only (at + 1) inner operands rest after fits.1 first.1 in
      let ends : at + 1 + 1 + length operands ≡ at + length (op ∷ inner ∷ operands) = omega arith in
      rw (first.0, fits.0, body, ends) refl

-- ---- the whole code
pub stands_first : (code : List ℕ) (at next end : ℕ) (i : Instruction) (is : List Instruction) → Stands code at (instruction i) next → Stands code next (flat_map instruction is) end → Stands code at (flat_map instruction (i ∷ is)) end
stands_first code at next end i is s t = rw flat_map-cons (Stands-then s t)

module _ (code : List ℕ) where
  pub record FoundFrom (at : ℕ) (places : List ℕ) : Type 0 where
    pub instrs : List Instruction
    pub stands : Stands code at (flat_map instruction instrs) (length code)
    pub fits : FitFrom at instrs
    pub starts_are : places ≡ starts at instrs

  read_ok : {A : Type 0} (at : ℕ) (r : Result A CodeRule) (x : A) → broken_at at r ≡ Ok x → r ≡ Ok x
  read_ok at (Ok y) x e = ap (λ (z : _). Ok z) (ok_is y x e)
  read_ok at (Err rule) x e = absurd cc

  found_from : IsBytes code → (fuel at : ℕ) (x : List ℕ) → starts_at code fuel at ≡ Ok x → FoundFrom at x
  unfolding starts_at
  found_from fits zero at x e = absurd cc
  found_from fits (suc fuel) at x e =
      elim (chosen (eqb (length code) at) _ _ _ e) [
        | inl end ↦ (
            let here : length code ≡ at = eqb-true _ _ end.0 in
            subst (λ (y : List ℕ). FoundFrom at y) (ok_is [] x end.1) (record { instrs = []; stands = Stands-from at here (Stands-none code (length code) (omega arith)); fits = tt; starts_are = refl })
            )
        | inr more ↦ (
            let a = bind_ok (broken_at at (next_at code at)) _ x more.1 in
            let b = bind_ok (starts_at code fuel a.0) _ x a.2 in
            let first = next_found code fits at a.0 (read_ok at (next_at code at) a.0 a.1) in
            let others = found_from fits fuel a.0 b.0 b.1 in
            let next : a.0 ≡ at + length (instruction first.instr) = first.stands.ends in
            subst (λ (y : List ℕ). FoundFrom at y) (ok_is (at ∷ b.0) x b.2) (record {
              instrs = first.instr ∷ others.instrs;
              stands = stands_first code at a.0 (length code) first.instr others.instrs first.stands others.stands;
              fits = (first.fits, subst (λ (n : ℕ). FitFrom n others.instrs) next others.fits);
              starts_are = ap (λ (l : List ℕ). at ∷ l) (others.starts_are ∙ ap (λ (n : ℕ). starts n others.instrs) next);
            })
            )
      ]

  pub not_end : (at n m len : ℕ) → 0 < n → len ≡ at + n + m → eqb len at ≡ false
  not_end at n m len some e = grind (arith, nat_tests)

  pub further : (len fuel at n : ℕ) → len < suc fuel + at → 0 < n → len < fuel + (at + n)
  further len fuel at n lt some = omega arith

  only_from : (fuel at : ℕ) (is : List Instruction) → length code < fuel + at → FitFrom at is → Stands code at (flat_map instruction is) (length code) → starts_at code fuel at ≡ Ok (starts at is)
  unfolding starts_at
  only_from zero at is lt fit s = let within = s.ends in absurd (omega arith)
  only_from (suc fuel) at [] lt fit s =
      let here : eqb (length code) at ≡ true = (let e = s.ends in grind (arith, nat_tests)) in
      rw here refl
  only_from (suc fuel) at (i ∷ is) lt fit s =
      let here = subst (λ (l : List ℕ). Stands code at l (length code)) (flat_map-cons instruction i is) s in
      let some = some_byte i in
      let rest = Stands-back (instruction i) (flat_map instruction is) here in
      let more : eqb (length code) at ≡ false = not_end at (length (instruction i)) (length (flat_map instruction is)) (length code) some rest.ends in
      let next = next_only code at i (flat_map instruction is) (length code) fit.0 here in
      let below : length code < fuel + (at + length (instruction i)) = further (length code) fuel at (length (instruction i)) lt some in
      rw (more, next, only_from fuel (at + length (instruction i)) is below fit.1 rest) refl

-- the starts that are read are those of instructions that the code is
pub code_found : (code places : List ℕ) → IsBytes code → starts_of code ≡ Ok places → (is : List Instruction) × IsCode code is × (starts 0 is ≡ places)
code_found code places fits e =
    let f = found_from code fits (1 + length code) 0 places e in
    (f.instrs, record { spelled = whole_is code _ f.stands; fit = f.fits }, sym f.starts_are)

pub code_only : (code : List ℕ) (is : List Instruction) → IsCode code is → starts_of code ≡ Ok (starts 0 is)
code_only code is c = only_from code (1 + length code) 0 is (omega arith) c.fit (is_whole code _ c.spelled)

-- a code has one list of starts
pub starts_one : (code : List ℕ) (is js : List Instruction) → IsCode code is → IsCode code js → starts 0 is ≡ starts 0 js
starts_one code is js c d = ok_is _ _ (sym (code_only code is c) ∙ code_only code js d)

-- ---- one step of the reading, without the number that bounds the steps

-- the starts from a place on, where the next place is read
abbrev pub from_next : List ℕ → ℕ → ℕ → Result ℕ CodeRule → Result (List ℕ) (ℕ × CodeRule)
from_next code fuel at next = broken_at at next >>= λ place. starts_at code fuel place >>= λ others. Ok (at ∷ others)

module _ (code : List ℕ) (fits : IsBytes code) where
  same_next : (f g at : ℕ) → ((next : ℕ) → at < next → next ≤ length code → starts_at code f next ≡ starts_at code g next) → (r : Result ℕ CodeRule) → next_at code at ≡ r → from_next code f at r ≡ from_next code g at r
  same_next f g at same (Err rule) e = refl
  same_next f g at same (Ok next) e =
      let i = next_inside code fits at next e in
      ap (λ (r : Result (List ℕ) (ℕ × CodeRule)). r >>= λ others. Ok (at ∷ others)) (same next i.0 i.1)

  same_choice : (f g at : ℕ) → ((next : ℕ) → at < next → next ≤ length code → starts_at code f next ≡ starts_at code g next) → (b : Bool) → cond b (Ok []) (from_next code f at (next_at code at)) ≡ cond b (Ok []) (from_next code g at (next_at code at))
  same_choice f g at same true = refl
  same_choice f g at same false = same_next f g at same (next_at code at) refl

  -- the bound makes no difference where it is large enough
  pub same_starts : (f g at : ℕ) → length code < f + at → length code < g + at → at ≤ length code → starts_at code f at ≡ starts_at code g at
  unfolding starts_at
  same_starts zero g at lf lg le = absurd (omega arith)
  same_starts (suc f) zero at lf lg le = absurd (omega arith)
  same_starts (suc f) (suc g) at lf lg le = same_choice f g at (λ next lt below. same_starts f g next (omega arith) (omega arith) below) (eqb (length code) at)

  pub starts_end : starts_at code (1 + length code) (length code) ≡ Ok []
  unfolding starts_at
  starts_end =
      let n : 1 + length code ≡ suc (length code) = omega arith in
      let end : eqb (length code) (length code) ≡ true = grind (arith, nat_tests) in
      rw (n, end) refl

  pub starts_step : (at : ℕ) → at < length code → starts_at code (1 + length code) at ≡ from_next code (1 + length code) at (next_at code at)
  unfolding starts_at
  starts_step at lt =
      let n : 1 + length code ≡ suc (length code) = omega arith in
      let more : eqb (length code) at ≡ false = grind (arith, nat_tests) in
      let same = same_next (length code) (1 + length code) at (λ next above below. same_starts (length code) (1 + length code) next (omega arith) (omega arith) below) (next_at code at) refl in
      subst (λ (k : ℕ). starts_at code k at ≡ from_next code (1 + length code) at (next_at code at)) (sym n) (rw more same)

-- ---- the first fault

-- an instruction breaks a rule, and all before it are spelled by the grammar
pub record BrokenFrom (code : List ℕ) (at : ℕ) (f : ℕ × CodeRule) : Type 0 where
  pub before : List Instruction
  pub stands : Stands code at (flat_map instruction before) f.0
  pub fits : FitFrom at before
  pub within : f.0 < length code
  pub broken : next_at code f.0 ≡ Err f.1

module _ (code : List ℕ) where
  read_err : (at : ℕ) (r : Result ℕ CodeRule) (f : ℕ × CodeRule) → broken_at at r ≡ Err f → (r ≡ Err f.1) × (at ≡ f.0)
  read_err at (Ok x) f e = absurd cc
  read_err at (Err rule) f e =
      let same : (at, rule) ≡ f = err_is {A = ℕ} (at, rule) f e in
      (ap (λ (g : ℕ × CodeRule). Err g.1) same, ap (λ (g : ℕ × CodeRule). g.0) same)

  before_end : (len at : ℕ) → at ≤ len → eqb len at ≡ false → at < len
  before_end len at le e = grind (arith, nat_tests)

  broken_from : IsBytes code → (fuel at : ℕ) (f : ℕ × CodeRule) → length code < fuel + at → at ≤ length code → starts_at code fuel at ≡ Err f → BrokenFrom code at f
  unfolding starts_at
  broken_from fits zero at f lt le e = absurd (omega arith)
  broken_from fits (suc fuel) at f lt le e =
      elim (chosen (eqb (length code) at) _ _ _ e) [
        | inl end ↦ absurd (ok_or_err [] f end.1)
        | inr more ↦ elim (bind_err (broken_at at (next_at code at)) _ f more.1) [
          | inl here ↦ (
              let b = read_err at (next_at code at) f here in
              subst (λ (g : ℕ × CodeRule). BrokenFrom code at g) (ap (λ (n : ℕ). (n, f.1)) b.1) (record { before = []; stands = Stands-none code at le; fits = tt; within = before_end (length code) at le more.0; broken = b.0 })
              )
          | inr there ↦ elim (bind_err (starts_at code fuel there.0) _ f there.2) [
            | inl below ↦ (
                let first = next_found code fits at there.0 (read_ok code at (next_at code at) there.0 there.1) in
                let some = some_byte first.instr in
                let next : there.0 ≡ at + length (instruction first.instr) = first.stands.ends in
                let still : length code < fuel + there.0 = subst (λ (n : ℕ). length code < fuel + n) (sym next) (further code (length code) fuel at (length (instruction first.instr)) lt some) in
                let others = broken_from fits fuel there.0 f still first.stands.within below in
                record {
                  before = first.instr ∷ others.before;
                  stands = stands_first code at there.0 f.0 first.instr others.before first.stands others.stands;
                  fits = (first.fits, subst (λ (n : ℕ). FitFrom n others.before) next others.fits);
                  within = others.within;
                  broken = others.broken;
                }
                )
            | inr none ↦ absurd (ok_or_err (at ∷ none.0) f none.2)
          ]
        ]
      ]

-- what a code breaks first is told at the opcode of the first instruction that breaks a rule
pub code_broken : (code : List ℕ) (f : ℕ × CodeRule) → IsBytes code → starts_of code ≡ Err f → BrokenFrom code 0 f
code_broken code f fits e = broken_from code fits (1 + length code) 0 f (omega arith) (omega arith) e

-- and then it is no code
pub broken_none : (code : List ℕ) (f : ℕ × CodeRule) (is : List Instruction) → starts_of code ≡ Err f → IsCode code is → ⊥
broken_none code f is e c = ok_or_err _ f (sym (code_only code is c) ∙ e)

-- ---- the opcode and its operand

pub opcode_is : (code : List ℕ) (at op : ℕ) (rest : List ℕ) (after : ℕ) → Stands code at (op ∷ rest) after → get_or code at 0 ≡ op
unfolding u1_at
opcode_is code at op rest after s =
    let read = u1_only CodeCut code at op rest after s in
    (guard_ok (ltb (length code) (at + 1)) CodeCut (get_or code at 0) op read.0).1

two_more : (more : List ℕ) → leb 2 (suc (suc (length more))) ≡ true
two_more more = le-leb _ _ (omega arith)

-- an operand of two bytes is the number that they spell
pub operand_is : (code : List ℕ) (at op n : ℕ) (more rest : List ℕ) (after : ℕ) → n < 2 ^ 16 → FitsAt at (Plain op (u2 n ++ more)) → Stands code at (instruction (Plain op (u2 n ++ more)) ++ rest) after → operand_at code at ≡ n
unfolding u2_at
operand_is code at op n more rest after lt fits s =
    let is = opcode_is code at op (u2 n ++ (more ++ rest)) after s in
    let first = u1_only CodeCut code at op (u2 n ++ (more ++ rest)) after s in
    let read = u2_only CodeCut code (at + 1) n (more ++ rest) after lt first.1 in
    let value = (guard_ok (ltb (length code) (at + 1 + 2)) CodeCut (number.u2 code (at + 1)) n read.0).1 in
    rw (is, fits, two_more more) value

-- ---- the table of the forms

-- one row has each opcode up to 201, and none the others
pub table_is_whole : (op : ℕ) → op < 256 → count_by (λ r. is_in_any r.1 op) forms ≡ cond (ltb op 202) 1 0
table_is_whole op lt =
    let rows : ℕ → Bool = λ n. eqb (count_by (λ r. is_in_any r.1 n) forms) (cond (ltb n 202) 1 0) in
    eqb-true _ _ (agree_below_at rows (λ n. true) 256 op refl lt)

-- an opcode has a form exactly up to 201
pub form_up_to : (op : ℕ) → op < 256 → is_some (form_of op) ≡ ltb op 202
form_up_to op lt = agree_below_at (λ n. is_some (form_of n)) (λ n. ltb n 202) 256 op refl lt
