-- Places in a method's code.
use Rattle.std.proofs.Common.{◌≡◌, ℕ, ◌+◌, ◌≤◌, ◌<◌, false, ltb, List, length, get_or, refl, arith}
use Rattle.std.specs.Prelude.{Result, Ok, Err, IsOk}
use Rattle.std.proofs.lemmas.Bool.{le-ltb}
use Rattle.fcg_grammar.specs.Number.{u1_at, part_at}
use Rattle.fcg_grammar.proofs.LawLemmas.{bind_ok}
use Rattle.fcg_grammar.proofs.Standing.{Stands, Stands-to, ok_is, part_found}
use Rattle.fcg_classfile.specs.declared.code.CodeRule.{CodeRule}
use Rattle.fcg_classfile.specs.declared.code.CodeRule.TheVariants.{CodeCut}
use Rattle.fcg_classfile.specs.Instructions.{form_of}
use Rattle.fcg_classfile.specs.Breaks.Instructions.{passed, formed_at, next_at}

-- an opcode that stands before the end is read
pub next_at_is : (code : List ℕ) (at : ℕ) → at < length code → next_at code at ≡ formed_at code at (form_of (get_or code at 0))
unfolding next_at u1_at
next_at_is code at lt =
    let within : ltb (length code) (at + 1) ≡ false = le-ltb _ _ (omega arith) in
    rw within refl

-- bytes that were passed stand there
pub record Passed (code : List ℕ) (at n next : ℕ) : Type 0 where
  pub text : List ℕ
  pub stands : Stands code at text next
  pub many : length text ≡ n

pub passed_found : (code : List ℕ) (at n next : ℕ) → passed code at n ≡ Ok next → Passed code at n next
unfolding passed
passed_found code at n next e =
    let a = bind_ok (part_at CodeCut code at n) _ next e in
    let text = part_found CodeCut code at n a.0 a.1 in
    record { text = a.0; stands = Stands-to next (ok_is _ next a.2) text.0; many = text.1 }

pub passed_inside : (code : List ℕ) (at n next : ℕ) → passed code at n ≡ Ok next → at + n ≤ length code
passed_inside code at n next e =
    let p = passed_found code at n next e in
    omega (arith, p.stands.within, p.stands.ends, p.many)

pub passed_room : (code : List ℕ) (at n : ℕ) → IsOk (passed code at n) → at + n ≤ length code
passed_room code at n is = by_result (passed code at n) refl is
  where
    by_result : (r : Result ℕ CodeRule) → passed code at n ≡ r → IsOk r → at + n ≤ length code
    by_result (Ok next) e is = passed_inside code at n next e
    by_result (Err rule) e is = absurd cc
