-- The table of what follows opcodes, opcode by opcode.
use Rattle.std.proofs.Common.{◌≡◌, ◌==◌, ℕ, ◌+◌, ◌-◌, ◌<◌, ◌≤◌, ◌∙◌, List, length, map, get_or, Bool, true, false, ltb, ◌||◌, refl, sym, ap, arith}
use Rattle.std.specs.Prelude.{Option, Some, None, Ok, is_some, nat_le, nat_lt, if◌then◌else◌}
use Rattle.std.specs.List.{range_with_len}
use Rattle.fcg_grammar.specs.Number.{part_at}
use Rattle.std.proofs.lemmas.List.{get_or-map}
use Rattle.std.proofs.lemmas.List.FromFn.{get_or-map-range_with_len}
use Rattle.std.proofs.lemmas.Bool.{le-ltb}
use Rattle.std.proofs.lemmas.Bool.Decides.{nat_tests}
use Rattle.fcg_classfile.specs.Instructions.{Form, form_of, Fixed, Table, Lookup, Wide}
use Rattle.fcg_classfile.specs.Sites.{SiteForm, site_form, is_dynamic}
use Rattle.fcg_classfile.specs.Breaks.Instructions.{passed, formed_at, next_at}
use Rattle.fcg_classfile.proofs.InstructionPlaces.{next_at_is}
use Rattle.fcg_pool.specs.Internal.Layout.{form_of_number}
use Rattle.fcg_pool.specs.declared.instruction.TheConstants.{LAYOUTS}

all_told : map form_of_number LAYOUTS ≡ map form_of (range_with_len 0 256)
all_told = refl

pub layout_of_number : (opcode : ℕ) → opcode < 256 → form_of_number (get_or LAYOUTS opcode 0) ≡ form_of opcode
layout_of_number opcode lt =
    sym (get_or-map form_of_number LAYOUTS opcode 0 None lt) ∙ ap (λ forms. get_or forms opcode None) all_told ∙ get_or-map-range_with_len form_of 0 256 opcode opcode None lt (omega arith)

-- ---- the opcodes without a site or a call

abbrev names : ℕ → Bool
names op = is_some (site_form op) || is_dynamic op

all_numbered : map (λ n. nat_lt 8 n) LAYOUTS ≡ map names (range_with_len 0 256)
all_numbered = refl

numbered : (opcode : ℕ) → opcode < 256 → nat_lt 8 (get_or LAYOUTS opcode 0) ≡ names opcode
numbered opcode lt =
    sym (get_or-map (λ n. nat_lt 8 n) LAYOUTS opcode 0 false lt) ∙ ap (λ tests. get_or tests opcode false) all_numbered ∙ get_or-map-range_with_len names 0 256 opcode opcode false lt (omega arith)

unnamed : (opcode : ℕ) → opcode < 256 → get_or LAYOUTS opcode 0 < 5 → names opcode ≡ false
unnamed opcode lt few = sym (numbered opcode lt) ∙ small (get_or LAYOUTS opcode 0) few
  where
    small : (n : ℕ) → n < 5 → nat_lt 8 n ≡ false
    small n lt = grind (arith, nat_tests)

neither : (form : Option SiteForm) (dynamic : Bool) → (is_some form || dynamic) ≡ false → (form ≡ None) × (dynamic ≡ false)
neither None false e = (refl, refl)
neither None true e = absurd cc
neither (Some form) dynamic e = absurd cc

pub plain_site : (opcode : ℕ) → opcode < 256 → get_or LAYOUTS opcode 0 < 5 → site_form opcode ≡ None
plain_site opcode lt few = (neither (site_form opcode) (is_dynamic opcode) (unnamed opcode lt few)).0

pub plain_call : (opcode : ℕ) → opcode < 256 → get_or LAYOUTS opcode 0 < 5 → is_dynamic opcode ≡ false
plain_call opcode lt few = (neither (site_form opcode) (is_dynamic opcode) (unnamed opcode lt few)).1

-- ---- the instructions after which their opcodes tell the place

told_fixed : (n : ℕ) → n < 5 → form_of_number n ≡ Some (Fixed n)
told_fixed n lt = rw (small n lt) refl
  where
    small : (n : ℕ) → n < 5 → nat_le n 4 ≡ true
    small n lt = grind (arith, nat_tests)

passed_whole : (code : List ℕ) (at n : ℕ) → at + n ≤ length code → passed code at n ≡ Ok (at + n)
unfolding passed part_at
passed_whole code at n le =
    let within : ltb (length code) (at + n) ≡ false = le-ltb _ _ le in
    rw within refl

pub plain_next : (code : List ℕ) (at : ℕ) → at < length code → get_or code at 0 < 256 → get_or LAYOUTS (get_or code at 0) 0 < 5 → get_or LAYOUTS (get_or code at 0) 0 < length code - at
    → next_at code at ≡ Ok (at + (get_or LAYOUTS (get_or code at 0) 0 + 1))
plain_next code at lt byte few room =
    let n = get_or LAYOUTS (get_or code at 0) 0 in
    let sum : at + 1 + n ≡ at + (n + 1) = omega arith in
    next_at_is code at lt
    ∙ ap (λ (form : Option Form). formed_at code at form) (sym (layout_of_number (get_or code at 0) byte) ∙ told_fixed n few)
    ∙ passed_whole code (at + 1) n (omega (arith, room, lt))
    ∙ ap (λ (m : ℕ). Ok m) sum

-- ---- and the other way: each such instruction is told

chosen : (n : ℕ) (few table lookup wide two four : Bool) → Option Form
chosen n few table lookup wide two four =
    if few then Some (Fixed n)
    else (if table then Some Table else (if lookup then Some Lookup else (if wide then Some Wide else (if two then Some (Fixed 2) else (if four then Some (Fixed 4) else None)))))

only_few : (m n : ℕ) (few table lookup wide : Bool) → chosen m few table lookup wide false false ≡ Some (Fixed n) → (few ≡ true) × (m ≡ n)
unfolding chosen
only_few m n true table lookup wide is = (refl, cc)
only_few m n false true lookup wide is = absurd cc
only_few m n false false true wide is = absurd cc
only_few m n false false false true is = absurd cc
only_few m n false false false false is = absurd cc

told_only : (m n : ℕ) → nat_lt 8 m ≡ false → form_of_number m ≡ Some (Fixed n) → (m ≡ n) × (n < 5)
unfolding chosen
told_only m n small is =
    let two : (m == 9) ≡ false = grind (arith, nat_tests) in
    let four : (m == 10) ≡ false = grind (arith, nat_tests) in
    let few = only_few m n (nat_le m 4) (m == 5) (m == 6) (m == 7) (rw (two, four) at is) in
    let le = few.0 in
    let same = few.1 in
    let lt : m < 5 = grind (arith, nat_tests) in
    (same, omega (arith, same, lt))

-- the number of an opcode of a fixed length, without a site or call
pub plain_told : (opcode n : ℕ) → opcode < 256 → form_of opcode ≡ Some (Fixed n) → site_form opcode ≡ None → is_dynamic opcode ≡ false → (get_or LAYOUTS opcode 0 ≡ n) × (n < 5)
plain_told opcode n lt form site call =
    let unnamed : names opcode ≡ false = rw (site, call) refl in
    told_only (get_or LAYOUTS opcode 0) n (numbered opcode lt ∙ unnamed) (layout_of_number opcode lt ∙ form)
