-- The lengths of what is written.
use Rattle.std.proofs.Common.{◌≡◌, ◌⊎◌, inl, inr, ℕ, suc, ◌+◌, ◌-◌, ◌*◌, ◌<◌, ◌≤◌, ◌^◌, Bool, true, false, ◌&&◌, List, [], ◌∷◌, ◌++◌, length, map, All, replicate, length-append, refl, sym, ap, subst, ◌∙◌, arith}
use Rattle.std.specs.Prelude.{nat_le, nat_lt}
use Rattle.std.specs.List.{flat_map, list_all, AllByRecursion}
use Rattle.std.proofs.lemmas.Bool.Decides.{nat_tests}
use Rattle.std.proofs.lemmas.List.{length-replicate}
use Rattle.std.proofs.lemmas.List.Concat.{flat_map-cons}
use Rattle.std.proofs.lemmas.List.Elements.{All-from_recursion}
use Rattle.std.proofs.lemmas.List.Sums.{sum_by-cons}
use Rattle.fcg_grammar.specs.Spell.{u2}
use Rattle.fcg_views.specs.declared.view.View.{View}
use Rattle.fcg_views.specs.declared.view.Method.{Method}
use Rattle.fcg_views.specs.declared.view.Site.{Site}
use Rattle.fcg_views.specs.declared.view.SiteKind.{SiteKind}
use Rattle.fcg_views.specs.declared.view.SiteKind.TheVariants.{Virtual, Interface, Special, Static, New, StaticField, Handle}
use Rattle.fcg_classfile.specs.ClassFile.{bootstrap_method, bootstrap_info}
use Rattle.fcg_classfile.specs.Instructions.{instruction}
use Rattle.fcg_views.specs.Valid.{IsValid, site_count}
use Rattle.fcg_make.specs.declared.entry.Entry.{Entry}
use Rattle.fcg_make.specs.Entries.{index_of}
use Rattle.fcg_make.specs.Steps.{Step, is_call, is_joined, before, calls, steps_of, row_count, size_of, numbered}
use Rattle.fcg_make.specs.Needs.{rows_of}
use Rattle.fcg_make.specs.Unwritable.{is_placed_from, is_placed_method}
use Rattle.fcg_make.specs.Layout.{opcode_of, tail_of, operand_of, instruction_of, code_bytes, handle_index, row_of}
use Rattle.fcg_make.specs.Internal.Parts.{rows_part}
use Rattle.fcg_make.specs.Internal.Small.{HasFewHandles}
use Rattle.fcg_make.proofs.TableLemmas.{at_bool}
use Rattle.fcg_make.proofs.StepLemmas.{joined_by}
use Rattle.fcg_make.proofs.WriteLemmas.{code_first, length_map, rows_part_is}

pub le_true : (a b : ℕ) → nat_le a b ≡ true → a ≤ b
le_true a b e = grind (arith, nat_tests)

pub lt_true : (a b : ℕ) → nat_lt a b ≡ true → a < b
lt_true a b e = grind (arith, nat_tests)

-- ---- code

size_by : (kind : SiteKind) (i : ℕ) → length (opcode_of kind ∷ (u2 i ++ tail_of kind)) ≡ size_of kind
size_by Virtual i = refl
size_by Interface i = refl
size_by Special i = refl
size_by Static i = refl
size_by New i = refl
size_by StaticField i = refl
size_by (Handle kind) i = refl

pub instruction_size : (pool : List Entry) (row : ℕ) (s : Site) → length (instruction (instruction_of pool row s)) ≡ size_of s.kind
instruction_size pool row s = size_by s.kind (index_of pool (operand_of row s.kind s.target))

-- instructions that are placed: the first, and the others
pub record PlacedFirst (at : ℕ) (t : Step) (ts : List Step) : Type 0 where
  pub after : at ≤ t.first.pc
  pub few : HasFewHandles t
  pub others : is_placed_from (t.first.pc + size_of t.first.kind) ts ≡ true

pub placed_first : (at : ℕ) (t : Step) (ts : List Step) → is_placed_from at (t ∷ ts) ≡ true → PlacedFirst at t ts
placed_first at t ts e =
    let j = joined_by (nat_le at t.first.pc) (nat_le (length t.more) 65535) (is_placed_from (t.first.pc + size_of t.first.kind) ts) e in
    record { after = le_true at t.first.pc j.0; few = le_true (length t.more) 65535 j.1; others = j.2 }

pub code_short : (pool : List Entry) (at row : ℕ) (steps : List Step) → is_placed_from at steps ≡ true → at + length (code_bytes pool at (numbered row_count row steps)) ≤ 65535
code_short pool at row [] e = let lt = lt_true at 65535 e in omega (arith, lt)
code_short pool at row (t ∷ ts) e =
    let p = placed_first at t ts e in
    let rest : List ℕ = code_bytes pool (t.first.pc + size_of t.first.kind) (numbered row_count (row + row_count t) ts) in
    let here : List ℕ = instruction (instruction_of pool row t.first) in
    let after : (t.first.pc + size_of t.first.kind) + length rest ≤ 65535 = code_short pool (t.first.pc + size_of t.first.kind) (row + row_count t) ts p.others in
    let whole = ap (λ (bytes : List ℕ). length bytes) (code_first pool at row t (numbered row_count (row + row_count t) ts)) in
    let size = instruction_size pool row t.first in
    let le = p.after in
    omega (arith, whole, size, after, le, length-append (replicate (t.first.pc - at) 0) (here ++ rest), length-append here rest, length-replicate {A = ℕ} (t.first.pc - at) 0)

-- ---- handles

few_in_calls : (at : ℕ) (ts : List Step) → is_placed_from at ts ≡ true → AllByRecursion HasFewHandles (calls ts)
few_in_calls at [] e = tt
few_in_calls at (t ∷ ts) e = let p = placed_first at t ts e in split p.few (few_in_calls (t.first.pc + size_of t.first.kind) ts p.others) (at_bool (is_call t))
  where
    split : HasFewHandles t → AllByRecursion HasFewHandles (calls ts) → (is_call t ≡ true) ⊎ (is_call t ≡ false) → AllByRecursion HasFewHandles (calls (t ∷ ts))
    split few others (inl call) = rw call (few, others)
    split few others (inr no_call) = rw no_call others

pub all_append : {X : Type 0} (P : X → Type 0) (xs ys : List X) → AllByRecursion P xs → AllByRecursion P ys → AllByRecursion P (xs ++ ys)
all_append P [] ys a b = b
all_append P (x ∷ xs) ys a b = (a.0, all_append P xs ys a.1 b)

pub few_in_rows : (ms : List Method) → list_all is_placed_method ms ≡ true → AllByRecursion HasFewHandles (rows_of ms)
few_in_rows [] e = tt
few_in_rows (m ∷ ms) e =
    let b = both_of (is_placed_method m) (list_all is_placed_method ms) e in
    all_append HasFewHandles (calls (steps_of m.sites)) (rows_of ms) (few_in_calls 0 (steps_of m.sites) b.0) (few_in_rows ms b.1)
  where
    both_of : (a b : Bool) → (a && b) ≡ true → (a ≡ true) × (b ≡ true)
    both_of true b f = (refl, f)
    both_of false b f = absurd cc

pub few_handles : (ms : List Method) → list_all is_placed_method ms ≡ true → All HasFewHandles (rows_of ms)
few_handles ms e = All-from_recursion HasFewHandles (rows_of ms) (few_in_rows ms e)

-- ---- bootstrap methods

-- how many sites instructions have
sites_in : List Step → ℕ
sites_in [] = 0
sites_in (t ∷ ts) = suc (length t.more) + sites_in ts

sites_before : (s : Site) (ts : List Step) → sites_in (before s ts) ≡ suc (sites_in ts)
unfolding sites_in
sites_before s [] = refl
sites_before s (t ∷ ts) = split (at_bool (is_joined s t.first))
  where
    split : (is_joined s t.first ≡ true) ⊎ (is_joined s t.first ≡ false) → sites_in (before s (t ∷ ts)) ≡ suc (sites_in (t ∷ ts))
    split (inl call) = rw call (omega arith)
    split (inr other) = rw other (omega arith)

sites_of_steps : (ss : List Site) → sites_in (steps_of ss) ≡ length ss
unfolding sites_in
sites_of_steps [] = refl
sites_of_steps (s ∷ ss) = sites_before s (steps_of ss) ∙ ap suc (sites_of_steps ss)

sites_of_calls : (ts : List Step) → sites_in (calls ts) ≤ sites_in ts
unfolding sites_in
sites_of_calls [] = omega arith
sites_of_calls (t ∷ ts) = split (sites_of_calls ts) (at_bool (is_call t))
  where
    split : sites_in (calls ts) ≤ sites_in ts → (is_call t ≡ true) ⊎ (is_call t ≡ false) → sites_in (calls (t ∷ ts)) ≤ sites_in (t ∷ ts)
    split le (inl call) = rw call (omega (arith, le))
    split le (inr other) = rw other (omega (arith, le))

sites_append : (xs ys : List Step) → sites_in (xs ++ ys) ≡ sites_in xs + sites_in ys
unfolding sites_in
sites_append [] ys = omega arith
sites_append (x ∷ xs) ys = let e = sites_append xs ys in omega (arith, e)

sites_of_rows : (ms : List Method) → sites_in (rows_of ms) ≤ site_count ms
unfolding sites_in
sites_of_rows [] = omega arith
sites_of_rows (m ∷ ms) =
    let here = sites_of_calls (steps_of m.sites) in
    let all = sites_of_steps m.sites in
    let others = sites_of_rows ms in
    omega (arith, here, all, others, sites_append (calls (steps_of m.sites)) (rows_of ms), sum_by-cons (λ (x : Method). length x.sites) m ms)

two_each : (is : List ℕ) → length (flat_map u2 is) ≡ 2 * length is
two_each [] = refl
two_each (i ∷ is) = let e = two_each is in omega (arith, e, ap (λ (l : List ℕ). length l) (flat_map-cons u2 i is), length-append (u2 i) (flat_map u2 is))

row_length : (pool : List Entry) (t : Step) → length (bootstrap_method (row_of pool t)) ≡ 4 + 2 * length t.more
row_length pool t = simp length-append (let e = two_each (map (handle_index pool) t.more) in let n = length_map (handle_index pool) t.more in omega (arith, e, n))

rows_length : (pool : List Entry) (ts : List Step) → length (flat_map bootstrap_method (map (row_of pool) ts)) ≤ 4 * sites_in ts
unfolding sites_in
rows_length pool [] = omega arith
rows_length pool (t ∷ ts) =
    let here = row_length pool t in
    let others = rows_length pool ts in
    omega (arith, here, others, length-append (bootstrap_method (row_of pool t)) (flat_map bootstrap_method (map (row_of pool) ts)))

-- The content of BootstrapMethods is short, since a class has few sites.
pub short_info : (pool : List Entry) (v : View) → IsValid v → length (bootstrap_info (map (row_of pool) (rows_of v.methods))) < 2 ^ 32
short_info pool v valid =
    let all = rows_length pool (rows_of v.methods) in
    let sites = sites_of_rows v.methods in
    let few = valid.few_sites in
    simp length-append (omega (arith, all, sites, few))

pub short_rows : (pool : List Entry) (v : View) → IsValid v → length (rows_part pool (rows_of v.methods)) < 2 ^ 32
short_rows pool v valid = subst (λ (bytes : List ℕ). length bytes < 2 ^ 32) (sym (rows_part_is pool (rows_of v.methods))) (short_info pool v valid)
