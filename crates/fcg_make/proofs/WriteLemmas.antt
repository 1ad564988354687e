-- What is written, in pieces.
use Rattle.std.proofs.Common.{◌≡◌, ℕ, zero, suc, ◌+◌, ◌-◌, ◌<◌, ◌≤◌, List, [], ◌∷◌, ◌++◌, append_assoc, length, take, drop, drop-cons, get_or, replicate, map, add-one, length-append, true, false, Bool, eqb, ◌⊎◌, inl, inr, refl, sym, ap, subst, ◌∙◌, arith}
use Rattle.std.specs.Prelude.{codes}
use Rattle.std.specs.List.{flat_map, AllByRecursion}
use Rattle.std.proofs.Math.Seq.{take-suc}
use Rattle.std.proofs.lemmas.List.Folds.{flat_map-map}
use Rattle.std.proofs.lemmas.List.{append-nil}
use Rattle.std.proofs.lemmas.Grind.{flat_map-append}
use Rattle.fcg_views.specs.declared.view.Site.{Site}
use Rattle.fcg_grammar.specs.Spell.{u2, u4}
use Rattle.fcg_views.specs.declared.view.Method.{Method}
use Rattle.fcg_classfile.specs.ClassFile.{attribute, code_info, bootstrap_method, bootstrap_info, member_info}
use Rattle.fcg_classfile.specs.Instructions.{instruction}
use Rattle.fcg_make.specs.declared.entry.Entry.{Entry}
use Rattle.fcg_make.specs.Steps.{Step, is_handle, is_call, calls, steps_of, row_count, method_rows, size_of, numbered}
use Rattle.fcg_make.specs.Layout.{nop, instruction_of, instructions_from, code_bytes, text_index, code_attributes, method_of, handle_index, row_of, class_attributes}
use Rattle.fcg_make.specs.Internal.Parts.{with_code, code_part, code_attributes_part, method_part, row_part, rows_part, class_attributes_part}
use Rattle.fcg_make.proofs.TableLemmas.{at_bool}
use Rattle.fcg_make.proofs.AddLemmas.{some_steps}

pub nop_bytes : (n : ℕ) → flat_map instruction (replicate n nop) ≡ replicate n 0
nop_bytes zero = refl
nop_bytes (suc n) = ap (λ (bytes : List ℕ). 0 ∷ bytes) (nop_bytes n)

-- the code from an instruction on
pub code_first : (pool : List Entry) (at row : ℕ) (t : Step) (ts : List (ℕ × Step)) → code_bytes pool at ((row, t) ∷ ts) ≡ replicate (t.first.pc - at) 0 ++ (instruction (instruction_of pool row t.first) ++ code_bytes pool (t.first.pc + size_of t.first.kind) ts)
code_first pool at row t ts =
    flat_map-append instruction (replicate (t.first.pc - at) nop) (instruction_of pool row t.first ∷ instructions_from pool (t.first.pc + size_of t.first.kind) ts)
    ∙ ap (λ (bytes : List ℕ). bytes ++ (instruction (instruction_of pool row t.first) ++ code_bytes pool (t.first.pc + size_of t.first.kind) ts)) (nop_bytes (t.first.pc - at))

-- an instruction more
pub code_more : (pool : List Entry) (total out new : List ℕ) (at row after next : ℕ) (steps others : List Step) (t : Step) (s : Site) → steps ≡ t ∷ others → s ≡ t.first
    → new ≡ out ++ (replicate (s.pc - at) 0 ++ instruction (instruction_of pool row s)) → after ≡ s.pc + size_of s.kind → next ≡ row + row_count t
    → out ++ code_bytes pool at (numbered row_count row steps) ≡ total → new ++ code_bytes pool after (numbered row_count next others) ≡ total
code_more pool total out new at row after next steps others t s is site new_is after_is next_is so_far =
    let rest : List ℕ = code_bytes pool (t.first.pc + size_of t.first.kind) (numbered row_count (row + row_count t) others) in
    let gap : List ℕ = replicate (t.first.pc - at) 0 in
    let here : List ℕ = instruction (instruction_of pool row t.first) in
    rw (new_is, after_is, next_is, site) (
    append_assoc out (gap ++ here) rest ∙ ap (λ (bytes : List ℕ). out ++ bytes) (append_assoc gap here rest ∙ sym (code_first pool at row t (numbered row_count (row + row_count t) others)))
    ∙ (rw is at so_far)
    )

-- the rows that are left
pub rows_left : (total row next : ℕ) (steps others : List Step) (t : Step) → steps ≡ t ∷ others → next ≡ row + row_count t → row + length (calls steps) ≡ total → next + length (calls others) ≡ total
rows_left total row next steps others t is next_is so_far = split (rw is at so_far) (at_bool (is_call t))
  where
    split : row + length (calls (t ∷ others)) ≡ total → (is_call t ≡ true) ⊎ (is_call t ≡ false) → next + length (calls others) ≡ total
    split here (inl call) = let h = rw call at here in let n = rw call at next_is in omega (arith, h, n)
    split here (inr other) = let h = rw other at here in let n = rw other at next_is in omega (arith, h, n)

pub one_row : (row : ℕ) (t : Step) (s : Site) → s ≡ t.first → is_handle s.kind ≡ true → row + 1 ≡ row + row_count t
one_row row t s site call = let h = rw site at call in rw h refl

pub no_row : (row : ℕ) (t : Step) (s : Site) → s ≡ t.first → is_handle s.kind ≡ false → row ≡ row + row_count t
no_row row t s site other = let h = rw site at other in rw h (omega arith)

-- ==== the whole

pub length_map : {X Y : Type 0} (f : X → Y) (xs : List X) → length (map f xs) ≡ length xs
length_map f [] = refl
length_map f (x ∷ xs) = ap suc (length_map f xs)

-- a method with sites has a code
pub with_code_part : (pool : List Entry) (row : ℕ) (sites : List Site) → 0 < length sites
    → code_attributes_part pool row (steps_of sites) ≡ u2 1 ++ (u2 (text_index pool (codes "Code")) ++ code_part (code_bytes pool 0 (numbered row_count row (steps_of sites))))
with_code_part pool row sites some = let steps = some_steps sites some in rw steps.2 refl

with_nothing : (bytes : List ℕ) → bytes ≡ (bytes ++ []) ++ []
with_nothing bytes = sym (append-nil (bytes ++ []) ∙ append-nil bytes)

code_part_is : (code : List ℕ) → code_part code ≡ u4 (length (code_info (with_code code))) ++ ((code_info (with_code code) ++ []) ++ [])
code_part_is code =
    let n : length (code_info (with_code code)) ≡ length code + 12 = simp length-append (omega arith) in
    ap (λ (n : ℕ). u4 n ++ code_info (with_code code)) (sym n) ∙ ap (λ (bytes : List ℕ). u4 (length (code_info (with_code code))) ++ bytes) (with_nothing (code_info (with_code code)))

code_attributes_are : (pool : List Entry) (row : ℕ) (steps : List Step) → code_attributes_part pool row steps ≡ u2 (length (code_attributes pool row steps)) ++ flat_map attribute (code_attributes pool row steps)
code_attributes_are pool row [] = refl
code_attributes_are pool row (t ∷ ts) = ap (λ (bytes : List ℕ). u2 1 ++ (u2 (text_index pool (codes "Code")) ++ bytes)) (code_part_is (code_bytes pool 0 (numbered row_count row (t ∷ ts))))

pub method_part_is : (pool : List Entry) (m : ℕ × Method) → method_part pool m ≡ member_info (method_of pool m)
method_part_is pool m =
    let attributes = code_attributes pool m.0 (steps_of m.1.sites) in
    ap (λ (bytes : List ℕ). u2 m.1.flags ++ (u2 (text_index pool m.1.name) ++ (u2 (text_index pool m.1.desc) ++ bytes))) (
    code_attributes_are pool m.0 (steps_of m.1.sites) ∙ ap (λ (bytes : List ℕ). u2 (length attributes) ++ bytes) (sym (append-nil (flat_map attribute attributes)))
    )

row_part_is : (pool : List Entry) (t : Step) → row_part pool t ≡ bootstrap_method (row_of pool t)
row_part_is pool t =
    ap (λ (n : ℕ). u2 (handle_index pool t.first) ++ (u2 n ++ flat_map (λ site. u2 (handle_index pool site)) t.more)) (sym (length_map (handle_index pool) t.more))
    ∙ ap (λ (bytes : List ℕ). u2 (handle_index pool t.first) ++ (u2 (length (map (handle_index pool) t.more)) ++ bytes)) (sym (flat_map-map u2 (handle_index pool) t.more) ∙ sym (append-nil (flat_map u2 (map (handle_index pool) t.more))))

pub flat_same : {X : Type 0} (f g : X → List ℕ) → ((x : X) → f x ≡ g x) → (xs : List X) → flat_map f xs ≡ flat_map g xs
flat_same f g same [] = refl
flat_same f g same (x ∷ xs) = rw (same x, flat_same f g same xs) refl

pub rows_part_is : (pool : List Entry) (ts : List Step) → rows_part pool ts ≡ bootstrap_info (map (row_of pool) ts)
rows_part_is pool ts =
    ap (λ (n : ℕ). u2 n ++ flat_map (row_part pool) ts) (sym (length_map (row_of pool) ts))
    ∙ ap (λ (bytes : List ℕ). u2 (length (map (row_of pool) ts)) ++ bytes) (flat_same (row_part pool) (λ t. bootstrap_method (row_of pool t)) (row_part_is pool) ts ∙ sym (flat_map-map bootstrap_method (row_of pool) ts) ∙ sym (append-nil (flat_map bootstrap_method (map (row_of pool) ts))))

pub class_attributes_are : (pool : List Entry) (ts : List Step) → class_attributes_part pool ts ≡ u2 (length (class_attributes pool ts)) ++ flat_map attribute (class_attributes pool ts)
class_attributes_are pool [] = refl
class_attributes_are pool (t ∷ ts) =
    let content = bootstrap_info (map (row_of pool) (t ∷ ts)) in
    ap (λ (bytes : List ℕ). u2 1 ++ (u2 (text_index pool (codes "BootstrapMethods")) ++ (u4 (length bytes) ++ bytes))) (rows_part_is pool (t ∷ ts))
    ∙ ap (λ (bytes : List ℕ). u2 1 ++ (u2 (text_index pool (codes "BootstrapMethods")) ++ (u4 (length content) ++ bytes))) (with_nothing content)

pub length_numbered : {X : Type 0} (count : X → ℕ) (row : ℕ) (xs : List X) → length (numbered count row xs) ≡ length xs
length_numbered count row [] = refl
length_numbered count row (x ∷ xs) = ap suc (length_numbered count (row + count x) xs)

-- ---- one piece after the other

pub some_by : (b : Bool) (n : ℕ) → b ≡ eqb n 0 → b ≡ false → 0 < n
some_by b zero is none = absurd cc
some_by b (suc n) is none = omega arith

seven : (o a b c d e f g : List ℕ) → ((((((o ++ a) ++ b) ++ c) ++ d) ++ e) ++ f) ++ g ≡ o ++ (a ++ (b ++ (c ++ (d ++ (e ++ (f ++ g))))))
seven o a b c d e f g = simp append_assoc

pub code_written : (code out a b c d e f g : List ℕ) → a ≡ out ++ u4 (length code + 12) → b ≡ a ++ u2 65535 → c ≡ b ++ u2 65535 → d ≡ c ++ u4 (length code) → e ≡ d ++ code → f ≡ e ++ u2 0 → g ≡ f ++ u2 0
    → g ≡ out ++ code_part code
code_written code out a b c d e f g a_is b_is c_is d_is e_is f_is g_is =
    g_is ∙ ap (λ (x : List ℕ). x ++ u2 0) (f_is ∙ ap (λ (x : List ℕ). x ++ u2 0) (e_is ∙ ap (λ (x : List ℕ). x ++ code) (d_is ∙ ap (λ (x : List ℕ). x ++ u4 (length code)) (c_is ∙ ap (λ (x : List ℕ). x ++ u2 65535) (b_is ∙ ap (λ (x : List ℕ). x ++ u2 65535) a_is)))))
    ∙ seven out (u4 (length code + 12)) (u2 65535) (u2 65535) (u4 (length code)) code (u2 0) (u2 0)

three : (o a b c : List ℕ) → ((o ++ a) ++ b) ++ c ≡ o ++ (a ++ (b ++ c))
three o a b c = simp append_assoc

-- an attribute: the count, the index of its name, and the rest
pub attribute_written : (out a b c name rest : List ℕ) → a ≡ out ++ u2 1 → b ≡ a ++ name → c ≡ b ++ rest → c ≡ out ++ (u2 1 ++ (name ++ rest))
attribute_written out a b c name rest a_is b_is c_is = c_is ∙ ap (λ (x : List ℕ). x ++ rest) (b_is ∙ ap (λ (x : List ℕ). x ++ name) a_is) ∙ three out (u2 1) name rest

pub code_attribute_written : (pool : List Entry) (row : ℕ) (sites : List Site) (out a b c code : List ℕ) → 0 < length sites → a ≡ out ++ u2 1 → b ≡ a ++ u2 (text_index pool (codes "Code")) → c ≡ b ++ code_part code
    → code ≡ code_bytes pool 0 (numbered row_count row (steps_of sites)) → c ≡ out ++ code_attributes_part pool row (steps_of sites)
code_attribute_written pool row sites out a b c code some a_is b_is c_is code_is =
    attribute_written out a b c (u2 (text_index pool (codes "Code"))) (code_part code) a_is b_is c_is
    ∙ ap (λ (bytes : List ℕ). out ++ (u2 1 ++ (u2 (text_index pool (codes "Code")) ++ code_part bytes))) code_is
    ∙ ap (λ (bytes : List ℕ). out ++ bytes) (sym (with_code_part pool row sites some))

with_rows_part : (pool : List Entry) (rows : List Step) → 0 < length rows → class_attributes_part pool rows ≡ u2 1 ++ (u2 (text_index pool (codes "BootstrapMethods")) ++ (u4 (length (rows_part pool rows)) ++ rows_part pool rows))
with_rows_part pool [] some = absurd (omega arith)
with_rows_part pool (t ∷ ts) some = refl

pub rows_attribute_written : (pool : List Entry) (rows : List Step) (out a b c d content : List ℕ) → 0 < length rows → a ≡ out ++ u2 1 → b ≡ a ++ u2 (text_index pool (codes "BootstrapMethods")) → c ≡ b ++ u4 (length content) → d ≡ c ++ content
    → content ≡ rows_part pool rows → d ≡ out ++ class_attributes_part pool rows
rows_attribute_written pool rows out a b c d content some a_is b_is c_is d_is content_is =
    attribute_written out a b d (u2 (text_index pool (codes "BootstrapMethods"))) (u4 (length content) ++ content) a_is b_is (d_is ∙ ap (λ (x : List ℕ). x ++ content) c_is ∙ append_assoc b (u4 (length content)) content)
    ∙ ap (λ (bytes : List ℕ). out ++ (u2 1 ++ (u2 (text_index pool (codes "BootstrapMethods")) ++ (u4 (length bytes) ++ bytes)))) content_is
    ∙ ap (λ (bytes : List ℕ). out ++ bytes) (sym (with_rows_part pool rows some))

-- ---- loops

-- what the first of some are written as, and one more
pub written_more : {X : Type 0} (f : X → List ℕ) (out now next : List ℕ) (xs : List X) (i : ℕ) (x : X) → i < length xs → x ≡ get_or xs i x → now ≡ out ++ flat_map f (take i xs) → next ≡ now ++ f x → next ≡ out ++ flat_map f (take (i + 1) xs)
written_more f out now next xs i x lt is before after =
    after ∙ ap (λ (bytes : List ℕ). bytes ++ f x) before ∙ append_assoc out (flat_map f (take i xs)) (f x) ∙ ap (λ (bytes : List ℕ). out ++ bytes) (sym more)
  where
    more : flat_map f (take (i + 1) xs) ≡ flat_map f (take i xs) ++ f x
    more = rw (add-one, take-suc xs i x lt, flat_map-append f (take i xs) (get_or xs i x ∷ [])) (ap (λ (bytes : List ℕ). flat_map f (take i xs) ++ bytes) (append-nil (f (get_or xs i x)) ∙ ap f (sym is)))

-- what one keeps, and those after it, all do
pub kept_more : {X : Type 0} (P : X → Type 0) (xs : List X) (i : ℕ) (x : X) → i < length xs → x ≡ get_or xs i x → P x → (AllByRecursion P (drop i xs) → AllByRecursion P xs) → AllByRecursion P (drop (i + 1) xs) → AllByRecursion P xs
kept_more P xs i x lt is kept before after = (let e : i + 1 ≡ suc i = omega arith in before (rw (drop-cons xs i x lt) (subst P is kept, subst (λ (k : ℕ). AllByRecursion P (drop k xs)) e after)))

pub nothing_left : {X : Type 0} (P : X → Type 0) (xs : List X) (i : ℕ) → length xs ≤ i → AllByRecursion P (drop i xs)
nothing_left P [] zero le = tt
nothing_left P [] (suc i) le = tt
nothing_left P (x ∷ xs) zero le = absurd (omega arith)
nothing_left P (x ∷ xs) (suc i) le = nothing_left P xs i (omega (arith, le))

pub kept_first : {X : Type 0} (P : X → Type 0) (all rest others : List X) (x : X) → rest ≡ x ∷ others → P x → (AllByRecursion P rest → AllByRecursion P all) → AllByRecursion P others → AllByRecursion P all
kept_first P all rest others x is kept before after = before (subst (AllByRecursion P) (sym is) (kept, after))

-- a method more
pub methods_left : (pool : List Entry) (total out new : List ℕ) (row next : ℕ) (rest others : List Method) (m : Method) → rest ≡ m ∷ others → new ≡ out ++ method_part pool (row, m) → next ≡ row + method_rows m
    → out ++ flat_map (method_part pool) (numbered method_rows row rest) ≡ total → new ++ flat_map (method_part pool) (numbered method_rows next others) ≡ total
methods_left pool total out new row next rest others m is new_is next_is so_far =
    rw (new_is, next_is) (append_assoc out (method_part pool (row, m)) (flat_map (method_part pool) (numbered method_rows (row + method_rows m) others)) ∙ (rw is at so_far))
