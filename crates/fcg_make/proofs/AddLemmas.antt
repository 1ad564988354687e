-- Entries that are added one after the other.
use Rattle.std.proofs.Common.{◌≡◌, ℕ, ◌+◌, ◌<◌, ◌≤◌, List, [], ◌∷◌, ◌++◌, length, take, drop, get_or, add-one, length-append, refl, sym, ap, ◌∙◌, arith}
use Rattle.std.proofs.Math.Seq.{take-suc}
use Rattle.std.proofs.lemmas.List.{append-nil}
use Rattle.std.proofs.lemmas.Grind.{flat_map-append}
use Rattle.std.specs.Prelude.{codes}
use Rattle.std.specs.List.{flat_map}
use Rattle.fcg_views.specs.declared.view.Site.{Site}
use Rattle.fcg_make.specs.declared.entry.Entry.{Entry}
use Rattle.fcg_make.specs.declared.entry.Entry.TheVariants.{Text}
use Rattle.fcg_views.specs.declared.view.Method.{Method}
use Rattle.fcg_views.specs.declared.view.View.{View}
use Rattle.fcg_make.specs.Entries.{added, added_all}
use Rattle.fcg_make.specs.Steps.{Step, calls, steps_of, joined_after, row_count, method_rows, numbered}
use Rattle.fcg_make.specs.Needs.{type_needs, super_needs, field_needs, code_needs, step_needs, method_needs, numbered_methods, rows_of, rows_needs, needs, pool_of}
use Rattle.fcg_make.proofs.StepLemmas.{first_step}

pub added_all_append : (pool xs ys : List Entry) → added_all pool (xs ++ ys) ≡ added_all (added_all pool xs) ys
added_all_append pool [] ys = refl
added_all_append pool (x ∷ xs) ys = added_all_append (added pool x) xs ys

-- what the first of some need, and one more
pub added_more : {X : Type 0} (f : X → List Entry) (first now next : List Entry) (xs : List X) (i : ℕ) (x : X) → i < length xs → x ≡ get_or xs i x
    → now ≡ added_all first (flat_map f (take i xs)) → next ≡ added_all now (f x) → next ≡ added_all first (flat_map f (take (i + 1) xs))
added_more f first now next xs i x lt is before after =
    after ∙ ap (λ (p : List Entry). added_all p (f x)) before ∙ sym (added_all_append first (flat_map f (take i xs)) (f x)) ∙ ap (added_all first) (sym more)
  where
    more : flat_map f (take (i + 1) xs) ≡ flat_map f (take i xs) ++ f x
    more = rw (add-one, take-suc xs i x lt, flat_map-append f (take i xs) (get_or xs i x ∷ [])) (ap (λ (es : List Entry). flat_map f (take i xs) ++ es) (append-nil (f (get_or xs i x)) ∙ ap f (sym is)))

-- a method with sites has a code
pub some_steps : (sites : List Site) → 0 < length sites → (t : Step) × (ts : List Step) × (steps_of sites ≡ t ∷ ts)
some_steps [] some = absurd (omega arith)
some_steps (s ∷ ss) some = (record { first = s; more = take (joined_after s ss) ss }, steps_of (drop (joined_after s ss) ss), first_step s ss)

pub with_code : (row : ℕ) (sites : List Site) → 0 < length sites → code_needs row (steps_of sites) ≡ Text (codes "Code") ∷ flat_map step_needs (numbered row_count row (steps_of sites))
with_code row sites some = let steps = some_steps sites some in rw steps.2 refl

-- a method more
pub methods_more : (total table new : List Entry) (row next : ℕ) (rest others : List Method) (m : Method) → rest ≡ m ∷ others → new ≡ added_all table (method_needs (row, m)) → next ≡ row + method_rows m
    → added_all table (flat_map method_needs (numbered method_rows row rest)) ≡ total → added_all new (flat_map method_needs (numbered method_rows next others)) ≡ total
methods_more total table new row next rest others m is added_is next_is so_far =
    rw (added_is, next_is) (sym (added_all_append table (method_needs (row, m)) (flat_map method_needs (numbered method_rows (row + method_rows m) others))) ∙ (rw is at so_far))

pub rows_more : (total row next : ℕ) (rest others : List Method) (m : Method) → rest ≡ m ∷ others → next ≡ row + method_rows m → row + length (rows_of rest) ≡ total → next + length (rows_of others) ≡ total
rows_more total row next rest others m is next_is so_far =
    let here = rw is at so_far in
    omega (arith, here, next_is, length-append (calls (steps_of m.sites)) (rows_of others))

pub rows_first : (rest others : List Method) (m : Method) → rest ≡ m ∷ others → method_rows m ≤ length (rows_of rest)
rows_first rest others m is = rw is (omega (arith, length-append (calls (steps_of m.sites)) (rows_of others)))

-- all entries of a view
pub all_added : (v : View) → added_all (added_all (added_all (added_all (added_all (added_all [] (type_needs v.name)) (super_needs v.superclass)) (flat_map type_needs v.interfaces)) (flat_map field_needs v.fields)) (flat_map method_needs (numbered_methods v.methods))) (rows_needs (rows_of v.methods)) ≡ pool_of v
unfolding needs pool_of
all_added v = simp added_all_append
