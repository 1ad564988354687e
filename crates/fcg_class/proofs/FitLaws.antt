-- The views of a bundle have fewer names than the bundle has bytes, beside three for each site.
use Rattle.std.proofs.Common.{◌≡◌, ℕ, suc, ◌+◌, ◌*◌, ◌^◌, ◌<◌, ◌≤◌, Bool, true, false, cond, List, [], ◌∷◌, ◌++◌, length, Option, Some, None, refl, sym, ap, subst, ◌∙◌, arith}
use Rattle.std.specs.Prelude.{Result, Ok, Err, IfOk}
use Rattle.std.specs.List.{flat_map, sum_by, AllZip}
use Rattle.std.proofs.lemmas.List.{length-append}
use Rattle.std.proofs.lemmas.List.Concat.{flat_map-cons}
use Rattle.std.proofs.lemmas.List.Sums.{sum_by-cons}
use Rattle.fcg_grammar.specs.declared.error.ReadError.{ReadError}
use Rattle.fcg_grammar.specs.Reading.{Gives}
use Rattle.fcg_grammar.specs.Spell.{IsBytes, u2}
use Rattle.fcg_views.specs.declared.view.View.{View}
use Rattle.fcg_views.specs.declared.view.Method.{Method}
use Rattle.fcg_views.specs.Valid.{site_count, count_of_option, method_names, view_names, name_count}
use Rattle.fcg_classfile.specs.ClassFile.{constant, attribute, MemberInfo, member_info, ClassFile, spelling}
use Rattle.fcg_classfile.specs.Reads.{NamesType, IsFieldOf, IsMethodOf, IsViewOf}
use Rattle.fcg_class.specs.declared.bundle.BundleFault.{BundleFault}
use Rattle.fcg_class.specs.Path.{is_class_path, is_versioned}
use Rattle.fcg_class.specs.Bundle.{Entry, entry, bundle, Holds, IsEntryOf, some_of, views_of, sites_in, Content, bundle_of}
use Rattle.fcg_class.proofs.BundleLaws.{entry_length, content_found}

zip_many : {C X : Type 0} (R : C → X → Type 0) (cs : List C) (xs : List X) → AllZip R cs xs → length xs ≡ length cs
zip_many R [] [] z = refl
zip_many R [] (x ∷ xs) z = absurd z
zip_many R (c ∷ cs) [] z = absurd z
zip_many R (c ∷ cs) (x ∷ xs) z = ap suc (zip_many R cs xs z.1)

-- rows of two bytes or more
rows_long : {A : Type 0} (f : A → List ℕ) → ((x : A) → 2 ≤ length (f x)) → (xs : List A) → 2 * length xs ≤ length (flat_map f xs)
rows_long f each [] = omega arith
rows_long f each (x ∷ xs) =
    let here = each x in
    let below = rows_long f each xs in
    let sum : length (flat_map f (x ∷ xs)) ≡ length (f x) + length (flat_map f xs) = ap length (flat_map-cons f x xs) ∙ length-append (f x) (flat_map f xs) in
    omega (arith, here, below, sum)

member_long : (m : MemberInfo) → 2 ≤ length (member_info m)
member_long m = omega arith

-- a class file has more bytes than its view has names of its own and of its methods
spelled_long : (c : ClassFile) → 2 + 2 * length c.interfaces + 2 * length c.fields + 2 * length c.methods ≤ length (spelling c)
spelled_long c =
    let constants = flat_map constant c.pool in
    let interfaces = flat_map u2 c.interfaces in
    let fields = flat_map member_info c.fields in
    let methods = flat_map member_info c.methods in
    let attributes = flat_map attribute c.attributes in
    let is = rows_long u2 (λ n. omega arith) c.interfaces in
    let fs = rows_long member_info member_long c.fields in
    let ms = rows_long member_info member_long c.methods in
    let a = length-append methods (u2 (length c.attributes) ++ (attributes ++ [])) in
    let b = length-append fields (u2 (length c.methods) ++ (methods ++ (u2 (length c.attributes) ++ (attributes ++ [])))) in
    let d = length-append interfaces (u2 (length c.fields) ++ (fields ++ (u2 (length c.methods) ++ (methods ++ (u2 (length c.attributes) ++ (attributes ++ [])))))) in
    let e = length-append constants (u2 c.flags ++ (u2 c.this ++ (u2 c.super ++ (u2 (length c.interfaces) ++ (interfaces ++ (u2 (length c.fields) ++ (fields ++ (u2 (length c.methods) ++ (methods ++ (u2 (length c.attributes) ++ (attributes ++ []))))))))))) in
    omega (arith, is, fs, ms, a, b, d, e)

methods_named : (ms : List Method) → sum_by method_names ms ≡ 2 * length ms + 3 * site_count ms
methods_named [] = refl
methods_named (m ∷ ms) =
    let below = methods_named ms in
    let names = sum_by-cons method_names m ms in
    let sites = sum_by-cons (λ (n : Method). length n.sites) m ms in
    omega (arith, below, names, sites)

one_at_most : {X : Type 0} (o : Option X) → count_of_option o ≤ 1
one_at_most None = omega arith
one_at_most (Some x) = omega arith

view_named : (c : ClassFile) (v : View) → IsViewOf c v → view_names v ≤ length (spelling c) + 3 * site_count v.methods
view_named c v is =
    let bytes = spelled_long c in
    let interfaces = zip_many (NamesType c.pool) c.interfaces v.interfaces is.interfaces in
    let fields = zip_many (IsFieldOf c.pool) c.fields v.fields is.fields in
    let methods = zip_many (IsMethodOf c.pool is.rows) c.methods v.methods is.methods in
    let names = methods_named v.methods in
    let super = one_at_most v.superclass in
    omega (arith, bytes, interfaces, fields, methods, names, super)

-- the names of what an entry holds
abbrev names_in : Option View → ℕ
names_in None = 0
names_in (Some v) = view_names v

held_named : (b : Bool) (body : List ℕ) (r : Option View) → Holds b body r → names_in r ≤ length body + 3 * sites_in r
held_named b body None h = omega arith
held_named false body (Some v) h = absurd cc
held_named true body (Some v) h =
    let named : view_names h.view ≤ length body + 3 * site_count h.view.methods = rw h.spelled (view_named h.file h.view h.is) in
    subst (λ (w : View). view_names w ≤ length body + 3 * site_count w.methods) (sym h.shown.1) named

-- a view that is shown, if any, and others
shown_named : (later : Bool) (r : Option View) (vs : List View) → name_count (some_of (cond later None r) ++ vs) ≤ names_in r + name_count vs
shown_named true r vs = omega arith
shown_named false None vs = omega arith
shown_named false (Some v) vs = let sum = sum_by-cons view_names v vs in omega (arith, sum)

views_named : (es : List Entry) (rs : List (Option View)) → AllZip IsEntryOf es rs → name_count (views_of es rs) ≤ length (flat_map entry es) + 3 * sum_by sites_in rs
views_named [] [] z = omega arith
views_named [] (r ∷ rs) z = absurd z
views_named (e ∷ es) [] z = absurd z
views_named (e ∷ es) (r ∷ rs) z =
    let here = held_named (is_class_path e.path) e.body r z.0.holds in
    let below = views_named es rs z.1 in
    let shows = shown_named (is_versioned e.path) r (views_of es rs) in
    let bytes : length (flat_map entry (e ∷ es)) ≡ length (entry e) + length (flat_map entry es) = ap length (flat_map-cons entry e es) ∙ length-append (entry e) (flat_map entry es) in
    let long = entry_length e in
    let sites = sum_by-cons sites_in r rs in
    omega (arith, here, below, shows, bytes, long, sites)

pub content_named : (bytes : List ℕ) (views : List View) → Content bytes views → name_count views ≤ length bytes + 12000000
content_named bytes views c =
    let named = views_named c.entries c.reads c.each in
    let few = c.few_sites in
    let long : length bytes ≡ length (bundle c.entries) = ap length c.spelled in
    let end = length-append (flat_map entry c.entries) [] in
    let same : name_count views ≡ name_count (views_of c.entries c.reads) = ap name_count c.views_are in
    omega (arith, named, few, long, end, same)

pub content_fits : (bytes : List ℕ) (views : List View) → Content bytes views → length bytes ≤ 67108864 → name_count views < 2 ^ 32
content_fits bytes views c short = let named = content_named bytes views c in omega (arith, named, short)

-- what a reader answers
pub is_fitting : (bytes : List ℕ) (r : Result (List View) (ReadError BundleFault)) → IsBytes bytes → Gives (λ v. v) r (bundle_of bytes) → length bytes ≤ 67108864 → IfOk r (λ views. name_count views < 2 ^ 32)
is_fitting bytes (Ok views) fits given short = content_fits bytes views (content_found bytes views fits given) short
is_fitting bytes (Err e) fits given short = tt
