-- How many names, references and types the graph of some views has.
use Rattle.std.proofs.Common.{◌≡◌, ℕ, suc, ◌+◌, ◌*◌, ◌≤◌, List, [], ◌∷◌, ◌++◌, length, refl, sym, ap, ◌∙◌, arith}
use Rattle.std.specs.Prelude.{map, Option, Some, None, sum_by}
use Rattle.std.specs.List.{flat_map}
use Rattle.std.specs.declared.cmp.Ordering.{Ordering}
use Rattle.std.specs.declared.cmp.Ordering.TheVariants.{Less, Equal, Greater}
use Rattle.std.proofs.lemmas.List.{length-append}
use Rattle.std.proofs.lemmas.List.Concat.{flat_map-cons}
use Rattle.std.proofs.lemmas.List.Sums.{sum_by-cons}
use Rattle.fcg_views.specs.declared.view.View.{View}
use Rattle.fcg_views.specs.declared.view.Method.{Method}
use Rattle.fcg_views.specs.declared.view.Field.{Field}
use Rattle.fcg_views.specs.declared.view.Site.{Site}
use Rattle.fcg_views.specs.declared.view.Ref.{Ref}
use Rattle.fcg_views.specs.Valid.{method_names, view_names, name_count, count_of_option}
use Rattle.fcg_grammar.specs.Table.{table, put, by, order}
use Rattle.fcg_views.specs.NamesIn.{names_of_ref, names_of_super, names_of_field, names_of_site}
use Rattle.fcg_partial.specs.Views.{names_of_method, names_of_view, targets_of, mentions, names_of, refs_of, ref_row}
use Rattle.fcg_partial.proofs.IndexLaws.{length_map}
use Rattle.fcg_partial.proofs.SpelledViews.{method_site_names, view_site_names, mentions_are}

-- ---- how many
length_by : (o : Ordering) (x : List ℕ) (y : List ℕ) (ys : List (List ℕ)) → length (put x ys) ≤ suc (length ys) → length (by o (x ∷ y ∷ ys) (y ∷ ys) (y ∷ put x ys)) ≤ suc (suc (length ys))
length_by Less x y ys h = omega arith
length_by Equal x y ys h = omega arith
length_by Greater x y ys h = omega arith

length_put : (x : List ℕ) (ys : List (List ℕ)) → length (put x ys) ≤ suc (length ys)
length_put x [] = omega arith
length_put x (y ∷ ys) = length_by (order x y) x y ys (length_put x ys)

pub length_table : (xs : List (List ℕ)) → length (table xs) ≤ length xs
unfolding table
length_table [] = omega arith
length_table (x ∷ xs) = let a = length_table xs in let b = length_put x (table xs) in omega arith

count_sites : (ss : List Site) → length (flat_map names_of_site ss) ≡ 3 * length ss
count_sites [] = refl
count_sites (s ∷ ss) = let a = ap (λ (l : List (List ℕ)). length l) (flat_map-cons names_of_site s ss) in let b = count_sites ss in omega arith

count_fields : (fs : List Field) → length (flat_map names_of_field fs) ≡ 2 * length fs
count_fields [] = refl
count_fields (f ∷ fs) = let a = ap (λ (l : List (List ℕ)). length l) (flat_map-cons names_of_field f fs) in let b = count_fields fs in omega arith

count_methods : (ms : List Method) → length (flat_map method_site_names ms) + length (flat_map names_of_method ms) ≡ sum_by method_names ms
count_methods [] = refl
count_methods (m ∷ ms) =
    let a = ap (λ (l : List (List ℕ)). length l) (flat_map-cons method_site_names m ms) in
    let b = length-append (method_site_names m) (flat_map method_site_names ms) in
    let c = ap (λ (l : List (List ℕ)). length l) (flat_map-cons names_of_method m ms) in
    let d = count_sites m.sites in
    let e = count_methods ms in
    let f = sum_by-cons method_names m ms in
    omega arith

count_super : (s : Option (List ℕ)) → length (names_of_super s) ≡ count_of_option s
count_super None = refl
count_super (Some n) = refl

count_view : (v : View) → length (view_site_names v) + length (names_of_view v) ≡ view_names v
count_view v =
    let a = length-append (names_of_super v.superclass) (v.interfaces ++ (flat_map names_of_field v.fields ++ flat_map names_of_method v.methods)) in
    let b = length-append v.interfaces (flat_map names_of_field v.fields ++ flat_map names_of_method v.methods) in
    let c = length-append (flat_map names_of_field v.fields) (flat_map names_of_method v.methods) in
    let d = count_fields v.fields in
    let e = count_methods v.methods in
    let f = count_super v.superclass in
    omega arith

count_views : (vs : List View) → length (flat_map view_site_names vs) + length (flat_map names_of_view vs) ≡ name_count vs
count_views [] = refl
count_views (v ∷ vs) =
    let a = ap (λ (l : List (List ℕ)). length l) (flat_map-cons view_site_names v vs) in
    let b = length-append (view_site_names v) (flat_map view_site_names vs) in
    let c = ap (λ (l : List (List ℕ)). length l) (flat_map-cons names_of_view v vs) in
    let d = length-append (names_of_view v) (flat_map names_of_view vs) in
    let e = count_view v in
    let f = count_views vs in
    let g = sum_by-cons view_names v vs in
    omega arith

count_mentions : (vs : List View) → length (mentions vs) ≡ name_count vs
count_mentions vs =
    ap (λ (l : List (List ℕ)). length l) (sym (mentions_are vs)) ∙ length-append (flat_map view_site_names vs) (flat_map names_of_view vs) ∙ count_views vs

count_targets : (rs : List Ref) → length (flat_map names_of_ref rs) ≡ 3 * length rs
count_targets [] = refl
count_targets (r ∷ rs) = let a = ap (λ (l : List (List ℕ)). length l) (flat_map-cons names_of_ref r rs) in let b = count_targets rs in omega arith

pub few_targets : (vs : List View) → length (targets_of vs) ≤ name_count vs
few_targets vs =
    let a = count_mentions vs in
    let b = length-append (flat_map names_of_ref (targets_of vs)) (flat_map names_of_view vs) in
    let c = count_targets (targets_of vs) in
    omega arith

pub few_views : (vs : List View) → length vs ≤ name_count vs
few_views [] = omega arith
few_views (v ∷ vs) =
    let a = sum_by-cons view_names v vs in
    let b = few_views vs in
    omega arith

pub few_names : (vs : List View) → length (names_of vs) ≤ name_count vs
unfolding names_of
few_names vs = let a = length_table (mentions vs) in let b = count_mentions vs in omega arith

pub few_refs : (names : List (List ℕ)) (vs : List View) → length (refs_of names vs) ≤ name_count vs
unfolding refs_of
few_refs names vs = let a = length_table (map (ref_row names) (targets_of vs)) in let b = length_map (ref_row names) (targets_of vs) in let c = few_targets vs in omega arith
