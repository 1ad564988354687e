-- The spelling of a graph has at least as many bytes as it has names, references, types, methods and sites.
use Rattle.std.proofs.Common.{◌≡◌, ℕ, ◌+◌, ◌*◌, ◌≤◌, List, [], ◌∷◌, ◌++◌, length, refl, ap, arith}
use Rattle.std.specs.Prelude.{Option, Some, None, sum_by}
use Rattle.std.specs.List.{flat_map}
use Rattle.std.proofs.lemmas.List.{length-append}
use Rattle.std.proofs.lemmas.List.Concat.{flat_map-cons}
use Rattle.std.proofs.lemmas.List.Sums.{sum_by-cons}
use Rattle.fcg_grammar.specs.Spell.{u2, u4}
use Rattle.fcg_views.specs.declared.view.View.{View}
use Rattle.fcg_views.specs.declared.view.Method.{Method}
use Rattle.fcg_views.specs.declared.view.Field.{Field}
use Rattle.fcg_views.specs.declared.view.Site.{Site}
use Rattle.fcg_views.specs.Valid.{site_count, sites_of_all, count_of_option, method_names, view_names, name_count}
use Rattle.fcg_partial.specs.Graph.{name_text, ref_text, spelling}
use Rattle.fcg_partial.specs.Views.{type_row, graph_by, names_of, refs_of, graph_of, text_of}
use Rattle.fcg_partial.specs.Internal.Written.{written_site, written_field, written_method, written_name, written_head, written_members, written_type, written_tables, written}
use Rattle.fcg_partial.specs.Sizes.{HasAtMost}
use Rattle.fcg_partial.proofs.IndexLaws.{length_map}
use Rattle.fcg_partial.proofs.SpelledViews.{written_is}

-- a list of rows has at least as many bytes, where each has one or more
rows_long : {X : Type 0} (f : X → List ℕ) → ((x : X) → 1 ≤ length (f x)) → (xs : List X) → length xs ≤ length (flat_map f xs)
rows_long f each [] = omega arith
rows_long f each (x ∷ xs) =
    let a = ap (λ (l : List ℕ). length l) (flat_map-cons f x xs) in
    let b = length-append (f x) (flat_map f xs) in
    let c = each x in
    let d = rows_long f each xs in
    omega arith

names_long : (names : List (List ℕ)) → length names ≤ length (flat_map name_text names)
names_long names = rows_long name_text (λ x. omega arith) names

refs_long : (refs : List (List ℕ)) → length refs ≤ length (flat_map ref_text refs)
refs_long refs = rows_long ref_text (λ x. omega arith) refs

module _ (names refs : List (List ℕ)) where
  sites_long : (ss : List Site) → length (flat_map (written_site names refs) ss) ≡ 7 * length ss
  sites_long [] = refl
  sites_long (s ∷ ss) =
      let a = ap (λ (l : List ℕ). length l) (flat_map-cons (written_site names refs) s ss) in
      let b = sites_long ss in
      omega arith

  interfaces_long : (is : List (List ℕ)) → length (flat_map (written_name names) is) ≡ 4 * length is
  interfaces_long [] = refl
  interfaces_long (i ∷ is) =
      let a = ap (λ (l : List ℕ). length l) (flat_map-cons (written_name names) i is) in
      let b = interfaces_long is in
      omega arith

  fields_long : (fs : List Field) → length (flat_map (written_field names) fs) ≡ 10 * length fs
  fields_long [] = refl
  fields_long (f ∷ fs) =
      let a = ap (λ (l : List ℕ). length l) (flat_map-cons (written_field names) f fs) in
      let b = fields_long fs in
      omega arith

  method_long : (m : Method) → length (written_method names refs m) ≡ 14 + 7 * length m.sites
  unfolding written_method
  method_long m = let a = sites_long m.sites in omega arith

  methods_long : (ms : List Method) → length (flat_map (written_method names refs) ms) ≡ 14 * length ms + 7 * site_count ms
  methods_long [] = refl
  methods_long (m ∷ ms) =
      let a = ap (λ (l : List ℕ). length l) (flat_map-cons (written_method names refs) m ms) in
      let b = length-append (written_method names refs m) (flat_map (written_method names refs) ms) in
      let c = method_long m in
      let d = methods_long ms in
      let e = sum_by-cons (λ (x : Method). length x.sites) m ms in
      omega arith

  view_long : (v : View) → length (written_type names refs v) ≡ 16 + 4 * length v.interfaces + 10 * length v.fields + 14 * length v.methods + 7 * site_count v.methods
  unfolding written_type written_head written_members
  view_long v =
      let a = interfaces_long v.interfaces in
      let b = fields_long v.fields in
      let c = methods_long v.methods in
      let d = length-append (flat_map (written_name names) v.interfaces) (u2 (length v.fields) ++ (flat_map (written_field names) v.fields ++ (u2 (length v.methods) ++ flat_map (written_method names refs) v.methods))) in
      let e = length-append (flat_map (written_field names) v.fields) (u2 (length v.methods) ++ flat_map (written_method names refs) v.methods) in
      omega arith

  method_mentions : (ms : List Method) → sum_by method_names ms ≡ 2 * length ms + 3 * site_count ms
  method_mentions [] = refl
  method_mentions (m ∷ ms) =
      let a = sum_by-cons method_names m ms in
      let b = sum_by-cons (λ (x : Method). length x.sites) m ms in
      let c = method_mentions ms in
      omega arith

  super_few : (s : Option (List ℕ)) → count_of_option s ≤ 1
  super_few None = omega arith
  super_few (Some n) = omega arith

  view_few : (v : View) → view_names v ≤ length (written_type names refs v)
  view_few v =
      let a = view_long v in
      let b = method_mentions v.methods in
      let c = super_few v.superclass in
      omega arith

  pub record Few (vs : List View) (n : ℕ) : Type 0 where
    pub views : length vs ≤ n
    pub methods : sum_by (λ v. length v.methods) vs ≤ n
    pub sites : sites_of_all vs ≤ n
    pub mentions : name_count vs ≤ n

  views_few : (vs : List View) → Few vs (length (flat_map (written_type names refs) vs))
  views_few [] = record { views = omega arith; methods = omega arith; sites = omega arith; mentions = omega arith }
  views_few (v ∷ vs) =
      let a = ap (λ (l : List ℕ). length l) (flat_map-cons (written_type names refs) v vs) in
      let b = length-append (written_type names refs v) (flat_map (written_type names refs) vs) in
      let c = view_long v in
      let d = views_few vs in
      let e = d.views in
      let f = d.methods in
      let g = d.sites in
      let h = d.mentions in
      let i = view_few v in
      let j = sum_by-cons (λ (x : View). length x.methods) v vs in
      let k = sum_by-cons (λ (x : View). site_count x.methods) v vs in
      let l = sum_by-cons view_names v vs in
      record { views = omega arith; methods = omega arith; sites = omega arith; mentions = omega arith }

  tables_long : length names + length refs ≤ length (written_tables names refs)
  unfolding written_tables
  tables_long =
      let a = names_long names in
      let b = refs_long refs in
      let c = length-append (flat_map name_text names) (u4 (length refs) ++ flat_map ref_text refs) in
      omega arith

  written_long : (vs : List View) → length (written names refs vs) ≡ length (written_tables names refs) + (4 + length (flat_map (written_type names refs) vs))
  unfolding written
  written_long vs =
      let a = length-append (written_tables names refs) (u4 (length vs) ++ flat_map (written_type names refs) vs) in
      omega arith

  pub graph_few : (vs : List View) (n : ℕ) → length (spelling (graph_by names refs vs)) ≡ n → (length names ≤ n) × (length refs ≤ n) × Few vs n
  graph_few vs n e =
      let a = ap (λ (l : List ℕ). length l) (written_is names refs vs) in
      let b = written_long vs in
      let c = tables_long in
      let d = views_few vs in
      let f = d.views in
      let g = d.methods in
      let h = d.sites in
      let i = d.mentions in
      (omega arith, omega arith, record { views = omega arith; methods = omega arith; sites = omega arith; mentions = omega arith })

pub has_at_most : (vs : List View) → HasAtMost (length (text_of vs)) vs
unfolding text_of graph_of
has_at_most vs =
    let few = graph_few (names_of vs) (refs_of (names_of vs) vs) vs (length (spelling (graph_by (names_of vs) (refs_of (names_of vs) vs) vs))) refl in
    record {
      names = few.0;
      refs = few.1;
      types = (let same = length_map (type_row (names_of vs) (refs_of (names_of vs) vs)) vs in let le = few.2.views in omega arith);
      methods = few.2.methods;
      sites = few.2.sites;
      mentions = few.2.mentions;
    }
