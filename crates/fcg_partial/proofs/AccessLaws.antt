-- Where the rows of a kept graph stand.
use Rattle.std.proofs.Common.{◌≡◌, ℕ, zero, suc, ◌+◌, ◌*◌, ◌^◌, ◌<◌, List, [], ◌∷◌, ◌++◌, length, get_or, refl, sym, ap, subst, ◌∙◌, arith}
use Rattle.std.specs.Prelude.{Ok, Some, map, slice_get}
use Rattle.std.specs.List.{AllZip}
use Rattle.std.proofs.lemmas.List.Concat.{flat_map-cons}
use Rattle.fcg_grammar.specs.Rows.{rows}
use Rattle.fcg_grammar.proofs.LawLemmas.{bind_ok}
use Rattle.fcg_grammar.proofs.Standing.{ok_is}
use Rattle.fcg_grammar.proofs.Among.{among_at, among_all}
use Rattle.fcg_views.specs.declared.view.View.{View}
use Rattle.fcg_partial.specs.declared.index.Index.{Index}
use Rattle.fcg_partial.specs.Fault.{u4_at}
use Rattle.fcg_partial.specs.Graph.{Graph, IsGraph, StoredType, StoredField, StoredMethod, StoredSite}
use Rattle.fcg_partial.specs.Views.{graph_of, text_of}
use Rattle.fcg_partial.specs.Reading.{TablePlace, ref_at, refs_at, type_at, method_at, views_in}
use Rattle.fcg_partial.specs.Internal.RowPlaces.{text_at, HasText, first_row}
use Rattle.fcg_partial.specs.Internal.UsedNumbers.{ReadAt, at_place, at_state, firsts_of, methods_of}
use Rattle.fcg_partial.specs.Internal.Representation.{IsKept}
use Rattle.fcg_partial.specs.Accessors.{HasType, HasMethod, HasRef}
use Rattle.fcg_partial.specs.Internal.StandingRows.{IsTypeAt, IsFieldAt, IsMethodAt, IsSiteAt, IsRefAt}
use Rattle.fcg_partial.proofs.GraphLaws.{graph_found}
use Rattle.fcg_partial.proofs.OneSpelling.{graph_back}
use Rattle.fcg_partial.proofs.KeptLaws.{kept_text, views_of_read}
use Rattle.fcg_partial.proofs.RowParts.{nth_row, ref_step, inside_u4, type_parts, method_parts}
use Rattle.fcg_partial.proofs.IndexLaws.{rows_many, length_map}
use Rattle.fcg_partial.proofs.BothRows.{zip_length}

zip_at : {A B : Type 0} (R : A → B → Type 0) (xs : List A) (ys : List B) → AllZip R xs ys → (i : ℕ) (y : B) (d : A) → slice_get ys i ≡ Some y → (i < length xs) × R (get_or xs i d) y
zip_at R [] [] all i y d e = absurd cc
zip_at R [] (b ∷ ys) all i y d e = absurd all
zip_at R (a ∷ xs) [] all i y d e = absurd all
zip_at R (a ∷ xs) (b ∷ ys) all zero y d e = (omega arith, (let same : b ≡ y = cc in subst (R a) same all.0))
zip_at R (a ∷ xs) (b ∷ ys) all (suc i) y d e = let r = zip_at R xs ys all.1 i y d e in ((let lt = r.0 in omega arith), r.1)

get_left : {X : Type 0} (xs ys : List X) (k : ℕ) (x : X) → slice_get xs k ≡ Some x → slice_get (xs ++ ys) k ≡ Some x
get_left [] ys k x e = absurd cc
get_left (z ∷ xs) ys zero x e = e
get_left (z ∷ xs) ys (suc k) x e = get_left xs ys k x e

get_right : {X : Type 0} (xs ys : List X) (k : ℕ) → slice_get (xs ++ ys) (length xs + k) ≡ slice_get ys k
get_right [] ys k = let z : 0 + k ≡ k = omega arith in ap (slice_get ys) z
get_right (x ∷ xs) ys k = let s : suc (length xs) + k ≡ suc (length xs + k) = omega arith in ap (slice_get (x ∷ (xs ++ ys))) s ∙ get_right xs ys k

-- the methods of a type, from its first one on among those of all types
pub record FirstOf (ts : List StoredType) (n i d : ℕ) (t : StoredType) : Type 0 where
  pub before : ℕ
  pub within : i < length (firsts_of n ts)
  pub first_is : get_or (firsts_of n ts) i d ≡ n + before
  pub method : (k : ℕ) (m : StoredMethod) → slice_get t.methods k ≡ Some m → slice_get (methods_of ts) (before + k) ≡ Some m

first_of : (ts : List StoredType) (n i d : ℕ) (t : StoredType) → slice_get ts i ≡ Some t → FirstOf ts n i d t
first_of [] n i d t e = absurd cc
first_of (u ∷ ts) n zero d t e = record {
  before = 0;
  within = omega arith;
  first_is = omega arith;
  method = λ k m h. (
      let same : u ≡ t = cc in
      let z : 0 + k ≡ k = omega arith in
      let here : slice_get u.methods k ≡ Some m = subst (λ (v : StoredType). slice_get v.methods k ≡ Some m) (sym same) h in
      ap (slice_get (methods_of (u ∷ ts))) z ∙ ap (λ (l : List StoredMethod). slice_get l k) (flat_map-cons (λ (v : StoredType). v.methods) u ts) ∙ get_left u.methods (methods_of ts) k m here);
}
first_of (u ∷ ts) n (suc i) d t e =
    let r = first_of ts (n + length u.methods) i d t e in
    record {
      before = length u.methods + r.before;
      within = (let lt = r.within in omega arith);
      first_is = r.first_is ∙ regroup n (length u.methods) r.before;
      method = λ k m h. (
          ap (slice_get (methods_of (u ∷ ts))) (regroup (length u.methods) r.before k)
          ∙ ap (λ (l : List StoredMethod). slice_get l (length u.methods + (r.before + k))) (flat_map-cons (λ (v : StoredType). v.methods) u ts)
          ∙ get_right u.methods (methods_of ts) (r.before + k) ∙ r.method k m h);
    }
  where
    regroup : (a b c : ℕ) → a + b + c ≡ a + (b + c)
    regroup a b c = omega arith

module _ (bytes : List ℕ) (index : Index) (kept : IsKept bytes index) (views : List View) (view_is : views_in bytes ≡ views) where
  pub text_is : bytes ≡ text_of views
  text_is = kept_text bytes index kept ∙ ap text_of view_is

  pub graph_is : graph_of views ≡ kept.indexed.graph
  graph_is =
      let read = kept.indexed.read in
      ap graph_of (sym view_is ∙ views_of_read bytes kept.indexed.graph read) ∙ graph_back kept.indexed.graph (graph_found bytes kept.are kept.indexed.graph read).is

  pub well_formed : IsGraph (graph_of views)
  well_formed = subst IsGraph (sym graph_is) (graph_found bytes kept.are kept.indexed.graph kept.indexed.read).is

  -- ---- types
  pub type_there : (i d : ℕ) (t : StoredType) → HasType (graph_of views) i t → (i < length index.places.types.items) × IsTypeAt bytes (get_or index.places.types.items i d) t
  type_there i d t h =
      let g = kept.indexed.graph in
      let R = ReadAt (type_at bytes (length g.names) (length g.refs)) at_place in
      let here = subst (λ (x : Graph). HasType x i t) graph_is h in
      let z = zip_at R index.places.types.items g.types kept.indexed.types_are.types_read i t d here in
      (z.0, record { names = length g.names; refs = length g.refs; number = z.1.number; next = z.1.next; read = subst (λ (n : ℕ). type_at bytes (length g.names) (length g.refs) z.1.number n ≡ Ok (t, z.1.next)) z.1.at_is z.1.read_is })

  pub type_many : length (graph_of views).types ≡ length index.places.types.items
  type_many =
      let g = kept.indexed.graph in
      ap (λ (x : Graph). length x.types) graph_is ∙ sym (zip_length (ReadAt (type_at bytes (length g.names) (length g.refs)) at_place) index.places.types.items g.types kept.indexed.types_are.types_read)

  pub types_few : length index.places.types.items < 2 ^ 32
  types_few = subst (λ (n : ℕ). n < 2 ^ 32) (ap (λ (x : Graph). length x.types) (sym graph_is) ∙ type_many) (graph_found bytes kept.are kept.indexed.graph kept.indexed.read).is.few_types

  -- ---- methods
  pub method_there : (i k d e : ℕ) (m : StoredMethod) → HasMethod (graph_of views) i k m
      → (i < length index.places.firsts.items) × (get_or index.places.firsts.items i e + k < length index.places.methods.items) × IsMethodAt bytes (get_or index.places.methods.items (get_or index.places.firsts.items i e + k) d) m
  method_there i k d e m h =
      let g = kept.indexed.graph in
      let R = ReadAt (method_at bytes (length g.names) (length g.refs)) at_state in
      let t = h.0 in
      let here = subst (λ (x : Graph). HasType x i t) graph_is h.1 in
      let f = first_of g.types 0 i e t here in
      let firsts = kept.indexed.types_are.firsts_are in
      let first : get_or index.places.firsts.items i e ≡ f.before = ap (λ (l : List ℕ). get_or l i e) firsts ∙ f.first_is ∙ none f.before in
      let z = zip_at R index.places.methods.items (methods_of g.types) kept.indexed.types_are.methods_read (f.before + k) m d (f.method k m h.2) in
      let at : ℕ → Type 0 = λ n. (n < length index.places.methods.items) × IsMethodAt bytes (get_or index.places.methods.items n d) m in
      let there : at (f.before + k) = (z.0, record { names = length g.names; refs = length g.refs; number = z.1.number; state = z.1.state; next = z.1.next; at_is = z.1.at_is; read = z.1.read_is }) in
      let both = subst at (ap (λ (n : ℕ). n + k) (sym first)) there in
      (subst (λ (l : List ℕ). i < length l) (sym firsts) f.within, both.0, both.1)
    where
      none : (a : ℕ) → 0 + a ≡ a
      none a = omega arith

  -- ---- references
  refs_read : (count : ℕ) × (s : TablePlace) × (u4_at bytes index.refs ≡ Ok count) × (rows (ref_at bytes (length kept.indexed.graph.names)) count 0 (first_row (index.refs + 4)) ≡ Ok (kept.indexed.graph.refs, s))
  unfolding refs_at
  refs_read =
      let g = kept.indexed.graph in
      let y : List (List ℕ) × ℕ = (g.refs, kept.indexed.after_refs) in
      let a = bind_ok (u4_at bytes index.refs) _ y kept.indexed.refs_are in
      let b = bind_ok (rows (ref_at bytes (length g.names)) a.0 0 (first_row (index.refs + 4))) _ y a.2 in
      let made : List (List ℕ) × ℕ = (b.0.0, b.0.1.at) in
      let same : b.0.0 ≡ g.refs = ap (λ (z : List (List ℕ) × ℕ). z.0) (ok_is made y b.2) in
      (a.0, b.0.1, a.1, b.1 ∙ ap (λ (l : List (List ℕ)). Ok (l, b.0.1)) same)

  pub ref_many : u4_at bytes index.refs ≡ Ok (length (graph_of views).refs)
  ref_many =
      let r = refs_read in
      let many = rows_many (ref_at bytes (length kept.indexed.graph.names)) r.0 0 (first_row (index.refs + 4)) (kept.indexed.graph.refs, r.1) r.3 in
      r.2 ∙ ap (λ (n : ℕ). Ok n) (sym many ∙ ap (λ (x : Graph). length x.refs) (sym graph_is))

  pub ref_there : (r : ℕ) (row : List ℕ) → HasRef (graph_of views) r row → IsRefAt bytes (index.refs + 4 + 13 * r) row
  ref_there r row h =
      let g = kept.indexed.graph in
      let here = subst (λ (x : Graph). HasRef x r row) graph_is h in
      let a = refs_read in
      let z = nth_row (ref_at bytes (length g.names)) (λ (s : TablePlace). s.at) 13 (ref_step bytes (length g.names)) a.0 0 (first_row (index.refs + 4)) (g.refs, a.1) a.3 r row here in
      record { names = length g.names; number = z.number; state = z.state; next = z.next; at_is = z.at_is; read = z.read_is }

  pub refs_small : index.refs < 2 ^ 32
  refs_small = let le = inside_u4 bytes index.refs (length (graph_of views).refs) ref_many in let small = kept.small in omega arith

  -- ---- names
  names_are : (graph_of views).names ≡ map (text_at bytes) index.names.items
  names_are = ap (λ (x : Graph). x.names) graph_is ∙ sym kept.indexed.names_are

  pub name_many : length (graph_of views).names ≡ length index.names.items
  name_many = ap (λ (l : List (List ℕ)). length l) names_are ∙ length_map (text_at bytes) index.names.items

  pub names_few : length index.names.items < 2 ^ 32
  names_few = subst (λ (n : ℕ). n < 2 ^ 32) (ap (λ (x : Graph). length x.names) (sym graph_is) ∙ name_many) (graph_found bytes kept.are kept.indexed.graph kept.indexed.read).is.few_names

  pub name_there : (n d : ℕ) → n < length index.names.items → HasText bytes (get_or index.names.items n d) × (slice_get (graph_of views).names n ≡ Some (text_at bytes (get_or index.names.items n d)))
  name_there n d lt = (
    among_all (HasText bytes) index.names.items (get_or index.names.items n d) kept.indexed.texts (among_at index.names.items n d lt),
    ap (λ (l : List (List ℕ)). slice_get l n) names_are ∙ mapped index.names.items n lt,
  )
    where
      mapped : (xs : List ℕ) (k : ℕ) → k < length xs → slice_get (map (text_at bytes) xs) k ≡ Some (text_at bytes (get_or xs k d))
      mapped [] k lt = absurd (omega arith)
      mapped (x ∷ xs) zero lt = refl
      mapped (x ∷ xs) (suc k) lt = mapped xs k (omega arith)

-- ---- the rows within a type and within a method
module _ (text bytes : List ℕ) (same : bytes ≡ text) (place from j : ℕ) (from_is : from ≡ j) where
  pub interface_there : (t : StoredType) (n : ℕ) → IsTypeAt text place t → slice_get t.interfaces j ≡ Some n → u4_at bytes (place + 12 + 4 * from) ≡ Ok n
  interface_there t n is h =
      subst (λ (b : List ℕ). u4_at b (place + 12 + 4 * from) ≡ Ok n) (sym same)
      (subst (λ (i : ℕ). u4_at text (place + 12 + 4 * i) ≡ Ok n) (sym from_is) ((type_parts text place t is).interface j n h))

  pub field_there : (t : StoredType) (f : StoredField) (fields : ℕ) → ((u : StoredType) → IsTypeAt bytes place u → fields ≡ place + 12 + 4 * length u.interfaces) → IsTypeAt text place t → slice_get t.fields j ≡ Some f → IsFieldAt bytes (fields + 2 + 10 * from) f
  field_there t f fields find is h =
      let here = subst (λ (b : List ℕ). IsTypeAt b place t) (sym same) is in
      subst (λ (i : ℕ). IsFieldAt bytes (i + 2 + 10 * from) f) (sym (find t here))
      (subst (λ (i : ℕ). IsFieldAt bytes (place + 12 + 4 * length t.interfaces + 2 + 10 * i) f) (sym from_is) ((type_parts bytes place t here).field j f h))

pub site_there : (text bytes : List ℕ) → bytes ≡ text → (place s : ℕ) (m : StoredMethod) (x : StoredSite) → IsMethodAt text place m → slice_get m.sites s ≡ Some x → IsSiteAt bytes (place + 14 + 7 * s) x
site_there text bytes same place s m x is h =
    (method_parts bytes place m (subst (λ (b : List ℕ). IsMethodAt b place m) (sym same) is)).site s x h
