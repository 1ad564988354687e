-- The stored graph of views that are valid and fit is well formed.
use Rattle.std.proofs.Common.{◌≡◌, ℕ, ◌^◌, ◌<◌, ◌≤◌, Bool, true, false, cond, List, [], ◌∷◌, ◌++◌, length, get_or, refl, sym, ap, subst, ◌∙◌, ◌⊎◌, inl, inr, arith}
use Rattle.std.specs.Prelude.{map, All, Option, Some, None, nat_eq}
use Rattle.std.specs.List.{flat_map, AllByRecursion, IsDistinct}
use Rattle.std.specs.Cmp.Lexicographic.{pointwise, same_text, nat_list_eq_equiv}
use Rattle.std.proofs.lemmas.List.Concat.{flat_map-cons}
use Rattle.std.proofs.lemmas.List.Elements.{recursion_from_All, All-from_recursion}
use Rattle.std.proofs.lemmas.List.Sums.{sum_by-cons}
use Rattle.std.proofs.lemmas.Map.Keys.{IsDistinct-cons, IsDistinct-head, IsDistinct-tail}
use Rattle.fcg_grammar.proofs.Among.{Among, Contains-among, among_at, among_left, among_right, among_either, among_all, all_from_among, among_map, map_among, among_flat, flat_among, flat_map_map, map_append, map_map}
use Rattle.fcg_views.specs.declared.view.View.{View}
use Rattle.fcg_views.specs.declared.view.Method.{Method}
use Rattle.fcg_views.specs.declared.view.Site.{Site}
use Rattle.fcg_views.specs.declared.view.Ref.{Ref}
use Rattle.fcg_views.specs.Valid as valid
use Rattle.fcg_views.specs.Valid.{IsShort, IsShortOrNone, HasShortNames, IsValidField, IsValidMethod, IsValid, name_count, is_alike}
use Rattle.fcg_grammar.specs.Table.{table, place}
use Rattle.fcg_partial.specs.Graph.{Graph, StoredSite, FitsName, FitsRef, FitsType, IsUsed, IsGraph, key, site_count, ref_uses, super_uses, field_uses, method_uses, type_uses, name_uses, method_targets, type_targets, ref_uses_of}
use Rattle.fcg_views.specs.NamesIn.{names_of_ref, names_of_super, names_of_field}
use Rattle.fcg_partial.specs.Views.{names_of_method, names_of_view, targets_of_method, targets_of_view, targets_of, mentions, names_of, refs_of, ref_row, super_number_of, site_row, field_row, method_row, type_row, graph_by, graph_of}
use Rattle.fcg_partial.specs.SmallNumbers.{IsSmallSite, IsSmallField, IsSmallMethod, IsSmallView}
use Rattle.fcg_partial.specs.Internal.Written.{HasFewSites, HasCounts}
use Rattle.fcg_grammar.proofs.TableLaws.{table_rises, table_among, among_table, at_place, place_at}
use Rattle.fcg_partial.proofs.IndexLaws.{length_map}
use Rattle.fcg_partial.proofs.Counts.{few_views, few_names, few_refs}

all_append : {Y : Type 0} (P : Y → Type 0) (xs ys : List Y) → AllByRecursion P xs → AllByRecursion P ys → AllByRecursion P (xs ++ ys)
all_append P [] ys p q = q
all_append P (x ∷ xs) ys p q = (p.0, all_append P xs ys p.1 q)

flat_all : {X Y : Type 0} (P : Y → Type 0) (f : X → List Y) (xs : List X) → AllByRecursion (λ x. AllByRecursion P (f x)) xs → AllByRecursion P (flat_map f xs)
flat_all P f [] all = tt
flat_all P f (x ∷ xs) all = rw flat_map-cons (all_append P (f x) (flat_map f xs) all.0 (flat_all P f xs all.1))

all_of : {X : Type 0} (P Q : X → Type 0) → ((x : X) → P x → Q x) → (xs : List X) → AllByRecursion P xs → AllByRecursion Q xs
all_of P Q each [] all = tt
all_of P Q each (x ∷ xs) all = (each x all.0, all_of P Q each xs all.1)

map_all : {X Y : Type 0} (P : X → Type 0) (Q : Y → Type 0) (f : X → Y) → ((x : X) → P x → Q (f x)) → (xs : List X) → AllByRecursion P xs → AllByRecursion Q (map f xs)
map_all P Q f each [] all = tt
map_all P Q f each (x ∷ xs) all = (each x all.0, map_all P Q f each xs all.1)

-- ---- the names are short
super_short : (s : Option (List ℕ)) → IsShortOrNone s → AllByRecursion IsShort (names_of_super s)
super_short None h = tt
super_short (Some n) h = (h, tt)

view_short : (v : View) → IsValid v → AllByRecursion IsShort (names_of_view v)
view_short v is =
    let fields = flat_all IsShort names_of_field v.fields (all_of IsValidField (λ f. AllByRecursion IsShort (names_of_field f)) (λ f p. (p.0, (p.1, tt))) v.fields (recursion_from_All IsValidField v.fields is.fields.1)) in
    let methods = flat_all IsShort names_of_method v.methods (all_of IsValidMethod (λ m. AllByRecursion IsShort (names_of_method m)) (λ m p. (p.0, (p.1, tt))) v.methods (recursion_from_All IsValidMethod v.methods is.methods.1)) in (
      is.name,
      all_append IsShort (names_of_super v.superclass) (v.interfaces ++ (flat_map names_of_field v.fields ++ flat_map names_of_method v.methods)) (super_short v.superclass is.superclass)
          (all_append IsShort v.interfaces (flat_map names_of_field v.fields ++ flat_map names_of_method v.methods) (recursion_from_All IsShort v.interfaces is.interfaces.1)
          (all_append IsShort (flat_map names_of_field v.fields) (flat_map names_of_method v.methods) fields methods)),
    )

abbrev HasShort : Ref → Type 0
HasShort r = AllByRecursion IsShort (names_of_ref r)

method_targets_short : (m : Method) → IsValidMethod m → AllByRecursion HasShort (targets_of_method m)
method_targets_short m is = map_all HasShortNames HasShort (λ (s : Site). s.target) (λ s p. (p.0, (p.1, (p.2, tt)))) m.sites (recursion_from_All HasShortNames m.sites is.2)

targets_short : (v : View) → IsValid v → AllByRecursion HasShort (targets_of_view v)
targets_short v is = flat_all HasShort targets_of_method v.methods (all_of IsValidMethod (λ m. AllByRecursion HasShort (targets_of_method m)) method_targets_short v.methods (recursion_from_All IsValidMethod v.methods is.methods.1))

mentions_short : (vs : List View) → AllByRecursion IsValid vs → AllByRecursion IsShort (mentions vs)
mentions_short vs all = all_append IsShort (flat_map names_of_ref (targets_of vs)) (flat_map names_of_view vs)
    (flat_all IsShort names_of_ref (targets_of vs) (flat_all HasShort targets_of_view vs (all_of IsValid (λ v. AllByRecursion HasShort (targets_of_view v)) targets_short vs all)))
    (flat_all IsShort names_of_view vs (all_of IsValid (λ v. AllByRecursion IsShort (names_of_view v)) view_short vs all))

short_fits : (name : List ℕ) → IsShort name → FitsName name
short_fits name le = omega arith

-- ---- the counts have room
method_sites : (m : Method) (ms : List Method) → Among m ms → length m.sites ≤ valid.site_count ms
method_sites m [] h = absurd h
method_sites m (n ∷ ms) (inl e) = let a = sum_by-cons (λ (x : Method). length x.sites) n ms in let b = ap (λ (x : Method). length x.sites) e in omega arith
method_sites m (n ∷ ms) (inr h) = let a = sum_by-cons (λ (x : Method). length x.sites) n ms in let b = method_sites m ms h in omega arith

counts_of : (v : View) → IsValid v → HasCounts v
counts_of v is = record {
  interfaces = (let le = is.interfaces.0 in omega arith);
  fields = (let le = is.fields.0 in omega arith);
  methods = (let le = is.methods.0 in omega arith);
  sites = All-from_recursion HasFewSites v.methods (all_from_among HasFewSites v.methods (λ m h. (let a = method_sites m v.methods h in let b = is.few_sites in omega arith)));
}

pub have_counts : (vs : List View) → All IsValid vs → All HasCounts vs
have_counts vs all = All-from_recursion HasCounts vs (all_of IsValid HasCounts counts_of vs (recursion_from_All IsValid vs all))

-- ---- the types fit
module _ (names refs : List (List ℕ)) where
  count_is : (ms : List Method) → site_count (map (method_row names refs) ms) ≡ valid.site_count ms
  count_is [] = refl
  count_is (m ∷ ms) = let a = length_map (site_row names refs) m.sites in let b = count_is ms in let c = sum_by-cons (λ (x : Method). length x.sites) m ms in omega arith

  same_name : (x y : List ℕ) → Among x names → place names x ≡ place names y → Among y names → x ≡ y
  same_name x y h e k = sym (at_place names x [] h).1 ∙ ap (λ (n : ℕ). get_or names n []) e ∙ (at_place names y [] k).1

  abbrev Known : Method → Type 0
  Known m = Among m.name names × Among m.desc names

  both_heads : (a b x y : ℕ) → pointwise nat_eq (a ∷ b ∷ []) (x ∷ y ∷ []) ≡ true → (a ≡ x) × (b ≡ y)
  both_heads a b x y e = let same = same_text (a ∷ b ∷ []) (x ∷ y ∷ []) (sym e) in (ap (λ (l : List ℕ). get_or l 0 0) same, ap (λ (l : List ℕ). get_or l 1 0) same)

  unlike : (m n : Method) → Known m → Known n → is_alike m n ≡ false → pointwise nat_eq (key (method_row names refs m)) (key (method_row names refs n)) ≡ false
  unlike m n p q apart =
      elim (pointwise nat_eq (key (method_row names refs m)) (key (method_row names refs n))) as (λ b. pointwise nat_eq (key (method_row names refs m)) (key (method_row names refs n)) ≡ b → b ≡ false) [
        | true ↦ λ t. absurd (
            let h = both_heads (place names m.name) (place names m.desc) (place names n.name) (place names n.desc) t in
            let a : pointwise nat_eq m.name n.name ≡ true = subst (λ (x : List ℕ). pointwise nat_eq m.name x ≡ true) (same_name m.name n.name p.0 h.0 q.0) (nat_list_eq_equiv.refl m.name) in
            let b : pointwise nat_eq m.desc n.desc ≡ true = subst (λ (x : List ℕ). pointwise nat_eq m.desc x ≡ true) (same_name m.desc n.desc p.1 h.1 q.1) (nat_list_eq_equiv.refl m.desc) in
            let alike : is_alike m n ≡ true = rw (a, b) refl in
            let bad = sym alike ∙ apart in cc)
        | false ↦ λ t. refl
      ] refl

  apart_from : (m : Method) (ms : List Method) → Known m → AllByRecursion Known ms → AllByRecursion (λ n. is_alike m n ≡ false) ms → AllByRecursion (λ k. pointwise nat_eq (key (method_row names refs m)) k ≡ false) (map key (map (method_row names refs) ms))
  apart_from m [] p q all = tt
  apart_from m (n ∷ ms) p q all = (unlike m n p q.0 all.0, apart_from m ms p q.1 all.1)

  keys_apart : (ms : List Method) → AllByRecursion Known ms → IsDistinct is_alike ms → IsDistinct (pointwise nat_eq) (map key (map (method_row names refs) ms))
  unfolding IsDistinct
  keys_apart [] known d = tt
  keys_apart (m ∷ ms) known d = IsDistinct-cons (pointwise nat_eq) (key (method_row names refs m)) (map key (map (method_row names refs) ms)) (apart_from m ms known.0 known.1 (IsDistinct-head is_alike m ms d)) (keys_apart ms known.1 (IsDistinct-tail is_alike m ms d))

  two_bytes : (a b : ℕ) → a ≡ b → b ≤ 65535 → a < 2 ^ 16
  two_bytes a b e le = omega arith

  type_fits : (v : View) → IsValid v → IsSmallView v → AllByRecursion Known v.methods → FitsType (type_row names refs v)
  type_fits v is small known =
      let methods = recursion_from_All IsSmallMethod v.methods small.methods in
      record {
        flags = small.flags;
        interfaces = two_bytes _ _ (length_map (place names) v.interfaces) is.interfaces.0;
        fields = two_bytes _ _ (length_map (field_row names) v.fields) is.fields.0;
        field_flags = map_all IsSmallField (λ f. f.flags < 2 ^ 16) (field_row names) (λ f p. p) v.fields (recursion_from_All IsSmallField v.fields small.fields);
        methods = two_bytes _ _ (length_map (method_row names refs) v.methods) is.methods.0;
        method_flags = map_all IsSmallMethod (λ m. m.flags < 2 ^ 16) (method_row names refs) (λ m p. p.flags) v.methods methods;
        places = map_all IsSmallMethod (λ m. AllByRecursion (λ s. s.pc < 2 ^ 16) m.sites) (method_row names refs) (λ m p. map_all IsSmallSite (λ s. s.pc < 2 ^ 16) (site_row names refs) (λ s q. q) m.sites (recursion_from_All IsSmallSite m.sites p.sites)) v.methods methods;
        apart = keys_apart v.methods known is.distinct;
        few = subst (λ (n : ℕ). n ≤ 1000000) (sym (count_is v.methods)) is.few_sites;
      }

  -- ---- the numbers that the rows have are those of the names that the views have
  super_uses_are : (s : Option (List ℕ)) → super_uses (super_number_of names s) ≡ map (place names) (names_of_super s)
  super_uses_are None = refl
  super_uses_are (Some n) = refl

  map_append4 : (a b c d : List (List ℕ)) → map (place names) (a ++ (b ++ (c ++ d))) ≡ map (place names) a ++ (map (place names) b ++ (map (place names) c ++ map (place names) d))
  map_append4 a b c d = rw (map_append (place names) a (b ++ (c ++ d)), map_append (place names) b (c ++ d), map_append (place names) c d) refl

  type_uses_are : (v : View) → type_uses (type_row names refs v) ≡ map (place names) (names_of_view v)
  type_uses_are v =
      let fields = flat_map_map field_uses (field_row names) (place names) names_of_field (λ f. refl) v.fields in
      let methods = flat_map_map method_uses (method_row names refs) (place names) names_of_method (λ m. refl) v.methods in
      let split = map_append4 (names_of_super v.superclass) v.interfaces (flat_map names_of_field v.fields) (flat_map names_of_method v.methods) in
      ap (λ (l : List ℕ). place names v.name ∷ l) (rw (super_uses_are v.superclass, fields, methods) (sym split))

  types_uses_are : (vs : List View) → flat_map type_uses (map (type_row names refs) vs) ≡ map (place names) (flat_map names_of_view vs)
  types_uses_are vs = flat_map_map type_uses (type_row names refs) (place names) names_of_view type_uses_are vs

  abbrev target_number : Ref → ℕ
  target_number r = place refs (ref_row names r)

  method_targets_are : (m : Method) → method_targets (method_row names refs m) ≡ map target_number (targets_of_method m)
  method_targets_are m = map_map (λ (s : StoredSite). s.reference) (site_row names refs) m.sites ∙ sym (map_map target_number (λ (s : Site). s.target) m.sites)

  targets_are : (vs : List View) → flat_map type_targets (map (type_row names refs) vs) ≡ map target_number (targets_of vs)
  targets_are vs = flat_map_map type_targets (type_row names refs) target_number targets_of_view (λ v. flat_map_map method_targets (method_row names refs) target_number targets_of_method method_targets_are v.methods) vs

flag_fits : (b : Bool) → cond b 1 0 ≤ 1
flag_fits true = omega arith
flag_fits false = omega arith

module _ (vs : List View) (are : AllByRecursion IsValid vs) where
  pub names_fit : AllByRecursion FitsName (names_of vs)
  unfolding names_of
  names_fit = all_from_among FitsName (table (mentions vs)) (λ x h. short_fits x (among_all IsShort (mentions vs) x (mentions_short vs are) (among_table (mentions vs) x h)))

  pub refs_fit : AllByRecursion FitsRef (refs_of (names_of vs) vs)
  unfolding names_of refs_of
  refs_fit = all_from_among FitsRef (table (map (ref_row (table (mentions vs))) (targets_of vs))) (λ row h. (
      let m = map_among (ref_row (table (mentions vs))) row (targets_of vs) (among_table (map (ref_row (table (mentions vs))) (targets_of vs)) row h) in
      subst FitsRef m.2 (refl, flag_fits m.0.owner_is_interface_ref)))

module _ (vs : List View) (are : AllByRecursion IsValid vs) (small : AllByRecursion IsSmallView vs) (fits : name_count vs < 2 ^ 32) where
  abbrev names : List (List ℕ)
  names = table (mentions vs)

  abbrev refs : List (List ℕ)
  refs = table (map (ref_row names) (targets_of vs))

  abbrev g : Graph
  g = graph_by names refs vs

  by_ref : (r : Ref) (x : List ℕ) → Among r (targets_of vs) → Among x (names_of_ref r) → Among x names
  by_ref r x h i = table_among (mentions vs) x (among_left x (flat_map names_of_ref (targets_of vs)) (flat_map names_of_view vs) (among_flat names_of_ref r x (targets_of vs) h i))

  by_view : (x : List ℕ) → Among x (flat_map names_of_view vs) → Among x names
  by_view x h = table_among (mentions vs) x (among_right x (flat_map names_of_ref (targets_of vs)) (flat_map names_of_view vs) h)

  known_methods : (v : View) → Among v vs → AllByRecursion (Known names refs) v.methods
  known_methods v h = all_from_among (Known names refs) v.methods (λ m i. (at v h m m.name i (inl refl), at v h m m.desc i (inr (inl refl))))
    where
      at : (v : View) → Among v vs → (m : Method) (x : List ℕ) → Among m v.methods → Among x (names_of_method m) → Among x names
      at v h m x i j = by_view x (among_flat names_of_view v x vs h (inr (among_right x (names_of_super v.superclass) (v.interfaces ++ (flat_map names_of_field v.fields ++ flat_map names_of_method v.methods)) (among_right x v.interfaces (flat_map names_of_field v.fields ++ flat_map names_of_method v.methods) (among_right x (flat_map names_of_field v.fields) (flat_map names_of_method v.methods) (among_flat names_of_method m x v.methods i j))))))

  types_fit : AllByRecursion FitsType (map (type_row names refs) vs)
  types_fit = all_from_among FitsType (map (type_row names refs) vs) (λ t h. (
      let m = map_among (type_row names refs) t vs h in
      subst FitsType m.2 (type_fits names refs m.0 (among_all IsValid vs m.0 are m.1) (among_all IsSmallView vs m.0 small m.1) (known_methods m.0 m.1))))

  -- ---- each name is used
  use_below : (k : ℕ) → Among k (flat_map ref_uses refs) ⊎ Among k (flat_map type_uses (map (type_row names refs) vs)) → k < length names
  use_below k (inl h) =
      let f = flat_among ref_uses k refs h in
      let m = map_among (ref_row names) f.0 (targets_of vs) (among_table (map (ref_row names) (targets_of vs)) f.0 f.1) in
      let here : Among k (map (place names) (names_of_ref m.0)) = subst (λ (row : List ℕ). Among k (ref_uses row)) (sym m.2) f.2 in
      let x = map_among (place names) k (names_of_ref m.0) here in
      subst (λ (n : ℕ). n < length names) x.2 (at_place names x.0 [] (by_ref m.0 x.0 m.1 x.1)).0
  use_below k (inr h) =
      let x = map_among (place names) k (flat_map names_of_view vs) (subst (λ (l : List ℕ). Among k l) (types_uses_are names refs vs) h) in
      subst (λ (n : ℕ). n < length names) x.2 (at_place names x.0 [] (by_view x.0 x.1)).0

  used_by : (x : List ℕ) → Among x (flat_map names_of_ref (targets_of vs)) ⊎ Among x (flat_map names_of_view vs) → Among (place names x) (name_uses g)
  used_by x (inl h) =
      let f = flat_among names_of_ref x (targets_of vs) h in
      let row = table_among (map (ref_row names) (targets_of vs)) (ref_row names f.0) (among_map (ref_row names) f.0 (targets_of vs) f.1) in
      let found : Among (place names x) (ref_uses (ref_row names f.0)) = among_map (place names) x (names_of_ref f.0) f.2 in
      among_left (place names x) (flat_map ref_uses refs) (flat_map type_uses (map (type_row names refs) vs)) (among_flat ref_uses (ref_row names f.0) (place names x) refs row found)
  used_by x (inr h) =
      among_right (place names x) (flat_map ref_uses refs) (flat_map type_uses (map (type_row names refs) vs))
      (subst (λ (l : List ℕ). Among (place names x) l) (sym (types_uses_are names refs vs)) (among_map (place names) x (flat_map names_of_view vs) h))

  names_used : IsUsed (length names) (name_uses g)
  names_used = record {
    below = all_from_among (λ k. k < length names) (name_uses g) (λ k h. use_below k (among_either k (flat_map ref_uses refs) (flat_map type_uses (map (type_row names refs) vs)) h));
    each = λ k lt. (
        let x = get_or names k [] in
        let here = among_table (mentions vs) x (among_at names k [] lt) in
        let found = used_by x (among_either x (flat_map names_of_ref (targets_of vs)) (flat_map names_of_view vs) here) in
        Contains-among k (name_uses g) (subst (λ (n : ℕ). Among n (name_uses g)) (place_at names k [] (table_rises (mentions vs)) lt) found));
  }

  refs_used : IsUsed (length refs) (ref_uses_of g)
  refs_used =
      let rows = map (ref_row names) (targets_of vs) in
      record {
        below = all_from_among (λ k. k < length refs) (ref_uses_of g) (λ k h. (
            let m = map_among (target_number names refs) k (targets_of vs) (subst (λ (l : List ℕ). Among k l) (targets_are names refs vs) h) in
            subst (λ (n : ℕ). n < length refs) m.2 (at_place refs (ref_row names m.0) [] (table_among rows (ref_row names m.0) (among_map (ref_row names) m.0 (targets_of vs) m.1))).0));
        each = λ k lt. (
            let row = get_or refs k [] in
            let m = map_among (ref_row names) row (targets_of vs) (among_table rows row (among_at refs k [] lt)) in
            let found : Among (place refs row) (ref_uses_of g) = subst (λ (l : List ℕ). Among (place refs row) l) (sym (targets_are names refs vs)) (subst (λ (z : List ℕ). Among (place refs z) (map (target_number names refs) (targets_of vs))) m.2 (among_map (target_number names refs) m.0 (targets_of vs) m.1)) in
            Contains-among k (ref_uses_of g) (subst (λ (n : ℕ). Among n (ref_uses_of g)) (place_at refs k [] (table_rises rows) lt) found));
      }

  below_few : (a : ℕ) → a ≤ name_count vs → a < 2 ^ 32
  below_few a le = omega arith

  -- each list of valid views that fits has a stored graph
  pub graph_is : IsGraph (graph_of vs)
  unfolding graph_of names_of refs_of
  graph_is = record {
    few_names = below_few _ (few_names vs);
    names = names_fit vs are;
    names_rise = table_rises (mentions vs);
    few_refs = below_few _ (few_refs names vs);
    refs = refs_fit vs are;
    refs_rise = table_rises (map (ref_row names) (targets_of vs));
    few_types = below_few _ (subst (λ (n : ℕ). n ≤ name_count vs) (sym (length_map (type_row names refs) vs)) (few_views vs));
    types = types_fit;
    names_used = names_used;
    refs_used = refs_used;
  }
