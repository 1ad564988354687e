-- What is packed reads as the files that were packed.
use Rattle.std.proofs.Common.{◌≡◌, ℕ, ◌^◌, ◌<◌, ◌≤◌, arith, true, List, [], ◌∷◌, ◌++◌, length, sum_by, get_or, refl, sym, ap, subst, ◌∙◌}
use Rattle.std.specs.Prelude.{map, Option, ◌≢◌}
use Rattle.std.specs.Int.{w16, w32, from_be_bytes}
use Rattle.std.specs.List.{AllZip, AllPairs, flat_map, list_all}
use Rattle.std.specs.declared.cmp.Ordering.TheVariants.{Less}
use Rattle.std.proofs.lemmas.Bool.{and_parts}
use Rattle.std.proofs.lemmas.List.{append-nil}
use Rattle.std.proofs.lemmas.List.Concat.{flat_map-cons}
use Rattle.std.proofs.lemmas.List.Sums.{sum_by-cons}
use Rattle.std.proofs.lemmas.Map.Keys.{Less-from_sorted}
use Rattle.std.proofs.lemmas.Nat.{from_be_bytes-to_be_bytes_2, from_be_bytes-to_be_bytes_4}
use Rattle.fcg_grammar.specs.Spell.{u2, u4}
use Rattle.fcg_grammar.specs.Table.{order, Rises}
use Rattle.fcg_grammar.proofs.TableLaws.{not_below_itself}
use Rattle.fcg_bytes.specs.Files.{File}
use Rattle.fcg_views.specs.declared.view.View.{View}
use Rattle.fcg_class.specs.Path.{is_path}
use Rattle.fcg_class.specs.Bundle.{Entry, entry, bundle, Content, IsEntryOf, views_of, sites_in}
use Rattle.fcg_class.specs.Pack.{ArePacked, HoldsIn, ReadsAs, bundle_limit}
use Rattle.fcg_class.specs.Internal.Packing.{entry_size}
use Rattle.fcg_class.proofs.BundleLaws.{reopened, short_path}
use Rattle.fcg_class.proofs.PackLemmas.{bundle_size_is, entries_few}

-- ---- they are entries of a bundle

pub differ : (paths : List (List ℕ)) → Rises paths → AllPairs (λ p q. p ≢ q) paths
differ paths rise i j d lt within same = not_below_itself (get_or paths j d) (subst (λ (p : List ℕ). order p (get_or paths j d) ≡ Less) same (Less-from_sorted order paths i j d rise lt within))

are_entries : (es : List Entry) (rs : List (Option View)) → list_all (λ e. is_path e.path) es ≡ true → sum_by entry_size es ≤ bundle_limit → AllZip HoldsIn es rs → AllZip IsEntryOf es rs
are_entries [] [] paths short holds = tt
are_entries [] (r ∷ rs) paths short holds = absurd holds
are_entries (e ∷ es) [] paths short holds = absurd holds
are_entries (e ∷ es) (r ∷ rs) paths short holds =
    let good = and_parts (is_path e.path) (list_all (λ x. is_path x.path) es) paths in
    let size = sum_by-cons entry_size e es in (
      record { path = good.0; few = omega (arith, short, size); holds = holds.0 },
      are_entries es rs good.1 (omega (arith, short, size)) holds.1,
    )

module _ (told : Option (List File)) (folder : List ℕ) (es : List Entry) (are : ArePacked told folder es) where
  sizes : sum_by entry_size es ≤ bundle_limit
  sizes = let n = bundle_size_is es in omega (arith, n, are.short)

  pub packed_read : (rs : List (Option View)) → AllZip HoldsIn es rs → sum_by sites_in rs ≤ 4000000 → Content (bundle es) (views_of es rs)
  packed_read rs holds few = record {
    entries = es;
    spelled = refl;
    many = omega (arith, entries_few es, sizes);
    reads = rs;
    each = are_entries es rs are.paths sizes holds;
    views_are = refl;
    distinct = differ (map (λ e. e.path) es) are.rise;
    few_sites = few;
  }

-- ---- and the only ones

front_same : (x y a b : List ℕ) → length x ≡ length y → x ++ a ≡ y ++ b → (x ≡ y) × (a ≡ b)
front_same [] [] a b long same = (refl, same)
front_same [] (m ∷ y) a b long same = absurd (omega (arith, long))
front_same (n ∷ x) [] a b long same = absurd (omega (arith, long))
front_same (n ∷ x) (m ∷ y) a b long same =
    let tails : x ++ a ≡ y ++ b = cc in
    let heads : n ≡ m = cc in
    let rest = front_same x y a b (omega (arith, long)) tails in
    (let t = rest.0 in cc, rest.1)

two_same : (n m : ℕ) → n < 2 ^ 16 → m < 2 ^ 16 → u2 n ≡ u2 m → n ≡ m
two_same n m ln lm same = sym (from_be_bytes-to_be_bytes_2 n ln) ∙ ap (from_be_bytes w16) same ∙ from_be_bytes-to_be_bytes_2 m lm

four_same : (n m : ℕ) → n < 2 ^ 32 → m < 2 ^ 32 → u4 n ≡ u4 m → n ≡ m
four_same n m ln lm same = sym (from_be_bytes-to_be_bytes_4 n ln) ∙ ap (from_be_bytes w32) same ∙ from_be_bytes-to_be_bytes_4 m lm

-- what an entry and a rest are spelled as tells both
entry_same : (e f : Entry) (xs ys : List ℕ) → is_path e.path ≡ true → is_path f.path ≡ true → length e.body < 2 ^ 32 → length f.body < 2 ^ 32 → entry e ++ xs ≡ entry f ++ ys → (e ≡ f) × (xs ≡ ys)
entry_same e f xs ys ep fp eb fb same =
    let opened = sym (reopened e xs) ∙ same ∙ reopened f ys in
    let a = front_same (u2 (length e.path)) (u2 (length f.path)) _ _ refl opened in
    let b = front_same e.path f.path _ _ (two_same (length e.path) (length f.path) (short_path e.path ep).1 (short_path f.path fp).1 a.0) a.1 in
    let c = front_same (u4 (length e.body)) (u4 (length f.body)) _ _ refl b.1 in
    let d = front_same e.body f.body xs ys (four_same (length e.body) (length f.body) eb fb c.0) c.1 in
    (let p = b.0 in let q = d.0 in both e f p q, d.1)
  where
    both : (e f : Entry) → e.path ≡ f.path → e.body ≡ f.body → e ≡ f
    both e f p q = λ i. record { path = p i; body = q i }

entries_same : (es fs : List Entry) (rs : List (Option View)) → list_all (λ e. is_path e.path) es ≡ true → sum_by entry_size es ≤ bundle_limit → AllZip IsEntryOf fs rs → length es ≡ length fs → flat_map entry es ≡ flat_map entry fs → es ≡ fs
entries_same [] [] rs paths short each long same = refl
entries_same [] (f ∷ fs) rs paths short each long same = absurd (omega (arith, long))
entries_same (e ∷ es) [] rs paths short each long same = absurd (omega (arith, long))
entries_same (e ∷ es) (f ∷ fs) [] paths short each long same = absurd each
entries_same (e ∷ es) (f ∷ fs) (r ∷ rs) paths short each long same =
    let good = and_parts (is_path e.path) (list_all (λ x. is_path x.path) es) paths in
    let size = sum_by-cons entry_size e es in
    let is = entry_same e f (flat_map entry es) (flat_map entry fs) good.0 each.0.path (omega (arith, short, size)) each.0.few (sym (flat_map-cons entry e es) ∙ same ∙ flat_map-cons entry f fs) in
    let rest = entries_same es fs rs good.1 (omega (arith, short, size)) each.1 (omega (arith, long)) is.1 in
    let first = is.0 in cc

each_holds : (es : List Entry) (rs : List (Option View)) → AllZip IsEntryOf es rs → AllZip HoldsIn es rs
each_holds [] [] each = tt
each_holds [] (r ∷ rs) each = absurd each
each_holds (e ∷ es) [] each = absurd each
each_holds (e ∷ es) (r ∷ rs) each = (each.0.holds, each_holds es rs each.1)

pub packed_only : (told : Option (List File)) (folder : List ℕ) (es : List Entry) → ArePacked told folder es → (views : List View) → Content (bundle es) views → ReadsAs es views
packed_only told folder es are views c =
    let opened = front_same (u4 0x46434742) (u4 0x46434742) _ _ refl c.spelled in
    let versions = front_same (u2 1) (u2 1) _ _ refl opened.1 in
    let counts = front_same (u4 (length es)) (u4 (length c.entries)) _ _ refl versions.1 in
    let n = bundle_size_is es in
    let long = four_same (length es) (length c.entries) (omega (arith, entries_few es, n, are.short)) c.many counts.0 in
    let flat = sym (append-nil (flat_map entry es)) ∙ counts.1 ∙ append-nil (flat_map entry c.entries) in
    let same = entries_same es c.entries c.reads are.paths (omega (arith, n, are.short)) c.each long flat in
    record {
      reads = c.reads;
      each = subst (λ (xs : List Entry). AllZip HoldsIn xs c.reads) (sym same) (each_holds c.entries c.reads c.each);
      views_are = c.views_are ∙ ap (λ (xs : List Entry). views_of xs c.reads) (sym same);
    }
