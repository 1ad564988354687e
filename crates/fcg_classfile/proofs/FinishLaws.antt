-- Methods with the handle sites of their calls: what is read are these sites, and they are read.
use Rattle.std.proofs.Common.{◌≡◌, ℕ, ◌+◌, ◌≤◌, Bool, true, false, cond, List, [], ◌∷◌, length, ltb, refl, sym, ap, subst, ◌∙◌, arith}
use Rattle.std.specs.Prelude.{Ok, sum_by}
use Rattle.std.specs.List.{AllZip}
use Rattle.std.proofs.lemmas.List.Sums.{sum_by-cons}
use Rattle.fcg_grammar.specs.Rows.{carried}
use Rattle.fcg_grammar.proofs.LawLemmas.{bind_ok}
use Rattle.fcg_grammar.proofs.Standing.{ok_is}
use Rattle.fcg_views.specs.declared.view.Method.{Method}
use Rattle.fcg_views.specs.declared.view.Site.{Site}
use Rattle.fcg_classfile.specs.ClassFile.{Constant, BootstrapMethod}
use Rattle.fcg_classfile.specs.Sites.{concat_sites, merged, AreOfCall, AreSites}
use Rattle.fcg_views.specs.Valid.{site_count}
use Rattle.fcg_classfile.specs.Breaks.Pool.{Entries}
use Rattle.fcg_classfile.specs.Breaks.Bootstrap.{call_sites}
use Rattle.fcg_classfile.specs.Breaks.Members.{Unfinished, with_sites, finished, all_finished}
use Rattle.fcg_classfile.specs.Tables.{Holds}
use Rattle.fcg_classfile.proofs.HandleLaws.{each_found, each_only, calls_count}

either_long : (b : Bool) (xs ys : List Site) (n : ℕ) → length xs ≡ n → length ys ≡ n → length (cond b xs ys) ≡ n
either_long true xs ys n p q = p
either_long false xs ys n p q = q

-- two lists in one have all their sites
pub many_merged : (ss hs : List Site) → length (merged ss hs) ≡ length ss + length hs
many_merged [] hs = omega arith
many_merged (s ∷ ss) [] = omega arith
many_merged (s ∷ ss) (h ∷ hs) =
    let first = many_merged (s ∷ ss) hs in
    let second = many_merged ss (h ∷ hs) in
    either_long (ltb h.pc s.pc) (h ∷ merged (s ∷ ss) hs) (s ∷ merged ss (h ∷ hs)) (length (s ∷ ss) + length (h ∷ hs)) (omega (arith, first)) (omega (arith, second))

-- the sites of the instructions of methods
abbrev pub own_count : List Unfinished → ℕ
own_count ms = sum_by (λ m. length m.0.sites) ms

pub own_more : (m : Unfinished) (ms : List Unfinished) → own_count (m ∷ ms) ≡ length m.0.sites + own_count ms
own_more m ms = sum_by-cons (λ (x : Unfinished). length x.0.sites) m ms

count_more : (v : Method) (vs : List Method) → site_count (v ∷ vs) ≡ length v.sites + site_count vs
count_more v vs = sum_by-cons (λ (x : Method). length x.sites) v vs

-- a method with all sites is the one that was read, but for its handle sites
pub record FinishesAs (cs : List Constant) (rows : List BootstrapMethod) (m : Unfinished) (v : Method) : Type 0 where
  pub same : with_sites m.0 v.sites ≡ v
  pub sites : AreSites cs rows (record { sites = m.0.sites; calls = m.1.calls }) v.sites

module _ (pool : Entries) (constants : List Constant) (holds : Holds pool constants) (rows : List BootstrapMethod) where
  abbrev Each : List Unfinished → List Method → Type 0
  Each ms vs = AllZip (FinishesAs constants rows) ms vs

  -- a method has as many sites more as it has handle sites
  grown : (m : Unfinished) (v : Method) → (is : FinishesAs constants rows m v) → length v.sites ≡ length m.0.sites + length (concat_sites is.sites.each)
  grown m v is = ap length is.sites.merged_are ∙ many_merged m.0.sites (concat_sites is.sites.each)

  all_grown : (ms : List Unfinished) (vs : List Method) → Each ms vs → own_count ms ≤ site_count vs
  all_grown [] [] z = omega arith
  all_grown [] (v ∷ vs) z = absurd z
  all_grown (m ∷ ms) [] z = absurd z
  all_grown (m ∷ ms) (v ∷ vs) z =
      let below = all_grown ms vs z.1 in
      let here = grown m v z.0 in
      omega (arith, below, here, own_more m ms, count_more v vs)

  record FoundOne (m : Unfinished) (count : ℕ) (y : Method × ℕ) : Type 0 where
    is : FinishesAs constants rows m y.0
    count_is : y.1 + length m.0.sites ≡ count + length y.0.sites
    few : y.1 ≤ 1000000

  one_found : (m : Unfinished) (count : ℕ) (y : Method × ℕ) → count ≤ 1000000 → finished pool rows m count ≡ Ok y → FoundOne m count y
  unfolding finished
  one_found m count y le e =
      let a = bind_ok (carried (call_sites pool rows m.1.begin) m.1.calls count) _ y e in
      let each = each_found (AreOfCall constants rows) (call_sites pool rows m.1.begin) (calls_count pool constants holds rows m.1.begin) m.1.calls count a.0 le a.1 in
      let c = each.count_is in
      subst (λ (z : Method × ℕ). FoundOne m count z) (ok_is (with_sites m.0 (merged m.0.sites (concat_sites a.0.0)), a.0.1) y a.2) (record {
        is = record { same = refl; sites = record { each = a.0.0; each_is = each.each; merged_are = refl } };
        count_is = omega (arith, c, many_merged m.0.sites (concat_sites a.0.0));
        few = each.few;
      })

  one_only : (m : Unfinished) (v : Method) (count : ℕ) → (is : FinishesAs constants rows m v) → count + length (concat_sites is.sites.each) ≤ 1000000 → finished pool rows m count ≡ Ok (v, count + length (concat_sites is.sites.each))
  unfolding finished
  one_only m v count is le =
      let each = each_only (AreOfCall constants rows) (call_sites pool rows m.1.begin) (calls_count pool constants holds rows m.1.begin) m.1.calls count is.sites.each is.sites.each_is le in
      let value : with_sites m.0 (merged m.0.sites (concat_sites is.sites.each)) ≡ v = ap (λ (l : List Site). with_sites m.0 l) (sym is.sites.merged_are) ∙ is.same in
      rw each (ap (λ (x : Method). Ok (x, count + length (concat_sites is.sites.each))) value)

  record FoundMany (ms : List Unfinished) (count : ℕ) (y : List Method × ℕ) : Type 0 where
    each : Each ms y.0
    count_is : y.1 + own_count ms ≡ count + site_count y.0
    few : y.1 ≤ 1000000

  many_found : (ms : List Unfinished) (count : ℕ) (y : List Method × ℕ) → count ≤ 1000000 → carried (finished pool rows) ms count ≡ Ok y → FoundMany ms count y
  many_found [] count y le e = subst (λ (z : List Method × ℕ). FoundMany [] count z) (ok_is ([], count) y e) (record { each = tt; count_is = refl; few = le })
  many_found (m ∷ ms) count y le e =
      let a = bind_ok (finished pool rows m count) _ y e in
      let b = bind_ok (carried (finished pool rows) ms a.0.1) _ y a.2 in
      let here = one_found m count a.0 le a.1 in
      let below = many_found ms a.0.1 b.0 here.few b.1 in
      let c = here.count_is in
      let d = below.count_is in
      subst (λ (z : List Method × ℕ). FoundMany (m ∷ ms) count z) (ok_is (a.0.0 ∷ b.0.0, b.0.1) y b.2)
      (record { each = (here.is, below.each); count_is = omega (arith, c, d, own_more m ms, count_more a.0.0 b.0.0); few = below.few })

  many_only : (ms : List Unfinished) (vs : List Method) (count : ℕ) → Each ms vs → count + site_count vs ≤ 1000000 + own_count ms → (end : ℕ) × (carried (finished pool rows) ms count ≡ Ok (vs, end))
  many_only [] [] count z le = (count, refl)
  many_only [] (v ∷ vs) count z le = absurd z
  many_only (m ∷ ms) [] count z le = absurd z
  many_only (m ∷ ms) (v ∷ vs) count z le =
      let grow = grown m v z.0 in
      let all = all_grown ms vs z.1 in
      let own = own_more m ms in
      let total = count_more v vs in
      let here = one_only m v count z.0 (omega (arith, grow, all, own, total, le)) in
      let below = many_only ms vs (count + length (concat_sites z.0.sites.each)) z.1 (omega (arith, grow, own, total, le)) in
      (below.0, rw (here, below.1) refl)

  pub record FoundWhole (ms : List Unfinished) (vs : List Method) : Type 0 where
    pub each : AllZip (FinishesAs constants rows) ms vs
    pub few : site_count vs ≤ 1000000

  pub whole_found : (ms : List Unfinished) (vs : List Method) → own_count ms ≤ 1000000 → all_finished pool rows ms ≡ Ok vs → FoundWhole ms vs
  unfolding all_finished
  whole_found ms vs le e =
      let a = bind_ok (carried (finished pool rows) ms (own_count ms)) _ vs e in
      let found = many_found ms (own_count ms) a.0 le a.1 in
      let c = found.count_is in
      let few = found.few in
      subst (λ (l : List Method). FoundWhole ms l) (ok_is a.0.0 vs a.2) (record { each = found.each; few = omega arith })

  pub whole_only : (ms : List Unfinished) (vs : List Method) → AllZip (FinishesAs constants rows) ms vs → site_count vs ≤ 1000000 → all_finished pool rows ms ≡ Ok vs
  unfolding all_finished
  whole_only ms vs z few =
      let read = many_only ms vs (own_count ms) z (omega arith) in
      rw read.1 refl
