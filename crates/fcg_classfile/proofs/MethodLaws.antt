-- Methods, each with its calls: what is read is spelled so, and what is spelled so is read.
use Rattle.std.proofs.Common.{◌≡◌, ℕ, ◌+◌, ◌^◌, ◌<◌, ◌≤◌, Bool, true, false, not, List, [], ◌∷◌, ◌++◌, length, Option, refl, sym, ap, subst, ◌∙◌, append_assoc, inl, inr, arith}
use Rattle.std.specs.Prelude.{Ok, codes}
use Rattle.std.specs.List.{flat_map, list_any, AllByRecursion, AllZip, IsDistinct}
use Rattle.std.proofs.lemmas.List.{append-nil}
use Rattle.std.proofs.lemmas.List.Sums.{sum_by-cons, sum_by-append, sum_by_push}
use Rattle.fcg_grammar.specs.Reading.{unless_broken}
use Rattle.fcg_grammar.specs.Rows.{rows}
use Rattle.fcg_grammar.specs.Spell.{IsBytes, u2}
use Rattle.fcg_grammar.proofs.LawLemmas.{bind_ok, kept_ok}
use Rattle.fcg_grammar.proofs.Standing.{Stands, Stands-then, ok_is}
use Rattle.fcg_grammar.proofs.StateRowLaws.{Linked, FoundRow, rows_kept, rows_only}
use Rattle.fcg_views.specs.declared.view.Method.{Method}
use Rattle.fcg_views.specs.declared.view.Site.{Site}
use Rattle.fcg_classfile.specs.declared.fault.ClassRule.TheVariants.{DoubleMethod, DoubleCode}
use Rattle.fcg_classfile.specs.ClassFile.{Constant, BootstrapMethod, Attribute, attribute, MemberInfo, member_info}
use Rattle.fcg_classfile.specs.Reads.{HasOne, SaysCode, HasCode, IsDeclared, IsMethodOf}
use Rattle.fcg_classfile.specs.Sites.{Found, nothing, concat_sites, AreSites}
use Rattle.fcg_views.specs.Descriptor.{IsDescriptor}
use Rattle.fcg_views.specs.DescriptorSteps.{is_descriptor}
use Rattle.fcg_views.specs.Valid.{site_count, is_alike}
use Rattle.fcg_classfile.specs.Breaks.Fault.{fault}
use Rattle.fcg_classfile.specs.Breaks.Number.{u2_at}
use Rattle.fcg_classfile.specs.Breaks.Pool.{Entries}
use Rattle.fcg_classfile.specs.Breaks.Attributes.{ones_at}
use Rattle.fcg_classfile.specs.Breaks.Code.{code_at}
use Rattle.fcg_classfile.specs.Breaks.Members.{Declared, Unfinished, method_of, unfinished, with_sites, MethodsBefore, declared_at, method_at, methods_at}
use Rattle.fcg_views.proofs.DescLaws.{descriptor_found, descriptor_only}
use Rattle.fcg_classfile.specs.Tables.{Holds}
use Rattle.fcg_classfile.specs.Faults.{IsUnfinishedOf, own}
use Rattle.fcg_classfile.proofs.Places.{u2_found, u2_only, row_end, closed, opened}
use Rattle.fcg_classfile.proofs.CodeLaws.{code_found, code_only}
use Rattle.fcg_classfile.proofs.DeclaredLaws.{declared_found, declared_only}
use Rattle.fcg_classfile.proofs.OneLaws.{IsReading, placed, ones_found, ones_only}
use Rattle.fcg_classfile.proofs.FinishLaws.{many_merged, own_count, own_more, FinishesAs}
use Rattle.fcg_classfile.proofs.Fresh.{IsFresh, AreFresh, distinct_found, distinct_only}

not_true : (b : Bool) → not b ≡ true → b ≡ false
not_true true e = absurd cc
not_true false e = refl

-- the sites of one method more
count_more : (earlier : List Method) (m : Method) → site_count (earlier ++ m ∷ []) ≡ site_count earlier + length m.sites
count_more earlier m = sum_by_push (λ (x : Method). length x.sites) earlier m

count_front : (earlier : List Method) (m : Method) (ms : List Method) → site_count (earlier ++ m ∷ ms) ≤ 1000000 → site_count earlier + length m.sites ≤ 1000000
count_front earlier m ms few =
    let all = sum_by-append (λ (x : Method). length x.sites) earlier (m ∷ ms) in
    let more = sum_by-cons (λ (x : Method). length x.sites) m ms in
    omega arith

one_more : (earlier : List Method) (m : Method) (ms : List Method) → (earlier ++ m ∷ []) ++ ms ≡ earlier ++ m ∷ ms
one_more earlier m ms = append_assoc earlier (m ∷ []) ms

own_sites : (ms : List Unfinished) → site_count (own ms) ≡ own_count ms
own_sites [] = refl
own_sites (m ∷ ms) =
    let below = own_sites ms in
    let first = sum_by-cons (λ (x : Method). length x.sites) m.0 (own ms) in
    omega (arith, first, below, own_more m ms)

-- ---- the code of a method

-- so many sites of the class are before a code, and few with it
abbrev pub FewWith : ℕ → Found → Type 0
FewWith count x = count + length x.sites ≤ 1000000

pub code_reading : (constants : List Constant) (count : ℕ) → count ≤ 1000000 → IsReading constants (code_at count) (SaysCode constants) (FewWith count)
code_reading constants count le = record {
  found = λ pool fits holds at x e. (let c = code_found pool fits constants holds at count x le e in record { text = _; stands = c.stands; says = (c.info, refl, c.code); keeps = c.few });
  only = λ pool fits holds at text x says keeps s. code_only pool fits constants holds at count says.0 x says.2 keeps (subst (λ (l : List ℕ). Stands pool.bytes at l (length pool.bytes)) says.1 s);
}

abbrev pub HasFound : List Constant → List Attribute → Found → Type 0
HasFound cs table x = HasOne cs (codes "Code") (SaysCode cs) nothing table x

-- where the code stands, and what it has
abbrev pub code_placed : (cs : List Constant) → ℕ → (table : List Attribute) (x : Found) → HasFound cs table x → Option (ℕ × Found)
code_placed cs at table x has = placed cs (codes "Code") (SaysCode cs) nothing at table x has

record IsMade (d : Declared) (x : Found) (m : Unfinished) : Type 0 where
  method : m.0 ≡ method_of d x.sites
  calls : m.1.calls ≡ x.calls

made_of : (cs : List Constant) (d : Declared) (at : ℕ) (table : List Attribute) (x : Found) (has : HasFound cs table x) → IsMade d x (unfinished d (code_placed cs at table x has))
made_of cs d at [] x has = record { method = ap (λ (y : Found). method_of d y.sites) (sym has); calls = ap (λ (y : Found). y.calls) (sym has) }
made_of cs d at (a ∷ more) x (inl (other, has)) = made_of cs d (at + length (attribute a)) more x has
made_of cs d at (a ∷ more) x (inr one) = record { method = refl; calls = refl }

-- from method to method, with the methods before
pub record MeansMethod (cs : List Constant) (s : MethodsBefore) (c : MemberInfo) (m : Unfinished) (next : MethodsBefore) : Type 0 where
  pub declared : Declared
  pub is : IsDeclared cs IsDescriptor c declared.flags declared.name declared.desc
  pub found : Found
  pub code : HasCode cs c.attributes found
  pub made : unfinished declared (code_placed cs (s.at + 6 + 2) c.attributes found code.code) ≡ m
  pub fresh : IsFresh is_alike s.earlier (method_of declared [])
  pub few : site_count s.earlier + length found.sites ≤ 1000000
  pub at : next.at ≡ s.at + length (member_info c)
  pub earlier : next.earlier ≡ s.earlier ++ m.0 ∷ []

made_as : (cs : List Constant) (s : MethodsBefore) (c : MemberInfo) (m : Unfinished) (next : MethodsBefore) → (is : MeansMethod cs s c m next) → IsMade is.declared is.found m
made_as cs s c m next is = subst (λ (y : Unfinished). IsMade is.declared is.found y) is.made (made_of cs is.declared (s.at + 6 + 2) c.attributes is.found is.code.code)

unfinished_is : (cs : List Constant) (s : MethodsBefore) (c : MemberInfo) (m : Unfinished) (next : MethodsBefore) → MeansMethod cs s c m next → IsUnfinishedOf cs c m
unfinished_is cs s c m next is =
    let made = made_as cs s c m next is in
    record {
      declared = subst (λ (y : Method). IsDeclared cs IsDescriptor c y.flags y.name y.desc) (sym made.method) is.is;
      found = is.found;
      code = is.code;
      sites = ap (λ (y : Method). y.sites) made.method;
      calls = made.calls;
    }

module _ (pool : Entries) (fits : IsBytes pool.bytes) (constants : List Constant) (holds : Holds pool constants) where
  abbrev place : MethodsBefore → ℕ
  place s = s.at

  -- the sites of the methods before are few
  abbrev pub HasFew : MethodsBefore → Type 0
  HasFew s = site_count s.earlier ≤ 1000000

  row_found : (k : ℕ) (s : MethodsBefore) (x : Unfinished × MethodsBefore) → HasFew s → method_at pool k s ≡ Ok x → FoundRow pool.bytes place member_info (MeansMethod constants) (method_at pool) s x.0 x.1
  unfolding method_at
  row_found k s x le e =
      let a = bind_ok (declared_at pool is_descriptor s.at) _ x e in
      let b = bind_ok (unless_broken (not (list_any (λ earlier. is_alike earlier (method_of a.0 [])) s.earlier)) (fault s.at 0 DoubleMethod)) _ x a.2 in
      let c = bind_ok (ones_at (codes "Code") DoubleCode (code_at (site_count s.earlier)) pool (s.at + 6)) _ x b.2 in
      let d = declared_found IsDescriptor is_descriptor descriptor_found descriptor_only pool fits constants holds s.at a.0 a.1 in
      let body = ones_found pool fits constants holds (codes "Code") DoubleCode (code_at (site_count s.earlier)) (SaysCode constants) (FewWith (site_count s.earlier)) nothing (code_reading constants (site_count s.earlier) le) (omega arith) (s.at + 6) c.0 c.1 in
      let info : MemberInfo = record { flags = d.flags; name = d.name; desc = d.desc; attributes = body.table } in
      let whole = closed (u2 d.flags ++ (u2 d.name ++ (u2 d.desc ++ u2 (length body.table)))) (flat_map attribute body.table) (Stands-then d.stands body.stands) in
      subst (λ (y : Unfinished × MethodsBefore). FoundRow pool.bytes place member_info (MeansMethod constants) (method_at pool) s y.0 y.1) (ok_is _ x c.2) (record {
        row = info;
        stands = whole;
        meant = record {
          declared = a.0;
          is = d.declared body.table;
          found = body.x;
          code = record { few = body.few; code = body.has };
          made = ap (λ (o : Option (ℕ × Found)). unfinished a.0 o) (sym body.read_is);
          fresh = not_true _ (kept_ok _ _ b.0 b.1);
          few = body.keeps;
          at = whole.ends;
          earlier = refl;
        };
      })

  pub method_found : (k : ℕ) (s : MethodsBefore) (x : Unfinished × MethodsBefore) → s.at ≤ length pool.bytes → HasFew s → method_at pool k s ≡ Ok x → FoundRow pool.bytes place member_info (MeansMethod constants) (method_at pool) s x.0 x.1 × HasFew x.1
  method_found k s x at few e =
      let r = row_found k s x few e in
      let m = r.meant in
      let made = made_as constants s r.row x.0 x.1 m in
      let sites : length x.0.0.sites ≡ length m.found.sites = ap (λ (y : Method). length y.sites) made.method in
      let count : site_count x.1.earlier ≡ site_count s.earlier + length x.0.0.sites = ap site_count m.earlier ∙ count_more s.earlier x.0.0 in
      (r, (let some = m.few in omega arith))

  method_only : (k : ℕ) (s : MethodsBefore) (c : MemberInfo) (m : Unfinished) (next : MethodsBefore) (rest : List ℕ) (after : ℕ) → MeansMethod constants s c m next → Stands pool.bytes s.at (member_info c ++ rest) after
      → (method_at pool k s ≡ Ok (m, next)) × (next.at ≡ s.at + length (member_info c))
  unfolding method_at
  method_only k s c m next rest after is t =
      let table : List ℕ = flat_map attribute c.attributes in
      let few = is.few in
      let here = opened (u2 c.flags ++ (u2 c.name ++ (u2 c.desc ++ u2 (length c.attributes)))) table rest t in
      let d = declared_only IsDescriptor is_descriptor descriptor_found descriptor_only pool fits constants holds s.at c is.declared (u2 (length c.attributes) ++ (table ++ rest)) after is.is here in
      let a = ones_only pool fits constants holds (codes "Code") DoubleCode (code_at (site_count s.earlier)) (SaysCode constants) (FewWith (site_count s.earlier)) nothing (code_reading constants (site_count s.earlier) (omega arith)) (s.at + 6) c.attributes is.found rest after is.code.few is.code.code few d.1 in
      let end : a.end.at ≡ next.at = row_end pool.bytes s.at a.end.at after (member_info c) rest t a.stands ∙ sym is.at in
      (rw (d.0, is.fresh, a.read_is, a.value, is.made, end, ← is.earlier) refl, is.at)

  -- ---- along the rows
  abbrev pub Follow : MethodsBefore → List MemberInfo → List Unfinished → MethodsBefore → Type 0
  Follow s cs ms end = Linked pool.bytes place member_info (MeansMethod constants) (method_at pool) s cs ms end

  pub follow_found : (s : MethodsBefore) (cs : List MemberInfo) (ms : List Unfinished) (end : MethodsBefore) → Follow s cs ms end → AllZip (IsUnfinishedOf constants) cs ms × AreFresh is_alike s.earlier (own ms)
  follow_found s [] [] end l = (tt, tt)
  follow_found s [] (m ∷ ms) end l = absurd l
  follow_found s (c ∷ cs) [] end l = absurd l
  follow_found s (c ∷ cs) (m ∷ ms) end l =
      let below = follow_found l.0 cs ms end l.2 in
      let made = made_as constants s c m l.0 l.1 in
      let fresh : IsFresh is_alike s.earlier m.0 = subst (λ (y : Method). IsFresh is_alike s.earlier y) (sym made.method) l.1.fresh in
      ((unfinished_is constants s c m l.0 l.1, below.0), (fresh, subst (λ (e : List Method). AreFresh is_alike e (own ms)) l.1.earlier below.1))

  -- the sites of all methods are few
  follow_few : (s : MethodsBefore) (cs : List MemberInfo) (ms : List Unfinished) (end : MethodsBefore) → Follow s cs ms end → site_count s.earlier ≤ 1000000 → site_count (s.earlier ++ own ms) ≤ 1000000
  follow_few s [] [] end l few = subst (λ (e : List Method). site_count e ≤ 1000000) (sym (append-nil s.earlier)) few
  follow_few s [] (m ∷ ms) end l few = absurd l
  follow_few s (c ∷ cs) [] end l few = absurd l
  follow_few s (c ∷ cs) (m ∷ ms) end (next, is, more) few =
      let made = made_as constants s c m next is in
      let sites : length m.0.sites ≡ length is.found.sites = ap (λ (y : Method). length y.sites) made.method in
      let count : site_count next.earlier ≡ site_count s.earlier + length m.0.sites = ap site_count is.earlier ∙ count_more s.earlier m.0 in
      let some = is.few in
      let below = follow_few next cs ms end more (omega arith) in
      subst (λ (e : List Method). site_count e ≤ 1000000) (ap (λ (e : List Method). e ++ own ms) is.earlier ∙ one_more s.earlier m.0 (own ms)) below

  pub record FoundMethods (at : ℕ) (ms : List Unfinished) (after : ℕ) : Type 0 where
    pub table : List MemberInfo
    pub stands : Stands pool.bytes at (u2 (length table) ++ flat_map member_info table) after
    pub few : length table < 2 ^ 16
    pub methods : AllZip (IsUnfinishedOf constants) table ms
    pub distinct : IsDistinct is_alike (own ms)
    pub few_sites : own_count ms ≤ 1000000

  pub methods_found : (at : ℕ) (x : List Unfinished × ℕ) → methods_at pool at ≡ Ok x → FoundMethods at x.0 x.1
  unfolding methods_at
  methods_found at x e =
      let begun : MethodsBefore = record { at = at + 2; earlier = [] } in
      let a = bind_ok (u2_at pool.bytes at 0) _ x e in
      let b = bind_ok (rows (method_at pool) a.0 0 begun) _ x a.2 in
      let n = u2_found pool.bytes at 0 a.0 fits a.1 in
      let r = rows_kept pool.bytes place member_info (MeansMethod constants) (method_at pool) HasFew method_found a.0 0 begun b.0 n.0.within (omega arith) b.1 in
      let along = follow_found begun r.table b.0.0 b.0.1 r.meant in
      let few = follow_few begun r.table b.0.0 b.0.1 r.meant (omega arith) in
      subst (λ (y : List Unfinished × ℕ). FoundMethods at y.0 y.1) (ok_is _ x b.2) (record {
        table = r.table;
        stands = subst (λ (k : ℕ). Stands pool.bytes at (u2 k ++ flat_map member_info r.table) b.0.1.at) (sym r.many) (Stands-then n.0 r.stands);
        few = omega (arith, r.many, n.1);
        methods = along.0;
        distinct = distinct_found is_alike (own b.0.0) along.1;
        few_sites = omega (arith, few, own_sites b.0.0);
      })

  -- ---- the methods that a class file spells, with these bootstrap methods
  module _ (bootstrap : List BootstrapMethod) where
    abbrev IsMethod : MemberInfo → Method → Type 0
    IsMethod = IsMethodOf constants bootstrap

    -- a method with the sites of its instructions is another with more
    whole_method : (c : MemberInfo) (m : Unfinished) (v : Method) → IsUnfinishedOf constants c m → FinishesAs constants bootstrap m v → IsMethod c v
    whole_method c m v is f = record {
      declared = subst (λ (y : Method). IsDeclared constants IsDescriptor c y.flags y.name y.desc) f.same is.declared;
      found = is.found;
      code = is.code;
      sites = subst (λ (x : Found). AreSites constants bootstrap x v.sites) (found_is m is.found is.sites is.calls) f.sites;
    }
      where
        found_is : (m : Unfinished) (x : Found) → m.0.sites ≡ x.sites → m.1.calls ≡ x.calls → record { sites = m.0.sites; calls = m.1.calls } ≡ x
        found_is m x p q = rw (p, q) refl

    pub all_whole : (cs : List MemberInfo) (ms : List Unfinished) (vs : List Method) → AllZip (IsUnfinishedOf constants) cs ms → AllZip (FinishesAs constants bootstrap) ms vs → AllZip IsMethod cs vs
    all_whole [] [] [] z f = tt
    all_whole [] [] (v ∷ vs) z f = absurd f
    all_whole [] (m ∷ ms) vs z f = absurd z
    all_whole (c ∷ cs) [] vs z f = absurd z
    all_whole (c ∷ cs) (m ∷ ms) [] z f = absurd f
    all_whole (c ∷ cs) (m ∷ ms) (v ∷ vs) z f = (whole_method c m v z.0 f.0, all_whole cs ms vs z.1 f.1)

    -- the methods with all sites are as distinct as those with the sites of their instructions
    each_apart : (m : Unfinished) (v : Method) (ms : List Unfinished) (vs : List Method) → FinishesAs constants bootstrap m v → AllZip (FinishesAs constants bootstrap) ms vs → AllByRecursion (λ y. is_alike m.0 y ≡ false) (own ms) → AllByRecursion (λ y. is_alike v y ≡ false) vs
    each_apart m v [] [] f z d = tt
    each_apart m v [] (w ∷ vs) f z d = absurd z
    each_apart m v (n ∷ ms) [] f z d = absurd z
    each_apart m v (n ∷ ms) (w ∷ vs) f z d =
        (subst (λ (y : Method). is_alike v y ≡ false) z.0.same (subst (λ (y : Method). is_alike y (with_sites n.0 w.sites) ≡ false) f.same d.0), each_apart m v ms vs f z.1 d.1)

    pub all_distinct : (ms : List Unfinished) (vs : List Method) → AllZip (FinishesAs constants bootstrap) ms vs → IsDistinct is_alike (own ms) → IsDistinct is_alike vs
    unfolding IsDistinct
    all_distinct [] [] z d = tt
    all_distinct [] (v ∷ vs) z d = absurd z
    all_distinct (m ∷ ms) [] z d = absurd z
    all_distinct (m ∷ ms) (v ∷ vs) z d = (each_apart m v ms vs z.0 z.1 d.0, all_distinct ms vs z.1 d.1)

    -- each method with the sites of its instructions alone
    abbrev owns : (cs : List MemberInfo) (vs : List Method) → AllZip IsMethod cs vs → List Method
    owns [] [] z = []
    owns [] (v ∷ vs) z = []
    owns (c ∷ cs) [] z = []
    owns (c ∷ cs) (v ∷ vs) z = with_sites v z.0.found.sites ∷ owns cs vs z.1

    owns_apart : (v : Method) (x : List Site) (cs : List MemberInfo) (vs : List Method) (z : AllZip IsMethod cs vs) → AllByRecursion (λ y. is_alike v y ≡ false) vs → AllByRecursion (λ y. is_alike (with_sites v x) y ≡ false) (owns cs vs z)
    owns_apart v x [] [] z d = tt
    owns_apart v x [] (w ∷ vs) z d = absurd z
    owns_apart v x (c ∷ cs) [] z d = absurd z
    owns_apart v x (c ∷ cs) (w ∷ vs) z d = (d.0, owns_apart v x cs vs z.1 d.1)

    owns_distinct : (cs : List MemberInfo) (vs : List Method) (z : AllZip IsMethod cs vs) → IsDistinct is_alike vs → IsDistinct is_alike (owns cs vs z)
    unfolding IsDistinct
    owns_distinct [] [] z d = tt
    owns_distinct [] (v ∷ vs) z d = absurd z
    owns_distinct (c ∷ cs) [] z d = absurd z
    owns_distinct (c ∷ cs) (v ∷ vs) z d = (owns_apart v z.0.found.sites cs vs z.1 d.0, owns_distinct cs vs z.1 d.1)

    record Followed (s : MethodsBefore) (cs : List MemberInfo) (vs : List Method) : Type 0 where
      methods : List Unfinished
      end : MethodsBefore
      linked : Follow s cs methods end
      finish : AllZip (FinishesAs constants bootstrap) methods vs

    follow_only : (s : MethodsBefore) (cs : List MemberInfo) (vs : List Method) (z : AllZip IsMethod cs vs) → AreFresh is_alike s.earlier (owns cs vs z) → site_count (s.earlier ++ owns cs vs z) ≤ 1000000 → Followed s cs vs
    follow_only s [] [] z f few = record { methods = []; end = s; linked = refl; finish = tt }
    follow_only s [] (v ∷ vs) z f few = absurd z
    follow_only s (c ∷ cs) [] z f few = absurd z
    follow_only s (c ∷ cs) (v ∷ vs) z f few =
        let is = z.0 in
        let d : Declared = record { flags = v.flags; name = v.name; desc = v.desc } in
        let m : Unfinished = unfinished d (code_placed constants (s.at + 6 + 2) c.attributes is.found is.code.code) in
        let made = made_of constants d (s.at + 6 + 2) c.attributes is.found is.code.code in
        let next : MethodsBefore = record { at = s.at + length (member_info c); earlier = s.earlier ++ m.0 ∷ [] } in
        let own_is : with_sites v is.found.sites ≡ m.0 = sym made.method in
        let fresh = subst (λ (y : Method). AreFresh is_alike (s.earlier ++ y ∷ []) (owns cs vs z.1)) own_is f.1 in
        let still = subst (λ (y : Method). site_count ((s.earlier ++ y ∷ []) ++ owns cs vs z.1) ≤ 1000000) own_is (subst (λ (e : List Method). site_count e ≤ 1000000) (sym (one_more s.earlier (with_sites v is.found.sites) (owns cs vs z.1))) few) in
        let below = follow_only next cs vs z.1 fresh still in
        record {
          methods = m ∷ below.methods;
          end = below.end;
          linked = (next, record { declared = d; is = is.declared; found = is.found; code = is.code; made = refl; fresh = f.0; few = count_front s.earlier (with_sites v is.found.sites) (owns cs vs z.1) few; at = refl; earlier = refl }, below.linked);
          finish = (finishes v is.found m made.method made.calls is.sites, below.finish);
        }
      where
        finishes : (v : Method) (x : Found) (m : Unfinished) → m.0 ≡ with_sites v x.sites → m.1.calls ≡ x.calls → AreSites constants bootstrap x v.sites → FinishesAs constants bootstrap m v
        finishes v x m p q is = record {
          same = ap (λ (y : Method). with_sites y v.sites) p;
          sites = subst (λ (l : List Site). AreSites constants bootstrap (record { sites = l; calls = m.1.calls }) v.sites) (sym (ap (λ (y : Method). y.sites) p)) (subst (λ (l : _). AreSites constants bootstrap (record { sites = x.sites; calls = l }) v.sites) (sym q) is);
        }

    -- the sites of the instructions are no more than all
    owns_few : (cs : List MemberInfo) (vs : List Method) (z : AllZip IsMethod cs vs) → site_count (owns cs vs z) ≤ site_count vs
    owns_few [] [] z = omega arith
    owns_few [] (v ∷ vs) z = absurd z
    owns_few (c ∷ cs) [] z = absurd z
    owns_few (c ∷ cs) (v ∷ vs) z =
        let below = owns_few cs vs z.1 in
        let here : length z.0.found.sites ≤ length v.sites = some_merged z.0.found v.sites z.0.sites in
        let own = sum_by-cons (λ (x : Method). length x.sites) (with_sites v z.0.found.sites) (owns cs vs z.1) in
        let all = sum_by-cons (λ (x : Method). length x.sites) v vs in
        omega arith
      where
        some_merged : (x : Found) (sites : List Site) → AreSites constants bootstrap x sites → length x.sites ≤ length sites
        some_merged x sites are = (let n = ap length are.merged_are ∙ many_merged x.sites (concat_sites are.each) in omega arith)

    pub record ReadMethods (at : ℕ) (vs : List Method) (rest : List ℕ) (after : ℕ) : Type 0 where
      pub methods : List Unfinished
      pub end : ℕ
      pub read_is : methods_at pool at ≡ Ok (methods, end)
      pub finish : AllZip (FinishesAs constants bootstrap) methods vs
      pub stands : Stands pool.bytes end rest after

    pub methods_only : (at : ℕ) (table : List MemberInfo) (vs : List Method) (rest : List ℕ) (after : ℕ) → length table < 2 ^ 16 → AllZip IsMethod table vs → IsDistinct is_alike vs → site_count vs ≤ 1000000
        → Stands pool.bytes at (u2 (length table) ++ (flat_map member_info table ++ rest)) after → ReadMethods at vs rest after
    unfolding methods_at
    methods_only at table vs rest after few methods distinct few_sites s =
        let begun : MethodsBefore = record { at = at + 2; earlier = [] } in
        let n = u2_only pool.bytes at 0 (length table) (flat_map member_info table ++ rest) after few s in
        let own_few = owns_few table vs methods in
        let along = follow_only begun table vs methods (distinct_only is_alike (owns table vs methods) (owns_distinct table vs methods distinct)) (omega arith) in
        let r = rows_only pool.bytes place member_info (MeansMethod constants) (method_at pool) method_only 0 begun table along.methods along.end rest after along.linked n.1 in
        record { methods = along.methods; end = along.end.at; read_is = rw (n.0, r.0) refl; finish = along.finish; stands = r.1 }
