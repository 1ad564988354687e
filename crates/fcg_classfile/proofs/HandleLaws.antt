-- Bootstrap methods, and the handle sites of calls: what is read is spelled so, and what is spelled so is read.
use Rattle.std.proofs.Common.{◌≡◌, ℕ, ◌+◌, ◌^◌, ◌≤◌, ◌<◌, eqb, List, [], ◌∷◌, ◌++◌, length, Option, Some, None, refl, sym, ap, subst, ◌∙◌, arith}
use Rattle.std.specs.Prelude.{Result, Ok}
use Rattle.std.specs.List.{flat_map, slice_get, AllByRecursion, AllZip}
use Rattle.std.proofs.lemmas.Bool.{eqb-true}
use Rattle.std.proofs.lemmas.List.{length-append}
use Rattle.std.proofs.lemmas.List.Concat.{flat_map-cons}
use Rattle.fcg_grammar.specs.Reading.{◌>>=◌, unless_broken}
use Rattle.fcg_grammar.specs.Rows.{rows, carried}
use Rattle.fcg_grammar.specs.Spell.{IsBytes, u2}
use Rattle.fcg_grammar.proofs.LawLemmas.{bind_ok, kept_ok}
use Rattle.fcg_grammar.proofs.RowLaws.{FoundRow, ReadRow, rows_found, rows_only}
use Rattle.fcg_grammar.proofs.Standing.{Stands, Stands-then, Stands-to, ok_is, end_is}
use Rattle.fcg_classfile.specs.declared.code.DynamicCall.{DynamicCall}
use Rattle.fcg_views.specs.declared.view.Site.{Site}
use Rattle.fcg_classfile.specs.declared.fault.ClassFault.{ClassFault}
use Rattle.fcg_classfile.specs.declared.fault.ClassRule.TheVariants.{Trailing}
use Rattle.fcg_classfile.specs.ClassFile.{Constant, Utf8, Plain, Named, Pair, Handle, BootstrapMethod, bootstrap_method, bootstrap_info}
use Rattle.fcg_classfile.specs.Reads.{IsRow, SaysRows}
use Rattle.fcg_classfile.specs.Sites.{SiteForm, handle_form, concat_sites, AreFormedAt, AreOfConstant, AreOfIndex, AreOfBootstrap, AreOfCall}
use Rattle.fcg_classfile.specs.Breaks.Fault.{fault, at_place}
use Rattle.fcg_classfile.specs.Breaks.Number.{u2_at}
use Rattle.fcg_classfile.specs.Breaks.Pool.{Entries, constant_of, handle_in}
use Rattle.fcg_classfile.specs.Breaks.Code.{site_of}
use Rattle.fcg_classfile.specs.Breaks.Bootstrap.{argument_at, row_at, rows_at, formed_sites, constant_sites, index_sites, row_sites, row_of, call_sites}
use Rattle.fcg_classfile.specs.Tables.{Holds}
use Rattle.fcg_classfile.proofs.Places.{u2_found, u2_only, closed, opened, row_end}
use Rattle.fcg_classfile.proofs.NameLaws.{at_ok, constant_found, constant_only, handle_by}
use Rattle.fcg_classfile.proofs.OneLaws.{SaidText, IsReading}
use Rattle.fcg_classfile.proofs.SiteLaws.{site_found, site_only}

-- ---- the attribute

two_more : (at : ℕ) → at + 2 + 2 ≡ at + 4
two_more at = omega arith

-- a row whose value is the row itself
abbrev IsItself : {C : Type 0} → (C → Type 0) → C → C → Type 0
IsItself P c d = (c ≡ d) × P c

themselves : {C : Type 0} (P : C → Type 0) (cs ds : List C) → AllZip (IsItself P) cs ds → (cs ≡ ds) × AllByRecursion P cs
themselves P [] [] z = (refl, tt)
themselves P [] (d ∷ ds) z = absurd z
themselves P (c ∷ cs) [] z = absurd z
themselves P (c ∷ cs) (d ∷ ds) z =
    let below = themselves P cs ds z.1 in
    (ap (λ (x : _). x ∷ cs) z.0.0 ∙ ap (λ (l : _). d ∷ l) below.0, (z.0.1, below.1))

module _ (bytes : List ℕ) (fits : IsBytes bytes) where
  abbrev Fits : ℕ → Type 0
  Fits i = i < 2 ^ 16

  argument_found : (k at : ℕ) (x : ℕ × ℕ) → at ≤ length bytes → argument_at bytes k at ≡ Ok x → FoundRow bytes u2 (IsItself Fits) (argument_at bytes) at x.0 x.1
  unfolding argument_at
  argument_found k at x le e =
      let a = bind_ok (u2_at bytes at 0) _ x e in
      let n = u2_found bytes at 0 a.0 fits a.1 in
      subst (λ (y : ℕ × ℕ). FoundRow bytes u2 (IsItself Fits) (argument_at bytes) at y.0 y.1) (ok_is _ x a.2) (record { row = a.0; stands = n.0; meant = (refl, n.1) })

  argument_only : (k at i : ℕ) (rest : List ℕ) (after : ℕ) → i < 2 ^ 16 → Stands bytes at (u2 i ++ rest) after → ReadRow bytes u2 (IsItself Fits) (argument_at bytes) k at i
  unfolding argument_at
  argument_only k at i rest after few s =
      let n = u2_only bytes at 0 i rest after few s in
      record { value = i; read_is = rw n.0 refl; meant = (refl, few) }

  made_row : ℕ → List ℕ → BootstrapMethod
  made_row handle arguments = record { handle = handle; arguments = arguments }

  row_found : (k at : ℕ) (x : BootstrapMethod × ℕ) → at ≤ length bytes → row_at bytes k at ≡ Ok x → FoundRow bytes bootstrap_method (IsItself IsRow) (row_at bytes) at x.0 x.1
  unfolding row_at
  row_found k at x le e =
      let a = bind_ok (u2_at bytes at 0) _ x e in
      let b = bind_ok (u2_at bytes (at + 2) 0) _ x a.2 in
      let c = bind_ok (rows (argument_at bytes) b.0 0 (at + 4)) _ x b.2 in
      let handle = u2_found bytes at 0 a.0 fits a.1 in
      let count = u2_found bytes (at + 2) 0 b.0 fits b.1 in
      let s0 = Stands-to (at + 4) (two_more at) count.0 in
      let r = rows_found bytes u2 (IsItself Fits) (argument_at bytes) argument_found b.0 0 (at + 4) c.0 s0.within c.1 in
      let same = themselves Fits r.table c.0.0 r.meant in
      let listed = subst (λ (n : ℕ). Stands bytes (at + 2) (u2 n ++ flat_map u2 r.table) c.0.1) (sym r.many) (Stands-then s0 r.stands) in
      let whole = Stands-then handle.0 (closed (u2 (length r.table)) (flat_map u2 r.table) listed) in
      let row : BootstrapMethod = record { handle = a.0; arguments = r.table } in
      let value : row ≡ record { handle = a.0; arguments = c.0.0 } = ap (λ (l : List ℕ). record { handle = a.0; arguments = l }) same.0 in
      subst (λ (y : BootstrapMethod × ℕ). FoundRow bytes bootstrap_method (IsItself IsRow) (row_at bytes) at y.0 y.1) (ok_is _ x c.2)
      (record { row = row; stands = whole; meant = (value, record { handle = handle.1; few = omega (arith, r.many, count.1); arguments = same.1 }) })

  row_only : (k at : ℕ) (b : BootstrapMethod) (rest : List ℕ) (after : ℕ) → IsRow b → Stands bytes at (bootstrap_method b ++ rest) after → ReadRow bytes bootstrap_method (IsItself IsRow) (row_at bytes) k at b
  unfolding row_at
  row_only k at b rest after is s =
      let table : List ℕ = flat_map u2 b.arguments in
      let here = opened (u2 b.handle ++ u2 (length b.arguments)) table rest s in
      let handle = u2_only bytes at 0 b.handle (u2 (length b.arguments) ++ (table ++ rest)) after is.handle here in
      let count = u2_only bytes (at + 2) 0 (length b.arguments) (table ++ rest) after is.few handle.1 in
      let s4 = subst (λ (n : ℕ). Stands bytes n (table ++ rest) after) (two_more at) count.1 in
      let r = rows_only bytes u2 (IsItself Fits) (argument_at bytes) Fits argument_only 0 (at + 4) b.arguments rest after is.arguments s4 in
      let same = themselves Fits b.arguments r.values r.meant in
      let end : r.end ≡ at + length (bootstrap_method b) = row_end bytes at r.end after (bootstrap_method b) rest s r.stands in
      let value : record { handle = b.handle; arguments = r.values } ≡ b = ap (λ (l : List ℕ). record { handle = b.handle; arguments = l }) (sym same.0) in
      record { value = b; read_is = rw (handle.0, count.0, r.read_is) (ap (λ (y : BootstrapMethod × ℕ). Ok y) (ap (λ (m : BootstrapMethod). (m, r.end)) value ∙ ap (λ (n : ℕ). (b, n)) end)); meant = (refl, is) }

-- every list of rows is kept
abbrev pub Any : List BootstrapMethod → Type 0
Any rows = Unit {0}

bootstrap_found : (pool : Entries) → IsBytes pool.bytes → (at : ℕ) (x : List BootstrapMethod) → rows_at pool at ≡ Ok x → SaidText SaysRows Any pool.bytes at x
unfolding rows_at
bootstrap_found pool fits at x e =
    let a = bind_ok (u2_at pool.bytes at 0) _ x e in
    let b = bind_ok (rows (row_at pool.bytes) a.0 0 (at + 2)) _ x a.2 in
    let c = bind_ok (unless_broken (eqb (length pool.bytes) b.0.1) (fault b.0.1 0 Trailing)) _ x b.2 in
    let count = u2_found pool.bytes at 0 a.0 fits a.1 in
    let r = rows_found pool.bytes bootstrap_method (IsItself IsRow) (row_at pool.bytes) (row_found pool.bytes fits) a.0 0 (at + 2) b.0 count.0.within b.1 in
    let end : length pool.bytes ≡ b.0.1 = eqb-true _ _ (kept_ok _ _ c.0 c.1) in
    let same = themselves IsRow r.table b.0.0 r.meant in
    let listed = subst (λ (n : ℕ). Stands pool.bytes at (u2 n ++ flat_map bootstrap_method r.table) b.0.1) (sym r.many) (Stands-then count.0 r.stands) in
    let whole = Stands-to (length pool.bytes) (sym end) (closed (u2 (length r.table)) (flat_map bootstrap_method r.table) listed) in
    subst (λ (y : List BootstrapMethod). SaidText SaysRows Any pool.bytes at y) (same.0 ∙ ok_is b.0.0 x c.2)
    (record { text = bootstrap_info r.table; stands = whole; says = record { spelled = refl; few = omega (arith, r.many, count.1); each = same.1 }; keeps = tt })

bootstrap_only : (pool : Entries) → IsBytes pool.bytes → (at : ℕ) (text : List ℕ) (x : List BootstrapMethod) → SaysRows text x → Stands pool.bytes at text (length pool.bytes) → rows_at pool at ≡ Ok x
unfolding rows_at
bootstrap_only pool fits at text x says s =
    let end : ℕ = length pool.bytes in
    let s0 = subst (λ (l : List ℕ). Stands pool.bytes at l end) says.spelled s in
    let count = u2_only pool.bytes at 0 (length x) (flat_map bootstrap_method x ++ []) end says.few s0 in
    let r = rows_only pool.bytes bootstrap_method (IsItself IsRow) (row_at pool.bytes) IsRow (row_only pool.bytes fits) 0 (at + 2) x [] end says.each count.1 in
    let same = themselves IsRow x r.values r.meant in
    let ended = end_is pool.bytes r.end r.stands in
    rw (count.0, r.read_is, ended) (ap (λ (l : List BootstrapMethod). Ok l) (sym same.0))

pub rows_reading : (constants : List Constant) → IsReading constants rows_at SaysRows Any
rows_reading constants = record {
  found = λ pool fits holds at x e. bootstrap_found pool fits at x e;
  only = λ pool fits holds at text x says keeps s. bootstrap_only pool fits at text x says s;
}

-- ---- handle sites

-- the sites that were read are counted, and few
pub record IsCounted (count : ℕ) (y : List Site × ℕ) : Type 0 where
  pub count_is : y.1 ≡ count + length y.0
  pub few : y.1 ≤ 1000000

-- what is read are the sites of a relation, and they are counted
pub record Counts {X : Type 0} (Are : X → List Site → Type 0) (read : X → ℕ → Result (List Site × ℕ) ClassFault) : Type 0 where
  pub found : (x : X) (count : ℕ) (y : List Site × ℕ) → count ≤ 1000000 → read x count ≡ Ok y → Are x y.0 × IsCounted count y
  pub only : (x : X) (count : ℕ) (sites : List Site) → Are x sites → count + length sites ≤ 1000000 → read x count ≡ Ok (sites, count + length sites)

many_joined : (sites : List Site) (more : List (List Site)) → length (concat_sites (sites ∷ more)) ≡ length sites + length (concat_sites more)
many_joined sites more = ap length (flat_map-cons (λ (l : List Site). l) sites more) ∙ length-append sites (concat_sites more)

module _ {X : Type 0} (Are : X → List Site → Type 0) (read : X → ℕ → Result (List Site × ℕ) ClassFault) (counts : Counts Are read) where
  pub record FoundEach (xs : List X) (count : ℕ) (y : List (List Site) × ℕ) : Type 0 where
    pub each : AllZip Are xs y.0
    pub count_is : y.1 ≡ count + length (concat_sites y.0)
    pub few : y.1 ≤ 1000000

  pub each_found : (xs : List X) (count : ℕ) (y : List (List Site) × ℕ) → count ≤ 1000000 → carried read xs count ≡ Ok y → FoundEach xs count y
  each_found [] count y le e = subst (λ (z : List (List Site) × ℕ). FoundEach [] count z) (ok_is ([], count) y e) (record { each = tt; count_is = omega arith; few = le })
  each_found (x ∷ xs) count y le e =
      let a = bind_ok (read x count) _ y e in
      let b = bind_ok (carried read xs a.0.1) _ y a.2 in
      let here = counts.found x count a.0 le a.1 in
      let below = each_found xs a.0.1 b.0 here.1.few b.1 in
      let c = here.1.count_is in
      let d = below.count_is in
      subst (λ (z : List (List Site) × ℕ). FoundEach (x ∷ xs) count z) (ok_is (a.0.0 ∷ b.0.0, b.0.1) y b.2)
      (record { each = (here.0, below.each); count_is = omega (arith, c, d, many_joined a.0.0 b.0.0); few = below.few })

  pub each_only : (xs : List X) (count : ℕ) (each : List (List Site)) → AllZip Are xs each → count + length (concat_sites each) ≤ 1000000 → carried read xs count ≡ Ok (each, count + length (concat_sites each))
  each_only [] count [] z le = (let none : count ≡ count + 0 = omega arith in ap (λ (n : ℕ). Ok ([], n)) none)
  each_only [] count (sites ∷ more) z le = absurd z
  each_only (x ∷ xs) count [] z le = absurd z
  each_only (x ∷ xs) count (sites ∷ more) z le =
      let m = many_joined sites more in
      let here = counts.only x count sites z.0 (omega (arith, le, m)) in
      let below = each_only xs (count + length sites) more z.1 (omega (arith, le, m)) in
      let total : count + length sites + length (concat_sites more) ≡ count + length (concat_sites (sites ∷ more)) = omega (arith, m) in
      rw (here, below) (ap (λ (n : ℕ). Ok (sites ∷ more, n)) total)

module _ (pool : Entries) (constants : List Constant) (holds : Holds pool constants) where
  module _ (at pc : ℕ) where
    abbrev none_read : ℕ → Result (List Site × ℕ) ClassFault
    none_read count = Ok ([], count)

    abbrev one_read : Site → ℕ → Result (List Site × ℕ) ClassFault
    one_read s count = Ok (s ∷ [], count + 1)

    none_found : (count : ℕ) (y : List Site × ℕ) → count ≤ 1000000 → ([], count) ≡ y → (y.0 ≡ []) × IsCounted count y
    none_found count y le e = subst (λ (z : List Site × ℕ). (z.0 ≡ []) × IsCounted count z) e (refl, record { count_is = omega arith; few = le })

    none_only : (count : ℕ) (sites : List Site) → sites ≡ [] → none_read count ≡ Ok (sites, count + length sites)
    none_only count sites is = subst (λ (l : List Site). none_read count ≡ Ok (l, count + length l)) (sym is) (let none : count ≡ count + 0 = omega arith in ap (λ (n : ℕ). Ok ([], n)) none)

    formed_found : (o : Option SiteForm) (index count : ℕ) (y : List Site × ℕ) → count ≤ 1000000 → formed_sites pool at pc o index count ≡ Ok y → AreFormedAt constants o pc index y.0 × IsCounted count y
    formed_found None index count y le e = none_found count y le (ok_is ([], count) y e)
    formed_found (Some form) index count y le e =
        let a = bind_ok (site_of pool form at pc index count) _ y e in
        let s = site_found pool constants holds form at pc index count a.0 a.1 in
        let lt = s.1 in
        subst (λ (z : List Site × ℕ). AreFormedAt constants (Some form) pc index z.0 × IsCounted count z) (ok_is (a.0 ∷ [], count + 1) y a.2) ((a.0, refl, s.0), record { count_is = refl; few = omega arith })

    formed_only : (o : Option SiteForm) (index count : ℕ) (sites : List Site) → AreFormedAt constants o pc index sites → count + length sites ≤ 1000000 → formed_sites pool at pc o index count ≡ Ok (sites, count + length sites)
    formed_only None index count sites is le = none_only count sites is
    formed_only (Some form) index count sites (s, is, site) le =
        let one : length sites ≡ 1 = ap length is in
        let lt : count < 1000000 = omega arith in
        let read = site_only pool constants holds form at pc index count s lt site in
        rw read (subst (λ (l : List Site). one_read s count ≡ Ok (l, count + length l)) (sym is) refl)

    constant_read_found : (c : Constant) (count : ℕ) (y : List Site × ℕ) → count ≤ 1000000 → constant_sites pool at pc c count ≡ Ok y → AreOfConstant constants pc c y.0 × IsCounted count y
    constant_read_found (Utf8 text) count y le e = none_found count y le (ok_is ([], count) y e)
    constant_read_found (Plain tag bytes) count y le e = none_found count y le (ok_is ([], count) y e)
    constant_read_found (Named tag i) count y le e = none_found count y le (ok_is ([], count) y e)
    constant_read_found (Pair tag i j) count y le e = none_found count y le (ok_is ([], count) y e)
    constant_read_found (Handle kind i) count y le e = formed_found (handle_form kind) i count y le e

    constant_read_only : (c : Constant) (count : ℕ) (sites : List Site) → AreOfConstant constants pc c sites → count + length sites ≤ 1000000 → constant_sites pool at pc c count ≡ Ok (sites, count + length sites)
    constant_read_only (Utf8 text) count sites is le = none_only count sites is
    constant_read_only (Plain tag bytes) count sites is le = none_only count sites is
    constant_read_only (Named tag i) count sites is le = none_only count sites is
    constant_read_only (Pair tag i j) count sites is le = none_only count sites is
    constant_read_only (Handle kind i) count sites is le = formed_only (handle_form kind) i count sites is le

    index_found : (index count : ℕ) (y : List Site × ℕ) → count ≤ 1000000 → index_sites pool at pc index count ≡ Ok y → AreOfIndex constants pc index y.0 × IsCounted count y
    unfolding index_sites
    index_found index count y le e =
        let a = bind_ok (at_place at index (constant_of pool index)) _ y e in
        let c = constant_found pool constants holds index a.0 (at_ok at index (constant_of pool index) a.0 a.1) in
        let r = constant_read_found a.0 count y le a.2 in
        ((a.0, c, r.0), r.1)

    index_only : (index count : ℕ) (sites : List Site) → AreOfIndex constants pc index sites → count + length sites ≤ 1000000 → index_sites pool at pc index count ≡ Ok (sites, count + length sites)
    unfolding index_sites
    index_only index count sites (c, is, are) le =
        let read = constant_only pool constants holds index c is in
        rw read (constant_read_only c count sites are le)

    indexes_count : Counts (AreOfIndex constants pc) (index_sites pool at pc)
    indexes_count = record { found = index_found; only = index_only }

    bootstrap_sites_found : (b : BootstrapMethod) (count : ℕ) (y : List Site × ℕ) → count ≤ 1000000 → row_sites pool at pc b count ≡ Ok y → AreOfBootstrap constants pc b y.0 × IsCounted count y
    unfolding row_sites
    bootstrap_sites_found b count y le e =
        let a = bind_ok (at_place at b.handle (constant_of pool b.handle >>= handle_in)) _ y e in
        let h = bind_ok (constant_of pool b.handle) handle_in a.0 (at_ok at b.handle (constant_of pool b.handle >>= handle_in) a.0 a.1) in
        let handle = constant_found pool constants holds b.handle h.0 h.1 ∙ ap (λ (c : Constant). Some c) (handle_by h.0 a.0 h.2) in
        let r = bind_ok (carried (index_sites pool at pc) (b.handle ∷ b.arguments) count) _ y a.2 in
        let each = each_found (AreOfIndex constants pc) (index_sites pool at pc) indexes_count (b.handle ∷ b.arguments) count r.0 le r.1 in
        subst (λ (z : List Site × ℕ). AreOfBootstrap constants pc b z.0 × IsCounted count z) (ok_is (concat_sites r.0.0, r.0.1) y r.2)
        (record { kind = a.0.0; index = a.0.1; handle = handle; each = r.0.0; each_is = each.each; all = refl }, record { count_is = each.count_is; few = each.few })

    bootstrap_sites_only : (b : BootstrapMethod) (count : ℕ) (sites : List Site) → AreOfBootstrap constants pc b sites → count + length sites ≤ 1000000 → row_sites pool at pc b count ≡ Ok (sites, count + length sites)
    unfolding row_sites
    bootstrap_sites_only b count sites are le =
        let handle = constant_only pool constants holds b.handle (Handle are.kind are.index) are.handle in
        let few = subst (λ (l : List Site). count + length l ≤ 1000000) are.all le in
        let each = each_only (AreOfIndex constants pc) (index_sites pool at pc) indexes_count (b.handle ∷ b.arguments) count are.each are.each_is few in
        rw (handle, each) (ap (λ (l : List Site). Ok (l, count + length l)) (sym are.all))

  row_by : (at : ℕ) (o : Option BootstrapMethod) (b : BootstrapMethod) → row_of at o ≡ Ok b → o ≡ Some b
  row_by at None b e = absurd cc
  row_by at (Some c) b e = ap (λ (x : BootstrapMethod). Some x) (ok_is c b e)

  module _ (bootstrap : List BootstrapMethod) (begin : ℕ) where
    call_found : (c : DynamicCall) (count : ℕ) (y : List Site × ℕ) → count ≤ 1000000 → call_sites pool bootstrap begin c count ≡ Ok y → AreOfCall constants bootstrap c y.0 × IsCounted count y
    unfolding call_sites
    call_found c count y le e =
        let a = bind_ok (row_of (begin + c.pc) (slice_get bootstrap c.bootstrap)) _ y e in
        let r = bootstrap_sites_found (begin + c.pc) c.pc a.0 count y le a.2 in
        ((a.0, row_by (begin + c.pc) (slice_get bootstrap c.bootstrap) a.0 a.1, r.0), r.1)

    call_only : (c : DynamicCall) (count : ℕ) (sites : List Site) → AreOfCall constants bootstrap c sites → count + length sites ≤ 1000000 → call_sites pool bootstrap begin c count ≡ Ok (sites, count + length sites)
    unfolding call_sites
    call_only c count sites (b, is, are) le = rw is (bootstrap_sites_only (begin + c.pc) c.pc b count sites are le)

    pub calls_count : Counts (AreOfCall constants bootstrap) (call_sites pool bootstrap begin)
    calls_count = record { found = call_found; only = call_only }
