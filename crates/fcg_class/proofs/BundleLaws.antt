-- Bundles: what is read is spelled so, and what is spelled so is read. So each string of bytes has one content, or one
-- fault.
use Rattle.std.proofs.Common.{◌≡◌, ℕ, ◌+◌, ◌-◌, ◌^◌, ◌<◌, ◌≤◌, Bool, true, false, cond, not, eqb, leb, List, [], ◌∷◌, ◌++◌, length, map, Option, Some, None, refl, sym, ap, subst, ◌∙◌, append_assoc, arith}
use Rattle.std.specs.Prelude.{Result, Ok, Err, IfOk}
use Rattle.std.specs.List.{flat_map, list_any, sum_by, All, AllByRecursion, AllZip}
use Rattle.std.proofs.lemmas.Bool.{eqb-true, leb-true, le-leb, and_parts}
use Rattle.std.proofs.lemmas.Bool.Decides.{nat_tests}
use Rattle.std.proofs.lemmas.List.{append-nil, length-append}
use Rattle.std.proofs.lemmas.List.Concat.{flat_map-cons}
use Rattle.std.proofs.lemmas.List.Elements.{All-from_recursion}
use Rattle.std.proofs.lemmas.List.Sums.{sum_by-cons}
use Rattle.std.proofs.lemmas.Map.Made.{AllPairs-from_IsDistinct, IsDistinct-from_AllPairs}
use Rattle.fcg_grammar.specs.declared.error.ReadError.{ReadError}
use Rattle.fcg_grammar.specs.Number.{u2_at, u4_at, part_at}
use Rattle.fcg_grammar.specs.Reading.{unless_broken, Gives}
use Rattle.fcg_grammar.specs.Rows.{rows}
use Rattle.fcg_grammar.specs.Spell.{IsBytes, u2, u4}
use Rattle.fcg_grammar.proofs.LawLemmas.{bind_ok, kept_ok, ok_or_err}
use Rattle.fcg_grammar.proofs.Limits.{IsBytes-part}
use Rattle.fcg_grammar.proofs.Standing.{Stands, Stands-then, Stands-front, ok_is, u2_found, u2_only, u4_found, u4_only, part_found, part_only, part_is, whole_is, is_whole}
use Rattle.fcg_grammar.proofs.StateRowLaws.{Linked, FoundRow, rows_found, rows_only}
use Rattle.fcg_views.specs.declared.view.View.{View}
use Rattle.fcg_classfile.specs.declared.fault.ClassFault.{ClassFault}
use Rattle.fcg_views.specs.Valid.{IsValid, is_same}
use Rattle.fcg_classfile.specs.Breaks.Class.{class_of}
use Rattle.fcg_classfile.proofs.ClassLaws.{class_found, class_only}
use Rattle.fcg_classfile.proofs.Fresh.{IsFresh, AreFresh, distinct_found, distinct_only}
use Rattle.fcg_classfile.proofs.Places.{closed}
use Rattle.fcg_classfile.proofs.WordLaws.{same_text}
use Rattle.fcg_classfile.proofs.ValidLaws.{reads_valid}
use Rattle.fcg_class.specs.declared.bundle.BundleFault.{BundleFault}
use Rattle.fcg_class.specs.declared.bundle.BundleFault.TheVariants.{Jar}
use Rattle.fcg_class.specs.declared.bundle.BundleRule.TheVariants.{Magic, Version, Cut, Path, Trailing, ManySites}
use Rattle.fcg_class.specs.Path.{is_path_length, is_path, is_class_path, is_versioned}
use Rattle.fcg_class.specs.Bundle.{Entry, entry, bundle, Holds, IsEntryOf, some_of, shown, views_of, sites_in, Content, broken, path_at, in_entry, held, body_at, EntriesBefore, entry_at, entries_of, is_jar, bundle_of, BundleVerdict, IsContent, IsBroken}

in_entry_ok : (k : ℕ) (r : Result (Option View) ClassFault) (v : Option View) → in_entry k r ≡ Ok v → r ≡ Ok v
in_entry_ok k (Ok w) v e = let same : w ≡ v = ok_is w v e in ap (λ (x : Option View). Ok x) same
in_entry_ok k (Err f) v e = absurd cc

held_found : (k : ℕ) (b : Bool) (body : List ℕ) (r : Option View) → IsBytes body → held k b body ≡ Ok r → Holds b body r
held_found k false body r fits e = sym (ok_is None r e)
held_found k true body r fits e = class_found body r fits (in_entry_ok k (class_of body) r e)

held_only : (k : ℕ) (b : Bool) (body : List ℕ) (r : Option View) → IsBytes body → Holds b body r → held k b body ≡ Ok r
held_only k false body r fits h = ap (λ (x : Option View). Ok x) (sym h)
held_only k true body r fits h = rw (class_only body r fits h) refl

not_true : (b : Bool) → not b ≡ true → b ≡ false
not_true true e = absurd cc
not_true false e = refl

pub short_path : (path : List ℕ) → is_path path ≡ true → (is_path_length (length path) ≡ true) × (length path < 2 ^ 16)
short_path path e =
    let a = and_parts (is_path_length (length path)) _ e in
    let b = and_parts (leb 1 (length path)) (leb (length path) 1024) a.0 in
    (a.0, short (length path) b.1)
  where
    short : (n : ℕ) → leb n 1024 ≡ true → n < 2 ^ 16
    short n le = let lt : n ≤ 1024 = grind (arith, nat_tests) in omega arith

-- an entry's listing ends with nothing
listed : (e : Entry) → u2 (length e.path) ++ (e.path ++ (u4 (length e.body) ++ e.body)) ≡ entry e
listed e = ap (λ (l : List ℕ). u2 (length e.path) ++ (e.path ++ (u4 (length e.body) ++ l))) (sym (append-nil e.body))

listed_at : {bytes : List ℕ} {at : ℕ} {after : ℕ} (e : Entry) → Stands bytes at (u2 (length e.path) ++ (e.path ++ (u4 (length e.body) ++ e.body))) after → Stands bytes at (entry e) after
listed_at {bytes} {at} {after} e s = subst (λ (l : List ℕ). Stands bytes at l after) (listed e) s

pub reopened : (e : Entry) (rest : List ℕ) → entry e ++ rest ≡ u2 (length e.path) ++ (e.path ++ (u4 (length e.body) ++ (e.body ++ rest)))
reopened e rest = ap (λ (l : List ℕ). l ++ rest) (sym (listed e)) ∙ ap (λ (l : List ℕ). u2 (length e.path) ++ l) (append_assoc e.path (u4 (length e.body) ++ e.body) rest)

pub entry_length : (e : Entry) → length (entry e) ≡ 2 + length e.path + 4 + length e.body
entry_length e = ap length (sym (listed e)) ∙ omega (arith, length-append e.path (u4 (length e.body) ++ e.body))

-- from entry to entry, with the paths before and the sites that may still come: what the entry holds, and what it shows
record MeansEntry (s : EntriesBefore) (e : Entry) (x : Option View) (next : EntriesBefore) : Type 0 where
  read : Option View
  is : IsEntryOf e read
  shows : x ≡ shown e.path read
  fresh : IsFresh is_same s.paths e.path
  few : sites_in read ≤ s.room
  room : next.room ≡ s.room - sites_in read
  at : next.at ≡ s.at + length (entry e)
  paths : next.paths ≡ s.paths ++ e.path ∷ []

module _ (bytes : List ℕ) (fits : IsBytes bytes) where
  record FoundPath (at : ℕ) (path : List ℕ) (after : ℕ) : Type 0 where
    stands : Stands bytes at (u2 (length path) ++ path) after
    kept : is_path path ≡ true

  path_found : (k at : ℕ) (x : List ℕ × ℕ) → path_at bytes k at ≡ Ok x → FoundPath at x.0 x.1
  unfolding path_at
  path_found k at x e =
      let a = bind_ok (u2_at (broken at k Cut) bytes at) _ x e in
      let b = bind_ok (unless_broken (is_path_length a.0) (broken at k Path)) _ x a.2 in
      let c = bind_ok (part_at (broken (at + 2) k Cut) bytes (at + 2) a.0) _ x b.2 in
      let d = bind_ok (unless_broken (is_path c.0) (broken (at + 2) k Path)) _ x c.2 in
      let n = u2_found (broken at k Cut) bytes at a.0 fits a.1 in
      let text = part_found (broken (at + 2) k Cut) bytes (at + 2) a.0 c.0 c.1 in
      let s = subst (λ (m : ℕ). Stands bytes at (u2 m) (at + 2)) (sym text.1) n.0 in
      subst (λ (y : List ℕ × ℕ). FoundPath at y.0 y.1) (ok_is _ x d.2) (record { stands = Stands-then s text.0; kept = kept_ok _ _ d.0 d.1 })

  pub path_only : (k at : ℕ) (path rest : List ℕ) (after : ℕ) → is_path path ≡ true → Stands bytes at (u2 (length path) ++ (path ++ rest)) after
      → (path_at bytes k at ≡ Ok (path, at + 2 + length path)) × Stands bytes (at + 2 + length path) rest after
  unfolding path_at
  path_only k at path rest after kept s =
      let short = short_path path kept in
      let n = u2_only (broken at k Cut) bytes at (length path) (path ++ rest) after short.1 s in
      let text = part_only (broken (at + 2) k Cut) bytes (at + 2) path rest after n.1 in
      (rw (n.0, short.0, text.0, kept) refl, text.1)

  record FoundBody (at : ℕ) (path : List ℕ) (r : Option View) (after : ℕ) : Type 0 where
    body : List ℕ
    stands : Stands bytes at (u4 (length body) ++ body) after
    few : length body < 2 ^ 32
    holds : Holds (is_class_path path) body r

  body_found : (k : ℕ) (path : List ℕ) (at : ℕ) (x : Option View × ℕ) → body_at bytes k path at ≡ Ok x → FoundBody at path x.0 x.1
  unfolding body_at
  body_found k path at x e =
      let a = bind_ok (u4_at (broken at k Cut) bytes at) _ x e in
      let b = bind_ok (part_at (broken (at + 4) k Cut) bytes (at + 4) a.0) _ x a.2 in
      let c = bind_ok (held k (is_class_path path) b.0) _ x b.2 in
      let n = u4_found (broken at k Cut) bytes at a.0 fits a.1 in
      let text = part_found (broken (at + 4) k Cut) bytes (at + 4) a.0 b.0 b.1 in
      let own = IsBytes-part bytes (at + 4) a.0 b.0 fits text.2 in
      let s = subst (λ (m : ℕ). Stands bytes at (u4 m) (at + 4)) (sym text.1) n.0 in
      subst (λ (y : Option View × ℕ). FoundBody at path y.0 y.1) (ok_is _ x c.2) (record {
        body = b.0;
        stands = Stands-then s text.0;
        few = omega (arith, text.1, n.1);
        holds = held_found k (is_class_path path) b.0 c.0 own c.1;
      })

  body_only : (k : ℕ) (path : List ℕ) (at : ℕ) (body : List ℕ) (r : Option View) (rest : List ℕ) (after : ℕ) → length body < 2 ^ 32 → Holds (is_class_path path) body r → Stands bytes at (u4 (length body) ++ (body ++ rest)) after
      → body_at bytes k path at ≡ Ok (r, at + 4 + length body)
  unfolding body_at
  body_only k path at body r rest after few holds s =
      let n = u4_only (broken at k Cut) bytes at (length body) (body ++ rest) after few s in
      let text = part_only (broken (at + 4) k Cut) bytes (at + 4) body rest after n.1 in
      let own = IsBytes-part bytes (at + 4) (length body) body fits (part_is bytes (at + 4) body _ (Stands-front body rest n.1)) in
      rw (n.0, text.0, held_only k (is_class_path path) body r own holds) refl

  abbrev place : EntriesBefore → ℕ
  place s = s.at

  entry_found : (k : ℕ) (s : EntriesBefore) (x : Option View × EntriesBefore) → s.at ≤ length bytes → entry_at bytes k s ≡ Ok x → FoundRow bytes place entry MeansEntry (entry_at bytes) s x.0 x.1
  unfolding entry_at
  entry_found k s x le e =
      let a = bind_ok (path_at bytes k s.at) _ x e in
      let b = bind_ok (unless_broken (not (list_any (λ p. is_same p a.0.0) s.paths)) (broken (s.at + 2) k Path)) _ x a.2 in
      let c = bind_ok (body_at bytes k a.0.0 a.0.1) _ x b.2 in
      let d = bind_ok (unless_broken (leb (sites_in c.0.0) s.room) (broken (a.0.1 + 4) k ManySites)) _ x c.2 in
      let path = path_found k s.at a.0 a.1 in
      let body = body_found k a.0.0 a.0.1 c.0 c.1 in
      let row : Entry = record { path = a.0.0; body = body.body } in
      let whole = listed_at row (Stands-then path.stands body.stands) in
      subst (λ (y : Option View × EntriesBefore). FoundRow bytes place entry MeansEntry (entry_at bytes) s y.0 y.1) (ok_is _ x d.2) (record {
        row = row;
        stands = whole;
        meant = record {
          read = c.0.0;
          is = record { path = path.kept; few = body.few; holds = body.holds };
          shows = refl;
          fresh = not_true _ (kept_ok _ _ b.0 b.1);
          few = leb-true _ _ (kept_ok _ _ d.0 d.1);
          room = refl;
          at = whole.ends;
          paths = refl;
        };
      })

  entry_only : (k : ℕ) (s : EntriesBefore) (e : Entry) (x : Option View) (next : EntriesBefore) (rest : List ℕ) (after : ℕ) → MeansEntry s e x next → Stands bytes s.at (entry e ++ rest) after
      → (entry_at bytes k s ≡ Ok (x, next)) × (next.at ≡ s.at + length (entry e))
  unfolding entry_at
  entry_only k s e x next rest after is t =
      let here : Stands bytes s.at (u2 (length e.path) ++ (e.path ++ (u4 (length e.body) ++ (e.body ++ rest)))) after = subst (λ (l : List ℕ). Stands bytes s.at l after) (reopened e rest) t in
      let path = path_only k s.at e.path (u4 (length e.body) ++ (e.body ++ rest)) after is.is.path here in
      let body = body_only k e.path (s.at + 2 + length e.path) e.body is.read rest after is.is.few is.is.holds path.1 in
      let end : s.at + 2 + length e.path + 4 + length e.body ≡ next.at = omega (arith, entry_length e, is.at) in
      let few : leb (sites_in is.read) s.room ≡ true = le-leb _ _ is.few in
      (rw (path.0, is.fresh, body, few, end, ← is.paths, ← is.room, is.shows) refl, is.at)

  -- ---- along the entries

  abbrev Follow : EntriesBefore → List Entry → List (Option View) → EntriesBefore → Type 0
  Follow s es xs end = Linked bytes place entry MeansEntry (entry_at bytes) s es xs end

  -- what the entries hold, from what they show
  record Followed (s : EntriesBefore) (es : List Entry) (xs : List (Option View)) : Type 0 where
    reads : List (Option View)
    each : AllZip IsEntryOf es reads
    shows : flat_map some_of xs ≡ views_of es reads
    fresh : AreFresh is_same s.paths (map (λ e. e.path) es)
    few : sum_by sites_in reads ≤ s.room

  follow_found : (s : EntriesBefore) (es : List Entry) (xs : List (Option View)) (end : EntriesBefore) → Follow s es xs end → Followed s es xs
  follow_found s [] [] end l = record { reads = []; each = tt; shows = refl; fresh = tt; few = omega arith }
  follow_found s [] (x ∷ xs) end l = absurd l
  follow_found s (e ∷ es) [] end l = absurd l
  follow_found s (e ∷ es) (x ∷ xs) end (next, is, more) =
      let below = follow_found next es xs end more in
      let few = is.few in
      let room = is.room in
      let left = below.few in
      record {
        reads = is.read ∷ below.reads;
        each = (is.is, below.each);
        shows = flat_map-cons some_of x xs ∙ rw (is.shows, below.shows) refl;
        fresh = (is.fresh, subst (λ (p : List (List ℕ)). AreFresh is_same p (map (λ e. e.path) es)) is.paths below.fresh);
        few = omega (arith, sum_by-cons sites_in is.read below.reads, few, room, left);
      }

  record Leads (s : EntriesBefore) (es : List Entry) (rs : List (Option View)) : Type 0 where
    shows : List (Option View)
    views : flat_map some_of shows ≡ views_of es rs
    end : EntriesBefore
    along : Follow s es shows end

  follow_only : (s : EntriesBefore) (es : List Entry) (rs : List (Option View)) → AllZip IsEntryOf es rs → AreFresh is_same s.paths (map (λ e. e.path) es) → sum_by sites_in rs ≤ s.room → Leads s es rs
  follow_only s [] [] z f few = record { shows = []; views = refl; end = s; along = refl }
  follow_only s [] (r ∷ rs) z f few = absurd z
  follow_only s (e ∷ es) [] z f few = absurd z
  follow_only s (e ∷ es) (r ∷ rs) z f few =
      let next : EntriesBefore = record { at = s.at + length (entry e); paths = s.paths ++ e.path ∷ []; room = s.room - sites_in r } in
      let here : sites_in r ≤ s.room = omega (arith, sum_by-cons sites_in r rs, few) in
      let left : sum_by sites_in rs ≤ s.room - sites_in r = omega (arith, sum_by-cons sites_in r rs, few) in
      let below = follow_only next es rs z.1 f.1 left in
      record {
        shows = shown e.path r ∷ below.shows;
        views = flat_map-cons some_of (shown e.path r) below.shows ∙ rw below.views refl;
        end = below.end;
        along = (next, record { read = r; is = z.0; shows = refl; fresh = f.0; few = here; room = refl; at = refl; paths = refl }, below.along);
      }

  entries_found : (views : List View) → entries_of bytes ≡ Ok views → Content bytes views
  unfolding entries_of
  entries_found views e =
      let first : EntriesBefore = record { at = 10; paths = []; room = 4000000 } in
      let a = bind_ok (u4_at (broken 0 0 Cut) bytes 0) _ views e in
      let b = bind_ok (unless_broken (eqb a.0 0x46434742) (broken 0 0 Magic)) _ views a.2 in
      let c = bind_ok (u2_at (broken 4 0 Cut) bytes 4) _ views b.2 in
      let d = bind_ok (unless_broken (eqb c.0 1) (broken 4 0 Version)) _ views c.2 in
      let f = bind_ok (u4_at (broken 6 0 Cut) bytes 6) _ views d.2 in
      let g = bind_ok (rows (entry_at bytes) f.0 0 first) _ views f.2 in
      let h = bind_ok (unless_broken (eqb (length bytes) g.0.1.at) (broken g.0.1.at f.0 Trailing)) _ views g.2 in
      let magic : a.0 ≡ 0x46434742 = eqb-true _ _ (kept_ok _ _ b.0 b.1) in
      let version : c.0 ≡ 1 = eqb-true _ _ (kept_ok _ _ d.0 d.1) in
      let ended : length bytes ≡ g.0.1.at = eqb-true _ _ (kept_ok _ _ h.0 h.1) in
      let s0 = subst (λ (n : ℕ). Stands bytes 0 (u4 n) 4) magic (u4_found (broken 0 0 Cut) bytes 0 a.0 fits a.1).0 in
      let s4 = subst (λ (n : ℕ). Stands bytes 4 (u2 n) 6) version (u2_found (broken 4 0 Cut) bytes 4 c.0 fits c.1).0 in
      let n = u4_found (broken 6 0 Cut) bytes 6 f.0 fits f.1 in
      let r = rows_found bytes place entry MeansEntry (entry_at bytes) entry_found f.0 0 first g.0 n.0.within g.1 in
      let along = follow_found first r.table g.0.0 g.0.1 r.meant in
      let s6 = subst (λ (k : ℕ). Stands bytes 6 (u4 k) 10) (sym r.many) n.0 in
      let whole = subst (λ (k : ℕ). Stands bytes 0 (u4 0x46434742 ++ (u2 1 ++ (u4 (length r.table) ++ flat_map entry r.table))) k) (sym ended) (Stands-then s0 (Stands-then s4 (Stands-then s6 r.stands))) in
      subst (λ (y : List View). Content bytes y) (ok_is (flat_map some_of g.0.0) views h.2) (record {
        entries = r.table;
        spelled = whole_is bytes (bundle r.table) (closed (u4 0x46434742 ++ (u2 1 ++ u4 (length r.table))) (flat_map entry r.table) whole);
        many = omega (arith, r.many, n.1);
        reads = along.reads;
        each = along.each;
        views_are = along.shows;
        distinct = AllPairs-from_IsDistinct same_text (map (λ e. e.path) r.table) (distinct_found is_same (map (λ e. e.path) r.table) along.fresh);
        few_sites = along.few;
      })

  entries_only : (views : List View) → Content bytes views → entries_of bytes ≡ Ok views
  unfolding entries_of
  entries_only views c =
      let first : EntriesBefore = record { at = 10; paths = []; room = 4000000 } in
      let es : List Entry = c.entries in
      let paths : List (List ℕ) = map (λ e. e.path) es in
      let s = is_whole bytes (bundle es) c.spelled in
      let a = u4_only (broken 0 0 Cut) bytes 0 0x46434742 (u2 1 ++ (u4 (length es) ++ (flat_map entry es ++ []))) (length bytes) (omega arith) s in
      let b = u2_only (broken 4 0 Cut) bytes 4 1 (u4 (length es) ++ (flat_map entry es ++ [])) (length bytes) (omega arith) a.1 in
      let n = u4_only (broken 6 0 Cut) bytes 6 (length es) (flat_map entry es ++ []) (length bytes) c.many b.1 in
      let along = follow_only first es c.reads c.each (distinct_only is_same paths (IsDistinct-from_AllPairs same_text paths c.distinct)) c.few_sites in
      let r = rows_only bytes place entry MeansEntry (entry_at bytes) entry_only 0 first es along.shows along.end [] (length bytes) along.along n.1 in
      let end : eqb (length bytes) along.end.at ≡ true = (let ends = r.1.ends in grind (arith, nat_tests)) in
      rw (a.0, b.0, n.0, r.0, end) (ap (λ (vs : List View). Ok vs) (along.views ∙ sym c.views_are))

-- ---- the whole bundle

not_jar : (x y : Result (List View) BundleFault) (b : Bool) (views : List View) → x ≡ Err Jar → cond b x y ≡ Ok views → y ≡ Ok views
not_jar x y true views is e = absurd cc
not_jar x y false views is e = e

-- what is read is a bundle with this content
pub content_found : (bytes : List ℕ) (views : List View) → IsBytes bytes → bundle_of bytes ≡ Ok views → Content bytes views
unfolding bundle_of
content_found bytes views fits e = entries_found bytes fits views (not_jar (Err Jar) (entries_of bytes) (is_jar bytes) views refl e)

no_bundle_is_jar : (es : List Entry) → is_jar (bundle es) ≡ false
no_bundle_is_jar es = refl

-- a bundle is read, with its content
pub content_only : (bytes : List ℕ) (views : List View) → IsBytes bytes → Content bytes views → bundle_of bytes ≡ Ok views
unfolding bundle_of
content_only bytes views fits c =
    let plain : is_jar bytes ≡ false = ap (λ (l : List ℕ). is_jar l) c.spelled ∙ no_bundle_is_jar c.entries in
    rw plain (entries_only bytes fits views c)

holds_valid : (b : Bool) (body : List ℕ) (r : Option View) → Holds b body r → AllByRecursion IsValid (some_of r)
holds_valid b body None h = tt
holds_valid false body (Some v) h = absurd cc
holds_valid true body (Some v) h = (reads_valid body v h, tt)

-- a view that is shown, if any, and others
shown_valid : (later : Bool) (r : Option View) (vs : List View) → AllByRecursion IsValid (some_of r) → AllByRecursion IsValid vs → AllByRecursion IsValid (some_of (cond later None r) ++ vs)
shown_valid true r vs here others = others
shown_valid false None vs here others = others
shown_valid false (Some v) vs here others = (here.0, others)

-- the views of the entries are valid
valid_views : (es : List Entry) (rs : List (Option View)) → AllZip IsEntryOf es rs → AllByRecursion IsValid (views_of es rs)
valid_views [] [] z = tt
valid_views [] (r ∷ rs) z = absurd z
valid_views (e ∷ es) [] z = absurd z
valid_views (e ∷ es) (r ∷ rs) z = shown_valid (is_versioned e.path) r (views_of es rs) (holds_valid (is_class_path e.path) e.body r z.0.holds) (valid_views es rs z.1)

-- each view of a bundle is valid
pub content_valid : (bytes : List ℕ) (views : List View) → Content bytes views → All IsValid views
content_valid bytes views c = All-from_recursion IsValid views (subst (λ (vs : List View). AllByRecursion IsValid vs) (sym c.views_are) (valid_views c.entries c.reads c.each))

-- ---- what a reader answers

pub is_found : (bytes : List ℕ) (r : Result (List View) (ReadError BundleFault)) → IsBytes bytes → Gives (λ v. v) r (bundle_of bytes) → IfOk r (λ views. Content bytes views)
is_found bytes (Ok views) fits given = content_found bytes views fits given
is_found bytes (Err e) fits given = tt

pub is_valid : (bytes : List ℕ) (r : Result (List View) (ReadError BundleFault)) → IsBytes bytes → Gives (λ v. v) r (bundle_of bytes) → IfOk r (λ views. All IsValid views)
is_valid bytes (Ok views) fits given = content_valid bytes views (content_found bytes views fits given)
is_valid bytes (Err e) fits given = tt

verdict_by : (bytes : List ℕ) → IsBytes bytes → (r : Result (List View) BundleFault) → bundle_of bytes ≡ r → BundleVerdict bytes
verdict_by bytes fits (Ok views) is =
    IsContent views (content_found bytes views fits is) (λ other c. ok_is other views (sym (content_only bytes other fits c) ∙ is)) (λ f broken. ok_or_err views f (sym is ∙ broken))
verdict_by bytes fits (Err f) is = IsBroken f is (λ views c. ok_or_err views f (sym (content_only bytes views fits c) ∙ is))

pub bundle_verdict : (bytes : List ℕ) → IsBytes bytes → BundleVerdict bytes
bundle_verdict bytes fits = verdict_by bytes fits (bundle_of bytes) refl
