-- Packing a folder.
use Rattle.std.proofs.Common.{◌≡◌, ℕ, suc, ◌+◌, ◌<◌, ◌≤◌, arith, Bool, true, false, cond, not, ltb, ◌&&◌, List, [], ◌∷◌, ◌++◌, length, sum_by, refl, sym, ap, subst, ◌∙◌, append_assoc, inl, inr}
use Rattle.std.specs.Prelude.{map, nat_eq, nat_lt, String, string_bytes, Option, Some, None, IfSome, IsSome, Result, Ok, Err}
use Rattle.std.specs.List.{filter, Contains, AllByRecursion, dedup, position, position_or_len, prefix_len, flat_map, list_all}
use Rattle.std.specs.List.Sorted.{IsPermutation, IsSorted, IsStrictlySortedBy}
use Rattle.std.specs.List.Retain.{IsFiltered, DiffersFromLast}
use Rattle.std.specs.Cmp.Lexicographic.{same_text, texts_ties}
use Rattle.std.specs.String.{string_cmp, string_cmp_total, string_eq, string_eq_equiv}
use Rattle.std.specs.declared.cmp.Ordering.TheVariants.{Less}
use Rattle.std.proofs.lemmas.List.{length-map}
use Rattle.std.proofs.lemmas.List.Filters.{dedup_is}
use Rattle.std.proofs.lemmas.List.Kept.{IsStrictlySortedBy-dedup, Any-dedup, Contains-from_dedup}
use Rattle.std.proofs.lemmas.List.Sorted.{Contains-permutation, IsPermutation-sym}
use Rattle.fcg_grammar.specs.Table.{order, Rises, table}
use Rattle.fcg_grammar.proofs.Among.{Among, Contains-among, among_at, among_from_contains, among_map, map_among, map_append, map_map, all_from_among}
use Rattle.fcg_grammar.proofs.TableLaws.{is_table, table_rises, among_table}
use Rattle.std.proofs.lemmas.List.{append-nil, length-append}
use Rattle.std.proofs.lemmas.List.Concat.{length-flat_map}
use Rattle.std.proofs.lemmas.Bool.{ltb-false, le-ltb, lt-ltb}
use Rattle.std.proofs.lemmas.List.Elements.{All-head, All-tail, All-from_recursion}
use Rattle.std.proofs.lemmas.List.Folds.{list_all-map}
use Rattle.std.proofs.lemmas.List.Sums.{sum_by-append, sum_by-cons}
use Rattle.std.proofs.lemmas.List.Quantifiers.{position-Some}
use Rattle.fcg_grammar.specs.Spell.{u2, u4}
use Rattle.fcg_bytes.specs.Files as listing
use Rattle.fcg_bytes.specs.Files.{File, Refuses, few, file_at, list_answer, path_in, paths_below, texts}
use Rattle.fcg_bytes.specs.declared.files.FilesRefusal.{FilesRefusal}
use Rattle.fcg_bytes.specs.declared.files.FilesRefusal.TheVariants as files
use Rattle.fcg_bytes.specs.declared.files.TheConstants.{MOST_FILES}
use Rattle.fcg_bytes.proofs.FileLaws.{listed_where_there}
use Rattle.fcg_class.specs.Path.{is_path}
use Rattle.fcg_class.specs.Bundle.{Entry, entry, bundle}
use Rattle.fcg_class.specs.declared.packing.PackedFile.{PackedFile}
use Rattle.fcg_class.specs.declared.packing.PackRefusal.{PackRefusal}
use Rattle.fcg_class.specs.declared.packing.PackRefusal.TheVariants as refusals
use Rattle.fcg_class.specs.Pack.{ArePacked, IsRefusal, PackFault, TooLong, bad_path, bundle_limit, checked, entry_in, is_packed, of_paths, pack_of, packed, refusal_of}
use Rattle.fcg_class.specs.Internal.Packing.{AreThere, GivesCheck, GivesFile, GivesFiles, bundle_size, entry_of, entry_size, head}
use Rattle.fcg_class.proofs.BundleLaws.{entry_length}

-- ---- sorted texts, each once

module _ {A : Type 0} where
  all_of_texts : (x : String A) (ys : List (String A)) → AllByRecursion (λ y. string_cmp x y ≡ Less) ys → AllByRecursion (λ y. order (string_bytes x) y ≡ Less) (texts ys)
  all_of_texts x [] all = tt
  all_of_texts x (y ∷ ys) all = (all.0, all_of_texts x ys all.1)

  texts_rise : (xs : List (String A)) → IsStrictlySortedBy string_cmp xs → Rises (texts xs)
  unfolding IsStrictlySortedBy
  texts_rise [] s = tt
  texts_rise (x ∷ xs) s = (all_of_texts x xs s.0, texts_rise xs s.1)

  -- texts that are sorted, and of equal ones that follow one another the first alone, are the table of the texts
  pub made_table : (xs sorted rows : List (String A)) → IsPermutation xs sorted → IsSorted string_cmp sorted → IsFiltered (DiffersFromLast string_eq) [] sorted rows → texts rows ≡ table (texts xs)
  made_table xs sorted rows p s f =
      let e : rows ≡ dedup string_eq sorted = dedup_is string_eq sorted rows f in
      ap (λ (l : List (String A)). texts l) e ∙ is_table (texts xs) (texts (dedup string_eq sorted)) (record {
        rises = texts_rise (dedup string_eq sorted) (IsStrictlySortedBy-dedup string_cmp_total (λ x y. texts_ties (string_bytes x) (string_bytes y)) sorted s);
        each = λ z c. kept z c;
        used = λ z c. was z c;
      })
    where
      kept : (z : List ℕ) → Contains (texts xs) z → Contains (texts (dedup string_eq sorted)) z
      kept z c =
          let m = map_among string_bytes z xs (among_from_contains z (texts xs) c) in
          let any = Any-dedup string_eq_equiv sorted m.0 (Contains-permutation xs sorted m.0 p (Contains-among m.0 xs m.1)) in
          let here : Among any.1 (dedup string_eq sorted) = subst (λ (y : String A). Among y (dedup string_eq sorted)) any.3 (among_at (dedup string_eq sorted) any.0 any.1 any.2) in
          let same : string_bytes m.0 ≡ string_bytes any.1 = same_text (string_bytes m.0) (string_bytes any.1) (sym any.4) in
          subst (λ (w : List ℕ). Contains (texts (dedup string_eq sorted)) w) (sym same ∙ m.2) (Contains-among (string_bytes any.1) (texts (dedup string_eq sorted)) (among_map string_bytes any.1 (dedup string_eq sorted) here))

      was : (z : List ℕ) → Contains (texts (dedup string_eq sorted)) z → Contains (texts xs) z
      was z c =
          let m = map_among string_bytes z (dedup string_eq sorted) (among_from_contains z (texts (dedup string_eq sorted)) c) in
          let before = Contains-permutation sorted xs m.0 (IsPermutation-sym xs sorted p) (Contains-from_dedup string_eq sorted m.0 (Contains-among m.0 (dedup string_eq sorted) m.1)) in
          subst (λ (w : List ℕ). Contains (texts xs) w) m.2 (Contains-among _ (texts xs) (among_map string_bytes m.0 xs (among_from_contains m.0 xs before)))

-- the texts that pass
pub texts_filter : {A : Type 0} (p : List ℕ → Bool) (xs : List (String A)) → texts (filter (λ s. p (string_bytes s)) xs) ≡ filter p (texts xs)
texts_filter p [] = refl
texts_filter {A} p (x ∷ xs) = passes (p (string_bytes x)) (texts_filter p xs)
  where
    passes : (b : Bool) → texts (filter (λ s. p (string_bytes s)) xs) ≡ filter p (texts xs) → texts (cond b (x ∷ filter (λ s. p (string_bytes s)) xs) (filter (λ s. p (string_bytes s)) xs)) ≡ cond b (string_bytes x ∷ filter p (texts xs)) (filter p (texts xs))
    passes true e = ap (λ (l : List (List ℕ)). string_bytes x ∷ l) e
    passes false e = e

-- ---- the first that doesn't pass

prefix_map : {X Y : Type 0} (p : Y → Bool) (f : X → Y) (xs : List X) → prefix_len p (map f xs) ≡ prefix_len (λ x. p (f x)) xs
prefix_map p f [] = refl
prefix_map p f (x ∷ xs) = ap (λ (n : ℕ). cond (p (f x)) (1 + n) 0) (prefix_map p f xs)

pub position_map : {X Y : Type 0} (p : Y → Bool) (f : X → Y) (xs : List X) → position p (map f xs) ≡ position (λ x. p (f x)) xs
position_map p f xs = rw (prefix_map (λ y. not (p y)) f xs, length-map xs f) refl

-- ---- how long a bundle is

entry_size_is : (e : Entry) → length (entry e) ≡ entry_size e
entry_size_is e = entry_length e ∙ omega arith

sizes_are : (es : List Entry) → sum_by (λ e. length (entry e)) es ≡ sum_by entry_size es
sizes_are [] = refl
sizes_are (e ∷ es) = let a = entry_size_is e in let b = sizes_are es in rw (sum_by-cons (λ (x : Entry). length (entry x)) e es, sum_by-cons entry_size e es, a, b) refl

-- what stands before the entries, and the entries
pub head_then : (es : List Entry) → head (length es) ++ flat_map entry es ≡ bundle es
head_then es = ap (λ (l : List ℕ). u4 0x46434742 ++ (u2 1 ++ (u4 (length es) ++ l))) (sym (append-nil (flat_map entry es)))

pub bundle_size_is : (es : List Entry) → length (bundle es) ≡ bundle_size es
bundle_size_is es =
    ap length (sym (head_then es))
    ∙ length-append (head (length es)) (flat_map entry es)
    ∙ ap (λ (n : ℕ). 10 + n) (length-flat_map entry es ∙ sizes_are es)

pub entries_few : (es : List Entry) → length es ≤ sum_by entry_size es
entries_few [] = omega arith
entries_few (e ∷ es) = let n = entries_few es in let s = sum_by-cons entry_size e es in omega (arith, n, s)

-- ---- which path is bad

no_bad_from : (n m : ℕ) → cond (ltb n m) (Some n) None ≡ None → ltb n m ≡ false
no_bad_from n m e = elim (ltb n m) as (λ b. cond b (Some n) None ≡ None → b ≡ false) [ true ↦ λ bad. absurd cc | false ↦ λ fine. refl ] e

all_good : (es : List Entry) → ltb (position_or_len (λ e. not (is_path e.path)) es) (length es) ≡ false → list_all (λ e. is_path e.path) es ≡ true
all_good [] e = refl
all_good (x ∷ es) e = from (is_path x.path) (all_good es) e
  where
    from : (b : Bool) → (ltb (position_or_len (λ e. not (is_path e.path)) es) (length es) ≡ false → list_all (λ e. is_path e.path) es ≡ true) → ltb (cond (not (not b)) (1 + position_or_len (λ e. not (is_path e.path)) es) 0) (suc (length es)) ≡ false → (b && list_all (λ e. is_path e.path) es) ≡ true
    from true next e = next (let n = ltb-false (1 + position_or_len (λ x. not (is_path x.path)) es) (suc (length es)) e in le-ltb (position_or_len (λ x. not (is_path x.path)) es) (length es) (omega (arith, n)))
    from false next e = absurd (let n = ltb-false 0 (suc (length es)) e in omega (arith, n))

pub good_paths : (es : List Entry) → bad_path es ≡ None → list_all (λ e. is_path e.path) es ≡ true
good_paths es e = all_good es (no_bad_from (position_or_len (λ x. not (is_path x.path)) es) (length es) e)

-- a bad path has a place among them
pub bad_within : (es : List Entry) (k : ℕ) → bad_path es ≡ Some k → k < length es
bad_within es k e = (position-Some (λ x. not (is_path x.path)) es k (record { path = []; body = [] }) e).0

-- ---- the files are read one after the other

-- what was read, and what is to be read, are the entries of all paths
abbrev pub ReadSoFar : Option (List File) → List ℕ → List Entry → List (List ℕ) → List (List ℕ) → Type 0
ReadSoFar t folder front rest paths = IfSome t (λ told. AreThere told folder paths → AreThere told folder rest × (front ++ map (entry_in told folder) rest ≡ map (entry_in told folder) paths))

abbrev pub Reads : Option (List File) → List ℕ → List ℕ → ℕ → Result PackedFile PackRefusal → Type 0
Reads t folder path size result = IfSome t (λ told. IsSome (file_at told (path_in folder path)) → GivesFile size (entry_in told folder path) result)

pub read_begins : (t : Option (List File)) (folder : List ℕ) (paths : List (List ℕ)) → ReadSoFar t folder [] paths paths
read_begins None folder paths = tt
read_begins (Some told) folder paths = λ there. (there, refl)

pub read_goes_on : (t : Option (List File)) (folder : List ℕ) (front : List Entry) (path : List ℕ) (rest paths : List (List ℕ)) (size : ℕ) (f : PackedFile) → ReadSoFar t folder front (path ∷ rest) paths → Reads t folder path size (Ok f) → ReadSoFar t folder (front ++ entry_of f ∷ []) rest paths
read_goes_on None folder front path rest paths size f so_far reads = tt
read_goes_on (Some told) folder front path rest paths size f so_far reads = λ there.
    let s = so_far there in
    let same = reads (All-head (λ p. IsSome (file_at told (path_in folder p))) path rest s.0) in (
      All-tail (λ p. IsSome (file_at told (path_in folder p))) path rest s.0,
      append_assoc front (entry_of f ∷ []) (map (entry_in told folder) rest)
          ∙ ap (λ (e : Entry). front ++ e ∷ map (entry_in told folder) rest) same
          ∙ s.1,
    )

pub read_ends : (t : Option (List File)) (folder : List ℕ) (front : List Entry) (paths : List (List ℕ)) → ReadSoFar t folder front [] paths → IfSome t (λ told. AreThere told folder paths → GivesFiles (map (entry_in told folder) paths) (Ok front))
read_ends None folder front paths so_far = tt
read_ends (Some told) folder front paths so_far = λ there. sym (append-nil front) ∙ (so_far there).1

sizes_more : (front : List Entry) (e : Entry) (rest : List Entry) → bundle_size front + entry_size e ≤ bundle_size (front ++ e ∷ rest)
sizes_more front e rest = let a = sum_by-append entry_size front (e ∷ rest) in let b = sum_by-cons entry_size e rest in omega (arith, a, b)

pub read_stops : (t : Option (List File)) (folder : List ℕ) (front : List Entry) (path : List ℕ) (rest paths : List (List ℕ)) (x : PackRefusal) → ReadSoFar t folder front (path ∷ rest) paths → Reads t folder path (bundle_size front) (Err x) → IfSome t (λ told. AreThere told folder paths → GivesFiles (map (entry_in told folder) paths) (Err x))
read_stops None folder front path rest paths x so_far reads = tt
read_stops (Some told) folder front path rest paths x so_far reads = λ there.
    let s = so_far there in
    fails x (reads (All-head (λ p. IsSome (file_at told (path_in folder p))) path rest s.0)) s.1
  where
    fails : (x : PackRefusal) → GivesFile (bundle_size front) (entry_in told folder path) (Err x) → front ++ map (entry_in told folder) (path ∷ rest) ≡ map (entry_in told folder) paths → GivesFiles (map (entry_in told folder) paths) (Err x)
    fails refusals.NoMemory given same = tt
    fails refusals.Absent given same = given
    fails refusals.FilesFailed given same = tt
    fails refusals.TooLong given same =
        let more = sizes_more front (entry_in told folder path) (map (entry_in told folder) rest) in
        let all = ap bundle_size same in
        omega (arith, given, more, all)
    fails (refusals.BadPath k) given same = given
    fails refusals.WriteFailed given same = tt

-- ---- the paths of what was read

pub paths_more : {A : Type 0} (front : List PackedFile) (f : PackedFile) (path : String A) (rest : List (String A)) (paths : List (List ℕ)) → string_bytes f.path ≡ string_bytes path → map (λ x. string_bytes x.path) front ++ texts (path ∷ rest) ≡ paths → map (λ x. string_bytes x.path) (front ++ f ∷ []) ++ texts rest ≡ paths
paths_more front f path rest paths same so_far =
    ap (λ (l : List (List ℕ)). l ++ texts rest) (map_append (λ (x : PackedFile). string_bytes x.path) front (f ∷ []))
    ∙ append_assoc (map (λ x. string_bytes x.path) front) (string_bytes f.path ∷ []) (texts rest)
    ∙ ap (λ (p : List ℕ). map (λ x. string_bytes x.path) front ++ p ∷ texts rest) same
    ∙ so_far

pub size_more : (front : List PackedFile) (f : PackedFile) → bundle_size (map entry_of front) + entry_size (entry_of f) ≡ bundle_size (map entry_of (front ++ f ∷ []))
size_more front f =
    let a = map_append entry_of front (f ∷ []) in
    let b = sum_by-append entry_size (map entry_of front) (entry_of f ∷ []) in
    let c = sum_by-cons entry_size (entry_of f) [] in
    rw a (omega (arith, b, c))

-- ---- what a folder is packed as

few_are : (paths listed : List (List ℕ)) → few paths ≡ Ok listed → paths ≡ listed
few_are paths listed = from (nat_eq (length paths) 0) (nat_lt MOST_FILES (length paths))
  where
    from : (none many : Bool) → cond none (Err listing.Absent) (cond many (Err listing.TooLong) (Ok paths)) ≡ Ok listed → paths ≡ listed
    from true many e = absurd cc
    from false true e = absurd cc
    from false false e = cc

among_filter : (p : List ℕ → Bool) (xs : List (List ℕ)) (x : List ℕ) → Among x (filter p xs) → Among x xs × (p x ≡ true)
among_filter p [] x h = absurd h
among_filter p (y ∷ ys) x h = from (among_filter p ys x) (p y) refl h
  where
    from : (Among x (filter p ys) → Among x ys × (p x ≡ true)) → (b : Bool) → p y ≡ b → Among x (cond b (y ∷ filter p ys) (filter p ys)) → Among x (y ∷ ys) × (p x ≡ true)
    from next true t (inl e) = (inl e, ap p (sym e) ∙ t)
    from next true t (inr h) = let r = next h in (inr r.0, r.1)
    from next false t h = let r = next h in (inr r.0, r.1)

among_packed : (listed : List (List ℕ)) (path : List ℕ) → Among path (packed listed) → Among path listed × (is_packed path ≡ true)
among_packed listed path h = among_filter is_packed listed path (among_table (filter is_packed listed) path h)

-- each path that is packed of those that were listed has its file
are_there : (told : List File) (folder : List ℕ) (listed : List (List ℕ)) → list_answer told folder ≡ Ok listed → AreThere told folder (packed listed)
are_there told folder listed e =
    let same = few_are (paths_below told folder) listed e in
    All-from_recursion (λ p. IsSome (file_at told (path_in folder p))) (packed listed) (all_from_among (λ p. IsSome (file_at told (path_in folder p))) (packed listed)
    (λ p h. (listed_where_there told folder p).0 (subst (λ (ps : List (List ℕ)). Contains ps p) (sym same) (Contains-among p listed (among_packed listed p h).0))))

pub list_refused : (t : Option (List File)) (folder : List ℕ) (e : FilesRefusal) → IfSome t (λ told. Refuses e (list_answer told folder)) → IfSome t (λ told. IsRefusal (refusal_of e) (pack_of told folder))
unfolding pack_of
list_refused None folder e given = tt
list_refused (Some told) folder e given = of e given
  where
    of : (e : FilesRefusal) → Refuses e (list_answer told folder) → IsRefusal (refusal_of e) (pack_of told folder)
    of files.NoMemory g = tt
    of files.Absent g = rw g refl
    of files.Failed g = tt
    of files.TooLong g = rw g refl

path_refused : (read : List Entry) (e : PackRefusal) (bad : Option ℕ) → GivesCheck bad (Err e) → IsRefusal e (of_paths read bad)
path_refused read refusals.NoMemory bad is = tt
path_refused read refusals.Absent bad is = absurd is
path_refused read refusals.FilesFailed bad is = tt
path_refused read refusals.TooLong bad is = absurd is
path_refused read (refusals.BadPath k) bad is = rw is refl
path_refused read refusals.WriteFailed bad is = tt

-- what the files of the listed paths give
pack_listed : (told : List File) (folder : List ℕ) (listed : List (List ℕ)) → list_answer told folder ≡ Ok listed → pack_of told folder ≡ checked (map (entry_in told folder) (packed listed))
unfolding pack_of
pack_listed told folder listed e = rw e refl

too_long : (es : List Entry) → bundle_limit < bundle_size es → checked es ≡ Err TooLong
too_long es lt = rw (lt-ltb bundle_limit (length (bundle es)) (let n = bundle_size_is es in omega (arith, lt, n))) refl

short_enough : (es : List Entry) → bundle_size es ≤ bundle_limit → checked es ≡ of_paths es (bad_path es)
short_enough es le = rw (le-ltb bundle_limit (length (bundle es)) (let n = bundle_size_is es in omega (arith, le, n))) refl

module _ (folder : List ℕ) (listed paths : List (List ℕ)) (chosen : paths ≡ packed listed) where
  there : (told : List File) → list_answer told folder ≡ Ok listed → AreThere told folder paths
  there told e = subst (λ (ps : List (List ℕ)). AreThere told folder ps) (sym chosen) (are_there told folder listed e)

  gives : (told : List File) → list_answer told folder ≡ Ok listed → pack_of told folder ≡ checked (map (entry_in told folder) paths)
  gives told e = pack_listed told folder listed e ∙ ap (λ (ps : List (List ℕ)). checked (map (entry_in told folder) ps)) (sym chosen)

  pub read_refused : (t : Option (List File)) (e : PackRefusal) → IfSome t (λ told. list_answer told folder ≡ Ok listed) → IfSome t (λ told. AreThere told folder paths → GivesFiles (map (entry_in told folder) paths) (Err e)) → IfSome t (λ told. IsRefusal e (pack_of told folder))
  read_refused None e list given = tt
  read_refused (Some told) e list given = of e (given (there told list))
    where
      of : (e : PackRefusal) → GivesFiles (map (entry_in told folder) paths) (Err e) → IsRefusal e (pack_of told folder)
      of refusals.NoMemory g = tt
      of refusals.Absent g = absurd g
      of refusals.FilesFailed g = tt
      of refusals.TooLong g = gives told list ∙ too_long (map (entry_in told folder) paths) g
      of (refusals.BadPath k) g = absurd g
      of refusals.WriteFailed g = tt

  -- the entries that were read are what the files give, unless a path is bad
  were_read : (told : List File) (read : List Entry) → list_answer told folder ≡ Ok listed → (AreThere told folder paths → GivesFiles (map (entry_in told folder) paths) (Ok read)) → bundle_size read ≤ bundle_limit → pack_of told folder ≡ of_paths read (bad_path read)
  were_read told read list given short = gives told list ∙ ap checked (sym (given (there told list))) ∙ short_enough read short

  pub paths_refused : (t : Option (List File)) (read : List Entry) (e : PackRefusal) → IfSome t (λ told. list_answer told folder ≡ Ok listed) → IfSome t (λ told. AreThere told folder paths → GivesFiles (map (entry_in told folder) paths) (Ok read)) → bundle_size read ≤ bundle_limit
      → GivesCheck (bad_path read) (Err e) → IfSome t (λ told. IsRefusal e (pack_of told folder))
  paths_refused None read e list given short bad = tt
  paths_refused (Some told) read e list given short bad = subst (λ (answer : Result (List Entry) PackFault). IsRefusal e answer) (sym (were_read told read list given short)) (path_refused read e (bad_path read) bad)

  given_so : (t : Option (List File)) (read : List Entry) → IfSome t (λ told. list_answer told folder ≡ Ok listed) → IfSome t (λ told. AreThere told folder paths → GivesFiles (map (entry_in told folder) paths) (Ok read)) → bundle_size read ≤ bundle_limit
      → bad_path read ≡ None → IfSome t (λ told. pack_of told folder ≡ Ok read)
  given_so None read list given short good = tt
  given_so (Some told) read list given short good = were_read told read list given short ∙ ap (of_paths read) good

  pub are_packed : (t : Option (List File)) (read : List PackedFile) → map (λ f. string_bytes f.path) read ≡ paths → IfSome t (λ told. list_answer told folder ≡ Ok listed) → IfSome t (λ told. AreThere told folder paths → GivesFiles (map (entry_in told folder) paths) (Ok (map entry_of read)))
      → bundle_size (map entry_of read) ≤ bundle_limit → bad_path (map entry_of read) ≡ None → ArePacked t folder (map entry_of read)
  are_packed t read names list given short good = record {
    rise = subst (λ (ps : List (List ℕ)). Rises ps) (sym same) (table_rises (filter is_packed listed));
    paths = good_paths (map entry_of read) good;
    chosen = sym (list_all-map is_packed (λ (e : Entry). e.path) (map entry_of read)) ∙ ap (list_all is_packed) same ∙ all_packed;
    short = let n = bundle_size_is (map entry_of read) in omega (arith, n, short);
    given = given_so t (map entry_of read) list given short good;
  }
    where
      same : map (λ (e : Entry). e.path) (map entry_of read) ≡ packed listed
      same = map_map (λ (e : Entry). e.path) entry_of read ∙ names ∙ chosen

      all_packed : list_all is_packed (packed listed) ≡ true
      all_packed = all_pass (packed listed) (λ p h. (among_packed listed p h).1)
        where
          all_pass : (ps : List (List ℕ)) → ((p : List ℕ) → Among p ps → is_packed p ≡ true) → list_all is_packed ps ≡ true
          all_pass [] each = refl
          all_pass (p ∷ ps) each = rw (each p (inl refl), all_pass ps (λ q h. each q (inr h))) refl
