-- Files in memory: the paths below a folder, each once, and what calls answer.
use Rattle.std.proofs.Common.{◌≡◌, ◌≢◌, ℕ, ◌+◌, ◌<◌, Bool, true, false, cond, not, ◌||◌, List, [], ◌∷◌, ◌++◌, length, take, drop, map, get_or, Option, Some, None, refl, sym, ap, ◌∙◌, append_assoc, length-append}
use Rattle.std.specs.Prelude.{String, Vec, nat_eq, string_bytes}
use Rattle.std.specs.Borrow.{Bor}
use Rattle.std.specs.Option.{MatchOption, option_map}
use Rattle.std.specs.List.{find, filter, filter_map, list_any, starts_with}
use Rattle.std.specs.Ordering.{is_eq}
use Rattle.std.specs.Cmp.Lexicographic.{texts_ties}
use Rattle.std.specs.BTreeSet as tree
use Rattle.std.specs.BTreeSet.{BTreeSet}
use Rattle.std.proofs.lemmas.Bool.Decides.{Decides-eqb}
use Rattle.std.proofs.lemmas.Slice.Eq.{slice_eq-Decides, starts_is}
use Rattle.std.proofs.lemmas.List.{drop_at, take_more, append-nil, map-append}
use Rattle.std.proofs.lemmas.List.Elements.{filter-append, filter_map-append}
use Rattle.std.proofs.lemmas.List.Folds.{list_any-append}
use Rattle.fcg_bytes.specs.Files.{File, file_at, file_of, once, below, paths_below, path_in, read_answer, relative, short}
use Rattle.fcg_views.specs.Valid.{is_same}
use Rattle.fcg_bytes.specs.Known.{Knows, path_cmp, with_path, with_some}

-- ---- the path relative to a folder

-- where a path begins with the folder and `/`
begins : (folder path rest : List ℕ) → path ≡ path_in folder rest → starts_with nat_eq path (path_in folder []) ≡ true
begins folder path rest e = (starts_is Decides-eqb path (path_in folder []) _ refl).1 rest (e ∙ sym (append_assoc folder (47 ∷ []) rest))

pub relative-found : (folder path rest : List ℕ) → path ≡ path_in folder rest → relative folder path ≡ Some rest
relative-found folder path rest e =
    let left : drop (length folder + 1) path ≡ rest = ap (λ (p : List ℕ). drop (length folder + 1) p) (e ∙ sym (append_assoc folder (47 ∷ []) rest)) ∙ drop_at (path_in folder []) rest (length folder + 1) (length-append folder (47 ∷ [])) in
    rw (begins folder path rest e, left) refl

append-same : (front xs ys : List ℕ) → front ++ xs ≡ front ++ ys → xs ≡ ys
append-same front xs ys e = sym (drop_at front xs (length front) refl) ∙ ap (λ (zs : List ℕ). drop (length front) zs) e ∙ drop_at front ys (length front) refl

pub relative-none : (folder path : List ℕ) → ((rest : List ℕ) → path ≢ path_in folder rest) → relative folder path ≡ None
relative-none folder path other = from (starts_with nat_eq path (path_in folder [])) refl
  where
    from : (b : Bool) → starts_with nat_eq path (path_in folder []) ≡ b → cond b (Some (drop (length folder + 1) path)) None ≡ None
    from true e = absurd (other _ ((starts_is Decides-eqb path (path_in folder []) _ refl).0 e ∙ append_assoc folder (47 ∷ []) _))
    from false e = refl

-- what is left behind the folder, and then behind `/`
pub relative-of : (folder path : List ℕ) (rest : List ℕ) (r : Option (Bor (List ℕ))) → path ≡ folder ++ rest → MatchOption r ((end : List ℕ) → rest ≢ 47 ∷ end) (λ x. rest ≡ 47 ∷ x.now) → option_map (λ p. p.now) r ≡ relative folder path
relative-of folder path rest None front other = sym (relative-none folder path (λ end e. other end (append-same folder rest (47 ∷ end) (sym front ∙ e))))
relative-of folder path rest (Some x) front is = sym (relative-found folder path x.now (front ∙ ap (λ (r : List ℕ). folder ++ r) is))

-- ---- each path once

pub same_is : (x y : List ℕ) → is_same x y ≡ true → x ≡ y
same_is x y e = (slice_eq-Decides Decides-eqb x y _ refl).0 e

-- a path that isn't the one left out stands in the list as before
pub any-filter : (x y : List ℕ) (ys : List (List ℕ)) → is_same x y ≡ false → list_any (λ q. is_same q y) (filter (λ o. not (is_same x o)) ys) ≡ list_any (λ q. is_same q y) ys
any-filter x y [] other = refl
any-filter x y (z ∷ zs) other = from (any-filter x y zs other) (is_same x z) refl
  where
    from : list_any (λ q. is_same q y) (filter (λ o. not (is_same x o)) zs) ≡ list_any (λ q. is_same q y) zs → (b : Bool) → is_same x z ≡ b → list_any (λ q. is_same q y) (cond (not b) (z ∷ filter (λ o. not (is_same x o)) zs) (filter (λ o. not (is_same x o)) zs)) ≡ (is_same z y || list_any (λ q. is_same q y) zs)
    from others true e = let no : is_same z y ≡ false = ap (λ (w : List ℕ). is_same w y) (sym (same_is x z e)) ∙ other in others ∙ rw no refl
    from others false e = rw others refl

-- a path more, behind one that is left out of the others
with_path-cons : (x y : List ℕ) (ys : List (List ℕ)) → x ∷ filter (λ o. not (is_same x o)) (with_path ys y) ≡ with_path (x ∷ filter (λ o. not (is_same x o)) ys) y
with_path-cons x y ys = from (is_same x y) (list_any (λ q. is_same q y) ys) refl refl
  where
    from : (a b : Bool) → is_same x y ≡ a → list_any (λ q. is_same q y) ys ≡ b → x ∷ filter (λ o. not (is_same x o)) (cond b ys (ys ++ y ∷ [])) ≡ with_path (x ∷ filter (λ o. not (is_same x o)) ys) y
    from true true e f = rw e refl
    from true false e f = rw (e, filter-append (λ o. not (is_same x o)) ys (y ∷ []), e) (ap (λ (zs : List (List ℕ)). x ∷ zs) (append-nil (filter (λ o. not (is_same x o)) ys)))
    from false true e f = rw (e, any-filter x y ys e, f) refl
    from false false e f = rw (e, any-filter x y ys e, f, filter-append (λ o. not (is_same x o)) ys (y ∷ []), e) refl

pub once-push : (xs : List (List ℕ)) (y : List ℕ) → once (xs ++ y ∷ []) ≡ with_path (once xs) y
once-push [] y = refl
once-push (x ∷ xs) y = ap (λ (zs : List (List ℕ)). x ∷ filter (λ o. not (is_same x o)) zs) (once-push xs y) ∙ with_path-cons x y (once xs)

-- ---- the set beside a list

pub Knows-none : (set : BTreeSet (Bor (List ℕ))) → tree.IsEmpty set → Knows set []
Knows-none set none p = rw none refl

either : (a b : Bool) → cond a true b ≡ (b || (a || false))
either true true = refl
either true false = refl
either false true = refl
either false false = refl

-- one more path, in the set too
pub Knows-push : (old new : BTreeSet (Bor (List ℕ))) (paths : List (List ℕ)) (path : Bor (List ℕ)) → Knows old paths
    → ((p : Bor (List ℕ)) → tree.contains path_cmp new p ≡ cond (is_eq (path_cmp path p)) true (tree.contains path_cmp old p)) → Knows new (paths ++ path.now ∷ [])
Knows-push old new paths path are updates p =
    updates p
    ∙ rw (← texts_ties path.now p.now, are p) (either (is_same path.now p.now) (list_any (λ q. is_same q p.now) paths))
    ∙ sym (list_any-append (λ q. is_same q p.now) paths (path.now ∷ []))

-- ---- the first file at a path

find-map : {X Y : Type 0} (p : Y → Bool) (h : X → Y) (xs : List X) → find p (map h xs) ≡ option_map h (find (λ x. p (h x)) xs)
find-map p h [] = refl
find-map p h (x ∷ xs) = from (find-map p h xs) (p (h x))
  where
    from : find p (map h xs) ≡ option_map h (find (λ x. p (h x)) xs) → (b : Bool) → cond b (Some (h x)) (find p (map h xs)) ≡ option_map h (cond b (Some x) (find (λ x. p (h x)) xs))
    from rest true = refl
    from rest false = rest

pub file_at-map : {A : Type 0} (files : List (String A × Vec ℕ A)) (path : List ℕ) → file_at (map file_of files) path ≡ option_map (λ e. e.1.items) (find (λ f. is_same (file_of f).path path) files)
file_at-map {A = A} files path = ap (option_map (λ f. f.bytes)) (find-map (λ f. is_same f.path path) file_of files) ∙ option_map-map (find (λ f. is_same (file_of f).path path) files)
  where
    option_map-map : (o : Option (String A × Vec ℕ A)) → option_map (λ (f : File). f.bytes) (option_map file_of o) ≡ option_map (λ e. e.1.items) o
    option_map-map None = refl
    option_map-map (Some e) = refl

-- what a read gives, by what was found
pub read-found : {A : Type 0} (files : List (String A × Vec ℕ A)) (path : List ℕ) (limit : ℕ) (r : Option (Bor (String A × Vec ℕ A))) → option_map (λ f. f.now) r ≡ find (λ f. is_same (file_of f).path path) files
    → read_answer (map file_of files) path limit ≡ short limit (option_map (λ f. f.now.1.items) r)
read-found {A = A} files path limit r is = ap (short limit) (file_at-map files path ∙ ap (option_map (λ e. e.1.items)) (sym is) ∙ inner r)
  where
    inner : (r : Option (Bor (String A × Vec ℕ A))) → option_map (λ e. e.1.items) (option_map (λ f. f.now) r) ≡ option_map (λ f. f.now.1.items) r
    inner None = refl
    inner (Some f) = refl

-- ---- one file more

pub paths_below-none : (folder : List ℕ) → paths_below [] folder ≡ []
unfolding paths_below
paths_below-none folder = refl

pub paths_below-more : {A : Type 0} (files : List (String A × Vec ℕ A)) (folder : List ℕ) (i : ℕ) (x : String A × Vec ℕ A) → i < length files → x ≡ get_or files i x
    → paths_below (map file_of (take (i + 1) files)) folder ≡ with_some (paths_below (map file_of (take i files)) folder) (relative folder (string_bytes x.0))
unfolding paths_below
paths_below-more {A = A} files folder i x lt is =
    let front : List File = map file_of (take i files) in
    let last : File = file_of x in
    let one : map file_of (take (i + 1) files) ≡ front ++ last ∷ [] = ap (map file_of) (take_more files i x lt ∙ ap (λ y. take i files ++ y ∷ []) (sym is)) ∙ map-append file_of (take i files) (x ∷ []) in
    ap (λ (fs : List File). once (below fs folder)) one
    ∙ ap once (filter_map-append (λ (f : File). relative folder f.path) front (last ∷ []))
    ∙ added (below front folder) (relative folder last.path)
  where
    added : (paths : List (List ℕ)) (r : Option (List ℕ)) → once (paths ++ filter_map (λ (o : Option (List ℕ)). o) (r ∷ [])) ≡ with_some (once paths) r
    added paths None = ap once (append-nil paths)
    added paths (Some path) = once-push paths path
