-- The paths below a folder are those of the files there, and no two are the same.
use Rattle.std.proofs.Common.{◌≡◌, ℕ, ◌+◌, Bool, true, false, cond, not, ◌||◌, List, [], ◌∷◌, ◌++◌, length, drop, Option, Some, None, refl, sym, ap, ◌∙◌, append_assoc, length-append}
use Rattle.std.specs.Prelude.{◌↔◌, Contains, IsSome, is_some, nat_eq}
use Rattle.std.specs.List.{AllByRecursion, IsDistinct, cons_option, filter, find, list_any, starts_with}
use Rattle.std.specs.Option.{option_map}
use Rattle.std.specs.Cmp.Lexicographic.{nat_list_eq_equiv}
use Rattle.std.proofs.lemmas.Bool.Decides.{Decides-eqb}
use Rattle.std.proofs.lemmas.Map.Views.{Contains-from_any, list_any-from_Contains}
use Rattle.std.proofs.lemmas.Slice.Eq.{starts_is}
use Rattle.fcg_bytes.specs.Files.{File, below, file_at, once, path_in, paths_below, relative}
use Rattle.fcg_views.specs.Valid.{is_same}
use Rattle.fcg_bytes.proofs.FileLemmas.{any-filter, relative-found, same_is}

-- ---- a path is listed where there is a file

-- the parts of a path below a folder
relative-parts : (folder path rest : List ℕ) → relative folder path ≡ Some rest → path ≡ path_in folder rest
relative-parts folder path rest = from (starts_with nat_eq path (path_in folder [])) refl
  where
    left : (drop (length folder + 1) path ≡ rest) → starts_with nat_eq path (path_in folder []) ≡ true → path ≡ path_in folder rest
    left is e =
        let n : length (path_in folder []) ≡ length folder + 1 = length-append folder (47 ∷ []) in
        (starts_is Decides-eqb path (path_in folder []) _ refl).0 e ∙ ap (λ (k : ℕ). path_in folder [] ++ drop k path) n ∙ ap (λ (r : List ℕ). path_in folder [] ++ r) is ∙ append_assoc folder (47 ∷ []) rest

    from : (b : Bool) → starts_with nat_eq path (path_in folder []) ≡ b → cond b (Some (drop (length folder + 1) path)) None ≡ Some rest → path ≡ path_in folder rest
    from true e is = let tail : drop (length folder + 1) path ≡ rest = cc in left tail e
    from false e is = absurd cc

-- whether a relative path is this one
abbrev is_at : Option (List ℕ) → List ℕ → Bool
is_at None path = false
is_at (Some rest) path = is_same rest path

relative-same : (folder path rest : List ℕ) → is_at (relative folder path) rest ≡ is_same path (path_in folder rest)
relative-same folder path rest = from (is_same path (path_in folder rest)) refl
  where
    other : is_same path (path_in folder rest) ≡ false → (r : Option (List ℕ)) → relative folder path ≡ r → (b : Bool) → is_at r rest ≡ b → b ≡ false
    other differs None is b at = sym at
    other differs (Some r) is false at = refl
    other differs (Some r) is true at =
        let path_is : path ≡ path_in folder rest = relative-parts folder path r is ∙ ap (path_in folder) (same_is r rest at) in
        absurd (let yes : is_same path (path_in folder rest) ≡ true = ap (λ (p : List ℕ). is_same p (path_in folder rest)) path_is ∙ nat_list_eq_equiv.refl (path_in folder rest) in cc)

    from : (b : Bool) → is_same path (path_in folder rest) ≡ b → is_at (relative folder path) rest ≡ b
    from true e = ap (λ (r : Option (List ℕ)). is_at r rest) (relative-found folder path rest (same_is path (path_in folder rest) e)) ∙ nat_list_eq_equiv.refl rest
    from false e = other e (relative folder path) refl _ refl

any-below : (files : List File) (folder rest : List ℕ) → list_any (λ q. is_same q rest) (below files folder) ≡ list_any (λ f. is_same f.path (path_in folder rest)) files
any-below [] folder rest = refl
any-below (f ∷ files) folder rest = one (relative folder f.path) ∙ rw (relative-same folder f.path rest, any-below files folder rest) refl
  where
    one : (r : Option (List ℕ)) → list_any (λ q. is_same q rest) (cons_option r (below files folder)) ≡ (is_at r rest || list_any (λ q. is_same q rest) (below files folder))
    one None = refl
    one (Some r) = refl

any-once : (xs : List (List ℕ)) (y : List ℕ) → list_any (λ q. is_same q y) (once xs) ≡ list_any (λ q. is_same q y) xs
any-once [] y = refl
any-once (x ∷ xs) y = from (any-once xs y) (is_same x y) refl
  where
    from : list_any (λ q. is_same q y) (once xs) ≡ list_any (λ q. is_same q y) xs → (b : Bool) → is_same x y ≡ b → (b || list_any (λ q. is_same q y) (filter (λ o. not (is_same x o)) (once xs))) ≡ (b || list_any (λ q. is_same q y) xs)
    from others true e = refl
    from others false e = any-filter x y (once xs) e ∙ others

some_file : (files : List File) (path : List ℕ) → is_some (file_at files path) ≡ list_any (λ f. is_same f.path path) files
some_file [] path = refl
some_file (f ∷ files) path = from (some_file files path) (is_same f.path path)
  where
    from : is_some (file_at files path) ≡ list_any (λ f. is_same f.path path) files → (b : Bool) → is_some (option_map (λ (f : File). f.bytes) (cond b (Some f) (find (λ f. is_same f.path path) files))) ≡ (b || list_any (λ f. is_same f.path path) files)
    from others true = refl
    from others false = others

turned : (xs : List (List ℕ)) (y : List ℕ) → list_any (λ q. is_same q y) xs ≡ list_any (λ q. is_same y q) xs
turned [] y = refl
turned (x ∷ xs) y = rw (nat_list_eq_equiv.symm x y, turned xs y) refl

pub listed : (files : List File) (folder path : List ℕ) → list_any (λ q. is_same path q) (paths_below files folder) ≡ is_some (file_at files (path_in folder path))
unfolding paths_below
listed files folder path = sym (turned (once (below files folder)) path) ∙ any-once (below files folder) path ∙ any-below files folder path ∙ sym (some_file files (path_in folder path))

pub listed_where_there : (files : List File) (folder path : List ℕ) → Contains (paths_below files folder) path ↔ IsSome (file_at files (path_in folder path))
listed_where_there files folder path = (
  λ has. sym (listed files folder path) ∙ list_any-from_Contains nat_list_eq_equiv path (paths_below files folder) has,
  λ there. Contains-from_any same_is path (paths_below files folder) (listed files folder path ∙ there),
)

-- ---- no path is listed twice

kept : {X : Type 0} (P : X → Type 0) (p : X → Bool) (xs : List X) → AllByRecursion P xs → AllByRecursion P (filter p xs)
kept P p [] all = tt
kept P p (x ∷ xs) all = from (kept P p xs all.1) (p x)
  where
    from : AllByRecursion P (filter p xs) → (b : Bool) → AllByRecursion P (cond b (x ∷ filter p xs) (filter p xs))
    from others true = (all.0, others)
    from others false = others

distinct-filter : {X : Type 0} (e : X → X → Bool) (p : X → Bool) (xs : List X) → IsDistinct e xs → IsDistinct e (filter p xs)
unfolding IsDistinct
distinct-filter e p [] d = tt
distinct-filter e p (x ∷ xs) d = from (distinct-filter e p xs d.1) (p x)
  where
    from : IsDistinct e (filter p xs) → (b : Bool) → IsDistinct e (cond b (x ∷ filter p xs) (filter p xs))
    from others true = (kept (λ y. e x y ≡ false) p xs d.0, others)
    from others false = others

apart : (x : List ℕ) (ys : List (List ℕ)) → AllByRecursion (λ y. is_same x y ≡ false) (filter (λ o. not (is_same x o)) ys)
apart x [] = tt
apart x (y ∷ ys) = from (apart x ys) (is_same x y) refl
  where
    from : AllByRecursion (λ y. is_same x y ≡ false) (filter (λ o. not (is_same x o)) ys) → (b : Bool) → is_same x y ≡ b → AllByRecursion (λ y. is_same x y ≡ false) (cond (not b) (y ∷ filter (λ o. not (is_same x o)) ys) (filter (λ o. not (is_same x o)) ys))
    from others true e = others
    from others false e = (e, others)

distinct-once : (xs : List (List ℕ)) → IsDistinct is_same (once xs)
unfolding IsDistinct
distinct-once [] = tt
distinct-once (x ∷ xs) = (apart x (once xs), distinct-filter is_same (λ o. not (is_same x o)) (once xs) (distinct-once xs))

pub listed_once : (files : List File) (folder : List ℕ) → IsDistinct is_same (paths_below files folder)
unfolding paths_below
listed_once files folder = distinct-once (below files folder)
