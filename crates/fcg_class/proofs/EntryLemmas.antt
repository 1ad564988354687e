-- Reading the entries of a bundle, as a loop does.
use Rattle.std.proofs.Common.{◌≡◌, ℕ, ◌+◌, ◌-◌, ◌<◌, arith, Bool, true, false, cond, not, ◌||◌, leb, Option, Some, None, List, [], ◌∷◌, ◌++◌, refl, sym, ap, ◌∙◌}
use Rattle.std.specs.Prelude.{Result, Ok, Err}
use Rattle.std.specs.Borrow.{Bor}
use Rattle.std.specs.List.{flat_map, list_any}
use Rattle.std.specs.Ordering.{is_eq}
use Rattle.std.specs.Cmp.Lexicographic.{texts_ties}
use Rattle.std.specs.BTreeSet as tree
use Rattle.std.specs.BTreeSet.{BTreeSet}
use Rattle.std.proofs.lemmas.List.{append-nil}
use Rattle.std.proofs.lemmas.List.Concat.{flat_map-cons, flat_map-append}
use Rattle.std.proofs.lemmas.List.Folds.{list_any-append}
use Rattle.fcg_grammar.specs.declared.error.ReadError.{ReadError}
use Rattle.fcg_grammar.specs.declared.error.ReadError.TheVariants as errors
use Rattle.fcg_grammar.specs.Reading.{Fails}
use Rattle.fcg_grammar.specs.Rows.{rows}
use Rattle.fcg_grammar.proofs.RowLemmas.{with_front, rows_go_on}
use Rattle.fcg_views.specs.declared.view.View.{View}
use Rattle.fcg_views.specs.Valid.{left_of, is_same}
use Rattle.fcg_class.specs.declared.bundle.Ahead.{Ahead}
use Rattle.fcg_class.specs.declared.bundle.BundleFault.{BundleFault}
use Rattle.fcg_class.specs.declared.bundle.BundleRule.TheVariants.{Path, ManySites}
use Rattle.fcg_class.specs.Bundle.{broken, shown, sites_in, some_of, EntriesBefore, path_at, body_at, entry_at}
use Rattle.fcg_class.specs.Internal.Entries.{path_cmp, ArePaths, entries_before, before_first, GivesEntry}

negated : (a b c : Bool) → a ≡ b → c ≡ not a → not c ≡ b
negated true b c e f = rw f e
negated false b c e f = rw f e

-- what an insert into the set says of the paths before
pub stands_before : (set : BTreeSet (Bor (List ℕ))) (before : List (List ℕ)) (path : Bor (List ℕ)) (added : Bool) → ArePaths set before → added ≡ not (tree.contains path_cmp set path) → not added ≡ list_any (λ p. is_same p path.now) before
stands_before set before path added are is = negated (tree.contains path_cmp set path) _ added (are path) is

either : (a b : Bool) → cond a true b ≡ (b || (a || false))
either true true = refl
either true false = refl
either false true = refl
either false false = refl

-- one more path, in the set too
pub ArePaths-push : (old new : BTreeSet (Bor (List ℕ))) (before : List (List ℕ)) (path : Bor (List ℕ)) → ArePaths old before
    → ((p : Bor (List ℕ)) → tree.contains path_cmp new p ≡ cond (is_eq (path_cmp path p)) true (tree.contains path_cmp old p)) → ArePaths new (before ++ path.now ∷ [])
ArePaths-push old new before path are updates p =
    updates p
    ∙ rw (← texts_ties path.now p.now, are p) (either (is_same path.now p.now) (list_any (λ q. is_same q p.now) before))
    ∙ sym (list_any-append (λ q. is_same q p.now) before (path.now ∷ []))

pub entry_at-twice : (bytes : List ℕ) (k : ℕ) (ahead : Ahead) (before : List (List ℕ)) (path : List ℕ) (after : ℕ) → path_at bytes k ahead.at ≡ Ok (path, after) → true ≡ list_any (λ p. is_same p path) before → entry_at bytes k (entries_before ahead before) ≡ Err (broken (ahead.at + 2) k Path)
unfolding entry_at
entry_at-twice bytes k ahead before path after p t = rw (p, ← t) refl

left : (b : Bool) (n m : ℕ) → cond b (Some n) None ≡ Some m → (b ≡ true) × (m ≡ n)
left true n m e = (refl, cc)
left false n m e = absurd cc

none_left : (b : Bool) (n : ℕ) → cond b (Some n) None ≡ None → b ≡ false
none_left true n e = absurd cc
none_left false n e = refl

-- the path is read, and no earlier one is the same
module _ (bytes : List ℕ) (k : ℕ) (ahead : Ahead) (before : List (List ℕ)) (path : List ℕ) (after : ℕ) (is : path_at bytes k ahead.at ≡ Ok (path, after)) (fresh : false ≡ list_any (λ p. is_same p path) before) where
  pub entry_at-broken : (e : ReadError BundleFault) → Fails e (body_at bytes k path after) → Fails e (entry_at bytes k (entries_before ahead before))
  unfolding entry_at
  entry_at-broken errors.NoMemory given = tt
  entry_at-broken (errors.Fault f) given = rw (is, ← fresh, given) refl

  pub entry_at-many : (r : Option View) (end : ℕ) → body_at bytes k path after ≡ Ok (r, end) → left_of ahead.room (sites_in r) ≡ None → entry_at bytes k (entries_before ahead before) ≡ Err (broken (after + 4) k ManySites)
  unfolding entry_at
  entry_at-many r end given none = rw (is, ← fresh, given, none_left (leb (sites_in r) ahead.room) _ none) refl

  pub entry_at-read : (r : Option View) (end room : ℕ) → body_at bytes k path after ≡ Ok (r, end) → left_of ahead.room (sites_in r) ≡ Some room → entry_at bytes k (entries_before ahead before) ≡ Ok (shown path r, entries_before (record { at = end; room = room }) (before ++ path ∷ []))
  unfolding entry_at
  entry_at-read r end room given some =
      let l = left (leb (sites_in r) ahead.room) _ room some in
      rw (is, ← fresh, given, l.0, ← l.1) refl

-- ---- the rows of entries, one after the other

pub ArePaths-none : (set : BTreeSet (Bor (List ℕ))) → tree.IsEmpty set → ArePaths set []
ArePaths-none set none p = rw none refl

pub entries_begin : (bytes : List ℕ) (count at : ℕ) → with_front [] (rows (entry_at bytes) (count - 0) 0 (before_first at)) ≡ rows (entry_at bytes) count 0 (before_first at)
entries_begin bytes count at =
    let n : count - 0 ≡ count = omega arith in
    rw n (front_none (rows (entry_at bytes) count 0 (before_first at)))
  where
    front_none : {X S E : Type 0} (r : Result (List X × S) E) → with_front [] r ≡ r
    front_none (Ok x) = refl
    front_none (Err f) = refl

pub entries_go_on : (bytes : List ℕ) (count k : ℕ) (place : Ahead) (before : List (List ℕ)) (front : List (Option View)) (view : Option View) (after : Ahead) (set : BTreeSet (Bor (List ℕ))) (total : Result (List (Option View) × EntriesBefore) BundleFault) → k < count
    → GivesEntry (Ok (view, after)) set before (entry_at bytes k (entries_before place before)) → with_front front (rows (entry_at bytes) (count - k) k (entries_before place before)) ≡ total
    → (paths : List (List ℕ)) × ArePaths set paths × (with_front (front ++ view ∷ []) (rows (entry_at bytes) (count - (k + 1)) (k + 1) (entries_before after paths)) ≡ total)
entries_go_on bytes count k place before front view after set total lt given so_far =
    (before ++ given.0 ∷ [], given.1, rows_go_on (entry_at bytes) front count k (entries_before place before) view (entries_before after (before ++ given.0 ∷ [])) total lt given.2 so_far)

-- the views, where that of an entry was added
pub views_more : (front : List (Option View)) (r : Option View) (old new : List View) → old ≡ flat_map some_of front → new ≡ old ++ some_of r → new ≡ flat_map some_of (front ++ r ∷ [])
views_more front r old new are pushed =
    pushed ∙ ap (λ (vs : List View). vs ++ some_of r) are ∙ ap (λ (vs : List View). flat_map some_of front ++ vs) (sym (append-nil (some_of r)) ∙ sym (flat_map-cons some_of r [])) ∙ sym (flat_map-append some_of front (r ∷ []))
