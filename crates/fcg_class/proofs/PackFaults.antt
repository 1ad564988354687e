-- What is packed has no fault but those of what its entries hold.
use Rattle.std.proofs.Common.{◌≡◌, ℕ, ◌+◌, ◌-◌, ◌^◌, ◌<◌, ◌≤◌, arith, Bool, true, false, eqb, leb, List, [], ◌∷◌, ◌++◌, length, map, sum_by, Option, refl, sym, subst}
use Rattle.std.specs.Prelude.{Result, Ok, Err, min}
use Rattle.std.specs.List.{flat_map, list_all, list_any}
use Rattle.std.proofs.lemmas.Bool.{and_parts}
use Rattle.std.proofs.lemmas.Bool.Decides.{nat_tests}
use Rattle.std.proofs.lemmas.List.{append-nil}
use Rattle.std.proofs.lemmas.List.Concat.{flat_map-cons}
use Rattle.std.proofs.lemmas.List.Sums.{sum_by-cons}
use Rattle.std.proofs.lemmas.Map.Made.{IsDistinct-from_AllPairs}
use Rattle.fcg_grammar.specs.Reading.{◌>>=◌, unless_broken}
use Rattle.fcg_grammar.specs.Rows.{rows}
use Rattle.fcg_grammar.specs.Spell.{IsBytes, u2, u4}
use Rattle.fcg_grammar.proofs.Standing.{Stands, Stands-back, u2_only, u4_only, part_only, is_whole}
use Rattle.fcg_bytes.specs.Files.{File}
use Rattle.fcg_views.specs.declared.view.View.{View}
use Rattle.fcg_classfile.specs.declared.fault.ClassFault.{ClassFault}
use Rattle.fcg_classfile.specs.Breaks.Class.{class_of}
use Rattle.fcg_classfile.proofs.Fresh.{AreFresh, distinct_only}
use Rattle.fcg_classfile.proofs.WordLaws.{same_text}
use Rattle.fcg_class.specs.declared.bundle.BundleFault.{BundleFault}
use Rattle.fcg_class.specs.declared.bundle.BundleFault.TheVariants.{Class}
use Rattle.fcg_class.specs.declared.bundle.BundleRule.TheVariants.{Cut, Trailing, ManySites}
use Rattle.fcg_class.specs.Path.{is_path, is_class_path}
use Rattle.fcg_class.specs.Bundle.{Entry, entry, bundle, shown, sites_in, broken, in_entry, held, EntriesBefore, body_at, entry_at, entries_of, bundle_of}
use Rattle.fcg_views.specs.Valid.{is_same}
use Rattle.fcg_class.specs.Pack.{ArePacked, IsOfContent, bundle_limit}
use Rattle.fcg_class.specs.Internal.Packing.{entry_size}
use Rattle.fcg_class.proofs.BundleLaws.{entry_length, path_only, reopened}
use Rattle.fcg_class.proofs.PackLaws.{differ}
use Rattle.fcg_class.proofs.PackLemmas.{bundle_size_is, entries_few}

-- a fault of what an entry holds is one of its class file
of_held : (k : ℕ) (is_class : Bool) (body : List ℕ) (f : BundleFault) → held k is_class body ≡ Err f → IsOfContent f
of_held k false body f e = absurd cc
of_held k true body f e = from (class_of body) e
  where
    from : (r : Result (Option View) ClassFault) → in_entry k r ≡ Err f → IsOfContent f
    from (Ok v) e = absurd cc
    from (Err g) e = let same : Class (min k (2 ^ 32 - 1)) g ≡ f = cc in subst (λ (x : BundleFault). IsOfContent x) same tt

-- what reading an entry comes to: the next entry's place, or such a fault
abbrev Comes : EntriesBefore → Entry → Result (Option View × EntriesBefore) BundleFault → Type 0
Comes s e (Ok x) = (x.1.at ≡ s.at + length (entry e)) × (x.1.paths ≡ s.paths ++ e.path ∷ [])
Comes s e (Err f) = IsOfContent f

-- what follows a body that was read
abbrev count : ℕ → EntriesBefore → Entry → Option View × ℕ → Result (Option View × EntriesBefore) BundleFault
count k s e body =
    ◌>>=◌ (unless_broken (leb (sites_in body.0) s.room) (broken (s.at + 2 + length e.path + 4) k ManySites)) (λ few.
    Ok (shown e.path body.0, record { at = body.1; paths = s.paths ++ e.path ∷ []; room = s.room - sites_in body.0 }))

abbrev with_end : ℕ → Option View → Result (Option View × ℕ) BundleFault
with_end end read = Ok (read, end)

abbrev then_counted : ℕ → EntriesBefore → Entry → ℕ → Result (Option View) BundleFault → Result (Option View × EntriesBefore) BundleFault
then_counted k s e end r = ◌>>=◌ (◌>>=◌ r (with_end end)) (count k s e)

counted : (k : ℕ) (s : EntriesBefore) (e : Entry) (end : ℕ) (r : Result (Option View) BundleFault) → end ≡ s.at + length (entry e) → ((f : BundleFault) → r ≡ Err f → IsOfContent f) → Comes s e (then_counted k s e end r)
counted k s e end (Err f) ends of = of f refl
counted k s e end (Ok v) ends of = from (leb (sites_in v) s.room)
  where
    from : (few : Bool) → Comes s e (unless_broken few (broken (s.at + 2 + length e.path + 4) k ManySites) >>= λ kept. Ok (shown e.path v, record { at = end; paths = s.paths ++ e.path ∷ []; room = s.room - sites_in v }))
    from true = (ends, refl)
    from false = tt

-- what reading the entries comes to
abbrev AllCome : ℕ → Result (List (Option View) × EntriesBefore) BundleFault → Type 0
AllCome after (Ok x) = x.1.at ≡ after
AllCome after (Err f) = IsOfContent f

with_first : (after : ℕ) (x : Option View) (r : Result (List (Option View) × EntriesBefore) BundleFault) → AllCome after r → AllCome after (r >>= λ others. Ok (x ∷ others.0, others.1))
with_first after x (Ok others) come = come
with_first after x (Err f) come = come

module _ (bytes : List ℕ) (fits : IsBytes bytes) where
  entry_comes : (k : ℕ) (s : EntriesBefore) (e : Entry) (rest : List ℕ) (after : ℕ) → is_path e.path ≡ true → length e.body < 2 ^ 32 → list_any (λ p. is_same p e.path) s.paths ≡ false → Stands bytes s.at (entry e ++ rest) after → Comes s e (entry_at bytes k s)
  unfolding entry_at body_at
  entry_comes k s e rest after good few fresh st =
      let here : Stands bytes s.at (u2 (length e.path) ++ (e.path ++ (u4 (length e.body) ++ (e.body ++ rest)))) after = subst (λ (l : List ℕ). Stands bytes s.at l after) (reopened e rest) st in
      let path = path_only bytes fits k s.at e.path (u4 (length e.body) ++ (e.body ++ rest)) after good here in
      let n = u4_only (broken (s.at + 2 + length e.path) k Cut) bytes (s.at + 2 + length e.path) (length e.body) (e.body ++ rest) after few path.1 in
      let text = part_only (broken (s.at + 2 + length e.path + 4) k Cut) bytes (s.at + 2 + length e.path + 4) e.body rest after n.1 in
      let end : s.at + 2 + length e.path + 4 + length e.body ≡ s.at + length (entry e) = omega (arith, entry_length e) in
      rw (path.0, fresh, n.0, text.0) (counted k s e (s.at + 2 + length e.path + 4 + length e.body) (held k (is_class_path e.path) e.body) end (λ f h. of_held k (is_class_path e.path) e.body f h))

  all_come : (es : List Entry) (k : ℕ) (s : EntriesBefore) (after : ℕ) → list_all (λ e. is_path e.path) es ≡ true → sum_by entry_size es ≤ bundle_limit → AreFresh is_same s.paths (map (λ e. e.path) es) → Stands bytes s.at (flat_map entry es) after → AllCome after (rows (entry_at bytes) (length es) k s)
  all_come [] k s after good short fresh st = let ends = st.ends in omega (arith, ends)
  all_come (e ∷ es) k s after good short fresh st =
      let parts = and_parts (is_path e.path) (list_all (λ x. is_path x.path) es) good in
      let size = sum_by-cons entry_size e es in
      let split : Stands bytes s.at (entry e ++ flat_map entry es) after = subst (λ (l : List ℕ). Stands bytes s.at l after) (flat_map-cons entry e es) st in
      first (entry_at bytes k s) (entry_comes k s e (flat_map entry es) after parts.0 (omega (arith, short, size)) fresh.0 split)
      (λ next at paths. all_come es (k + 1) next after parts.1 (omega (arith, short, size))
      (subst (λ (ps : List (List ℕ)). AreFresh is_same ps (map (λ x. x.path) es)) (sym paths) fresh.1)
      (subst (λ (n : ℕ). Stands bytes n (flat_map entry es) after) (sym at) (Stands-back (entry e) (flat_map entry es) split)))
    where
      first : (r : Result (Option View × EntriesBefore) BundleFault) → Comes s e r → ((next : EntriesBefore) → next.at ≡ s.at + length (entry e) → next.paths ≡ s.paths ++ e.path ∷ [] → AllCome after (rows (entry_at bytes) (length es) (k + 1) next))
          → AllCome after (r >>= λ x. rows (entry_at bytes) (length es) (k + 1) x.1 >>= λ others. Ok (x.0 ∷ others.0, others.1))
      first (Ok x) comes next = with_first after x.0 (rows (entry_at bytes) (length es) (k + 1) x.1) (next x.1 comes.0 comes.1)
      first (Err f) comes next = comes

  -- after the entries nothing follows
  ended : (count : ℕ) (r : Result (List (Option View) × EntriesBefore) BundleFault) (some : List (Option View) → List View) (f : BundleFault) → AllCome (length bytes) r
      → (r >>= λ read. unless_broken (eqb (length bytes) read.1.at) (broken read.1.at count Trailing) >>= λ end. Ok (some read.0)) ≡ Err f → IsOfContent f
  ended count (Err g) some f come e = let same : g ≡ f = cc in subst (λ (x : BundleFault). IsOfContent x) same come
  ended count (Ok x) some f come e =
      let end : eqb (length bytes) x.1.at ≡ true = grind (arith, nat_tests, come) in
      absurd (let bad = rw end at e in cc)

pub packed_faults : (told : Option (List File)) (folder : List ℕ) (es : List Entry) → ArePacked told folder es → IsBytes (bundle es) → (f : BundleFault) → bundle_of (bundle es) ≡ Err f → IsOfContent f
unfolding bundle_of entries_of
packed_faults told folder es are fits f e =
    let bytes : List ℕ = bundle es in
    let begun : EntriesBefore = record { at = 10; paths = []; room = 4000000 } in
    let n = bundle_size_is es in
    let few = entries_few es in
    let s = is_whole (bundle es) (bundle es) refl in
    let a = u4_only (broken 0 0 Cut) (bundle es) 0 0x46434742 (u2 1 ++ (u4 (length es) ++ (flat_map entry es ++ []))) (length (bundle es)) (omega arith) s in
    let b = u2_only (broken 4 0 Cut) (bundle es) 4 1 (u4 (length es) ++ (flat_map entry es ++ [])) (length (bundle es)) (omega arith) a.1 in
    let c = u4_only (broken 6 0 Cut) (bundle es) 6 (length es) (flat_map entry es ++ []) (length (bundle es)) (omega (arith, n, few, are.short)) b.1 in
    let st = subst (λ (l : List ℕ). Stands (bundle es) 10 l (length (bundle es))) (append-nil (flat_map entry es)) c.1 in
    let fresh = distinct_only is_same (map (λ e. e.path) es) (IsDistinct-from_AllPairs same_text (map (λ e. e.path) es) (differ (map (λ e. e.path) es) are.rise)) in
    let come = all_come (bundle es) fits es 0 begun (length (bundle es)) are.paths (omega (arith, n, are.short)) fresh st in
    ended (bundle es) fits (length es) (rows (entry_at (bundle es)) (length es) 0 begun) _ f come (rw (a.0, b.0, c.0) at e)
