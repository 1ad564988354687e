-- The sets of a log: what is live is an import, and the numbers of a set are found one after the other.
use Rattle.std.proofs.Common.{◌≡◌, ℕ, zero, suc, ◌+◌, ◌<◌, ◌≤◌, Bool, true, false, cond, ◌⊎◌, inl, inr, List, [], ◌∷◌, ◌++◌, length, drop, map, get_or, refl, sym, ap, subst, ◌∙◌, append_assoc, arith}
use Rattle.std.specs.Prelude.{Option, Some, None, Result, Ok, Err, IsSome, is_some, ◌||◌, slice_get}
use Rattle.std.specs.List.{filter, list_any}
use Rattle.std.proofs.lemmas.Bool.{eq-eqb}
use Rattle.fcg_grammar.specs.Table.{table}
use Rattle.fcg_grammar.proofs.Among.{Among, Contains-among, among_from_contains, among_map}
use Rattle.fcg_grammar.proofs.TableLaws.{table_rises, table_among, among_table, is_table}
use Rattle.std.specs.Cmp.Lexicographic.{same_text}
use Rattle.std.proofs.lemmas.List.{drop_more, append-nil}
use Rattle.std.proofs.Math.ListN.{drop_of_length-le}
use Rattle.fcg_grammar.specs.Reading.{◌>>=◌}
use Rattle.fcg_views.specs.declared.view.View.{View}
use Rattle.fcg_views.specs.Valid.{is_same}
use Rattle.fcg_book.specs.Entries.{LoggedCommand, Imports, Withdraws, coordinate_in, LogEntry}
use Rattle.fcg_book.specs.Log.{Log, live_after, live_from, live, entry_in}
use Rattle.fcg_book.specs.Sets.{live_or, keys_from, keys_of, live_coordinates}
use Rattle.fcg_book.specs.Internal.Asked.{imported, AreLive, by_index, keys_by_index}
use Rattle.fcg_book.specs.Books.{index_of, after_keys}

-- ---- what is live is an import of the release
abbrev pub IsImportOf : List ℕ → LoggedCommand → Type 0
IsImportOf coordinate command = (views : List View) × (command ≡ Imports coordinate views)

pub record LiveAt (n : ℕ) (log : Log) (c : List ℕ) (m : ℕ) : Type 0 where
  pub place : ℕ
  pub number : m ≡ n + place
  pub entry : LogEntry
  pub there : slice_get log place ≡ Some entry
  pub imports : IsImportOf c entry.command

some_is : (n m : ℕ) → Some n ≡ Some m → m ≡ n + 0
some_is n m e = (let h : n ≡ m = cc in omega (arith, h))

live_found : (n : ℕ) (log : Log) (c : List ℕ) (before : Option ℕ) (m : ℕ) → live_from n log c before ≡ Some m → (before ≡ Some m) ⊎ LiveAt n log c m
live_found n [] c before m e = inl e
live_found n (x ∷ log) c before m e = by (live_found (n + 1) log c (live_after c n x.command before) m e)
  where
    first : (command : LoggedCommand) → x.command ≡ command → live_after c n command before ≡ Some m → (before ≡ Some m) ⊎ LiveAt n (x ∷ log) c m
    first (Imports d views) is = here (is_same d c) refl
      where
        here : (b : Bool) → is_same d c ≡ b → cond b (Some n) before ≡ Some m → (before ≡ Some m) ⊎ LiveAt n (x ∷ log) c m
        here false t e = inl e
        here true t e = inr (record { place = 0; number = some_is n m e; entry = x; there = refl; imports = (views, is ∙ ap (λ (y : List ℕ). Imports y views) (same_text d c (sym t))) })
    first (Withdraws d) is = here (is_same d c)
      where
        here : (b : Bool) → cond b None before ≡ Some m → (before ≡ Some m) ⊎ LiveAt n (x ∷ log) c m
        here false e = inl e
        here true e = absurd cc

    by : (live_after c n x.command before ≡ Some m) ⊎ LiveAt (n + 1) log c m → (before ≡ Some m) ⊎ LiveAt n (x ∷ log) c m
    by (inl e) = first x.command refl e
    by (inr l) = inr (record { place = suc l.place; number = (let k = l.number in omega (arith, k)); entry = l.entry; there = l.there; imports = l.imports })

pub live_at : (log : Log) (c : List ℕ) (m : ℕ) → live log c ≡ Some m → LiveAt 1 log c m
unfolding live
live_at log c m e = by (live_found 1 log c None m e)
  where
    by : (None ≡ Some m) ⊎ LiveAt 1 log c m → LiveAt 1 log c m
    by (inl e) = absurd cc
    by (inr l) = l

-- an entry that is live is there, and is an import
pub live_entry : (log : Log) (c : List ℕ) (m : ℕ) → live log c ≡ Some m → (e : LogEntry) × (entry_in log m ≡ Some e) × IsImportOf c e.command
live_entry log c m e =
    let l = live_at log c m e in
    let n : m ≡ suc l.place = (let k = l.number in omega (arith, k)) in
    (l.entry, ap (entry_in log) n ∙ l.there, l.imports)

imported_is : (e : LogEntry) (c : List ℕ) (command : LoggedCommand) → e.command ≡ command → IsImportOf c command → IsSome (imported (Some e))
imported_is e c (Imports d views) is i = rw is refl
imported_is e c (Withdraws d) is i = absurd cc

pub live_imports : (log : Log) (c : List ℕ) (m : ℕ) → live log c ≡ Some m → IsSome (imported (entry_in log m))
live_imports log c m e = (let l = live_entry log c m e in rw l.1 (imported_is l.0 c (l.0).command refl l.2))

-- ---- the numbers of a set, one after the other
abbrev pub after : List ℕ → Result (List ℕ) ℕ → Result (List ℕ) ℕ
after ns (Ok ks) = Ok (ns ++ ks)
after ns (Err i) = Err i

pub keys_begin : (log : Log) (set : List (List ℕ)) → keys_of log set ≡ after [] (keys_from log 0 set)
unfolding keys_of
keys_begin log set = by (keys_from log 0 set)
  where
    by : (r : Result (List ℕ) ℕ) → r ≡ after [] r
    by (Ok ks) = refl
    by (Err i) = refl

module _ (log : Log) (set : List (List ℕ)) (i : ℕ) (c : List ℕ) (low : i < length set) (is : c ≡ get_or set i c) where
  next : drop i set ≡ c ∷ drop (i + 1) set
  next = drop_more set i c low ∙ ap (λ (x : List ℕ). x ∷ drop (i + 1) set) (sym is)

  pub keys_go_on : (n : ℕ) (ns : List ℕ) → live log c ≡ Some n → after ns (keys_from log i (drop i set)) ≡ after (ns ++ n ∷ []) (keys_from log (i + 1) (drop (i + 1) set))
  keys_go_on n ns found = rw (next, found) (by (keys_from log (i + 1) (drop (i + 1) set)))
    where
      by : (r : Result (List ℕ) ℕ) → after ns (r >>= λ ks. Ok (n ∷ ks)) ≡ after (ns ++ n ∷ []) r
      by (Ok ks) = ap (λ (x : List ℕ). after [] (Ok x)) (sym (append_assoc ns (n ∷ []) ks))
      by (Err j) = refl

  pub keys_stop : (ns : List ℕ) → live log c ≡ None → after ns (keys_from log i (drop i set)) ≡ Err i
  keys_stop ns gone = rw (next, gone) refl

pub keys_end : (log : Log) (set : List (List ℕ)) (i : ℕ) (ns : List ℕ) → length set ≡ i → after ns (keys_from log i (drop i set)) ≡ Ok ns
keys_end log set i ns end = (let high : length set ≤ i = omega (arith, end) in rw (drop_of_length-le set high, append-nil ns) refl)

abbrev keys_with : ℕ → Option ℕ → Result (List ℕ) ℕ → Result (List ℕ) ℕ
keys_with i found rest = live_or i found >>= λ n. rest >>= λ ns. Ok (n ∷ ns)

pub keys_live : (log : Log) (i : ℕ) (set : List (List ℕ)) (key : List ℕ) → keys_from log i set ≡ Ok key → AreLive log key
keys_live log i [] key e = (let is : [] ≡ key = cc in subst (AreLive log) is tt)
keys_live log i (c ∷ cs) key e = by (λ ns q. keys_live log (i + 1) cs ns q) (live log c) refl (keys_from log (i + 1) cs) refl e
  where
    by : ((ns : List ℕ) → keys_from log (i + 1) cs ≡ Ok ns → AreLive log ns) → (found : Option ℕ) → live log c ≡ found → (rest : Result (List ℕ) ℕ) → keys_from log (i + 1) cs ≡ rest → keys_with i found rest ≡ Ok key → AreLive log key
    by on None f r q e = absurd cc
    by on (Some n) f (Err j) q e = absurd cc
    by on (Some n) f (Ok ns) q e = (let is : n ∷ ns ≡ key = cc in subst (AreLive log) is (live_imports log c n f, on ns q))

-- ---- the live releases
member_among : (ks : List (List ℕ)) (q : List ℕ) → list_any (is_same q) ks ≡ true → Among q ks
member_among [] q e = absurd cc
member_among (k ∷ ks) q e = by (λ h. member_among ks q h) (is_same q k) refl e
  where
    by : (list_any (is_same q) ks ≡ true → Among q ks) → (b : Bool) → is_same q k ≡ b → (b || list_any (is_same q) ks) ≡ true → (k ≡ q) ⊎ Among q ks
    by on true t e = inl (sym (same_text q k (sym t)))
    by on false t e = inr (on e)

same_self : (x : List ℕ) → is_same x x ≡ true
same_self [] = refl
same_self (n ∷ x) = rw (eq-eqb n n refl) (same_self x)

or_true : (b : Bool) → (b || true) ≡ true
or_true true = refl
or_true false = refl

among_member : (ks : List (List ℕ)) (q : List ℕ) → Among q ks → list_any (is_same q) ks ≡ true
among_member [] q a = absurd a
among_member (k ∷ ks) q (inl e) = rw (e, same_self q) refl
among_member (k ∷ ks) q (inr a) = rw (among_member ks q a) (or_true (is_same q k))

got_among : (log : Log) (k : ℕ) (e : LogEntry) → slice_get log k ≡ Some e → Among e log
got_among [] k e is = absurd cc
got_among (x ∷ log) zero e is = inl cc
got_among (x ∷ log) (suc k) e is = inr (got_among log k e is)

module _ (test : List ℕ → Bool) where
  among_filter : (xs : List (List ℕ)) (q : List ℕ) → Among q xs → test q ≡ true → Among q (filter test xs)
  among_filter [] q a t = absurd a
  among_filter (x ∷ xs) q (inl e) t = (let here : test x ≡ true = ap test e ∙ t in rw here (inl e))
  among_filter (x ∷ xs) q (inr a) t = by (test x) (among_filter xs q a t)
    where
      by : (b : Bool) → Among q (filter test xs) → Among q (cond b (x ∷ filter test xs) (filter test xs))
      by true h = inr h
      by false h = h

  filter_among : (xs : List (List ℕ)) (q : List ℕ) → Among q (filter test xs) → test q ≡ true
  filter_among [] q h = absurd h
  filter_among (x ∷ xs) q h = by (λ k. filter_among xs q k) (test x) refl h
    where
      by : (Among q (filter test xs) → test q ≡ true) → (b : Bool) → test x ≡ b → Among q (cond b (x ∷ filter test xs) (filter test xs)) → test q ≡ true
      by on true t (inl e) = ap test (sym e) ∙ t
      by on true t (inr h) = on h
      by on false t h = on h

abbrev coordinate_of_entry : LogEntry → List ℕ
coordinate_of_entry e = coordinate_in e.command

live_named : (log : Log) (q : List ℕ) → is_some (live log q) ≡ true → Among q (map coordinate_of_entry log)
live_named log q e = by (live log q) refl e
  where
    by : (found : Option ℕ) → live log q ≡ found → is_some found ≡ true → Among q (map coordinate_of_entry log)
    by None f e = absurd cc
    by (Some m) f e =
        let l = live_at log q m f in
        subst (λ (c : List ℕ). Among c (map coordinate_of_entry log)) (ap coordinate_in l.imports.1) (among_map coordinate_of_entry l.entry log (got_among log l.place l.entry l.there))

pub live_table : (log : Log) (ks : List (List ℕ)) → ((q : List ℕ) → is_some (live log q) ≡ list_any (is_same q) ks) → table ks ≡ live_coordinates log
unfolding live_coordinates
live_table log ks has = is_table xs (table ks) (record {
  rises = table_rises ks;
  each = λ x c. Contains-among x (table ks) (table_among ks x (member_among ks x (sym (has x) ∙ filter_among is_live all x (among_from_contains x xs c))));
  used = λ x c. Contains-among x xs (let h : is_some (live log x) ≡ true = has x ∙ among_member ks x (among_table ks x (among_from_contains x (table ks) c)) in among_filter is_live all x (live_named log x h) h);
})
  where
    is_live : List ℕ → Bool
    is_live c = is_some (live log c)

    all : List (List ℕ)
    all = map coordinate_of_entry log

    xs : List (List ℕ)
    xs = filter is_live all

-- ---- what asking says, from the look-up
found_keys : (r : Result (List ℕ) ℕ) (key : List ℕ) → by_index r ≡ Ok key → r ≡ Ok key
found_keys (Ok ks) key e = e
found_keys (Err i) key e = absurd cc

pub keys_found : (log : Log) (set : List (List ℕ)) (key : List ℕ) → keys_by_index log set ≡ Ok key → keys_of log set ≡ Ok key
keys_found log set key e = found_keys (keys_of log set) key e

pub keys_are_live : (log : Log) (set : List (List ℕ)) (key : List ℕ) → keys_by_index log set ≡ Ok key → AreLive log key
unfolding keys_of
keys_are_live log set key e = keys_live log 0 set key (found_keys (keys_of log set) key e)

-- the place that isn't live is one of the set
absent_within : (log : Log) (at : ℕ) (set : List (List ℕ)) (i : ℕ) → keys_from log at set ≡ Err i → i < at + length set
absent_within log at [] i e = absurd cc
absent_within log at (c ∷ cs) i e = by (λ j q. absent_within log (at + 1) cs j q) (live log c) (keys_from log (at + 1) cs) refl e
  where
    by : ((j : ℕ) → keys_from log (at + 1) cs ≡ Err j → j < at + 1 + length cs) → (found : Option ℕ) (rest : Result (List ℕ) ℕ) → keys_from log (at + 1) cs ≡ rest → keys_with at found rest ≡ Err i → i < at + suc (length cs)
    by on None rest q e = (let h : at ≡ i = cc in omega (arith, h))
    by on (Some n) (Ok ns) q e = absurd cc
    by on (Some n) (Err j) q e = (let h : j ≡ i = cc in let l = on j q in omega (arith, h, l))

absent_key : (r : Result (List ℕ) ℕ) (index : ℕ) → by_index r ≡ Err index → (i : ℕ) × (r ≡ Err i) × (index ≡ index_of i)
absent_key (Ok ks) index e = absurd cc
absent_key (Err i) index e = (i, refl, (let h : index_of i ≡ index = cc in sym h))

pub keys_absent : (log : Log) (set : List (List ℕ)) (index : ℕ) → keys_by_index log set ≡ Err index → (i : ℕ) × (keys_of log set ≡ Err i) × (i < length set) × (index ≡ index_of i)
unfolding keys_of
keys_absent log set index e =
    let a = absent_key (keys_from log 0 set) index e in
    let l = absent_within log 0 set a.0 a.1 in
    (a.0, a.1, omega (arith, l), a.2)

pub nothing_moves : {V : Type 0} (r : Result (List ℕ) ℕ) → [] ≡ after_keys {V = V} r []
nothing_moves (Ok ks) = refl
nothing_moves (Err i) = refl
