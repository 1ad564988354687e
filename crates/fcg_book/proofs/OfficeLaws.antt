-- What the type of an office keeps, call by call of the keeper.
use Rattle.std.proofs.Common.{◌≡◌, ℕ, ◌+◌, ◌<◌, ◌≤◌, Bool, true, false, cond, List, [], ◌∷◌, ◌++◌, length, refl, sym, ap, subst, ◌∙◌, arith, ◌⊎◌, inl, inr}
use Rattle.std.specs.Prelude.{Option, Some, None, Result, Ok, Err, IfSome, IsTrue, nat_le, nat_lt}
use Rattle.std.specs.List.{filter, AllByRecursion}
use Rattle.std.proofs.lemmas.Bool.{eq-eqb}
use Rattle.std.proofs.lemmas.Bool.Decides.{nat_tests}
use Rattle.std.proofs.lemmas.List.Elements.{filter-append}
use Rattle.fcg_grammar.proofs.LawLemmas.{bind_ok, kept_ok}
use Rattle.fcg_grammar.specs.Reading.{unless_broken}
use Rattle.fcg_keeper.specs.declared.record.Record.{Record}
use Rattle.fcg_keeper.specs.declared.keeper.KeeperRefusal.{KeeperRefusal}
use Rattle.fcg_keeper.specs.declared.keeper.KeeperRefusal.TheVariants as keeper_refusals
use Rattle.fcg_keeper.specs.Records.{NoneAbove, loaded, Loads, Appends}
use Rattle.fcg_book.specs.Entries.{LoggedCommand, Imports, Withdraws, coordinate_in, LogEntry}
use Rattle.fcg_book.specs.Spelling.{entry_text, content_text}
use Rattle.fcg_book.specs.Log.{Log, live, number_of, entry_in, records_from, records_of, bytes_of}
use Rattle.fcg_views.specs.Valid.{is_same}
use Rattle.fcg_book.specs.Accept.{OfficeState, sure, next_record, is_record, first_other, settled_with, settled, has_content, is_command_of, limited, decided_live, decided_number, decided, refused_by}
use Rattle.fcg_book.specs.Office.{Matches}
use Rattle.fcg_book.specs.Internal.Register.{Waiting, CanEnter, IsOffice, doubted}
use Rattle.fcg_book.specs.Internal.Steps.{FoundAs, Settles, Wants, Refuses}
use Rattle.fcg_book.specs.declared.office.Found.TheVariants as finds
use Rattle.fcg_book.specs.declared.answer.Accepted.{Accepted}
use Rattle.fcg_book.specs.declared.answer.Accepted.TheVariants.{Entered, Repeated, Standing}
use Rattle.fcg_book.specs.declared.answer.Refused.{Refused}
use Rattle.fcg_book.specs.declared.answer.Refused.TheVariants.{RequestClash, ReleaseTooLarge, LogFull, StoreFull, StoreDiffers, KeeperFailed}
use Rattle.fcg_book.specs.declared.log.TheConstants.{MOST_ENTRIES, MOST_RELEASE_BYTES, MOST_STORE_BYTES}
use Rattle.fcg_book.proofs.LogLaws.{records_push}

-- ---- records by their numbers
is_above : (from n : ℕ) → n < from → nat_le from n ≡ false
is_above from n low = grind (arith, nat_tests, low)

is_from : (n : ℕ) → nat_le n n ≡ true
is_from n = grind (arith, nat_tests)

none_from : (n from : ℕ) (log : Log) → n + length log ≤ from → filter (λ (r : Record). nat_le from r.seq) (records_from n log) ≡ []
none_from n from [] high = refl
none_from n from (e ∷ log) high = rw (is_above from n (omega (arith, high))) (none_from (n + 1) from log (omega (arith, high)))

pub none_loaded : (log : Log) → loaded (length log + 1) (records_of log) ≡ []
unfolding records_of
none_loaded log = rw (none_from 1 (length log + 1) log (omega arith)) refl

pub one_loaded : (log : Log) (e : LogEntry) → loaded (length log + 1) (records_of (log ++ e ∷ [])) ≡ next_record log e ∷ []
unfolding records_of
one_loaded log e =
    rw (records_push log e, filter-append (λ (r : Record). nat_le (length log + 1) r.seq) (records_from 1 log) (next_record log e ∷ []), none_from 1 (length log + 1) log (omega arith), is_from (length log + 1)) refl

below_all : (n last : ℕ) (log : Log) → n + length log ≤ last + 1 → AllByRecursion (λ r. r.seq ≤ last) (records_from n log)
below_all n last [] high = tt
below_all n last (e ∷ log) high = (omega (arith, high), below_all (n + 1) last log (omega (arith, high)))

pub none_above : (log : Log) → NoneAbove (length log + 1) (records_of log)
unfolding records_of
none_above log = below_all 1 (length log + 1) log (omega arith)

is_same_self : (xs : List ℕ) → is_same xs xs ≡ true
is_same_self [] = refl
is_same_self (x ∷ xs) = rw (eq-eqb x x refl) (is_same_self xs)

pub is_record_self : (r : Record) → is_record r r ≡ true
is_record_self r = rw (eq-eqb r.seq r.seq refl) (is_same_self r.body)

-- ---- the type of the office
not_true : IsTrue false → ⊥
not_true e = cc

pub keeps_doubt : (was is : Bool) (log : Log) (e : LogEntry) (rs : List Record) → (IsTrue is → IsTrue was) → Matches was log (Some e) rs → Matches is log (Some e) rs
keeps_doubt true true log e rs back m = m
keeps_doubt true false log e rs back m = inl m
keeps_doubt false true log e rs back m = absurd (not_true (back refl))
keeps_doubt false false log e rs back m = m

module _ (log : Log) (e : LogEntry) where
  -- a load leaves the doubt
  pub load_keeps : (was is : Bool) (from : ℕ) (old new : Option (List Record)) (result : Result (List Record) KeeperRefusal) → (IsTrue is → IsTrue was) → IfSome old (Matches was log (Some e)) → Loads old from result new → IfSome new (Matches is log (Some e))
  load_keeps was is from old None result back inv h = tt
  load_keeps was is from old (Some rs) result back inv h = keeps_doubt was is log e rs back (subst (λ (o : Option (List Record)). IfSome o (Matches was log (Some e))) h.0 inv)

  -- none were loaded: the records are those of the log
  pub load_forgets : (was is : Bool) (out : List Record) (old new : Option (List Record)) → out ≡ [] → IfSome old (Matches was log (Some e)) → Loads old (length log + 1) (Ok out) new → IfSome new (Matches is log None)
  load_forgets was is out old None none inv h = tt
  load_forgets was is out old (Some rs) none inv h = by was (subst (λ (o : Option (List Record)). IfSome o (Matches was log (Some e))) h.0 inv)
    where
      by : (was : Bool) → Matches was log (Some e) rs → rs ≡ records_of log
      by true m = m
      by false (inl m) = m
      by false (inr m) = absurd (full (next_record log e) (sym none ∙ h.1 ∙ ap (loaded (length log + 1)) m ∙ one_loaded log e))
        where
          full : (r : Record) → [] ≡ r ∷ [] → ⊥
          full r e = cc

  -- some were loaded: the record was added
  pub load_finds : (was is : Bool) (out : List Record) (r : Record) (others : List Record) (old new : Option (List Record)) → out ≡ r ∷ others → IfSome old (Matches was log (Some e)) → Loads old (length log + 1) (Ok out) new → IfSome new (Matches is (log ++ e ∷ []) None)
  load_finds was is out r others old None some inv h = tt
  load_finds was is out r others old (Some rs) some inv h = by was (subst (λ (o : Option (List Record)). IfSome o (Matches was log (Some e))) h.0 inv)
    where
      empty : rs ≡ records_of log → ⊥
      empty m = none (sym some ∙ h.1 ∙ ap (loaded (length log + 1)) m ∙ none_loaded log)
        where
          none : r ∷ others ≡ [] → ⊥
          none e = cc

      by : (was : Bool) → Matches was log (Some e) rs → rs ≡ records_of (log ++ e ∷ [])
      by true m = absurd (empty m)
      by false (inl m) = absurd (empty m)
      by false (inr m) = m

  -- where the records are told, none but the record of the doubt is found
  pub never_differs : (was : Bool) (out : List Record) (found : Record) (old new : Option (List Record)) → IfSome old (Matches was log (Some e)) → Loads old (length log + 1) (Ok out) new → FoundAs out (first_other (next_record log e) out) (finds.Other found) → IfSome new (λ (rs : List Record). ⊥)
  never_differs was out found old None inv h f = tt
  never_differs was out found old (Some rs) inv h f = by was (subst (λ (o : Option (List Record)). IfSome o (Matches was log (Some e))) h.0 inv)
    where
      none : out ≡ [] → ⊥
      none is = rw is at f

      one : out ≡ next_record log e ∷ [] → ⊥
      one is = (let here = rw (is, is_record_self (next_record log e)) at f in here)

      by : (was : Bool) → Matches was log (Some e) rs → ⊥
      by true m = none (h.1 ∙ ap (loaded (length log + 1)) m ∙ none_loaded log)
      by false (inl m) = none (h.1 ∙ ap (loaded (length log + 1)) m ∙ none_loaded log)
      by false (inr m) = one (h.1 ∙ ap (loaded (length log + 1)) m ∙ one_loaded log e)

  module _ (was is : Bool) (old new : Option (List Record)) (inv : IfSome old (Matches was log None)) where
    before_is : (before : List Record) → old ≡ Some before → before ≡ records_of log
    before_is before o = subst (λ (x : Option (List Record)). IfSome x (Matches was log None)) o inv

    pub append_adds : Appends is old (next_record log e) (Ok tt) new → IfSome new (Matches is (log ++ e ∷ []) None)
    append_adds h = by new h
      where
        by : (new : Option (List Record)) → Appends is old (next_record log e) (Ok tt) new → IfSome new (Matches is (log ++ e ∷ []) None)
        by None h = tt
        by (Some after) h = h.2 ∙ ap (λ (rs : List Record). rs ++ next_record log e ∷ []) (before_is h.0 h.1) ∙ sym (records_push log e)

    pub append_wants : Appends is old (next_record log e) (Err keeper_refusals.NoMemory) new → IfSome new (Matches is log None)
    append_wants h = by new h
      where
        by : (new : Option (List Record)) → Appends is old (next_record log e) (Err keeper_refusals.NoMemory) new → IfSome new (Matches is log None)
        by None h = tt
        by (Some after) h = h.2 ∙ before_is h.0 h.1

    pub append_doubts : Appends is old (next_record log e) (Err keeper_refusals.Failed) new → IfSome new (Matches is log (Some e))
    append_doubts h = by is new h
      where
        by : (is : Bool) (new : Option (List Record)) → Appends is old (next_record log e) (Err keeper_refusals.Failed) new → IfSome new (Matches is log (Some e))
        by is None h = tt
        by true (Some after) h = h.2 ∙ before_is h.0 h.1
        by false (Some after) h = either h.2
          where
            either : (after ≡ h.0) ⊎ (after ≡ h.0 ++ next_record log e ∷ []) → (after ≡ records_of log) ⊎ (after ≡ records_of (log ++ e ∷ []))
            either (inl a) = inl (a ∙ before_is h.0 h.1)
            either (inr a) = inr (a ∙ ap (λ (rs : List Record). rs ++ next_record log e ∷ []) (before_is h.0 h.1) ∙ sym (records_push log e))

-- ---- what is to be entered can be
pub record Enterable (log : Log) (e : LogEntry) : Type 0 where
  pub fresh : number_of log e.request ≡ None
  pub few : length log < MOST_ENTRIES
  pub small : bytes_of log + length (entry_text e) ≤ MOST_STORE_BYTES

record Limits (log : Log) (e : LogEntry) : Type 0 where
  few : length log < MOST_ENTRIES
  small : bytes_of log + length (entry_text e) ≤ MOST_STORE_BYTES

le_is : (n m : ℕ) → nat_le n m ≡ true → n ≤ m
le_is n m h = grind (arith, nat_tests, h)

lt_is : (n m : ℕ) → nat_lt n m ≡ true → n < m
lt_is n m h = grind (arith, nat_tests, h)

abbrev nothing : Option Accepted
nothing = None

within : (log : Log) (e : LogEntry) → limited log e ≡ Ok nothing → Limits log e
within log e is =
    let a = bind_ok (unless_broken (nat_le (length (content_text e.command)) MOST_RELEASE_BYTES) (ReleaseTooLarge (length (content_text e.command)))) _ nothing is in
    let b = bind_ok (unless_broken (nat_lt (length log) MOST_ENTRIES) LogFull) _ nothing a.2 in
    let c = bind_ok (unless_broken (nat_le (bytes_of log + length (entry_text e)) MOST_STORE_BYTES) (StoreFull (bytes_of log + length (entry_text e)))) _ nothing b.2 in
    record { few = lt_is _ _ (kept_ok _ _ b.0 b.1); small = le_is _ _ (kept_ok _ _ c.0 c.1) }

live_within : (log : Log) (e : LogEntry) (command : LoggedCommand) (found : Option ℕ) → decided_live log e command found ≡ Ok nothing → Limits log e
live_within log e (Imports c views) (Some n) is = by (has_content (entry_in log n) views) is
  where
    by : (b : Bool) → cond b (Ok (Some (Standing n))) (limited log e) ≡ Ok nothing → Limits log e
    by true is = absurd cc
    by false is = within log e is
live_within log e (Imports c views) None is = within log e is
live_within log e (Withdraws c) (Some n) is = within log e is
live_within log e (Withdraws c) None is = absurd cc

pub enterable : (log : Log) (e : LogEntry) → decided log e ≡ Ok nothing → Enterable log e
unfolding decided
enterable log e is = by (number_of log e.request) refl is
  where
    by : (found : Option ℕ) → number_of log e.request ≡ found → decided_number log e found ≡ Ok nothing → Enterable log e
    by (Some n) there is = twice (is_command_of (entry_in log n) e.command) is
      where
        twice : (b : Bool) → cond b (Ok (Some (Repeated n))) (Err (RequestClash n)) ≡ Ok nothing → Enterable log e
        twice true is = absurd cc
        twice false is = absurd cc
    by None there is =
        let limits = live_within log e e.command (live log (coordinate_in e.command)) is in
        record { fresh = there; few = limits.few; small = limits.small }

-- ---- what a load says of a doubt
module _ (log : Log) (e : LogEntry) (rs : List Record) where
  pub settles_none : FoundAs rs (first_other (next_record log e) rs) finds.Nothing → settled (record { log = log; doubt = Some e }) (Some rs) ≡ Ok (sure log)
  settles_none f = by (first_other (next_record log e) rs) f
    where
      by : (o : Option Record) → FoundAs rs o finds.Nothing → settled_with log e rs o ≡ Ok (sure log)
      by None is = rw is refl
      by (Some x) is = absurd is

  pub settles_record : FoundAs rs (first_other (next_record log e) rs) finds.Record → settled (record { log = log; doubt = Some e }) (Some rs) ≡ Ok (sure (log ++ e ∷ []))
  settles_record f = by (first_other (next_record log e) rs) f
    where
      by : (o : Option Record) → FoundAs rs o finds.Record → settled_with log e rs o ≡ Ok (sure (log ++ e ∷ []))
      by None is = rw is.2 refl
      by (Some x) is = absurd is

  pub settles_other : (found : Record) → FoundAs rs (first_other (next_record log e) rs) (finds.Other found) → settled (record { log = log; doubt = Some e }) (Some rs) ≡ Err (StoreDiffers found)
  settles_other found f = by (first_other (next_record log e) rs) f
    where
      by : (o : Option Record) → FoundAs rs o (finds.Other found) → settled_with log e rs o ≡ Err (StoreDiffers found)
      by None is = absurd is
      by (Some x) is = rw (is.1.2, is.0) refl

-- the record of a new entry may be appended
pub may_append : (told : Option (List Record)) (was : Bool) (log : Log) (doubt : Option LogEntry) (seq : ℕ) → doubt ≡ None → seq ≡ length log + 1 → IfSome told (Matches was log doubt) → IfSome told (NoneAbove seq)
may_append None was log doubt seq none is inv = tt
may_append (Some rs) was log doubt seq none is inv =
    let m : rs ≡ records_of log = subst (λ (d : Option LogEntry). Matches was log d rs) none inv in
    subst (λ (n : ℕ). NoneAbove n rs) (sym is) (subst (λ (x : List Record). NoneAbove (length log + 1) x) (sym m) (none_above log))

-- ---- the type of the office after an append
pub office_after : (told : Option (List Record)) (is : Bool) (log entries : Log) (e : LogEntry) (room : ℕ) (doubt : Option Waiting) → doubted doubt ≡ None → entries ≡ log ++ e ∷ [] → IfSome told (Matches is (log ++ e ∷ []) None) → IsOffice told is entries room doubt
office_after told is log entries e room None none entered m = record { records = subst (λ (l : Log). IfSome told (Matches is l None)) (sym entered) m; can_enter = tt }
office_after told is log entries e room (Some w) none entered m = absurd cc

pub office_doubts : (told : Option (List Record)) (is : Bool) (log entries : Log) (e : LogEntry) (room : ℕ) (w : Waiting) → entries ≡ log → w.entry ≡ e → w.seq ≡ length log + 1 → Enterable log e → 0 < room → IfSome told (Matches is log (Some e)) → IsOffice told is entries room (Some w)
office_doubts told is log entries e room w same entry seq may some m = record {
  records = subst (λ (l : Log). IfSome told (Matches is l (Some w.entry))) (sym same) (subst (λ (x : LogEntry). IfSome told (Matches is log (Some x))) (sym entry) m);
  can_enter = subst (λ (l : Log). CanEnter l room w) (sym same) (record {
    number = seq;
    new_request = ap (λ (x : LogEntry). number_of log x.request) entry ∙ may.fresh;
    has_room = some;
    small = subst (λ (x : LogEntry). bytes_of log + length (entry_text x) ≤ MOST_STORE_BYTES) (sym entry) may.small;
  });
}

abbrev pub state_with : Log → Option LogEntry → OfficeState
state_with log doubt = record { log = log; doubt = doubt }

pub same_state : (l m : Log) (d f : Option LogEntry) → l ≡ m → d ≡ f → state_with l d ≡ state_with m f
same_state l m d f p q = rw (p, q) refl

abbrev pub entered_as : ℕ → Result Accepted Refused
entered_as n = Ok (Entered n)

-- ---- settling
pub nothing_is : (rs : List Record) (o : Option Record) → FoundAs rs o finds.Nothing → rs ≡ []
nothing_is rs None f = f
nothing_is rs (Some x) f = absurd f

pub some_are : (rs : List Record) (o : Option Record) → FoundAs rs o finds.Record → (r : Record) × (others : List Record) × (rs ≡ r ∷ others)
some_are rs None f = f
some_are rs (Some x) f = absurd f

abbrev pub settled_as : OfficeState → Result OfficeState Refused
settled_as s = Ok s

abbrev refused_as : Refused → Result (Unit {0}) Refused
refused_as r = Err r

pub settles_err : (log : Log) (e : LogEntry) (new : OfficeState) (refusal : KeeperRefusal) (r : Refused) → r ≡ refused_by refusal → new ≡ state_with log (Some e) → (x : Option (List Record)) × Settles (state_with log (Some e)) x (Err r) new
settles_err log e new keeper_refusals.NoMemory r is same = (None, Wants (ap refused_as is) same)
settles_err log e new keeper_refusals.Failed r is same = (None, Refuses KeeperFailed (ap refused_as is) refl same)

-- what holds of nothing
pub none_some : {X : Type 0} (Y : Type 0) (o : Option X) → IfSome o (λ _. ⊥) → IfSome o (λ _. Y)
none_some Y None h = tt
none_some Y (Some x) h = absurd h

pub no_doubt : (P : Waiting → Type 0) (doubt : Option Waiting) → doubted doubt ≡ None → IfSome doubt P
no_doubt P None none = tt
no_doubt P (Some w) none = absurd cc
