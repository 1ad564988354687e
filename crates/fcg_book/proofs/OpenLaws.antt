-- Records that are read one after the other.
use Rattle.std.proofs.Common.{◌≡◌, ℕ, zero, suc, ◌+◌, ◌<◌, ◌≤◌, Bool, true, false, List, [], ◌∷◌, ◌++◌, length, take, drop, get_or, refl, sym, ap, ◌∙◌, arith}
use Rattle.std.specs.Prelude.{Result, Ok, Err, ◌==◌, ◌&&◌, nat_le, nat_lt, not, is_some}
use Rattle.std.proofs.lemmas.Bool.Decides.{nat_tests}
use Rattle.fcg_grammar.specs.Reading.{unless_broken}
use Rattle.fcg_grammar.proofs.LawLemmas.{bind_ok, kept_ok}
use Rattle.fcg_partial.specs.declared.fault.RecordRule.TheVariants.{Number, Withdraw}
use Rattle.fcg_book.specs.declared.log.TheConstants.{MOST_ENTRIES, MOST_RELEASE_BYTES, MOST_STORE_BYTES}
use Rattle.std.proofs.lemmas.Bool.{eqb-true, eq-eqb}
use Rattle.std.proofs.lemmas.List.{drop_more, take_more, length-append}
use Rattle.std.proofs.Math.Seq.{take-length}
use Rattle.fcg_book.proofs.LogLaws.{records_push}
use Rattle.std.proofs.Math.ListN.{drop_of_length-le}
use Rattle.fcg_keeper.specs.declared.record.Record.{Record}
use Rattle.fcg_book.specs.Entries.{LogEntry}
use Rattle.fcg_book.specs.Spelling.{entry_text, content_text}
use Rattle.fcg_book.specs.Log.{Log, number_of, bytes_of, records_of, record_of}
use Rattle.fcg_book.specs.Opening.{in_sequence, can_stand, within_limits, fits_log, in_record, next_entry, log_after, opened}
use Rattle.fcg_book.specs.Internal.Restored.{FailsWith}
use Rattle.fcg_book.specs.declared.opening.OpenRefusal.{OpenRefusal}
use Rattle.fcg_book.specs.declared.opening.OpenRefusal.TheVariants as refusals
use Rattle.fcg_book.specs.declared.opening.OpenRefusal.TheVariants.{Sequence}

module _ (rs : List Record) (i : ℕ) (r : Record) (low : i < length rs) (is : r ≡ get_or rs i r) where
  next : drop i rs ≡ r ∷ drop (i + 1) rs
  next = drop_more rs i r low ∙ ap (λ (x : Record). x ∷ drop (i + 1) rs) (sym is)

  pub sequence_on : (n : ℕ) → r.seq ≡ n → in_sequence n (drop i rs) ≡ in_sequence (n + 1) (drop (i + 1) rs)
  sequence_on n here = rw (next, eq-eqb r.seq n here) refl

  pub sequence_stops : (n : ℕ) → (r.seq == n) ≡ false → in_sequence n (drop i rs) ≡ Err (Sequence r.seq)
  sequence_stops n there = rw (next, there) refl

  pub log_on : (log : Log) (e : LogEntry) → in_record r.seq (next_entry log r.body) ≡ Ok e → log_after log (drop i rs) ≡ log_after (log ++ e ∷ []) (drop (i + 1) rs)
  log_on log e read = rw (next, read) refl

  pub log_stops : (log : Log) (f : OpenRefusal) → in_record r.seq (next_entry log r.body) ≡ Err f → log_after log (drop i rs) ≡ Err f
  log_stops log f read = rw (next, read) refl

pub sequence_ends : (n : ℕ) (rs : List Record) (i : ℕ) → length rs ≡ i → in_sequence n (drop i rs) ≡ Ok tt
sequence_ends n rs i end = (let high : length rs ≤ i = omega (arith, end) in rw (drop_of_length-le rs high) refl)

pub log_ends : (log : Log) (rs : List Record) (i : ℕ) → length rs ≡ i → log_after log (drop i rs) ≡ Ok log
log_ends log rs i end = (let high : length rs ≤ i = omega (arith, end) in rw (drop_of_length-le rs high) refl)

-- ---- the whole
fails_with : {A B : Type 0} (f : OpenRefusal) (x : Result A OpenRefusal) (y : Result B OpenRefusal) → (x ≡ Err f → y ≡ Err f) → x ≡ Err f → FailsWith f y
fails_with refusals.NoMemory x y on is = tt
fails_with refusals.KeeperFailed x y on is = on is
fails_with (refusals.Sequence seq) x y on is = on is
fails_with (refusals.BadRecord seq rule) x y on is = on is

pub sequence_fails : (f : OpenRefusal) (rs : List Record) → in_sequence 1 rs ≡ Err f → FailsWith f (opened rs)
unfolding opened
sequence_fails f rs is = fails_with f (in_sequence 1 rs) (opened rs) (λ e. rw e refl) is

pub opened_on : (rs : List Record) → in_sequence 1 rs ≡ Ok tt → opened rs ≡ log_after [] rs
unfolding opened
opened_on rs is = rw is refl

-- a fault of the next record is one of all
pub record_fails : (rs : List Record) (i : ℕ) (r : Record) (log : Log) (f : OpenRefusal) → i < length rs → r ≡ get_or rs i r → in_sequence 1 rs ≡ Ok tt → log_after [] rs ≡ log_after log (drop i rs) → FailsWith f (in_record r.seq (next_entry log r.body)) → FailsWith f (opened rs)
record_fails rs i r log refusals.NoMemory low is numbered so fails = tt
record_fails rs i r log refusals.KeeperFailed low is numbered so fails = opened_on rs numbered ∙ so ∙ log_stops rs i r low is log refusals.KeeperFailed fails
record_fails rs i r log (refusals.Sequence seq) low is numbered so fails = opened_on rs numbered ∙ so ∙ log_stops rs i r low is log (refusals.Sequence seq) fails
record_fails rs i r log (refusals.BadRecord seq rule) low is numbered so fails = opened_on rs numbered ∙ so ∙ log_stops rs i r low is log (refusals.BadRecord seq rule) fails

pub all_read : (rs : List Record) (i : ℕ) (log : Log) → length rs ≡ i → in_sequence 1 rs ≡ Ok tt → log_after [] rs ≡ log_after log (drop i rs) → opened rs ≡ Ok log
all_read rs i log end numbered so = opened_on rs numbered ∙ so ∙ log_ends log rs i end

-- ---- what fits
le_is : (n m : ℕ) → nat_le n m ≡ true → n ≤ m
le_is n m h = grind (arith, nat_tests, h)

pub fits_bytes : (log : Log) (e : LogEntry) → fits_log log e ≡ Ok tt → bytes_of log + length (entry_text e) ≤ MOST_STORE_BYTES
fits_bytes log e is =
    let a = bind_ok (unless_broken (not (is_some (number_of log e.request))) Number) _ tt is in
    let b = bind_ok (unless_broken (can_stand log e.command) Withdraw) _ tt a.2 in
    let within : within_limits log e ≡ true = kept_ok _ _ tt b.2 in
    le_is _ _ (and_true (nat_le (bytes_of log + length (entry_text e)) MOST_STORE_BYTES) (nat_le (length (content_text e.command)) MOST_RELEASE_BYTES) (and_true_right (nat_lt (length log) MOST_ENTRIES) _ within))
  where
    and_true : (a b : Bool) → (a && b) ≡ true → a ≡ true
    and_true true b is = refl
    and_true false b is = absurd cc

    and_true_right : (a b : Bool) → (a && b) ≡ true → b ≡ true
    and_true_right true b is = is
    and_true_right false b is = absurd cc

-- ---- the records that were read are those of the log
pub none_recorded : records_of [] ≡ []
unfolding records_of
none_recorded = refl

numbered_from : (n i : ℕ) (rs : List Record) (r : Record) → i < length rs → r ≡ get_or rs i r → in_sequence n rs ≡ Ok tt → r.seq ≡ n + i
numbered_from n i [] r low is ok = absurd (omega (arith, low))
numbered_from n zero (x ∷ rs) r low is ok =
    let a = bind_ok (unless_broken (x.seq == n) (Sequence x.seq)) _ tt ok in
    let here : x.seq ≡ n = eqb-true x.seq n (kept_ok _ _ a.0 a.1) in
    ap (λ (y : Record). y.seq) is ∙ here ∙ (let z : n ≡ n + 0 = omega arith in z)
numbered_from n (suc i) (x ∷ rs) r low is ok =
    let a = bind_ok (unless_broken (x.seq == n) (Sequence x.seq)) _ tt ok in
    numbered_from (n + 1) i rs r (omega (arith, low)) is a.2 ∙ (let z : n + 1 + i ≡ n + suc i = omega arith in z)

pub record Grown (rs : List Record) (i : ℕ) (log : Log) : Type 0 where
  pub records : take i rs ≡ records_of log
  pub count : length log ≡ i
  pub few : length log ≤ MOST_ENTRIES

pub grows : (rs : List Record) (i : ℕ) (r : Record) (log : Log) (e : LogEntry) → i < length rs → r ≡ get_or rs i r → in_sequence 1 rs ≡ Ok tt → r.body ≡ entry_text e → take i rs ≡ records_of log → length log ≡ i → length log < MOST_ENTRIES → Grown rs (i + 1) (log ++ e ∷ [])
grows rs i r log e low is numbered body so_far count few =
    let seq : r.seq ≡ length log + 1 = (let h = numbered_from 1 i rs r low is numbered in omega (arith, h, count)) in
    let row : r ≡ record_of (length log + 1) e = record_is r (length log + 1) e seq body in
    let more : length (log ++ e ∷ []) ≡ length log + 1 = length-append log (e ∷ []) in
    record {
      records = take_more rs i r low ∙ ap (λ (x : Record). take i rs ++ x ∷ []) (sym is ∙ row) ∙ ap (λ (x : List Record). x ++ record_of (length log + 1) e ∷ []) so_far ∙ sym (records_push log e);
      count = omega (arith, more, count);
      few = omega (arith, more, few);
    }
  where
    record_is : (r : Record) (n : ℕ) (e : LogEntry) → r.seq ≡ n → r.body ≡ entry_text e → r ≡ record_of n e
    record_is r n e s b = rw (← s, ← b) refl

pub all_taken : (rs : List Record) (i : ℕ) → length rs ≡ i → take i rs ≡ rs
all_taken rs i end = rw (← end) (take-length rs)
