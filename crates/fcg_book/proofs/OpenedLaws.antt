-- What opening an office says, from what its load gave.
use Rattle.std.proofs.Common.{◌≡◌, ℕ, zero, suc, ◌+◌, ◌≤◌, List, [], ◌∷◌, length, take, refl, sym, ap, subst, ◌∙◌, arith}
use Rattle.std.specs.Prelude.{Option, Some, None, Result, Ok, Err, IfSome, ◌≢◌, nat_le, true}
use Rattle.std.specs.List.{filter}
use Rattle.std.proofs.lemmas.Bool.Decides.{nat_tests}
use Rattle.fcg_keeper.specs.declared.record.Record.{Record}
use Rattle.fcg_keeper.specs.declared.keeper.KeeperRefusal.{KeeperRefusal}
use Rattle.fcg_keeper.specs.declared.keeper.KeeperRefusal.TheVariants as keeper_refusals
use Rattle.fcg_keeper.specs.declared.memory.FailMode.{FailMode}
use Rattle.fcg_keeper.specs.Records.{loaded, Loads}
use Rattle.fcg_keeper.specs.Script.{Script, Follows, Takes}
use Rattle.fcg_keeper.specs.declared.keeper.TheConstants.{MOST_LOADED}
use Rattle.fcg_book.specs.Log.{Log, records_from, records_of}
use Rattle.fcg_book.specs.declared.log.TheConstants.{MOST_ENTRIES}
use Rattle.fcg_book.specs.Opening.{opened}
use Rattle.fcg_book.specs.Told.{load_told}
use Rattle.fcg_book.specs.Opened.{open_refused_by, open_of, OpensAs, OpensOver, OpensTold, OpensScripted}
use Rattle.fcg_book.specs.Internal.Restored.{FailsWith, IsReadFrom}
use Rattle.fcg_book.specs.declared.opening.OpenRefusal.{OpenRefusal}
use Rattle.fcg_book.specs.declared.opening.OpenRefusal.TheVariants as refusals
use Rattle.fcg_book.specs.declared.opening.OpenRefusal.TheVariants.{NoMemory, KeeperFailed}
use Rattle.fcg_book.proofs.ToldLaws.{passes, fails}

abbrev pub ok_log : Log → Result Log OpenRefusal
ok_log log = Ok log

abbrev pub no_log : OpenRefusal → Result Log OpenRefusal
no_log f = Err f

-- a log that was read, and a fault of the records
pub log_as : (rs : List Record) (log : Log) → opened rs ≡ Ok log → OpensAs (opened rs) (ok_log log)
log_as rs log is = λ _. sym is

pub fault_as : (rs : List Record) (f : OpenRefusal) → FailsWith f (opened rs) → OpensAs (opened rs) (no_log f)
fault_as rs refusals.NoMemory fails = λ ne. absurd (ne refl)
fault_as rs refusals.KeeperFailed fails = λ _. sym fails
fault_as rs (refusals.Sequence seq) fails = λ _. sym fails
fault_as rs (refusals.BadRecord seq rule) fails = λ _. sym fails

pub loaded_over : (rs : List Record) (result : Result Log OpenRefusal) → OpensAs (opened rs) result → OpensOver result
loaded_over rs result h = (Some rs, h)

refused_as : (refusal : KeeperRefusal) (f : OpenRefusal) → f ≡ open_refused_by refusal → OpensAs (no_log KeeperFailed) (no_log f)
refused_as keeper_refusals.NoMemory f is = λ ne. absurd (ne (ap no_log is))
refused_as keeper_refusals.Failed f is = λ _. ap no_log is

pub refused_over : (refusal : KeeperRefusal) (f : OpenRefusal) → f ≡ open_refused_by refusal → OpensOver (no_log f)
refused_over refusal f is = (None, refused_as refusal f is)

module _ (ot nt : Option (List Record)) (os ns : Option Script) where
  pub opens_told : (out : List Record) (result : Result Log OpenRefusal) → Loads ot 0 (Ok out) nt → OpensAs (opened out) result → OpensTold ot result nt
  opens_told out result l h = by nt l
    where
      by : (nt : Option (List Record)) → Loads ot 0 (Ok out) nt → OpensTold ot result nt
      by None l = tt
      by (Some rs) l = (l.0, λ _. subst (λ (x : List Record). OpensAs (opened x) result) l.1 h)

  pub opens_scripted : (out : List Record) (result : Result Log OpenRefusal) → Loads ot 0 (Ok out) nt → Takes os (Ok out) ns → OpensAs (opened out) result → OpensScripted os nt result ns
  opens_scripted out result l t h = by ns t
    where
      by : (ns : Option Script) → Takes os (Ok out) ns → OpensScripted os nt result ns
      by None t = tt
      by (Some rest) t = (t.0, t.1, t.2, at nt l)
        where
          at : (nt : Option (List Record)) → Loads ot 0 (Ok out) nt → IfSome nt (λ rs. OpensAs (open_of (load_told (t.0 0) 0 rs)) result)
          at None l = tt
          at (Some rs) l = rw (passes (t.0 0) out t.3, ← l.1) h

  pub refuses_told : (refusal : KeeperRefusal) (f : OpenRefusal) → f ≡ open_refused_by refusal → Loads ot 0 (Err refusal) nt → OpensTold ot (no_log f) nt
  refuses_told refusal f is l = by nt l
    where
      none : (refusal : KeeperRefusal) → f ≡ open_refused_by refusal → (rs : List Record) → no_log f ≢ Err KeeperFailed → OpensAs (opened rs) (no_log f)
      none keeper_refusals.NoMemory is rs ne = λ nm. absurd (nm (ap no_log is))
      none keeper_refusals.Failed is rs ne = absurd (ne (ap no_log is))

      by : (nt : Option (List Record)) → Loads ot 0 (Err refusal) nt → OpensTold ot (no_log f) nt
      by None l = tt
      by (Some rs) l = (l.0, none refusal is (loaded 0 rs))

  pub refuses_scripted : (refusal : KeeperRefusal) (f : OpenRefusal) → f ≡ open_refused_by refusal → Takes {T = List Record} os (Err refusal) ns → OpensScripted os nt (no_log f) ns
  refuses_scripted refusal f is t = by ns t
    where
      by : (ns : Option Script) → Takes {T = List Record} os (Err refusal) ns → OpensScripted os nt (no_log f) ns
      by None t = tt
      by (Some rest) t = (t.0, t.1, t.2, at nt)
        where
          given : (refusal : KeeperRefusal) → f ≡ open_refused_by refusal → (item : Option FailMode) → Follows {T = List Record} item (Err refusal) → (rs : List Record) → OpensAs (open_of (load_told item 0 rs)) (no_log f)
          given keeper_refusals.NoMemory is item fl rs = λ nm. absurd (nm (ap no_log is))
          given keeper_refusals.Failed is item fl rs = rw (fails (List Record) item fl).1 (λ _. ap no_log is)

          at : (nt : Option (List Record)) → IfSome nt (λ rs. OpensAs (open_of (load_told (t.0 0) 0 rs)) (no_log f))
          at None = tt
          at (Some rs) = given refusal is (t.0 0) t.3 rs

length_from : (n : ℕ) (log : Log) → length (records_from n log) ≡ length log
length_from n [] = refl
length_from n (e ∷ log) = ap suc (length_from (n + 1) log)

pub length_records : (log : Log) → length (records_of log) ≡ length log
unfolding records_of
length_records log = length_from 1 log

-- ---- the records that are told are those of the log
all_from : (rs : List Record) → filter (λ r. nat_le 0 r.seq) rs ≡ rs
all_from [] = refl
all_from (r ∷ rs) = rw (at_least r.seq) (ap (λ (x : List Record). r ∷ x) (all_from rs))
  where
    at_least : (n : ℕ) → nat_le 0 n ≡ true
    at_least n = grind (arith, nat_tests)

-- fewer than the most that a load gives are all
all_taken : (n : ℕ) (rs : List Record) → length (take (suc n) rs) ≤ n → take (suc n) rs ≡ rs
all_taken n [] few = refl
all_taken zero (r ∷ rs) few = absurd (omega (arith, few))
all_taken (suc m) (r ∷ rs) few = ap (λ (x : List Record). r ∷ x) (all_taken m rs (omega (arith, few)))

pub opened_records : (ot nt : Option (List Record)) (out : List Record) (log : Log) → Loads ot 0 (Ok out) nt → IsReadFrom out log → IfSome nt (λ rs. rs ≡ records_of log)
opened_records ot None out log l is = tt
opened_records ot (Some rs) out log l is =
    let few : length out ≤ MOST_ENTRIES = (let n = ap length is.0 in let m = length_records log in let k = is.1 in omega (arith, n, m, k)) in
    let all : out ≡ take MOST_LOADED rs = l.1 ∙ ap (λ (x : List Record). take MOST_LOADED x) (all_from rs) in
    let less : length (take MOST_LOADED rs) ≤ MOST_ENTRIES = subst (λ (x : List Record). length x ≤ MOST_ENTRIES) all few in
    sym (all ∙ all_taken MOST_ENTRIES rs less) ∙ is.0
