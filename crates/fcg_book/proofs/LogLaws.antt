-- Logs with an entry more, and the entries that look-ups give.
use Rattle.std.proofs.Common.{◌≡◌, ℕ, suc, ◌+◌, Bool, true, false, cond, List, [], ◌∷◌, ◌++◌, length, refl, sym, ap, ◌∙◌, arith}
use Rattle.std.specs.Prelude.{Option, Some, None, ◌==◌, nat_eq}
use Rattle.std.proofs.lemmas.Bool.{eqb-true}
use Rattle.std.proofs.lemmas.List.{length-append}
use Rattle.fcg_book.specs.Spelling.{content_text}
use Rattle.fcg_book.specs.Entries.{coordinate_in, LogEntry}
use Rattle.fcg_book.specs.Spelling.{entry_text}
use Rattle.fcg_keeper.specs.declared.record.Record.{Record}
use Rattle.fcg_book.specs.Log.{Log, live_after, live_from, live, number_from, number_of, record_of, records_from, records_of, bytes_of}

abbrev or_else : {X : Type 0} → Option X → Option X → Option X
or_else None o = o
or_else (Some x) o = Some x

on : (n k : ℕ) → n + 1 + k ≡ n + suc k
on n k = omega arith

-- ---- one entry more
live_more : (n : ℕ) (log : Log) (e : LogEntry) (c : List ℕ) (before : Option ℕ) → live_from n (log ++ e ∷ []) c before ≡ live_after c (n + length log) e.command (live_from n log c before)
live_more n [] e c before = (let z : n ≡ n + 0 = omega arith in ap (λ (m : ℕ). live_after c m e.command before) z)
live_more n (x ∷ log) e c before = live_more (n + 1) log e c (live_after c n x.command before) ∙ ap (λ (m : ℕ). live_after c m e.command (live_from (n + 1) log c (live_after c n x.command before))) (on n (length log))

pub live_push : (log : Log) (e : LogEntry) (c : List ℕ) → live (log ++ e ∷ []) c ≡ live_after c (length log + 1) e.command (live log c)
unfolding live
live_push log e c = live_more 1 log e c None ∙ (let z : 1 + length log ≡ length log + 1 = omega arith in ap (λ (m : ℕ). live_after c m e.command (live_from 1 log c None)) z)

abbrev number_last : ℕ → LogEntry → ℕ → Option ℕ
number_last n e request = cond (e.request == request) (Some n) None

number_more : (n : ℕ) (log : Log) (e : LogEntry) (request : ℕ) → number_from n (log ++ e ∷ []) request ≡ or_else (number_from n log request) (number_last (n + length log) e request)
number_more n [] e request = (let z : n ≡ n + 0 = omega arith in ap (λ (m : ℕ). number_last m e request) z)
number_more n (x ∷ log) e request = by (x.request == request) (number_more (n + 1) log e request ∙ ap (λ (m : ℕ). or_else (number_from (n + 1) log request) (number_last m e request)) (on n (length log)))
  where
    by : (b : Bool) → number_from (n + 1) (log ++ e ∷ []) request ≡ or_else (number_from (n + 1) log request) (number_last (n + suc (length log)) e request) → cond b (Some n) (number_from (n + 1) (log ++ e ∷ []) request) ≡ or_else (cond b (Some n) (number_from (n + 1) log request)) (number_last (n + suc (length log)) e request)
    by true rest = refl
    by false rest = rest

abbrev last_by : ℕ → Bool → Option ℕ
last_by n b = cond b (Some n) None

-- where the request is new
pub number_push : (log : Log) (e : LogEntry) (request : ℕ) → number_of log e.request ≡ None → cond (nat_eq e.request request) (Some (length log + 1)) (number_of log request) ≡ number_of (log ++ e ∷ []) request
unfolding number_of
number_push log e request fresh = by (nat_eq e.request request) refl ∙ sym (number_more 1 log e request)
  where
    at : 1 + length log ≡ length log + 1
    at = omega arith

    by : (b : Bool) → nat_eq e.request request ≡ b → cond b (Some (length log + 1)) (number_from 1 log request) ≡ or_else (number_from 1 log request) (last_by (1 + length log) (e.request == request))
    by true is = rw (at, is, ap (λ (r : ℕ). number_from 1 log r) (sym (eqb-true e.request request is)) ∙ fresh) refl
    by false is = rw is (none_after (number_from 1 log request))
      where
        none_after : (o : Option ℕ) → o ≡ or_else o None
        none_after None = refl
        none_after (Some n) = refl

records_more : (n : ℕ) (log : Log) (e : LogEntry) → records_from n (log ++ e ∷ []) ≡ records_from n log ++ record_of (n + length log) e ∷ []
records_more n [] e = (let z : n ≡ n + 0 = omega arith in ap (λ (m : ℕ). record_of m e ∷ []) z)
records_more n (x ∷ log) e = ap (λ (rs : List Record). record_of n x ∷ rs) (records_more (n + 1) log e ∙ ap (λ (m : ℕ). records_from (n + 1) log ++ record_of m e ∷ []) (on n (length log)))

pub records_push : (log : Log) (e : LogEntry) → records_of (log ++ e ∷ []) ≡ records_of log ++ record_of (length log + 1) e ∷ []
unfolding records_of
records_push log e = records_more 1 log e ∙ (let z : 1 + length log ≡ length log + 1 = omega arith in ap (λ (m : ℕ). records_from 1 log ++ record_of m e ∷ []) z)

pub bytes_push : (log : Log) (e : LogEntry) → bytes_of (log ++ e ∷ []) ≡ bytes_of log + length (entry_text e)
bytes_push [] e = omega arith
bytes_push (x ∷ log) e = (let h = bytes_push log e in omega (arith, h))

pub live_none : (c : List ℕ) → live [] c ≡ None
unfolding live
live_none c = refl

-- how many bytes a record has
pub entry_length : (e : LogEntry) → length (entry_text e) ≡ 17 + length (coordinate_in e.command) + length (content_text e.command)
unfolding entry_text
entry_length e =
    let a = length-append (coordinate_in e.command) (content_text e.command ++ []) in
    let b = length-append (content_text e.command) [] in
    omega (arith, a, b)

pub number_none : (request : ℕ) → number_of [] request ≡ None
unfolding number_of
number_none request = refl
