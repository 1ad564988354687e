-- What a command over a store comes to, from its steps.
use Rattle.std.proofs.Common.{◌≡◌, inl, inr, ℕ, suc, ◌+◌, Bool, true, false, List, [], ◌∷◌, ◌++◌, length, take, refl, sym, ap, subst, ◌∙◌, arith}
use Rattle.std.specs.Prelude.{Option, Some, None, Result, Ok, Err, ◌≢◌, ◌==◌}
use Rattle.std.specs.Prelude.{slice_get}
use Rattle.std.proofs.lemmas.Bool.{eqb-true}
use Rattle.std.proofs.lemmas.List.{take_more}
use Rattle.std.proofs.lemmas.Option.{slice_get_within, get_or_from_slice_get}
use Rattle.std.proofs.Math.Seq.{take-length}
use Rattle.fcg_keeper.specs.declared.record.Record.{Record}
use Rattle.fcg_keeper.specs.declared.keeper.KeeperRefusal.{KeeperRefusal}
use Rattle.fcg_keeper.specs.declared.keeper.KeeperRefusal.TheVariants as keeper_refusals
use Rattle.fcg_keeper.specs.declared.memory.FailMode.{FailMode}
use Rattle.fcg_keeper.specs.Causes.{one_more, Rose, after_close}
use Rattle.fcg_keeper.specs.Records.{loaded}
use Rattle.fcg_keeper.specs.Script.{Script, later}
use Rattle.fcg_keeper.specs.Opening.{StoresTold, HandsOut, Opens, Closes}
use Rattle.fcg_book.specs.Entries.{coordinate_in, LogEntry}
use Rattle.fcg_book.specs.Log.{Log, entry_in}
use Rattle.fcg_book.specs.Accept.{OfficeState, sure}
use Rattle.fcg_book.specs.Told.{Told, AnsweredTold, told_of, load_told, TellsSubmit, TellsAnswer, TellsBefore, TellsSettled, SubmitsTold}
use Rattle.fcg_book.specs.Opening.{opened}
use Rattle.fcg_book.specs.Opened.{open_of, OpensAs, OpensTold, OpensScripted}
use Rattle.fcg_book.specs.declared.answer.Accepted.{Accepted}
use Rattle.fcg_book.specs.declared.answer.Refused.{Refused}
use Rattle.fcg_book.specs.declared.answer.Refused.TheVariants as refusals
use Rattle.fcg_book.specs.declared.opening.OpenRefusal.{OpenRefusal}
use Rattle.fcg_book.specs.declared.opening.OpenRefusal.TheVariants as opens
use Rattle.fcg_answer.specs.declared.query.Query.{Query}
use Rattle.fcg_answer.specs.Answer.{answer}
use Rattle.fcg_commands.specs.declared.outcome.Outcome.{Outcome}
use Rattle.fcg_commands.specs.declared.outcome.Outcome.TheVariants as outcomes
use Rattle.fcg_commands.specs.Outcomes.{keeper_outcome, opening_outcome, submit_outcome, query_outcome, AnswersAs}
use Rattle.fcg_commands.specs.Once.{Store, store_of, Ended, ended, over_keeper, ended_submit, submit_over, ask_over, EndsAs, Ends, Wants, EndsOver, store_told, EndsTold, EndsOnce}

abbrev ok_log : Log → Result Log OpenRefusal
ok_log log = Ok log

abbrev no_log : OpenRefusal → Result Log OpenRefusal
no_log f = Err f

abbrev pub state_with : Log → Option LogEntry → OfficeState
state_with log doubt = record { log = log; doubt = doubt }

abbrev store_at : List Record → Script → Store
store_at records script = record { records = records; script = script }

module _ (do_over : Log → List Record → Script → Ended) where
  -- ---- over a keeper: the opening is refused
  refused_at : (item : Option FailMode) (rs : List Record) (script : Script) (f : OpenRefusal) → script 0 ≡ item → OpensAs (open_of (load_told item 0 rs)) (no_log f) → f ≢ opens.NoMemory → ended (opening_outcome f) rs (later script) ≡ over_keeper do_over (store_at rs script)
  refused_at None rs script f at h ne =
      let is : opened (loaded 0 rs) ≡ no_log f = sym (h (λ e. ne cc)) in
      rw (at, is) refl
  refused_at (Some mode) rs script f at h ne =
      let is : f ≡ opens.KeeperFailed = (let e : no_log f ≡ no_log opens.KeeperFailed = h (λ e. ne cc) in cc) in
      rw (at, is) refl

  pub opening_refused : (ot nt : Option (List Record)) (os ns : Option Script) (f : OpenRefusal) → OpensTold ot (no_log f) nt → OpensScripted os nt (no_log f) ns → EndsOver do_over (store_of ot os) (opening_outcome f) (store_of nt ns)
  opening_refused ot None os ns f t s = tt
  opening_refused ot (Some rs) os None f t s = tt
  opening_refused ot (Some rs) os (Some rest) f t s = (store_at rs s.0, rw (t.0, s.1) refl, by f s.3)
    where
      ends : (f : OpenRefusal) → f ≢ opens.NoMemory → OpensAs (open_of (load_told (s.0 0) 0 rs)) (no_log f) → EndsAs (over_keeper do_over (store_at rs s.0)) rs (opening_outcome f) (store_at rs rest)
      ends f ne h = Ends (ap (λ (k : Script). ended (opening_outcome f) rs k) s.2 ∙ refused_at (s.0 0) rs s.0 f refl h ne)

      by : (f : OpenRefusal) → OpensAs (open_of (load_told (s.0 0) 0 rs)) (no_log f) → EndsAs (over_keeper do_over (store_at rs s.0)) rs (opening_outcome f) (store_at rs rest)
      by opens.NoMemory h = Wants refl refl
      by opens.KeeperFailed h = ends opens.KeeperFailed (λ e. cc) h
      by (opens.Sequence seq) h = ends (opens.Sequence seq) (λ e. cc) h
      by (opens.BadRecord seq rule) h = ends (opens.BadRecord seq rule) (λ e. cc) h

  -- ---- the office is open over a log
  opened_at : (item : Option FailMode) (rs : List Record) (script : Script) (log : Log) → script 0 ≡ item → OpensAs (open_of (load_told item 0 rs)) (ok_log log) → do_over log rs (later script) ≡ over_keeper do_over (store_at rs script)
  opened_at None rs script log at h =
      let is : opened (loaded 0 rs) ≡ ok_log log = sym (h (λ e. cc)) in
      rw (at, is) refl
  opened_at (Some mode) rs script log at h = (let e : ok_log log ≡ no_log opens.KeeperFailed = h (λ e. cc) in absurd cc)

  pub opening_done : (ot : Option (List Record)) (rs : List Record) (os : Option Script) (rest : Script) (log : Log) → OpensTold ot (ok_log log) (Some rs) → OpensScripted os (Some rs) (ok_log log) (Some rest)
      → (script : Script) × (store_of ot os ≡ Some (store_at rs script)) × (rest ≡ later script) × (do_over log rs rest ≡ over_keeper do_over (store_at rs script))
  opening_done ot rs os rest log t s = (s.0, rw (t.0, s.1) refl, s.2, ap (λ (k : Script). do_over log rs k) s.2 ∙ opened_at (s.0 0) rs s.0 log refl s.3)

  -- ---- over stores
  pub nothing_done : (path : List ℕ) (told : Option StoresTold) → EndsOnce do_over path told outcomes.NoMemory told
  nothing_done path None = tt
  nothing_done path (Some t) = (t, refl, record { ends = Wants refl refl; paths = inr (refl, refl) })

  pub opening_failed : {K : Type 0} (known : K → Option (List Record)) (calls : K → Option Script) (path : List ℕ) (old new : Option StoresTold) (refusal : KeeperRefusal) (outcome : Outcome) → outcome ≡ keeper_outcome refusal → Opens known calls old path (Err refusal) new → EndsOnce do_over path old outcome new
  opening_failed known calls path old None refusal outcome is h = tt
  opening_failed known calls path old (Some after) keeper_refusals.NoMemory outcome is (before, at, o) =
      (before, at, record { ends = Wants is (o.0).records; paths = inr (is, o.1) })
  opening_failed known calls path old (Some after) keeper_refusals.Failed outcome is (before, at, o) =
      (before, at, record { ends = Ends (rw (is, o.0, (o.1).records, (o.1).script) refl); paths = inl o.2 })

  same_store : (a b : Store) → Some a ≡ Some b → a ≡ b
  same_store a b e = cc

  handed_out : (before after m : StoresTold) (path : List ℕ) (known : Option (List Record)) (calls : Option Script) (outcome : Outcome) → HandsOut before known calls → m.paths ≡ before.paths ++ path ∷ [] → (b : Store) → store_of known calls ≡ Some b → EndsAs (over_keeper do_over b) b.records outcome (store_told after) → after.paths ≡ m.paths → EndsTold do_over path before outcome after
  handed_out before after m path known calls outcome hands more b is ends paths =
      let told : store_of known calls ≡ Some (store_at before.records before.script) = rw (hands.records, hands.script) refl in
      let same : store_at before.records before.script ≡ b = same_store (store_at before.records before.script) b (sym told ∙ is) in
      record {
        ends = rw hands.passes (subst (λ (x : Store). EndsAs (over_keeper do_over x) x.records outcome (store_told after)) (sym same) ends);
        paths = inl (paths ∙ more);
      }

  pub closed : {K : Type 0} (known : K → Option (List Record)) (calls : K → Option Script) (path : List ℕ) (keeper after_keeper : K) (old mid new : Option StoresTold) (outcome : Outcome) → Opens known calls old path (Ok keeper) mid → EndsOver do_over (store_of (known keeper) (calls keeper)) outcome (store_of (known after_keeper) (calls after_keeper)) → Closes known calls mid after_keeper new → EndsOnce do_over path old outcome new
  closed known calls path keeper after_keeper old mid None outcome o e c = tt
  closed known calls path keeper after_keeper old mid (Some after) outcome o e (m, at, records, script, paths) =
      by (subst (λ (x : Option StoresTold). Opens known calls old path (Ok keeper) x) at o)
      (subst (λ (x : Option Script). EndsOver do_over (store_of (known keeper) (calls keeper)) outcome (store_of (Some after.records) x)) script
      (subst (λ (x : Option (List Record)). EndsOver do_over (store_of (known keeper) (calls keeper)) outcome (store_of x (calls after_keeper))) records e))
    where
      by : Opens known calls old path (Ok keeper) (Some m) → EndsOver do_over (store_of (known keeper) (calls keeper)) outcome (Some (store_told after)) → EndsOnce do_over path old outcome (Some after)
      by (before, was, from) (b, is, ends) = (before, was, handed_out before after m path (known keeper) (calls keeper) outcome from.0 from.1 b is ends paths)

-- ---- one submit
pub submitted : (e : LogEntry) (log : Log) (new : OfficeState) (result : Result Accepted Refused) (ot mt nt : Option (List Record)) (os ms ns : Option Script) → OpensTold ot (ok_log log) mt → OpensScripted os mt (ok_log log) ms → SubmitsTold (told_of (sure log) mt ms) e result (told_of new nt ns) → EndsOver (submit_over e) (store_of ot os) (submit_outcome (length new.log) (coordinate_in e.command) result) (store_of nt ns)
submitted e log new result ot mt None os ms ns t s h = tt
submitted e log new result ot mt (Some rs) os ms None t s h = tt
submitted e log new result ot None (Some rs) os ms (Some rest) t s (b, at, h) = absurd cc
submitted e log new result ot (Some were) (Some rs) os None (Some rest) t s (b, at, h) = absurd cc
submitted e log new result ot (Some were) (Some rs) os (Some next) (Some rest) t s (b, at, h) =
    let opening = opening_done (submit_over e) ot were os next log t s in
    (store_at were opening.0, opening.1, by (subst (λ (x : Told). TellsSubmit x e result (record { office = new; store = rs; script = rest })) (sym (begun b at)) h) opening.3)
  where
    begin : Told
    begin = record { office = sure log; store = were; script = next }

    begun : (b : Told) → Some begin ≡ Some b → begin ≡ b
    begun b e = cc

    after : Told
    after = record { office = new; store = rs; script = rest }

    want : result ≡ Err refusals.NoMemory → submit_outcome (length new.log) (coordinate_in e.command) result ≡ outcomes.NoMemory
    want is = rw is refl

    by : {expected : Ended} → TellsSubmit begin e result after → submit_over e log were next ≡ expected → EndsAs expected were (submit_outcome (length new.log) (coordinate_in e.command) result) (store_at rs rest)
    by (TellsAnswer is) ends = Ends (ap (λ (a : AnsweredTold). ended_submit (coordinate_in e.command) a) is ∙ ends)
    by (TellsBefore is o s) ends = Wants (want is) s
    by (TellsSettled is o s) ends = Wants (want is) s

-- ---- one query
pub asked : (query : Query) (log : Log) (outcome : Outcome) (ot nt : Option (List Record)) (os ns : Option Script) → OpensTold ot (ok_log log) nt → OpensScripted os nt (ok_log log) ns → AnswersAs (query_outcome (answer log query)) outcome → EndsOver (ask_over query) (store_of ot os) outcome (store_of nt ns)
asked query log outcome ot None os ns t s h = tt
asked query log outcome ot (Some rs) os None t s h = tt
asked query log outcome ot (Some rs) os (Some rest) t s h =
    let opening = opening_done (ask_over query) ot rs os rest log t s in
    (store_at rs opening.0, opening.1, by outcome h opening.3)
  where
    by : {expected : Ended} (outcome : Outcome) → AnswersAs (query_outcome (answer log query)) outcome → ask_over query log rs rest ≡ expected → EndsAs expected rs outcome (store_at rs rest)
    by outcomes.NoMemory h ends = Wants refl refl
    by (outcomes.Answered reply) h ends = Ends (ap (λ (o : Outcome). ended o rs rest) (h (λ e. cc)) ∙ ends)
    by (outcomes.Refused reply) h ends = Ends (ap (λ (o : Outcome). ended o rs rest) (h (λ e. cc)) ∙ ends)
    by (outcomes.BadStore reply) h ends = Ends (ap (λ (o : Outcome). ended o rs rest) (h (λ e. cc)) ∙ ends)
    by outcomes.KeeperFailed h ends = Ends (ap (λ (o : Outcome). ended o rs rest) (h (λ e. cc)) ∙ ends)

-- ---- the count of the stores
pub close_rises : (old mid new faults : ℕ) → mid ≡ old → Rose 0 faults → new ≡ after_close mid faults → Rose old new
close_rises old mid new faults same rose is = by (faults == 0) refl
  where
    by : (b : Bool) → (faults == 0) ≡ b → Rose old new
    by true zero = (let z : faults ≡ 0 = eqb-true faults 0 zero in absurd (omega (arith, z, rose)))
    by false more = (let n : new ≡ one_more mid = rw more at is in omega (arith, n, same))

-- ---- a log copied entry by entry
pub log_more : (log : Log) (n : ℕ) (e : LogEntry) → entry_in log (n + 1) ≡ Some e → take n log ++ e ∷ [] ≡ take (n + 1) log
log_more log n e is =
    let at : slice_get log n ≡ Some e = (let s : suc n ≡ n + 1 = omega arith in ap (entry_in log) s ∙ is) in
    let low = slice_get_within log n e at in
    sym (take_more log n e low ∙ ap (λ (x : LogEntry). take n log ++ x ∷ []) (get_or_from_slice_get log n e e at))

pub log_whole : (log : Log) (n : ℕ) → length log ≡ n → take n log ≡ log
log_whole log n is = rw (← is) (take-length log)
