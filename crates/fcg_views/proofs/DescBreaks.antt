-- Where a text stops to be the front of a descriptor.
use Rattle.std.proofs.Common.{◌≡◌, ℕ, zero, suc, ◌+◌, ◌-◌, ◌≤◌, ◌<◌, Bool, true, false, cond, List, [], ◌∷◌, ◌++◌, length, take, refl, sym, ap, subst, ◌∙◌, append_assoc, arith, length-append, zero-add}
use Rattle.std.specs.Prelude.{Option, Some, None, MatchResult, IfOk, IfErr, Result, Ok, Err, ◌==◌, ◌||◌, nat_le, nat_lt}
use Rattle.std.proofs.lemmas.Bool.{leb-false}
use Rattle.fcg_views.specs.declared.descriptor.DescSpan.{DescSpan}
use Rattle.fcg_views.specs.declared.descriptor.DescFault.{DescFault}
use Rattle.fcg_views.specs.declared.descriptor.DescState.{DescState}
use Rattle.fcg_views.specs.declared.descriptor.DescState.TheVariants.{Start, Parameters, Array, Name, Returned, ReturnedArray, ReturnedName, Done}
use Rattle.fcg_views.specs.DescriptorSteps.{taken, step, closed, goes, scan_from, ended, result_of_scan, descriptor_of, fault_at}
use Rattle.fcg_views.specs.Descriptor.{IsDescriptor, IsFront, BreaksAt, Spans, FaultOf, FaultAt, is_letter, letter_units}
use Rattle.fcg_views.proofs.DescRuns.{run, run-append, run_spelled, taken_fits}
use Rattle.fcg_views.proofs.DescFound.{found, run_none}
use Rattle.std.proofs.lemmas.List.{take_at, append-nil}

-- a state that has room for what was begun
abbrev pub Fine : DescState → Type 0
Fine Start = Unit {0}
Fine (Parameters c u) = Unit {0}
Fine (Array c u d) = u + 1 ≤ 255
Fine (Name c u filled) = u + 1 ≤ 255
Fine (Returned s) = Unit {0}
Fine (ReturnedArray s d) = Unit {0}
Fine (ReturnedName s filled) = Unit {0}
Fine (Done s) = Unit {0}

abbrev IfFine : Option DescState → Type 0
IfFine None = Unit {0}
IfFine (Some s) = Fine s

chosen : (t : Bool) (x y : Option DescState) → (t ≡ true → IfFine x) → (t ≡ false → IfFine y) → IfFine (cond t x y)
chosen true x y p q = p refl
chosen false x y p q = q refl

taken_fine : (c u k : ℕ) → IfFine (taken c u k)
taken_fine c u k = chosen (nat_le (u + k) 255) (Some (Parameters (c + 1) (u + k))) None (λ e. tt) (λ e. tt)

step_fine : (s : DescState) (at b : ℕ) → Fine s → IfFine (step s at b)
step_fine Start at b fine = chosen (b == 40) (Some (Parameters 0 0)) None (λ e. tt) (λ e. tt)
step_fine (Parameters c u) at b fine =
    chosen (b == 41) (Some (Returned (closed c u at))) _ (λ e. tt) (λ e.
    chosen (is_letter b) (taken c u (letter_units b)) _ (λ e. taken_fine c u (letter_units b)) (λ e.
    chosen (nat_le 255 u) None _ (λ e. tt) (λ e.
    let room : u < 255 = leb-false 255 u e in
    chosen (b == 91) (Some (Array c u 1)) _ (λ e. omega arith) (λ e.
    chosen (b == 76) (Some (Name c u false)) None (λ e. omega arith) (λ e. tt)))))
step_fine (Array c u d) at b fine =
    chosen (is_letter b) (taken c u 1) _ (λ e. taken_fine c u 1) (λ e.
    chosen (b == 76) (Some (Name c u false)) _ (λ e. fine) (λ e.
    chosen (b == 91) (cond (nat_lt d 255) (Some (Array c u (d + 1))) None) None (λ e. chosen (nat_lt d 255) (Some (Array c u (d + 1))) None (λ e. fine) (λ e. tt)) (λ e. tt)))
step_fine (Name c u filled) at b fine =
    chosen (b == 59) (cond filled (taken c u 1) None) (Some (Name c u true)) (λ e. chosen filled (taken c u 1) None (λ e. taken_fine c u 1) (λ e. tt)) (λ e. fine)
step_fine (Returned s) at b fine =
    chosen ((b == 86) || is_letter b) (Some (Done s)) _ (λ e. tt) (λ e.
    chosen (b == 91) (Some (ReturnedArray s 1)) _ (λ e. tt) (λ e.
    chosen (b == 76) (Some (ReturnedName s false)) None (λ e. tt) (λ e. tt)))
step_fine (ReturnedArray s d) at b fine =
    chosen (is_letter b) (Some (Done s)) _ (λ e. tt) (λ e.
    chosen (b == 76) (Some (ReturnedName s false)) _ (λ e. tt) (λ e.
    chosen (b == 91) (cond (nat_lt d 255) (Some (ReturnedArray s (d + 1))) None) None (λ e. chosen (nat_lt d 255) (Some (ReturnedArray s (d + 1))) None (λ e. tt) (λ e. tt)) (λ e. tt)))
step_fine (ReturnedName s filled) at b fine =
    chosen (b == 59) (cond filled (Some (Done s)) None) (Some (ReturnedName s true)) (λ e. chosen filled (Some (Done s)) None (λ e. tt) (λ e. tt)) (λ e. tt)
step_fine (Done s) at b fine = tt

-- each state has an end
abbrev pub finish : DescState → List ℕ
finish Start = 40 ∷ 41 ∷ 86 ∷ []
finish (Parameters c u) = 41 ∷ 86 ∷ []
finish (Array c u d) = 73 ∷ 41 ∷ 86 ∷ []
finish (Name c u true) = 59 ∷ 41 ∷ 86 ∷ []
finish (Name c u false) = 97 ∷ 59 ∷ 41 ∷ 86 ∷ []
finish (Returned s) = 73 ∷ []
finish (ReturnedArray s d) = 73 ∷ []
finish (ReturnedName s true) = 59 ∷ []
finish (ReturnedName s false) = 97 ∷ 59 ∷ []
finish (Done s) = []

module _ (end : ℕ) where
  abbrev Ends : Option DescState → List ℕ → Type 0
  Ends o xs = (span : DescSpan) × (run end o xs ≡ Some (Done span))

  after_taken : (c u : ℕ) → u + 1 ≤ 255 → Ends (taken c u 1) (41 ∷ 86 ∷ [])
  after_taken c u fits = (closed (c + 1) (u + 1) (end - 2), ap (λ (o : Option DescState). run end o (41 ∷ 86 ∷ [])) (taken_fits c u 1 fits))

  finishes : (s : DescState) → Fine s → Ends (Some s) (finish s)
  finishes Start fine = (closed 0 0 (end - 2), refl)
  finishes (Parameters c u) fine = (closed c u (end - 2), refl)
  finishes (Array c u d) fine = after_taken c u fine
  finishes (Name c u true) fine = after_taken c u fine
  finishes (Name c u false) fine = after_taken c u fine
  finishes (Returned s) fine = (s, refl)
  finishes (ReturnedArray s d) fine = (s, refl)
  finishes (ReturnedName s true) fine = (s, refl)
  finishes (ReturnedName s false) fine = (s, refl)
  finishes (Done s) fine = (s, refl)

-- what a scan that fails has gone over
pub record Dies (at : ℕ) (s : DescState) (xs : List ℕ) (n : ℕ) : Type 0 where
  pub front : List ℕ
  pub b : ℕ
  pub rest : List ℕ
  pub parts : xs ≡ front ++ b ∷ rest
  pub place : n ≡ at + length front
  pub last : DescState
  pub fine : Fine last
  pub led : run n (Some s) front ≡ Some last
  pub none : step last n b ≡ None

dies : (at : ℕ) (s : DescState) (xs : List ℕ) (n : ℕ) → Fine s → scan_from at s xs ≡ Err n → Dies at s xs n
dies at s [] n fine e = absurd cc
dies at s (b ∷ bs) n fine e = by (step s at b) refl e (step_fine s at b fine) (λ t. dies (at + 1) t bs n)
  where
    by : (o : Option DescState) → step s at b ≡ o → goes o (λ t. scan_from (at + 1) t bs) at ≡ Err n → IfFine o → ((t : DescState) → Fine t → scan_from (at + 1) t bs ≡ Err n → Dies (at + 1) t bs n) → Dies at s (b ∷ bs) n
    by None is e fine' next =
        let same : at ≡ n = cc in
        record { front = []; b = b; rest = bs; parts = refl; place = omega arith; last = s; fine = fine; led = refl; none = ap (λ (k : ℕ). step s k b) (sym same) ∙ is }
    by (Some t) is e fine' next =
        let d = next t fine' e in
        let p = d.place in
        let here : n - suc (length d.front) ≡ at = omega arith in
        record {
          front = b ∷ d.front;
          b = d.b;
          rest = d.rest;
          parts = ap (λ (x : List ℕ). b ∷ x) d.parts;
          place = omega arith;
          last = d.last;
          fine = d.fine;
          led = ap (λ (o : Option DescState). run n o d.front) (ap (λ (k : ℕ). step s k b) here ∙ is) ∙ d.led;
          none = d.none;
        }

pub record Lives (end : ℕ) (s : DescState) (xs : List ℕ) (t : DescState) : Type 0 where
  pub fine : Fine t
  pub led : run end (Some s) xs ≡ Some t

lives : (at end : ℕ) (s : DescState) (xs : List ℕ) (t : DescState) → at + length xs ≡ end → Fine s → scan_from at s xs ≡ Ok t → Lives end s xs t
lives at end s [] t whole fine e = let same : s ≡ t = cc in record { fine = subst Fine same fine; led = ap (λ (u : DescState). Some u) same }
lives at end s (b ∷ bs) t whole fine e = by (step s at b) refl e (step_fine s at b fine) (λ u. lives (at + 1) end u bs t (omega arith))
  where
    by : (o : Option DescState) → step s at b ≡ o → goes o (λ u. scan_from (at + 1) u bs) at ≡ Ok t → IfFine o → ((u : DescState) → Fine u → scan_from (at + 1) u bs ≡ Ok t → Lives end u bs t) → Lives end s (b ∷ bs) t
    by None is e fine' next = absurd cc
    by (Some u) is e fine' next =
        let l = next u fine' e in
        let here : end - suc (length bs) ≡ at = omega arith in
        record { fine = l.fine; led = ap (λ (o : Option DescState). run end o bs) (ap (λ (k : ℕ). step s k b) here ∙ is) ∙ l.led }

-- ---- the law

-- a kind of text: those that are read from a first state on to the end, and begin as they may
pub record IsReadFrom (Is Begins : List ℕ → Type 0) (start : DescState) : Type 0 where
  pub fine : Fine start
  pub is : (text : List ℕ) (span : DescSpan) → Begins text → run (length text) (Some start) text ≡ Some (Done span) → Is text
  pub leads : (text : List ℕ) → Is text → (span : DescSpan) × (run (length text) (Some start) text ≡ Some (Done span))
  -- what was begun so can be ended
  pub begins : (n : ℕ) (pre more : List ℕ) (s : DescState) → run n (Some start) pre ≡ Some s → Begins (pre ++ more) → Begins (pre ++ finish s)

no_way : (start : DescState) (front : List ℕ) (b : ℕ) (more : List ℕ) (n : ℕ) (s : DescState) (span : DescSpan) → length front ≡ n → run n (Some start) front ≡ Some s → step s n b ≡ None → run (length (front ++ b ∷ more)) (Some start) (front ++ b ∷ more) ≡ Some (Done span) → ⊥
no_way start front b more n s span len led none e =
    let end : ℕ = length (front ++ b ∷ more) in
    let long : end ≡ length front + suc (length more) = length-append front (b ∷ more) in
    let before : end - suc (length more) ≡ n = omega arith in
    let led_so : run (end - suc (length more)) (Some start) front ≡ Some s = ap (λ (k : ℕ). run k (Some start) front) before ∙ led in
    let none_so : step s (end - suc (length more)) b ≡ None = ap (λ (k : ℕ). step s k b) before ∙ none in
    let stuck : run end (Some start) (front ++ b ∷ more) ≡ run end None more =
    run-append end (Some start) front (b ∷ more) ∙ ap (λ (o : Option DescState). run end o (b ∷ more)) led_so ∙ ap (λ (o : Option DescState). run end o more) none_so in
    run_none end span more (sym stuck ∙ e)

take_past : (xs : List ℕ) (b : ℕ) (rest : List ℕ) (j k : ℕ) → k ≡ length xs + suc j → take k (xs ++ b ∷ rest) ≡ xs ++ b ∷ take j rest
take_past [] b rest j k e = let n : k ≡ suc j = omega arith in rw n refl
take_past (x ∷ xs) b rest j zero e = absurd (omega arith)
take_past (x ∷ xs) b rest j (suc k) e = ap (λ (ys : List ℕ). x ∷ ys) (take_past xs b rest j k (omega arith))

module _ (Is Begins : List ℕ → Type 0) (start : DescState) (kind : IsReadFrom Is Begins start) where
  -- bytes that lead to a state are the front of such a text
  front_of : (text pre more : List ℕ) (n : ℕ) (s : DescState) → Begins text → text ≡ pre ++ more → length pre ≡ n → run n (Some start) pre ≡ Some s → Fine s → IsFront Is text n
  front_of text pre more n s begun parts len led fine =
      let stop : ℕ = n + length (finish s) in
      let ends = finishes stop s fine in
      let long : length (pre ++ finish s) ≡ stop = length-append pre (finish s) ∙ ap (λ (k : ℕ). k + length (finish s)) len in
      let here : stop - length (finish s) ≡ n = omega arith in
      let led_so : run (stop - length (finish s)) (Some start) pre ≡ Some s = ap (λ (k : ℕ). run k (Some start) pre) here ∙ led in
      let done : run stop (Some start) (pre ++ finish s) ≡ Some (Done ends.0) = run-append stop (Some start) pre (finish s) ∙ ap (λ (o : Option DescState). run stop o (finish s)) led_so ∙ ends.1 in
      let begun_so : Begins (pre ++ finish s) = kind.begins n pre more s led (subst Begins parts begun) in
      let whole : Is (pre ++ finish s) = kind.is (pre ++ finish s) ends.0 begun_so (ap (λ (k : ℕ). run k (Some start) (pre ++ finish s)) long ∙ done) in
      let taken_is : take n text ≡ pre = ap (take n) parts ∙ take_at pre more n len in
      record { rest = finish s; whole = subst (λ (x : List ℕ). Is (x ++ finish s)) (sym taken_is) whole }

  breaks_where_it_dies : (text : List ℕ) (n : ℕ) → Begins text → Dies 0 start text n → BreaksAt Is text n
  breaks_where_it_dies text n begun d =
      let p = d.place in
      let len : length d.front ≡ n = omega arith in
      record {
        within = (let l : length text ≡ length d.front + suc (length d.rest) = ap length d.parts ∙ length-append d.front (d.b ∷ d.rest) in omega arith);
        front = front_of text d.front (d.b ∷ d.rest) n d.last begun d.parts len d.led d.fine;
        longest = longest;
        none = λ is. (let w = kind.leads (d.front ++ d.b ∷ d.rest) (subst Is d.parts is) in no_way start d.front d.b d.rest n d.last w.0 len d.led d.none w.1);
      }
    where
      longest : (k : ℕ) → n < k → k ≤ length text → IsFront Is text k → ⊥
      longest k lt within f =
          let j : ℕ = k - suc n in
          let p = d.place in
          let len : length d.front ≡ n = omega arith in
          let at : k ≡ length d.front + suc j = omega arith in
          let cut : take k text ≡ d.front ++ d.b ∷ take j d.rest = ap (take k) d.parts ∙ take_past d.front d.b d.rest j k at in
          let whole : take k text ++ f.rest ≡ d.front ++ d.b ∷ (take j d.rest ++ f.rest) = ap (λ (x : List ℕ). x ++ f.rest) cut ∙ append_assoc d.front (d.b ∷ take j d.rest) f.rest in
          let w = kind.leads (d.front ++ d.b ∷ (take j d.rest ++ f.rest)) (subst Is whole f.whole) in
          no_way start d.front d.b (take j d.rest ++ f.rest) n d.last w.0 len d.led d.none w.1

  breaks_at_the_end : (text : List ℕ) (s : DescState) → Begins text → ((span : DescSpan) → s ≡ Done span → ⊥) → Lives (length text) start text s → BreaksAt Is text (length text)
  breaks_at_the_end text s begun open_ l = record {
    within = omega arith;
    front = front_of text text [] (length text) s begun (sym (append-nil text)) refl l.led l.fine;
    longest = λ k lt within f. absurd (omega arith);
    none = λ is. (let w = kind.leads text is in let both : Some s ≡ Some (Done w.0) = sym l.led ∙ w.1 in open_ w.0 cc);
  }

  -- what the scan of a text tells is right
  abbrev pub Scanned : List ℕ → Result DescSpan DescFault → Type 0
  Scanned text r = MatchResult r (λ span. run (length text) (Some start) text ≡ Some (Done span)) (FaultOf Is text)

  at_end : (text : List ℕ) (s : DescState) → Begins text → ((span : DescSpan) → s ≡ Done span → ⊥) → Lives (length text) start text s → FaultOf Is text (fault_at (length text))
  at_end text s begun open_ l = (length text, breaks_at_the_end text s begun open_ l, refl)

  ended_right : (text : List ℕ) (s : DescState) → Begins text → Lives (length text) start text s → Scanned text (ended s (length text))
  ended_right text (Done span) begun l = l.led
  ended_right text Start begun l = at_end text Start begun (λ span x. cc) l
  ended_right text (Parameters c u) begun l = at_end text (Parameters c u) begun (λ span x. cc) l
  ended_right text (Array c u d) begun l = at_end text (Array c u d) begun (λ span x. cc) l
  ended_right text (Name c u filled) begun l = at_end text (Name c u filled) begun (λ span x. cc) l
  ended_right text (Returned s) begun l = at_end text (Returned s) begun (λ span x. cc) l
  ended_right text (ReturnedArray s d) begun l = at_end text (ReturnedArray s d) begun (λ span x. cc) l
  ended_right text (ReturnedName s filled) begun l = at_end text (ReturnedName s filled) begun (λ span x. cc) l

  pub scanned : (text : List ℕ) → Begins text → Scanned text (result_of_scan (length text) (scan_from 0 start text))
  scanned text begun = by (scan_from 0 start text) refl
    where
      by : (r : Result DescState ℕ) → scan_from 0 start text ≡ r → Scanned text (result_of_scan (length text) r)
      by (Ok s) is = ended_right text s begun (lives 0 (length text) start text s (zero-add (length text)) kind.fine is)
      by (Err n) is = (n, breaks_where_it_dies text n begun (dies 0 start text n kind.fine is), refl)

-- ---- method descriptors

spans : (text : List ℕ) (span : DescSpan) → run (length text) (Some Start) text ≡ Some (Done span) → Spans text span
spans text span e = found (length text) span text Start (omega arith) tt e refl

abbrev Any : List ℕ → Type 0
Any text = Unit {0}

method_kind : IsReadFrom IsDescriptor Any Start
method_kind = record {
  fine = tt;
  is = λ text span begun e. (let s = spans text span e in (s.type, s.kept, s.spelled));
  leads = λ text is. (let r = run_spelled (length text) is.0 is.1 in (r.0, ap (run (length text) (Some Start)) (sym is.2) ∙ r.1));
  begins = λ n pre more s led begun. tt;
}

abbrev IsRight : List ℕ → Result DescSpan DescFault → Type 0
IsRight text r = MatchResult r (Spans text) (FaultAt text)

pub told_right : (text : List ℕ) → MatchResult (descriptor_of text) (Spans text) (FaultAt text)
told_right text = by (descriptor_of text) (scanned IsDescriptor Any Start method_kind text tt)
  where
    by : (r : Result DescSpan DescFault) → Scanned IsDescriptor Any Start method_kind text r → IsRight text r
    by (Ok span) right = spans text span right
    by (Err fault) right = right

pub found_by : (text : List ℕ) (r : Result DescSpan DescFault) → r ≡ descriptor_of text → IfOk r (λ span. Spans text span)
found_by text (Ok span) e = subst (IsRight text) (sym e) (told_right text)
found_by text (Err fault) e = tt

pub breaks_by : (text : List ℕ) (r : Result DescSpan DescFault) → r ≡ descriptor_of text → IfErr r (λ fault. FaultAt text fault)
breaks_by text (Ok span) e = tt
breaks_by text (Err fault) e = subst (IsRight text) (sym e) (told_right text)
