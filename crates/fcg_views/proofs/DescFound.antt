-- What leads from the start to the end is a descriptor.
use Rattle.std.proofs.Common.{◌≡◌, ◌⊎◌, inl, inr, ℕ, zero, suc, ◌+◌, ◌-◌, ◌^◌, min, ◌≤◌, ◌<◌, Bool, true, false, cond, List, [], ◌∷◌, ◌++◌, length, refl, sym, ap, subst, ◌∙◌, append_assoc, arith, add-zero, zero-add, length-append}
use Rattle.std.specs.Prelude.{Option, Some, None, ◌==◌, ◌||◌, nat_le, nat_lt}
use Rattle.std.specs.List.{flat_map, AllByRecursion}
use Rattle.std.proofs.lemmas.Bool.{eqb-true, leb-true, ltb-true}
use Rattle.std.proofs.lemmas.List.Concat.{flat_map-cons}
use Rattle.fcg_views.specs.declared.descriptor.DescSpan.{DescSpan}
use Rattle.fcg_views.specs.declared.descriptor.DescState.{DescState}
use Rattle.fcg_views.specs.declared.descriptor.DescState.TheVariants.{Start, Parameters, Array, Name, Returned, ReturnedArray, ReturnedName, Done}
use Rattle.fcg_views.specs.DescriptorSteps.{taken, closed, step}
use Rattle.fcg_views.specs.Descriptor.{Item, Letter, Class, FieldType, brackets, spell_item, spell_field, spell_return, IsItem, IsFieldType, units_of, units, IsReturn, Spans, is_letter, letter_units}
use Rattle.fcg_views.proofs.DescRuns.{run}

abbrev Kept : List ℕ → Type 0
Kept name = AllByRecursion (λ b. (b == 59) ≡ false) name

abbrev IsFilled : Bool → List ℕ → Type 0
IsFilled true name = Unit {0}
IsFilled false name = 0 < length name

-- The rest from a state on, where the bytes end at the place `end` and tell `span`. First from the parameters on, where
-- so many parameters and units are taken.
pub record Tail (end : ℕ) (span : DescSpan) (c u : ℕ) (xs : List ℕ) : Type 0 where
  pub ts : List FieldType
  pub r : Option FieldType
  pub each : AllByRecursion IsFieldType ts
  pub few : u + units ts ≤ 255
  pub back : IsReturn r
  pub spelled : flat_map spell_field ts ++ 41 ∷ spell_return r ≡ xs
  pub parameters_are : span.parameters ≡ c + length ts
  pub units_are : span.units ≡ u + units ts
  pub result_at_is : span.result_at ≡ min (end - length (spell_return r)) (2 ^ 32 - 1)

pub record InArray (end : ℕ) (span : DescSpan) (c u d : ℕ) (xs : List ℕ) : Type 0 where
  pub k : ℕ
  pub item : Item
  pub ys : List ℕ
  pub few : d + k ≤ 255
  pub is : IsItem item
  pub spelled : brackets k ++ (spell_item item ++ ys) ≡ xs
  pub tail : Tail end span (c + 1) (u + 1) ys

pub record InName (end : ℕ) (span : DescSpan) (c u : ℕ) (filled : Bool) (xs : List ℕ) : Type 0 where
  pub name : List ℕ
  pub ys : List ℕ
  pub some : IsFilled filled name
  pub kept : Kept name
  pub spelled : name ++ 59 ∷ ys ≡ xs
  pub tail : Tail end span (c + 1) (u + 1) ys

pub record Back (span s : DescSpan) (xs : List ℕ) : Type 0 where
  pub r : Option FieldType
  pub is : IsReturn r
  pub spelled : spell_return r ≡ xs
  pub same : span ≡ s

pub record BackArray (span s : DescSpan) (d : ℕ) (xs : List ℕ) : Type 0 where
  pub k : ℕ
  pub item : Item
  pub few : d + k ≤ 255
  pub is : IsItem item
  pub spelled : brackets k ++ spell_item item ≡ xs
  pub same : span ≡ s

pub record BackName (span s : DescSpan) (filled : Bool) (xs : List ℕ) : Type 0 where
  pub name : List ℕ
  pub some : IsFilled filled name
  pub kept : Kept name
  pub spelled : name ++ 59 ∷ [] ≡ xs
  pub same : span ≡ s

abbrev pub Residual : ℕ → DescSpan → DescState → List ℕ → Type 0
Residual end span Start xs = (length xs ≡ end) → Spans xs span
Residual end span (Parameters c u) xs = Tail end span c u xs
Residual end span (Array c u d) xs = InArray end span c u d xs
Residual end span (Name c u filled) xs = InName end span c u filled xs
Residual end span (Returned s) xs = Back span s xs
Residual end span (ReturnedArray s d) xs = BackArray span s d xs
Residual end span (ReturnedName s filled) xs = BackName span s filled xs
Residual end span (Done s) xs = (xs ≡ []) × (span ≡ s)

pub run_none : (end : ℕ) (span : DescSpan) (xs : List ℕ) → run end None xs ≡ Some (Done span) → ⊥
run_none end span [] e = cc
run_none end span (x ∷ xs) e = cc

-- which way a test went
pub split : (end : ℕ) (span : DescSpan) (t : Bool) (x y : Option DescState) (bs : List ℕ) → run end (cond t x y) bs ≡ Some (Done span) → ((t ≡ true) × (run end x bs ≡ Some (Done span))) ⊎ ((t ≡ false) × (run end y bs ≡ Some (Done span)))
split end span true x y bs e = inl (refl, e)
split end span false x y bs e = inr (refl, e)

abbrev pub Small : DescState → Type 0
Small Start = Unit {0}
Small (Parameters c u) = u ≤ 255
Small (Array c u d) = d ≤ 255
Small (Name c u filled) = Unit {0}
Small (Returned s) = Unit {0}
Small (ReturnedArray s d) = d ≤ 255
Small (ReturnedName s filled) = Unit {0}
Small (Done s) = Unit {0}

module _ (end : ℕ) (span : DescSpan) (bs : List ℕ) (within : suc (length bs) ≤ end) (ih : (s : DescState) → Small s → run end (Some s) bs ≡ Some (Done span) → Residual end span s bs) where
  abbrev Runs : Option DescState → Type 0
  Runs o = run end o bs ≡ Some (Done span)

  taken_tail : (c u k : ℕ) → Runs (taken c u k) → Tail end span (c + 1) (u + k) bs
  taken_tail c u k e =
      elim (split end span (nat_le (u + k) 255) (Some (Parameters (c + 1) (u + k))) None bs e) [
        | inl p ↦ ih (Parameters (c + 1) (u + k)) (leb-true (u + k) 255 p.0) p.1
        | inr p ↦ absurd (run_none end span bs p.1)
      ]

  starting : (b : ℕ) → (b == 40) ≡ true → Tail end span 0 0 bs → (length (b ∷ bs) ≡ end) → Spans (b ∷ bs) span
  starting b e t whole =
      let front : List ℕ = flat_map spell_field t.ts in
      let back : List ℕ = spell_return t.r in
      let len : length front + suc (length back) ≡ length bs = sym (length-append front (41 ∷ back)) ∙ ap length t.spelled in
      let place : end - length back ≡ 2 + length front = omega arith in
      record {
        type = record { parameters = t.ts; returned = t.r };
        kept = record { parameters = t.each; few = (let f = t.few in omega arith); returned = t.back };
        spelled = ap (λ (x : List ℕ). 40 ∷ x) t.spelled ∙ ap (λ (x : ℕ). x ∷ bs) (sym (eqb-true b 40 e));
        parameters_are = t.parameters_are ∙ zero-add (length t.ts);
        units_are = t.units_are ∙ zero-add (units t.ts);
        result_at_is = t.result_at_is ∙ ap (λ (x : ℕ). min x (2 ^ 32 - 1)) place;
      }

  from_start : (b : ℕ) → Runs (step Start (end - suc (length bs)) b) → (length (b ∷ bs) ≡ end) → Spans (b ∷ bs) span
  from_start b e =
      elim (split end span (b == 40) (Some (Parameters 0 0)) None bs e) [
        | inl p ↦
            starting b p.0 (ih (Parameters 0 0) (omega arith) p.1)
        | inr p ↦ absurd (run_none end span bs p.1)
      ]

  -- one parameter in front
  one_more : (c u v b : ℕ) (t : FieldType) (ys : List ℕ) → IsFieldType t → v ≡ u + units_of t → spell_field t ++ ys ≡ b ∷ bs → Tail end span (c + 1) v ys → Tail end span c u (b ∷ bs)
  one_more c u v b t ys is at spelled tail = record {
    ts = t ∷ tail.ts;
    r = tail.r;
    each = (is, tail.each);
    few = (let f = tail.few in omega arith);
    back = tail.back;
    spelled =
        ap (λ (x : List ℕ). x ++ 41 ∷ spell_return tail.r) (flat_map-cons spell_field t tail.ts)
        ∙ append_assoc (spell_field t) (flat_map spell_field tail.ts) (41 ∷ spell_return tail.r)
        ∙ ap (λ (x : List ℕ). spell_field t ++ x) tail.spelled
        ∙ spelled;
    parameters_are = (let p = tail.parameters_are in omega arith);
    units_are = (let f = tail.units_are in omega arith);
    result_at_is = tail.result_at_is;
  }

  at_front : (b k : ℕ) (xs : List ℕ) → (b == k) ≡ true → xs ≡ bs → k ∷ xs ≡ b ∷ bs
  at_front b k xs e same = ap (λ (x : List ℕ). k ∷ x) same ∙ ap (λ (x : ℕ). x ∷ bs) (sym (eqb-true b k e))

  -- a class's name in front
  abbrev named : (c u b : ℕ) → (b == 76) ≡ true → InName end span c u false bs → InArray end span c u 0 (b ∷ bs)
  named c u b e n = record {
    k = 0;
    item = Class n.name;
    ys = n.ys;
    few = omega arith;
    is = (n.some, n.kept);
    spelled = at_front b 76 ((n.name ++ 59 ∷ []) ++ n.ys) e (append_assoc n.name (59 ∷ []) n.ys ∙ n.spelled);
    tail = n.tail;
  }

  -- a parameter that is an item after brackets
  as_parameter : (c u b k : ℕ) (a : InArray end span c u k (b ∷ bs)) → k ≡ 0 → 0 < a.k → Tail end span c u (b ∷ bs)
  as_parameter c u b k a e lt = by a.k refl lt
    where
      by : (j : ℕ) → a.k ≡ j → 0 < j → Tail end span c u (b ∷ bs)
      by zero is lt = absurd (omega arith)
      by (suc j) is lt =
          one_more c u (u + 1) b (record { dims = suc j; item = a.item }) a.ys (omega (arith, a.few), a.is) refl
          (append_assoc (brackets (suc j)) (spell_item a.item) a.ys ∙ subst (λ (i : ℕ). brackets i ++ (spell_item a.item ++ a.ys) ≡ b ∷ bs) is a.spelled) a.tail

  -- one bracket more in front
  abbrev bracketed : (c u d b : ℕ) → (b == 91) ≡ true → InArray end span c u (d + 1) bs → InArray end span c u d (b ∷ bs)
  bracketed c u d b e a = record {
    k = suc a.k;
    item = a.item;
    ys = a.ys;
    few = (let f = a.few in omega arith);
    is = a.is;
    spelled = at_front b 91 (brackets a.k ++ (spell_item a.item ++ a.ys)) e a.spelled;
    tail = a.tail;
  }

  -- no parameter more
  closing : (c u b : ℕ) → u ≤ 255 → (b == 41) ≡ true → Back span (closed c u (end - suc (length bs))) bs → Tail end span c u (b ∷ bs)
  closing c u b small e t =
      let len : length (spell_return t.r) ≡ length bs = ap length t.spelled in
      let place : end - suc (length bs) + 1 ≡ end - length (spell_return t.r) = omega arith in
      record {
        ts = [];
        r = t.r;
        each = tt;
        few = omega arith;
        back = t.is;
        spelled = at_front b 41 (spell_return t.r) e t.spelled;
        parameters_are = ap (λ (x : DescSpan). x.parameters) t.same ∙ sym (add-zero c);
        units_are = ap (λ (x : DescSpan). x.units) t.same ∙ sym (add-zero u);
        result_at_is = ap (λ (x : DescSpan). x.result_at) t.same ∙ ap (λ (x : ℕ). min x (2 ^ 32 - 1)) place;
      }

  from_parameters : (c u b : ℕ) → u ≤ 255 → run end (step (Parameters c u) (end - suc (length bs)) b) bs ≡ Some (Done span) → Tail end span c u (b ∷ bs)
  from_parameters c u b small e =
      let r4 = cond (b == 76) (Some (Name c u false)) None in
      let r3 = cond (b == 91) (Some (Array c u 1)) (cond (b == 76) (Some (Name c u false)) None) in
      let r2 = cond (nat_le 255 u) None r3 in
      let r1 = cond (is_letter b) (taken c u (letter_units b)) r2 in
      elim (split end span (b == 41) (Some (Returned (closed c u (end - suc (length bs))))) r1 bs e) [
        | inl p ↦
            let t : Back span (closed c u (end - suc (length bs))) bs = ih (Returned (closed c u (end - suc (length bs)))) tt p.1 in
            closing c u b small p.0 t
        | inr p ↦ elim (split end span (is_letter b) (taken c u (letter_units b)) r2 bs p.1) [
          | inl q ↦ one_more c u (u + letter_units b) b (record { dims = 0; item = Letter b }) bs (omega arith, q.0) refl refl (taken_tail c u (letter_units b) q.1)
          | inr q ↦ elim (split end span (nat_le 255 u) None r3 bs q.1) [
            | inl v ↦ absurd (run_none end span bs v.1)
            | inr v ↦ elim (split end span (b == 91) (Some (Array c u 1)) r4 bs v.1) [
              | inl w ↦ as_parameter c u b 0 (bracketed c u 0 b w.0 (ih (Array c u 1) (omega arith) w.1)) refl (omega arith)
              | inr w ↦ elim (split end span (b == 76) (Some (Name c u false)) None bs w.1) [
                | inl x ↦
                    let n : InName end span c u false bs = ih (Name c u false) tt x.1 in
                    one_more c u (u + 1) b (record { dims = 0; item = Class n.name }) n.ys (omega arith, (n.some, n.kept)) refl (at_front b 76 ((n.name ++ 59 ∷ []) ++ n.ys) x.0 (append_assoc n.name (59 ∷ []) n.ys ∙ n.spelled)) n.tail
                | inr x ↦ absurd (run_none end span bs x.1)
              ]
            ]
          ]
        ]
      ]

  wider : (c u d : ℕ) (xs : List ℕ) → d ≤ 255 → (a : InArray end span c u 0 xs) → a.k ≡ 0 → InArray end span c u d xs
  wider c u d xs small a e = record { k = a.k; item = a.item; ys = a.ys; few = omega arith; is = a.is; spelled = a.spelled; tail = a.tail }

  from_array : (c u d b : ℕ) → d ≤ 255 → run end (step (Array c u d) (end - suc (length bs)) b) bs ≡ Some (Done span) → InArray end span c u d (b ∷ bs)
  from_array c u d b small e =
      let r3 = cond (nat_lt d 255) (Some (Array c u (d + 1))) None in
      let r2 = cond (b == 91) (cond (nat_lt d 255) (Some (Array c u (d + 1))) None) None in
      let r1 = cond (b == 76) (Some (Name c u false)) r2 in
      elim (split end span (is_letter b) (taken c u 1) r1 bs e) [
        | inl p ↦ record { k = 0; item = Letter b; ys = bs; few = omega arith; is = p.0; spelled = refl; tail = taken_tail c u 1 p.1 }
        | inr p ↦ elim (split end span (b == 76) (Some (Name c u false)) r2 bs p.1) [
          | inl q ↦ wider c u d (b ∷ bs) small (named c u b q.0 (ih (Name c u false) tt q.1)) refl
          | inr q ↦ elim (split end span (b == 91) r3 None bs q.1) [
            | inl v ↦ elim (split end span (nat_lt d 255) (Some (Array c u (d + 1))) None bs v.1) [
              | inl w ↦ let lt : d < 255 = ltb-true d 255 w.0 in bracketed c u d b v.0 (ih (Array c u (d + 1)) (omega arith) w.1)
              | inr w ↦ absurd (run_none end span bs w.1)
            ]
            | inr v ↦ absurd (run_none end span bs v.1)
          ]
        ]
      ]

  from_name : (c u b : ℕ) (filled : Bool) → run end (step (Name c u filled) (end - suc (length bs)) b) bs ≡ Some (Done span) → InName end span c u filled (b ∷ bs)
  from_name c u b filled e =
      elim (split end span (b == 59) (cond filled (taken c u 1) None) (Some (Name c u true)) bs e) [
        | inl p ↦ ended filled p.0 p.1
        | inr p ↦
            let n : InName end span c u true bs = ih (Name c u true) tt p.1 in
            record { name = b ∷ n.name; ys = n.ys; some = longer filled n.name; kept = (p.0, n.kept); spelled = ap (λ (x : List ℕ). b ∷ x) n.spelled; tail = n.tail }
      ]
    where
      longer : (f : Bool) (name : List ℕ) → IsFilled f (b ∷ name)
      longer true name = tt
      longer false name = omega arith

      ended : (f : Bool) → (b == 59) ≡ true → run end (cond f (taken c u 1) None) bs ≡ Some (Done span) → InName end span c u f (b ∷ bs)
      ended true is r = record { name = []; ys = bs; some = tt; kept = tt; spelled = at_front b 59 bs is refl; tail = taken_tail c u 1 r }
      ended false is r = absurd (run_none end span bs r)

  from_returned : (s : DescSpan) (b : ℕ) → run end (step (Returned s) (end - suc (length bs)) b) bs ≡ Some (Done span) → Back span s (b ∷ bs)
  from_returned s b e =
      let r2 = cond (b == 76) (Some (ReturnedName s false)) None in
      let r1 = cond (b == 91) (Some (ReturnedArray s 1)) r2 in
      elim (split end span ((b == 86) || is_letter b) (Some (Done s)) r1 bs e) [
        | inl p ↦ last (b == 86) refl p.0 (ih (Done s) tt p.1)
        | inr p ↦ elim (split end span (b == 91) (Some (ReturnedArray s 1)) r2 bs p.1) [
          | inl q ↦
              let a : BackArray span s 1 bs = ih (ReturnedArray s 1) (omega arith) q.1 in
              record { r = Some (record { dims = suc a.k; item = a.item }); is = (omega (arith, a.few), a.is); spelled = at_front b 91 (brackets a.k ++ spell_item a.item) q.0 a.spelled; same = a.same }
          | inr q ↦ elim (split end span (b == 76) (Some (ReturnedName s false)) None bs q.1) [
            | inl v ↦
                let n : BackName span s false bs = ih (ReturnedName s false) tt v.1 in
                record { r = Some (record { dims = 0; item = Class n.name }); is = (omega arith, (n.some, n.kept)); spelled = at_front b 76 (n.name ++ 59 ∷ []) v.0 n.spelled; same = n.same }
            | inr v ↦ absurd (run_none end span bs v.1)
          ]
        ]
      ]
    where
      last : (t : Bool) → (b == 86) ≡ t → (t || is_letter b) ≡ true → (bs ≡ []) × (span ≡ s) → Back span s (b ∷ bs)
      last true is either stop = record { r = None; is = tt; spelled = at_front b 86 [] is (sym stop.0); same = stop.1 }
      last false is either stop = record { r = Some (record { dims = 0; item = Letter b }); is = (omega arith, either); spelled = ap (λ (x : List ℕ). b ∷ x) (sym stop.0); same = stop.1 }

  from_returned_array : (s : DescSpan) (d b : ℕ) → d ≤ 255 → run end (step (ReturnedArray s d) (end - suc (length bs)) b) bs ≡ Some (Done span) → BackArray span s d (b ∷ bs)
  from_returned_array s d b small e =
      let r3 = cond (nat_lt d 255) (Some (ReturnedArray s (d + 1))) None in
      let r2 = cond (b == 91) (cond (nat_lt d 255) (Some (ReturnedArray s (d + 1))) None) None in
      let r1 = cond (b == 76) (Some (ReturnedName s false)) r2 in
      elim (split end span (is_letter b) (Some (Done s)) r1 bs e) [
        | inl p ↦ record { k = 0; item = Letter b; few = omega arith; is = p.0; spelled = ap (λ (x : List ℕ). b ∷ x) (sym (ih (Done s) tt p.1).0); same = (ih (Done s) tt p.1).1 }
        | inr p ↦ elim (split end span (b == 76) (Some (ReturnedName s false)) r2 bs p.1) [
          | inl q ↦
              let n : BackName span s false bs = ih (ReturnedName s false) tt q.1 in
              record { k = 0; item = Class n.name; few = omega arith; is = (n.some, n.kept); spelled = at_front b 76 (n.name ++ 59 ∷ []) q.0 n.spelled; same = n.same }
          | inr q ↦ elim (split end span (b == 91) r3 None bs q.1) [
            | inl v ↦ elim (split end span (nat_lt d 255) (Some (ReturnedArray s (d + 1))) None bs v.1) [
              | inl w ↦
                  let lt : d < 255 = ltb-true d 255 w.0 in
                  let a : BackArray span s (d + 1) bs = ih (ReturnedArray s (d + 1)) (omega arith) w.1 in
                  record { k = suc a.k; item = a.item; few = (let f = a.few in omega arith); is = a.is; spelled = at_front b 91 (brackets a.k ++ spell_item a.item) v.0 a.spelled; same = a.same }
              | inr w ↦ absurd (run_none end span bs w.1)
            ]
            | inr v ↦ absurd (run_none end span bs v.1)
          ]
        ]
      ]

  from_returned_name : (s : DescSpan) (b : ℕ) (filled : Bool) → run end (step (ReturnedName s filled) (end - suc (length bs)) b) bs ≡ Some (Done span) → BackName span s filled (b ∷ bs)
  from_returned_name s b filled e =
      elim (split end span (b == 59) (cond filled (Some (Done s)) None) (Some (ReturnedName s true)) bs e) [
        | inl p ↦ ended filled p.0 p.1
        | inr p ↦
            let n : BackName span s true bs = ih (ReturnedName s true) tt p.1 in
            record { name = b ∷ n.name; some = longer filled n.name; kept = (p.0, n.kept); spelled = ap (λ (x : List ℕ). b ∷ x) n.spelled; same = n.same }
      ]
    where
      longer : (f : Bool) (name : List ℕ) → IsFilled f (b ∷ name)
      longer true name = tt
      longer false name = omega arith

      ended : (f : Bool) → (b == 59) ≡ true → run end (cond f (Some (Done s)) None) bs ≡ Some (Done span) → BackName span s f (b ∷ bs)
      ended true is r = record { name = []; some = tt; kept = tt; spelled = at_front b 59 [] is (sym (ih (Done s) tt r).0); same = (ih (Done s) tt r).1 }
      ended false is r = absurd (run_none end span bs r)

  from : (s : DescState) (b : ℕ) → Small s → run end (step s (end - suc (length bs)) b) bs ≡ Some (Done span) → Residual end span s (b ∷ bs)
  from Start b small e = from_start b e
  from (Parameters c u) b small e = from_parameters c u b small e
  from (Array c u d) b small e = from_array c u d b small e
  from (Name c u filled) b small e = from_name c u b filled e
  from (Returned s) b small e = from_returned s b e
  from (ReturnedArray s d) b small e = from_returned_array s d b small e
  from (ReturnedName s filled) b small e = from_returned_name s b filled e
  from (Done s) b small e = absurd (run_none end span bs e)

ends : (end : ℕ) (span : DescSpan) (s : DescState) → Some s ≡ Some (Done span) → Residual end span s []
ends end span Start e = absurd cc
ends end span (Parameters c u) e = absurd cc
ends end span (Array c u d) e = absurd cc
ends end span (Name c u filled) e = absurd cc
ends end span (Returned s) e = absurd cc
ends end span (ReturnedArray s d) e = absurd cc
ends end span (ReturnedName s filled) e = absurd cc
ends end span (Done s) e = (refl, cc)

pub found : (end : ℕ) (span : DescSpan) (xs : List ℕ) (s : DescState) → length xs ≤ end → Small s → run end (Some s) xs ≡ Some (Done span) → Residual end span s xs
found end span [] s within small e = ends end span s e
found end span (b ∷ bs) s within small e = from end span bs within (λ t. found end span bs t (omega arith)) s b small e
