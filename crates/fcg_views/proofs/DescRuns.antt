-- A descriptor leads from the start to the end.
use Rattle.std.proofs.Common.{◌≡◌, ℕ, zero, suc, ◌+◌, ◌-◌, ◌≤◌, ◌<◌, Bool, true, false, leb, ltb, List, [], ◌∷◌, ◌++◌, length, refl, ap, subst, ◌∙◌, append_assoc, arith, add-zero, length-append}
use Rattle.std.specs.Prelude.{Option, Some, None, ◌==◌, ◌||◌, nat_le}
use Rattle.std.specs.List.{flat_map, AllByRecursion}
use Rattle.std.proofs.lemmas.Bool.{le-leb, lt-ltb, lt-leb, eqb-true}
use Rattle.std.proofs.lemmas.List.Concat.{flat_map-cons}
use Rattle.fcg_views.specs.declared.descriptor.DescSpan.{DescSpan}
use Rattle.fcg_views.specs.declared.descriptor.DescState.{DescState}
use Rattle.fcg_views.specs.declared.descriptor.DescState.TheVariants.{Start, Parameters, Array, Name, Returned, ReturnedArray, ReturnedName, Done}
use Rattle.fcg_views.specs.DescriptorSteps.{taken, closed, step}
use Rattle.fcg_views.specs.Descriptor.{Item, Letter, Class, FieldType, MethodType, brackets, spell_item, spell_field, spell_return, spell, IsItem, IsFieldType, units_with, units_of, units, IsReturn, IsMethodType, is_letter, letter_units}

-- the state after the bytes, where each had a step and the last stands before the place `end`
abbrev pub run : ℕ → Option DescState → List ℕ → Option DescState
run end o [] = o
run end None (b ∷ bs) = None
run end (Some s) (b ∷ bs) = run end (step s (end - suc (length bs)) b) bs

pub run-append : (end : ℕ) (o : Option DescState) (xs ys : List ℕ) → run end o (xs ++ ys) ≡ run end (run (end - length ys) o xs) ys
run-append end o [] ys = refl
run-append end None (b ∷ bs) [] = refl
run-append end None (b ∷ bs) (y ∷ ys) = refl
run-append end (Some s) (b ∷ bs) ys =
    let place : end - suc (length (bs ++ ys)) ≡ end - length ys - suc (length bs) = omega (arith, length-append bs ys) in
    ap (λ (at : ℕ). run end (step s at b) (bs ++ ys)) place ∙ run-append end (step s (end - length ys - suc (length bs)) b) bs ys

le_test : (m n : ℕ) → m ≤ n → nat_le m n ≡ true
le_test m n le = le-leb m n le

name_step : (c u b : ℕ) (filled : Bool) → (b == 59) ≡ false → step (Name c u filled) 0 b ≡ Some (Name c u true)
name_step c u b filled e = rw e refl

pub taken_fits : (c u k : ℕ) → u + k ≤ 255 → taken c u k ≡ Some (Parameters (c + 1) (u + k))
taken_fits c u k fits = rw (le_test (u + k) 255 fits) refl

-- a letter isn't a `)`
no_close : (l : ℕ) → is_letter l ≡ true → (l == 41) ≡ false
no_close l kept = by (l == 41) refl
  where
    by : (b : Bool) → (l == 41) ≡ b → (l == 41) ≡ false
    by true e = absurd (let is : l ≡ 41 = eqb-true l 41 e in let no : is_letter 41 ≡ true = subst (λ (k : ℕ). is_letter k ≡ true) is kept in cc)
    by false e = e

parameter_letter : (c u at l : ℕ) → is_letter l ≡ true → step (Parameters c u) at l ≡ taken c u (letter_units l)
parameter_letter c u at l kept = rw (no_close l kept, kept) refl

or_true : (b : Bool) → (b || true) ≡ true
or_true true = refl
or_true false = refl

module _ (end : ℕ) where
  -- by the first step
  on : (o p : Option DescState) (xs : List ℕ) → o ≡ p → run end o xs ≡ run end p xs
  on o p xs e = ap (λ (q : Option DescState). run end q xs) e

  -- a class's name from its second byte on
  run_name : (c u : ℕ) (name ys : List ℕ) → AllByRecursion (λ b. (b == 59) ≡ false) name → run end (Some (Name c u true)) (name ++ 59 ∷ ys) ≡ run end (taken c u 1) ys
  run_name c u [] ys kept = refl
  run_name c u (b ∷ name) ys kept = on _ _ (name ++ 59 ∷ ys) (name_step c u b true kept.0) ∙ run_name c u name ys kept.1

  run_class : (c u : ℕ) (name ys : List ℕ) → 0 < length name → AllByRecursion (λ b. (b == 59) ≡ false) name → run end (Some (Name c u false)) (name ++ 59 ∷ ys) ≡ run end (taken c u 1) ys
  run_class c u [] ys some kept = absurd (omega arith)
  run_class c u (b ∷ name) ys some kept = on _ _ (name ++ 59 ∷ ys) (name_step c u b false kept.0) ∙ run_name c u name ys kept.1

  run_brackets : (c u d k : ℕ) (ys : List ℕ) → d + k ≤ 255 → run end (Some (Array c u d)) (brackets k ++ ys) ≡ run end (Some (Array c u (d + k))) ys
  run_brackets c u d zero ys fits = rw add-zero refl
  run_brackets c u d (suc k) ys fits =
      let room : ltb d 255 ≡ true = lt-ltb d 255 (omega arith) in
      let n : d + 1 + k ≡ d + suc k = omega arith in
      let one : step (Array c u d) 0 91 ≡ Some (Array c u (d + 1)) = rw room refl in
      on _ _ (brackets k ++ ys) one ∙ run_brackets c u (d + 1) k ys (omega arith) ∙ ap (λ (e : ℕ). run end (Some (Array c u e)) ys) n

  run_item : (c u d : ℕ) (item : Item) (ys : List ℕ) → IsItem item → u + 1 ≤ 255 → run end (Some (Array c u d)) (spell_item item ++ ys) ≡ run end (Some (Parameters (c + 1) (u + 1))) ys
  run_item c u d (Letter l) ys kept fits =
      let one : step (Array c u d) 0 l ≡ taken c u 1 = rw kept refl in
      on _ _ ys (one ∙ taken_fits c u 1 fits)
  run_item c u d (Class name) ys kept fits =
      let grouped : spell_item (Class name) ++ ys ≡ 76 ∷ (name ++ 59 ∷ ys) = ap (λ (x : List ℕ). 76 ∷ x) (append_assoc name (59 ∷ []) ys) in
      ap (run end (Some (Array c u d))) grouped ∙ run_class c u name ys kept.0 kept.1 ∙ on _ _ ys (taken_fits c u 1 fits)

  -- one parameter
  run_parameter : (c u : ℕ) (t : FieldType) (ys : List ℕ) → IsFieldType t → u + units_of t ≤ 255 → run end (Some (Parameters c u)) (spell_field t ++ ys) ≡ run end (Some (Parameters (c + 1) (u + units_of t))) ys
  run_parameter c u t ys kept fits = by t.dims t.item kept.0 kept.1 fits
    where
      by : (k : ℕ) (item : Item) → k ≤ 255 → IsItem item → u + units_with k item ≤ 255 → run end (Some (Parameters c u)) ((brackets k ++ spell_item item) ++ ys) ≡ run end (Some (Parameters (c + 1) (u + units_with k item))) ys
      by zero (Letter l) few is fits = on _ _ ys (parameter_letter c u (end - suc (length ys)) l is ∙ taken_fits c u (letter_units l) fits)
      by zero (Class name) few is fits =
          let room : leb 255 u ≡ false = lt-leb 255 u (omega arith) in
          let one : step (Parameters c u) 0 76 ≡ Some (Name c u false) = rw room refl in
          let grouped : spell_item (Class name) ++ ys ≡ 76 ∷ (name ++ 59 ∷ ys) = ap (λ (x : List ℕ). 76 ∷ x) (append_assoc name (59 ∷ []) ys) in
          ap (run end (Some (Parameters c u))) grouped ∙ on _ _ (name ++ 59 ∷ ys) one ∙ run_class c u name ys is.0 is.1 ∙ on _ _ ys (taken_fits c u 1 fits)
      by (suc k) item few is fits =
          let room : leb 255 u ≡ false = lt-leb 255 u (omega arith) in
          let one : step (Parameters c u) 0 91 ≡ Some (Array c u 1) = rw room refl in
          let grouped : (brackets (suc k) ++ spell_item item) ++ ys ≡ 91 ∷ (brackets k ++ (spell_item item ++ ys)) = ap (λ (x : List ℕ). 91 ∷ x) (append_assoc (brackets k) (spell_item item) ys) in
          ap (run end (Some (Parameters c u))) grouped ∙ on _ _ (brackets k ++ (spell_item item ++ ys)) one ∙ run_brackets c u 1 k (spell_item item ++ ys) (omega arith) ∙ run_item c u (1 + k) item ys is (omega arith)

  run_parameters : (c u : ℕ) (ts : List FieldType) (ys : List ℕ) → AllByRecursion IsFieldType ts → u + units ts ≤ 255 → (span : DescSpan) × (run end (Some (Parameters c u)) (flat_map spell_field ts ++ 41 ∷ ys) ≡ run end (Some (Returned span)) ys)
  run_parameters c u [] ys kept fits = (closed c u (end - suc (length ys)), refl)
  run_parameters c u (t ∷ ts) ys kept fits =
      let grouped : flat_map spell_field (t ∷ ts) ++ 41 ∷ ys ≡ spell_field t ++ (flat_map spell_field ts ++ 41 ∷ ys) = ap (λ (x : List ℕ). x ++ 41 ∷ ys) (flat_map-cons spell_field t ts) ∙ append_assoc (spell_field t) (flat_map spell_field ts) (41 ∷ ys) in
      let rest = run_parameters (c + 1) (u + units_of t) ts ys kept.1 (omega arith) in
      (rest.0, ap (run end (Some (Parameters c u))) grouped ∙ run_parameter c u t (flat_map spell_field ts ++ 41 ∷ ys) kept.0 (omega arith) ∙ rest.1)

  pub run_return : (span : DescSpan) (r : Option FieldType) → IsReturn r → run end (Some (Returned span)) (spell_return r) ≡ Some (Done span)
  run_return span None kept = refl
  run_return span (Some t) kept = by t.dims t.item kept.0 kept.1
    where
      name_end : (name : List ℕ) → AllByRecursion (λ b. (b == 59) ≡ false) name → run end (Some (ReturnedName span true)) (name ++ 59 ∷ []) ≡ Some (Done span)
      name_end [] kept = refl
      name_end (b ∷ name) kept = on _ _ (name ++ 59 ∷ []) (let one : step (ReturnedName span true) 0 b ≡ Some (ReturnedName span true) = rw kept.0 refl in one) ∙ name_end name kept.1

      class_end : (name : List ℕ) → 0 < length name → AllByRecursion (λ b. (b == 59) ≡ false) name → run end (Some (ReturnedName span false)) (name ++ 59 ∷ []) ≡ Some (Done span)
      class_end [] some kept = absurd (omega arith)
      class_end (b ∷ name) some kept = on _ _ (name ++ 59 ∷ []) (let one : step (ReturnedName span false) 0 b ≡ Some (ReturnedName span true) = rw kept.0 refl in one) ∙ name_end name kept.1

      item_end : (d : ℕ) (item : Item) → IsItem item → run end (Some (ReturnedArray span d)) (spell_item item) ≡ Some (Done span)
      item_end d (Letter l) is = let one : step (ReturnedArray span d) 0 l ≡ Some (Done span) = rw is refl in one
      item_end d (Class name) is = class_end name is.0 is.1

      dims_end : (d k : ℕ) (item : Item) → d + k ≤ 255 → IsItem item → run end (Some (ReturnedArray span d)) (brackets k ++ spell_item item) ≡ Some (Done span)
      dims_end d zero item fits is = item_end d item is
      dims_end d (suc k) item fits is =
          let room : ltb d 255 ≡ true = lt-ltb d 255 (omega arith) in
          let one : step (ReturnedArray span d) 0 91 ≡ Some (ReturnedArray span (d + 1)) = rw room refl in
          on _ _ (brackets k ++ spell_item item) one ∙ dims_end (d + 1) k item (omega arith) is

      letter_end : (l : ℕ) (b : Bool) → is_letter l ≡ true → step (Returned span) 0 l ≡ Some (Done span)
      letter_end l b is =
          let e : ((l == 86) || is_letter l) ≡ true = rw is (or_true (l == 86)) in
          rw e refl

      by : (k : ℕ) (item : Item) → k ≤ 255 → IsItem item → run end (Some (Returned span)) (brackets k ++ spell_item item) ≡ Some (Done span)
      by zero (Letter l) few is = letter_end l true is
      by zero (Class name) few is = class_end name is.0 is.1
      by (suc k) item few is = dims_end 1 k item (omega arith) is

  -- each descriptor leads to the end
  pub run_spelled : (m : MethodType) → IsMethodType m → (span : DescSpan) × (run end (Some Start) (spell m) ≡ Some (Done span))
  run_spelled m kept =
      let closed = run_parameters 0 0 m.parameters (spell_return m.returned) kept.parameters (omega (arith, kept.few)) in
      (closed.0, closed.1 ∙ run_return closed.0 m.returned kept.returned)
