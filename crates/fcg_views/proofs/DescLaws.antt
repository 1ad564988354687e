-- The tests for descriptors, and the reading of a field descriptor, against their grammar.
use Rattle.std.proofs.Common.{◌≡◌, ℕ, zero, suc, ◌≤◌, ◌<◌, Bool, true, false, eqb, not, List, [], ◌∷◌, ◌++◌, length, take, nat_eq, refl, sym, ap, subst, ◌∙◌, append_assoc, arith}
use Rattle.std.specs.Prelude.{MatchResult, is_ok, IsOk, IfErr, Option, Some, None, Result, Ok, Err, if◌then◌else◌}
use Rattle.std.specs.Bool.{Decides}
use Rattle.std.specs.List.{flat_map, AllByRecursion}
use Rattle.std.specs.Cmp.Lexicographic.{pointwise}
use Rattle.std.proofs.lemmas.Bool.{and_parts, eqb-true}
use Rattle.std.proofs.lemmas.Bool.Decides.{Decides-eqb, not_from_Decides}
use Rattle.std.proofs.lemmas.List.Concat.{flat_map-cons}
use Rattle.std.proofs.lemmas.Slice.Eq.{slice_eq-Decides}
use Rattle.fcg_views.specs.declared.descriptor.DescSpan.{DescSpan}
use Rattle.fcg_views.specs.declared.descriptor.DescFault.{DescFault}
use Rattle.fcg_views.specs.declared.descriptor.DescState.{DescState}
use Rattle.fcg_views.specs.declared.descriptor.DescState.TheVariants.{Done, Returned}
use Rattle.fcg_views.specs.Descriptor.{Item, Letter, Class, FieldType, MethodType, brackets, spell_item, spell_field, spell_return, IsItem, IsFieldType, IsReturn, Spans, IsFront, BreaksAt, FaultAt, FieldFaultAt, IsDescriptor, IsFieldDescriptor, is_letter}
use Rattle.fcg_views.specs.DescriptorSteps.{scan_from, fault_at, result_of_scan, descriptor_of, is_descriptor, is_void, is_field_descriptor, no_parameters, begins_with_void, without_span, field_descriptor_of}
use Rattle.fcg_views.proofs.DescRuns.{run, run_return}
use Rattle.fcg_views.proofs.DescFound.{Back, found}
use Rattle.fcg_views.proofs.DescBreaks.{finish, IsReadFrom, Scanned, scanned, told_right}

found_by : (text : List ℕ) (r : Result DescSpan DescFault) → MatchResult r (Spans text) (FaultAt text) → is_ok r ≡ true → IsDescriptor text
found_by text (Ok span) right e = (right.type, right.kept, right.spelled)
found_by text (Err fault) right e = absurd cc

pub descriptor_found : (text : List ℕ) → is_descriptor text ≡ true → IsDescriptor text
descriptor_found text e = found_by text (descriptor_of text) (told_right text) e

only_by : (text : List ℕ) (r : Result DescSpan DescFault) → MatchResult r (Spans text) (FaultAt text) → IsDescriptor text → is_ok r ≡ true
only_by text (Ok span) right is = refl
only_by text (Err fault) right is = absurd (right.1.none is)

pub descriptor_only : (text : List ℕ) → IsDescriptor text → is_descriptor text ≡ true
descriptor_only text is = only_by text (descriptor_of text) (told_right text) is

-- ---- field descriptors

unlike : (a b : ℕ) → eqb a b ≡ false → a ≡ b → ⊥
unlike a b other same = (let bad : eqb b b ≡ false = subst (λ (n : ℕ). eqb n b ≡ false) same other in not_from_Decides (eqb b b) (Decides-eqb b b) bad refl)

-- no parameter begins as the parameters end
no_close : (l : ℕ) → is_letter l ≡ true → l ≡ 41 → ⊥
no_close l e is = let bad : is_letter 41 ≡ true = subst (λ (n : ℕ). is_letter n ≡ true) is e in cc

first_is : (a b : ℕ) (xs ys : List ℕ) → a ∷ xs ≡ b ∷ ys → a ≡ b
first_is a b xs ys e = cc

field_begins : (dims : ℕ) (item : Item) (more rest : List ℕ) → IsItem item → (brackets dims ++ spell_item item) ++ more ≡ 41 ∷ rest → ⊥
field_begins zero (Letter c) more rest is e = no_close c is (first_is c 41 _ _ e)
field_begins zero (Class name) more rest is e = unlike 76 41 refl (first_is 76 41 _ _ e)
field_begins (suc n) item more rest is e = unlike 91 41 refl (first_is 91 41 _ _ e)

-- what follows `()` is the result
none_before : (ts : List FieldType) (back text : List ℕ) → AllByRecursion IsFieldType ts → flat_map spell_field ts ++ 41 ∷ back ≡ 41 ∷ text → back ≡ text
none_before [] back text are e = cc
none_before (t ∷ ts) back text are e =
    absurd (field_begins t.dims t.item (flat_map spell_field ts ++ 41 ∷ back) text are.0.1 (sym (append_assoc (spell_field t) (flat_map spell_field ts) (41 ∷ back)) ∙ ap (λ (l : List ℕ). l ++ 41 ∷ back) (sym (flat_map-cons spell_field t ts)) ∙ e))

same_text : (p q : List ℕ) → Decides (pointwise nat_eq p q) (p ≡ q)
same_text p q = slice_eq-Decides Decides-eqb p q (pointwise nat_eq p q) refl

returned_is : (text : List ℕ) (r : Option FieldType) → IsReturn r → spell_return r ≡ text → is_void text ≡ false → IsFieldDescriptor text
returned_is text None is e other = absurd (not_from_Decides (is_void text) (same_text text (86 ∷ [])) other (sym e))
returned_is text (Some t) is e other = (t, is, e)

pub field_descriptor_found : (text : List ℕ) → is_field_descriptor text ≡ true → IsFieldDescriptor text
field_descriptor_found text e =
    let both = and_parts (not (is_void text)) (is_descriptor (40 ∷ 41 ∷ text)) e in
    let m = descriptor_found (40 ∷ 41 ∷ text) both.1 in
    let back = none_before m.0.parameters (spell_return m.0.returned) text m.1.parameters (rest_is m.2) in
    returned_is text m.0.returned m.1.returned back (not_true (is_void text) both.0)
  where
    rest_is : {xs ys : List ℕ} → 40 ∷ xs ≡ 40 ∷ ys → xs ≡ ys
    rest_is e = cc

    not_true : (b : Bool) → not b ≡ true → b ≡ false
    not_true true e = absurd cc
    not_true false e = refl

-- no field descriptor begins with `V`
not_void : (dims : ℕ) (item : Item) (rest : List ℕ) → IsItem item → brackets dims ++ spell_item item ≡ 86 ∷ rest → ⊥
not_void zero (Letter c) rest is e = let bad : is_letter 86 ≡ true = subst (λ (n : ℕ). is_letter n ≡ true) (first_is c 86 _ _ e) is in cc
not_void zero (Class name) rest is e = unlike 76 86 refl (first_is 76 86 _ _ e)
not_void (suc n) item rest is e = unlike 91 86 refl (first_is 91 86 _ _ e)

is_false : (b : Bool) → (b ≡ true → ⊥) → b ≡ false
is_false true h = absurd (h refl)
is_false false h = refl

pub field_descriptor_only : (text : List ℕ) → IsFieldDescriptor text → is_field_descriptor text ≡ true
field_descriptor_only text (t, is, e) =
    let type : MethodType = record { parameters = []; returned = Some t } in
    let method = descriptor_only (40 ∷ 41 ∷ text) (type, record { parameters = tt; few = omega arith; returned = is }, ap (λ (l : List ℕ). 40 ∷ 41 ∷ l) e) in
    let void : is_void text ≡ false = is_false (is_void text) (λ v. not_void t.dims t.item [] is.1 (e ∙ (same_text text (86 ∷ [])).0 v)) in
    rw (void, method) refl

-- ---- reading a field descriptor

abbrev Begins : List ℕ → Type 0
Begins text = begins_with_void text ≡ false

result_is : (text : List ℕ) (r : Option FieldType) → IsReturn r → spell_return r ≡ text → Begins text → IsFieldDescriptor text
result_is text None is e begun = absurd (let bad : true ≡ false = subst (λ (x : List ℕ). begins_with_void x ≡ false) (sym e) begun in cc)
result_is text (Some t) is e begun = (t, is, e)

field_from : (text : List ℕ) (span : DescSpan) → Begins text → run (length text) (Some (Returned no_parameters)) text ≡ Some (Done span) → IsFieldDescriptor text
field_from text span begun e =
    let back : Back span no_parameters text = found (length text) span text (Returned no_parameters) (omega arith) tt e in
    result_is text back.r back.is back.spelled begun

field_leads : (text : List ℕ) → IsFieldDescriptor text → (span : DescSpan) × (run (length text) (Some (Returned no_parameters)) text ≡ Some (Done span))
field_leads text is = (no_parameters, ap (run (length text) (Some (Returned no_parameters))) (sym is.2) ∙ run_return (length text) no_parameters (Some is.0) is.1)

field_begins_on : (n : ℕ) (pre more : List ℕ) (s : DescState) → run n (Some (Returned no_parameters)) pre ≡ Some s → Begins (pre ++ more) → Begins (pre ++ finish s)
field_begins_on n [] more s led begun = let same : Returned no_parameters ≡ s = cc in subst (λ (t : DescState). Begins (finish t)) same refl
field_begins_on n (b ∷ pre) more s led begun = begun

field_kind : IsReadFrom IsFieldDescriptor Begins (Returned no_parameters)
field_kind = record { fine = tt; is = field_from; leads = field_leads; begins = field_begins_on }

void_begins_none : (text : List ℕ) → begins_with_void text ≡ true → IsFieldDescriptor text → ⊥
void_begins_none [] v is = cc
void_begins_none (b ∷ bs) v is = not_void is.0.dims is.0.item bs is.1.1 (is.2 ∙ ap (λ (x : ℕ). x ∷ bs) (eqb-true b 86 v))

-- a text that begins with `V` breaks before its first byte
void_breaks : (text : List ℕ) → begins_with_void text ≡ true → BreaksAt IsFieldDescriptor text 0
void_breaks [] v = absurd cc
void_breaks (b ∷ bs) v = record {
  within = omega arith;
  front = record { rest = 73 ∷ []; whole = (record { dims = 0; item = Letter 73 }, (omega arith, refl), refl) };
  longest = longest;
  none = void_begins_none (b ∷ bs) v;
}
  where
    longest : (k : ℕ) → 0 < k → k ≤ length (b ∷ bs) → IsFront IsFieldDescriptor (b ∷ bs) k → ⊥
    longest zero lt within f = omega arith
    longest (suc j) lt within f = void_begins_none (b ∷ (take j bs ++ f.rest)) v f.whole

abbrev IsRight : List ℕ → Result (Unit {0}) DescFault → Type 0
IsRight text r = MatchResult r (λ u. IsFieldDescriptor text) (FieldFaultAt text)

field_told : (text : List ℕ) (r : Result DescSpan DescFault) → Begins text → Scanned IsFieldDescriptor Begins (Returned no_parameters) field_kind text r → IsRight text (without_span r)
field_told text (Ok span) begun right = field_from text span begun right
field_told text (Err fault) begun right = right

field_right : (text : List ℕ) → IsRight text (field_descriptor_of text)
field_right text = by (begins_with_void text) refl
  where
    by : (v : Bool) → begins_with_void text ≡ v → IsRight text (if v then Err (fault_at 0) else without_span (result_of_scan (length text) (scan_from 0 (Returned no_parameters) text)))
    by true e = (0, void_breaks text e, refl)
    by false e = field_told text (result_of_scan (length text) (scan_from 0 (Returned no_parameters) text)) e (scanned IsFieldDescriptor Begins (Returned no_parameters) field_kind text e)

pub field_found_by : (text : List ℕ) (r : Result (Unit {0}) DescFault) → r ≡ field_descriptor_of text → IsOk r → IsFieldDescriptor text
field_found_by text (Ok u) e ok = subst (IsRight text) (sym e) (field_right text)
field_found_by text (Err fault) e ok = absurd cc

pub field_breaks_by : (text : List ℕ) (r : Result (Unit {0}) DescFault) → r ≡ field_descriptor_of text → IfErr r (λ fault. FieldFaultAt text fault)
field_breaks_by text (Ok u) e = tt
field_breaks_by text (Err fault) e = subst (IsRight text) (sym e) (field_right text)

pub field_test_by : (text : List ℕ) (r : Result (Unit {0}) DescFault) → r ≡ field_descriptor_of text → is_ok r ≡ is_field_descriptor text
field_test_by text r e = by r (subst (IsRight text) (sym e) (field_right text))
  where
    by : (r : Result (Unit {0}) DescFault) → IsRight text r → is_ok r ≡ is_field_descriptor text
    by (Ok u) right = sym (field_descriptor_only text right)
    by (Err fault) right = sym (is_false (is_field_descriptor text) (λ v. right.1.none (field_descriptor_found text v)))
