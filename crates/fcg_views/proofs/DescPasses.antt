-- A whole class leads to the state that its bytes lead to.
use Rattle.std.proofs.Common.{◌≡◌, ℕ, suc, ◌+◌, ◌-◌, ◌<◌, Bool, true, false, leb, List, [], ◌∷◌, ◌++◌, length, take, drop, get_or, refl, sym, ap, ◌∙◌, arith, length-drop}
use Rattle.std.specs.Prelude.{Some, None, ◌==◌, nat_le}
use Rattle.std.specs.List.{position}
use Rattle.std.proofs.lemmas.Bool.Decides.{nat_tests}
use Rattle.std.proofs.lemmas.List.{drop-drop, drop_more, take_rest, length-take}
use Rattle.std.proofs.lemmas.List.Quantifiers.{position-Some}
use Rattle.fcg_views.specs.declared.descriptor.DescSpan.{DescSpan}
use Rattle.fcg_views.specs.declared.descriptor.DescState.{DescState}
use Rattle.fcg_views.specs.declared.descriptor.DescState.TheVariants.{Start, Parameters, Array, Name, Returned, ReturnedArray, ReturnedName, Done}
use Rattle.fcg_views.specs.Internal.DescriptorBounds.{IsSmall}
use Rattle.fcg_views.specs.DescriptorSteps.{taken, step, scan_from}
use Rattle.fcg_views.specs.Internal.ClassSteps.{class_step, LeadsTo}
use Rattle.fcg_views.proofs.PartLaws.{Without, at_place, parted_at, parted_found}

-- a state in the name of a class, and the one after its `;`
record IsNamed (s t : DescState) : Type 0 where
  stays : (at b : ℕ) → (b == 59) ≡ false → step s at b ≡ Some s
  closes : (at : ℕ) → step s at 59 ≡ Some t

-- a state before a class, through the one after its `L`
record IsBefore (s begun named t : DescState) : Type 0 where
  begins : (at : ℕ) → step s at 76 ≡ Some begun
  fills : (at b : ℕ) → (b == 59) ≡ false → step begun at b ≡ Some named
  goes_on : IsNamed named t

-- the bytes of a name from its second on, and its `;`
over_name : (s t : DescState) (at : ℕ) (name rest : List ℕ) → IsNamed s t → Without 59 name → scan_from at s (name ++ 59 ∷ rest) ≡ scan_from (at + length name + 1) t rest
over_name s t at [] rest is none = rw (is.closes at) (ap (λ (n : ℕ). scan_from n t rest) (omega arith))
over_name s t at (b ∷ name) rest is none =
    let place : at + 1 + length name + 1 ≡ at + suc (length name) + 1 = omega arith in
    rw (is.stays at b none.0) (over_name s t (at + 1) name rest is none.1 ∙ ap (λ (n : ℕ). scan_from n t rest) place)

over_class : (s begun named t : DescState) (at : ℕ) (name rest : List ℕ) → IsBefore s begun named t → 0 < length name → Without 59 name → scan_from at s (76 ∷ name ++ 59 ∷ rest) ≡ scan_from (at + length name + 2) t rest
over_class s begun named t at [] rest is some none = absurd (omega arith)
over_class s begun named t at (b ∷ name) rest is some none =
    let place : at + 1 + 1 + length name + 1 ≡ at + suc (length name) + 2 = omega arith in
    rw (is.begins at, is.fills (at + 1) b none.0) (over_name named t (at + 1 + 1) name rest is.goes_on none.1 ∙ ap (λ (n : ℕ). scan_from n t rest) place)

-- a class is a parameter only where a unit is left
has_room : (c u : ℕ) (t : DescState) → taken c u 1 ≡ Some t → leb 255 u ≡ false
has_room c u t e = by (nat_le (u + 1) 255) refl
  where
    by : (fits : Bool) → nat_le (u + 1) 255 ≡ fits → leb 255 u ≡ false
    by true is = grind (arith, nat_tests)
    by false is = absurd (let none : None ≡ Some t = sym (rw is refl) ∙ e in cc)

before_parameter : (c u : ℕ) (s t : DescState) → ((at : ℕ) → step s at 76 ≡ Some (Name c u false)) → taken c u 1 ≡ Some t → IsBefore s (Name c u false) (Name c u true) t
before_parameter c u s t begins e = record {
  begins = begins;
  fills = λ at b other. rw other refl;
  goes_on = record { stays = λ at b other. rw other refl; closes = λ at. e };
}

before_result : (span : DescSpan) (s t : DescState) → ((at : ℕ) → step s at 76 ≡ Some (ReturnedName span false)) → Some (Done span) ≡ Some t → IsBefore s (ReturnedName span false) (ReturnedName span true) t
before_result span s t begins e = record {
  begins = begins;
  fills = λ at b other. rw other refl;
  goes_on = record { stays = λ at b other. rw other refl; closes = λ at. e };
}

class_passes : (s t : DescState) (at : ℕ) (name rest : List ℕ) → class_step s ≡ Some t → 0 < length name → Without 59 name → scan_from at s (76 ∷ name ++ 59 ∷ rest) ≡ scan_from (at + length name + 2) t rest
class_passes Start t at name rest e some none = absurd cc
class_passes (Parameters c u) t at name rest e some none =
    let room = has_room c u t e in
    over_class (Parameters c u) (Name c u false) (Name c u true) t at name rest (before_parameter c u (Parameters c u) t (λ k. rw room refl) e) some none
class_passes (Array c u d) t at name rest e some none =
    over_class (Array c u d) (Name c u false) (Name c u true) t at name rest (before_parameter c u (Array c u d) t (λ k. refl) e) some none
class_passes (Name c u filled) t at name rest e some none = absurd cc
class_passes (Returned span) t at name rest e some none =
    over_class (Returned span) (ReturnedName span false) (ReturnedName span true) t at name rest (before_result span (Returned span) t (λ k. refl) e) some none
class_passes (ReturnedArray span d) t at name rest e some none =
    over_class (ReturnedArray span d) (ReturnedName span false) (ReturnedName span true) t at name rest (before_result span (ReturnedArray span d) t (λ k. refl) e) some none
class_passes (ReturnedName span filled) t at name rest e some none = absurd cc
class_passes (Done span) t at name rest e some none = absurd cc

-- where the name after an `L` ends
pub class_leads : (text : List ℕ) (s t : DescState) (at size : ℕ) → at < length text → get_or text at 0 ≡ 76 → Some t ≡ class_step s → IsSmall t → Some size ≡ position (λ b. b == 59) (take (length text - (at + 1)) (drop (at + 1) text)) → 0 < size → LeadsTo text s at (t, at + size + 2)
class_leads text s t at size inside first next small found some =
    let name : List ℕ = take size (drop (at + 1) text) in
    let after : List ℕ = drop 1 (drop size (drop (at + 1) text)) in
    let here : position (λ b. b == 59) (drop (at + 1) text) ≡ Some size = ap (position (λ b. b == 59)) (sym (take_rest text (at + 1))) ∙ sym found in
    let within : size < length (drop (at + 1) text) = (position-Some (λ b. b == 59) (drop (at + 1) text) size 0 here).0 in
    let cut = parted_found 59 (drop (at + 1) text) (name, after) (parted_at 59 (drop (at + 1) text) ∙ ap (at_place (drop (at + 1) text)) here) in
    let whole : drop at text ≡ 76 ∷ name ++ 59 ∷ after = drop_more text at 0 inside ∙ ap (λ (b : ℕ). b ∷ drop (at + 1) text) first ∙ ap (λ (x : List ℕ). 76 ∷ x) cut.whole in
    let long : length name ≡ size = omega (arith, length-take size (drop (at + 1) text)) in
    let rest : after ≡ drop (at + size + 2) text = ap (drop 1) (drop-drop size (at + 1) text) ∙ drop-drop 1 (at + 1 + size) text ∙ ap (λ (n : ℕ). drop n text) (omega arith) in
    let passed : scan_from at s (76 ∷ name ++ 59 ∷ after) ≡ scan_from (at + length name + 2) t after = class_passes s t at name after (sym next) (omega arith) cut.none in
    record {
      same = ap (scan_from at s) whole ∙ passed ∙ ap (λ (n : ℕ). scan_from (at + n + 2) t after) long ∙ ap (scan_from (at + size + 2) t) rest;
      small = small;
      later = omega arith;
      within = omega (arith, length-drop (at + 1) text);
    }
