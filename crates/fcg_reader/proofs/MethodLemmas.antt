-- The set of signatures beside the list of methods.
use Rattle.std.proofs.Common.{◌≡◌, ◌⊎◌, inl, inr, ℕ, List, [], ◌∷◌, ◌++◌, Bool, true, false, cond, nat_eq, ◌&&◌, ◌||◌, ◌-◌, ◌+◌, ◌<◌, ◌≤◌, length, refl, sym, ap, subst, ◌∙◌}
use Rattle.std.specs.Prelude.{codes, Result, Ok, Err, Option, Some, None}
use Rattle.std.specs.List.{list_any}
use Rattle.std.specs.Ordering.{is_eq, nat_cmp}
use Rattle.std.specs.Cmp.{unsigned_ties}
use Rattle.std.specs.Cmp.Lexicographic.{pointwise}
use Rattle.std.specs.BTreeSet as tree
use Rattle.std.specs.BTreeSet.{BTreeSet}
use Rattle.std.proofs.lemmas.Bool.Decides.{Decides-eqb}
use Rattle.std.proofs.lemmas.Option.{none-some}
use Rattle.std.proofs.lemmas.List.{map-append}
use Rattle.std.proofs.lemmas.List.Folds.{list_any-append}
use Rattle.std.proofs.lemmas.List.Sums.{sum_by_push}
use Rattle.fcg_views.specs.declared.view.Method.{Method}
use Rattle.fcg_views.specs.DescriptorSteps.{is_descriptor}
use Rattle.fcg_views.specs.Valid.{site_count}
use Rattle.fcg_grammar.specs.declared.error.ReadError.{ReadError}
use Rattle.fcg_grammar.specs.declared.error.ReadError.TheVariants as errors
use Rattle.fcg_grammar.specs.Reading.{Fails}
use Rattle.fcg_grammar.specs.Rows.{rows}
use Rattle.fcg_grammar.proofs.RowLemmas.{with_front, rows_go_on}
use Rattle.fcg_classfile.specs.declared.fault.ClassFault.{ClassFault}
use Rattle.fcg_classfile.specs.declared.fault.ClassRule.TheVariants.{DoubleMethod, DoubleCode}
use Rattle.fcg_classfile.specs.Sites.{Found}
use Rattle.fcg_classfile.specs.Breaks.Fault.{fault}
use Rattle.fcg_classfile.specs.Breaks.Pool.{Entries}
use Rattle.fcg_classfile.specs.Breaks.Attributes.{AttributesBefore, ones_at}
use Rattle.fcg_classfile.specs.Breaks.Code.{code_at}
use Rattle.fcg_reader.specs.declared.rows.MethodRow.{MethodRow}
use Rattle.fcg_reader.specs.Internal.Calls.{all_unfinished_in}
use Rattle.fcg_classfile.specs.Breaks.Members.{Calls, Declared, Unfinished, MethodsBefore, unfinished, declared_at, method_at}
use Rattle.fcg_reader.specs.Internal.Members.{methods_before, GivesNext}
use Rattle.fcg_classfile.proofs.WordLaws.{same_text}
use Rattle.fcg_reader.proofs.FirstLemmas.{same_first, one_text, at_bool, both_equal}
use Rattle.fcg_reader.specs.Internal.FirstIndexes.{Known, first_in, AreKnown, Grows, AreAsked}
use Rattle.fcg_reader.specs.Internal.Methods.{Signature, signature_cmp, is_signature, methods_of, has_both, AreSignatures, AreOfTexts, AllOfTexts, IsTable}

-- ---- the map of the first indexes grows

at_option : (o : Option ℕ) → (o ≡ None) ⊎ ((i : ℕ) × (o ≡ Some i))
at_option None = inl refl
at_option (Some i) = inr (i, refl)

-- an index that is new to the map is in no signature
no_text : (pool : Entries) (old new : Known) → AreKnown pool new → Grows old new → (i : ℕ) (text was : List ℕ) → first_in old text ≡ None → first_in new text ≡ Some i → first_in old was ≡ Some i → ⊥
no_text pool old new are grows i text was none is before =
    let same = one_text pool new are i was text (grows was i before) is in
    none-some i (sym none ∙ ap (λ (t : List ℕ). first_in old t) (sym same) ∙ before)

-- two texts have a signature where they had one before
both_grown : (pool : Entries) (old new : Known) (signatures : BTreeSet Signature) → AreKnown pool new → Grows old new → AllOfTexts old signatures → (name desc : List ℕ)
    → has_both signatures (first_in new name) (first_in new desc) ≡ has_both signatures (first_in old name) (first_in old desc)
both_grown pool old new signatures are grows of name desc = split (at_option (first_in old name)) (at_option (first_in old desc))
  where
    fresh : (x y : Option ℕ) → first_in new name ≡ x → first_in new desc ≡ y → ((first_in old name ≡ None) ⊎ (first_in old desc ≡ None)) → has_both signatures x y ≡ false
    fresh None y is_x is_y none = refl
    fresh (Some i) None is_x is_y none = refl
    fresh (Some i) (Some j) is_x is_y none = there (at_bool (tree.contains signature_cmp signatures (i, j))) none
      where
        there : (tree.contains signature_cmp signatures (i, j) ≡ true) ⊎ (tree.contains signature_cmp signatures (i, j) ≡ false) → ((first_in old name ≡ None) ⊎ (first_in old desc ≡ None)) → tree.contains signature_cmp signatures (i, j) ≡ false
        there (inr other) x = other
        there (inl has) (inl lost) = let texts = of i j has in absurd (no_text pool old new are grows i name texts.name lost is_x texts.first_name)
        there (inl has) (inr lost) = let texts = of i j has in absurd (no_text pool old new are grows j desc texts.desc lost is_y texts.first_desc)

    split : ((first_in old name ≡ None) ⊎ ((i : ℕ) × (first_in old name ≡ Some i))) → ((first_in old desc ≡ None) ⊎ ((j : ℕ) × (first_in old desc ≡ Some j)))
        → has_both signatures (first_in new name) (first_in new desc) ≡ has_both signatures (first_in old name) (first_in old desc)
    split (inl none) d = fresh (first_in new name) (first_in new desc) refl refl (inl none) ∙ sym (rw none refl)
    split (inr (i, is)) (inl none) = fresh (first_in new name) (first_in new desc) refl refl (inr none) ∙ sym (rw (is, none) refl)
    split (inr (i, is)) (inr (j, js)) = rw (is, js, grows name i is, grows desc j js) refl

pub AreSignatures-grown : (pool : Entries) (old new : Known) (signatures : BTreeSet Signature) (methods : List Method) → AreKnown pool new → Grows old new → AllOfTexts old signatures → AreSignatures old signatures methods → AreSignatures new signatures methods
AreSignatures-grown pool old new signatures methods are grows of before name desc = both_grown pool old new signatures are grows of name desc ∙ before name desc

pub AllOfTexts-grown : (old new : Known) (signatures : BTreeSet Signature) → Grows old new → AllOfTexts old signatures → AllOfTexts new signatures
AllOfTexts-grown old new signatures grows of i j has =
    let texts = of i j has in
    record { name = texts.name; desc = texts.desc; first_name = grows texts.name i texts.first_name; first_desc = grows texts.desc j texts.first_desc }

-- ---- one more method, and its signature

-- the set has this signature now
abbrev pub Signs : BTreeSet Signature → BTreeSet Signature → Signature → Type 0
Signs old new signature = (s : Signature) → tree.contains signature_cmp new s ≡ cond (is_eq (signature_cmp signature s)) true (tree.contains signature_cmp old s)

-- two signatures compare equal where the method of the first has the second's texts
same_signature : (pool : Entries) (known : Known) → AreKnown pool known → (i j x y : ℕ) (m : Method) (name desc : List ℕ) → first_in known m.name ≡ Some i → first_in known m.desc ≡ Some j → first_in known name ≡ Some x → first_in known desc ≡ Some y
    → is_eq (signature_cmp (i, j) (x, y)) ≡ is_signature name desc m
same_signature pool known are i j x y m name desc at_i at_j at_x at_y =
    both_equal (nat_cmp i x) (nat_cmp j y)
    ∙ rw (same_first pool known are i x m.name name at_i at_x, same_first pool known are j y m.desc desc at_j at_y) refl

either : (a b : Bool) → cond a true b ≡ (b || (a || false))
either true true = refl
either true false = refl
either false true = refl
either false false = refl

and_false : (a b : Bool) → b ≡ false → (a && b) ≡ false
and_false true b e = e
and_false false b e = refl

-- a text without an index is not one that has one
not_same : (known : Known) (i : ℕ) (p q : List ℕ) → first_in known p ≡ Some i → first_in known q ≡ None → pointwise nat_eq p q ≡ false
not_same known i p q is none = split (at_bool (pointwise nat_eq p q))
  where
    split : (pointwise nat_eq p q ≡ true) ⊎ (pointwise nat_eq p q ≡ false) → pointwise nat_eq p q ≡ false
    split (inl same) = absurd (none-some i (sym none ∙ ap (λ (t : List ℕ). first_in known t) (sym ((same_text p q).0 same)) ∙ is))
    split (inr other) = other

pub AreSignatures-push : (pool : Entries) (known : Known) → AreKnown pool known → (old new : BTreeSet Signature) (methods : List Method) (i j : ℕ) (m : Method) → first_in known m.name ≡ Some i → first_in known m.desc ≡ Some j → AreSignatures known old methods
    → Signs old new (i, j) → AreSignatures known new (methods ++ m ∷ [])
AreSignatures-push pool known are old new methods i j m at_i at_j before updates name desc =
    split (first_in known name) (first_in known desc) refl refl (before name desc) ∙ sym (list_any-append (is_signature name desc) methods (m ∷ []))
  where
    split : (a b : Option ℕ) → first_in known name ≡ a → first_in known desc ≡ b → has_both old a b ≡ list_any (is_signature name desc) methods → has_both new a b ≡ (list_any (is_signature name desc) methods || (is_signature name desc m || false))
    split None b is_a is_b was = rw (← was, not_same known i m.name name at_i is_a) refl
    split (Some x) None is_a is_b was = rw (← was, and_false (pointwise nat_eq m.name name) (pointwise nat_eq m.desc desc) (not_same known j m.desc desc at_j is_b)) refl
    split (Some x) (Some y) is_a is_b was =
        updates (x, y) ∙ rw (same_signature pool known are i j x y m name desc at_i at_j is_a is_b, was) (either (is_signature name desc m) (list_any (is_signature name desc) methods))

and_true : (a b : Bool) → (a && b) ≡ true → (a ≡ true) × (b ≡ true)
and_true true b e = (refl, e)
and_true false b e = absurd cc

pub AllOfTexts-push : (known : Known) (old new : BTreeSet Signature) (i j : ℕ) (name desc : List ℕ) → first_in known name ≡ Some i → first_in known desc ≡ Some j → AllOfTexts known old → Signs old new (i, j) → AllOfTexts known new
AllOfTexts-push known old new i j name desc at_i at_j of updates x y has = split (at_bool (is_eq (signature_cmp (i, j) (x, y)))) (sym (updates (x, y)) ∙ has)
  where
    split : (is_eq (signature_cmp (i, j) (x, y)) ≡ true) ⊎ (is_eq (signature_cmp (i, j) (x, y)) ≡ false) → cond (is_eq (signature_cmp (i, j) (x, y))) true (tree.contains signature_cmp old (x, y)) ≡ true → AreOfTexts known x y
    split (inr other) e = of x y (rw other at e)
    split (inl same) e =
        let both = and_true (is_eq (nat_cmp i x)) (is_eq (nat_cmp j y)) (sym (both_equal (nat_cmp i x) (nat_cmp j y)) ∙ same) in
        let first : i ≡ x = (Decides-eqb i x).0 (unsigned_ties i x ∙ both.0) in
        let second : j ≡ y = (Decides-eqb j y).0 (unsigned_ties j y ∙ both.1) in
        record { name = name; desc = desc; first_name = at_i ∙ ap Some first; first_desc = at_j ∙ ap Some second }

-- two texts that both have an index
pub signed : (known : Known) (signatures : BTreeSet Signature) (methods : List Method) (i j : ℕ) (name desc : List ℕ) → first_in known name ≡ Some i → first_in known desc ≡ Some j → AreSignatures known signatures methods → tree.contains signature_cmp signatures (i, j) ≡ list_any (is_signature name desc) methods
signed known signatures methods i j name desc at_i at_j are =
    sym (ap (λ (a : Option ℕ). has_both signatures a (first_in known desc)) at_i ∙ ap (λ (b : Option ℕ). has_both signatures (Some i) b) at_j) ∙ are name desc

-- ---- the table

pub IsTable-grown : (methods : List Unfinished) (was pool : Entries) (old new : Known) (before firsts : List ℕ) (signatures : BTreeSet Signature) (sites : ℕ) → AreAsked pool new firsts → Grows old new → IsTable methods was old before signatures sites → IsTable methods pool new firsts signatures sites
IsTable-grown methods was pool old new before firsts signatures sites asked grows table = record {
  asked = asked;
  signatures_are = AreSignatures-grown pool old new signatures (methods_of methods) asked.known_are grows table.of_texts table.signatures_are;
  of_texts = AllOfTexts-grown old new signatures grows table.of_texts;
  counted = table.counted;
  few = table.few;
}

-- the same where the methods are rows
pub IsTable-rows : (methods : List (MethodRow × Calls)) (was pool : Entries) (old new : Known) (before firsts : List ℕ) (signatures : BTreeSet Signature) (sites : ℕ) → pool ≡ was → AreAsked pool new firsts → Grows old new → IsTable (all_unfinished_in was methods) was old before signatures sites → IsTable (all_unfinished_in pool methods) pool new firsts signatures sites
IsTable-rows methods was pool old new before firsts signatures sites same asked grows table =
    subst (λ (p : Entries). IsTable (all_unfinished_in p methods) pool new firsts signatures sites) (sym same) (IsTable-grown (all_unfinished_in was methods) was pool old new before firsts signatures sites asked grows table)

-- The set is as it was.
pub IsTable-same : (methods : List Unfinished) (pool : Entries) (known : Known) (firsts : List ℕ) (old new : BTreeSet Signature) (sites : ℕ) → ((s : Signature) → tree.contains signature_cmp new s ≡ tree.contains signature_cmp old s) → IsTable methods pool known firsts old sites → IsTable methods pool known firsts new sites
IsTable-same methods pool known firsts old new sites same table = record {
  asked = table.asked;
  signatures_are = λ name desc. both_same (first_in known name) (first_in known desc) ∙ table.signatures_are name desc;
  of_texts = λ i j has. table.of_texts i j (sym (same (i, j)) ∙ has);
  counted = table.counted;
  few = table.few;
}
  where
    both_same : (a b : Option ℕ) → has_both new a b ≡ has_both old a b
    both_same None b = refl
    both_same (Some i) None = refl
    both_same (Some i) (Some j) = same (i, j)

-- one more method, and its sites
pub site_count-push : (sites n : ℕ) (methods : List Method) (m : Method) → sites ≡ site_count methods → n ≡ length m.sites → sites + n ≡ site_count (methods ++ m ∷ [])
site_count-push sites n methods m counted size = rw (counted, size) (sym (sum_by_push (λ (x : Method). length x.sites) methods m))

pub site_count-few : (sites n : ℕ) (methods before : List Method) → sites ≡ site_count methods → site_count methods ≡ site_count before → site_count before + n ≤ 1000000 → sites + n ≤ 1000000
site_count-few sites n methods before counted same few = rw (counted, same) few

-- ---- methods without their calls

pub methods_of-push : (methods : List Unfinished) (m : Unfinished) → methods_of (methods ++ m ∷ []) ≡ methods_of methods ++ m.0 ∷ []
methods_of-push methods m = map-append (λ (x : Unfinished). x.0) methods (m ∷ [])

-- ---- a method

-- its attributes, where so many sites of the class are before it
abbrev pub attributes_of : Entries → ℕ → ℕ → Result (AttributesBefore Found) ClassFault
attributes_of pool count at = ones_at (codes "Code") DoubleCode (code_at count) pool at

-- an earlier one is alike
pub method_at-doubled : (pool : Entries) (k at : ℕ) (methods : List Unfinished) (d : Declared) → declared_at pool is_descriptor at ≡ Ok d → list_any (is_signature d.name d.desc) (methods_of methods) ≡ true → method_at pool k (methods_before at methods) ≡ Err (fault at 0 DoubleMethod)
unfolding method_at
method_at-doubled pool k at methods d is doubled = rw (is, doubled) refl

-- Its attributes are broken, or there was no memory for them.
pub method_at-broken : (pool : Entries) (k at : ℕ) (methods : List Unfinished) (d : Declared) (e : ReadError ClassFault) → declared_at pool is_descriptor at ≡ Ok d → list_any (is_signature d.name d.desc) (methods_of methods) ≡ false
    → Fails e (attributes_of pool (site_count (methods_of methods)) (at + 6)) → Fails e (method_at pool k (methods_before at methods))
unfolding method_at
method_at-broken pool k at methods d errors.NoMemory is fresh broken = tt
method_at-broken pool k at methods d (errors.Fault f) is fresh broken = rw (is, fresh, broken) refl

pub method_at-read : (pool : Entries) (k at : ℕ) (methods : List Unfinished) (d : Declared) (read : AttributesBefore Found) → declared_at pool is_descriptor at ≡ Ok d → list_any (is_signature d.name d.desc) (methods_of methods) ≡ false
    → attributes_of pool (site_count (methods_of methods)) (at + 6) ≡ Ok read → method_at pool k (methods_before at methods) ≡ Ok (unfinished d read.read, methods_before read.at (methods ++ unfinished d read.read ∷ []))
unfolding method_at
method_at-read pool k at methods d read is fresh attributes = rw (is, fresh, attributes, methods_of-push methods (unfinished d read.read)) refl

-- ---- the rows of methods, one after the other

-- a row more
pub row_more : (pool now : Entries) (count k place after : ℕ) (old new : List Unfinished) (total : Result (List Unfinished × MethodsBefore) ClassFault) → now ≡ pool → k < count
    → GivesNext (Ok after) old new (method_at pool k (methods_before place old)) → with_front old (rows (method_at pool) (count - k) k (methods_before place old)) ≡ total
    → with_front new (rows (method_at now) (count - (k + 1)) (k + 1) (methods_before after new)) ≡ total
row_more pool now count k place after old new total same lt given so_far =
    let next = rows_go_on (method_at pool) old count k (methods_before place old) given.0 (methods_before after new) total lt given.2 so_far in
    let here = subst (λ (p : Entries). with_front (old ++ given.0 ∷ []) (rows (method_at p) (count - (k + 1)) (k + 1) (methods_before after new)) ≡ total) (sym same) next in
    subst (λ (ms : List Unfinished). with_front ms (rows (method_at now) (count - (k + 1)) (k + 1) (methods_before after new)) ≡ total) (sym given.1) here
