-- A type that is read with its marks, item by item.
use Rattle.std.proofs.Common.{◌≡◌, ℕ, ◌+◌, Bool, List, [], ◌∷◌, ◌++◌, length, set, refl, sym, ap, ◌∙◌}
use Rattle.std.specs.Prelude.{Result, Ok, Err, Option, true}
use Rattle.std.specs.List.{flat_map}
use Rattle.std.proofs.lemmas.List.Concat.{flat_map-cons}
use Rattle.fcg_grammar.specs.declared.error.ReadError.{ReadError}
use Rattle.fcg_grammar.specs.declared.error.ReadError.TheVariants as errors
use Rattle.fcg_grammar.specs.Reading.{◌>>=◌, Fails, seen}
use Rattle.fcg_grammar.specs.Rows.{rows}
use Rattle.fcg_partial.specs.declared.fault.RecordFault.{RecordFault}
use Rattle.fcg_partial.specs.Fault.{u2_at}
use Rattle.fcg_partial.specs.Graph.{StoredField, StoredMethod, StoredType, super_uses, method_uses}
use Rattle.fcg_partial.specs.Internal.UsedNumbers.{marked, Marked, used_marks, earlier, one_use, super_read, interfaces_read, interfaces_uses, fields_read, fields_uses, methods_read, PassesMethods, PassesType}
use Rattle.fcg_partial.specs.Reading.{Earlier, index_at, super_at, method_at, type_at}
use Rattle.fcg_partial.proofs.MarkLaws.{length_marked, marked_append}
use Rattle.fcg_partial.proofs.SeenLaws.{seen_ok, seen_err}

pub marked_long : {X : Type 0} {uses : X → List ℕ} {read : Result (X × ℕ) RecordFault} {old : List Bool} {after : ℕ} {new : List Bool} → Marked uses read old after new → length new ≡ length old
marked_long {X} {uses} {read} {old} {after} {new} m = ap length m.marks ∙ length_marked old (uses m.value)

flat_ones : (xs : List ℕ) → flat_map one_use xs ≡ xs
flat_ones [] = refl
flat_ones (x ∷ xs) = flat_map-cons one_use x xs ∙ ap (λ (l : List ℕ). x ∷ l) (flat_ones xs)

marks_type : (old : List Bool) (name : ℕ) (s i f m : List ℕ) → marked (marked (marked (marked (set old name true) s) i) f) m ≡ marked old (name ∷ (s ++ (i ++ (f ++ m))))
unfolding marked
marks_type old name s i f m =
    sym (marked_append (set old name true) s (i ++ (f ++ m)) ∙ marked_append (marked (set old name true) s) i (f ++ m) ∙ marked_append (marked (marked (set old name true) s) i) f m)

module _ (bytes : List ℕ) (n r at name flags : ℕ) (super : Option ℕ) (interfaces : List ℕ) (fields : List StoredField) where
  abbrev type_of : List StoredMethod → StoredType
  type_of methods = record { name = name; flags = flags; superclass = super; interfaces = interfaces; fields = fields; methods = methods }

  abbrev made : Result (List StoredMethod × Earlier) RecordFault → Result (StoredType × ℕ) RecordFault
  made read = read >>= λ m. Ok (type_of m.0, m.1.at)

  abbrev seen_methods : Result (List StoredMethod × Earlier) RecordFault → Result (List StoredMethod × ℕ) RecordFault
  seen_methods read = seen (λ x. (x.0, x.1.at)) read

  made_fails : (e : ReadError RecordFault) (read : Result (List StoredMethod × Earlier) RecordFault) → Fails e (seen_methods read) → Fails e (made read)
  made_fails errors.NoMemory read h = tt
  made_fails (errors.Fault f) read h = ap made (seen_err _ read f h)

  made_ok : (methods : List StoredMethod) (after : ℕ) (read : Result (List StoredMethod × Earlier) RecordFault) → seen_methods read ≡ Ok (methods, after) → made read ≡ Ok (type_of methods, after)
  made_ok methods after read h =
      let m = seen_ok _ read (methods, after) h in
      ap made m.1 ∙ ap (λ (y : List StoredMethod × ℕ). Ok (type_of y.0, y.1)) m.2

module _ (bytes : List ℕ) (n r k at : ℕ) (old one two three four new refs refs_new : List Bool) (before now : List ℕ) (name flags after_super many after_interfaces more after_fields most : ℕ) where
  -- the items of a type one after the other, and then its methods or what stopped them
  pub type_passes : index_at bytes n at ≡ Ok name → one ≡ set old name true → u2_at bytes (at + 4) ≡ Ok flags
      → Marked super_uses (super_read bytes n (at + 4 + 2)) one after_super two → u2_at bytes after_super ≡ Ok many
      → Marked interfaces_uses (interfaces_read bytes n many (after_super + 2)) two after_interfaces three → u2_at bytes after_interfaces ≡ Ok more
      → Marked fields_uses (fields_read bytes n more (after_interfaces + 2)) three after_fields four → u2_at bytes after_fields ≡ Ok most
      → (result : Result ℕ (ReadError RecordFault)) → PassesMethods bytes n r (methods_read bytes n r most (after_fields + 2)) (used_marks four refs) (used_marks new refs_new) before now result
      → PassesType bytes n r (type_at bytes n r k at) (used_marks old refs) (used_marks new refs_new) before now result
  unfolding type_at
  type_passes name_is one_is flags_is super many_is interfaces more_is fields most_is result methods =
      let read = rows (method_at bytes n r) most 0 (earlier (after_fields + 2) [] 0) in
      let s = seen_ok (λ (o : Option ℕ). (o, at + 4 + 2 + 4)) (super_at bytes n (at + 4 + 2)) (super.value, after_super) super.read_is in
      let end : at + 4 + 2 + 4 ≡ after_super = ap (λ (y : Option ℕ × ℕ). y.1) s.2 in
      let super_is : super_at bytes n (at + 4 + 2) ≡ Ok super.value = s.1 ∙ ap (λ (y : Option ℕ × ℕ). Ok y.0) s.2 in
      let chain : type_at bytes n r k at ≡ made bytes n r at name flags super.value interfaces.value fields.value read = rw (name_is, flags_is, super_is, end, many_is, interfaces.read_is, more_is, fields.read_is, most_is) refl in
      by_result result chain methods
    where
      by_result : (result : Result ℕ (ReadError RecordFault)) → type_at bytes n r k at ≡ made bytes n r at name flags super.value interfaces.value fields.value (rows (method_at bytes n r) most 0 (earlier (after_fields + 2) [] 0))
          → PassesMethods bytes n r (methods_read bytes n r most (after_fields + 2)) (used_marks four refs) (used_marks new refs_new) before now result
          → PassesType bytes n r (type_at bytes n r k at) (used_marks old refs) (used_marks new refs_new) before now result
      by_result (Err e) chain methods = rw chain (made_fails bytes n r at name flags super.value interfaces.value fields.value e _ methods)
      by_result (Ok after) chain methods = record {
        type = type_of bytes n r at name flags super.value interfaces.value fields.value methods.methods;
        places = methods.places;
        read_is = chain ∙ made_ok bytes n r at name flags super.value interfaces.value fields.value methods.methods after _ methods.read_is;
        names = methods.names ∙ ap (λ (l : List Bool). marked l (flat_map method_uses methods.methods)) (fields.marks ∙ ap (λ (l : List Bool). marked l (fields_uses fields.value)) (interfaces.marks ∙ ap (λ (l : List Bool). marked l (interfaces_uses interfaces.value)) (super.marks ∙ ap (λ (l : List Bool). marked l (super_uses super.value)) one_is)))
            ∙ ap (λ (i : List ℕ). marked (marked (marked (marked (set old name true) (super_uses super.value)) i) (fields_uses fields.value)) (flat_map method_uses methods.methods)) (flat_ones interfaces.value)
            ∙ marks_type old name (super_uses super.value) interfaces.value (fields_uses fields.value) (flat_map method_uses methods.methods);
        refs = methods.refs;
        places_are = methods.places_are;
        places_read = methods.places_read;
      }
