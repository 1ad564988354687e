-- The class file that is laid out is spelled by the pieces that are written.
use Rattle.std.proofs.Common.{◌≡◌, ℕ, ◌+◌, List, [], ◌∷◌, ◌++◌, append_assoc, length, map, refl, sym, ap, ◌∙◌, arith}
use Rattle.std.specs.Prelude.{Option, Some}
use Rattle.std.specs.List.{concat, flat_map, AllByRecursion}
use Rattle.std.proofs.lemmas.List.{append-nil}
use Rattle.std.proofs.lemmas.List.Folds.{flat_map-map}
use Rattle.fcg_grammar.specs.Spell.{u2, u4}
use Rattle.fcg_views.specs.declared.view.View.{View}
use Rattle.fcg_classfile.specs.ClassFile.{Constant, constant, slots, attribute, member_info, spelling}
use Rattle.fcg_make.specs.declared.entry.Entry.{Entry}
use Rattle.fcg_make.specs.Steps.{method_rows}
use Rattle.fcg_make.specs.Needs.{rows_of, numbered_methods}
use Rattle.fcg_make.specs.Layout.{constant_of, type_index, super_index, field_of, method_of, class_attributes, file_by}
use Rattle.fcg_make.specs.Internal.Parts.{method_part, class_attributes_part, pool_part, types_part, members_part, file_part}
use Rattle.fcg_make.proofs.WriteLemmas.{length_map, length_numbered, flat_same, method_part_is, class_attributes_are}
use Rattle.fcg_make.proofs.HasLemmas.{IsTagged, slots_of}

pub slots_length : (pool es : List Entry) → AllByRecursion IsTagged es → length (slots (map (constant_of pool) es)) ≡ length es
slots_length pool es t =
    ap (λ (l : List (Option Constant)). length l) (slots_of pool es t) ∙ length_map (λ c. Some c) (map (constant_of pool) es) ∙ length_map (constant_of pool) es

-- a count and that many rows
counted : {X Y : Type 0} (row : Y → List ℕ) (f : X → Y) (xs : List X) → u2 (length xs) ++ flat_map (λ x. row (f x)) xs ≡ u2 (length (map f xs)) ++ flat_map row (map f xs)
counted row f xs = rw (length_map f xs, flat_map-map row f xs) refl

pool_spelled : (pool : List Entry) → AllByRecursion IsTagged pool → pool_part pool ≡ u4 0xcafebabe ++ (u2 0 ++ (u2 65 ++ (u2 (1 + length (slots (map (constant_of pool) pool))) ++ flat_map constant (map (constant_of pool) pool))))
pool_spelled pool t =
    let n : length pool + 1 ≡ 1 + length (slots (map (constant_of pool) pool)) = (let e = slots_length pool pool t in omega (arith, e)) in
    ap (λ (n : ℕ). u4 0xcafebabe ++ (u2 0 ++ (u2 65 ++ (u2 n ++ flat_map (λ entry. constant (constant_of pool entry)) pool)))) n
    ∙ ap (λ (bytes : List ℕ). u4 0xcafebabe ++ (u2 0 ++ (u2 65 ++ (u2 (1 + length (slots (map (constant_of pool) pool))) ++ bytes)))) (sym (flat_map-map constant (constant_of pool) pool))

types_spelled : (pool : List Entry) (v : View) → types_part pool v ≡ u2 v.flags ++ (u2 (type_index pool v.name) ++ (u2 (super_index pool v.superclass) ++ (u2 (length (map (type_index pool) v.interfaces)) ++ flat_map u2 (map (type_index pool) v.interfaces))))
types_spelled pool v = ap (λ (bytes : List ℕ). u2 v.flags ++ (u2 (type_index pool v.name) ++ (u2 (super_index pool v.superclass) ++ bytes))) (counted u2 (type_index pool) v.interfaces)

methods_spelled : (pool : List Entry) (v : View) → u2 (length v.methods) ++ flat_map (method_part pool) (numbered_methods v.methods) ≡ u2 (length (map (method_of pool) (numbered_methods v.methods))) ++ flat_map member_info (map (method_of pool) (numbered_methods v.methods))
methods_spelled pool v =
    ap (λ (n : ℕ). u2 n ++ flat_map (method_part pool) (numbered_methods v.methods)) (sym (length_numbered method_rows 0 v.methods))
    ∙ ap (λ (bytes : List ℕ). u2 (length (numbered_methods v.methods)) ++ bytes) (flat_same (method_part pool) (λ m. member_info (method_of pool m)) (method_part_is pool) (numbered_methods v.methods))
    ∙ counted member_info (method_of pool) (numbered_methods v.methods)

-- the pieces of a spelling, one after the other
pieces : (a b c d e f g h i j k l m n o p : List ℕ) → (a ++ (b ++ (c ++ (d ++ e)))) ++ ((f ++ (g ++ (h ++ (i ++ j)))) ++ ((k ++ (l ++ (m ++ n))) ++ (o ++ p)))
    ≡ concat (a ∷ b ∷ c ∷ d ∷ e ∷ f ∷ g ∷ h ∷ i ∷ j ∷ k ∷ l ∷ m ∷ n ∷ o ∷ p ∷ [])
pieces a b c d e f g h i j k l m n o p = simp (append_assoc, append-nil)

pub file_spelled : (pool : List Entry) (v : View) → AllByRecursion IsTagged pool → file_part pool v ≡ spelling (file_by pool v)
unfolding file_part
file_spelled pool v t =
    ap (λ (bytes : List ℕ). bytes ++ (types_part pool v ++ (members_part pool v ++ class_attributes_part pool (rows_of v.methods)))) (pool_spelled pool t)
    ∙ ap (λ (bytes : List ℕ). pool_bytes ++ (bytes ++ (members_part pool v ++ class_attributes_part pool (rows_of v.methods)))) (types_spelled pool v)
    ∙ ap (λ (bytes : List ℕ). pool_bytes ++ (type_bytes ++ (bytes ++ class_attributes_part pool (rows_of v.methods)))) members
    ∙ ap (λ (bytes : List ℕ). pool_bytes ++ (type_bytes ++ (member_bytes ++ bytes))) (class_attributes_are pool (rows_of v.methods))
    ∙ pieces (u4 0xcafebabe) (u2 0) (u2 65) (u2 (1 + length (slots (map (constant_of pool) pool)))) (flat_map constant (map (constant_of pool) pool))
    (u2 v.flags) (u2 (type_index pool v.name)) (u2 (super_index pool v.superclass)) (u2 (length (map (type_index pool) v.interfaces))) (flat_map u2 (map (type_index pool) v.interfaces))
    (u2 (length (map (field_of pool) v.fields))) (flat_map member_info (map (field_of pool) v.fields)) (u2 (length (map (method_of pool) (numbered_methods v.methods)))) (flat_map member_info (map (method_of pool) (numbered_methods v.methods)))
    (u2 (length (class_attributes pool (rows_of v.methods)))) (flat_map attribute (class_attributes pool (rows_of v.methods)))
  where
    pool_bytes : List ℕ
    pool_bytes = u4 0xcafebabe ++ (u2 0 ++ (u2 65 ++ (u2 (1 + length (slots (map (constant_of pool) pool))) ++ flat_map constant (map (constant_of pool) pool))))

    type_bytes : List ℕ
    type_bytes = u2 v.flags ++ (u2 (type_index pool v.name) ++ (u2 (super_index pool v.superclass) ++ (u2 (length (map (type_index pool) v.interfaces)) ++ flat_map u2 (map (type_index pool) v.interfaces))))

    member_bytes : List ℕ
    member_bytes = u2 (length (map (field_of pool) v.fields)) ++ (flat_map member_info (map (field_of pool) v.fields) ++ (u2 (length (map (method_of pool) (numbered_methods v.methods))) ++ flat_map member_info (map (method_of pool) (numbered_methods v.methods))))

    members : members_part pool v ≡ member_bytes
    members =
        ap (λ (bytes : List ℕ). bytes ++ (u2 (length v.methods) ++ flat_map (method_part pool) (numbered_methods v.methods))) (counted member_info (field_of pool) v.fields)
        ∙ ap (λ (bytes : List ℕ). (u2 (length (map (field_of pool) v.fields)) ++ flat_map member_info (map (field_of pool) v.fields)) ++ bytes) (methods_spelled pool v)
