-- Field and method descriptors (JVMS 4.3.2, 4.3.3), with the length of an array and the units of the parameters bounded.
use Rattle.std.specs.Prelude.{◌≡◌, ℕ, zero, suc, ◌+◌, ◌-◌, ◌^◌, ◌≤◌, ◌<◌, min, List, [], ◌∷◌, ◌++◌, length, take, ◌==◌, Bool, true, false, ◌||◌, Option, Some, None, if◌then◌else◌}
use Rattle.std.specs.List.{flat_map, AllByRecursion}
use Rattle.fcg_views.specs.declared.descriptor.DescSpan.{DescSpan}
use Rattle.fcg_views.specs.declared.descriptor.DescFault.{DescFault}

-- BCDFIJSZ
abbrev pub is_letter : ℕ → Bool
is_letter b = b == 66 || (b == 67 || (b == 68 || (b == 70 || (b == 73 || (b == 74 || (b == 83 || b == 90))))))

-- a field type: a letter of BCDFIJSZ, a class, an array of one of these
pub data Item : Type 0 where
  Letter : ℕ → Item
  Class : List ℕ → Item

-- how many `[`, and what follows them
pub record FieldType : Type 0 where
  pub dims : ℕ
  pub item : Item

-- `V` is none
pub record MethodType : Type 0 where
  pub parameters : List FieldType
  pub returned : Option FieldType

abbrev pub brackets : ℕ → List ℕ
brackets zero = []
brackets (suc n) = 91 ∷ brackets n

abbrev pub spell_item : Item → List ℕ
spell_item (Letter c) = c ∷ []
spell_item (Class name) = 76 ∷ name ++ 59 ∷ []

abbrev pub spell_field : FieldType → List ℕ
spell_field t = brackets t.dims ++ spell_item t.item

abbrev pub spell_return : Option FieldType → List ℕ
spell_return None = 86 ∷ []
spell_return (Some t) = spell_field t

abbrev pub spell : MethodType → List ℕ
spell m = 40 ∷ flat_map spell_field m.parameters ++ 41 ∷ spell_return m.returned

-- a letter is a base type's; a class has one or more bytes, none of them `;`
abbrev pub IsItem : Item → Type 0
IsItem (Letter c) = is_letter c ≡ true
IsItem (Class name) = (0 < length name) × AllByRecursion (λ b. (b == 59) ≡ false) name

abbrev pub IsFieldType : FieldType → Type 0
IsFieldType t = (t.dims ≤ 255) × IsItem t.item

-- J and D count two
abbrev pub letter_units : ℕ → ℕ
letter_units b = if b == 74 || b == 68 then 2 else 1

-- as a parameter, where it is no element of an array
abbrev pub item_units : Item → ℕ
item_units (Letter c) = letter_units c
item_units (Class name) = 1

abbrev pub units_with : ℕ → Item → ℕ
units_with zero item = item_units item
units_with (suc n) item = 1

abbrev pub units_of : FieldType → ℕ
units_of t = units_with t.dims t.item

abbrev pub units : List FieldType → ℕ
units [] = 0
units (t ∷ ts) = units_of t + units ts

abbrev pub IsReturn : Option FieldType → Type 0
IsReturn None = Unit {0}
IsReturn (Some t) = IsFieldType t

pub record IsMethodType (m : MethodType) : Type 0 where
  pub parameters : AllByRecursion IsFieldType m.parameters
  pub few : units m.parameters ≤ 255
  pub returned : IsReturn m.returned

-- the text is a method descriptor
abbrev pub IsDescriptor : List ℕ → Type 0
IsDescriptor text = (type : MethodType) × IsMethodType type × (spell type ≡ text)

-- the text is a field descriptor
abbrev pub IsFieldDescriptor : List ℕ → Type 0
IsFieldDescriptor text = (type : FieldType) × IsFieldType type × (spell_field type ≡ text)

-- the first n bytes are the front of some text of a kind
pub record IsFront (Is : List ℕ → Type 0) (text : List ℕ) (n : ℕ) : Type 0 where
  pub rest : List ℕ
  pub whole : Is (take n text ++ rest)

-- no text of the kind, and the longest such front
pub record BreaksAt (Is : List ℕ → Type 0) (text : List ℕ) (n : ℕ) : Type 0 where
  pub within : n ≤ length text
  pub front : IsFront Is text n
  pub longest : (k : ℕ) → n < k → k ≤ length text → IsFront Is text k → ⊥
  pub none : Is text → ⊥

-- the number that a fault gives of such a text
abbrev pub FaultOf : (List ℕ → Type 0) → List ℕ → DescFault → Type 0
FaultOf Is text fault = (n : ℕ) × BreaksAt Is text n × (fault.offset ≡ min n (2 ^ 32 - 1))

-- of a text that is no method descriptor
abbrev pub FaultAt : List ℕ → DescFault → Type 0
FaultAt = FaultOf IsDescriptor

-- of a text that is no field descriptor
abbrev pub FieldFaultAt : List ℕ → DescFault → Type 0
FieldFaultAt = FaultOf IsFieldDescriptor

-- what a method descriptor says of its parameters
pub record Spans (text : List ℕ) (span : DescSpan) : Type 0 where
  pub type : MethodType
  pub kept : IsMethodType type
  pub spelled : spell type ≡ text
  pub parameters_are : span.parameters ≡ length type.parameters
  pub units_are : span.units ≡ units type.parameters
  pub result_at_is : span.result_at ≡ min (2 + length (flat_map spell_field type.parameters)) (2 ^ 32 - 1)
