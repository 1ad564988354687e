-- What an index of a constant pool names (JVMS 4.4).
use Rattle.std.specs.Prelude.{◌≡◌, ℕ, zero, suc, List, [], ◌∷◌, true, Option, Some, None}
use Rattle.std.specs.List.{slice_get}
use Rattle.fcg_classfile.specs.ClassFile.{is_one_of, Constant, Utf8, Named, Pair, Handle, slots}

-- the constant at an index; index 0 names nothing, nor does the second of a Long or Double
abbrev pub of_slot : Option (Option Constant) → Option Constant
of_slot None = None
of_slot (Some slot) = slot

abbrev pub constant_at : List Constant → ℕ → Option Constant
constant_at pool zero = None
constant_at pool (suc i) = of_slot (slice_get (slots pool) i)

abbrev pub NamesUtf8 : List Constant → ℕ → List ℕ → Type 0
NamesUtf8 pool index text = constant_at pool index ≡ Some (Utf8 text)

abbrev pub NamesClass : List Constant → ℕ → List ℕ → Type 0
NamesClass pool index name = (i : ℕ) × (constant_at pool index ≡ Some (Named 7 i)) × NamesUtf8 pool i name

-- a constant of a tag among these, with two indexes
abbrev pub NamesPair : List Constant → List ℕ → ℕ → ℕ → ℕ → ℕ → Type 0
NamesPair pool tags index tag i j =
    (constant_at pool index ≡ Some (Pair tag i j)) × (is_one_of tags tag ≡ true)

-- a NameAndType (4.4.6)
abbrev pub NamesMember : List Constant → ℕ → List ℕ → List ℕ → Type 0
NamesMember pool index name desc =
    (i j : ℕ) × (constant_at pool index ≡ Some (Pair 12 i j)) × NamesUtf8 pool i name × NamesUtf8 pool j desc

-- a Fieldref, Methodref or InterfaceMethodref (4.4.2): its tag, the name of its class, a name and a descriptor
abbrev pub NamesReference : List Constant → ℕ → ℕ → List ℕ → List ℕ → List ℕ → Type 0
NamesReference pool index tag owner name desc =
    (i j : ℕ) × NamesPair pool (9 ∷ 10 ∷ 11 ∷ []) index tag i j × NamesClass pool i owner × NamesMember pool j name desc

-- a MethodHandle of a kind (4.4.8), and the reference that it names
abbrev pub NamesHandle : List Constant → ℕ → ℕ → ℕ → List ℕ → List ℕ → List ℕ → Type 0
NamesHandle pool index kind tag owner name desc =
    (i : ℕ) × (constant_at pool index ≡ Some (Handle kind i)) × NamesReference pool i tag owner name desc

-- an InvokeDynamic (4.4.10) with its index of a bootstrap method
abbrev pub NamesDynamic : List Constant → ℕ → ℕ → Type 0
NamesDynamic pool index i = (j : ℕ) × (constant_at pool index ≡ Some (Pair 18 i j))
