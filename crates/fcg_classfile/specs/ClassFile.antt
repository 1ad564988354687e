-- Class files as data, in the structures of JVMS 4.1, and their spelling.
use Rattle.std.specs.Prelude.{ℕ, ◌+◌, List, [], ◌∷◌, ◌++◌, length, Bool, true, false, ◌||◌, Option, Some, None, ◌==◌, if◌then◌else◌}
use Rattle.std.specs.List.{concat, flat_map}
use Rattle.fcg_grammar.specs.Spell.{u2, u4}

-- what follows the tag of a constant (4.4): a length and a text, so many bytes, an index, two indexes, or a reference
-- kind and an index
pub data Shape : Type 0 where
  Text : Shape
  Bytes : ℕ → Shape
  One : Shape
  Two : Shape
  Kinded : Shape

abbrev pub is_one_of : List ℕ → ℕ → Bool
is_one_of [] n = false
is_one_of (t ∷ ts) n = t == n || is_one_of ts n

-- 1 Utf8; 3 Integer, 4 Float; 5 Long, 6 Double; 7 Class, 8 String, 16 MethodType, 19 Module, 20 Package; 9 Fieldref,
-- 10 Methodref, 11 InterfaceMethodref, 12 NameAndType, 17 Dynamic, 18 InvokeDynamic; 15 MethodHandle
abbrev pub shape_of : ℕ → Option Shape
shape_of tag =
    if tag == 1 then Some Text
    else (if is_one_of (3 ∷ 4 ∷ []) tag then Some (Bytes 4)
    else (if is_one_of (5 ∷ 6 ∷ []) tag then Some (Bytes 8)
    else (if is_one_of (7 ∷ 8 ∷ 16 ∷ 19 ∷ 20 ∷ []) tag then Some One
    else (if is_one_of (9 ∷ 10 ∷ 11 ∷ 12 ∷ 17 ∷ 18 ∷ []) tag then Some Two
    else (if tag == 15 then Some Kinded else None)))))

-- a constant of the pool (4.4), by its tag and what follows
pub data Constant : Type 0 where
  -- CONSTANT_Utf8_info (4.4.7)
  Utf8 : List ℕ → Constant
  -- a number (4.4.4, 4.4.5)
  Plain : ℕ → List ℕ → Constant
  -- an index (4.4.1, 4.4.3, 4.4.9, 4.4.11, 4.4.12)
  Named : ℕ → ℕ → Constant
  -- two indexes (4.4.2, 4.4.6, 4.4.10)
  Pair : ℕ → ℕ → ℕ → Constant
  -- CONSTANT_MethodHandle_info (4.4.8)
  Handle : ℕ → ℕ → Constant

abbrev pub tag_of : Constant → ℕ
tag_of (Utf8 text) = 1
tag_of (Plain tag bytes) = tag
tag_of (Named tag i) = tag
tag_of (Pair tag i j) = tag
tag_of (Handle kind i) = 15

-- what a method handle of a kind may name (4.4.8): a Fieldref; a Methodref; either method reference; an
-- InterfaceMethodref
abbrev pub handle_tags : ℕ → List ℕ
handle_tags kind =
    if is_one_of (1 ∷ 2 ∷ 3 ∷ 4 ∷ []) kind then 9 ∷ []
    else (if is_one_of (5 ∷ 8 ∷ []) kind then 10 ∷ []
    else (if is_one_of (6 ∷ 7 ∷ []) kind then 10 ∷ 11 ∷ []
    else (if kind == 9 then 11 ∷ [] else [])))

-- what two indexes may name: Utf8 and Utf8; of Dynamic and InvokeDynamic the second a NameAndType; Class and
-- NameAndType
abbrev pub pair_wants : ℕ → ℕ → ℕ → List (ℕ × List ℕ)
pair_wants tag i j =
    if tag == 12 then (i, 1 ∷ []) ∷ (j, 1 ∷ []) ∷ []
    else (if is_one_of (17 ∷ 18 ∷ []) tag then (j, 12 ∷ []) ∷ []
    else (i, 7 ∷ []) ∷ (j, 12 ∷ []) ∷ [])

-- the indexes of a constant, each with the tags that it may name
abbrev pub wants : Constant → List (ℕ × List ℕ)
wants (Utf8 text) = []
wants (Plain tag bytes) = []
wants (Named tag i) = (i, 1 ∷ []) ∷ []
wants (Pair tag i j) = pair_wants tag i j
wants (Handle kind i) = (i, handle_tags kind) ∷ []

-- attribute_info (4.7)
pub record Attribute : Type 0 where
  pub name : ℕ
  pub content : List ℕ

-- Code_attribute (4.7.3), by what stands in the content of the attribute; a row of the exception table has 8 bytes
pub record Code : Type 0 where
  pub stack : ℕ
  pub locals : ℕ
  pub code : List ℕ
  pub handlers : List (List ℕ)
  pub attributes : List Attribute

-- a row of BootstrapMethods_attribute (4.7.23): the index of a method handle, and those of the static arguments
pub record BootstrapMethod : Type 0 where
  pub handle : ℕ
  pub arguments : List ℕ

-- field_info (4.5), method_info (4.6)
pub record MemberInfo : Type 0 where
  pub flags : ℕ
  pub name : ℕ
  pub desc : ℕ
  pub attributes : List Attribute

-- ClassFile (4.1)
pub record ClassFile : Type 0 where
  pub minor : ℕ
  pub major : ℕ
  pub pool : List Constant
  pub flags : ℕ
  pub this : ℕ
  pub super : ℕ
  pub interfaces : List ℕ
  pub fields : List MemberInfo
  pub methods : List MemberInfo
  pub attributes : List Attribute

abbrev pub info : Constant → List ℕ
info (Utf8 text) = u2 (length text) ++ text
info (Plain tag bytes) = bytes
info (Named tag i) = u2 i
info (Pair tag i j) = u2 i ++ u2 j
info (Handle kind i) = kind ∷ u2 i

abbrev pub constant : Constant → List ℕ
constant c = tag_of c ∷ info c

abbrev pub attribute : Attribute → List ℕ
attribute a = concat (u2 a.name ∷ u4 (length a.content) ∷ a.content ∷ [])

abbrev pub code_info : Code → List ℕ
code_info c = concat (
    u2 c.stack ∷ u2 c.locals ∷ u4 (length c.code) ∷ c.code
    ∷ u2 (length c.handlers) ∷ flat_map (λ row. row) c.handlers
    ∷ u2 (length c.attributes) ∷ flat_map attribute c.attributes ∷ [])

abbrev pub bootstrap_method : BootstrapMethod → List ℕ
bootstrap_method b = concat (u2 b.handle ∷ u2 (length b.arguments) ∷ flat_map u2 b.arguments ∷ [])

-- BootstrapMethods_attribute (4.7.23), by what stands in its content
abbrev pub bootstrap_info : List BootstrapMethod → List ℕ
bootstrap_info rows = concat (u2 (length rows) ∷ flat_map bootstrap_method rows ∷ [])

abbrev pub member_info : MemberInfo → List ℕ
member_info m = concat (
    u2 m.flags ∷ u2 m.name ∷ u2 m.desc
    ∷ u2 (length m.attributes) ∷ flat_map attribute m.attributes ∷ [])

-- A Long or Double takes two indexes, of which the second names nothing (4.4.5).
abbrev pub is_wide : Constant → Bool
is_wide c = is_one_of (5 ∷ 6 ∷ []) (tag_of c)

abbrev pub unusable : Bool → List (Option Constant)
unusable false = []
unusable true = None ∷ []

-- the constants by their indexes, from 1 on
abbrev pub slots : List Constant → List (Option Constant)
slots [] = []
slots (c ∷ cs) = Some c ∷ (unusable (is_wide c) ++ slots cs)

-- The count of the pool is one more than its indexes.
abbrev pub spelling : ClassFile → List ℕ
spelling c = concat (
    u4 0xcafebabe ∷ u2 c.minor ∷ u2 c.major
    ∷ u2 (1 + length (slots c.pool)) ∷ flat_map constant c.pool
    ∷ u2 c.flags ∷ u2 c.this ∷ u2 c.super
    ∷ u2 (length c.interfaces) ∷ flat_map u2 c.interfaces
    ∷ u2 (length c.fields) ∷ flat_map member_info c.fields
    ∷ u2 (length c.methods) ∷ flat_map member_info c.methods
    ∷ u2 (length c.attributes) ∷ flat_map attribute c.attributes ∷ [])
