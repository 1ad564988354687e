-- What it means that bytes are a class file with a view (JVMS 4). Read besides: which first fault they have instead.
use Rattle.std.specs.Prelude.{◌≡◌, ◌≢◌, ◌⊎◌, ℕ, ◌+◌, ◌<◌, ◌≤◌, ◌^◌, List, [], ◌∷◌, length, true, codes, Option, Some, None, Err}
use Rattle.std.specs.List.{flat_map, AllByRecursion, AllPairs, AllZip}
use Rattle.fcg_views.specs.declared.view.View.{View}
use Rattle.fcg_views.specs.declared.view.Field.{Field}
use Rattle.fcg_views.specs.declared.view.Method.{Method}
use Rattle.fcg_classfile.specs.declared.fault.ClassFault.{ClassFault}
use Rattle.fcg_classfile.specs.ClassFile.{Bytes, One, Two, shape_of, is_one_of, Constant, Utf8, Plain, Named, Pair, Handle, tag_of, slots, wants, Attribute, Code, code_info, BootstrapMethod, bootstrap_info, MemberInfo, ClassFile, spelling}
use Rattle.fcg_classfile.specs.Constants.{constant_at, NamesUtf8, NamesClass}
use Rattle.fcg_views.specs.Descriptor.{IsDescriptor, IsFieldDescriptor}
use Rattle.fcg_classfile.specs.Instructions.{Instruction, IsCode}
use Rattle.fcg_classfile.specs.Sites.{Found, nothing, AreFound, AreSites}
use Rattle.fcg_views.specs.Valid.{site_count}
use Rattle.fcg_classfile.specs.Breaks.Class.{class_of}

-- modified UTF-8 (4.4.7): 01 to 7f; c0 to df and one of 80 to bf; e0 to ef and two of these
abbrev pub IsIn : ℕ → ℕ → ℕ → Type 0
IsIn low high b = (low ≤ b) × (b ≤ high)

abbrev pub IsGroup : List ℕ → Type 0
IsGroup [] = ⊥
IsGroup (a ∷ []) = IsIn 1 127 a
IsGroup (a ∷ b ∷ []) = IsIn 192 223 a × IsIn 128 191 b
IsGroup (a ∷ b ∷ c ∷ []) = IsIn 224 239 a × IsIn 128 191 b × IsIn 128 191 c
IsGroup (a ∷ b ∷ c ∷ d ∷ more) = ⊥

abbrev pub AreGroups : List ℕ → Type 0
AreGroups text = (groups : List (List ℕ)) × AllByRecursion IsGroup groups × (text ≡ flat_map (λ group. group) groups)

-- what a constant keeps by itself
abbrev pub Fits : Constant → Type 0
Fits (Utf8 text) = (length text < 2 ^ 16) × AreGroups text
Fits (Plain tag bytes) = shape_of tag ≡ Some (Bytes (length bytes))
Fits (Named tag i) = (shape_of tag ≡ Some One) × (i < 2 ^ 16)
Fits (Pair tag i j) = (shape_of tag ≡ Some Two) × (i < 2 ^ 16) × (j < 2 ^ 16)
Fits (Handle kind i) = i < 2 ^ 16

abbrev pub HasTag : List Constant → ℕ × List ℕ → Type 0
HasTag pool want = (c : Constant) × (constant_at pool want.0 ≡ Some c) × (is_one_of want.1 (tag_of c) ≡ true)

pub record IsPool (pool : List Constant) : Type 0 where
  pub few : 1 + length (slots pool) < 2 ^ 16
  pub fit : AllByRecursion Fits pool
  pub named : AllByRecursion (λ c. AllByRecursion (HasTag pool) (wants c)) pool

-- a type's name has a byte or more
abbrev pub NamesType : List Constant → ℕ → List ℕ → Type 0
NamesType pool index name = (index < 2 ^ 16) × NamesClass pool index name × (0 < length name)

-- index 0 names no superclass
abbrev pub NamesSuper : List Constant → ℕ → Option (List ℕ) → Type 0
NamesSuper pool index None = index ≡ 0
NamesSuper pool index (Some name) = (0 < index) × NamesType pool index name

-- an attribute of a name
pub record IsNamed (pool : List Constant) (a : Attribute) (name : List ℕ) : Type 0 where
  pub index : a.name < 2 ^ 16
  pub named : NamesUtf8 pool a.name name
  pub fits : length a.content < 2 ^ 32

-- an attribute that is passed over by its length
abbrev pub IsPassed : List Constant → Attribute → Type 0
IsPassed pool a = (name : List ℕ) × IsNamed pool a name

pub record ArePassed (pool : List Constant) (attributes : List Attribute) : Type 0 where
  pub few : length attributes < 2 ^ 16
  pub each : AllByRecursion (IsPassed pool) attributes

-- an attribute of another name, which is passed over
abbrev pub IsOther : List Constant → List ℕ → Attribute → Type 0
IsOther pool word a = (name : List ℕ) × IsNamed pool a name × (name ≢ word)

-- Attributes of which one at most has a name: what it says; and else, what is said without it.
abbrev pub HasOne : {X : Type 0} → List Constant → List ℕ → (List ℕ → X → Type 0) → X → List Attribute → X → Type 0
HasOne pool word Says without [] x = x ≡ without
HasOne pool word Says without (a ∷ more) x =
    (IsOther pool word a × HasOne pool word Says without more x)
    ⊎ (IsNamed pool a word × Says a.content x × AllByRecursion (IsOther pool word) more)

-- the code of a method (4.7.3), with what its instructions have
pub record IsCodeOf (pool : List Constant) (c : Code) (x : Found) : Type 0 where
  pub stack : c.stack < 2 ^ 16
  pub locals : c.locals < 2 ^ 16
  pub some : 1 ≤ length c.code
  pub short : length c.code ≤ 65535
  pub instructions : List Instruction
  pub code : IsCode c.code instructions
  pub found : AreFound pool 0 instructions x
  pub few_handlers : length c.handlers < 2 ^ 16
  pub handlers : AllByRecursion (λ row. length row ≡ 8) c.handlers
  pub attributes : ArePassed pool c.attributes

abbrev pub SaysCode : List Constant → List ℕ → Found → Type 0
SaysCode pool content x = (code : Code) × (content ≡ code_info code) × IsCodeOf pool code x

-- a method has one Code at most
pub record HasCode (pool : List Constant) (attributes : List Attribute) (x : Found) : Type 0 where
  pub few : length attributes < 2 ^ 16
  pub code : HasOne pool (codes "Code") (SaysCode pool) nothing attributes x

-- a row of BootstrapMethods (4.7.23); what its indexes name matters where a call uses it
pub record IsRow (b : BootstrapMethod) : Type 0 where
  pub handle : b.handle < 2 ^ 16
  pub few : length b.arguments < 2 ^ 16
  pub arguments : AllByRecursion (λ i. i < 2 ^ 16) b.arguments

pub record SaysRows (content : List ℕ) (rows : List BootstrapMethod) : Type 0 where
  pub spelled : content ≡ bootstrap_info rows
  pub few : length rows < 2 ^ 16
  pub each : AllByRecursion IsRow rows

-- a class has one BootstrapMethods at most
pub record HasRows (pool : List Constant) (attributes : List Attribute) (rows : List BootstrapMethod) : Type 0 where
  pub few : length attributes < 2 ^ 16
  pub rows_are : HasOne pool (codes "BootstrapMethods") SaysRows [] attributes rows

-- what a field or a method declares: a name of a byte or more, and a descriptor
pub record IsDeclared (pool : List Constant) (IsTyped : List ℕ → Type 0) (m : MemberInfo) (flags : ℕ) (name desc : List ℕ) : Type 0 where
  pub flags_few : m.flags < 2 ^ 16
  pub flags_are : flags ≡ m.flags
  pub name_index : m.name < 2 ^ 16
  pub name_is : NamesUtf8 pool m.name name
  pub filled : 0 < length name
  pub desc_index : m.desc < 2 ^ 16
  pub desc_is : NamesUtf8 pool m.desc desc
  pub typed : IsTyped desc

pub record IsFieldOf (pool : List Constant) (m : MemberInfo) (v : Field) : Type 0 where
  pub declared : IsDeclared pool IsFieldDescriptor m v.flags v.name v.desc
  pub attributes : ArePassed pool m.attributes

pub record IsMethodOf (pool : List Constant) (rows : List BootstrapMethod) (m : MemberInfo) (v : Method) : Type 0 where
  pub declared : IsDeclared pool IsDescriptor m v.flags v.name v.desc
  pub found : Found
  pub code : HasCode pool m.attributes found
  pub sites : AreSites pool rows found v.sites

-- what a class file says, of a type or of a module
pub record IsViewOf (c : ClassFile) (v : View) : Type 0 where
  pub minor : c.minor < 2 ^ 16
  pub from : 45 ≤ c.major
  pub to : c.major ≤ 65
  pub pool : IsPool c.pool
  pub flags_few : c.flags < 2 ^ 16
  pub flags : v.flags ≡ c.flags
  pub name : NamesType c.pool c.this v.name
  pub super : NamesSuper c.pool c.super v.superclass
  pub few_interfaces : length c.interfaces < 2 ^ 16
  pub interfaces : AllZip (NamesType c.pool) c.interfaces v.interfaces
  pub few_fields : length c.fields < 2 ^ 16
  pub fields : AllZip (IsFieldOf c.pool) c.fields v.fields
  pub few_methods : length c.methods < 2 ^ 16
  pub rows : List BootstrapMethod
  pub methods : AllZip (IsMethodOf c.pool rows) c.methods v.methods
  -- no two methods have one name and one descriptor (4.6)
  pub distinct : AllPairs (λ m n. m.name ≡ n.name → m.desc ≢ n.desc) v.methods
  pub few_sites : site_count v.methods ≤ 1000000
  pub attributes : HasRows c.pool c.attributes rows

-- A module has the flag 8000 (4.1), which is the highest of the two bytes, and no view.
abbrev pub IsShown : View → Option View → Type 0
IsShown v None = 0x8000 ≤ v.flags
IsShown v (Some w) = (v.flags < 0x8000) × (w ≡ v)

-- the bytes are a class file, and it has this view, or none
pub record Reads (bytes : List ℕ) (r : Option View) : Type 0 where
  pub file : ClassFile
  pub spelled : bytes ≡ spelling file
  pub view : View
  pub is : IsViewOf file view
  pub shown : IsShown view r

-- the first fault in reading order
abbrev pub Breaks : List ℕ → ClassFault → Type 0
Breaks bytes f = class_of bytes ≡ Err f

-- either a class file, with one view or none, or broken with one first fault
pub data Verdict (bytes : List ℕ) : Type 0 where
  IsRead : (r : Option View) → Reads bytes r → ((s : Option View) → Reads bytes s → s ≡ r) → ((f : ClassFault) → Breaks bytes f → ⊥) → Verdict bytes
  IsBroken : (f : ClassFault) → Breaks bytes f → ((g : ClassFault) → Breaks bytes g → g ≡ f) → ((r : Option View) → Reads bytes r → ⊥) → Verdict bytes
