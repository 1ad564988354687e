-- The class file that is written of a view.
use Rattle.std.specs.Prelude.{ℕ, ◌+◌, ◌-◌, List, [], ◌∷◌, ◌++◌, map, replicate, codes, Option, Some, None, Result, Ok, Err}
use Rattle.std.specs.List.{flat_map}
use Rattle.fcg_grammar.specs.Spell.{u2}
use Rattle.fcg_views.specs.declared.view.View.{View}
use Rattle.fcg_views.specs.declared.view.Field.{Field}
use Rattle.fcg_views.specs.declared.view.Method.{Method}
use Rattle.fcg_views.specs.declared.view.Site.{Site}
use Rattle.fcg_views.specs.declared.view.Ref.{Ref}
use Rattle.fcg_views.specs.declared.view.SiteKind.{SiteKind}
use Rattle.fcg_views.specs.declared.view.SiteKind.TheVariants as kinds
use Rattle.fcg_classfile.specs.ClassFile as file
use Rattle.fcg_classfile.specs.ClassFile.{Constant, Utf8, Named, Pair, Attribute, Code, code_info, BootstrapMethod, bootstrap_info, MemberInfo, ClassFile, spelling}
use Rattle.fcg_classfile.specs.Instructions.{Instruction, Plain, instruction}
use Rattle.fcg_make.specs.declared.entry.Entry.{Entry}
use Rattle.fcg_make.specs.declared.entry.Entry.TheVariants.{Text, Class, Member, Reference, Handle, Dynamic}
use Rattle.fcg_make.specs.declared.refusal.NotWritable.{NotWritable}
use Rattle.fcg_make.specs.Entries.{index_of}
use Rattle.fcg_make.specs.Steps.{Step, steps_of, row_count, size_of, numbered}
use Rattle.fcg_make.specs.Needs.{dynamic_name, dynamic_desc, reference, method_tag, handle, rows_of, numbered_methods, pool_of}
use Rattle.fcg_make.specs.Unwritable.{unwritable}

-- an entry with the indexes of its parts
abbrev pub constant_of : List Entry → Entry → Constant
constant_of pool (Text text) = Utf8 text
constant_of pool (Class name) = Named 7 (index_of pool (Text name))
constant_of pool (Member name desc) = Pair 12 (index_of pool (Text name)) (index_of pool (Text desc))
constant_of pool (Reference tag owner name desc) = Pair tag (index_of pool (Class owner)) (index_of pool (Member name desc))
constant_of pool (Handle kind tag owner name desc) = file.Handle kind (index_of pool (Reference tag owner name desc))
constant_of pool (Dynamic row) = Pair 18 row (index_of pool (Member dynamic_name dynamic_desc))

-- ==== code

-- 182 invokevirtual, 183 invokespecial, 184 invokestatic, 185 invokeinterface, 186 invokedynamic; 187 new; 178 getstatic
abbrev pub opcode_of : SiteKind → ℕ
opcode_of kinds.Virtual = 182
opcode_of kinds.Special = 183
opcode_of kinds.Static = 184
opcode_of kinds.Interface = 185
opcode_of (kinds.Handle kind) = 186
opcode_of kinds.New = 187
opcode_of kinds.StaticField = 178

-- what the index of an instruction names
abbrev pub operand_of : ℕ → SiteKind → Ref → Entry
operand_of row kinds.New r = Class r.owner
operand_of row kinds.StaticField r = reference 9 r
operand_of row (kinds.Handle kind) r = Dynamic row
operand_of row kind r = reference (method_tag r) r

-- what follows the index
abbrev pub tail_of : SiteKind → List ℕ
tail_of kinds.Interface = 1 ∷ 0 ∷ []
tail_of (kinds.Handle kind) = 0 ∷ 0 ∷ []
tail_of kind = []

abbrev pub instruction_of : List Entry → ℕ → Site → Instruction
instruction_of pool row s = Plain (opcode_of s.kind) (u2 (index_of pool (operand_of row s.kind s.target)) ++ tail_of s.kind)

abbrev pub nop : Instruction
nop = Plain 0 []

abbrev pub return : Instruction
return = Plain 177 []

-- the instructions from a place on, with nops up to the place of each, and `return` at the end
abbrev pub instructions_from : List Entry → ℕ → List (ℕ × Step) → List Instruction
instructions_from pool at [] = return ∷ []
instructions_from pool at (t ∷ ts) =
    replicate (t.1.first.pc - at) nop ++ instruction_of pool t.0 t.1.first
    ∷ instructions_from pool (t.1.first.pc + size_of t.1.first.kind) ts

abbrev pub code_bytes : List Entry → ℕ → List (ℕ × Step) → List ℕ
code_bytes pool at steps = flat_map instruction (instructions_from pool at steps)

abbrev pub code_of : List Entry → ℕ → List Step → Code
code_of pool row steps = record {
  stack = 65535;
  locals = 65535;
  code = code_bytes pool 0 (numbered row_count row steps);
  handlers = [];
  attributes = [];
}

-- ==== fields and methods

abbrev pub text_index : List Entry → List ℕ → ℕ
text_index pool text = index_of pool (Text text)

abbrev pub type_index : List Entry → List ℕ → ℕ
type_index pool name = index_of pool (Class name)

abbrev pub super_index : List Entry → Option (List ℕ) → ℕ
super_index pool None = 0
super_index pool (Some name) = type_index pool name

abbrev pub code_attributes : List Entry → ℕ → List Step → List Attribute
code_attributes pool row [] = []
code_attributes pool row (t ∷ ts) =
    record { name = text_index pool (codes "Code"); content = code_info (code_of pool row (t ∷ ts)) } ∷ []

abbrev pub field_of : List Entry → Field → MemberInfo
field_of pool f = record { flags = f.flags; name = text_index pool f.name; desc = text_index pool f.desc; attributes = [] }

abbrev pub method_of : List Entry → ℕ × Method → MemberInfo
method_of pool m = record {
  flags = m.1.flags;
  name = text_index pool m.1.name;
  desc = text_index pool m.1.desc;
  attributes = code_attributes pool m.0 (steps_of m.1.sites);
}

-- ==== bootstrap methods

abbrev pub handle_index : List Entry → Site → ℕ
handle_index pool s = index_of pool (handle s)

abbrev pub row_of : List Entry → Step → BootstrapMethod
row_of pool t = record { handle = handle_index pool t.first; arguments = map (handle_index pool) t.more }

abbrev pub class_attributes : List Entry → List Step → List Attribute
class_attributes pool [] = []
class_attributes pool (t ∷ ts) =
    record { name = text_index pool (codes "BootstrapMethods"); content = bootstrap_info (map (row_of pool) (t ∷ ts)) } ∷ []

-- ==== the class file

abbrev pub file_by : List Entry → View → ClassFile
file_by pool v = record {
  minor = 0;
  major = 65;
  pool = map (constant_of pool) pool;
  flags = v.flags;
  this = type_index pool v.name;
  super = super_index pool v.superclass;
  interfaces = map (type_index pool) v.interfaces;
  fields = map (field_of pool) v.fields;
  methods = map (method_of pool) (numbered_methods v.methods);
  attributes = class_attributes pool (rows_of v.methods);
}

unfoldable pub file_of : View → ClassFile
file_of v = file_by (pool_of v) v

-- the bytes that are written of a view, or why none are
abbrev pub written_or : Option NotWritable → View → Result (List ℕ) NotWritable
written_or None v = Ok (spelling (file_of v))
written_or (Some refusal) v = Err refusal

unfoldable pub written : View → Result (List ℕ) NotWritable
written v = written_or (unwritable v) v
