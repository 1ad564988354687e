-- The class file that is written, piece by piece. It is the spelling of the class file that is laid out.
use Rattle.std.specs.Prelude.{ℕ, List, [], ◌∷◌, ◌+◌, ◌++◌, length, codes}
use Rattle.std.specs.List.{flat_map}
use Rattle.fcg_grammar.specs.Spell.{u2, u4}
use Rattle.fcg_views.specs.declared.view.View.{View}
use Rattle.fcg_views.specs.declared.view.Method.{Method}
use Rattle.fcg_classfile.specs.ClassFile.{constant, Code, member_info}
use Rattle.fcg_make.specs.declared.entry.Entry.{Entry}
use Rattle.fcg_make.specs.Steps.{Step, steps_of, row_count, numbered}
use Rattle.fcg_make.specs.Needs.{rows_of, numbered_methods}
use Rattle.fcg_make.specs.Layout.{constant_of, text_index, type_index, super_index, field_of, code_bytes, handle_index}

-- the content of a Code attribute, with its length
abbrev pub with_code : List ℕ → Code
with_code code = record { stack = 65535; locals = 65535; code = code; handlers = []; attributes = [] }

abbrev pub code_part : List ℕ → List ℕ
code_part code =
    u4 (length code + 12) ++ (u2 65535 ++ (u2 65535 ++ (u4 (length code) ++ (code ++ (u2 0 ++ u2 0)))))

-- the attributes of a method, with their number
abbrev pub code_attributes_part : List Entry → ℕ → List Step → List ℕ
code_attributes_part pool row [] = u2 0
code_attributes_part pool row (t ∷ ts) =
    u2 1 ++ (u2 (text_index pool (codes "Code")) ++ code_part (code_bytes pool 0 (numbered row_count row (t ∷ ts))))

abbrev pub method_part : List Entry → ℕ × Method → List ℕ
method_part pool m =
    u2 m.1.flags ++ (u2 (text_index pool m.1.name) ++ (u2 (text_index pool m.1.desc)
    ++ code_attributes_part pool m.0 (steps_of m.1.sites)))

-- a bootstrap method
abbrev pub row_part : List Entry → Step → List ℕ
row_part pool t =
    u2 (handle_index pool t.first) ++ (u2 (length t.more) ++ flat_map (λ site. u2 (handle_index pool site)) t.more)

abbrev pub rows_part : List Entry → List Step → List ℕ
rows_part pool ts = u2 (length ts) ++ flat_map (row_part pool) ts

-- the attributes of a class, with their number
abbrev pub class_attributes_part : List Entry → List Step → List ℕ
class_attributes_part pool [] = u2 0
class_attributes_part pool (t ∷ ts) =
    u2 1 ++ (u2 (text_index pool (codes "BootstrapMethods")) ++ (u4 (length (rows_part pool (t ∷ ts))) ++ rows_part pool (t ∷ ts)))

-- the magic number, the version and the pool
abbrev pub pool_part : List Entry → List ℕ
pool_part pool =
    u4 0xcafebabe ++ (u2 0 ++ (u2 65 ++ (u2 (length pool + 1) ++ flat_map (λ entry. constant (constant_of pool entry)) pool)))

-- the flags, the names of the type and of its superclass, and the interfaces
abbrev pub types_part : List Entry → View → List ℕ
types_part pool v =
    u2 v.flags ++ (u2 (type_index pool v.name) ++ (u2 (super_index pool v.superclass)
    ++ (u2 (length v.interfaces) ++ flat_map (λ name. u2 (type_index pool name)) v.interfaces)))

-- the fields and the methods
abbrev pub members_part : List Entry → View → List ℕ
members_part pool v =
    u2 (length v.fields) ++ (flat_map (λ field. member_info (field_of pool field)) v.fields
    ++ (u2 (length v.methods) ++ flat_map (method_part pool) (numbered_methods v.methods)))

unfoldable pub file_part : List Entry → View → List ℕ
file_part pool v = pool_part pool ++ (types_part pool v ++ (members_part pool v ++ class_attributes_part pool (rows_of v.methods)))
