-- What a class file that is written needs in its pool, in the file's order, each entry after its parts.
use Rattle.std.specs.Prelude.{ℕ, List, [], ◌∷◌, ◌++◌, codes, Option, Some, None, if◌then◌else◌}
use Rattle.std.specs.List.{flat_map}
use Rattle.fcg_views.specs.declared.view.View.{View}
use Rattle.fcg_views.specs.declared.view.Field.{Field}
use Rattle.fcg_views.specs.declared.view.Method.{Method}
use Rattle.fcg_views.specs.declared.view.Site.{Site}
use Rattle.fcg_views.specs.declared.view.Ref.{Ref}
use Rattle.fcg_views.specs.declared.view.SiteKind.{SiteKind}
use Rattle.fcg_views.specs.declared.view.SiteKind.TheVariants as kinds
use Rattle.fcg_views.specs.declared.view.HandleKind.{HandleKind}
use Rattle.fcg_views.specs.declared.view.HandleKind.TheVariants.{K5, K6, K7, K8, K9}
use Rattle.fcg_make.specs.declared.entry.Entry.{Entry}
use Rattle.fcg_make.specs.declared.entry.Entry.TheVariants.{Text, Class, Member, Reference, Handle, Dynamic}
use Rattle.fcg_make.specs.Entries.{added_all}
use Rattle.fcg_make.specs.Steps.{Step, calls, steps_of, row_count, method_rows, numbered}

-- the name and the descriptor of each `invokedynamic`
abbrev pub dynamic_name : List ℕ
dynamic_name = codes "x"

abbrev pub dynamic_desc : List ℕ
dynamic_desc = codes "()V"

abbrev pub type_needs : List ℕ → List Entry
type_needs name = Text name ∷ Class name ∷ []

abbrev pub member_needs : List ℕ → List ℕ → List Entry
member_needs name desc = Text name ∷ Text desc ∷ Member name desc ∷ []

-- the reference of a tag
abbrev pub reference : ℕ → Ref → Entry
reference tag r = Reference tag r.owner r.name r.desc

abbrev pub reference_needs : ℕ → Ref → List Entry
reference_needs tag r = type_needs r.owner ++ (member_needs r.name r.desc ++ reference tag r ∷ [])

-- a Methodref has the tag 10, an InterfaceMethodref 11
abbrev pub method_tag : Ref → ℕ
method_tag r = if r.owner_is_interface_ref then 11 else 10

-- the kind of a method handle (4.4.8)
abbrev pub handle_number : HandleKind → ℕ
handle_number K5 = 5
handle_number K6 = 6
handle_number K7 = 7
handle_number K8 = 8
handle_number K9 = 9

abbrev pub handle_kind : SiteKind → ℕ
handle_kind (kinds.Handle kind) = handle_number kind
handle_kind kind = 0

-- the method handle of a handle site
abbrev pub handle : Site → Entry
handle s = Handle (handle_kind s.kind) (method_tag s.target) s.target.owner s.target.name s.target.desc

abbrev pub handle_needs : Site → List Entry
handle_needs s = reference_needs (method_tag s.target) s.target ++ handle s ∷ []

-- the InvokeDynamic of a row
abbrev pub dynamic_needs : ℕ → List Entry
dynamic_needs row = member_needs dynamic_name dynamic_desc ++ Dynamic row ∷ []

-- what the site of an instruction needs, an `invokedynamic` by its row; a Fieldref has the tag 9
abbrev pub site_needs : ℕ → SiteKind → Ref → List Entry
site_needs row kinds.New r = type_needs r.owner
site_needs row kinds.StaticField r = reference_needs 9 r
site_needs row (kinds.Handle kind) r = dynamic_needs row
site_needs row kind r = reference_needs (method_tag r) r

abbrev pub step_needs : ℕ × Step → List Entry
step_needs t = site_needs t.0 t.1.first.kind t.1.first.target

-- a method with sites has a code
abbrev pub code_needs : ℕ → List Step → List Entry
code_needs row [] = []
code_needs row (t ∷ ts) = Text (codes "Code") ∷ flat_map step_needs (numbered row_count row (t ∷ ts))

abbrev pub field_needs : Field → List Entry
field_needs f = Text f.name ∷ Text f.desc ∷ []

abbrev pub method_needs : ℕ × Method → List Entry
method_needs m = Text m.1.name ∷ Text m.1.desc ∷ code_needs m.0 (steps_of m.1.sites)

abbrev pub super_needs : Option (List ℕ) → List Entry
super_needs None = []
super_needs (Some name) = type_needs name

-- the rows of bootstrap methods, in the order of their instructions
abbrev pub rows_of : List Method → List Step
rows_of methods = flat_map (λ m. calls (steps_of m.sites)) methods

abbrev pub row_needs : Step → List Entry
row_needs t = flat_map handle_needs (t.first ∷ t.more)

-- a class with such rows has the attribute
abbrev pub rows_needs : List Step → List Entry
rows_needs [] = []
rows_needs (t ∷ ts) = Text (codes "BootstrapMethods") ∷ flat_map row_needs (t ∷ ts)

abbrev pub numbered_methods : List Method → List (ℕ × Method)
numbered_methods methods = numbered method_rows 0 methods

unfoldable pub needs : View → List Entry
needs v =
    type_needs v.name ++ (super_needs v.superclass ++ (flat_map type_needs v.interfaces ++ (flat_map field_needs v.fields
    ++ (flat_map method_needs (numbered_methods v.methods) ++ rows_needs (rows_of v.methods)))))

-- the entries of the pool
unfoldable pub pool_of : View → List Entry
pool_of v = added_all [] (needs v)
