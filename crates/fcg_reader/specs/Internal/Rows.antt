-- What the rows of a class file stand for, by the constant pool that their indexes are of.
use Rattle.std.specs.Prelude.{ℕ, List, [], map, Result, Ok, Err}
use Rattle.std.specs.Option.{option_map}
use Rattle.fcg_views.specs.declared.view.View.{View}
use Rattle.fcg_views.specs.declared.view.Field.{Field}
use Rattle.fcg_views.specs.declared.view.Method.{Method}
use Rattle.fcg_views.specs.declared.view.Site.{Site}
use Rattle.fcg_views.specs.declared.view.Ref.{Ref}
use Rattle.fcg_classfile.specs.declared.fault.PoolRule.{PoolRule}
use Rattle.fcg_classfile.specs.Breaks.Pool.{Entries, text_of}
use Rattle.fcg_reader.specs.declared.rows.RefRow.{RefRow}
use Rattle.fcg_reader.specs.declared.rows.SiteRow.{SiteRow}
use Rattle.fcg_reader.specs.declared.rows.FieldRow.{FieldRow}
use Rattle.fcg_reader.specs.declared.rows.MethodRow.{MethodRow}
use Rattle.fcg_reader.specs.declared.rows.ViewRows.{ViewRows}

abbrev pub text_or_none : Result (List ℕ) PoolRule → List ℕ
text_or_none (Ok text) = text
text_or_none (Err rule) = []

-- the text of the Utf8 at an index; where no Utf8 is, as at 0, it is empty
abbrev pub text_in : Entries → ℕ → List ℕ
text_in pool index = text_or_none (text_of pool index)

abbrev pub ref_in : Entries → RefRow → Ref
ref_in pool r = record { owner = text_in pool r.owner; owner_is_interface_ref = r.owner_is_interface_ref; name = text_in pool r.name; desc = text_in pool r.desc }

abbrev pub site_in : Entries → SiteRow → Site
site_in pool s = record { pc = s.pc; kind = s.kind; target = ref_in pool s.target }

abbrev pub sites_in : Entries → List SiteRow → List Site
sites_in pool sites = map (site_in pool) sites

abbrev pub field_in : Entries → FieldRow → Field
field_in pool f = record { name = text_in pool f.name; desc = text_in pool f.desc; flags = f.flags }

abbrev pub method_in : Entries → MethodRow → Method
method_in pool m = record { name = text_in pool m.name; desc = text_in pool m.desc; flags = m.flags; sites = sites_in pool m.sites }

abbrev pub view_in : Entries → ViewRows → View
view_in pool v = record {
  name = text_in pool v.name;
  flags = v.flags;
  superclass = option_map (text_in pool) v.superclass;
  interfaces = map (text_in pool) v.interfaces.items;
  fields = map (field_in pool) v.fields.items;
  methods = map (method_in pool) v.methods.items;
}
