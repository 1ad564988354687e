-- What the reader of sites answers.
use Rattle.std.specs.Prelude.{◌≡◌, List, ◌++◌, ◌==◌, Option, Some, None, Result, Ok, Err}
use Rattle.fcg_grammar.specs.declared.error.ReadError.{ReadError}
use Rattle.fcg_grammar.specs.Reading.{Fails}
use Rattle.fcg_classfile.specs.declared.code.DynamicCall.{DynamicCall}
use Rattle.fcg_classfile.specs.declared.fault.ClassFault.{ClassFault}
use Rattle.fcg_views.specs.declared.view.Ref.{Ref}
use Rattle.fcg_classfile.specs.Sites as sites
use Rattle.fcg_classfile.specs.Breaks.Pool.{Entries}
use Rattle.fcg_pool.specs.declared.pool.RefTexts.{RefTexts}
use Rattle.fcg_reader.specs.declared.site.Target.{Target}
use Rattle.fcg_reader.specs.declared.site.Target.TheVariants.{Method, Field, «Type»}
use Rattle.fcg_reader.specs.declared.site.SiteForm.{SiteForm}
use Rattle.fcg_reader.specs.declared.rows.SiteRow.{SiteRow}
use Rattle.fcg_reader.specs.Internal.Calls.{FoundRows, found_in}

-- what an instruction has is added to the sites and the calls before; or the fault
abbrev pub GivesFound : Entries → Result (Unit {0}) (ReadError ClassFault) → List SiteRow → List SiteRow → List DynamicCall → List DynamicCall → Result sites.Found ClassFault → Type 0
GivesFound pool (Ok done) old_sites new_sites old_calls new_calls read =
    (here : FoundRows) × (read ≡ Ok (found_in pool here)) × (new_sites ≡ old_sites ++ here.sites) × (new_calls ≡ old_calls ++ here.calls)
GivesFound pool (Err e) old_sites new_sites old_calls new_calls read = Fails e read

-- what a site names, as that of the definition
abbrev pub target_in : Target → sites.Target
target_in (Method tags) = sites.ToMethod tags.now
target_in Field = sites.ToField
target_in «Type» = sites.ToType

-- the form of the code, as that of the definition
abbrev pub form_in : SiteForm → sites.SiteForm
form_in form = record { kind = form.kind; target = target_in form.target }

abbrev pub form_if_any : Option SiteForm → Option sites.SiteForm
form_if_any None = None
form_if_any (Some form) = Some (form_in form)

-- the member that a reference of the pool names
abbrev pub ref_of : RefTexts → Ref
ref_of x = record { owner = x.owner.bytes.now; owner_is_interface_ref = x.tag == 11; name = x.name.bytes.now; desc = x.desc.bytes.now }
