-- Handle sites of calls of bootstrap methods, whichever call has them.
use Rattle.std.specs.Prelude.{◌≡◌, ◌+◌, ◌++◌, ℕ, List, [], ◌∷◌, length, Bool, true, false, nat_lt, slice_index_or, Option, Some, None, Result, Ok, Err, if◌then◌else◌}
use Rattle.std.specs.List.{slice_get}
use Rattle.fcg_grammar.specs.declared.error.ReadError.{ReadError}
use Rattle.fcg_grammar.specs.Reading.{◌>>=◌, unless_broken, Fails}
use Rattle.fcg_grammar.specs.Rows.{carried}
use Rattle.fcg_views.specs.declared.view.Site.{Site}
use Rattle.fcg_classfile.specs.declared.fault.ClassFault.{ClassFault}
use Rattle.fcg_classfile.specs.declared.fault.ClassRule.TheVariants.{ManySites}
use Rattle.fcg_classfile.specs.ClassFile.{BootstrapMethod}
use Rattle.fcg_classfile.specs.Sites.{concat_sites}
use Rattle.fcg_classfile.specs.Breaks.Fault.{fault}
use Rattle.fcg_classfile.specs.Breaks.Pool.{Entries}
use Rattle.fcg_classfile.specs.Breaks.Bootstrap.{row_sites}
use Rattle.fcg_reader.specs.declared.rows.SiteRow.{SiteRow}
use Rattle.fcg_reader.specs.Internal.Rows.{sites_in}

-- the bootstrap methods of a class file of this pool
pub record BootstrapsIn : Type 0 where
  pub pool : Entries
  pub rows : List BootstrapMethod

abbrev pub bootstraps : Entries → List BootstrapMethod → BootstrapsIn
bootstraps pool rows = record { pool = pool; rows = rows }

-- the same site at another pc
abbrev pub moved : ℕ → Site → Site
moved pc s = record { pc = pc; kind = s.kind; target = s.target }

abbrev pub moved_row : ℕ → SiteRow → SiteRow
moved_row pc s = record { pc = pc; kind = s.kind; target = s.target }

-- a site of a call at a pc, whose opcode stands at a place, where so many sites of the class are before it
unfoldable pub moved_at : ℕ → ℕ → Site → ℕ → Result (Site × ℕ) ClassFault
moved_at at pc s count = unless_broken (nat_lt count 1000000) (fault at 0 ManySites) >>= λ few. Ok (moved pc s, count + 1)

abbrev pub all_moved_at : ℕ → ℕ → List Site → ℕ → Result (List Site × ℕ) ClassFault
all_moved_at at pc sites count = carried (moved_at at pc) sites count

-- the sites of a call have all of these targets, wherever it stands
abbrev pub AreSitesOf : Entries → BootstrapMethod → List Site → Type 0
AreSitesOf pool b sites = (at pc count : ℕ) → row_sites pool at pc b count ≡ all_moved_at at pc sites count

-- what is kept of a bootstrap method are the sites of its calls
abbrev pub AreKept : Entries → List BootstrapMethod → List (Option (List SiteRow)) → Type 0
AreKept pool rows kept = (i : ℕ) (b : BootstrapMethod) (sites : List SiteRow) → slice_get rows i ≡ Some b → slice_index_or kept i None ≡ Some sites → AreSitesOf pool b (sites_in pool sites)

-- the sites of an index that has one, or none
abbrev pub site_list : Option SiteRow → List SiteRow
site_list None = []
site_list (Some s) = s ∷ []

-- sites that were read of a list, and how many the class has with them
abbrev pub counted : Entries → ℕ → List SiteRow → List Site × ℕ
counted pool count sites = (sites_in pool sites, count + length sites)

-- what each of a list gives, as one list
abbrev pub all_joined : Result (List (List Site) × ℕ) ClassFault → Result (List Site × ℕ) ClassFault
all_joined read = read >>= λ x. Ok (concat_sites x.0, x.1)

-- Sites more in a list, where so many sites of the class are before the list; or the fault.
abbrev pub GivesMore : Entries → Result (Unit {0}) (ReadError ClassFault) → ℕ → List SiteRow → List SiteRow → Result (List Site × ℕ) ClassFault → Type 0
GivesMore pool (Ok done) count old new read = (here : List SiteRow) × (new ≡ old ++ here) × (read ≡ Ok (sites_in pool here, count + length new))
GivesMore pool (Err e) count old new read = Fails e read

-- the next of two lists in the order of pc is that of the second
abbrev pub is_second : List SiteRow → List SiteRow → Bool
is_second [] hs = true
is_second (s ∷ ss) [] = false
is_second (s ∷ ss) (h ∷ hs) = nat_lt h.pc s.pc

-- two lists of rows, each in the order of pc, as one in this order
abbrev pub merged_rows : List SiteRow → List SiteRow → List SiteRow
merged_rows [] hs = hs
merged_rows (s ∷ ss) [] = s ∷ ss
merged_rows (s ∷ ss) (h ∷ hs) = if nat_lt h.pc s.pc then h ∷ merged_rows (s ∷ ss) hs else s ∷ merged_rows ss (h ∷ hs)
