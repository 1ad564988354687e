-- Sites while they are gone through, and what is found for them.
use Rattle.std.specs.Prelude.{◌≡◌, ℕ, ◌||◌, List, ◌++◌, length, map}
use Rattle.fcg_views.specs.declared.view.Site.{Site}
use Rattle.fcg_partial.specs.Parts.{PartShown}
use Rattle.fcg_analysis.specs.Declarations.{Placed}
use Rattle.fcg_analysis.specs.Edges as rules
use Rattle.fcg_join.specs.Parts.{nodes_of}
use Rattle.fcg_join.specs.Joined.{HasType}
use Rattle.fcg_edges.specs.Rows.{Rows, has}
use Rattle.fcg_stitch.specs.Status.{status_shown}
use Rattle.fcg_stitch.specs.declared.sites.CallSite.{CallSite}
use Rattle.fcg_stitch.specs.declared.callers.Work.{Work}
use Rattle.fcg_stitch.specs.Internal.References.{IsReferenceAt}
use Rattle.fcg_stitch.specs.Internal.Rows.{call_kind, AreStates, IsRowWithin, row_has}

-- it is the site s of the type x
pub record CallsAs (parts : List PartShown) (c : CallSite) (x : Placed) (s : Site) : Type 0 where
  pub class : HasType parts c.caller x
  pub call : c.call ≡ call_kind (rules.call_of s.kind)
  pub reference : IsReferenceAt parts c.part c.reference s.target

abbrev pub IsCallSite : List PartShown → CallSite → Type 0
IsCallSite parts c = (x : Placed) × (s : Site) × CallsAs parts c x s

-- what was found so far is right
pub record IsWork (parts : List PartShown) (rows : Rows) (w : Work) : Type 0 where
  pub count : rows.count ≡ length (nodes_of parts)
  pub states : AreStates parts rows.lists w.states
  pub row : IsRowWithin rows w.row.targets.items w.row.uses.items

-- the row of a caller has more targets: these
abbrev pub AddsTargets : Rows → Rows → Work → Work → List ℕ → Type 0
AddsTargets before now old new ks = (b : ℕ) → row_has now.lists new.row.targets.items new.row.uses.items b ≡ (row_has before.lists old.row.targets.items old.row.uses.items b || has ks b)

-- there are more statuses: these
abbrev pub AddsStatuses : Work → Work → List rules.Status → Type 0
AddsStatuses old new added = map status_shown new.statuses.items ≡ map status_shown old.statuses.items ++ added
