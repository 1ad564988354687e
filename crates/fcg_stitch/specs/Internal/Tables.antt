-- The tables of a stitched set.
use Rattle.std.specs.Prelude.{◌≡◌, ℕ, ◌<◌, List, length, map, take}
use Rattle.fcg_partial.specs.Parts.{PartShown}
use Rattle.fcg_analysis.specs.Edges.{is_phantom_status, is_failed_status}
use Rattle.fcg_analysis.specs.Edges as rules
use Rattle.fcg_join.specs.Parts.{types_of, nodes_of}
use Rattle.fcg_edges.specs.Rows.{Rows, leads}
use Rattle.fcg_stitch.specs.Status.{status_shown}
use Rattle.fcg_stitch.specs.declared.status.SiteStatus.{SiteStatus}
use Rattle.fcg_stitch.specs.Internal.Rows.{leads_to, first_sites, statuses_of_nodes}

-- the rows, the statuses and the first sites of the first k nodes
pub record AreOfNodes (parts : List PartShown) (k : ℕ) (rows : Rows) (ss : List SiteStatus) (fs : List ℕ) : Type 0 where
  pub count : rows.count ≡ length (nodes_of parts)
  pub callers : length rows.targets ≡ k
  pub leads : (a b : ℕ) → a < k → leads rows a b ≡ leads_to (types_of parts) a b
  pub statuses : map status_shown ss ≡ statuses_of_nodes (types_of parts) (take k (nodes_of parts))
  pub firsts : fs ≡ first_sites (take k (nodes_of parts))

-- those of all nodes, and the counts
pub record AreTables (parts : List PartShown) (rows : Rows) (ss : List SiteStatus) (fs : List ℕ) (p f : ℕ) : Type 0 where
  pub nodes : AreOfNodes parts (length (nodes_of parts)) rows ss fs
  pub phantoms : p ≡ rules.phantoms (types_of parts)
  pub failed : f ≡ rules.failed (types_of parts)
