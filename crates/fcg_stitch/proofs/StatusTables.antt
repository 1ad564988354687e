-- The statuses of the sites of nodes, node after node.
use Rattle.std.proofs.Common.{◌≡◌, ℕ, zero, suc, ◌+◌, ◌<◌, List, [], ◌∷◌, length, take, get_or, sym, ap, subst, ◌∙◌, refl, arith}
use Rattle.std.specs.Prelude.{Option, Some, None, option_map, map, count_by, slice_get, sum_by}
use Rattle.std.proofs.lemmas.List.{length-map, take_all}
use Rattle.std.proofs.lemmas.List.Sums.{sum_by-cons}
use Rattle.std.proofs.lemmas.Option.{slice_get_within, slice_get-map, get_or_from_slice_get}
use Rattle.fcg_views.specs.declared.view.Site.{Site}
use Rattle.fcg_partial.specs.Parts.{PartShown}
use Rattle.fcg_analysis.specs.Declarations.{Placed}
use Rattle.fcg_analysis.specs.Nodes.{Node}
use Rattle.fcg_analysis.specs.Edges.{Status, status, statuses_of, statuses, is_phantom_status, is_failed_status, phantoms, failed}
use Rattle.fcg_analysis.proofs.General.Places.{before_place, get_flat_map}
use Rattle.fcg_join.specs.Parts.{types_of, nodes_of}
use Rattle.fcg_edges.specs.Rows.{Rows}
use Rattle.fcg_stitch.specs.Status.{status_shown}
use Rattle.fcg_stitch.specs.declared.status.SiteStatus.{SiteStatus}
use Rattle.fcg_stitch.specs.Internal.Rows.{first_sites_from, first_sites, statuses_of_nodes}
use Rattle.fcg_stitch.specs.Internal.Tables.{AreOfNodes}

-- how many sites the nodes before a place have
abbrev pub sites_before : List Node → ℕ → ℕ
sites_before ms k = before_place (λ m. m.method.sites) ms k

first_from : (n : ℕ) (ms : List Node) (k : ℕ) (m : Node) → slice_get ms k ≡ Some m → slice_get (first_sites_from n ms) k ≡ Some (n + sites_before ms k)
first_from n [] k m h = absurd (cc)
first_from n (a ∷ ms) zero m h = let e : n ≡ n + 0 = omega arith in ap Some e
first_from n (a ∷ ms) (suc k) m h =
    let s : sites_before (a ∷ ms) (suc k) ≡ length a.method.sites + sites_before ms k = sum_by-cons (λ (m : Node). length m.method.sites) a (take k ms) in
    let e : n + length a.method.sites + sites_before ms k ≡ n + sites_before (a ∷ ms) (suc k) = omega (arith, s) in
    first_from (n + length a.method.sites) ms k m h ∙ ap Some e

first_at : (ms : List Node) (k : ℕ) (m : Node) → slice_get ms k ≡ Some m → slice_get (first_sites ms) k ≡ Some (sites_before ms k)
first_at ms k m h = let e : 0 + sites_before ms k ≡ sites_before ms k = omega arith in first_from 0 ms k m h ∙ ap Some e

status_there : (types : List Placed) (ms : List Node) (k j : ℕ) (m : Node) (s : Site) → slice_get ms k ≡ Some m → slice_get m.method.sites j ≡ Some s
    → slice_get (statuses_of_nodes types ms) (sites_before ms k + j) ≡ Some (status types s)
status_there types ms k j m s h i =
    let before : before_place (statuses_of types) ms k ≡ sites_before ms k = ap (λ f. sum_by f (take k ms)) (λ i m. length-map m.method.sites (status types) i) in
    ap (λ n. slice_get (statuses_of_nodes types ms) (n + j)) (sym before)
    ∙ get_flat_map (statuses_of types) ms k j m (status types s) h (slice_get-map (status types) m.method.sites j ∙ ap (option_map (status types)) i)

-- the status at a place of a list is this one
pub record HasStatus (ss : List SiteStatus) (n : ℕ) (s : Status) : Type 0 where
  pub shown : SiteStatus
  pub there : slice_get ss n ≡ Some shown
  pub shows : status_shown shown ≡ s

pub status_within : (ss : List SiteStatus) (n : ℕ) (s : Status) → HasStatus ss n s → n < length ss
status_within ss n s h = slice_get_within ss n h.shown h.there

pub status_read : (ss : List SiteStatus) (n : ℕ) (s : Status) → HasStatus ss n s → (v : SiteStatus) → v ≡ get_or ss n v → status_shown v ≡ s
status_read ss n s h v e = ap status_shown (e ∙ get_or_from_slice_get ss n h.shown v h.there) ∙ h.shows

has_status : (ss : List SiteStatus) (n : ℕ) (s : Status) → slice_get (map status_shown ss) n ≡ Some s → HasStatus ss n s
has_status ss n s h = at (slice_get ss n) refl (sym (slice_get-map status_shown ss n) ∙ h)
  where
    at : (o : Option SiteStatus) → slice_get ss n ≡ o → option_map status_shown o ≡ Some s → HasStatus ss n s
    at None e f = absurd (cc)
    at (Some v) e f = record { shown = v; there = e; shows = let same : Some (status_shown v) ≡ Some s = f in cc }

module _ (parts : List PartShown) (rows : Rows) (ss : List SiteStatus) (fs : List ℕ) (t : AreOfNodes parts (length (nodes_of parts)) rows ss fs) where
  whole : take (length (nodes_of parts)) (nodes_of parts) ≡ nodes_of parts
  whole = take_all (length (nodes_of parts)) (nodes_of parts) (omega arith)

  statuses_are : map status_shown ss ≡ statuses_of_nodes (types_of parts) (nodes_of parts)
  statuses_are = t.statuses ∙ ap (statuses_of_nodes (types_of parts)) whole

  pub all_statuses : map status_shown ss ≡ statuses (types_of parts)
  unfolding statuses
  all_statuses = statuses_are

  pub phantoms_are : count_by is_phantom_status (map status_shown ss) ≡ phantoms (types_of parts)
  phantoms_are = ap (count_by is_phantom_status) all_statuses

  pub failed_are : count_by is_failed_status (map status_shown ss) ≡ failed (types_of parts)
  failed_are = ap (count_by is_failed_status) all_statuses

  module _ (k : ℕ) (m : Node) (h : slice_get (nodes_of parts) k ≡ Some m) where
    first_is : slice_get fs k ≡ Some (sites_before (nodes_of parts) k)
    first_is = ap (λ ns. slice_get ns k) (t.firsts ∙ ap first_sites whole) ∙ first_at (nodes_of parts) k m h

    status_at : (j : ℕ) (s : Site) → slice_get m.method.sites j ≡ Some s → HasStatus ss (sites_before (nodes_of parts) k + j) (status (types_of parts) s)
    status_at j s i =
        has_status ss (sites_before (nodes_of parts) k + j) (status (types_of parts) s)
        (ap (λ vs. slice_get vs (sites_before (nodes_of parts) k + j)) statuses_are ∙ status_there (types_of parts) (nodes_of parts) k j m s h i)

    pub first_within : k < length fs
    first_within = slice_get_within fs k (sites_before (nodes_of parts) k) first_is

    -- by the reading of the first site
    pub status_from : (first j : ℕ) (s : Site) → first ≡ get_or fs k first → slice_get m.method.sites j ≡ Some s → HasStatus ss (first + j) (status (types_of parts) s)
    status_from first j s e i =
        let same : first ≡ sites_before (nodes_of parts) k = e ∙ get_or_from_slice_get fs k (sites_before (nodes_of parts) k) first first_is in
        subst (λ (n : ℕ). HasStatus ss (n + j) (status (types_of parts) s)) (sym same) (status_at j s i)
