use Rattle.std.proofs.Common.{◌≤◌, ◌+◌, List, length, ap, subst, ◌∙◌}
use Rattle.std.specs.Prelude.{count_by, map}
use Rattle.std.proofs.lemmas.Result.{err_from_is_err_and}
use Rattle.fcg_partial.specs.Parts.{PartShown}
use Rattle.fcg_analysis.specs.Edges.{edges, is_phantom_status, is_failed_status}
use Rattle.fcg_join.specs.Parts.{types_of}
use Rattle.fcg_stitch.specs.Status.{status_shown}
use Rattle.fcg_stitch.specs.Limits.{call_sites}
use Rattle.fcg_stitch.specs.declared.status.SiteStatus.{SiteStatus}
use Rattle.fcg_stitch.proofs.Refusals.{refuses, too_large}
use Rattle.fcg_stitch.proofs.StatusTables.{phantoms_are, failed_are}
use Rattle.fcg_stitch.proofs.stitching.stitch.Goals as goal

pub returns-in_err-tables-clause-refused : goal.returns-in_err-tables-clause-refused
returns-in_err-tables-clause-refused g c =
    let p = err_from_is_err_and c.from_residual-in_err-tables.result c.from_residual-in_err-tables.ensures.1 in
    rw (p.1, p.2) (refuses c.args.parts.now c.in_ok-joined.joined c.in_ok-joined.ensures (c.fits.ensures.0 c.if-not-fits.false) c.in_err-tables.field-0.0 c.in_err-tables.ensures.refused)

pub invariant_of-result : goal.invariant_of-result
invariant_of-result g c =
    let t = c.in_ok-tables.ensures.tables in
    record {
      nodes = t;
      phantoms = c.count_phantoms-phantoms.ensures ∙ ap (λ (ss : List SiteStatus). count_by is_phantom_status (map status_shown ss)) c.as_slice-2.ensures.value ∙ phantoms_are _ _ _ _ t;
      failed = c.count_failed-failed.ensures ∙ ap (λ (ss : List SiteStatus). count_by is_failed_status (map status_shown ss)) c.as_slice-3.ensures.value ∙ failed_are _ _ _ _ t;
    }

pub returns-clause-fits : goal.returns-clause-fits
returns-clause-fits g c = record {
  bytes = c.fits.ensures.0 c.if-not-fits.false;
  edges = subst (λ (ps : List PartShown). length (edges (types_of ps)) ≤ 32000000) c.in_ok-joined.ensures c.in_ok-tables.ensures.few;
}

pub returns-clause-cost : goal.returns-clause-cost
returns-clause-cost g c = subst (λ (ps : List PartShown). c.stitch_nodes.new.steps ≤ c.args.steps.now + call_sites (types_of ps)) c.in_ok-joined.ensures c.in_ok-tables.ensures.cost

pub returns-then-not-fits-clause-refused : goal.returns-then-not-fits-clause-refused
returns-then-not-fits-clause-refused g c = too_large c.args.parts.now _ c.as_slice.ensures c.fits.result c.if-not-fits.true c.fits.ensures.1 c.count_bytes.result c.count_bytes.ensures
