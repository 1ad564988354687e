-- What became of a site, in the code and in the rules.
use Rattle.fcg_analysis.specs.Edges as rules
use Rattle.fcg_join.specs.Outcomes.{cause_of}
use Rattle.fcg_stitch.specs.declared.status.SiteStatus.{SiteStatus}
use Rattle.fcg_stitch.specs.declared.status.SiteStatus.TheVariants as statuses

abbrev pub status_shown : SiteStatus → rules.Status
status_shown statuses.NoCall = rules.IsNoCall
status_shown statuses.Method = rules.IsMethod
status_shown statuses.Phantom = rules.IsPhantom
status_shown (statuses.Failed c) = rules.IsFailed (cause_of c)
