use Rattle.std.proofs.lemmas.List.Elements.{recursion_from_All}
use Rattle.fcg_views.specs.Valid.{IsValid}
use Rattle.fcg_partial.specs.SmallNumbers.{IsSmallView}
use Rattle.fcg_partial.proofs.GraphOfViews.{graph_is}
use Rattle.fcg_partial.proofs.OneSpelling.{graph_back}
use Rattle.fcg_partial.proofs.ViewLaws.{views_back}
use Rattle.fcg_partial.proofs.laws.one_graph_each.Goals as goal

pub returns-clause-views : goal.returns-clause-views
returns-clause-views c = λ views. views_back views

pub returns-clause-graphs : goal.returns-clause-graphs
returns-clause-graphs c = λ g is. graph_back g is

pub returns-clause-formed : goal.returns-clause-formed
returns-clause-formed c = λ views valid small fits. graph_is views (recursion_from_All IsValid views valid) (recursion_from_All IsSmallView views small) fits
