use Rattle.std.proofs.Common.{◌≡◌, ℕ, List, subst, ◌∙◌}
use Rattle.std.specs.Prelude.{IfOk, All}
use Rattle.std.proofs.lemmas.Result.{IfOk-weaker}
use Rattle.fcg_partial.specs.Graph.{IsGraph}
use Rattle.fcg_partial.specs.Views.{graph_of}
use Rattle.fcg_partial.specs.SmallNumbers.{IsSmallView}
use Rattle.fcg_partial.proofs.GraphOfViews.{have_counts}
use Rattle.fcg_partial.proofs.MadeLaws.{names_all, views_few, are_tables, refs_all, text_is, made_graph}
use Rattle.fcg_partial.proofs.graph.write_views.Goals as goal

pub new-requires-clause-rises : goal.new-requires-clause-rises
new-requires-clause-rises c = (are_tables c.args.views.now c.requires.valid c.requires.fits c.args.names.now c.requires.names c.in_ok-rows.rows.items (c.in_ok-rows.ensures c.args.names.now c.requires.numbers)).refs_rise

pub new-requires-clause-few : goal.new-requires-clause-few
new-requires-clause-few c = (are_tables c.args.views.now c.requires.valid c.requires.fits c.args.names.now c.requires.names c.in_ok-rows.rows.items (c.in_ok-rows.ensures c.args.names.now c.requires.numbers)).few_refs

pub write_graph-requires-clause-tables : goal.write_graph-requires-clause-tables
write_graph-requires-clause-tables c = are_tables c.args.views.now c.requires.valid c.requires.fits c.args.names.now c.requires.names c.in_ok-refs.refs (c.in_ok-refs.ensures ∙ c.in_ok-rows.ensures c.args.names.now c.requires.numbers)

pub write_graph-requires-clause-names : goal.write_graph-requires-clause-names
write_graph-requires-clause-names c = names_all c.args.views.now c.requires.valid c.requires.fits c.args.names.now c.requires.names

pub write_graph-requires-clause-refs : goal.write_graph-requires-clause-refs
write_graph-requires-clause-refs c = refs_all c.args.views.now c.requires.valid c.requires.fits c.args.names.now c.requires.names c.in_ok-refs.refs (c.in_ok-refs.ensures ∙ c.in_ok-rows.ensures c.args.names.now c.requires.numbers)

pub write_graph-requires-clause-few : goal.write_graph-requires-clause-few
write_graph-requires-clause-few c = views_few c.args.views.now c.requires.valid c.requires.fits c.args.names.now c.requires.names

pub write_graph-requires-clause-counts : goal.write_graph-requires-clause-counts
write_graph-requires-clause-counts c = have_counts c.args.views.now c.requires.valid

pub returns-clause-text : goal.returns-clause-text
returns-clause-text c = subst (λ (t : List ℕ). IfOk c.write_graph.result (λ out. out.items ≡ t)) (text_is c.args.views.now c.requires.valid c.requires.fits c.args.names.now c.requires.names c.in_ok-refs.refs (c.in_ok-refs.ensures ∙ c.in_ok-rows.ensures c.args.names.now c.requires.numbers)) c.write_graph.ensures.text

pub returns-clause-graph : goal.returns-clause-graph
returns-clause-graph c = IfOk-weaker c.write_graph.result (λ out. All IsSmallView c.args.views.now) (λ out. IsGraph (graph_of c.args.views.now)) (λ out small. made_graph c.args.views.now c.requires.valid c.requires.fits c.args.names.now c.requires.names c.in_ok-refs.refs (c.in_ok-refs.ensures ∙ c.in_ok-rows.ensures c.args.names.now c.requires.numbers) small) c.write_graph.ensures.small
