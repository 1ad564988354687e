use Rattle.std.proofs.Common.{◌≡◌, ◌<◌, List, length, sym, subst}
use Rattle.fcg_views.specs.declared.view.View.{View}
use Rattle.fcg_partial.specs.Graph.{StoredMethod}
use Rattle.fcg_partial.specs.Views.{graph_of}
use Rattle.fcg_partial.specs.Accessors.{HasMethod, row_of_method, type_in}
use Rattle.fcg_join.proofs.MethodRows.{method_within, own_row}
use Rattle.fcg_join.proofs.methods.load_method.Goals as goal

pub method_at-requires : goal.method_at-requires
method_at-requires c = subst (λ (vs : List View). c.args.j < length (type_in (graph_of vs) c.args.k).methods) (sym c.graph.ensures)
    (method_within c.args.part.now c.args.k c.args.j c.requires.0 c.requires.1)

pub returns-clause-row : goal.returns-clause-row
returns-clause-row c = λ m h. own_row c.args.part.now c.args.k c.args.j m h c.method_at.result
    (subst (λ (vs : List View). (s : StoredMethod) → HasMethod (graph_of vs) c.args.k c.args.j s → c.method_at.result ≡ row_of_method s) c.graph.ensures c.method_at.ensures.row)

pub returns-clause-name : goal.returns-clause-name
returns-clause-name c = subst (λ (vs : List View). c.method_at.result.name < length (graph_of vs).names) c.graph.ensures c.method_at.ensures.below.0

pub returns-clause-desc : goal.returns-clause-desc
returns-clause-desc c = subst (λ (vs : List View). c.method_at.result.desc < length (graph_of vs).names) c.graph.ensures c.method_at.ensures.below.1
