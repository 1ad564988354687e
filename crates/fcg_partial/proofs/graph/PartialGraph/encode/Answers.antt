use Rattle.std.proofs.Common.{rules, ◌≡◌, ℕ, List, ap, ◌∙◌}
use Rattle.std.specs.Prelude.{Ok}
use Rattle.fcg_grammar.specs.Reading.{seen}
use Rattle.fcg_views.specs.declared.view.View.{View}
use Rattle.fcg_partial.specs.Views.{shown, text_of}
use Rattle.fcg_partial.specs.Reading.{graph_at}
use Rattle.fcg_partial.proofs.KeptLaws.{kept_text, read_gives}
use Rattle.fcg_partial.proofs.graph.PartialGraph.encode.Goals as goal

pub returns-clause-text : goal.returns-clause-text
returns-clause-text c =
    let copied : c.from.result ≡ c.self.inside.bytes.items = search rules in
    copied ∙ kept_text c.self.inside.bytes.items c.self.inside.index c.self.invariant ∙ ap text_of c.self.view_is

pub returns-clause-again : goal.returns-clause-again
returns-clause-again c =
    let copied : c.from.result ≡ c.self.inside.bytes.items = search rules in
    ap (λ (b : List ℕ). seen shown (graph_at b)) copied
    ∙ read_gives c.self.inside.bytes.items c.self.invariant.indexed.graph c.self.invariant.indexed.read
    ∙ ap (λ (vs : List View). Ok vs) c.self.view_is
