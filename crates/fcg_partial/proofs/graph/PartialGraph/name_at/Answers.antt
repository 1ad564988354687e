use Rattle.std.proofs.Common.{rules, ◌<◌, ℕ, List, get_or, sym, ap, subst, ◌∙◌}
use Rattle.std.specs.Prelude.{Some}
use Rattle.fcg_partial.specs.Internal.RowPlaces.{text_at, HasText}
use Rattle.fcg_partial.proofs.AccessLaws.{name_many, name_there}
use Rattle.fcg_partial.proofs.graph.PartialGraph.name_at.Goals as goal

pub index-requires : goal.index-requires
index-requires c =
    let lt = subst (λ (m : ℕ). c.args.n < m) (name_many c.self.inside.bytes.items c.self.inside.index c.self.invariant c.args.self.now c.self.view_is) c.requires in
    search rules

pub find_text-requires : goal.find_text-requires
find_text-requires c =
    let lt = subst (λ (m : ℕ). c.args.n < m) (name_many c.self.inside.bytes.items c.self.inside.index c.self.invariant c.args.self.now c.self.view_is) c.requires in
    let here = (name_there c.self.inside.bytes.items c.self.inside.index c.self.invariant c.args.self.now c.self.view_is c.args.n c.index.result.now lt).0 in
    subst (λ (at : ℕ). HasText c.as_slice.result.now at) (sym c.index.ensures) (subst (λ (b : List ℕ). HasText b (get_or c.self.inside.index.names.items c.args.n c.index.result.now)) (sym c.as_slice.ensures.value) here)

pub returns : goal.returns
returns c =
    let lt = subst (λ (m : ℕ). c.args.n < m) (name_many c.self.inside.bytes.items c.self.inside.index c.self.invariant c.args.self.now c.self.view_is) c.requires in
    let text = c.find_text.ensures ∙ ap (λ (b : List ℕ). text_at b c.index.result.now) c.as_slice.ensures.value ∙ ap (text_at c.self.inside.bytes.items) c.index.ensures in
    (name_there c.self.inside.bytes.items c.self.inside.index c.self.invariant c.args.self.now c.self.view_is c.args.n c.index.result.now lt).1 ∙ ap (λ (l : List ℕ). Some l) (sym text)
