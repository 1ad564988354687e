use Rattle.std.proofs.Common.{sym, subst, ◌∙◌}
use Rattle.fcg_analysis.specs.Nodes.{super_methods}
use Rattle.fcg_join.specs.Names.{text_at}
use Rattle.fcg_join.specs.Parts.{types_of}
use Rattle.fcg_join.specs.SetNames.{set_names}
use Rattle.fcg_join.specs.Internal.Supers.{is_of, IsOnly}
use Rattle.fcg_join.proofs.GraphRows.{item}
use Rattle.fcg_join.proofs.SuperAnswers.{mentioned_small, text_there, unnamed, itself, undeclared, closed, declared_open}
use Rattle.fcg_join.proofs.joined.Joined.declared_above.Goals as goal

pub type_named-requires : goal.type_named-requires
type_named-requires c = (let x = item (types_of c.args.self.now) c.args.t.0 c.requires.there in mentioned_small c.args.self.now x.0 c.args.name (c.requires.mentioned x.0 x.1))

pub returns-in_err-owner-clause-value : goal.returns-in_err-owner-clause-value
returns-in_err-owner-clause-value c = λ x sig h g. (
    let parts = c.args.self.now in
    let n = c.args.name in
    let text = text_there parts n (mentioned_small parts x n (c.requires.mentioned x h)) in
    subst (IsOnly parts (super_methods (types_of parts) x sig) (is_of parts n)) (sym c.from_residual.ensures)
    (unnamed parts c.args.t.0 x h n sig (c.in_err-owner.ensures.value (text_at (set_names parts) n) text)))

pub returns-then-owner-t-clause-value : goal.returns-then-owner-t-clause-value
returns-then-owner-t-clause-value c = λ x sig h g. (
    let parts = c.args.self.now in
    let n = c.args.name in
    let text = text_there parts n (mentioned_small parts x n (c.requires.mentioned x h)) in
    itself parts c.args.t.0 x h n sig c.in_ok-owner.owner.0 (c.in_ok-owner.ensures.value (text_at (set_names parts) n) text) c.if-owner-t.true)

pub returns-in_err-m-clause-value : goal.returns-in_err-m-clause-value
returns-in_err-m-clause-value c = λ x sig h g. (
    let parts = c.args.self.now in
    let n = c.args.name in
    let text = text_there parts n (mentioned_small parts x n (c.requires.mentioned x h)) in
    subst (IsOnly parts (super_methods (types_of parts) x sig) (is_of parts n)) (sym c.from_residual-in_err-m.ensures)
    (undeclared parts c.args.t.0 x h n sig c.in_ok-owner.owner.0 (c.in_ok-owner.ensures.value (text_at (set_names parts) n) text) c.tell_apart.ensures
    (λ u hu. c.in_err-m.ensures.value u sig hu g)))

pub returns-then-is_open-clause-value : goal.returns-then-is_open-clause-value
returns-then-is_open-clause-value c = λ x sig h g. (
    let parts = c.args.self.now in
    let n = c.args.name in
    let text = text_there parts n (mentioned_small parts x n (c.requires.mentioned x h)) in
    declared_open parts c.args.t.0 x h n sig c.in_ok-owner.owner.0 (c.in_ok-owner.ensures.value (text_at (set_names parts) n) text) c.tell_apart.ensures
    c.in_ok-m.m (λ u hu. c.in_ok-m.ensures.value u sig hu g) c.if-owner-t.false (c.requires.mentioned x h) (λ m hm. sym c.if-is_open.true ∙ c.is_open.ensures m hm))

pub returns-else-is_open-clause-value : goal.returns-else-is_open-clause-value
returns-else-is_open-clause-value c = λ x sig h g. (
    let parts = c.args.self.now in
    let n = c.args.name in
    let text = text_there parts n (mentioned_small parts x n (c.requires.mentioned x h)) in
    closed parts c.args.t.0 x h n sig c.in_ok-owner.owner.0 (c.in_ok-owner.ensures.value (text_at (set_names parts) n) text) c.tell_apart.ensures
    c.in_ok-m.m (λ u hu. c.in_ok-m.ensures.value u sig hu g) (λ m hm. sym c.if-is_open.false ∙ c.is_open.ensures m hm))
