use Rattle.std.proofs.Common.{ℕ, List, sym, subst, ◌∙◌, arith}
use Rattle.std.specs.Prelude.{Option, None}
use Rattle.std.proofs.lemmas.List.{get_or_default}
use Rattle.fcg_partial.specs.Parts.{PartShown}
use Rattle.fcg_analysis.specs.Types.{superclass}
use Rattle.fcg_join.specs.Parts.{types_of}
use Rattle.fcg_join.specs.Joined.{IsTypeNumber}
use Rattle.fcg_join.specs.Internal.Tables.{IsJoined}
use Rattle.fcg_join.proofs.GraphRows.{item}
use Rattle.fcg_join.proofs.TableAnswers.{superclasses_many, superclass_there, in_range}
use Rattle.fcg_join.proofs.joined.Joined.superclass.Goals as goal

pub index-requires : goal.index-requires
index-requires c =
    let j = subst (λ (ps : List PartShown). IsJoined ps c.self.inside.tables) c.self.view_is c.self.invariant in
    let m = superclasses_many c.args.self.now c.self.inside.tables j in
    let k = c.self.inside.tables.superclasses.ok in
    omega (arith, c.requires)

pub returns-clause-value : goal.returns-clause-value
returns-clause-value c = λ x h. (
    let j = subst (λ (ps : List PartShown). IsJoined ps c.self.inside.tables) c.self.view_is c.self.invariant in
    let m = superclasses_many c.args.self.now c.self.inside.tables j in
    let e = c.type_id.ensures ∙ c.index.ensures ∙ get_or_default c.self.inside.tables.superclasses.items c.args.t.0 c.index.result.now None (omega (arith, c.requires)) in
    subst (λ (o : Option ℕ). IsTypeNumber (types_of c.args.self.now) o (superclass (types_of c.args.self.now) x)) (sym e) (superclass_there c.args.self.now c.self.inside.tables j c.args.t.0 x h))

pub returns-clause-range : goal.returns-clause-range
returns-clause-range c =
    let j = subst (λ (ps : List PartShown). IsJoined ps c.self.inside.tables) c.self.view_is c.self.invariant in
    let m = superclasses_many c.args.self.now c.self.inside.tables j in
    let e = c.type_id.ensures ∙ c.index.ensures ∙ get_or_default c.self.inside.tables.superclasses.items c.args.t.0 c.index.result.now None (omega (arith, c.requires)) in
    let x = item (types_of c.args.self.now) c.args.t.0 c.requires in
    in_range (types_of c.args.self.now) _ _ c.type_id.result (superclass_there c.args.self.now c.self.inside.tables j c.args.t.0 x.0 x.1) e
