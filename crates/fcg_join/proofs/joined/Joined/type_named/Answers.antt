use Rattle.std.proofs.Common.{ℕ, List, sym, subst, ◌∙◌, arith}
use Rattle.std.specs.Prelude.{Option, None}
use Rattle.std.proofs.lemmas.List.{get_or_default}
use Rattle.fcg_partial.specs.Parts.{PartShown}
use Rattle.fcg_analysis.specs.Types.{type_named}
use Rattle.fcg_join.specs.Parts.{types_of}
use Rattle.fcg_join.specs.SetNames.{set_names}
use Rattle.fcg_join.specs.Joined.{IsTypeNumber}
use Rattle.fcg_join.specs.Internal.Tables.{IsJoined}
use Rattle.fcg_join.proofs.GraphRows.{item}
use Rattle.fcg_join.proofs.TableAnswers.{named_there, in_range}
use Rattle.fcg_join.proofs.joined.Joined.type_named.Goals as goal

pub returns-clause-value : goal.returns-clause-value
returns-clause-value c = λ n h. (
    let j = subst (λ (ps : List PartShown). IsJoined ps c.self.inside.tables) c.self.view_is c.self.invariant in
    let m = j.by_name.long in
    let e = c.type_id.ensures ∙ c.index.ensures ∙ get_or_default c.self.inside.tables.linked.by_name.items c.args.id.0 c.index.result.now None (omega (arith, c.requires)) in
    subst (λ (o : Option ℕ). IsTypeNumber (types_of c.args.self.now) o (type_named (types_of c.args.self.now) n)) (sym e) (named_there c.args.self.now c.self.inside.tables j n c.args.id.0 h))

pub returns-clause-range : goal.returns-clause-range
returns-clause-range c =
    let j = subst (λ (ps : List PartShown). IsJoined ps c.self.inside.tables) c.self.view_is c.self.invariant in
    let m = j.by_name.long in
    let e = c.type_id.ensures ∙ c.index.ensures ∙ get_or_default c.self.inside.tables.linked.by_name.items c.args.id.0 c.index.result.now None (omega (arith, c.requires)) in
    let n = item (set_names c.args.self.now) c.args.id.0 c.requires in
    in_range (types_of c.args.self.now) _ _ c.type_id.result (named_there c.args.self.now c.self.inside.tables j n.0 c.args.id.0 n.1) e
