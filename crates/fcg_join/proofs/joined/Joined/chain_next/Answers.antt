use Rattle.std.proofs.Common.{◌≡◌, ℕ, List, get_or, sym, ap, subst, ◌∙◌, arith}
use Rattle.std.specs.Prelude.{Option, None, ◌||◌}
use Rattle.std.proofs.lemmas.List.{get_or_default}
use Rattle.fcg_partial.specs.Parts.{PartShown}
use Rattle.fcg_analysis.specs.Declarations.{is_object, is_interface}
use Rattle.fcg_analysis.specs.NamesAndFlags.{has}
use Rattle.fcg_analysis.specs.Laws.ChainParts.{next_in_chain}
use Rattle.fcg_join.specs.declared.heads.TypeHead.{TypeHead}
use Rattle.fcg_join.specs.Parts.{types_of}
use Rattle.fcg_join.specs.Joined.{IsTypeNumber}
use Rattle.fcg_join.specs.Internal.Tables.{IsJoined, next_numbered}
use Rattle.fcg_join.proofs.GraphRows.{item}
use Rattle.fcg_join.proofs.TableAnswers.{superclasses_many, next_there, in_range}
use Rattle.fcg_join.proofs.joined.Joined.chain_next.Goals as goal

pub index-superclass-requires : goal.index-superclass-requires
index-superclass-requires c =
    let j = subst (λ (ps : List PartShown). IsJoined ps c.self.inside.tables) c.self.view_is c.self.invariant in
    let m = superclasses_many c.args.self.now c.self.inside.tables j in
    let k = c.self.inside.tables.superclasses.ok in
    omega (arith, c.requires)

pub returns-clause-value : goal.returns-clause-value
returns-clause-value c = λ x h. (
    let j = subst (λ (ps : List PartShown). IsJoined ps c.self.inside.tables) c.self.view_is c.self.invariant in
    let m = superclasses_many c.args.self.now c.self.inside.tables j in
    let super : c.index-superclass.result.now ≡ get_or c.self.inside.tables.superclasses.items c.args.t.0 None =
    c.index-superclass.ensures ∙ get_or_default c.self.inside.tables.superclasses.items c.args.t.0 c.index-superclass.result.now None (omega (arith, c.requires)) in
    let ends : c.ends_chain-ends.result ≡ (is_object x || is_interface x) = c.ends_chain-ends.ensures ∙ ap (λ (g : TypeHead). g.is_object || has 0x0200 g.flags) (c.head.ensures.value x h).head_is in
    let e = c.type_id.ensures ∙ c.next_number.ensures ∙ ap (λ o. next_numbered o c.ends_chain-ends.result c.self.inside.tables.object) super
    ∙ ap (λ b. next_numbered (get_or c.self.inside.tables.superclasses.items c.args.t.0 None) b c.self.inside.tables.object) ends in
    subst (λ (o : Option ℕ). IsTypeNumber (types_of c.args.self.now) o (next_in_chain (types_of c.args.self.now) x)) (sym e) (next_there c.args.self.now c.self.inside.tables j c.args.t.0 x h))

pub returns-clause-range : goal.returns-clause-range
returns-clause-range c =
    let x = item (types_of c.args.self.now) c.args.t.0 c.requires in
    let j = subst (λ (ps : List PartShown). IsJoined ps c.self.inside.tables) c.self.view_is c.self.invariant in
    let m = superclasses_many c.args.self.now c.self.inside.tables j in
    let super : c.index-superclass.result.now ≡ get_or c.self.inside.tables.superclasses.items c.args.t.0 None =
    c.index-superclass.ensures ∙ get_or_default c.self.inside.tables.superclasses.items c.args.t.0 c.index-superclass.result.now None (omega (arith, c.requires)) in
    let ends : c.ends_chain-ends.result ≡ (is_object x.0 || is_interface x.0) = c.ends_chain-ends.ensures ∙ ap (λ (g : TypeHead). g.is_object || has 0x0200 g.flags) (c.head.ensures.value x.0 x.1).head_is in
    let e = c.type_id.ensures ∙ c.next_number.ensures ∙ ap (λ o. next_numbered o c.ends_chain-ends.result c.self.inside.tables.object) super
    ∙ ap (λ b. next_numbered (get_or c.self.inside.tables.superclasses.items c.args.t.0 None) b c.self.inside.tables.object) ends in
    in_range (types_of c.args.self.now) _ _ c.type_id.result (next_there c.args.self.now c.self.inside.tables j c.args.t.0 x.0 x.1) e
