use Rattle.std.proofs.Common.{◌<◌, List, length, sym, subst, ◌∙◌, arith}
use Rattle.std.proofs.lemmas.List.{get_or_default}
use Rattle.std.proofs.lemmas.Option.{slice_get_within}
use Rattle.fcg_partial.specs.Parts.{PartShown}
use Rattle.fcg_join.specs.declared.heads.TypeHead.{TypeHead}
use Rattle.fcg_join.specs.Parts.{types_of}
use Rattle.fcg_join.specs.SetNames.{set_names}
use Rattle.fcg_join.specs.Internal.TypeHeads.{IsHead, IsFirstHead, no_head}
use Rattle.fcg_join.specs.Internal.Tables.{IsJoined}
use Rattle.fcg_join.proofs.TableAnswers.{heads_many, head_there}
use Rattle.fcg_join.proofs.joined.Joined.head.Goals as goal

pub index-requires : goal.index-requires
index-requires c =
    let j = subst (λ (ps : List PartShown). IsJoined ps c.self.inside.tables) c.self.view_is c.self.invariant in
    let m = heads_many c.args.self.now c.self.inside.tables j in
    let k = c.self.inside.tables.heads.ok in
    omega (arith, c.requires)

pub returns-clause-value : goal.returns-clause-value
returns-clause-value c = λ x h. (
    let j = subst (λ (ps : List PartShown). IsJoined ps c.self.inside.tables) c.self.view_is c.self.invariant in
    let heads = c.self.inside.tables.heads.items in
    let l = slice_get_within (types_of c.args.self.now) c.args.t.0 x h in
    let m = heads_many c.args.self.now c.self.inside.tables j in
    let e = c.index.ensures ∙ get_or_default heads c.args.t.0 c.index.result.now no_head (omega arith) in
    subst (λ (g : TypeHead). IsHead c.args.self.now (set_names c.args.self.now) g x) (sym e) (head_there c.args.self.now c.self.inside.tables j c.args.t.0 x h))

pub returns-clause-first : goal.returns-clause-first
returns-clause-first c =
    let j = subst (λ (ps : List PartShown). IsJoined ps c.self.inside.tables) c.self.view_is c.self.invariant in
    let heads = c.self.inside.tables.heads.items in
    let m = heads_many c.args.self.now c.self.inside.tables j in
    let l : c.args.t.0 < length heads = omega (arith, c.requires) in
    let e = c.index.ensures ∙ get_or_default heads c.args.t.0 c.index.result.now no_head l in
    subst (λ (g : TypeHead). IsFirstHead c.args.self.now g) (sym e) (j.first_heads c.args.t.0 no_head l)
