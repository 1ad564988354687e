use Rattle.std.proofs.Common.{◌≡◌, ℕ, ◌<◌, List, length, get_or, sym, ap, subst, ◌∙◌, arith}
use Rattle.std.proofs.lemmas.List.{get_or_default}
use Rattle.fcg_partial.specs.Parts.{PartShown}
use Rattle.fcg_join.specs.Parts.{types_of}
use Rattle.fcg_join.specs.NodeTables.{owners}
use Rattle.fcg_join.specs.TypeLinks.{HasTypeAt}
use Rattle.fcg_join.specs.Internal.Tables.{IsJoined}
use Rattle.fcg_join.proofs.NodeNumbers.{owners_long, owner_is, owners_within}
use Rattle.fcg_join.proofs.joined.Joined.owner.Goals as goal

pub index-requires : goal.index-requires
index-requires c =
    let j = subst (λ (ps : List PartShown). IsJoined ps c.self.inside.tables) c.self.view_is c.self.invariant in
    let m = ap (λ ns. length ns) j.nodes'.owners_are ∙ owners_long (types_of c.args.self.now) in
    let k = c.self.inside.tables.nodes.owners.ok in
    omega (arith, c.requires)

pub returns-clause-value : goal.returns-clause-value
returns-clause-value c = λ n h. (
    let j = subst (λ (ps : List PartShown). IsJoined ps c.self.inside.tables) c.self.view_is c.self.invariant in
    let os = c.self.inside.tables.nodes.owners.items in
    let m = ap (λ ns. length ns) j.nodes'.owners_are ∙ owners_long (types_of c.args.self.now) in
    let e : c.index.result.now ≡ get_or (owners (types_of c.args.self.now)) c.args.m.0 0 =
    c.index.ensures ∙ get_or_default os c.args.m.0 c.index.result.now 0 (omega (arith, c.requires)) ∙ ap (λ ns. get_or ns c.args.m.0 0) j.nodes'.owners_are in
    subst (λ (y : ℕ). HasTypeAt (types_of c.args.self.now) y n.owner) (sym e) (owner_is (types_of c.args.self.now) c.args.m.0 n h))

pub returns-clause-range : goal.returns-clause-range
returns-clause-range c =
    let j = subst (λ (ps : List PartShown). IsJoined ps c.self.inside.tables) c.self.view_is c.self.invariant in
    let os = c.self.inside.tables.nodes.owners.items in
    let m = ap (λ ns. length ns) j.nodes'.owners_are ∙ owners_long (types_of c.args.self.now) in
    let l : c.args.m.0 < length (owners (types_of c.args.self.now)) = (let a = owners_long (types_of c.args.self.now) in omega (arith, c.requires)) in
    let e : c.index.result.now ≡ get_or (owners (types_of c.args.self.now)) c.args.m.0 0 =
    c.index.ensures ∙ get_or_default os c.args.m.0 c.index.result.now 0 (omega (arith, c.requires)) ∙ ap (λ ns. get_or ns c.args.m.0 0) j.nodes'.owners_are in
    subst (λ (y : ℕ). y < length (types_of c.args.self.now)) (sym e) (owners_within (types_of c.args.self.now) c.args.m.0 0 l)
