use Rattle.std.proofs.Common.{◌<◌, ◌+◌, List, length, subst, arith}
use Rattle.fcg_partial.specs.Parts.{PartShown}
use Rattle.fcg_analysis.proofs.General.Places.{some_at}
use Rattle.fcg_join.specs.Parts.{nodes_of}
use Rattle.fcg_stitch.specs.Internal.Tables.{AreTables}
use Rattle.fcg_stitch.proofs.StatusTables.{first_within, status_from, status_within, status_read}
use Rattle.fcg_stitch.proofs.stitched.Stitched.site_status.Goals as goal

pub index-requires : goal.index-requires
index-requires c =
    let n = some_at (nodes_of c.args.self.now) c.args.node c.requires.node in
    let t = subst (λ (ps : List PartShown). AreTables ps c.self.inside.rows c.self.inside.statuses.items c.self.inside.firsts.items c.self.inside.phantoms c.self.inside.failed) c.self.view_is c.self.invariant in
    let l : c.args.node < length c.self.inside.firsts.items = first_within _ _ _ _ t.nodes c.args.node n.0 n.1 in
    let k = c.self.inside.firsts.ok in
    omega arith

pub overflow_add-index : goal.overflow_add-index
overflow_add-index c =
    let n = some_at (nodes_of c.args.self.now) c.args.node c.requires.node in
    let t = subst (λ (ps : List PartShown). AreTables ps c.self.inside.rows c.self.inside.statuses.items c.self.inside.firsts.items c.self.inside.phantoms c.self.inside.failed) c.self.view_is c.self.invariant in
    let s = some_at n.0.method.sites c.args.k (c.requires.site n.0 n.1) in
    let l : c.index.result.now + c.args.k < length c.self.inside.statuses.items =
    status_within _ _ _ (status_from _ _ _ _ t.nodes c.args.node n.0 n.1 c.index.result.now c.args.k s.0 c.index.ensures s.1) in
    let k = c.self.inside.statuses.ok in
    omega arith

pub index-requires-2 : goal.index-requires-2
index-requires-2 c =
    let n = some_at (nodes_of c.args.self.now) c.args.node c.requires.node in
    let t = subst (λ (ps : List PartShown). AreTables ps c.self.inside.rows c.self.inside.statuses.items c.self.inside.firsts.items c.self.inside.phantoms c.self.inside.failed) c.self.view_is c.self.invariant in
    let s = some_at n.0.method.sites c.args.k (c.requires.site n.0 n.1) in
    let l : c.index.result.now + c.args.k < length c.self.inside.statuses.items =
    status_within _ _ _ (status_from _ _ _ _ t.nodes c.args.node n.0 n.1 c.index.result.now c.args.k s.0 c.index.ensures s.1) in
    let k = c.self.inside.statuses.ok in
    omega arith

pub returns : goal.returns
returns c = λ n site h i.
    let t = subst (λ (ps : List PartShown). AreTables ps c.self.inside.rows c.self.inside.statuses.items c.self.inside.firsts.items c.self.inside.phantoms c.self.inside.failed) c.self.view_is c.self.invariant in
    status_read _ _ _ (status_from _ _ _ _ t.nodes c.args.node n h c.index.result.now c.args.k site c.index.ensures i) c.index-2.result.now c.index-2.ensures
