use Rattle.std.proofs.Common.{arith}
use Rattle.fcg_join.specs.Parts.{nodes_of}
use Rattle.fcg_join.proofs.GraphRows.{item}
use Rattle.fcg_join.proofs.SignatureNodes.{owners_many, firsts_many, heads_many, owner_below, methods_are, row_there, place_there}
use Rattle.fcg_join.proofs.signatures.node_place.Goals as goal

pub index-owner-requires : goal.index-owner-requires
index-owner-requires c =
    let e = owners_many c.args.parts.now c.args.heads.now c.requires.heads c.args.nodes.now.firsts.items c.args.nodes.now.owners.items c.requires.nodes in
    let k = c.args.nodes.now.owners.ok in
    omega (arith, c.requires.there)

pub load_head-head-requires : goal.load_head-head-requires
load_head-head-requires c =
    let e = heads_many c.args.parts.now c.args.heads.now c.requires.heads c.args.nodes.now.firsts.items c.args.nodes.now.owners.items c.requires.nodes in
    let b = owner_below c.args.parts.now c.args.heads.now c.requires.heads c.args.nodes.now.firsts.items c.args.nodes.now.owners.items c.requires.nodes c.args.m c.requires.there c.index-owner.result.now c.index-owner.ensures in
    omega arith

pub index-requires : goal.index-requires
index-requires c =
    let e = firsts_many c.args.parts.now c.args.heads.now c.requires.heads c.args.nodes.now.firsts.items c.args.nodes.now.owners.items c.requires.nodes in
    let b = owner_below c.args.parts.now c.args.heads.now c.requires.heads c.args.nodes.now.firsts.items c.args.nodes.now.owners.items c.requires.nodes c.args.m c.requires.there c.index-owner.result.now c.index-owner.ensures in
    let k = c.args.nodes.now.firsts.ok in
    omega arith

pub overflow_sub-result : goal.overflow_sub-result
overflow_sub-result c =
    let n = item (nodes_of c.args.parts.now) c.args.m c.requires.there in
    let r = row_there c.args.parts.now c.args.heads.now c.requires.heads c.args.nodes.now.firsts.items c.args.nodes.now.owners.items c.requires.nodes c.args.m c.requires.there c.index-owner.result.now c.index-owner.ensures n.0 n.1 c.index.result.now c.index.ensures in
    omega (arith, r.0)

pub overflow_cast-result : goal.overflow_cast-result
overflow_cast-result c =
    let n = item (nodes_of c.args.parts.now) c.args.m c.requires.there in
    let r = row_there c.args.parts.now c.args.heads.now c.requires.heads c.args.nodes.now.firsts.items c.args.nodes.now.owners.items c.requires.nodes c.args.m c.requires.there c.index-owner.result.now c.index-owner.ensures n.0 n.1 c.index.result.now c.index.ensures in
    let many = methods_are c.args.parts.now c.args.heads.now c.requires.heads c.args.nodes.now.firsts.items c.args.nodes.now.owners.items c.requires.nodes c.args.m c.requires.there c.index-owner.result.now c.index-owner.ensures n.0 n.1 c.load_head-head.result c.load_head-head.ensures in
    let small = c.load_head-head.type_inv.1.1.1.1.1.1 in
    omega (arith, r.0, r.1)

pub returns : goal.returns
returns c = λ n h.
    place_there c.args.parts.now c.args.heads.now c.requires.heads c.args.nodes.now.firsts.items c.args.nodes.now.owners.items c.requires.nodes c.args.m c.requires.there c.index-owner.result.now c.index-owner.ensures n h
    c.load_head-head.result c.load_head-head.ensures c.index.result.now c.index.ensures
