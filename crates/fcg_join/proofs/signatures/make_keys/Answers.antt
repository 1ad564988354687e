use Rattle.std.proofs.Common.{◌<◌, length, sym, arith}
use Rattle.fcg_analysis.proofs.NodePlaces.{of_method_at}
use Rattle.fcg_join.specs.SetNames.{set_names}
use Rattle.fcg_join.specs.Parts.{types_of, nodes_of}
use Rattle.fcg_join.specs.Internal.Signatures.{key_of}
use Rattle.fcg_join.proofs.CollectedLaws.{mapped_next, mapped_all}
use Rattle.fcg_join.proofs.GraphRows.{item}
use Rattle.fcg_join.proofs.SignatureNodes.{owners_many}
use Rattle.fcg_join.proofs.signatures.make_keys.Goals as goal

pub overflow_cast-m-end : goal.overflow_cast-m-end
overflow_cast-m-end c =
    let e = owners_many c.args.parts.now c.args.heads.now c.requires.heads c.args.nodes.now.firsts.items c.args.nodes.now.owners.items c.requires.nodes in
    let k = c.args.nodes.now.owners.ok in
    omega (arith, c.len-m-end.ensures, c.requires.few)

pub node_place-place-requires-clause-there : goal.node_place-place-requires-clause-there
node_place-place-requires-clause-there c =
    let e = owners_many c.args.parts.now c.args.heads.now c.requires.heads c.args.nodes.now.firsts.items c.args.nodes.now.owners.items c.requires.nodes in
    let k = c.args.nodes.now.owners.ok in
    omega (arith, c.len-m-end.ensures, c.loop-m-test.true)

pub load_pair-requires-clause-there : goal.load_pair-requires-clause-there
load_pair-requires-clause-there c =
    let e = owners_many c.args.parts.now c.args.heads.now c.requires.heads c.args.nodes.now.firsts.items c.args.nodes.now.owners.items c.requires.nodes in
    let k = c.args.nodes.now.owners.ok in
    let n = item (nodes_of c.args.parts.now) c.loop-m.m (omega (arith, c.len-m-end.ensures, c.loop-m-test.true)) in
    (n.0.method, c.node_place-place.ensures n.0 n.1)

pub loop-m-preserved : goal.loop-m-preserved
loop-m-preserved c =
    let e = owners_many c.args.parts.now c.args.heads.now c.requires.heads c.args.nodes.now.firsts.items c.args.nodes.now.owners.items c.requires.nodes in
    let k = c.args.nodes.now.owners.ok in
    let l : c.loop-m.m < length (nodes_of c.args.parts.now) = omega (arith, c.len-m-end.ensures, c.loop-m-test.true) in
    let n = item (nodes_of c.args.parts.now) c.loop-m.m l in
    let pair = c.load_pair.ensures n.0.method (c.node_place-place.ensures n.0 n.1) in
    let number = sym (of_method_at (types_of c.args.parts.now) c.loop-m.m n.0 n.1).number in
    mapped_next (key_of (set_names c.args.parts.now)) (nodes_of c.args.parts.now) c.loop-m.m n.0 (c.load_pair.result, c.loop-m.m) c.loop-m.keys.items c.push.new.self.items l n.2 c.in_ok-push.ensures.items
    (λ i. (pair i, number i)) c.loop-m.invariant

pub returns : goal.returns
returns c =
    let e = owners_many c.args.parts.now c.args.heads.now c.requires.heads c.args.nodes.now.firsts.items c.args.nodes.now.owners.items c.requires.nodes in
    let k = c.args.nodes.now.owners.ok in
    mapped_all (key_of (set_names c.args.parts.now)) (nodes_of c.args.parts.now) c.loop-m.m c.loop-m.keys.items (omega (arith, c.len-m-end.ensures, c.loop-m-test.false)) c.loop-m.invariant
