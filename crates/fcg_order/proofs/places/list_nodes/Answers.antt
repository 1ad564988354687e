use Rattle.std.proofs.Common.{ℕ, ◌≡◌, length, subst, ◌∙◌, arith}
use Rattle.std.proofs.lemmas.List.{length-set}
use Rattle.fcg_order.specs.Internal.Places.{AreListed}
use Rattle.fcg_order.proofs.PlaceLaws.{listed_more, place_in, are_places}
use Rattle.fcg_order.proofs.places.list_nodes.Goals as goal

pub index_mut-requires : goal.index_mut-requires
index_mut-requires c =
    let n = c.requires.entered.enter_long in
    let p = place_in c.args.parents.now c.args.order.now c.requires.forest c.args.sizes.now c.requires.sizes c.args.enter.now c.args.leave.now c.requires.entered c.loop-x.x (let t = c.loop-x-test.true in omega (arith, n, t)) in
    let m = c.loop-x.invariant.long in
    let k = c.loop-x.nodes.ok in
    omega (arith, p, m, k)

pub loop-x-preserved : goal.loop-x-preserved
loop-x-preserved c =
    let n = c.requires.entered.enter_long in
    record {
      long = length-set c.loop-x.nodes.items _ _ ∙ c.loop-x.invariant.long;
      listed = listed_more c.args.parents.now c.args.order.now c.requires.forest c.args.sizes.now c.requires.sizes c.args.enter.now c.args.leave.now c.requires.entered c.loop-x.nodes.items c.loop-x.x (let t = c.loop-x-test.true in omega (arith, n, t))
          c.loop-x.invariant.long c.loop-x.invariant.listed;
    }

pub returns : goal.returns
returns c =
    let n = c.requires.entered.enter_long in
    let e : c.loop-x.x ≡ length c.args.parents.now = (let t = c.loop-x-test.false in let u = c.loop-x.auto.x-end in omega (arith, n, t, u)) in
    are_places c.args.parents.now c.args.order.now c.requires.forest c.args.sizes.now c.requires.sizes c.args.enter.now c.args.leave.now c.requires.entered c.loop-x.nodes.items c.loop-x.invariant.long
    (subst (λ (x : ℕ). AreListed c.args.enter.now c.loop-x.nodes.items x) e c.loop-x.invariant.listed)
