use Rattle.std.specs.Prelude.{Some, None}
use Rattle.fcg_stitch.proofs.NamedNodes.{none_given, one_given, declared_given, other_release, same_release, none_of_release, none_declared, one_declared}
use Rattle.fcg_stitch.proofs.stitched.Stitched.find_node.Goals as goal

pub returns-in_default : goal.returns-in_default
returns-in_default c = none_given _ _ c.self.view_is c.args.uri.now _ c.as_slice.ensures c.in_default.ensures.value

pub returns-then-ne : goal.returns-then-ne
returns-then-ne c =
    let x = one_given _ _ c.self.view_is c.args.uri.now _ c.as_slice.ensures c.in-Some.owner c.in-Some.ensures.value in
    none_of_release _ _ c.in-Some.owner x.0 x.1 x.2 (other_release _ _ _ _ (c.coordinate_of.ensures x.0 x.1) c.ne.ensures c.if-ne.true)

pub returns-in-Some-declared : goal.returns-in-Some-declared
returns-in-Some-declared c =
    let x = one_given _ _ c.self.view_is c.args.uri.now _ c.as_slice.ensures c.in-Some.owner c.in-Some.ensures.value in
    let m = declared_given _ _ c.self.view_is c.args.uri.now _ _ c.as_slice-2.ensures c.as_slice-3.ensures c.in-Some.owner (Some c.in-Some-declared.m) c.in-Some-declared.ensures.value x.0 x.1 in
    one_declared _ _ c.in-Some.owner x.0 x.1 x.2 (same_release _ _ _ _ (c.coordinate_of.ensures x.0 x.1) c.ne.ensures c.if-ne.false) c.in-Some-declared.m m

pub returns-in-None : goal.returns-in-None
returns-in-None c =
    let x = one_given _ _ c.self.view_is c.args.uri.now _ c.as_slice.ensures c.in-Some.owner c.in-Some.ensures.value in
    let m = declared_given _ _ c.self.view_is c.args.uri.now _ _ c.as_slice-2.ensures c.as_slice-3.ensures c.in-Some.owner None c.in-None.ensures.value x.0 x.1 in
    none_declared _ _ c.in-Some.owner x.0 x.1 x.2 m
