use Rattle.std.proofs.Common.{◌∙◌}
use Rattle.fcg_join.specs.Parts.{nodes_of}
use Rattle.fcg_answer.proofs.PageLaws.{node_row, uri_is}
use Rattle.fcg_answer.proofs.graph.copy_node.Goals as goal

pub returns : goal.returns
returns c = node_row (nodes_of c.args.stitched.now) c.args.k _ c.requires (λ n is.
    let name = c.node-name.ensures n is in
    uri_is _ n (c.in_ok-clone.ensures.cases ∙ name.coordinate) (c.in_ok-from_slice.ensures ∙ name.class) (c.in_ok-from_slice-2.ensures ∙ name.name) (c.in_ok-from_slice-3.ensures ∙ name.desc))
