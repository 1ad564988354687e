use Rattle.std.proofs.Common.{rules, ◌≡◌, ◌^◌, ◌<◌, length, sym, ◌∙◌}
use Rattle.fcg_partial.proofs.AccessLaws.{type_many, types_few}
use Rattle.fcg_partial.proofs.graph.PartialGraph.type_count.Goals as goal

pub overflow_cast-result : goal.overflow_cast-result
overflow_cast-result c =
    let few = types_few c.self.inside.bytes.items c.self.inside.index c.self.invariant c.args.self.now c.self.view_is in
    let long : c.len.result ≡ length c.self.inside.index.places.types.items = search rules in
    let few_too : c.len.result < 2 ^ 32 = rw long few in
    search rules

pub returns : goal.returns
returns c =
    let long : c.len.result ≡ length c.self.inside.index.places.types.items = search rules in
    long ∙ sym (type_many c.self.inside.bytes.items c.self.inside.index c.self.invariant c.args.self.now c.self.view_is)
