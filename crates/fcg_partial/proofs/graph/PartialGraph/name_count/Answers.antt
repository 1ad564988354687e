use Rattle.std.proofs.Common.{rules, ◌≡◌, ◌^◌, ◌<◌, length, sym, ◌∙◌}
use Rattle.fcg_partial.proofs.AccessLaws.{name_many, names_few}
use Rattle.fcg_partial.proofs.graph.PartialGraph.name_count.Goals as goal

pub overflow_cast-result : goal.overflow_cast-result
overflow_cast-result c =
    let few = names_few c.self.inside.bytes.items c.self.inside.index c.self.invariant c.args.self.now c.self.view_is in
    let long : c.len.result ≡ length c.self.inside.index.names.items = search rules in
    let few_too : c.len.result < 2 ^ 32 = rw long few in
    search rules

pub returns : goal.returns
returns c =
    let long : c.len.result ≡ length c.self.inside.index.names.items = search rules in
    long ∙ sym (name_many c.self.inside.bytes.items c.self.inside.index c.self.invariant c.args.self.now c.self.view_is)
