use Rattle.std.proofs.Common.{rules}
use Rattle.fcg_views.proofs.Parts.{part_short, part_of_part}
use Rattle.std.specs.Arc.{arc_slice_items}
use Rattle.fcg_views.proofs.name.Name.part.Goals as goal

pub overflow_cast-result : goal.overflow_cast-result
overflow_cast-result c = search (rules, part_short (arc_slice_items c.self.inside.block) c.self.inside.begin c.self.inside.len)

pub overflow_add-result : goal.overflow_add-result
overflow_add-result c = search (rules, part_short (arc_slice_items c.self.inside.block) c.self.inside.begin c.self.inside.len)

pub overflow_cast-result-2 : goal.overflow_cast-result-2
overflow_cast-result-2 c = search (rules, part_short (arc_slice_items c.self.inside.block) c.self.inside.begin c.self.inside.len)

pub returns : goal.returns
returns c = search (rules, part_of_part (arc_slice_items c.self.inside.block) c.self.inside.begin c.self.inside.len c.args.begin c.args.len)
