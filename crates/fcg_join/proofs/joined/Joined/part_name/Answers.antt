use Rattle.std.proofs.lemmas.Option.{slice_get_within}
use Rattle.fcg_join.specs.SetNames.{part_names, set_names}
use Rattle.fcg_join.proofs.GraphRows.{item}
use Rattle.fcg_join.proofs.NameAnswers.{part_number}
use Rattle.fcg_join.proofs.joined.Joined.part_name.Goals as goal

pub returns-clause-value : goal.returns-clause-value
returns-clause-value c = λ p h n s. part_number c.args.self.now c.args.part c.args.name p n h s c.part_numbers.result.now (c.part_numbers.ensures p h)

pub returns-clause-range : goal.returns-clause-range
returns-clause-range c =
    let p = c.requires.0 in
    let h = c.requires.1 in
    let n = item (part_names p) c.args.name c.requires.2 in
    slice_get_within (set_names c.args.self.now) _ n.0 (part_number c.args.self.now c.args.part c.args.name p n.0 h n.1 c.part_numbers.result.now (c.part_numbers.ensures p h))
