use Rattle.std.proofs.Common.{ap, ◌∙◌}
use Rattle.fcg_analysis.specs.NamesAndFlags.{same}
use Rattle.fcg_analysis.specs.Declarations.{object_name}
use Rattle.fcg_join.proofs.GraphRows.{head_made}
use Rattle.fcg_join.proofs.heads.make_head.Goals as goal

pub returns : goal.returns
returns c = λ names v e h. head_made c.args.part.now c.args.i c.args.k v h names c.args.numbers.now e c.load_type-row.result (c.load_type-row.ensures.row v h)
    c.is_object_name-is_object.result (c.is_object_name-is_object.ensures ∙ ap (same object_name) (c.type_name.ensures v h)) c.pick_superclass.result c.pick_superclass.ensures
