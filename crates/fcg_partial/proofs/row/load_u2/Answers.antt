use Rattle.fcg_partial.proofs.RowParts.{inside_u2}
use Rattle.fcg_partial.proofs.row.load_u2.Goals as goal

pub read_u2-requires : goal.read_u2-requires
read_u2-requires c = inside_u2 c.args.bytes.now c.args.at c.requires.0 c.requires.1
