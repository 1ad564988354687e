use Rattle.fcg_partial.proofs.RowParts.{inside_u1}
use Rattle.fcg_partial.proofs.row.load_u1.Goals as goal

pub read_u1-requires : goal.read_u1-requires
read_u1-requires c = inside_u1 c.args.bytes.now c.args.at c.requires.0 c.requires.1
