use Rattle.fcg_partial.proofs.RowParts.{inside_u4}
use Rattle.fcg_partial.proofs.row.load_u4.Goals as goal

pub read_u4-requires : goal.read_u4-requires
read_u4-requires c = inside_u4 c.args.bytes.now c.args.at c.requires.0 c.requires.1
