use Rattle.std.proofs.Common.{arith}
use Rattle.std.specs.Prelude.{map}
use Rattle.std.proofs.lemmas.List.{length-map}
use Rattle.fcg_class.specs.Internal.Packing.{entry_of}
use Rattle.fcg_class.proofs.PackLemmas.{entries_few}
use Rattle.fcg_class.proofs.packing.spell.Goals as goal

pub push_head-requires : goal.push_head-requires
push_head-requires c = omega (arith, entries_few (map entry_of c.args.files.items), c.requires.short, c.len.ensures, c.args.files.ok.0, length-map c.args.files.items entry_of)
