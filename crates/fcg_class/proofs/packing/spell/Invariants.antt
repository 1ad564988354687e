use Rattle.std.proofs.Common.{◌≡◌, ◌≤◌, ◌++◌, length}
use Rattle.std.specs.Prelude.{map, None}
use Rattle.std.specs.List.{flat_map}
use Rattle.std.specs.Vec.Iter.{into_iter_items, into_iter_len}
use Rattle.fcg_class.specs.Bundle.{bundle, entry}
use Rattle.fcg_class.specs.Pack.{bad_path, bundle_limit}
use Rattle.fcg_class.specs.Internal.Packing.{bundle_size, entry_of}
use Rattle.fcg_class.proofs.packing.spell.Given as goal

abbrev pub invariant-loop-file : goal.invariant-loop-file
invariant-loop-file l =
    (into_iter_len l.file-iterator ≡ length (into_iter_items l.file-iterator))
    × (l.out.items ++ flat_map entry (map entry_of (into_iter_items l.file-iterator)) ≡ bundle (map entry_of l.fn.files.items))
    × (bundle_size (map entry_of (into_iter_items l.file-iterator)) ≤ bundle_limit)
    × (bad_path (map entry_of (into_iter_items l.file-iterator)) ≡ None)
