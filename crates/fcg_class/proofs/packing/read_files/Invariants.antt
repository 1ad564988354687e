use Rattle.std.proofs.Common.{◌≡◌, ◌≤◌, ◌++◌, length}
use Rattle.std.specs.Prelude.{map, string_bytes}
use Rattle.std.specs.Vec.Iter.{into_iter_items, into_iter_len}
use Rattle.fcg_bytes.specs.Files.{texts}
use Rattle.fcg_class.specs.Pack.{bundle_limit}
use Rattle.fcg_class.specs.Internal.Packing.{bundle_size, entry_of}
use Rattle.fcg_class.proofs.PackLemmas.{ReadSoFar}
use Rattle.fcg_class.proofs.packing.read_files.Given as goal

abbrev pub invariant-loop-path : goal.invariant-loop-path
invariant-loop-path g l =
    (into_iter_len l.path-iterator ≡ length (into_iter_items l.path-iterator))
    × (map (λ f. string_bytes f.path) l.read.items ++ texts (into_iter_items l.path-iterator) ≡ texts l.fn.paths.items)
    × (l.size ≡ bundle_size (map entry_of l.read.items))
    × (l.size ≤ bundle_limit)
    × (g.F.Files.faults l.fn.files ≤ g.F.Files.faults l.files)
    × (g.F.Files.told l.files ≡ g.F.Files.told l.fn.files)
    × ReadSoFar (g.F.Files.told l.fn.files) l.folder (map entry_of l.read.items) (texts (into_iter_items l.path-iterator)) (texts l.fn.paths.items)
