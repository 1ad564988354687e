use Rattle.std.proofs.Common.{◌≡◌, map, take}
use Rattle.fcg_bytes.specs.Files.{file_of, paths_below}
use Rattle.fcg_bytes.specs.Known.{Knows, bytes_of}
use Rattle.fcg_bytes.proofs.memory_files.find_below.Given as goal

abbrev pub invariant-loop-path : goal.invariant-loop-path
invariant-loop-path l = (bytes_of l.found.items ≡ paths_below (map file_of (take l.path-index l.files)) l.folder) × Knows l.known (bytes_of l.found.items)
