use Rattle.std.proofs.Common.{◌≡◌, take}
use Rattle.fcg_bytes.specs.Files.{texts}
use Rattle.fcg_bytes.specs.Known.{bytes_of}
use Rattle.fcg_bytes.proofs.memory_files.copy_paths.Given as goal

abbrev pub invariant-loop-path : goal.invariant-loop-path
invariant-loop-path l = texts l.paths.items ≡ bytes_of (take l.path-index l.found)
