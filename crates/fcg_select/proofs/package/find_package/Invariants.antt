use Rattle.std.proofs.Common.{◌≡◌, ◌≤◌, take}
use Rattle.fcg_analysis.specs.NamesAndFlags.{package_of}
use Rattle.fcg_select.proofs.package.find_package.Given as goal

abbrev pub invariant-loop-k : goal.invariant-loop-k
invariant-loop-k l = record { within : l.end ≤ l.k; package' : take l.end l.name ≡ package_of (take l.k l.name) }
