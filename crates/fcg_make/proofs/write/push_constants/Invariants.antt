use Rattle.std.proofs.Common.{◌≡◌, ◌++◌, take}
use Rattle.std.specs.List.{flat_map}
use Rattle.fcg_classfile.specs.ClassFile.{constant}
use Rattle.fcg_make.specs.Layout.{constant_of}
use Rattle.fcg_make.proofs.write.push_constants.Given as goal

abbrev pub invariant-loop-entry : goal.invariant-loop-entry
invariant-loop-entry l = l.out.items ≡ l.fn.out.items ++ flat_map (λ entry. constant (constant_of l.table entry)) (take l.entry-index l.table)
