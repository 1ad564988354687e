use Rattle.std.proofs.Common.{◌≡◌, ◌++◌, take, drop}
use Rattle.std.specs.List.{flat_map, AllByRecursion}
use Rattle.fcg_classfile.specs.ClassFile.{member_info}
use Rattle.fcg_make.specs.Layout.{field_of}
use Rattle.fcg_make.specs.Internal.Small.{IsFlaggedField}
use Rattle.fcg_make.proofs.member.push_fields.Given as goal

abbrev pub invariant-loop-field : goal.invariant-loop-field
invariant-loop-field l =
    (l.out.items ≡ l.fn.out.items ++ flat_map (λ field. member_info (field_of l.table field)) (take l.field-index l.fields))
    × (AllByRecursion IsFlaggedField (drop l.field-index l.fields) → AllByRecursion IsFlaggedField l.fields)
