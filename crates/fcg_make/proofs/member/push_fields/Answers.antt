use Rattle.std.proofs.Common.{sym}
use Rattle.std.proofs.lemmas.List.{append-nil}
use Rattle.fcg_classfile.specs.ClassFile.{member_info}
use Rattle.fcg_make.specs.Layout.{field_of}
use Rattle.fcg_make.specs.Internal.Small.{IsFlaggedField}
use Rattle.fcg_make.proofs.WriteLemmas.{written_more, kept_more, nothing_left}
use Rattle.fcg_make.proofs.member.push_fields.Goals as goal

pub loop-field-init : goal.loop-field-init
loop-field-init c = (sym (append-nil c.args.out.now.items), λ h. h)

pub loop-field-preserved : goal.loop-field-preserved
loop-field-preserved c =
    let inv = c.loop-field.invariant in (
      written_more (λ field. member_info (field_of c.args.table.now field)) c.args.out.now.items c.loop-field.out.items c.push_field.new.out.items c.args.fields.now c.loop-field.field-index c.field-item.result c.loop-field-test.true c.field-item.is inv.0 c.in_ok-push_field.ensures.bytes,
      kept_more IsFlaggedField c.args.fields.now c.loop-field.field-index c.field-item.result c.loop-field-test.true c.field-item.is c.in_ok-push_field.ensures.flags inv.1,
    )

pub returns-clause-flags : goal.returns-clause-flags
returns-clause-flags c = c.loop-field.invariant.1 (nothing_left IsFlaggedField c.args.fields.now c.loop-field.field-index c.loop-field-test.false)
