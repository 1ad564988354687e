use Rattle.std.proofs.Common.{sym, subst}
use Rattle.std.specs.Prelude.{Option}
use Rattle.fcg_join.specs.declared.id.NameId.{NameId}
use Rattle.fcg_join.specs.declared.id.SignatureId.{SignatureId}
use Rattle.fcg_join.specs.Joined.{signature}
use Rattle.fcg_join.specs.Numbers.{GivesName, GivesSignature}
use Rattle.fcg_join.proofs.SignatureAnswers.{unnamed_signature, undescribed_signature}
use Rattle.fcg_join.proofs.joined.Joined.signature.Goals as goal

pub returns-in_err-name-clause-value : goal.returns-in_err-name-clause-value
returns-in_err-name-clause-value c = subst (λ (o : Option SignatureId). GivesSignature c.args.self.now o (signature c.args.name.now c.args.desc.now)) (sym c.from_residual.ensures)
    (unnamed_signature c.args.self.now c.args.name.now c.args.desc.now (subst (λ (o : Option NameId). GivesName c.args.self.now o c.args.name.now) c.in_err-name.was c.name_id.ensures.value))

pub returns-in_err-desc-clause-value : goal.returns-in_err-desc-clause-value
returns-in_err-desc-clause-value c = subst (λ (o : Option SignatureId). GivesSignature c.args.self.now o (signature c.args.name.now c.args.desc.now)) (sym c.from_residual-in_err-desc.ensures)
    (undescribed_signature c.args.self.now c.args.name.now c.args.desc.now (subst (λ (o : Option NameId). GivesName c.args.self.now o c.args.desc.now) c.in_err-desc.was c.name_id-2.ensures.value))
