use Rattle.std.proofs.Common.{ℕ, ◌<◌, length, sym, subst}
use Rattle.std.specs.Prelude.{Option, IfSome}
use Rattle.std.specs.List.Sorted.{IsStrictlyIncreasing}
use Rattle.fcg_analysis.specs.Declarations.{has_signature}
use Rattle.fcg_analysis.specs.Nodes.{declared}
use Rattle.fcg_join.specs.declared.id.SignatureId.{SignatureId}
use Rattle.fcg_join.specs.Numbers.{set_signatures, GivesSignature}
use Rattle.fcg_join.specs.Parts.{types_of}
use Rattle.fcg_join.specs.NodeTables.{IsNumberOf}
use Rattle.fcg_join.proofs.GraphRows.{item}
use Rattle.fcg_join.proofs.NodeNumbers.{passing_rise}
use Rattle.fcg_join.proofs.SignatureAnswers.{undeclared, declared_between, declared_within}
use Rattle.fcg_join.proofs.joined.Joined.declared_as.Goals as goal

pub find_between-requires : goal.find_between-requires
find_between-requires c =
    let sig = item (set_signatures c.args.self.now) c.in-Some.s.0 (subst (λ (o : Option SignatureId). IfSome o (λ s. s.0 < length (set_signatures c.args.self.now))) c.in-Some.is c.requires.signature) in
    subst IsStrictlyIncreasing (sym (c.declarers.ensures sig.0 sig.1)) (passing_rise (types_of c.args.self.now) (λ m. has_signature sig.0 m.method))

pub returns-in-Some-clause-value : goal.returns-in-Some-clause-value
returns-in-Some-clause-value c = λ x sig h g. (
    let there = subst (λ (o : Option SignatureId). GivesSignature c.args.self.now o sig) c.in-Some.is g in
    subst (λ (o : Option ℕ). IsNumberOf (types_of c.args.self.now) o (declared (types_of c.args.self.now) sig x)) (sym c.method_id.ensures)
    (declared_between c.args.self.now c.args.t.0 x h sig c.tell_apart.ensures c.declarers.result.now (c.declarers.ensures sig there) c.first_method.result c.end_of_methods.result c.first_method.ensures.value (c.end_of_methods.ensures x h)
    c.find_between.result c.find_between.ensures.found c.find_between.ensures.none))

pub returns-in-Some-clause-range : goal.returns-in-Some-clause-range
returns-in-Some-clause-range c =
    let sig = item (set_signatures c.args.self.now) c.in-Some.s.0 (subst (λ (o : Option SignatureId). IfSome o (λ s. s.0 < length (set_signatures c.args.self.now))) c.in-Some.is c.requires.signature) in
    declared_within c.args.self.now sig.0 c.declarers.result.now (c.declarers.ensures sig.0 sig.1) c.first_method.result c.end_of_methods.result c.find_between.result c.find_between.ensures.found c.method_id.result c.method_id.ensures

pub returns-in-None-clause-value : goal.returns-in-None-clause-value
returns-in-None-clause-value c = λ x sig h none. undeclared c.args.self.now c.args.t.0 x h sig (subst (λ (o : Option SignatureId). GivesSignature c.args.self.now o sig) c.in-None.is none)
