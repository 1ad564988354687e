use Rattle.std.proofs.Common.{[], sym, ap, subst, ◌∙◌}
use Rattle.std.proofs.lemmas.Option.{get_or_from_slice_get}
use Rattle.fcg_analysis.specs.Types.{is_below}
use Rattle.fcg_join.specs.Parts.{types_of}
use Rattle.fcg_join.specs.SetNames.{set_names}
use Rattle.fcg_join.specs.Internal.Below.{IsNameNumber}
use Rattle.fcg_join.proofs.BelowAnswers.{below_object_name, below_absent}
use Rattle.fcg_join.proofs.below.is_below_found.Goals as goal

pub returns-then-is_object : goal.returns-then-is_object
returns-then-is_object c = λ t name h k e. below_object_name (types_of c.args.parts.now) t name (sym e ∙ c.if-is_object.true)

pub returns-in-Some : goal.returns-in-Some
returns-in-Some c = λ t name h k e. (
    let s = subst (IsNameNumber (set_names c.args.parts.now) name) c.in-Some.is k in
    c.is_below_number.ensures t h ∙ ap (is_below (types_of c.args.parts.now) t) (get_or_from_slice_get (set_names c.args.parts.now) c.in-Some.number name [] s))

pub returns-in-None : goal.returns-in-None
returns-in-None c = λ t name h k e. below_absent c.args.parts.now c.args.tables.now c.requires.tables c.args.x t h name
    (subst (IsNameNumber (set_names c.args.parts.now) name) c.in-None.is k) (sym e ∙ c.if-is_object.false)
