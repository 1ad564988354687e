use Rattle.std.proofs.Common.{◌≡◌, sym, ◌∙◌}
use Rattle.std.specs.Prelude.{true, false}
use Rattle.fcg_analysis.specs.Declarations.{begins_with_bracket}
use Rattle.fcg_resolve.proofs.Rules.{of_array, of_other}
use Rattle.fcg_resolve.proofs.outcome.resolve_by.Goals as goal

pub returns-then-is_array-clause-value : goal.returns-then-is_array-clause-value
returns-then-is_array-clause-value g c = λ r n k t s. (
    let e : begins_with_bracket c.args.name.now ≡ true = sym c.is_array.ensures ∙ c.if-is_array.true in
    of_array _ r _ n _ e (c.resolve_in_array.ensures.value r k s))

pub returns-clause-value : goal.returns-clause-value
returns-clause-value g c = λ r n k t s. (
    let e : begins_with_bracket c.args.name.now ≡ false = sym c.is_array.ensures ∙ c.if-is_array.false in
    of_other _ r _ n _ e (c.resolve_at.ensures.value r _ k t s))
