use Rattle.std.proofs.Common.{◌≡◌, rules, subst}
use Rattle.std.specs.Prelude.{Ok}
use Rattle.fcg_grammar.specs.Reading.{Gives}
use Rattle.fcg_views.specs.Coordinate.{IsCoordinate, coordinate_of}
use Rattle.fcg_views.proofs.CoordinateLaws.{coordinate_found, coordinate_only}
use Rattle.fcg_views.proofs.coordinate.Coordinate.parse.Goals as goal

pub returns-in_err-check-clause-only : goal.returns-in_err-check-clause-only
returns-in_err-check-clause-only c = λ is. subst (λ r. Gives (λ t. t) c.from_residual.result r) (coordinate_only c.args.text.now is) (search rules)

pub invariant_of-result : goal.invariant_of-result
invariant_of-result c =
    let read : coordinate_of c.args.text.now ≡ Ok c.args.text.now = search rules in
    subst IsCoordinate (search rules) (coordinate_found c.args.text.now c.args.text.now read)

pub returns-clause-found : goal.returns-clause-found
returns-clause-found c = λ ok.
    let read : coordinate_of c.args.text.now ≡ Ok c.args.text.now = search rules in
    coordinate_found c.args.text.now c.args.text.now read
