use Rattle.std.proofs.Common.{◌+◌, get_or, sym, subst, refl, take, ◌∙◌}
use Rattle.fcg_analysis.specs.Nodes.{super_methods}
use Rattle.fcg_join.specs.Parts.{types_of}
use Rattle.fcg_join.specs.Internal.Supers.{is_of, is_of_any, IsLeast}
use Rattle.fcg_join.proofs.SuperFound.{of_one_more, of_all, least_more, first_is, first_within}
use Rattle.fcg_join.proofs.joined.Joined.first_above_as.Goals as goal

pub loop-name-init : goal.loop-name-init
loop-name-init c = (λ x sig h g o t. refl, tt)

pub loop-name-preserved : goal.loop-name-preserved
loop-name-preserved c =
    let parts = c.args.self.now in
    let row = c.mentioned-name-items.result.now in
    let k = c.loop-name.name-index in (
      λ x sig h g. (
          let supers = super_methods (types_of parts) x sig in
          subst (IsLeast parts supers (is_of_any parts (take (k + 1) row))) (sym c.first_of-first.ensures)
          (least_more parts supers (is_of_any parts (take k row)) (is_of parts (get_or row k 0)) (is_of_any parts (take (k + 1) row)) (of_one_more parts row k 0 c.loop-name-test.true)
          c.loop-name.first c.declared_above.result (c.loop-name.invariant.0 x sig h g) (c.declared_above.ensures.value x sig h g))),
      first_within parts c.loop-name.first c.declared_above.result c.first_of-first.result c.first_of-first.ensures c.loop-name.invariant.1 c.declared_above.ensures.range,
    )

pub returns-clause-value : goal.returns-clause-value
returns-clause-value c = λ x sig h g. (
    let parts = c.args.self.now in
    let row = c.mentioned-name-items.result.now in
    let k = c.loop-name.name-index in
    first_is parts x sig (is_of_any parts (take k row)) (λ o t. of_all parts row k c.loop-name-test.false o ∙ c.mentioned-name-items.ensures.supers x sig h o t) c.loop-name.first (c.loop-name.invariant.0 x sig h g))
