use Rattle.std.proofs.Common.{◌+◌, get_or, sym, subst, refl, take, ◌∙◌}
use Rattle.fcg_join.specs.Parts.{types_of}
use Rattle.fcg_join.specs.Internal.Supers.{is_of, is_of_any, IsOnly, defaults}
use Rattle.fcg_join.proofs.SuperFound.{of_one_more, of_all, only_more, only_default, two_defaults, or_within}
use Rattle.fcg_join.proofs.joined.Joined.one_default_as.Goals as goal
use Rattle.fcg_join.proofs.joined.Joined.one_default_as.Goals.{else-is_some-via-then-is_some+else-is_some-2, else-is_some-via-else-is_some}

pub loop-name-init : goal.loop-name-init
loop-name-init c = (λ x sig h g o t. refl, tt)

pub returns-then-is_some-2-clause-value : goal.returns-then-is_some-2-clause-value
returns-then-is_some-2-clause-value c = λ x sig h g. (
    two_defaults c.args.self.now x sig c.mentioned-name-items.result.now c.mentioned-name-items.ensures.rise (c.mentioned-name-items.ensures.upward x h) c.loop-name.name-index 0 c.loop-name-test.true
    c.loop-name.found c.default_of-more.result (sym c.if-is_some.ensures) (sym c.if-is_some-2.ensures) (c.loop-name.invariant.0 x sig h g) (c.default_of-more.ensures.value x sig h g))

pub loop-name-preserved : goal.loop-name-preserved
loop-name-preserved c =
    let parts = c.args.self.now in
    let row = c.mentioned-name-items.result.now in
    let k = c.loop-name.name-index in (
      λ x sig h g. (
          let ms = defaults (types_of parts) x sig in
          subst (IsOnly parts ms (is_of_any parts (take (k + 1) row))) (sym c.or-found.ensures)
          (only_more parts ms (is_of_any parts (take k row)) (is_of parts (get_or row k 0)) (is_of_any parts (take (k + 1) row)) (of_one_more parts row k 0 c.loop-name-test.true)
          c.loop-name.found c.default_of-more.result
          (λ a b. elim c.else-is_some.branch [
            | else-is_some-via-then-is_some+else-is_some-2 w ↦ (let e = w.is_some-then-is_some.ensures in let f = w.if-is_some-2.false in absurd cc)
            | else-is_some-via-else-is_some w ↦ (let e = c.is_some.ensures in let f = w.if-is_some.false in absurd cc)
          ])
          (c.loop-name.invariant.0 x sig h g) (c.default_of-more.ensures.value x sig h g))),
      or_within parts c.loop-name.found c.default_of-more.result c.or-found.result c.or-found.ensures c.loop-name.invariant.1 c.default_of-more.ensures.range,
    )

pub returns-clause-value : goal.returns-clause-value
returns-clause-value c = λ x sig h g. (
    let parts = c.args.self.now in
    let row = c.mentioned-name-items.result.now in
    let k = c.loop-name.name-index in
    only_default parts x sig (is_of_any parts (take k row)) (λ o t. of_all parts row k c.loop-name-test.false o ∙ c.mentioned-name-items.ensures.supers x sig h o t) c.loop-name.found (c.loop-name.invariant.0 x sig h g))
