use Rattle.std.proofs.Common.{◌≡◌, ◌∙◌, ◌<◌, ◌≤◌, length, sym, ap, arith, rules, List, ℕ}
use Rattle.std.specs.Prelude.{Some, None, Ok}
use Rattle.std.proofs.lemmas.Bool.Decides.{nat_tests}
use Rattle.std.proofs.lemmas.List.{append-nil}
use Rattle.fcg_views.specs.Escape.{front}
use Rattle.fcg_views.proofs.EscapeLaws.{all_followed, front_none, front_some, front_end, one_more}
use Rattle.fcg_views.proofs.unescaping.unescape.Goals as goal

pub returns-in_default : goal.returns-in_default
returns-in_default c =
    let some : 0 < length c.loop-rest.rest.now = grind (arith, nat_tests) in
    let none : front c.args.place c.loop-rest.rest.now ≡ None = search rules in
    sym c.loop-rest.invariant.0 ∙ ap (all_followed c.loop-rest.bytes.items) (front_none c.args.place c.loop-rest.here c.loop-rest.rest.now some none)

pub overflow_add-here : goal.overflow_add-here
overflow_add-here c =
    let within : c.in-Some.count ≤ length c.loop-rest.rest.now = search rules in
    omega (arith, c.loop-rest.invariant.1, c.requires)

pub split_at-requires : goal.split_at-requires
split_at-requires c = search rules

pub loop-rest-smaller : goal.loop-rest-smaller
loop-rest-smaller c =
    let some : 0 < c.in-Some.count = search rules in
    let within : c.in-Some.count ≤ length c.loop-rest.rest.now = search rules in
    omega (arith, c.split_at.ensures.back_len)

pub loop-rest-preserved : goal.loop-rest-preserved
loop-rest-preserved c =
    let some : 0 < length c.loop-rest.rest.now = grind (arith, nat_tests) in
    let is : front c.args.place c.loop-rest.rest.now ≡ Some (c.in-Some.byte, c.in-Some.count) = search rules in
    let goes = front_some c.args.place c.loop-rest.here c.loop-rest.rest.now (c.in-Some.byte, c.in-Some.count) some is in (
      rw (c.in_ok-push.ensures.items, c.split_at.ensures.back) (
          one_more c.loop-rest.bytes.items c.in-Some.byte _ ∙ ap (all_followed c.loop-rest.bytes.items) (sym goes.leads) ∙ c.loop-rest.invariant.0
          ),
      omega (arith, c.split_at.ensures.back_len, c.loop-rest.invariant.1),
    )

pub returns : goal.returns
returns c =
    let none : length c.loop-rest.rest.now ≡ 0 = grind (arith, nat_tests) in
    sym c.loop-rest.invariant.0 ∙ ap (all_followed c.loop-rest.bytes.items) (front_end c.args.place c.loop-rest.here c.loop-rest.rest.now none) ∙ ap (λ (l : List ℕ). Ok l) (append-nil c.loop-rest.bytes.items)
