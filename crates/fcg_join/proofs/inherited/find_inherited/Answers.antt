use Rattle.std.proofs.Common.{◌≡◌, ℕ, ◌<◌, length, sym, subst, arith}
use Rattle.fcg_analysis.proofs.General.Places.{some_at}
use Rattle.fcg_order.specs.Order.{IsOrder}
use Rattle.fcg_join.proofs.MarkLaws.{no_circle}
use Rattle.fcg_join.specs.SetNames.{set_names}
use Rattle.fcg_join.specs.Internal.Mentions.{AreTurnedRows}
use Rattle.fcg_join.proofs.PlacedTypes.{is_forest}
use Rattle.fcg_join.proofs.TurnedRows.{mentions_below}
use Rattle.fcg_analysis.proofs.WinnerLaws.{known_distinct}
use Rattle.fcg_join.specs.Parts.{placed, types_of}
use Rattle.fcg_join.proofs.OwnMentions.{known_are_acyclic}
use Rattle.fcg_join.proofs.inherited.find_inherited.Goals as goal

pub find_order-requires-clause-few : goal.find_order-requires-clause-few
find_order-requires-clause-few c = omega (arith, c.requires.few, c.requires.links.long)

pub find_order-requires-clause-within : goal.find_order-requires-clause-within
find_order-requires-clause-within c = c.requires.links.within

pub find_gaps-requires-clause-heads : goal.find_gaps-requires-clause-heads
find_gaps-requires-clause-heads c = (types_of c.args.parts.now, c.requires.heads, known_distinct (placed c.args.parts.now), c.requires.links)

pub find_places-requires-clause-few : goal.find_places-requires-clause-few
find_places-requires-clause-few c = omega (arith, c.requires.few, c.requires.many)

pub find_places-requires-clause-forest : goal.find_places-requires-clause-forest
find_places-requires-clause-forest c =
    let parts = c.args.parts.now in
    let types = types_of parts in
    let links = c.args.linked.now.links in
    is_forest types links c.requires.links c.as_slice-nodes.result.now (subst (IsOrder links) (sym c.as_slice-nodes.ensures.value) c.in_ok-order.ensures.order)
    (λ x l. (let t = some_at types x (subst (λ n. x < n) c.requires.links.long l) in
    no_circle types links c.requires.links (known_distinct (placed parts)) (known_are_acyclic (placed parts)) x t.0 t.1))
    c.args.superclasses.now c.requires.many c.requires.superclasses

pub turn-requires-clause-few : goal.turn-requires-clause-few
turn-requires-clause-few c = (let m = c.in_ok-mentions.ensures.long in let f = c.requires.few in omega (arith, m, f))

pub turn-requires-clause-few_numbers : goal.turn-requires-clause-few_numbers
turn-requires-clause-few_numbers c = (let m = c.requires.found.long in let k = c.args.linked.now.by_name.ok in let e = c.len.ensures in let f = c.requires.few_names in omega (arith, m, k, e, f))

pub turn-requires-clause-there : goal.turn-requires-clause-there
turn-requires-clause-there c = λ x l. c.in_ok-mentions.ensures.there x (let m = c.in_ok-mentions.ensures.long in omega (arith, l, m))

pub turn-requires-clause-below : goal.turn-requires-clause-below
turn-requires-clause-below c = λ x n l d. (
    let b = mentions_below (set_names c.args.parts.now) (types_of c.args.parts.now) c.in_ok-mentions.mentions c.in_ok-mentions.ensures x n l d in
    let m = c.requires.found.long in
    let k = c.args.linked.now.by_name.ok in
    let e = c.len.ensures in omega (arith, b, m, k, e))

pub turn-requires-clause-rise : goal.turn-requires-clause-rise
turn-requires-clause-rise c = λ x l. c.in_ok-mentions.ensures.rise x (let m = c.in_ok-mentions.ensures.long in omega (arith, l, m))

pub returns : goal.returns
returns c =
    let parts = c.args.parts.now in
    let n : c.len.result ≡ length (set_names parts) = (let m = c.requires.found.long in let k = c.args.linked.now.by_name.ok in let e = c.len.ensures in omega (arith, m, k, e)) in
    record {
      gaps' = c.in_ok-gaps.ensures (types_of parts) c.requires.heads (known_distinct (placed parts)) (known_are_acyclic (placed parts)) c.requires.links;
      mentions' = c.in_ok-mentions.ensures;
      mentioned' = subst (λ (count : ℕ). AreTurnedRows c.in_ok-mentions.mentions count c.in_ok-mentioned.mentioned) n c.in_ok-mentioned.ensures;
      places' = record { superclasses = c.args.superclasses.now; many = c.requires.many; are = c.requires.superclasses; places = c.in_ok-places.ensures };
    }
