use Rattle.std.proofs.Common.{◌≡◌, ℕ, eqb, sym, ap, ◌∙◌}
use Rattle.std.specs.Prelude.{◌==◌, ◌&&◌, Bool, not, false}
use Rattle.std.specs.List.{list_any}
use Rattle.std.proofs.lemmas.Bool.{false_from_ne_true}
use Rattle.std.proofs.lemmas.Bool.Decides.{Decides-eqb}
use Rattle.fcg_join.proofs.SuperAnswers.{owned_below, not_below_itself}
use Rattle.fcg_join.proofs.joined.Joined.is_owned_below.Goals as goal

pub returns-then-lower-upper : goal.returns-then-lower-upper
returns-then-lower-upper c = λ a b p q i. (
    let k = c.owner-lower.result.0 in
    let l = c.owner-upper.result.0 in
    let lower = c.owner-lower.ensures.value a p in
    let upper = c.owner-upper.ensures.value b q in
    let row = c.mentioned.result.now in
    let off : eqb k l ≡ false = false_from_ne_true (eqb k l) (λ e. c.if-lower-upper.true ((Decides-eqb k l).0 e)) in
    c.has_number.ensures ∙ sym (ap (λ (v : Bool). not v && list_any (λ (n : ℕ). n == c.head.result.name) row) off)
    ∙ sym (owned_below c.args.self.now a b k l lower upper i c.head.result (c.head.ensures.value b.owner upper) row (c.mentioned.ensures.upward a.owner lower)))

pub returns-else-lower-upper : goal.returns-else-lower-upper
returns-else-lower-upper c = λ a b p q i. (
    let k = c.owner-lower.result.0 in
    let l = c.owner-upper.result.0 in
    ap not ((Decides-eqb k l).1 c.if-lower-upper.false)
    ∙ sym (not_below_itself c.args.self.now k l a.owner b.owner (c.owner-lower.ensures.value a p) (c.owner-upper.ensures.value b q) c.if-lower-upper.false))
