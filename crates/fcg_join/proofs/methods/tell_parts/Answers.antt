use Rattle.std.proofs.Common.{◌≡◌, ℕ, get_or, sym, ap, subst, ◌∙◌, inl, inr, arith}
use Rattle.std.specs.Prelude.{All}
use Rattle.std.proofs.lemmas.Bool.{cases_eq}
use Rattle.std.proofs.lemmas.List.{get_or_default}
use Rattle.fcg_views.specs.Valid.{IsValid}
use Rattle.fcg_partial.specs.Parts.{PartShown}
use Rattle.fcg_analysis.proofs.NodeMembers.{apart_from_valid}
use Rattle.fcg_join.specs.Parts.{placed}
use Rattle.fcg_join.proofs.DeclaredLaws.{valid_placed}
use Rattle.fcg_join.proofs.methods.tell_parts.Goals as goal

pub loop-i-init : goal.loop-i-init
loop-i-init c = λ k d l. absurd (omega arith)

pub loop-i-preserved : goal.loop-i-preserved
loop-i-preserved c = λ k d l. (elim (cases_eq k c.loop-i.i) [
  | inl q ↦ (let e : c.index-parts-i.result ≡ get_or c.args.parts.now k d =
      c.index-parts-i.is ∙ get_or_default c.args.parts.now c.loop-i.i c.index-parts-i.result d c.loop-i-test.true ∙ ap (λ (n : ℕ). get_or c.args.parts.now n d) (sym q) in
      subst (λ (p : PartShown). All IsValid p.views) e c.tell_part.ensures)
  | inr ne ↦ c.loop-i.invariant k d (omega arith)
])

pub returns : goal.returns
returns c = apart_from_valid (placed c.args.parts.now) (valid_placed c.args.parts.now (λ k d l. c.loop-i.invariant k d (omega (arith, c.loop-i-test.false))))
