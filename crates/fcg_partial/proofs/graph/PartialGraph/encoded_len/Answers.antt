use Rattle.std.proofs.Common.{rules, ◌≡◌, ℕ, sym, subst, ap, length, ◌∙◌}
use Rattle.fcg_partial.specs.Views.{text_of}
use Rattle.fcg_partial.specs.Sizes.{HasAtMost}
use Rattle.fcg_partial.proofs.KeptLaws.{kept_text}
use Rattle.fcg_partial.proofs.SizeLaws.{has_at_most}
use Rattle.fcg_partial.proofs.graph.PartialGraph.encoded_len.Goals as goal

pub returns-clause-long : goal.returns-clause-long
returns-clause-long c =
    let long : c.len.result ≡ length c.self.inside.bytes.items = search rules in
    long ∙ ap length (kept_text c.self.inside.bytes.items c.self.inside.index c.self.invariant ∙ ap text_of c.self.view_is)

pub returns-clause-few : goal.returns-clause-few
returns-clause-few c =
    let long : c.len.result ≡ length c.self.inside.bytes.items = search rules in
    let same = long ∙ ap length (kept_text c.self.inside.bytes.items c.self.inside.index c.self.invariant ∙ ap text_of c.self.view_is) in
    subst (λ (n : ℕ). HasAtMost n c.args.self.now) (sym same) (has_at_most c.args.self.now)
