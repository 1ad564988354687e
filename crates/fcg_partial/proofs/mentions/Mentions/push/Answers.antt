use Rattle.std.proofs.Common.{rules, ◌≡◌, ℕ, List, ◌++◌, ◌∷◌, [], sym, ap, subst, ◌∙◌}
use Rattle.std.specs.Prelude.{map}
use Rattle.fcg_partial.specs.Views.{name_in}
use Rattle.fcg_partial.specs.Internal.Mentions.{AreMentions}
use Rattle.fcg_partial.proofs.MentionLaws.{mentions_more, are_more}
use Rattle.fcg_partial.proofs.mentions.Mentions.push.Goals as goal

pub invariant_of-self-2 : goal.invariant_of-self-2
invariant_of-self-2 c =
    let pushed : c.push.new.self.items ≡ c.self.inside.numbers.items ++ c.in_ok-number.number ∷ [] = search rules in
    subst (λ (l : List ℕ). AreMentions c.number.new.self.items.items l) (sym pushed)
    (are_more c.self.inside.texts.items.items c.number.new.self.items.items c.self.inside.numbers.items c.args.name.now c.in_ok-number.number c.self.invariant c.in_ok-number.ensures.ok)

pub returns : goal.returns
returns c =
    let pushed : c.push.new.self.items ≡ c.self.inside.numbers.items ++ c.in_ok-number.number ∷ [] = search rules in
    ap (map (name_in c.number.new.self.items.items)) pushed
    ∙ mentions_more c.self.inside.texts.items.items c.number.new.self.items.items c.self.inside.numbers.items c.args.name.now c.in_ok-number.number c.self.invariant c.in_ok-number.ensures.ok
    ∙ ap (λ (l : List (List ℕ)). l ++ c.args.name.now ∷ []) c.self.view_is
