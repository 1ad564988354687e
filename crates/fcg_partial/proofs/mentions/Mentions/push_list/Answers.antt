use Rattle.std.proofs.Common.{rules, ◌≡◌, ℕ, List, ◌++◌, ◌∷◌, [], length, sym, ap, subst, ◌∙◌}
use Rattle.std.specs.Prelude.{Option, map}
use Rattle.fcg_partial.specs.Views.{name_in}
use Rattle.fcg_partial.specs.Internal.Mentions.{AreMentions, AreKnown}
use Rattle.fcg_partial.proofs.MentionLaws.{are_more, listed_more, written_over}
use Rattle.fcg_partial.proofs.mentions.Mentions.push_list.Goals as goal

pub loop-text-preserved : goal.loop-text-preserved
loop-text-preserved c =
    let pushed : c.push.new.self.items ≡ c.loop-text.self-inside.numbers.items ++ c.in_ok-number.number ∷ [] = search rules in
    let long : length c.number_listed.new.known ≡ c.loop-text.known.len = search rules in
    let are = c.loop-text.invariant.are in
    record {
      are = subst (λ (l : List ℕ). AreMentions c.number_listed.new.self.items.items l) (sym pushed) (are_more c.loop-text.self-inside.texts.items.items c.number_listed.new.self.items.items c.loop-text.self-inside.numbers.items _ c.in_ok-number.number are c.in_ok-number.ensures.ok);
      so_far = ap (map (name_in c.number_listed.new.self.items.items)) pushed ∙ listed_more c.loop-text.self-inside.texts.items.items c.number_listed.new.self.items.items c.loop-text.self-inside.numbers.items c.args.list.now.texts c.numbers-names.result.now c.loop-text.text-index 0 c.in_ok-number.number c.args.self.now c.loop-text-test.true are c.in_ok-number.ensures.ok c.loop-text.invariant.so_far;
      known = subst (λ (l : List (Option ℕ)). AreKnown c.number_listed.new.self.items.items c.args.list.now.texts l) (sym (written_over c.loop-text.known.len c.number_listed.new.known c.loop-text.known.items long)) c.in_ok-number.ensures.known;
    }
