use Rattle.std.proofs.Common.{◌≡◌, get_or, take}
use Rattle.std.specs.Prelude.{map}
use Rattle.fcg_partial.proofs.mentions.Mentions.numbers_in.Given as goal

abbrev pub invariant-loop-text : goal.invariant-loop-text
invariant-loop-text l = l.numbers.items ≡ map (λ n. get_or l.texts.items n 0) (take l.text-index l.mentions)
