use Rattle.std.proofs.Common.{◌≡◌, take}
use Rattle.std.specs.Prelude.{map}
use Rattle.fcg_grammar.specs.Table.{place}
use Rattle.fcg_partial.proofs.mentions.Texts.numbers_in.Given as goal

abbrev pub invariant-loop-text : goal.invariant-loop-text
invariant-loop-text l = l.numbers.items ≡ map (place l.names) (take l.text-index l.texts)
