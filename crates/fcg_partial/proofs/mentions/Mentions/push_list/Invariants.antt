use Rattle.std.proofs.Common.{◌≡◌, ◌++◌, take}
use Rattle.std.specs.Prelude.{map}
use Rattle.fcg_views.specs.NamesIn.{text_in}
use Rattle.fcg_partial.specs.Views.{name_in}
use Rattle.fcg_partial.specs.Internal.Mentions.{AreMentions, AreKnown}
use Rattle.fcg_partial.proofs.mentions.Mentions.push_list.Given as goal

abbrev pub invariant-loop-text : goal.invariant-loop-text
invariant-loop-text l = record {
  are : AreMentions l.self-inside.texts.items.items l.self-inside.numbers.items;
  so_far : map (name_in l.self-inside.texts.items.items) l.self-inside.numbers.items ≡ l.fn.self ++ map (text_in l.list.texts) (take l.text-index l.names);
  known : AreKnown l.self-inside.texts.items.items l.list.texts l.known.items;
}
