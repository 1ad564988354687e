use Rattle.std.proofs.Common.{◌≡◌, ◌++◌, take}
use Rattle.std.specs.List.{flat_map}
use Rattle.fcg_grammar.specs.Spell.{u2}
use Rattle.fcg_make.specs.Layout.{type_index}
use Rattle.fcg_make.proofs.write.push_type_indexes.Given as goal

abbrev pub invariant-loop-name : goal.invariant-loop-name
invariant-loop-name l = l.out.items ≡ l.fn.out.items ++ flat_map (λ name. u2 (type_index l.table name)) (take l.name-index l.names)
