use Rattle.std.proofs.Common.{◌≡◌, ◌++◌, take}
use Rattle.std.specs.List.{flat_map}
use Rattle.fcg_grammar.specs.Spell.{u2}
use Rattle.fcg_make.specs.Layout.{handle_index}
use Rattle.fcg_make.proofs.write.push_handle_indexes.Given as goal

abbrev pub invariant-loop-site : goal.invariant-loop-site
invariant-loop-site l = l.out.items ≡ l.fn.out.items ++ flat_map (λ site. u2 (handle_index l.table site)) (take l.site-index l.sites)
