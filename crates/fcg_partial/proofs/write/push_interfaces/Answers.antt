use Rattle.std.proofs.Common.{ℕ, List, ◌∷◌, [], ◌++◌, get_or, sym, ap, ◌∙◌}
use Rattle.std.proofs.lemmas.List.{get_or_default}
use Rattle.fcg_grammar.specs.Spell.{u4}
use Rattle.fcg_grammar.specs.Table.{place}
use Rattle.fcg_partial.specs.Internal.Written.{numbers_of, written_name}
use Rattle.fcg_partial.proofs.NumberedLaws.{singles, none_yet, one_more, all_done}
use Rattle.fcg_partial.proofs.write.push_interfaces.Goals as goal

pub loop-name-init : goal.loop-name-init
loop-name-init c = none_yet (λ name. name ∷ []) written_name c.args.interfaces.now c.args.out.now.items c.args.numbers.now

pub loop-name-preserved : goal.loop-name-preserved
loop-name-preserved c =
    let name = get_or c.args.interfaces.now c.loop-name._name-index [] in
    let is = get_or_default c.args.interfaces.now c.loop-name._name-index [] name c.loop-name-test.true in
    one_more (λ name. name ∷ []) written_name c.args.interfaces.now c.loop-name._name-index c.args.out.now.items c.loop-name.out.items c.args.numbers.now c.loop-name.numbers c.loop-name.invariant name c.loop-name-test.true is c.push_u4.new.out.items c.next.new.self (λ names more e. (
    let taken = c.next.ensures (place names name) more e in
    (c.in_ok-push_u4.ensures ∙ ap (λ (n : ℕ). c.loop-name.out.items ++ u4 n) taken.0, taken.1)))

pub returns : goal.returns
returns c = λ names more e.
    all_done (λ name. name ∷ []) written_name c.args.interfaces.now c.loop-name._name-index c.args.out.now.items c.loop-name.out.items c.args.numbers.now c.loop-name.numbers c.loop-name.invariant c.loop-name-test.false names more (e ∙ ap (λ (l : List (List ℕ)). numbers_of names l ++ more) (sym (singles c.args.interfaces.now)))
