use Rattle.std.proofs.Common.{◌++◌, append_assoc}
use Rattle.fcg_grammar.specs.Table.{place}
use Rattle.fcg_views.specs.NamesIn.{names_of_super}
use Rattle.fcg_partial.specs.Internal.Written.{numbers_of, written_head}
use Rattle.fcg_partial.proofs.NumberedLaws.{split}
use Rattle.fcg_partial.proofs.write.push_head.Goals as goal

pub returns-clause-text : goal.returns-clause-text
unfolding written_head
returns-clause-text c = λ names more e. (
    let v = c.args.view.now in
    let own = c.next.ensures (place names v.name) (numbers_of names (names_of_super v.superclass ++ v.interfaces) ++ more) e in
    let above = c.super_number.ensures names (numbers_of names v.interfaces ++ more) (split names (names_of_super v.superclass) v.interfaces more c.next.new.self own.1) in
    let interfaces = rw c.as_slice-interfaces.ensures at c.in_ok-push_interfaces.ensures in
    let others = interfaces names more above.1 in
    let name = rw own.0 at c.in_ok-push_u4.ensures in
    let super = rw above.0 at c.in_ok-push_u4-2.ensures in
    let many = rw c.as_slice-interfaces.ensures at c.in_ok-push_u2-2.ensures in
    (rw (others.0, many, super, c.in_ok-push_u2.ensures, name) (simp append_assoc), others.1))
