use Rattle.std.proofs.Common.{ℕ, List, ◌∷◌, ◌++◌, sym, ap, ◌∙◌, append_assoc}
use Rattle.fcg_views.specs.NamesIn.{names_of_super}
use Rattle.fcg_partial.specs.Internal.Written.{names_of_head, names_of_members, numbers_of, written_type}
use Rattle.fcg_partial.proofs.NumberedLaws.{split}
use Rattle.fcg_partial.proofs.write.push_type.Goals as goal

pub returns-clause-text : goal.returns-clause-text
unfolding written_type
returns-clause-text c = λ names more e. (
    let v = c.args.view.now in
    let parts = ap (λ (l : List (List ℕ)). numbers_of names (v.name ∷ l) ++ more) (sym (append_assoc (names_of_super v.superclass) v.interfaces (names_of_members v))) in
    let head = c.in_ok-push_head.ensures.text names (numbers_of names (names_of_members v) ++ more) (split names (names_of_head v) (names_of_members v) more c.args.numbers.now (e ∙ parts)) in
    let members = c.in_ok-push_members.ensures.text names more head.1 in
    (rw (members.0, head.0) (simp append_assoc), members.1))
