use Rattle.std.proofs.Common.{[], sym, ◌∙◌, append_assoc}
use Rattle.std.proofs.lemmas.List.{append-nil}
use Rattle.fcg_partial.specs.Internal.Written.{numbers_of, collected, written}
use Rattle.fcg_partial.proofs.write.write_graph.Goals as goal

pub returns-clause-text : goal.returns-clause-text
unfolding written
returns-clause-text c =
    let names = c.args.names.now in
    let begun = c.new.ensures ∙ c.requires.numbers ∙ sym (append-nil (numbers_of names (collected c.args.views.now))) in
    let types = (c.in_ok-push_types.ensures.text names [] begun).0 in
    let tables = rw c.as_slice.ensures at c.in_ok-push_tables.ensures in
    rw (types, c.in_ok-push_u4.ensures, tables, c.new-out.ensures.items) (simp append_assoc)
