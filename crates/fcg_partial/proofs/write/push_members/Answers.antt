use Rattle.std.proofs.Common.{◌++◌, append_assoc}
use Rattle.std.specs.List.{flat_map}
use Rattle.fcg_views.specs.NamesIn.{names_of_field, names_of_method}
use Rattle.fcg_partial.specs.Internal.Written.{numbers_of, written_members}
use Rattle.fcg_partial.proofs.NumberedLaws.{split}
use Rattle.fcg_partial.proofs.write.push_members.Goals as goal

pub returns-clause-text : goal.returns-clause-text
unfolding written_members
returns-clause-text c = λ names more e. (
    let v = c.args.view.now in
    let of_methods = flat_map names_of_method v.methods in
    let push_fields = rw c.as_slice-fields.ensures at c.in_ok-push_fields.ensures.text in
    let fields = push_fields names (numbers_of names of_methods ++ more) (split names (flat_map names_of_field v.fields) of_methods more c.args.numbers.now e) in
    let push_methods = rw c.as_slice-methods.ensures at c.in_ok-push_methods.ensures.text in
    let methods = push_methods names more fields.1 in
    let many_fields = rw c.as_slice-fields.ensures at c.in_ok-push_u2.ensures in
    let many_methods = rw c.as_slice-methods.ensures at c.in_ok-push_u2-2.ensures in
    (rw (methods.0, many_methods, fields.0, many_fields) (simp append_assoc), methods.1))
