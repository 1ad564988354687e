use Rattle.std.proofs.Common.{ℕ, ◌+◌, List, ◌++◌, length, drop, ap, ◌∙◌}
use Rattle.std.specs.List.{flat_map}
use Rattle.fcg_views.specs.declared.view.Field.{Field}
use Rattle.fcg_views.specs.NamesIn.{names_of_super, names_of_field}
use Rattle.fcg_partial.specs.Internal.Written.{numbers_of}
use Rattle.fcg_partial.proofs.NumberedLaws.{split, passed, passed_twice, field_names_many}
use Rattle.fcg_partial.proofs.intern.skip_to_methods.Goals as goal

pub returns : goal.returns
returns c = λ names methods more e. (
    let v = c.args.view.now in
    let fs = flat_map names_of_field v.fields in
    let begun = c.skip.ensures ∙ ap (drop 1) e in
    let below = split names (names_of_super v.superclass) (v.interfaces ++ (fs ++ methods)) more c.skip.new.self begun in
    let after = c.skip_superclass.ensures names (numbers_of names (v.interfaces ++ (fs ++ methods)) ++ more) below in
    let interfaces = ap (λ (l : List (List ℕ)). length l) c.as_slice.ensures in
    let past = passed names v.interfaces (fs ++ methods) more c.skip_superclass.new.numbers c.skip-2.new.self (length c.as_slice.result.now) interfaces after c.skip-2.ensures in
    let many = ap (λ (l : List Field). length l + length l) c.as_slice-fields.ensures ∙ field_names_many v.fields in
    passed_twice names fs methods more c.skip-2.new.self c.skip-3.new.self c.skip-4.new.self (length c.as_slice-fields.result.now) many past c.skip-3.ensures c.skip-4.ensures)
