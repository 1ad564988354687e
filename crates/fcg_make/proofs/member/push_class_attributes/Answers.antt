use Rattle.std.proofs.Common.{ℕ, List, ◌++◌, ap, ◌∙◌}
use Rattle.fcg_grammar.specs.Spell.{u2}
use Rattle.fcg_make.specs.Layout.{text_index}
use Rattle.fcg_make.proofs.WriteLemmas.{some_by, rows_attribute_written}
use Rattle.fcg_make.proofs.member.push_class_attributes.Goals as goal

pub returns : goal.returns
returns c =
    rows_attribute_written c.args.table.now c.args.rows.now c.args.out.now.items _ _ _ _ _ (some_by _ _ c.is_empty.ensures c.if-is_empty.false) c.in_ok-push_u2.ensures
    (c.in_ok-push_text_index.ensures ∙ ap (λ (word : List ℕ). c.push_u2-2.new.out.items ++ u2 (text_index c.args.table.now word)) c.rows.ensures)
    c.in_ok-push_u4.ensures c.in_ok-extend_from_slice.ensures.items (c.as_slice-bytes.ensures.value ∙ c.in_ok-content.ensures)
