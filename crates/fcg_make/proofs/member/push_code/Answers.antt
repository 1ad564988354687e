use Rattle.std.proofs.Common.{ℕ, List, ◌++◌, length, ap, ◌∙◌, arith}
use Rattle.fcg_grammar.specs.Spell.{u2}
use Rattle.fcg_make.specs.Steps.{steps_of}
use Rattle.fcg_make.specs.Layout.{text_index}
use Rattle.fcg_make.proofs.WriteLemmas.{some_by, code_attribute_written}
use Rattle.fcg_make.proofs.LengthLemmas.{code_short}
use Rattle.fcg_make.proofs.member.push_code.Goals as goal

pub push_code_content-requires : goal.push_code_content-requires
push_code_content-requires c =
    let short = code_short c.args.table.now 0 c.args.first (steps_of c.args.sites.now) c.requires.placed in
    let same = ap (λ (bytes : List ℕ). length bytes) (c.as_slice.ensures.value ∙ c.in_ok-code.ensures) in
    record { short = omega (arith, short, same) }

pub returns : goal.returns
returns c =
    code_attribute_written c.args.table.now c.args.first c.args.sites.now c.args.out.now.items _ _ _ _ (some_by _ _ c.is_empty.ensures c.if-is_empty.false) c.in_ok-push_u2.ensures
    (c.in_ok-push_text_index.ensures ∙ ap (λ (word : List ℕ). c.push_u2-2.new.out.items ++ u2 (text_index c.args.table.now word)) c.code.ensures)
    c.in_ok-push_code_content.ensures (c.as_slice.ensures.value ∙ c.in_ok-code.ensures)
