use Rattle.fcg_make.proofs.WriteLemmas.{code_written}
use Rattle.fcg_make.proofs.member.push_code_content.Goals as goal

pub returns : goal.returns
returns c = code_written c.args.code.now c.args.out.now.items _ _ _ _ _ _ _ c.in_ok-push_u4.ensures c.in_ok-push_u2.ensures c.in_ok-push_u2-2.ensures c.in_ok-push_u4-2.ensures c.in_ok-extend_from_slice.ensures.items c.in_ok-push_u2-3.ensures c.in_ok-push_u2-4.ensures
