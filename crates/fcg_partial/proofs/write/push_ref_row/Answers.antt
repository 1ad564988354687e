use Rattle.std.proofs.Common.{append_assoc}
use Rattle.fcg_partial.proofs.write.push_ref_row.Goals as goal

pub returns : goal.returns
returns c = rw (c.in_ok-push_u4-3.ensures, c.in_ok-push_u4-2.ensures, c.in_ok-push.ensures.items, c.in_ok-push_u4.ensures) (simp append_assoc)
