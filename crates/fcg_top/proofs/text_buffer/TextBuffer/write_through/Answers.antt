use Rattle.std.proofs.Common.{ℕ, List, ◌++◌, ap, sym}
use Rattle.fcg_top.proofs.Buffered.{Sends-trans, Sends-written}
use Rattle.fcg_top.proofs.text_buffer.TextBuffer.write_through.Goals as goal

pub returns : goal.returns
returns g c =
    let empty = c.flush.ensures.empty in
    let behind = Sends-written _ _ c.flush.new.self _ c.args.bytes.now c.args.bytes.now c.write_more-self.ensures (λ e. sym (ap (λ (l : List ℕ). l ++ c.args.bytes.now) empty)) empty in
    Sends-trans _ _ _ _ _ _ _ _ c.flush.ensures.sends behind
