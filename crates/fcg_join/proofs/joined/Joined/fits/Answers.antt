use Rattle.std.proofs.Common.{◌≡◌, ◌+◌, ◌≤◌, ap, drop, sym, ◌∙◌, arith}
use Rattle.fcg_partial.specs.Parts.{encoded_len}
use Rattle.fcg_join.proofs.JoinLaws.{encoded_more, encoded_none}
use Rattle.fcg_join.proofs.joined.Joined.fits.Goals as goal

pub returns-then-size-left : goal.returns-then-size-left
returns-then-size-left c =
    let items = c.as_slice-part-items.result.now in
    let i = c.loop-part.part-index in
    let e = ap (λ ps. encoded_len (drop i ps)) c.as_slice-part-items.ensures in
    let m = encoded_more items i c.part-item.result c.loop-part-test.true c.part-item.is in
    let v = c.loop-part.invariant in
    let s = c.count_bytes-size.ensures in
    let b = c.if-size-left.true in
    ((λ t. absurd cc), (λ l. absurd (omega arith)))

pub loop-part-preserved : goal.loop-part-preserved
loop-part-preserved c =
    let items = c.as_slice-part-items.result.now in
    let i = c.loop-part.part-index in
    let e = ap (λ ps. encoded_len (drop i ps)) c.as_slice-part-items.ensures in
    let f = ap (λ ps. encoded_len (drop (i + 1) ps)) c.as_slice-part-items.ensures in
    let m = encoded_more items i c.part-item.result c.loop-part-test.true c.part-item.is in
    let v = c.loop-part.invariant in
    let s = c.count_bytes-size.ensures in
    let b = c.if-size-left.false in
    omega arith

pub returns : goal.returns
returns c =
    let items = c.as_slice-part-items.result.now in
    let i = c.loop-part.part-index in
    let e = ap (λ ps. encoded_len (drop i ps)) c.as_slice-part-items.ensures in
    let m = encoded_none items i c.loop-part-test.false in
    let v = c.loop-part.invariant in
    ((λ t. omega arith), (λ l. search Rattle.std.proofs.Common.rules))
