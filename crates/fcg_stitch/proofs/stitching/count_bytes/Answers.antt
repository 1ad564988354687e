use Rattle.std.proofs.Common.{◌≡◌, ◌+◌, ◌-◌, ◌^◌, List, length, drop, ap, ◌∙◌, arith}
use Rattle.std.specs.Prelude.{min}
use Rattle.fcg_views.specs.declared.view.View.{View}
use Rattle.fcg_partial.specs.Parts.{PartShown, encoded_len}
use Rattle.fcg_partial.specs.Views.{text_of}
use Rattle.fcg_stitch.proofs.ByteLaws.{bytes_more, bytes_all}
use Rattle.fcg_stitch.proofs.stitching.count_bytes.Goals as goal

pub loop-part-init : goal.loop-part-init
loop-part-init c = (omega arith, omega arith)

pub loop-part-preserved : goal.loop-part-preserved
loop-part-preserved c =
    let items = c.args.parts.now in
    let i = c.loop-part.part-index in
    let size : c.encoded_len.result ≡ length (text_of c.part-item.result.views) =
    c.encoded_len.ensures.long ∙ ap (λ (vs : List View). length (text_of vs)) (c.deref.ensures ∙ ap (λ (p : PartShown). p.views) c.part.view_is) in
    let sum = c.saturating_add-bytes.ensures ∙ ap (λ n. min (c.loop-part.bytes + n) (2 ^ 64 - 1)) size in
    let more = bytes_more items i c.loop-part.bytes (2 ^ 64 - 1) c.part-item.result c.loop-part-test.true c.part-item.is in
    let small = c.saturating_add-bytes.type_inv in
    (omega arith, ap (λ n. min (n + encoded_len (drop (i + 1) items)) (2 ^ 64 - 1)) sum ∙ more ∙ c.loop-part.invariant.1)

pub returns : goal.returns
returns c = bytes_all c.args.parts.now c.loop-part.part-index c.loop-part.bytes (2 ^ 64 - 1) c.loop-part-test.false c.loop-part.invariant.0 ∙ c.loop-part.invariant.1
