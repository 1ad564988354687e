use Rattle.std.proofs.Common.{◌≡◌, ℕ, List, [], ◌++◌, ap, refl, sym, ◌∙◌, append_assoc}
use Rattle.std.proofs.lemmas.List.{take-append-drop}
use Rattle.fcg_views.specs.Escape.{escaped}
use Rattle.fcg_top.specs.declared.text_buffer.TheConstants.{PIECE}
use Rattle.fcg_top.proofs.Buffered.{Sends-as, Sends-none, Sends-trans, escaped-append, escaped-none}
use Rattle.fcg_top.proofs.text_buffer.TextBuffer.push_name.Goals as goal

pub loop-rest-init : goal.loop-rest-init
loop-rest-init g c = ([], refl, Sends-as _ _ _ _ _ _ (sym (escaped-none c.args.place)) (Sends-none _ _))

pub loop-rest-preserved : goal.loop-rest-preserved
loop-rest-preserved g c =
    let so_far = c.loop-rest.invariant in
    let piece = c.split_at.result.0.now in
    let after = c.split_at.result.1.now in
    let parts : c.loop-rest.rest.now ≡ piece ++ after = rw (c.split_at.ensures.front, c.split_at.ensures.back) (sym (take-append-drop PIECE c.loop-rest.rest.now)) in (
      so_far.0 ++ piece,
      so_far.1 ∙ ap (λ (l : List ℕ). so_far.0 ++ l) parts ∙ sym (append_assoc so_far.0 piece after),
      Sends-as _ _ _ _ _ _ (sym (escaped-append c.args.place so_far.0 piece)) (Sends-trans _ _ _ _ _ _ _ _ so_far.2 c.push_piece.ensures),
    )

pub returns : goal.returns
returns g c =
    let so_far = c.loop-rest.invariant in
    let whole = ap (λ (l : List ℕ). escaped c.args.place l) so_far.1 ∙ escaped-append c.args.place so_far.0 c.loop-rest.rest.now in
    Sends-as _ _ _ _ _ _ (sym whole) (Sends-trans _ _ _ _ _ _ _ _ so_far.2 c.push_piece-2.ensures)
