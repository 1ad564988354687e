use Rattle.std.proofs.Common.{◌≡◌, ℕ, List, ◌++◌, ◌∷◌, [], length, sym, ap, ◌∙◌, arith}
use Rattle.std.specs.Prelude.{map}
use Rattle.std.specs.List.{range_with_len}
use Rattle.std.proofs.lemmas.List.FromFn.{map-range_with_len_more}
use Rattle.fcg_join.specs.Internal.Mentions.{row_of}
use Rattle.fcg_join.proofs.joined_rows.JoinedRows.list_rows.Goals as goal

pub loop-node-init : goal.loop-node-init
loop-node-init c = c.in_ok-rows.ensures

pub loop-node-preserved : goal.loop-node-preserved
loop-node-preserved c =
    c.in_ok-push_row.ensures.ok
    ∙ ap (λ (rs : List (List ℕ)). rs ++ c.row.result.now ∷ []) c.loop-node.invariant
    ∙ ap (λ (r : List ℕ). map (row_of c.args.self.now) (range_with_len 0 c.loop-node.node) ++ r ∷ []) c.row.ensures
    ∙ sym (map-range_with_len_more (row_of c.args.self.now) 0 c.loop-node.node c.loop-node.node (omega arith))

pub returns : goal.returns
returns c =
    let e : c.loop-node.node ≡ length c.args.self.now.places.items = (let t = c.loop-node-test.false in let u = c.loop-node.auto.node-end in let m = c.len-node-end.ensures in let k = c.args.self.now.places.ok in omega (arith, t, u, m, k)) in
    c.loop-node.invariant ∙ ap (λ n. map (row_of c.args.self.now) (range_with_len 0 n)) e
