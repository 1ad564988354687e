use Rattle.std.proofs.Common.{◌≡◌, ◌++◌, sym, ap, ◌∙◌, arith}
use Rattle.std.proofs.lemmas.List.{append-nil, drop_all}
use Rattle.fcg_join.specs.Internal.Numbering.{with_places}
use Rattle.fcg_join.proofs.KeyLists.{key_list}
use Rattle.fcg_join.proofs.names.sort_keys.Goals as goal

pub returns : goal.returns
returns c =
    let keys = c.loop-place.keys.items in
    let texts = c.args.texts.now in
    let all : keys ≡ with_places 0 texts = sym (append-nil keys) ∙ sym (ap (λ xs. keys ++ with_places c.loop-place.place xs) (drop_all c.loop-place.place texts (omega (arith, c.loop-place-test.false)))) ∙ c.loop-place.invariant in
    key_list texts keys c.sort.new.self.items all c.sort.ensures.permutation c.in_ok-sort.ensures.sorted
