use Rattle.std.proofs.Common.{◌≡◌, ℕ, ◌<◌, List, length, replicate, sym, ap, subst, ◌∙◌, arith}
use Rattle.std.specs.Prelude.{All, map}
use Rattle.std.proofs.lemmas.List.{length-map}
use Rattle.fcg_join.specs.Parts.{types_of, nodes_of}
use Rattle.fcg_join.specs.SetNames.{set_names}
use Rattle.fcg_join.specs.Internal.Signatures.{Ascends, Key, pairs_of_keys, nodes_of_row, row_of_pair, set_rows, signature_rows}
use Rattle.fcg_join.proofs.SignatureKeys.{ascends_from}
use Rattle.fcg_join.proofs.SignatureNodes.{nodes_with, numbers_are, rows_within, pairs_found, rows_found, rows_few, keys_many}
use Rattle.fcg_join.proofs.signatures.number_signatures.Goals as goal

pub cut_keys-requires-clause-sorted : goal.cut_keys-requires-clause-sorted
cut_keys-requires-clause-sorted c = subst Ascends (sym c.deref.ensures.value) (ascends_from c.sort_keys.new.keys.items c.in_ok-sort_keys.ensures.sorted)

pub number_rows-requires-clause-few : goal.number_rows-requires-clause-few
number_rows-requires-clause-few c =
    let parts = c.args.parts.now in
    let rows = c.in_ok-declarers.ensures.rows ∙ ap (λ (ks : List Key). map (nodes_of_row ks) (pairs_of_keys ks)) c.deref.ensures.value ∙ rows_found parts c.in_ok-keys.keys.items c.sort_keys.new.keys.items c.in_ok-keys.ensures c.in_ok-sort_keys.ensures in
    let long = ap (λ (rs : List (List ℕ)). length rs) rows ∙ length-map (signature_rows (set_names parts) (nodes_of parts)) (nodes_with (set_names parts) (types_of parts)) in
    omega (arith, rows_few parts, c.requires.few)

pub number_rows-requires-clause-within : goal.number_rows-requires-clause-within
number_rows-requires-clause-within c =
    let parts = c.args.parts.now in
    let rows = c.in_ok-declarers.ensures.rows ∙ ap (λ (ks : List Key). map (nodes_of_row ks) (pairs_of_keys ks)) c.deref.ensures.value ∙ rows_found parts c.in_ok-keys.keys.items c.sort_keys.new.keys.items c.in_ok-keys.ensures c.in_ok-sort_keys.ensures in
    let many = keys_many parts c.in_ok-keys.keys.items c.sort_keys.new.keys.items c.in_ok-keys.ensures c.in_ok-sort_keys.ensures in
    let k = c.sort_keys.new.keys.ok in
    let count : c.len.result ≡ length (nodes_of parts) = omega (arith, c.len.ensures) in
    subst (λ (rs : List (List ℕ)). All (λ row. All (λ k. k < c.len.result) row) rs) (sym rows) (rows_within (set_names parts) (types_of parts) c.len.result count)

pub returns : goal.returns
returns c =
    let parts = c.args.parts.now in
    let keys = c.in_ok-declarers.ensures.pairs ∙ ap pairs_of_keys c.deref.ensures.value ∙ pairs_found parts c.in_ok-keys.keys.items c.sort_keys.new.keys.items c.in_ok-keys.ensures c.in_ok-sort_keys.ensures in
    let rows = c.in_ok-declarers.ensures.rows ∙ ap (λ (ks : List Key). map (nodes_of_row ks) (pairs_of_keys ks)) c.deref.ensures.value ∙ rows_found parts c.in_ok-keys.keys.items c.sort_keys.new.keys.items c.in_ok-keys.ensures c.in_ok-sort_keys.ensures in
    let many = keys_many parts c.in_ok-keys.keys.items c.sort_keys.new.keys.items c.in_ok-keys.ensures c.in_ok-sort_keys.ensures in
    let k = c.sort_keys.new.keys.ok in
    let count : c.len.result ≡ length (nodes_of parts) = omega (arith, c.len.ensures) in
    let long = sym (length-map c.cut_keys.new.pairs.items row_of_pair) ∙ ap (λ (rs : List (List ℕ)). length rs) keys in
    record {
      few = omega (arith, rows_few parts, c.requires.few);
      keys_are = keys;
      of_nodes_are = c.in_ok-of_nodes.ensures ∙ ap (λ (rs : List (List ℕ)). set_rows 0 rs (replicate c.len.result 0)) rows ∙ numbers_are (set_names parts) (types_of parts) c.len.result count;
      declarers_are = rows;
    }
