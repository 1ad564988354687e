use Rattle.std.proofs.Common.{◌≡◌, ℕ, List, length, Bool, ap, ◌∙◌}
use Rattle.std.specs.Prelude.{map}
use Rattle.std.proofs.lemmas.Result.{err_from_is_err_and}
use Rattle.fcg_partial.specs.Internal.RowPlaces.{text_at}
use Rattle.fcg_partial.proofs.IndexLaws.{length_replicate, no_ref_count, refs_fail}
use Rattle.fcg_partial.proofs.index.find_refs.Goals as goal

pub returns-in_err-count : goal.returns-in_err-count
returns-in_err-count c =
    let p = err_from_is_err_and c.from_residual.result c.from_residual.ensures.1 in
    let h = c.requires.names in
    rw (p.1, p.2) (no_ref_count c.args.bytes.now (map (text_at c.args.bytes.now) c.args.names.now) c.args.at h.magic h.version h.names_are c.in_err-count.field-0.0 c.in_err-count.ensures.value)

pub returns-in_err-after : goal.returns-in_err-after
returns-in_err-after c =
    let p = err_from_is_err_and c.from_residual-in_err-after.result c.from_residual-in_err-after.ensures.1 in
    let h = c.requires.names in
    let names : List (List ℕ) = map (text_at c.args.bytes.now) c.args.names.now in
    let long : length c.args.used.now ≡ length names = ap (λ (m : List Bool). length m) c.requires.no_marks ∙ length_replicate (length names) in
    let given = rw long at c.in_err-after.ensures.value in
    rw (p.1, p.2) (refs_fail c.args.bytes.now names c.args.at h.magic h.version h.names_are c.in_ok-count.count c.in_err-after.field-0.0 c.in_ok-count.ensures.value given)
