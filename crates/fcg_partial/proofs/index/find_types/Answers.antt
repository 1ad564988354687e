use Rattle.std.proofs.Common.{◌≡◌, ℕ, List, length, Bool, true, false, refl, sym, ap, subst, ◌∙◌, arith}
use Rattle.std.specs.Prelude.{map, ◌==◌}
use Rattle.std.specs.List.{flat_map}
use Rattle.std.proofs.lemmas.Bool.Decides.{nat_tests}
use Rattle.std.proofs.lemmas.Result.{err_from_is_err_and}
use Rattle.fcg_partial.specs.Graph.{type_targets}
use Rattle.fcg_partial.specs.Internal.UsedNumbers.{marked, ArePlaces}
use Rattle.fcg_partial.specs.Internal.RowPlaces.{text_at}
use Rattle.fcg_partial.proofs.IndexLaws.{length_replicate, length_map, no_type_count, types_fail, trailing, unused_name, unused_ref, all_used, refs_are, refs_long, graph}
use Rattle.fcg_partial.proofs.TypeReads.{marked_long}
use Rattle.fcg_partial.proofs.MarkLaws.{length_marked}
use Rattle.fcg_partial.proofs.index.find_types.Goals as goal

pub returns-in_err-count : goal.returns-in_err-count
returns-in_err-count c =
    let p = err_from_is_err_and c.from_residual.result c.from_residual.ensures.1 in
    let bytes = c.args.bytes.now in
    let names : List (List ℕ) = map (text_at bytes) c.args.names.now in
    let h = c.requires.names in
    let r = c.requires.refs in
    rw (p.1, p.2) (no_type_count bytes names c.args.refs (length c.args.used_refs.now) c.args.at c.args.used.now h.magic h.version h.names_are r.count_is r.read c.in_err-count.field-0.0 c.in_err-count.ensures.value)

pub returns-in_err-places : goal.returns-in_err-places
returns-in_err-places c =
    let p = err_from_is_err_and c.from_residual-in_err-places.result c.from_residual-in_err-places.ensures.1 in
    let bytes = c.args.bytes.now in
    let names : List (List ℕ) = map (text_at bytes) c.args.names.now in
    let h = c.requires.names in
    let r = c.requires.refs in
    let long : length c.args.used.now ≡ length names = marked_long r.read ∙ length_replicate (length names) in
    let count_is = sym c.in_ok-count.ensures.value in
    let given = rw long at c.in_err-places.ensures.value in
    rw (p.1, p.2) (types_fail bytes names c.args.refs (length c.args.used_refs.now) c.args.at c.args.used.now h.magic h.version h.names_are r.count_is r.read c.in_ok-count.count count_is c.in_err-places.field-0.0 given)

pub returns-then-end-bytes : goal.returns-then-end-bytes
returns-then-end-bytes c =
    let bytes = c.args.bytes.now in
    let names : List (List ℕ) = map (text_at bytes) c.args.names.now in
    let h = c.requires.names in
    let r = c.requires.refs in
    let long : length c.args.used.now ≡ length names = marked_long r.read ∙ length_replicate (length names) in
    let count_is = sym c.in_ok-count.ensures.value in
    let given = rw long at c.in_ok-places.ensures.value in
    let refs_marks = given.refs ∙ ap (λ (m : List Bool). marked m (flat_map type_targets given.types)) c.requires.no_marks in
    let end : (c.in_ok-places.end == length bytes) ≡ false = (let t = c.if-end-bytes.true in grind (arith, nat_tests)) in
    rw (c.into.ensures, c.fault_at.ensures) (trailing bytes names c.args.refs (length c.args.used_refs.now) c.args.at c.args.used.now h.magic h.version h.names_are r.count_is r.read c.in_ok-count.count count_is given.types c.in_ok-places.end given.read_is c.read_types.new.names c.read_types.new.refs given.names refs_marks end)

pub check_names-requires-clause-long : goal.check_names-requires-clause-long
check_names-requires-clause-long c =
    let bytes = c.args.bytes.now in
    let names : List (List ℕ) = map (text_at bytes) c.args.names.now in
    let h = c.requires.names in
    let r = c.requires.refs in
    let long : length c.args.used.now ≡ length names = marked_long r.read ∙ length_replicate (length names) in
    let count_is = sym c.in_ok-count.ensures.value in
    let given = rw long at c.in_ok-places.ensures.value in
    let refs_marks = given.refs ∙ ap (λ (m : List Bool). marked m (flat_map type_targets given.types)) c.requires.no_marks in
    ap (λ (m : List Bool). length m) given.names ∙ length_marked c.args.used.now _ ∙ long ∙ length_map (text_at bytes) c.args.names.now

pub returns-in_err-check_names : goal.returns-in_err-check_names
returns-in_err-check_names c =
    let p = err_from_is_err_and c.from_residual-in_err-check_names.result c.from_residual-in_err-check_names.ensures.1 in
    let bytes = c.args.bytes.now in
    let names : List (List ℕ) = map (text_at bytes) c.args.names.now in
    let h = c.requires.names in
    let r = c.requires.refs in
    let long : length c.args.used.now ≡ length names = marked_long r.read ∙ length_replicate (length names) in
    let count_is = sym c.in_ok-count.ensures.value in
    let given = rw long at c.in_ok-places.ensures.value in
    let refs_marks = given.refs ∙ ap (λ (m : List Bool). marked m (flat_map type_targets given.types)) c.requires.no_marks in
    let end : (c.in_ok-places.end == length bytes) ≡ true = (let t = c.if-end-bytes.false in grind (arith, nat_tests)) in
    rw (p.1, p.2) (unused_name bytes names c.args.refs (length c.args.used_refs.now) c.args.at c.args.used.now h.magic h.version h.names_are r.count_is r.read c.in_ok-count.count count_is given.types c.in_ok-places.end given.read_is c.read_types.new.names c.read_types.new.refs given.names refs_marks c.in_err-check_names.field-0.0 end c.in_err-check_names.ensures)

pub returns-in_err-check_refs : goal.returns-in_err-check_refs
returns-in_err-check_refs c =
    let p = err_from_is_err_and c.from_residual-in_err-check_refs.result c.from_residual-in_err-check_refs.ensures.1 in
    let bytes = c.args.bytes.now in
    let names : List (List ℕ) = map (text_at bytes) c.args.names.now in
    let h = c.requires.names in
    let r = c.requires.refs in
    let long : length c.args.used.now ≡ length names = marked_long r.read ∙ length_replicate (length names) in
    let count_is = sym c.in_ok-count.ensures.value in
    let given = rw long at c.in_ok-places.ensures.value in
    let refs_marks = given.refs ∙ ap (λ (m : List Bool). marked m (flat_map type_targets given.types)) c.requires.no_marks in
    let end : (c.in_ok-places.end == length bytes) ≡ true = (let t = c.if-end-bytes.false in grind (arith, nat_tests)) in
    rw (p.1, p.2) (unused_ref bytes names c.args.refs (length c.args.used_refs.now) c.args.at c.args.used.now h.magic h.version h.names_are r.count_is r.read c.in_ok-count.count count_is given.types c.in_ok-places.end given.read_is c.read_types.new.names c.read_types.new.refs given.names refs_marks c.in_err-check_refs.field-0.0 end c.in_ok-check_names.ensures c.in_err-check_refs.ensures)

pub returns : goal.returns
returns c =
    let bytes = c.args.bytes.now in
    let names : List (List ℕ) = map (text_at bytes) c.args.names.now in
    let h = c.requires.names in
    let r = c.requires.refs in
    let long : length c.args.used.now ≡ length names = marked_long r.read ∙ length_replicate (length names) in
    let count_is = sym c.in_ok-count.ensures.value in
    let given = rw long at c.in_ok-places.ensures.value in
    let refs_marks = given.refs ∙ ap (λ (m : List Bool). marked m (flat_map type_targets given.types)) c.requires.no_marks in
    let end : (c.in_ok-places.end == length bytes) ≡ true = (let t = c.if-end-bytes.false in grind (arith, nat_tests)) in
    record {
      graph = graph bytes names c.args.refs (length c.args.used_refs.now) c.args.at c.args.used.now h.magic h.version h.names_are r.count_is r.read c.in_ok-count.count count_is given.types c.in_ok-places.end given.read_is c.read_types.new.names c.read_types.new.refs given.names refs_marks;
      read = all_used bytes names c.args.refs (length c.args.used_refs.now) c.args.at c.args.used.now h.magic h.version h.names_are r.count_is r.read c.in_ok-count.count count_is given.types c.in_ok-places.end given.read_is c.read_types.new.names c.read_types.new.refs given.names refs_marks end c.in_ok-check_names.ensures c.in_ok-check_refs.ensures;
      names_are = refl;
      texts = h.texts;
      after_refs = c.args.at;
      refs_are = refs_are bytes names c.args.refs (length c.args.used_refs.now) c.args.at c.args.used.now h.magic h.version h.names_are r.count_is r.read;
      types_are = subst (λ (n : ℕ). ArePlaces bytes (length names) n c.in_ok-places.places.types.items c.in_ok-places.places.firsts.items c.in_ok-places.places.methods.items given.types) (sym (refs_long bytes names c.args.refs (length c.args.used_refs.now) c.args.at c.args.used.now h.magic h.version h.names_are r.count_is r.read)) given.places_are;
    }
