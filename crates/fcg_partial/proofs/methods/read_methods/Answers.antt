use Rattle.std.proofs.Common.{rules, ℕ, List, [], ◌∷◌, ◌++◌, length, sym, ap, ◌∙◌, append_assoc, arith}
use Rattle.std.specs.Prelude.{Ok}
use Rattle.std.proofs.lemmas.List.{append-nil, length_push}
use Rattle.std.proofs.lemmas.Result.{err_from_is_err_and}
use Rattle.fcg_grammar.proofs.RowLemmas.{rows_fail}
use Rattle.fcg_partial.specs.Graph.{method_uses, method_targets}
use Rattle.fcg_partial.specs.Internal.UsedNumbers.{used_marks, earlier, at_state}
use Rattle.fcg_partial.specs.Reading.{Earlier, method_at}
use Rattle.fcg_partial.proofs.BothRows.{both_begin, both_more, both_names, both_refs}
use Rattle.fcg_partial.proofs.SeenLaws.{seen_fails, next_is}
use Rattle.fcg_partial.proofs.methods.read_methods.Goals as goal

pub loop-init : goal.loop-init
loop-init c =
    record {
      before = [];
      keys_are = λ k. (let e = c.new-keys.ensures.empty in search rules);
      places = [];
      rows = both_begin method_uses method_targets (method_at c.args.bytes.now (length c.args.names.now) (length c.args.refs.now)) at_state c.args.count (earlier c.args.at [] 0) (used_marks c.args.names.now c.args.refs.now);
      places_are = sym (append-nil c.args.places.now.items);
      forward = omega arith;
      many = omega arith;
      inside = c.requires.inside;
      few = omega arith;
    }

pub returns-in_err-after-clause-value : goal.returns-in_err-after-clause-value
returns-in_err-after-clause-value c =
    let p = err_from_is_err_and c.from_residual.result c.from_residual.ensures.1 in
    let read = method_at c.args.bytes.now (length c.args.names.now) (length c.args.refs.now) in
    let i = c.loop.invariant in
    let given = rw (both_names method_uses method_targets read at_state i.rows, both_refs method_uses method_targets read at_state i.rows) at (c.in_err-after.ensures.value c.loop.counter i.before i.keys_are) in
    rw (p.1, p.2) (seen_fails c.in_err-after.field-0.0 _ _ (rows_fail read c.in_err-after.field-0.0 i.rows.front c.args.count c.loop.counter (earlier c.loop.place i.before c.loop.sites) _ c.loop-test.true given i.rows.so_far))

pub loop-preserved : goal.loop-preserved
loop-preserved c =
    let read = method_at c.args.bytes.now (length c.args.names.now) (length c.args.refs.now) in
    let i = c.loop.invariant in
    let given = rw (both_names method_uses method_targets read at_state i.rows, both_refs method_uses method_targets read at_state i.rows) at (c.in_ok-after.ensures.value c.loop.counter i.before i.keys_are) in
    let next = next_is given.next c.in_ok-after.after c.in_ok-after.more given.at_is given.sites_are in
    let read_is = given.read_is ∙ ap (λ (s : Earlier). Ok (given.method, s)) next in
    record {
      before = given.next.keys;
      keys_are = given.keys_are;
      places = i.places ++ c.loop.place ∷ [];
      rows = both_more method_uses method_targets read at_state c.args.count (earlier c.args.at [] 0) (used_marks c.args.names.now c.args.refs.now) c.loop.counter (earlier c.loop.place i.before c.loop.sites) (used_marks c.loop.names c.loop.refs) i.places given.method (earlier c.in_ok-after.after given.next.keys c.in_ok-after.more) (used_marks c.read_method.new.names c.read_method.new.refs) c.loop-test.true read_is given.names given.refs i.rows;
      places_are = c.in_ok-push.ensures.items ∙ ap (λ (l : List ℕ). l ++ c.loop.place ∷ []) i.places_are ∙ append_assoc c.args.places.now.items i.places (c.loop.place ∷ []);
      forward = (let a = i.forward in let b = c.in_ok-after.ensures.inside.0 in omega arith);
      many = (let a = i.many in let b = c.in_ok-after.ensures.inside.0 in let d = ap (λ (l : List ℕ). length l) c.in_ok-push.ensures.items ∙ length_push c.loop.places.items c.loop.place in omega arith);
      inside = c.in_ok-after.ensures.inside.1;
      few = c.in_ok-after.ensures.few;
    }
