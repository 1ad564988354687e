use Rattle.std.proofs.Common.{◌≡◌, ◌+◌, ltb, true, false, [], ◌∷◌, ◌++◌, refl, sym, ap, ◌∙◌, arith}
use Rattle.std.proofs.lemmas.Bool.Decides.{nat_tests}
use Rattle.std.proofs.lemmas.Result.{err_from_is_err_and}
use Rattle.fcg_partial.specs.Graph.{StoredMethod}
use Rattle.fcg_partial.specs.Internal.UsedNumbers.{marked, earlier}
use Rattle.fcg_partial.specs.Reading.{method_at}
use Rattle.fcg_partial.proofs.KeyLaws.{double_after, fresh_after, AreKeys-push, key_of, flat_targets}
use Rattle.fcg_partial.proofs.methods.read_method.Goals as goal

pub returns-then-not-branch-clause-value : goal.returns-then-not-branch-clause-value
unfolding method_at
returns-then-not-branch-clause-value c = λ k before are. (
    let name = sym c.in_ok-name.ensures.value in
    let desc = sym (rw c.in_ok-name.ensures.long at c.in_ok-desc.ensures.value) in
    let double = double_after c.args.keys.now before c.in_ok-name.name c.in_ok-desc.desc c.in_ok-insert.field-0 are c.in_ok-insert.ensures.added c.if-not-branch.true in
    rw (c.into.ensures, c.fault_at.ensures) (rw (name, desc, double) refl))

pub returns-in_err-_flags-clause-value : goal.returns-in_err-_flags-clause-value
unfolding method_at
returns-in_err-_flags-clause-value c = λ k before are. (
    let p = err_from_is_err_and c.from_residual-in_err-_flags.result c.from_residual-in_err-_flags.ensures.1 in
    let name = sym c.in_ok-name.ensures.value in
    let desc = sym (rw c.in_ok-name.ensures.long at c.in_ok-desc.ensures.value) in
    let fresh = fresh_after c.args.keys.now before c.in_ok-name.name c.in_ok-desc.desc c.in_ok-insert.field-0 are c.in_ok-insert.ensures.added c.if-not-branch.false in
    rw (p.1, p.2) (rw (name, desc, fresh, sym c.in_err-_flags.ensures.value) refl))

pub returns-in_err-count-clause-value : goal.returns-in_err-count-clause-value
unfolding method_at
returns-in_err-count-clause-value c = λ k before are. (
    let p = err_from_is_err_and c.from_residual-in_err-count.result c.from_residual-in_err-count.ensures.1 in
    let name = sym c.in_ok-name.ensures.value in
    let desc = sym (rw c.in_ok-name.ensures.long at c.in_ok-desc.ensures.value) in
    let fresh = fresh_after c.args.keys.now before c.in_ok-name.name c.in_ok-desc.desc c.in_ok-insert.field-0 are c.in_ok-insert.ensures.added c.if-not-branch.false in
    rw (p.1, p.2) (rw (name, desc, fresh, sym c.in_ok-_flags.ensures.value, sym c.in_err-count.ensures.value) refl))

pub returns-then-count-sites-clause-value : goal.returns-then-count-sites-clause-value
unfolding method_at
returns-then-count-sites-clause-value c = λ k before are. (
    let name = sym c.in_ok-name.ensures.value in
    let desc = sym (rw c.in_ok-name.ensures.long at c.in_ok-desc.ensures.value) in
    let fresh = fresh_after c.args.keys.now before c.in_ok-name.name c.in_ok-desc.desc c.in_ok-insert.field-0 are c.in_ok-insert.ensures.added c.if-not-branch.false in
    let many : ltb (c.args.sites + c.in_ok-count.count) 1000001 ≡ false = (let t = c.if-count-sites.true in let few = c.requires.few in grind (arith, nat_tests)) in
    rw (c.into-then-count-sites.ensures, c.fault_at-then-count-sites.ensures) (rw (name, desc, fresh, sym c.in_ok-_flags.ensures.value, sym c.in_ok-count.ensures.value, many) refl))

pub returns-in_err-after-clause-value : goal.returns-in_err-after-clause-value
unfolding method_at
returns-in_err-after-clause-value c = λ k before are. (
    let p = err_from_is_err_and c.from_residual-in_err-after.result c.from_residual-in_err-after.ensures.1 in
    let name = sym c.in_ok-name.ensures.value in
    let desc = sym (rw c.in_ok-name.ensures.long at c.in_ok-desc.ensures.value) in
    let fresh = fresh_after c.args.keys.now before c.in_ok-name.name c.in_ok-desc.desc c.in_ok-insert.field-0 are c.in_ok-insert.ensures.added c.if-not-branch.false in
    let few : ltb (c.args.sites + c.in_ok-count.count) 1000001 ≡ true = (let t = c.if-count-sites.false in let most = c.requires.few in grind (arith, nat_tests)) in
    rw (p.1, p.2) (rw (name, desc, fresh, sym c.in_ok-_flags.ensures.value, sym c.in_ok-count.ensures.value, few, c.in_err-after.ensures.value) refl))

pub returns-clause-value : goal.returns-clause-value
unfolding method_at marked
returns-clause-value c = λ k before are. (
    let name = sym c.in_ok-name.ensures.value in
    let desc = sym (rw c.in_ok-name.ensures.long at c.in_ok-desc.ensures.value) in
    let fresh = fresh_after c.args.keys.now before c.in_ok-name.name c.in_ok-desc.desc c.in_ok-insert.field-0 are c.in_ok-insert.ensures.added c.if-not-branch.false in
    let few : ltb (c.args.sites + c.in_ok-count.count) 1000001 ≡ true = (let t = c.if-count-sites.false in let most = c.requires.few in grind (arith, nat_tests)) in
    let sites = c.in_ok-after.ensures.value in
    let method : StoredMethod = record { name = c.in_ok-name.name; desc = c.in_ok-desc.desc; flags = c.in_ok-_flags._flags; sites = sites.value } in
    record {
      method = method;
      next = earlier c.in_ok-after.after (before ++ key_of c.in_ok-name.name c.in_ok-desc.desc ∷ []) (c.args.sites + c.in_ok-count.count);
      read_is = rw (name, desc, fresh, sym c.in_ok-_flags.ensures.value, sym c.in_ok-count.ensures.value, few, sites.read_is) refl;
      at_is = refl;
      sites_are = refl;
      keys_are = AreKeys-push c.args.keys.now c.insert.new.self before c.in_ok-name.name c.in_ok-desc.desc are c.in_ok-insert.ensures.updates.0;
      names = rw (c.in_ok-desc.ensures.marks, c.in_ok-name.ensures.marks) refl;
      refs = sites.marks ∙ ap (marked c.args.refs.now) (flat_targets sites.value);
    })
