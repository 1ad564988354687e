use Rattle.std.proofs.Common.{◌≡◌, sym, ap, subst, ◌∙◌}
use Rattle.std.specs.Prelude.{true, false, not}
use Rattle.std.specs.List.{list_any}
use Rattle.std.proofs.lemmas.Bool.{not-true}
use Rattle.fcg_analysis.specs.Types.{is_above}
use Rattle.fcg_analysis.specs.Nodes.{super_methods}
use Rattle.fcg_join.specs.Parts.{types_of}
use Rattle.fcg_join.specs.Internal.Supers.{is_of, IsOnly, defaults}
use Rattle.fcg_join.proofs.SuperFound.{default_is_super, no_default, a_default, not_default}
use Rattle.fcg_join.proofs.joined.Joined.default_of.Goals as goal
use Rattle.fcg_join.proofs.joined.Joined.default_of.Goals.{else-not-is_abstract-via-then-not-is_abstract+else-is_specific, else-not-is_abstract-via-else-not-is_abstract}

pub returns-in_err-m-clause-value : goal.returns-in_err-m-clause-value
returns-in_err-m-clause-value c = λ x sig h g. (
    let parts = c.args.self.now in
    subst (IsOnly parts (defaults (types_of parts) x sig) (is_of parts c.args.name)) (sym c.from_residual.ensures)
    (no_default parts x sig (is_of parts c.args.name) (c.in_err-m.ensures.value x sig h g)))

pub returns-then-is_specific-clause-value : goal.returns-then-is_specific-clause-value
returns-then-is_specific-clause-value c = λ x sig h g. (
    let parts = c.args.self.now in
    a_default parts x sig (is_of parts c.args.name) c.in_ok-m.m (c.in_ok-m.ensures.value x sig h g)
    (λ m p s. (
      sym (c.is_abstract.ensures m p) ∙ c.if-not-is_abstract.true,
      not-true (list_any (λ o. is_above (types_of parts) o.owner m.owner) (super_methods (types_of parts) x sig)) (sym (c.is_specific.ensures x sig m h g p s) ∙ c.if-is_specific.true),
    )))

pub returns-else-not-is_abstract-clause-value : goal.returns-else-not-is_abstract-clause-value
returns-else-not-is_abstract-clause-value c = λ x sig h g. (
    let parts = c.args.self.now in
    not_default parts x sig (is_of parts c.args.name) c.in_ok-m.m (c.in_ok-m.ensures.value x sig h g)
    (λ m p s. (
    let r = default_is_super parts x sig m s in
    elim c.else-not-is_abstract.branch [
      | else-not-is_abstract-via-then-not-is_abstract+else-is_specific w ↦ (
          let on : false ≡ true = sym w.if-is_specific.false ∙ w.is_specific.ensures x sig m h g p r.0 ∙ ap not r.2 in
          absurd cc)
      | else-not-is_abstract-via-else-not-is_abstract w ↦ absurd (let on = c.is_abstract.ensures m p in let off = r.1 in let e = w.if-not-is_abstract.false in cc)
    ])))
