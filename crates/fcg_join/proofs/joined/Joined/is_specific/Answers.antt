use Rattle.std.proofs.Common.{get_or, sym, ap, subst, ◌∙◌, inl, inr, take}
use Rattle.std.specs.Prelude.{not, true, false}
use Rattle.std.specs.List.{list_any}
use Rattle.std.proofs.lemmas.Bool.{or_cases, false_from_ne_true}
use Rattle.fcg_analysis.specs.Types.{is_above}
use Rattle.fcg_analysis.specs.Nodes.{super_methods}
use Rattle.fcg_analysis.proofs.General.Members.{IsIn-from_Contains, Contains-from_IsIn, any_in, in_any}
use Rattle.fcg_join.specs.Parts.{types_of}
use Rattle.fcg_join.specs.Internal.Supers.{is_of, is_of_any, IsOnly}
use Rattle.fcg_join.proofs.SuperAnswers.{super_interface}
use Rattle.fcg_join.proofs.SuperFound.{of_one_more, of_all}
use Rattle.fcg_join.proofs.joined.Joined.is_specific.Goals as goal
use Rattle.fcg_join.proofs.joined.Joined.is_specific.Goals.{in-Some+else-is_owned_below, in_default}

pub loop-name-init : goal.loop-name-init
loop-name-init c = λ x sig n h g p s o t e. absurd cc

pub returns-then-is_owned_below : goal.returns-then-is_owned_below
returns-then-is_owned_below c = λ x sig n h g p s. (
    let types = types_of c.args.self.now in
    let o = c.in-Some.ensures.value x sig h g in
    let e = sym (c.is_owned_below.ensures o.0 n o.1 p (super_interface c.args.self.now x sig n s)) ∙ c.if-is_owned_below.true in
    sym (ap not (any_in (λ v. is_above types v.owner n.owner) (super_methods types x sig) o.0 (IsIn-from_Contains _ o.0 o.2) e)))

pub loop-name-preserved : goal.loop-name-preserved
loop-name-preserved c = λ x sig n h g p s o t e. (
    let parts = c.args.self.now in
    let types = types_of parts in
    let row = c.mentioned-name-items.result.now in
    let k = c.loop-name.name-index in
    elim (or_cases (is_of_any parts (take k row) o) (is_of parts (get_or row k 0) o) (sym (of_one_more parts row k 0 c.loop-name-test.true o) ∙ e)) [
      | inl i ↦ c.loop-name.invariant x sig n h g p s o t i
      | inr i ↦ elim c.match-declared_above.branch [
        | in-Some+else-is_owned_below w ↦ (
            let only = w.in-Some.ensures.value x sig h g in
            let same = only.4 o t i in
            ap (λ v. is_above types v.owner n.owner) same ∙ sym (w.is_owned_below.ensures only.0 n only.1 p (super_interface parts x sig n s)) ∙ w.if-is_owned_below.false)
        | in_default w ↦ absurd (let off = subst (IsOnly parts (super_methods types x sig) (is_of parts (get_or row k 0))) w.in_default.is (c.declared_above.ensures.value x sig h g) o t in cc)
      ]
    ])

pub returns : goal.returns
returns c = λ x sig n h g p s. (
    let types = types_of c.args.self.now in
    let row = c.mentioned-name-items.result.now in
    sym (ap not (false_from_ne_true (list_any (λ o. is_above types o.owner n.owner) (super_methods types x sig)) (λ e. (
    let o = in_any (λ o. is_above types o.owner n.owner) (super_methods types x sig) e in
    let t = Contains-from_IsIn _ o.0 o.1 in
    let i = of_all c.args.self.now row c.loop-name.name-index c.loop-name-test.false o.0 ∙ c.mentioned-name-items.ensures.supers x sig h o.0 t in
    let off = c.loop-name.invariant x sig n h g p s o.0 t i in
    let on = o.2 in
    cc)))))
