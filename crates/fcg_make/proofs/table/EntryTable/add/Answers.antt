use Rattle.std.proofs.Common.{◌≡◌, List, [], ◌∷◌, ◌++◌, ap, sym, subst, length, ◌∙◌}
use Rattle.fcg_make.specs.declared.entry.Entry.{Entry}
use Rattle.fcg_make.specs.Entries.{added}
use Rattle.fcg_make.proofs.TableLemmas.{copy_is, present, absent, added_new, places_push}
use Rattle.fcg_make.proofs.table.EntryTable.add.Goals as goal

pub returns-then-contains_key : goal.returns-then-contains_key
returns-then-contains_key c = subst (λ (pool : List Entry). pool ≡ added pool c.args.entry) c.self.view_is (present c.self.inside.entries.items c.self.inside.places c.args.entry _ c.self.invariant c.contains_key.ensures c.if-contains_key.true)

pushed : (c : goal.After-unwrap) → c.push.new.self.items ≡ c.self.inside.entries.items ++ c.args.entry ∷ []
pushed c =
    let items = rw c.unwrap.ensures at c.push.ensures.items in
    let kept = c.reserve.ensures.items in
    let same = copy_is c.args.entry c.in_ok-copy.copy c.in_ok-copy.ensures.cases in
    items ∙ ap (λ (xs : List Entry). xs ++ c.in_ok-copy.copy ∷ []) kept ∙ ap (λ (e : Entry). c.self.inside.entries.items ++ e ∷ []) same

pub invariant_of-self-2 : goal.invariant_of-self-2
invariant_of-self-2 c =
    let none = absent c.self.inside.entries.items c.self.inside.places c.args.entry _ c.self.invariant c.contains_key.ensures c.if-contains_key.false in
    rw (pushed c) (places_push c.self.inside.places c.insert.new.self c.self.inside.entries.items c.args.entry _ (ap (λ (xs : List Entry). length xs) c.as_slice-place.ensures.value) c.self.invariant none (λ q. c.in_ok-insert.ensures.updates.0 q))

pub returns : goal.returns
returns c =
    let none = absent c.self.inside.entries.items c.self.inside.places c.args.entry _ c.self.invariant c.contains_key.ensures c.if-contains_key.false in
    pushed c ∙ sym (added_new c.self.inside.entries.items c.args.entry none) ∙ ap (λ (pool : List Entry). added pool c.args.entry) c.self.view_is
