use Rattle.std.proofs.Common.{◌≡◌, ℕ, ◌<◌, ◌++◌, List, get_or, ap, subst, ◌∙◌, inr, arith}
use Rattle.std.specs.Prelude.{map}
use Rattle.fcg_grammar.specs.Table.{place}
use Rattle.fcg_grammar.proofs.Among.{among_left, among_right}
use Rattle.fcg_views.specs.NamesIn.{names_of_super}
use Rattle.fcg_join.specs.SetNames.{part_names}
use Rattle.fcg_join.proofs.CollectedLaws.{more_next, more_all}
use Rattle.fcg_join.proofs.GraphRows.{item, among_item, named, numbered}
use Rattle.fcg_join.proofs.used_names.push_interface_names.Goals as goal

pub load_interface-requires : goal.load_interface-requires
load_interface-requires c =
    let v = item c.args.part.now.views c.args.k c.requires.there in
    (v.0, v.1, subst (λ (n : ℕ). c.loop-j.j < n) (c.count_interfaces-j-end.ensures v.0 v.1) c.loop-j-test.true)

pub loop-j-preserved : goal.loop-j-preserved
loop-j-preserved c = λ names v e h. (
    let p = c.args.part.now in
    let lt = subst (λ (n : ℕ). c.loop-j.j < n) (c.count_interfaces-j-end.ensures v h) c.loop-j-test.true in
    let x = item v.interfaces c.loop-j.j lt in
    let own = part_names p in
    let a = named p c.args.k v h x.0 (inr (among_right x.0 (names_of_super v.superclass) _ (among_left x.0 v.interfaces _ (among_item v.interfaces c.loop-j.j x.0 x.1)))) in
    let number : get_or c.args.numbers.now c.load_interface.result 0 ≡ place names x.0 =
    ap (get_or_at c.args.numbers.now) (c.load_interface.ensures.value v x.0 h x.1) ∙ ap (λ ns. get_or ns (place own x.0) 0) e ∙ numbered names own x.0 0 a in
    more_next (place names) v.interfaces c.loop-j.j x.0 (get_or c.args.numbers.now c.load_interface.result 0) c.loop-j.row.items c.push.new.self.items
    (c.args.row.now.items ++ map (place names) v.interfaces) lt x.2 c.in_ok-push.ensures.items number (c.loop-j.invariant names v e h))
  where
    get_or_at : List ℕ → ℕ → ℕ
    get_or_at ns k = get_or ns k 0

pub returns : goal.returns
returns c = λ names v e h. more_all (place names) v.interfaces c.loop-j.j c.loop-j.row.items
    (c.args.row.now.items ++ map (place names) v.interfaces)
    (let a = c.loop-j-test.false in let b = c.count_interfaces-j-end.ensures v h in omega arith) (c.loop-j.invariant names v e h)
