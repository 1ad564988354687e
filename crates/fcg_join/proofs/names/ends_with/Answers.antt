use Rattle.std.proofs.Common.{ℕ, ◌<◌, ◌-◌, [], length, sym, subst, arith}
use Rattle.fcg_join.proofs.KeyLists.{ends}
use Rattle.fcg_join.proofs.names.ends_with.Goals as goal

pub returns-in-Some : goal.returns-in-Some
returns-in-Some c =
    let item = c.in-Some.ensures.item in
    let last = item.3.1 0 in
    let inside = subst (λ (p : ℕ). p < length c.args.texts.now) (sym last) (c.requires (length c.args.places.now - 1) 0 (omega (arith, item.3.0))) in
    ends c.args.texts.now c.args.places.now c.args.text.now c.in-Some.place.now (record { ref_ptr = (0, 0); now = [] }) c.eq.result item.3.0 last inside c.eq.ensures
