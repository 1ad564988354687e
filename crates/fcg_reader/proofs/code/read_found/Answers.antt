use Rattle.std.proofs.Common.{refl, sym, ◌∙◌, arith}
use Rattle.std.proofs.lemmas.Result.{err_from_is_err_and}
use Rattle.std.proofs.lemmas.List.{length-append, length-map, map-append}
use Rattle.fcg_reader.specs.Internal.Rows.{site_in}
use Rattle.fcg_reader.specs.Internal.Calls.{found_in}
use Rattle.fcg_reader.proofs.CodeLemmas.{found_begin, found_go_on, found_pass, found_counted, next_fails, found_fails, found_done}
use Rattle.fcg_reader.proofs.code.read_found.Goals as goal

pub loop-pc-init : goal.loop-pc-init
loop-pc-init c = rw (c.in_ok-sites.ensures.items, c.new-calls.ensures.items) (
  found_begin c.args.names.now c.args.code.begin c.args.code.bytes.now c.args.count,
  omega arith,
  (let few = c.requires.few in omega (arith, few)),
  (λ k d lt. absurd (omega (arith, lt))),
  refl,
)

pub returns-in_err-instruction-clause-value : goal.returns-in_err-instruction-clause-value
returns-in_err-instruction-clause-value c =
    let p = err_from_is_err_and c.from_residual-in_err-instruction.result c.from_residual-in_err-instruction.ensures.1 in
    rw (p.1, p.2) (next_fails c.args.names.now c.args.code.begin c.args.code.bytes.now c.args.count c.loop-pc.pc _ c.in_err-instruction.field-0.0 _ c.loop-pc-test.true (sym c.in_err-instruction.ensures.value) c.loop-pc.invariant.0)

pub returns-in_err-push_site_or_call-clause-value : goal.returns-in_err-push_site_or_call-clause-value
returns-in_err-push_site_or_call-clause-value c =
    let p = err_from_is_err_and c.from_residual-in_err-push_site_or_call.result c.from_residual-in_err-push_site_or_call.ensures.1 in
    let as_many = length-map c.loop-pc.sites.items (site_in c.args.names.now) in
    let given = rw (c.loop-pc.invariant.4, c.len.ensures, c.loop-pc.sites.ok.0, ← as_many) at c.in_err-push_site_or_call.ensures.value in
    rw (p.1, p.2) (found_fails c.args.names.now c.args.code.begin c.args.code.bytes.now c.in_err-push_site_or_call.field-0.0 c.args.count c.loop-pc.pc _ _ _ c.loop-pc-test.true (sym c.in_ok-instruction.ensures.value) given c.loop-pc.invariant.0)

pub loop-pc-preserved : goal.loop-pc-preserved
loop-pc-preserved c =
    let inv = c.loop-pc.invariant in
    let names = c.args.names.now in
    let before = c.loop-pc.sites.items in
    let as_many = length-map before (site_in names) in
    let given = rw (inv.4, c.len.ensures, c.loop-pc.sites.ok.0, ← as_many) at c.in_ok-push_site_or_call.ensures.value in
    let here = given.0 in
    let as_many_here = length-map here.sites (site_in names) in
    let all = length-append before here.sites in
    let few_before = inv.2 in
    let few = found_counted names c.args.code.begin c.args.code.bytes.now c.loop-pc.pc _ (found_in names here) given.1 (omega (arith, few_before, as_many)) in
    let placed = c.in_ok-push_site_or_call.ensures.placed inv.3 in
    rw (given.2) (
      rw (given.3, map-append (site_in names) before here.sites) (found_go_on names c.args.code.begin c.args.code.bytes.now c.args.count c.loop-pc.pc _ _ (found_in names here) _ c.loop-pc-test.true c.in_ok-instruction.ensures.inside.0 (sym c.in_ok-instruction.ensures.value) given.1 inv.0),
      c.in_ok-instruction.ensures.inside.1,
      omega (arith, few, all, as_many, as_many_here),
      placed,
      c.in_ok-push_site_or_call.ensures.same ∙ inv.4,
    )

pub returns-clause-value : goal.returns-clause-value
returns-clause-value c = found_done c.args.names.now c.args.code.begin c.args.code.bytes.now c.args.count c.loop-pc.pc _ _ c.loop-pc-test.false c.loop-pc.invariant.1 c.loop-pc.invariant.0

pub loop-pc-preserved-then-plain-gt0 : goal.loop-pc-preserved-then-plain-gt0
loop-pc-preserved-then-plain-gt0 c =
    let inv = c.loop-pc.invariant in
    let plain = c.plain_len-plain.ensures in
    let some = c.if-plain-gt0.true in (
      found_pass c.args.names.now c.args.code.begin c.args.code.bytes.now c.args.count c.loop-pc.pc _ _ _ c.loop-pc-test.true (omega (arith, some)) (plain.next some) (plain.site some) (plain.call some) inv.0,
      plain.inside,
      inv.2,
      inv.3,
      inv.4,
    )
