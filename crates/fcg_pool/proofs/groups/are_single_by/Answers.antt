use Rattle.std.proofs.Common.{◌∙◌, ◌≤◌, ◌<◌, length, drop, sym, ap, arith, length-drop}
use Rattle.std.specs.List.{list_all}
use Rattle.std.proofs.lemmas.List.{take_rest}
use Rattle.fcg_classfile.specs.Breaks.Groups.{is_single}
use Rattle.fcg_pool.proofs.GroupLemmas.{single_passed, single_not, single_last}
use Rattle.fcg_pool.proofs.groups.are_single_by.Goals as goal

pub returns-then-not-are_few_single : goal.returns-then-not-are_few_single
returns-then-not-are_few_single g c =
    let same = rw (take_rest c.args.text.now c.loop-chunk.at) at c.in-Some.ensures.cases.same in
    let front = rw same at (sym c.are_few_single.ensures ∙ c.if-not-are_few_single.true) in
    sym (single_not g.row.N c.loop-chunk.at c.args.text.now front) ∙ c.loop-chunk.invariant.0

pub loop-chunk-preserved : goal.loop-chunk-preserved
loop-chunk-preserved g c =
    let enough : g.row.N ≤ length (drop c.loop-chunk.at c.args.text.now) = rw (take_rest c.args.text.now c.loop-chunk.at) at c.in-Some.ensures.cases.enough in
    let same = rw (take_rest c.args.text.now c.loop-chunk.at) at c.in-Some.ensures.cases.same in
    let front = rw same at (sym c.are_few_single.ensures ∙ c.if-not-are_few_single.false) in
    (single_passed g.row.N c.loop-chunk.at c.args.text.now front ∙ c.loop-chunk.invariant.0, omega (arith, length-drop c.loop-chunk.at c.args.text.now))

pub returns : goal.returns
returns g c =
    let few : length (drop c.loop-chunk.at c.args.text.now) < g.row.N = rw (take_rest c.args.text.now c.loop-chunk.at) at c.in_default.ensures.cases in
    let last = ap (list_all is_single) c.in_ok-last.ensures.cases.1.same in
    c.are_few_single-2.ensures ∙ last ∙ single_last g.row.N c.loop-chunk.at c.args.text.now c.in_ok-last.ensures.cases.0 c.loop-chunk.invariant.1 few c.loop-chunk.invariant.0
