use Rattle.std.proofs.Common.{◌≡◌, ◌≤◌, length, ◌∙◌, arith}
use Rattle.std.specs.Arc.{arc_value}
use Rattle.fcg_join.specs.Parts.{types_of}
use Rattle.fcg_json.specs.declared.reply.Reply.{Reply}
use Rattle.fcg_answer.specs.Answer.{page_of, graph_answer}
use Rattle.fcg_answer.proofs.AnswerLaws.{if_ok_as, hit_is, absent_is}
use Rattle.fcg_answer.proofs.answer.answer_graph.Goals as goal

pub bounds-as_slice-index : goal.bounds-as_slice-index
bounds-as_slice-index g c =
    let a = rw c.in-AbsentRelease.is at c.in_ok-value.ensures.answer in
    let within = a.2 in
    let index = a.3 in
    rw c.as_slice.ensures (omega (arith, within, index))

pub returns-in-Hit-clause-answer : goal.returns-in-Hit-clause-answer
returns-in-Hit-clause-answer g c =
    let log = c.args.book.now.log in
    let q = c.args.query.now in
    let keys = rw c.in-Hit.is at c.in_ok-value.ensures.answer in
    let made = rw c.in-Hit.is at c.in_ok-value.ensures.made in
    let late : q.min ≤ length log = (let f = c.if-at-query.false in let n = c.len-at.ensures in omega (arith, f, n)) in
    let page = rw (c.len-at.ensures, c.deref.ensures) at c.print_page.ensures in
    if_ok_as (λ (reply : Reply). reply ≡ page_of q.part (length log) q (types_of (arc_value c.in-Hit.value))) (λ (reply : Reply). reply ≡ graph_answer log q) c.print_page.result
    (λ reply is. is ∙ hit_is log q c.in-Hit.key (arc_value c.in-Hit.value) late keys.0 made) page

pub returns-clause-answer : goal.returns-clause-answer
returns-clause-answer g c =
    let log = c.args.book.now.log in
    let q = c.args.query.now in
    let absent = rw c.in-AbsentRelease.is at c.in_ok-value.ensures.answer in
    let late : q.min ≤ length log = (let f = c.if-at-query.false in let n = c.len-at.ensures in omega (arith, f, n)) in
    let at = rw c.as_slice.ensures at c.index-as_slice-index.is in
    let same = c.in_ok-clone-in-AbsentRelease.ensures.cases in
    rw (c.len-at.ensures, same) (absent_is log q c.in-AbsentRelease.index c.index-as_slice-index.result late absent at)
