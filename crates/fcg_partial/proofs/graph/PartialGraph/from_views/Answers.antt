use Rattle.std.proofs.Common.{ℕ, List, length, sym, ap, subst, ◌∙◌, arith}
use Rattle.fcg_grammar.specs.Spell.{IsBytes}
use Rattle.fcg_partial.specs.Views.{graph_of}
use Rattle.fcg_partial.specs.Reading.{views_in}
use Rattle.fcg_partial.specs.Internal.Representation.{IsIndex}
use Rattle.fcg_partial.proofs.KeptLaws.{text_read, text_views, no_fault}
use Rattle.fcg_partial.proofs.graph.PartialGraph.from_views.Goals as goal

pub invariant_of-result : goal.invariant_of-result
invariant_of-result c =
    let same = c.as_slice-written.ensures.value in
    record {
      are = subst IsBytes same c.tell_bytes.ensures;
      small = (let few = c.if-written-gt-MOST_BYTES.false in let long = ap (λ (b : List ℕ). length b) same in omega arith);
      indexed = subst (λ (b : List ℕ). IsIndex b c.in-Ok.index.names.items c.in-Ok.index.refs c.in-Ok.index.places) same c.in-Ok.ensures;
    }

pub returns-in-Ok : goal.returns-in-Ok
returns-in-Ok c =
    let same = c.as_slice-written.ensures.value in
    let read = text_read c.as_slice-written.result.now c.args.views c.tell_bytes.ensures c.in_ok-bytes.ensures.graph (same ∙ c.in_ok-bytes.ensures.text) in
    ap views_in (sym same) ∙ text_views c.as_slice-written.result.now c.args.views read

pub unreachable-requires : goal.unreachable-requires
unreachable-requires c =
    let same = c.as_slice-written.ensures.value in
    let read = text_read c.as_slice-written.result.now c.args.views c.tell_bytes.ensures c.in_ok-bytes.ensures.graph (same ∙ c.in_ok-bytes.ensures.text) in
    no_fault c.in-Err-Fault.field-0 c.in-Err-Fault.field-0-0 c.as_slice-written.result.now (graph_of c.args.views) read c.in-Err-Fault.field-0-is c.in-Err-Fault.ensures
