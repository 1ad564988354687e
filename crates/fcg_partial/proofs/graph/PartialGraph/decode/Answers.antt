use Rattle.std.proofs.Common.{List, ℕ, sym, ap, ◌∙◌, arith}
use Rattle.std.specs.Prelude.{Ok}
use Rattle.std.proofs.lemmas.Result.{err_from_is_err_and}
use Rattle.fcg_partial.specs.Reading.{views_in}
use Rattle.fcg_partial.specs.Views.{text_of}
use Rattle.fcg_partial.proofs.KeptLaws.{read_text, read_gives, read_only, fails_only}
use Rattle.fcg_partial.proofs.graph.PartialGraph.decode.Goals as goal

pub returns-in_err-index-clause-only : goal.returns-in_err-index-clause-only
returns-in_err-index-clause-only c = λ g is spelled. (
    let p = err_from_is_err_and c.from_residual.result c.from_residual.ensures.1 in
    rw (p.1, p.2) (fails_only c.args.bytes.now c.in_err-index.field-0.0 (λ i. omega (arith, c.type_inv.bytes i)) c.in_err-index.ensures g is spelled))

pub returns-clause-found : goal.returns-clause-found
returns-clause-found c =
    read_text c.args.bytes.now c.in_ok-index.ensures.graph (λ i. omega (arith, c.type_inv.bytes i)) c.in_ok-index.ensures.read
    ∙ ap (λ (b : List ℕ). text_of (views_in b)) (sym c.in_ok-bytes.ensures.items)

pub returns-clause-only : goal.returns-clause-only
returns-clause-only c = λ g is spelled. (
    read_only c.args.bytes.now c.in_ok-index.ensures.graph (λ i. omega (arith, c.type_inv.bytes i)) c.in_ok-index.ensures.read g is spelled
    ∙ read_gives c.args.bytes.now c.in_ok-index.ensures.graph c.in_ok-index.ensures.read
    ∙ ap (λ (b : List ℕ). Ok (views_in b)) (sym c.in_ok-bytes.ensures.items))

pub returns-clause-exact : goal.returns-clause-exact
returns-clause-exact c =
    read_gives c.args.bytes.now c.in_ok-index.ensures.graph c.in_ok-index.ensures.read
    ∙ ap (λ (b : List ℕ). Ok (views_in b)) (sym c.in_ok-bytes.ensures.items)
