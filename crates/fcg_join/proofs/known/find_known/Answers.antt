use Rattle.std.proofs.Common.{◌≡◌, List, length, sym, ap, subst, ◌∙◌, arith}
use Rattle.std.specs.Prelude.{All, map, not, Bool}
use Rattle.std.proofs.lemmas.List.{length-map}
use Rattle.std.proofs.lemmas.Result.{IfOk-weaker}
use Rattle.fcg_analysis.specs.Declarations.{Placed}
use Rattle.fcg_analysis.specs.Types.{winners, known}
use Rattle.fcg_analysis.proofs.WinnerLaws.{winners_distinct}
use Rattle.fcg_join.specs.declared.heads.TypeHead.{TypeHead}
use Rattle.fcg_join.specs.Parts.{placed}
use Rattle.fcg_join.specs.SetNames.{set_names}
use Rattle.fcg_join.specs.Internal.TypeHeads.{IsHead, IsFirstHead}
use Rattle.fcg_join.specs.Internal.TypeNumbers.{AreHeads}
use Rattle.fcg_join.specs.Winners.{marked}
use Rattle.fcg_join.proofs.KnownMarks.{known_marks}
use Rattle.fcg_join.proofs.ZipLaws.{zip_long, zip_marked}
use Rattle.fcg_join.proofs.JoinLaws.{few_winners}
use Rattle.fcg_join.proofs.MethodLaws.{all_kept}
use Rattle.fcg_join.proofs.known.find_known.Goals as goal

pub link_types-requires-clause-few : goal.link_types-requires-clause-few
link_types-requires-clause-few c =
    let a = zip_long (IsHead c.args.parts.now (set_names c.args.parts.now)) c.in_ok-winners.winners.items (winners (placed c.args.parts.now)) c.in_ok-winners.ensures.value in
    let b = few_winners (placed c.args.parts.now) in
    let e = ap (λ hs. length hs) c.as_slice-heads.ensures.value in
    omega (arith, c.requires.types)

pub find_order-requires-clause-few : goal.find_order-requires-clause-few
find_order-requires-clause-few c =
    let types = winners (placed c.args.parts.now) in
    let are = subst (λ (hs : List TypeHead). AreHeads c.args.parts.now hs types) (sym c.as_slice-heads.ensures.value) c.in_ok-winners.ensures.value in
    let links = c.in_ok-linked.ensures.links types are (winners_distinct (placed c.args.parts.now)) in
    let b = few_winners (placed c.args.parts.now) in
    omega (arith, links.long, c.requires.types)

pub find_order-requires-clause-within : goal.find_order-requires-clause-within
find_order-requires-clause-within c =
    let types = winners (placed c.args.parts.now) in
    let are = subst (λ (hs : List TypeHead). AreHeads c.args.parts.now hs types) (sym c.as_slice-heads.ensures.value) c.in_ok-winners.ensures.value in
    let links = c.in_ok-linked.ensures.links types are (winners_distinct (placed c.args.parts.now)) in
    links.within

pub keep_marked-requires : goal.keep_marked-requires
keep_marked-requires c =
    let types = winners (placed c.args.parts.now) in
    let are = subst (λ (hs : List TypeHead). AreHeads c.args.parts.now hs types) (sym c.as_slice-heads.ensures.value) c.in_ok-winners.ensures.value in
    let links = c.in_ok-linked.ensures.links types are (winners_distinct (placed c.args.parts.now)) in
    ap (λ ms. length ms) (c.as_slice-2.ensures.value ∙ c.in_ok-sound.ensures) ∙ length-map c.as_slice.result.now not
    ∙ ap (λ ms. length ms) c.as_slice.ensures.value ∙ c.in_ok-order.ensures.circles.long ∙ links.long
    ∙ sym (zip_long (IsHead c.args.parts.now (set_names c.args.parts.now)) c.as_slice-heads.result.now types are)

pub returns-clause-value : goal.returns-clause-value
returns-clause-value c =
    let parts = c.args.parts.now in
    let types = winners (placed parts) in
    let heads = c.as_slice-heads.result.now in
    let are = subst (λ (hs : List TypeHead). AreHeads parts hs types) (sym c.as_slice-heads.ensures.value) c.in_ok-winners.ensures.value in
    let links = c.in_ok-linked.ensures.links types are (winners_distinct (placed parts)) in
    let marks : c.as_slice-2.result.now ≡ map not c.in_ok-order.order.circular.items = c.as_slice-2.ensures.value ∙ c.in_ok-sound.ensures ∙ ap (map not) c.as_slice.ensures.value in
    let kept : known (placed parts) ≡ marked c.as_slice-2.result.now types = known_marks (placed parts) c.in_ok-linked.linked.links c.in_ok-order.order.circular.items links c.in_ok-order.ensures.circles ∙ sym (ap (λ (ms : List Bool). marked ms types) marks) in
    let all : AreHeads parts (marked c.as_slice-2.result.now heads) (known (placed parts)) =
    subst (λ (ts : List Placed). AreHeads parts (marked c.as_slice-2.result.now heads) ts) (sym kept) (zip_marked (IsHead parts (set_names parts)) c.as_slice-2.result.now heads types are) in
    IfOk-weaker c.keep_marked.result (λ k. k.items ≡ marked c.as_slice-2.result.now heads) (λ k. AreHeads parts k.items (known (placed parts)))
    (λ k e. subst (λ (hs : List TypeHead). AreHeads parts hs (known (placed parts))) (sym e) all) c.keep_marked.ensures

pub returns-clause-first : goal.returns-clause-first
returns-clause-first c =
    let parts = c.args.parts.now in
    let heads = c.as_slice-heads.result.now in
    let all = subst (λ (hs : List TypeHead). All (IsFirstHead parts) hs) (sym c.as_slice-heads.ensures.value) c.in_ok-winners.ensures.first in
    IfOk-weaker c.keep_marked.result (λ k. k.items ≡ marked c.as_slice-2.result.now heads) (λ k. All (IsFirstHead parts) k.items)
    (λ k e. subst (λ (hs : List TypeHead). All (IsFirstHead parts) hs) (sym e) (all_kept (IsFirstHead parts) c.as_slice-2.result.now heads all)) c.keep_marked.ensures
