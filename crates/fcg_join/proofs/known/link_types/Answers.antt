use Rattle.std.proofs.Common.{◌≡◌, ℕ, List, length, sym, subst, arith}
use Rattle.std.specs.Prelude.{Option}
use Rattle.fcg_join.specs.SetNames.{set_names}
use Rattle.fcg_join.specs.Internal.TypeNumbers.{FindsHeads}
use Rattle.fcg_join.proofs.HeadLaws.{names_below}
use Rattle.fcg_join.proofs.LinkLaws.{has_links}
use Rattle.fcg_join.proofs.JoinLaws.{many_names}
use Rattle.fcg_join.proofs.known.link_types.Goals as goal

pub index_names-requires-clause-names : goal.index_names-requires-clause-names
index_names-requires-clause-names c =
    let few = many_names c.args.parts.now c.args.names.now c.requires.names in
    let ok = c.args.names.now.places.ok in
    let n = c.len.ensures in
    λ k d l. (let b = names_below c.args.parts.now c.args.heads.now c.requires.heads.0 c.requires.heads.1 k d l in omega arith)

pub make_links-requires-clause-found : goal.make_links-requires-clause-found
make_links-requires-clause-found c =
    let e : c.len.result ≡ length (set_names c.args.parts.now) = (
    let few = many_names c.args.parts.now c.args.names.now c.requires.names in
    let ok = c.args.names.now.places.ok in
    let n = c.len.ensures in
    omega arith) in
    subst (λ (by : List (Option ℕ)). FindsHeads c.args.heads.now by (length (set_names c.args.parts.now))) (sym c.as_slice.ensures.value)
    (subst (λ (m : ℕ). FindsHeads c.args.heads.now c.in_ok-by_name.by_name.items m) e c.in_ok-by_name.ensures)

pub returns-clause-links : goal.returns-clause-links
returns-clause-links c = λ types are d. (
    let parts = c.args.parts.now in
    let heads = c.args.heads.now in
    let e : c.len.result ≡ length (set_names parts) = (
    let few = many_names parts c.args.names.now c.requires.names in
    let ok = c.args.names.now.places.ok in
    let n = c.len.ensures in
    omega arith) in
    let found : FindsHeads heads c.as_slice.result.now (length (set_names parts)) =
    subst (λ (by : List (Option ℕ)). FindsHeads heads by (length (set_names parts))) (sym c.as_slice.ensures.value)
    (subst (λ (m : ℕ). FindsHeads heads c.in_ok-by_name.by_name.items m) e c.in_ok-by_name.ensures) in
    has_links parts heads types c.as_slice.result.now are d found c.in_ok-links.links (c.in_ok-links.ensures types are))
