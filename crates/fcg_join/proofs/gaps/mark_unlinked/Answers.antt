use Rattle.std.proofs.Common.{ℕ, ◌<◌, List, length, get_or, sym, subst, ◌∙◌, arith}
use Rattle.std.specs.Prelude.{All, IfSome}
use Rattle.std.proofs.lemmas.Option.{slice_get-get_or, slice_get_within, get_or_from_slice_get}
use Rattle.fcg_analysis.specs.Types.{uses_unlinked_name}
use Rattle.fcg_join.specs.SetNames.{set_names}
use Rattle.fcg_join.specs.Internal.TypeHeads.{IsHead, no_head}
use Rattle.fcg_join.proofs.CollectedLaws.{mapped_next, mapped_all}
use Rattle.fcg_join.proofs.ZipLaws.{zip_left, zip_long}
use Rattle.fcg_join.proofs.HeadLaws.{used_below}
use Rattle.fcg_join.proofs.GapLaws.{interfaces_all_below, lacks_is}
use Rattle.fcg_join.proofs.gaps.mark_unlinked.Goals as goal

pub fill_interface_names-requires-clause-head : goal.fill_interface_names-requires-clause-head
fill_interface_names-requires-clause-head c =
    let heads = c.args.heads.now in
    let i = c.loop-head.head-index in
    let r = zip_left (IsHead c.args.parts.now (set_names c.args.parts.now)) heads c.requires.heads.0 c.requires.heads.1 i (get_or heads i no_head) (slice_get-get_or heads i no_head c.loop-head-test.true) in
    (r.0, r.2)

pub lacks_link-requires-clause-superclass : goal.lacks_link-requires-clause-superclass
lacks_link-requires-clause-superclass c =
    let heads = c.args.heads.now in
    let i = c.loop-head.head-index in
    let r = zip_left (IsHead c.args.parts.now (set_names c.args.parts.now)) heads c.requires.heads.0 c.requires.heads.1 i (get_or heads i no_head) (slice_get-get_or heads i no_head c.loop-head-test.true) in
    subst (λ (m : ℕ). IfSome (get_or heads i no_head).superclass (λ n. n < m)) (sym c.requires.found.long) (used_below c.args.parts.now (get_or heads i no_head) r.0 r.2)

pub lacks_link-requires-clause-names : goal.lacks_link-requires-clause-names
lacks_link-requires-clause-names c =
    let parts = c.args.parts.now in
    let heads = c.args.heads.now in
    let i = c.loop-head.head-index in
    let r = zip_left (IsHead parts (set_names parts)) heads c.requires.heads.0 c.requires.heads.1 i (get_or heads i no_head) (slice_get-get_or heads i no_head c.loop-head-test.true) in
    subst (λ (m : ℕ). All (λ n. n < m) c.deref.result.now) (sym c.requires.found.long)
    (subst (λ (ns : List ℕ). All (λ n. n < length (set_names parts)) ns) (sym (c.deref.ensures.value ∙ c.in_ok-fill_interface_names.ensures r.0 r.2))
    (interfaces_all_below parts (get_or heads i no_head) r.0 r.2))

pub loop-head-preserved : goal.loop-head-preserved
loop-head-preserved c = λ types are d. (
    let parts = c.args.parts.now in
    let heads = c.args.heads.now in
    let by_name = c.args.by_name.now in
    let i = c.loop-head.head-index in
    let r = zip_left (IsHead parts (set_names parts)) heads types are i (get_or heads i no_head) (slice_get-get_or heads i no_head c.loop-head-test.true) in
    mapped_next (uses_unlinked_name types) types i r.0 c.lacks_link.result c.loop-head.marks.items c.push.new.self.items
    (slice_get_within types i r.0 r.1) (sym (get_or_from_slice_get types i r.0 r.0 r.1)) c.in_ok-push.ensures.items
    (c.lacks_link.ensures ∙ lacks_is parts heads types by_name are d c.requires.found (get_or heads i no_head) r.0 r.2 c.deref.result.now (c.deref.ensures.value ∙ c.in_ok-fill_interface_names.ensures r.0 r.2))
    (c.loop-head.invariant types are d))

pub returns : goal.returns
returns c = λ types are d. mapped_all (uses_unlinked_name types) types c.loop-head.head-index c.loop-head.marks.items
    (let e = zip_long (IsHead c.args.parts.now (set_names c.args.parts.now)) c.args.heads.now types are in let a = c.loop-head-test.false in omega arith) (c.loop-head.invariant types are d)
