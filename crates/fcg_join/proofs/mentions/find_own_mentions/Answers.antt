use Rattle.std.proofs.Common.{ℕ, ◌<◌, List, length, get_or, sym, subst, ◌∙◌, arith}
use Rattle.std.specs.Prelude.{All, IfSome}
use Rattle.std.proofs.lemmas.Option.{slice_get-get_or, slice_get_within, get_or_from_slice_get}
use Rattle.fcg_analysis.proofs.WinnerLaws.{known_distinct}
use Rattle.fcg_join.specs.Parts.{placed, types_of}
use Rattle.fcg_join.specs.SetNames.{set_names}
use Rattle.fcg_join.specs.Internal.TypeHeads.{IsHead, no_head}
use Rattle.fcg_join.specs.TypeTables.{own_mentions}
use Rattle.fcg_join.proofs.CollectedLaws.{mapped_next, mapped_all}
use Rattle.fcg_join.proofs.ZipLaws.{zip_left, zip_long}
use Rattle.fcg_join.proofs.HeadLaws.{used_below}
use Rattle.fcg_join.proofs.GapLaws.{interfaces_all_below}
use Rattle.fcg_join.proofs.OwnMentions.{own_are}
use Rattle.fcg_join.proofs.mentions.find_own_mentions.Goals as goal

pub fill_interface_names-requires-clause-head : goal.fill_interface_names-requires-clause-head
fill_interface_names-requires-clause-head c =
    let parts = c.args.parts.now in
    let heads = c.args.heads.now in
    let i = c.loop-head.head-index in
    let r = zip_left (IsHead parts (set_names parts)) heads (types_of parts) c.requires.heads i (get_or heads i no_head) (slice_get-get_or heads i no_head c.loop-head-test.true) in
    (r.0, r.2)

pub fill_own-requires-clause-superclass : goal.fill_own-requires-clause-superclass
fill_own-requires-clause-superclass c =
    let parts = c.args.parts.now in
    let heads = c.args.heads.now in
    let i = c.loop-head.head-index in
    let r = zip_left (IsHead parts (set_names parts)) heads (types_of parts) c.requires.heads i (get_or heads i no_head) (slice_get-get_or heads i no_head c.loop-head-test.true) in
    subst (λ (m : ℕ). IfSome (get_or heads i no_head).superclass (λ n. n < m)) (sym c.requires.found.long) (used_below parts (get_or heads i no_head) r.0 r.2)

pub fill_own-requires-clause-names : goal.fill_own-requires-clause-names
fill_own-requires-clause-names c =
    let parts = c.args.parts.now in
    let heads = c.args.heads.now in
    let i = c.loop-head.head-index in
    let r = zip_left (IsHead parts (set_names parts)) heads (types_of parts) c.requires.heads i (get_or heads i no_head) (slice_get-get_or heads i no_head c.loop-head-test.true) in
    subst (λ (m : ℕ). All (λ n. n < m) c.deref.result.now) (sym c.requires.found.long)
    (subst (λ (ns : List ℕ). All (λ n. n < length (set_names parts)) ns) (sym (c.deref.ensures.value ∙ c.in_ok-fill_interface_names.ensures r.0 r.2))
    (interfaces_all_below parts (get_or heads i no_head) r.0 r.2))

pub loop-head-preserved : goal.loop-head-preserved
loop-head-preserved c =
    let parts = c.args.parts.now in
    let types = types_of parts in
    let heads = c.args.heads.now in
    let by_name = c.args.by_name.now in
    let i = c.loop-head.head-index in
    let r = zip_left (IsHead parts (set_names parts)) heads types c.requires.heads i (get_or heads i no_head) (slice_get-get_or heads i no_head c.loop-head-test.true) in
    mapped_next (own_mentions (set_names parts) types) types i r.0 c.deref-in-loop-head.result.now c.loop-head.own c.push_row.new.self
    (slice_get_within types i r.0 r.1) (sym (get_or_from_slice_get types i r.0 r.0 r.1)) c.in_ok-push_row.ensures.ok
    (c.deref-in-loop-head.ensures.value ∙ c.in_ok-fill_own.ensures
    ∙ own_are parts heads types by_name c.requires.heads (known_distinct (placed parts)) c.requires.found (get_or heads i no_head) r.0 r.2 c.deref.result.now (c.deref.ensures.value ∙ c.in_ok-fill_interface_names.ensures r.0 r.2))
    c.loop-head.invariant

pub returns : goal.returns
returns c = mapped_all (own_mentions (set_names c.args.parts.now) (types_of c.args.parts.now)) (types_of c.args.parts.now) c.loop-head.head-index c.loop-head.own
    (let e = zip_long (IsHead c.args.parts.now (set_names c.args.parts.now)) c.args.heads.now (types_of c.args.parts.now) c.requires.heads in let a = c.loop-head-test.false in omega arith) c.loop-head.invariant
