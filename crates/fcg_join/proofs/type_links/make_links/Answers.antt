use Rattle.std.proofs.Common.{get_or, sym, ◌∙◌, arith}
use Rattle.std.proofs.lemmas.Option.{slice_get-get_or, slice_get_within, get_or_from_slice_get}
use Rattle.fcg_join.specs.SetNames.{set_names}
use Rattle.fcg_join.specs.Internal.TypeHeads.{IsHead, no_head}
use Rattle.fcg_join.specs.Internal.TypeNumbers.{links_numbered}
use Rattle.fcg_join.proofs.CollectedLaws.{mapped_next, mapped_all}
use Rattle.fcg_join.proofs.ZipLaws.{zip_left, zip_long}
use Rattle.fcg_join.proofs.type_links.make_links.Goals as goal

pub fill_row-requires-clause-head : goal.fill_row-requires-clause-head
fill_row-requires-clause-head c =
    let heads = c.args.heads.now in
    let i = c.loop-head.head-index in
    let r = zip_left (IsHead c.args.parts.now (set_names c.args.parts.now)) heads c.requires.heads.0 c.requires.heads.1 i (get_or heads i no_head) (slice_get-get_or heads i no_head c.loop-head-test.true) in
    (r.0, r.2)

pub loop-head-preserved : goal.loop-head-preserved
loop-head-preserved c = λ types are. (
    let heads = c.args.heads.now in
    let i = c.loop-head.head-index in
    let r = zip_left (IsHead c.args.parts.now (set_names c.args.parts.now)) heads types are i (get_or heads i no_head) (slice_get-get_or heads i no_head c.loop-head-test.true) in
    mapped_next (links_numbered (set_names c.args.parts.now) heads c.args.by_name.now) types i r.0 c.deref.result.now c.loop-head.links c.push_row.new.self
    (slice_get_within types i r.0 r.1) (sym (get_or_from_slice_get types i r.0 r.0 r.1)) c.in_ok-push_row.ensures.ok (c.deref.ensures.value ∙ c.in_ok-fill_row.ensures r.0 r.2) (c.loop-head.invariant types are))

pub returns : goal.returns
returns c = λ types are. mapped_all (links_numbered (set_names c.args.parts.now) c.args.heads.now c.args.by_name.now) types c.loop-head.head-index c.loop-head.links
    (let e = zip_long (IsHead c.args.parts.now (set_names c.args.parts.now)) c.args.heads.now types are in let a = c.loop-head-test.false in omega arith) (c.loop-head.invariant types are)
