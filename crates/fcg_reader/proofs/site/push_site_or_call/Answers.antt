use Rattle.std.proofs.Common.{rules, [], ◌+◌, ◌<◌, ◌^◌, sym}
use Rattle.std.proofs.lemmas.List.{append-nil}
use Rattle.std.proofs.lemmas.List.Elements.{All-push}
use Rattle.fcg_reader.specs.Internal.Rows.{site_in}
use Rattle.fcg_reader.specs.Internal.Sites.{form_in}
use Rattle.fcg_reader.proofs.CodeLemmas.{found_nothing, found_site, found_call}
use Rattle.fcg_reader.proofs.site.push_site_or_call.Goals as goal

pub returns-then-is_dynamic-clause-value : goal.returns-then-is_dynamic-clause-value
returns-then-is_dynamic-clause-value c =
    let read = found_call c.args.names.now c.args.code.begin c.args.code.bytes.now c.args.pc c.args.count c.in_ok-bootstrap.bootstrap (search rules) (search rules) in
    (_, read, sym (append-nil c.args.sites.now.items), c.in_ok-push.ensures.items)

pub returns-then-is_dynamic-clause-placed : goal.returns-then-is_dynamic-clause-placed
returns-then-is_dynamic-clause-placed c before =
    rw c.in_ok-push.ensures.items (All-push (λ call. c.args.code.begin + call.pc < 2 ^ 64) c.args.calls.now.items _ before c.requires.place)

pub returns-in_ok-push-2-clause-value : goal.returns-in_ok-push-2-clause-value
returns-in_ok-push-2-clause-value c =
    let read = found_site c.args.names.now c.args.code.begin c.args.code.bytes.now (form_in c.in-Some.form) c.args.pc c.args.count (site_in c.args.names.now c.in_ok-site.site) (search rules) (search rules) (search rules) in
    (_, read, c.in_ok-push-2.ensures.items, sym (append-nil c.args.calls.now.items))

pub returns-in_default-clause-value : goal.returns-in_default-clause-value
returns-in_default-clause-value c =
    let read = found_nothing c.args.names.now c.args.code.begin c.args.code.bytes.now c.args.pc c.args.count (search rules) (search rules) in
    (record { sites = []; calls = [] }, read, sym (append-nil c.args.sites.now.items), sym (append-nil c.args.calls.now.items))
