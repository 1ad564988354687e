use Rattle.std.proofs.Common.{ℕ, ◌<◌, List, length, sym, ap, subst, ◌∙◌, arith}
use Rattle.std.specs.Prelude.{Option}
use Rattle.std.proofs.lemmas.List.{length-map}
use Rattle.std.proofs.lemmas.Result.{IfOk-weaker}
use Rattle.fcg_analysis.proofs.WinnerLaws.{known_distinct}
use Rattle.fcg_analysis.proofs.General.Places.{some_at}
use Rattle.fcg_order.specs.Links.{row}
use Rattle.fcg_join.specs.Parts.{placed, types_of}
use Rattle.fcg_join.specs.SetNames.{set_names}
use Rattle.fcg_join.specs.Internal.TypeNumbers.{FindsHeads}
use Rattle.fcg_join.specs.TypeTables.{own_mentions, mentions_at}
use Rattle.fcg_join.specs.Internal.Mentions.{row_of, AreJoinedRows, AreMentions}
use Rattle.fcg_join.proofs.MarkLaws.{no_circle}
use Rattle.fcg_join.proofs.RowLaws.{joined_rows}
use Rattle.fcg_join.proofs.OwnMentions.{own_rows, known_are_acyclic}
use Rattle.fcg_join.proofs.mentions.find_mentions.Goals as goal

pub find_own_mentions-requires-clause-found : goal.find_own_mentions-requires-clause-found
find_own_mentions-requires-clause-found c =
    subst (λ (bs : List (Option ℕ)). FindsHeads c.args.heads.now bs (length (set_names c.args.parts.now))) (sym c.as_slice-by_name.ensures.value) c.requires.found

pub join_rows-requires-clause-few : goal.join_rows-requires-clause-few
join_rows-requires-clause-few c = omega (arith, c.requires.few, c.requires.links.long)

pub join_rows-requires-clause-long : goal.join_rows-requires-clause-long
join_rows-requires-clause-long c =
    ap (λ rs. length rs) c.in_ok-own.ensures ∙ length-map (types_of c.args.parts.now) (own_mentions (set_names c.args.parts.now) (types_of c.args.parts.now)) ∙ sym c.requires.links.long

pub join_rows-requires-clause-within : goal.join_rows-requires-clause-within
join_rows-requires-clause-within c = c.requires.links.within

pub join_rows-requires-clause-acyclic : goal.join_rows-requires-clause-acyclic
join_rows-requires-clause-acyclic c = λ x l. (
    let parts = c.args.parts.now in
    let t = some_at (types_of parts) x (subst (λ n. x < n) c.requires.links.long l) in
    no_circle (types_of parts) c.args.linked.now.links c.requires.links (known_distinct (placed parts)) (known_are_acyclic (placed parts)) x t.0 t.1)

pub returns : goal.returns
returns c =
    let parts = c.args.parts.now in
    let types = types_of parts in
    let names = set_names parts in
    let links = c.args.linked.now.links in
    let own = c.in_ok-own.own in
    let starts = own_rows parts c.args.heads.now types c.args.linked.now.by_name.items c.requires.heads (known_distinct (placed parts)) c.requires.found own c.in_ok-own.ensures in
    IfOk-weaker c.join_rows.result (AreJoinedRows links own) (AreMentions names types)
    (λ r j. record {
      long = j.long ∙ c.requires.links.long;
      there = λ x l. j.there x (subst (λ n. x < n) (sym c.requires.links.long) l);
      upward = λ x t a. joined_rows types links c.requires.links (mentions_at names types) (row own) starts (known_are_acyclic (placed parts)) (row_of r) j.joined x t a;
      rise = λ x l. j.rise x (subst (λ n. x < n) (sym c.requires.links.long) l);
    }) c.join_rows.ensures
