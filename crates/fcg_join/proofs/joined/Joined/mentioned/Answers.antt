use Rattle.std.proofs.Common.{List, sym, subst}
use Rattle.fcg_partial.specs.Parts.{PartShown}
use Rattle.fcg_analysis.proofs.WinnerLaws.{known_distinct}
use Rattle.fcg_join.specs.TypeTables.{IsUpwardRow, mentions_at}
use Rattle.fcg_join.specs.Parts.{placed, types_of}
use Rattle.fcg_join.specs.SetNames.{set_names}
use Rattle.fcg_join.specs.Internal.Tables.{IsJoined}
use Rattle.fcg_join.proofs.OwnMentions.{names_are_had}
use Rattle.fcg_join.proofs.Places.{has_in}
use Rattle.fcg_join.proofs.SuperAnswers.{super_in_row}
use Rattle.fcg_join.proofs.joined.Joined.mentioned.Goals as goal

pub returns-clause-supers : goal.returns-clause-supers
returns-clause-supers c = λ x sig h m s. (
    let parts = c.args.self.now in
    let j = subst (λ (ps : List PartShown). IsJoined ps c.self.inside.tables) c.self.view_is c.self.invariant in
    let names = names_are_had parts c.self.inside.tables.heads.items (types_of parts) c.self.inside.tables.linked.by_name.items j.heads (known_distinct (placed parts)) j.by_name in
    let up = subst (IsUpwardRow (types_of parts) (mentions_at (set_names parts) (types_of parts)) x) (sym c.row.ensures) (j.inherited'.mentions'.upward c.args.t.0 x h) in
    super_in_row parts x (has_in (types_of parts) c.args.t.0 x h) c.row.result.now up names.of_type sig m s)
