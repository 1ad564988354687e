use Rattle.std.proofs.Common.{ℕ, leb, rules, sym, subst}
use Rattle.std.specs.Prelude.{Option}
use Rattle.std.proofs.lemmas.List.Sorted.{IsPartitionPoint-from_clause, IsPartitionedBy-leb}
use Rattle.fcg_edges.specs.Rows.{has}
use Rattle.fcg_edges.specs.Internal.Counts.{IsNext}
use Rattle.fcg_edges.proofs.RowSearch.{rising_row, next_at_point}
use Rattle.fcg_edges.proofs.finding.first_above.Goals as goal

pub returns : goal.returns
returns c =
    let row = c.args.row.now in
    let place = c.partition_point-place.result in
    let point = IsPartitionPoint-from_clause (λ k. leb k c.args.bound) row place c.partition_point-place.ensures.partitioned (IsPartitionedBy-leb (λ k. k) row c.args.bound (rising_row row c.requires)) (λ a r q k. search rules) in
    subst (λ (o : Option ℕ). IsNext (has row) c.args.bound o) (sym c.copied.ensures) (next_at_point row c.args.bound place c.requires point c.get.result c.get.ensures.lookup.0 c.get.ensures.lookup.1)
