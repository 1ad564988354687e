use Rattle.std.proofs.Common.{◌≡◌, ltb, rules, arith}
use Rattle.std.proofs.lemmas.List.Sorted.{IsPartitionPoint-from_clause, IsPartitionedBy-ltb}
use Rattle.fcg_edges.specs.Rows.{has}
use Rattle.fcg_edges.specs.Internal.Counts.{count_to}
use Rattle.fcg_edges.proofs.NumberCounts.{count_within}
use Rattle.fcg_edges.proofs.RowSearch.{rising_row, count_at_point}
use Rattle.fcg_edges.proofs.counting.count_below.Goals as goal

counted : (c : goal.After-partition_point) → c.partition_point.result ≡ count_to (has c.args.row.now) c.args.bound
counted c =
    let row = c.args.row.now in
    let point = IsPartitionPoint-from_clause (λ k. ltb k c.args.bound) row c.partition_point.result c.partition_point.ensures.partitioned (IsPartitionedBy-ltb (λ k. k) row c.args.bound (rising_row row c.requires)) (λ a r q k. search rules) in
    count_at_point row c.args.bound c.partition_point.result c.requires c.partition_point.ensures.bound point

pub overflow_cast-result : goal.overflow_cast-result
overflow_cast-result c =
    let e = counted c in
    let l = count_within (has c.args.row.now) c.args.bound in
    omega arith

pub returns : goal.returns
returns c = counted c
