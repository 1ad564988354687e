use Rattle.std.proofs.Common.{◌<◌, ltb, length, get_or, rules, arith}
use Rattle.std.proofs.lemmas.List.{get_or_default}
use Rattle.std.proofs.lemmas.List.Sorted.{IsPartitionPoint-from_clause, IsPartitionedBy-ltb}
use Rattle.fcg_join.proofs.RowSearch.{rising_row, found_from, none_there}
use Rattle.fcg_join.proofs.signatures.find_between.Goals as goal

pub returns-then-place-row-clause-none : goal.returns-then-place-row-clause-none
returns-then-place-row-clause-none c = λ e. (
    let row = c.args.row.now in
    let point = IsPartitionPoint-from_clause (λ k. ltb k c.args.from) row c.partition_point-place.result c.partition_point-place.ensures.partitioned (IsPartitionedBy-ltb (λ k. k) row c.args.from (rising_row row c.requires)) (λ a r q k. search rules) in
    none_there row c.args.from c.partition_point-place.result point c.requires c.args.until (λ l. absurd (let p = c.if-place-row.true in omega arith)))

pub returns-then-number-until-clause-found : goal.returns-then-number-until-clause-found
returns-then-number-until-clause-found c =
    let row = c.args.row.now in
    let point = IsPartitionPoint-from_clause (λ k. ltb k c.args.from) row c.partition_point-place.result c.partition_point-place.ensures.partitioned (IsPartitionedBy-ltb (λ k. k) row c.args.from (rising_row row c.requires)) (λ a r q k. search rules) in
    let l : c.partition_point-place.result < length row = (let b = c.partition_point-place.ensures.bound in let d = c.if-place-row.false in grind arith) in
    ((c.partition_point-place.result, l, get_or_default row c.partition_point-place.result (get_or row c.partition_point-place.result 0) 0 l), found_from row c.args.from c.partition_point-place.result point l, c.if-number-until.true)

pub returns-else-number-until-clause-none : goal.returns-else-number-until-clause-none
returns-else-number-until-clause-none c = λ e. (
    let row = c.args.row.now in
    let point = IsPartitionPoint-from_clause (λ k. ltb k c.args.from) row c.partition_point-place.result c.partition_point-place.ensures.partitioned (IsPartitionedBy-ltb (λ k. k) row c.args.from (rising_row row c.requires)) (λ a r q k. search rules) in
    none_there row c.args.from c.partition_point-place.result point c.requires c.args.until (λ l. c.if-number-until.false))
