use Rattle.std.proofs.Common.{◌≡◌, ◌-◌, ℕ, List, leb, rules, sym, subst}
use Rattle.std.specs.Prelude.{true, false}
use Rattle.std.specs.List.Sorted.{IsPartitionPoint}
use Rattle.std.proofs.lemmas.List.Sorted.{IsPartitionPoint-from_clause, IsPartitionedBy-leb}
use Rattle.fcg_edges.specs.Internal.Tables.{AreRows}
use Rattle.fcg_edges.proofs.EdgePlaces.{firsts_rise, IsCallerOf, after_first, caller_of_place}
use Rattle.fcg_edges.proofs.KeptRows.{rows_kept}
use Rattle.fcg_edges.proofs.edge_rows.EdgeRows.find_caller.Goals as goal

kept : (c : goal.After-partition_point) → AreRows c.args.self.now c.deref.result.now
kept c = subst (λ (firsts : List ℕ). AreRows c.args.self.now firsts) (sym c.deref.ensures.value) (rows_kept _ c.args.self.now c.self.inside.firsts.items c.self.view_is c.self.invariant)

point : (c : goal.After-partition_point) → IsPartitionPoint (λ f. leb f c.args.k ≡ true) (λ f. leb f c.args.k ≡ false) c.deref.result.now c.partition_point.result
point c =
    let firsts = c.deref.result.now in
    IsPartitionPoint-from_clause (λ f. leb f c.args.k) firsts c.partition_point.result c.partition_point.ensures.partitioned (IsPartitionedBy-leb (λ f. f) firsts c.args.k (firsts_rise c.args.self.now firsts (kept c))) (λ a r q k. search rules)

pub overflow_sub-result : goal.overflow_sub-result
overflow_sub-result c = after_first c.args.self.now c.deref.result.now (kept c) c.args.k c.partition_point.result c.partition_point.ensures.bound c.requires (point c)

caller : (c : goal.After-partition_point) → IsCallerOf c.args.self.now c.args.k (c.partition_point.result - 1)
caller c = caller_of_place c.args.self.now c.deref.result.now (kept c) c.args.k c.partition_point.result c.partition_point.ensures.bound c.requires (point c)

pub returns-clause-there : goal.returns-clause-there
returns-clause-there c = (caller c).there

pub returns-clause-from : goal.returns-clause-from
returns-clause-from c = (caller c).from'

pub returns-clause-until : goal.returns-clause-until
returns-clause-until c = (caller c).until
