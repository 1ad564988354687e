use Rattle.std.proofs.lemmas.List.Filters.{dedup_is}
use Rattle.std.proofs.lemmas.List.Kept.{Contains-dedup_nat, Contains-from_dedup}
use Rattle.std.proofs.lemmas.List.Sorted.{Contains-permutation, IsPermutation-sym}
use Rattle.std.proofs.lemmas.Map.Keys.{IsStrictlyIncreasing-dedup}
use Rattle.fcg_stitch.proofs.DistinctNumbers.{same_numbers}
use Rattle.fcg_stitch.proofs.targets.sort_distinct.Goals as goal

pub returns : goal.returns
returns c =
    let is = dedup_is _ _ _ c.dedup.ensures.filtered in
    let moved = c.sort_unstable.ensures.permutation in
    record {
      same = λ b. same_numbers _ _ b
          (λ h. Contains-permutation _ _ b (IsPermutation-sym _ _ moved) (Contains-from_dedup _ _ b (rw is at h)))
          (λ h. rw is (Contains-dedup_nat _ b (Contains-permutation _ _ b moved h)));
      rise = rw is (IsStrictlyIncreasing-dedup _ c.sort_unstable.ensures.sorted);
    }
