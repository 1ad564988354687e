-- Nodes are numbered by their places.
use Rattle.std.proofs.Common.{◌≡◌, ℕ, ◌+◌, ◌<◌, ◌≤◌, List, [], ◌∷◌, length, refl, ap, inl, inr, arith}
use Rattle.std.specs.Prelude.{⊤, map, Contains}
use Rattle.std.specs.List.{range_with_len, AllByRecursion}
use Rattle.fcg_views.specs.declared.view.Method.{Method}
use Rattle.fcg_analysis.specs.Declarations.{Placed}
use Rattle.fcg_analysis.specs.Nodes.{Node, nodes, nodes_from}
use Rattle.fcg_analysis.proofs.General.Members.{IsIn, IsIn-from_Contains}
use Rattle.fcg_analysis.proofs.General.Sorted.{all_from_in}

numbers_from : (n : ℕ) (ms : List (Placed × Method)) → map (λ m. m.number) (nodes_from n ms) ≡ range_with_len n (length (nodes_from n ms))
numbers_from n [] = refl
numbers_from n (m ∷ ms) = ap (λ ks. n ∷ ks) (numbers_from (n + 1) ms)

pub numbers_are_places : (types : List Placed) → map (λ m. m.number) (nodes types) ≡ range_with_len 0 (length (nodes types))
unfolding nodes
numbers_are_places types = numbers_from 0 _

-- ---- the numbers rise

unfoldable pub Rising : List Node → Type 0
Rising [] = ⊤
Rising (m ∷ ms) = AllByRecursion (λ n. m.number < n.number) ms × Rising ms

pub from_on : (n : ℕ) (ms : List (Placed × Method)) (m : Node) → IsIn m (nodes_from n ms) → (n ≤ m.number) × (m.number < n + length (nodes_from n ms))
from_on n [] m h = absurd h
from_on n (p ∷ ps) m (inl e) = let k : n ≡ m.number = ap (λ v. v.number) e in (omega arith, omega arith)
from_on n (p ∷ ps) m (inr h) = let r : (n + 1 ≤ m.number) × (m.number < n + 1 + length (nodes_from (n + 1) ps)) = from_on (n + 1) ps m h in (omega (arith, r.0), omega (arith, r.1))

rising_from : (n : ℕ) (ms : List (Placed × Method)) → Rising (nodes_from n ms)
unfolding Rising
rising_from n [] = tt
rising_from n (m ∷ ms) =
    (all_from_in (λ v. n < v.number) (nodes_from (n + 1) ms) (λ v h. let r : n + 1 ≤ v.number = (from_on (n + 1) ms v h).0 in omega arith), rising_from (n + 1) ms)

pub nodes_rise : (types : List Placed) → Rising (nodes types)
unfolding nodes
nodes_rise types = rising_from 0 _

pub number_small : (types : List Placed) (m : Node) → Contains (nodes types) m → m.number < length (nodes types)
unfolding nodes
number_small types m c = let r = from_on 0 _ m (IsIn-from_Contains (nodes types) m c) in omega (arith, r.1)
