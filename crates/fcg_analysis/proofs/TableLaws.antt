-- The edges of a table of pairs that agrees with the relation.
use Rattle.std.proofs.Common.{◌≡◌, ℕ, List, [], ◌∷◌, ◌++◌, length, refl, sym, ap, ◌∙◌, inl, inr}
use Rattle.std.specs.Prelude.{Bool, true, false, cond, filter, map, flat_map, Contains}
use Rattle.fcg_analysis.specs.Declarations.{Placed}
use Rattle.fcg_analysis.specs.Nodes.{Node, nodes}
use Rattle.fcg_analysis.specs.Edges.{edge, edges}
use Rattle.fcg_analysis.specs.Laws.Tables.{edges_in}
use Rattle.fcg_analysis.proofs.General.Members.{IsIn, Contains-from_IsIn}
use Rattle.fcg_analysis.proofs.NodeLaws.{numbers_are_places}

-- a filter of nodes, by their numbers
pub numbers_kept : (p : Node → Bool) (q : ℕ → Bool) (ns : List Node) → ((m : Node) → IsIn m ns → q m.number ≡ p m) → filter q (map (λ m. m.number) ns) ≡ map (λ m. m.number) (filter p ns)
numbers_kept p q [] h = refl
numbers_kept p q (n ∷ ns) h =
    ap (λ v. cond v (n.number ∷ filter q (map (λ m. m.number) ns)) (filter q (map (λ m. m.number) ns))) (h n (inl refl)) ∙ at (p n) (numbers_kept p q ns (λ m k. h m (inr k)))
  where
    at : (b : Bool) → filter q (map (λ m. m.number) ns) ≡ map (λ m. m.number) (filter p ns)
        → cond b (n.number ∷ filter q (map (λ m. m.number) ns)) (filter q (map (λ m. m.number) ns)) ≡ map (λ m. m.number) (cond b (n ∷ filter p ns) (filter p ns))
    at true r = ap (λ ks. n.number ∷ ks) r
    at false r = r

-- the pairs of one caller, by numbers and by nodes
abbrev to_numbers : ℕ → List ℕ → List (ℕ × ℕ)
to_numbers k bs = map (λ b. (k, b)) bs

abbrev to_nodes : ℕ → List Node → List (ℕ × ℕ)
to_nodes k ns = map (λ b. (k, b.number)) ns

pairs_of : (k : ℕ) (ns : List Node) → to_numbers k (map (λ m. m.number) ns) ≡ to_nodes k ns
pairs_of k [] = refl
pairs_of k (n ∷ ns) = ap (λ es. (k, n.number) ∷ es) (pairs_of k ns)

module _ (types : List Placed) (leads : ℕ → ℕ → Bool) (agrees : (a b : Node) → Contains (nodes types) a → Contains (nodes types) b → leads a.number b.number ≡ edge types a b) where
  pairs_from : (a : Node) → IsIn a (nodes types) → to_numbers a.number (filter (leads a.number) (map (λ m. m.number) (nodes types))) ≡ to_nodes a.number (filter (λ b. edge types a b) (nodes types))
  pairs_from a h =
      ap (to_numbers a.number) (numbers_kept (λ b. edge types a b) (leads a.number) (nodes types) (λ b k. agrees a b (Contains-from_IsIn (nodes types) a h) (Contains-from_IsIn (nodes types) b k)))
      ∙ pairs_of a.number (filter (λ b. edge types a b) (nodes types))

  all_from : (ns : List Node) → ((a : Node) → IsIn a ns → IsIn a (nodes types))
      → flat_map (λ k. to_numbers k (filter (leads k) (map (λ m. m.number) (nodes types)))) (map (λ m. m.number) ns) ≡ flat_map (λ a. to_nodes a.number (filter (λ b. edge types a b) (nodes types))) ns
  all_from [] h = refl
  all_from (a ∷ ns) h = λ i. pairs_from a (h a (inl refl)) i ++ all_from ns (λ b k. h b (inr k)) i

  pub table_is_edges : edges_in (length (nodes types)) leads ≡ edges types
  unfolding edges_in edges
  table_is_edges =
      ap (λ ks. flat_map (λ a. to_numbers a (filter (leads a) ks)) ks) (sym (numbers_are_places types))
      ∙ all_from (nodes types) (λ a h. h)
