-- Signatures by numbers: the pairs of the numbers of a name and of a descriptor that methods have, each once, in their order.
use Rattle.std.specs.Prelude.{◌≡◌, ℕ, suc, ◌<◌, ◌^◌, ◌==◌, ◌&&◌, Bool, false, List, [], ◌∷◌, ◌++◌, filter, length, map, slice_set}
use Rattle.std.specs.List.{AllByRecursion}
use Rattle.std.specs.List.Sorted.{IsPermutation, IsSortedByKey, IsStableByKey}
use Rattle.std.specs.Ordering.{is_lt, nat_cmp, ordering_then}
use Rattle.std.specs.declared.cmp.Ordering.{Ordering}
use Rattle.fcg_grammar.specs.Table.{table, place}
use Rattle.fcg_views.specs.declared.view.Method.{Method}
use Rattle.fcg_partial.specs.Parts.{PartShown}
use Rattle.fcg_analysis.specs.NamesAndFlags.{same}
use Rattle.fcg_analysis.specs.Nodes.{Node}
use Rattle.fcg_join.specs.declared.signatures.SignatureTables.{SignatureTables}
use Rattle.fcg_join.specs.SetNames.{set_names}
use Rattle.fcg_join.specs.Parts.{nodes_of}
use Rattle.fcg_join.specs.NodeTables.{numbers_of}
use Rattle.fcg_join.specs.Numbers.{signature_key}

abbrev pub Pair : Type 0
Pair = ℕ × ℕ

-- a pair, and the node that has it
abbrev pub Key : Type 0
Key = Pair × ℕ

-- the numbers of a method's name and of its descriptor
abbrev pub pair_of : List (List ℕ) → Method → Pair
pair_of names m = (place names m.name, place names m.desc)

abbrev pub key_of : List (List ℕ) → Node → Key
key_of names m = (pair_of names m.method, m.number)

abbrev pub row_of_pair : Pair → List ℕ
row_of_pair p = p.0 ∷ p.1 ∷ []

abbrev pub same_pair : Pair → Pair → Bool
same_pair p q = p.0 == q.0 && p.1 == q.1

abbrev pub pair_order : Pair → Pair → Ordering
pair_order p q = ordering_then (nat_cmp p.0 q.0) (nat_cmp p.1 q.1)

-- the keys are sorted by their pairs, and those of one pair stand as before
pub record AreSortedKeys (made keys : List Key) : Type 0 where
  pub permutation : IsPermutation made keys
  pub sorted : IsSortedByKey (λ k. k.0) pair_order keys
  pub stable : IsStableByKey (λ k. k.0) pair_order made keys

-- no key's pair is less than that of a key before it
abbrev pub Ascends : List Key → Type 0
Ascends [] = Unit {0}
Ascends (k ∷ ks) = AllByRecursion (λ q. is_lt (pair_order q.0 k.0) ≡ false) ks × Ascends ks

-- the pairs of keys, each once, in their order
abbrev pub rows_of_keys : List Key → List (List ℕ)
rows_of_keys keys = map (λ k. row_of_pair k.0) keys

abbrev pub pairs_of_keys : List Key → List (List ℕ)
pairs_of_keys keys = table (rows_of_keys keys)

-- the nodes of the keys that have a pair
abbrev pub nodes_of_row : List Key → List ℕ → List ℕ
nodes_of_row keys row = map (λ k. k.1) (filter (λ k. same row (row_of_pair k.0)) keys)

-- the keys before the rest are cut
pub record IsCutUpTo (keys rest : List Key) (pairs : List Pair) (rows : List (List ℕ)) : Type 0 where
  pub pairs_are : map row_of_pair pairs ++ pairs_of_keys rest ≡ pairs_of_keys keys
  pub rows_are : rows ++ map (nodes_of_row rest) (pairs_of_keys rest) ≡ map (nodes_of_row keys) (pairs_of_keys keys)
  pub ascends : Ascends rest

-- ---- of each node the number of the row in which it stands

-- the number s at these places
abbrev pub set_all : ℕ → List ℕ → List ℕ → List ℕ
set_all s [] numbers = numbers
set_all s (k ∷ ks) numbers = set_all s ks (slice_set numbers k s)

-- the number of each row at the places in the row, the first with the number s
abbrev pub set_rows : ℕ → List (List ℕ) → List ℕ → List ℕ
set_rows s [] numbers = numbers
set_rows s (row ∷ rows) numbers = set_rows (suc s) rows (set_all s row numbers)

-- ---- the tables

-- the pairs that nodes have, each once, in their order
abbrev pub signature_rows : List (List ℕ) → List Node → List (List ℕ)
signature_rows names ms = table (map (λ m. signature_key names m.method) ms)

-- The keys are those of the nodes' signatures; each node has the place of its key, and each key the nodes that have it.
pub record AreSignatures (parts : List PartShown) (t : SignatureTables) : Type 0 where
  pub few : length t.keys.items < 2 ^ 32
  pub keys_are : map row_of_pair t.keys.items ≡ signature_rows (set_names parts) (nodes_of parts)
  pub of_nodes_are : t.of_nodes.items ≡ map (λ m. place (signature_rows (set_names parts) (nodes_of parts)) (signature_key (set_names parts) m.method)) (nodes_of parts)
  pub declarers_are : t.declarers ≡ map (λ row. numbers_of (filter (λ m. same row (signature_key (set_names parts) m.method)) (nodes_of parts))) (signature_rows (set_names parts) (nodes_of parts))
