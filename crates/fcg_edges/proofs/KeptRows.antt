-- What is known of rows of edges by how they are kept.
use Rattle.std.proofs.Common.{◌≡◌, ℕ, ◌<◌, ◌≤◌, List, length, get_or, sym, subst, ◌∙◌, arith}
use Rattle.std.specs.Prelude.{All}
use Rattle.std.specs.List.Sorted.{IsStrictlyIncreasing}
use Rattle.std.proofs.lemmas.List.{get_or_default}
use Rattle.std.proofs.lemmas.List.Elements.{All-get_or}
use Rattle.fcg_order.specs.Links.{row}
use Rattle.fcg_edges.specs.Rows.{Rows, edges_of}
use Rattle.fcg_edges.specs.Internal.Tables.{AreRows}
use Rattle.fcg_edges.specs.Internal.Counts.{edges_before}
use Rattle.fcg_edges.proofs.EdgePlaces.{firsts_are, firsts_rise, edges_many}

pub rows_kept : (s r : Rows) (firsts : List ℕ) → s ≡ r → AreRows s firsts → AreRows r firsts
rows_kept s r firsts e w = subst (λ r. AreRows r firsts) e w

module _ (r : Rows) (firsts : List ℕ) (w : AreRows r firsts) where
  pub targets_rise : (a : ℕ) (ts : List ℕ) → a < length r.targets → ts ≡ row r.targets a → IsStrictlyIncreasing ts
  targets_rise a ts l e = subst IsStrictlyIncreasing (sym e) (w.rows a l).rise.rise

  pub use_there : (a i : ℕ) (us : List ℕ) → a < length r.targets → us ≡ row r.uses a → i < length us → get_or us i 0 < length r.lists
  use_there a i us l e m = All-get_or (λ k. k < length r.lists) us i 0 m (subst (All (λ k. k < length r.lists)) (sym e) (w.rows a l).there)

  -- what an index of the first places gives
  pub first_is : (a x : ℕ) → a ≤ length r.targets → x ≡ get_or firsts a x → x ≡ edges_before r a
  first_is a x l e = let long = w.firsts_long in e ∙ get_or_default firsts a x 0 (omega arith) ∙ firsts_are r firsts w a l

  pub before_within : (a : ℕ) → a ≤ length r.targets → edges_before r a ≤ length (edges_of r)
  before_within a l =
      let long = w.firsts_long in
      let rise = firsts_rise r firsts w a (length r.targets) 0 l (omega arith) in
      let x = firsts_are r firsts w a l in
      let y = firsts_are r firsts w (length r.targets) (omega arith) in
      let total = edges_many r in
      omega arith
