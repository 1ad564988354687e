-- Superinterface methods and the one default, by rows of mentions.
use Rattle.std.proofs.Common.{◌≡◌, ℕ, List, get_or, refl, sym, ap, ◌∙◌}
use Rattle.std.specs.Prelude.{Bool, true, false, not, ◌&&◌, ◌||◌, option_map, filter, find, Contains}
use Rattle.std.specs.List.{list_any, IsDistinct}
use Rattle.fcg_analysis.specs.NamesAndFlags.{one}
use Rattle.fcg_analysis.specs.Declarations.{Placed, Signature, has_signature, is_type, is_interface, is_private, is_static, is_abstract}
use Rattle.fcg_analysis.specs.Types.{is_above}
use Rattle.fcg_analysis.specs.Nodes.{Node, super_methods, one_default, first_super_method}
use Rattle.fcg_analysis.specs.Laws.Statements.{IsAcyclic}
use Rattle.fcg_join.specs.TypeLinks.{HasTypeAt}
use Rattle.fcg_join.specs.TypeTables.{AreUpwardRows, AreTypeNames, mentions_at}
use Rattle.fcg_join.specs.NodeTables.{HasNodeAt, owners, numbers_of, declarers, owner_in_row}
use Rattle.fcg_analysis.proofs.SuperMethods.{super_members}
use Rattle.fcg_join.proofs.NodeNumbers.{owner_is}
use Rattle.fcg_join.proofs.MentionRows.{interface_by_numbers, node_by_numbers}
use Rattle.fcg_join.proofs.SuperNumbers.{super_numbers, first_number_found, default_number}

module _ (names : List (List ℕ)) (types : List Placed) (acyclic : IsAcyclic types) (distinct : IsDistinct is_type types) (rows : ℕ → List ℕ) (name_at : ℕ → ℕ)
    (up : AreUpwardRows types (mentions_at names types) rows) (named : AreTypeNames names types name_at) where
  module _ (open_at : ℕ → Bool) (is_open : (k : ℕ) (m : Node) → HasNodeAt types k m → open_at k ≡ (not (is_private m.method || is_static m.method) && is_interface m.owner))
      (x : ℕ) (t : Placed) (s : Signature) (at_x : HasTypeAt types x t) where
    passes_is : (k : ℕ) (m : Node) → HasNodeAt types k m → has_signature s m.method ≡ true
        → (open_at k && owner_in_row rows name_at (owners types) x k) ≡ (not (is_private m.method || is_static m.method) && (is_interface m.owner && is_above types t m.owner))
    passes_is k m h g =
        ap (λ b. b && owner_in_row rows name_at (owners types) x k) (is_open k m h)
        ∙ joined (not (is_private m.method || is_static m.method)) (is_interface m.owner) (owner_in_row rows name_at (owners types) x k)
        ∙ ap (λ b. not (is_private m.method || is_static m.method) && b) (sym (node_by_numbers names types acyclic distinct rows name_at up named x k t m at_x h))
      where
        joined : (a b c : Bool) → ((a && b) && c) ≡ (a && (b && c))
        joined true b c = refl
        joined false b c = refl

    pub super_by_rows : numbers_of (super_methods types t s) ≡ filter (λ k. open_at k && owner_in_row rows name_at (owners types) x k) (declarers types s)
    super_by_rows = super_numbers types t s (λ k. open_at k && owner_in_row rows name_at (owners types) x k) passes_is

    pub first_by_rows : option_map (λ m. m.number) (first_super_method types t s) ≡ find (λ k. open_at k && owner_in_row rows name_at (owners types) x k) (declarers types s)
    first_by_rows = first_number_found types t s (λ k. open_at k && owner_in_row rows name_at (owners types) x k) passes_is

  pub default_by_rows : (abstract' : ℕ → Bool) → ((k : ℕ) (m : Node) → HasNodeAt types k m → abstract' k ≡ is_abstract m.method) → (t : Placed) (s : Signature) (ks : List ℕ) → ks ≡ numbers_of (super_methods types t s)
      → option_map (λ m. m.number) (one_default types t s)
      ≡ one (filter (λ k. not (abstract' k)) (filter (λ k. not (list_any (λ j. owner_in_row rows name_at (owners types) (get_or (owners types) j 0) k) ks)) ks))
  default_by_rows abstract' h t s ks e =
      default_number types t s (λ j k. owner_in_row rows name_at (owners types) (get_or (owners types) j 0) k) below abstract' h
      ∙ ap (λ ns. one (filter (λ k. not (abstract' k)) (filter (λ k. not (list_any (λ j. owner_in_row rows name_at (owners types) (get_or (owners types) j 0) k) ns)) ns))) (sym e)
    where
      below : (j k : ℕ) (o m : Node) → HasNodeAt types j o → HasNodeAt types k m → Contains (super_methods types t s) o → Contains (super_methods types t s) m
          → owner_in_row rows name_at (owners types) (get_or (owners types) j 0) k ≡ is_above types o.owner m.owner
      below j k o m a b c d =
          sym (interface_by_numbers names types acyclic distinct rows name_at up named (get_or (owners types) j 0) (get_or (owners types) k 0) o.owner m.owner
          (owner_is types j o a) (owner_is types k m b) ((super_members types distinct t s m).0 d).interface)
