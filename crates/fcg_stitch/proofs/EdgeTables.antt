-- The edges of a stitched set, by the rows of its callers.
use Rattle.std.proofs.Common.{◌≡◌, ℕ, ◌<◌, List, length, sym, ap, subst, ◌∙◌, refl}
use Rattle.std.specs.Prelude.{◌↔◌, ◌==◌, true, Bool, Some, Contains, filter, flat_map, map, slice_get}
use Rattle.std.specs.List.{range_with_len}
use Rattle.std.specs.Cmp.{both_ways}
use Rattle.std.proofs.lemmas.Bool.Decides.{Decides-eqb}
use Rattle.std.proofs.lemmas.Option.{slice_get_within}
use Rattle.fcg_partial.specs.Parts.{PartShown}
use Rattle.fcg_analysis.specs.Nodes.{Node}
use Rattle.fcg_analysis.specs.Edges.{edge, edges}
use Rattle.fcg_analysis.specs.Laws.Tables.{edges_in}
use Rattle.fcg_analysis.proofs.General.Members.{IsIn, IsIn-from_Contains, Contains-from_IsIn, any_in, in_any}
use Rattle.fcg_analysis.proofs.General.Places.{member_at}
use Rattle.fcg_analysis.proofs.NodePlaces.{number_is_place, of_method_at}
use Rattle.fcg_analysis.proofs.TableLaws.{table_is_edges}
use Rattle.fcg_join.specs.Parts.{types_of, nodes_of}
use Rattle.fcg_edges.specs.Rows.{Rows, has, leads, edges_of}
use Rattle.fcg_stitch.specs.Targets.{caller_targets}
use Rattle.fcg_stitch.specs.declared.status.SiteStatus.{SiteStatus}
use Rattle.fcg_stitch.specs.Internal.Rows.{leads_to, targets_of_node}
use Rattle.fcg_stitch.specs.Internal.Tables.{AreOfNodes}
use Rattle.fcg_stitch.proofs.TargetLaws.{of_caller}

-- ---- a number is one of those of a list

has_in : (ks : List ℕ) (b : ℕ) → (has ks b ≡ true) ↔ Contains ks b
has_in ks b = (
  λ h. (let k = in_any (λ x. x == b) ks h in Contains-from_IsIn ks b (subst (λ n. IsIn n ks) ((Decides-eqb k.0 b).0 k.2) k.1)),
  λ c. any_in (λ x. x == b) ks b (IsIn-from_Contains ks b c) ((Decides-eqb b b).1 refl),
)

-- ---- the pairs of a table of so many callers

abbrev pairs_with : ℕ → List ℕ → List (ℕ × ℕ)
pairs_with a bs = map (λ b. (a, b)) bs

abbrev pairs_in : (ℕ → ℕ → Bool) → ℕ → ℕ → List (ℕ × ℕ)
pairs_in led count callers = flat_map (λ a. pairs_with a (filter (led a) (range_with_len 0 count))) (range_with_len 0 callers)

module _ (parts : List PartShown) (rows : Rows) (ss : List SiteStatus) (fs : List ℕ) (t : AreOfNodes parts (length (nodes_of parts)) rows ss fs) where
  led_is_edge : (a b : Node) → Contains (nodes_of parts) a → Contains (nodes_of parts) b → leads rows a.number b.number ≡ edge (types_of parts) a b
  unfolding leads_to
  led_is_edge a b c d =
      let there : slice_get (nodes_of parts) a.number ≡ Some a = number_is_place (types_of parts) a c in
      let few : a.number < length (nodes_of parts) = slice_get_within (nodes_of parts) a.number a there in
      let of_node : leads_to (types_of parts) a.number b.number ≡ has (caller_targets (types_of parts) a) b.number = ap (λ o. has (targets_of_node (types_of parts) o) b.number) there in
      let h = has_in (caller_targets (types_of parts) a) b.number in
      let o = of_caller (types_of parts) b d a in
      t.leads a.number b.number few
      ∙ of_node
      ∙ both_ways (has (caller_targets (types_of parts) a) b.number) (edge (types_of parts) a b) (λ x. o.0 (h.0 x)) (λ x. h.1 (o.1 x))

  pub rows_have_edges : edges_of rows ≡ edges (types_of parts)
  unfolding edges_of edges_in
  rows_have_edges =
      ap (λ n. pairs_in (leads rows) rows.count n) t.callers
      ∙ ap (λ n. pairs_in (leads rows) n (length (nodes_of parts))) t.count
      ∙ table_is_edges (types_of parts) (leads rows) led_is_edge

  -- a caller of a number leads to a node of a number where there is an edge
  pub led_as : (a b : ℕ) (x y : Node) → slice_get (nodes_of parts) a ≡ Some x → slice_get (nodes_of parts) b ≡ Some y → leads rows a b ≡ edge (types_of parts) x y
  led_as a b x y h k =
      ap (λ n. leads rows n b) (sym (of_method_at (types_of parts) a x h).number)
      ∙ ap (leads rows x.number) (sym (of_method_at (types_of parts) b y k).number)
      ∙ led_is_edge x y (member_at (nodes_of parts) a x h) (member_at (nodes_of parts) b y k)
