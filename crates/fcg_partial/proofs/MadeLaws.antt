-- The tables that are made of the views, and what is written with them.
use Rattle.std.proofs.Common.{◌≡◌, ℕ, ◌^◌, ◌<◌, ◌≤◌, List, length, sym, ap, subst, ◌∙◌, arith}
use Rattle.std.specs.Prelude.{All, map}
use Rattle.std.specs.List.{flat_map}
use Rattle.std.proofs.lemmas.List.Elements.{recursion_from_All, All-from_recursion}
use Rattle.fcg_views.specs.declared.view.View.{View}
use Rattle.fcg_views.specs.Valid.{IsValid, name_count}
use Rattle.fcg_grammar.specs.Table.{Rises, table}
use Rattle.fcg_partial.specs.Graph.{FitsName, FitsRef, IsGraph}
use Rattle.fcg_partial.specs.Views.{ref_row, targets_of, names_of, refs_of, graph_of, text_of}
use Rattle.fcg_partial.specs.SmallNumbers.{IsSmallView}
use Rattle.fcg_partial.specs.Internal.Written.{AreTables, collected, view_rows, written}
use Rattle.fcg_grammar.proofs.TableLaws.{table_rises}
use Rattle.fcg_partial.proofs.SpelledViews.{rows_are, written_is}
use Rattle.fcg_partial.proofs.CollectedLaws.{collected_table}
use Rattle.fcg_partial.proofs.Counts.{few_names, few_refs, few_views}
use Rattle.fcg_partial.proofs.GraphOfViews.{names_fit, refs_fit, graph_is}

below : (a b : ℕ) → a ≤ b → b < 2 ^ 32 → a < 2 ^ 32
below a b le lt = omega arith

module _ (vs : List View) (valid : All IsValid vs) (fits : name_count vs < 2 ^ 32) (names : List (List ℕ)) (made : names ≡ table (collected vs)) where
  names_are : names ≡ names_of vs
  unfolding names_of
  names_are = made ∙ collected_table vs

  pub names_rise : Rises names
  names_rise = subst Rises (sym made) (table_rises (collected vs))

  pub names_few : length names < 2 ^ 32
  names_few = subst (λ (l : List (List ℕ)). length l < 2 ^ 32) (sym names_are) (below _ _ (few_names vs) fits)

  pub names_all : All FitsName names
  names_all = subst (All FitsName) (sym names_are) (All-from_recursion FitsName (names_of vs) (names_fit vs (recursion_from_All IsValid vs valid)))

  pub views_few : length vs < 2 ^ 32
  views_few = below _ _ (few_views vs) fits

  module _ (refs : List (List ℕ)) (rows : refs ≡ table (flat_map (view_rows names) vs)) where
    refs_are : refs ≡ refs_of (names_of vs) vs
    unfolding refs_of
    refs_are = rows ∙ ap table (rows_are names vs) ∙ ap (λ (l : List (List ℕ)). table (map (ref_row l) (targets_of vs))) names_are

    pub are_tables : AreTables names refs
    are_tables = record {
      names_rise = names_rise;
      few_names = names_few;
      refs_rise = subst Rises (sym rows) (table_rises (flat_map (view_rows names) vs));
      few_refs = subst (λ (l : List (List ℕ)). length l < 2 ^ 32) (sym refs_are) (below _ _ (few_refs (names_of vs) vs) fits);
    }

    pub refs_all : All FitsRef refs
    refs_all = subst (All FitsRef) (sym refs_are) (All-from_recursion FitsRef (refs_of (names_of vs) vs) (refs_fit vs (recursion_from_All IsValid vs valid)))

    pub text_is : written names refs vs ≡ text_of vs
    unfolding text_of graph_of
    text_is = ap (λ (n : List (List ℕ)). written n refs vs) names_are ∙ ap (λ (r : List (List ℕ)). written (names_of vs) r vs) refs_are ∙ written_is (names_of vs) (refs_of (names_of vs) vs) vs

    pub made_graph : All IsSmallView vs → IsGraph (graph_of vs)
    made_graph small = graph_is vs (recursion_from_All IsValid vs valid) (recursion_from_All IsSmallView vs small) fits
