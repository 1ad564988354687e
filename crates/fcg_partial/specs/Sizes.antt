-- How much a stored graph has.
use Rattle.std.specs.Prelude.{ℕ, ◌≤◌, List, length, sum_by}
use Rattle.fcg_views.specs.declared.view.View.{View}
use Rattle.fcg_views.specs.Valid.{sites_of_all, name_count}
use Rattle.fcg_partial.specs.Views.{graph_of}

-- The graph of these views has at most n of each: names and references, each once, types, methods, sites, and names each
-- as often as it stands in the views.
pub record HasAtMost (n : ℕ) (views : List View) : Type 0 where
  pub names : length (graph_of views).names ≤ n
  pub refs : length (graph_of views).refs ≤ n
  pub types : length (graph_of views).types ≤ n
  pub methods : sum_by (λ v. length v.methods) views ≤ n
  pub sites : sites_of_all views ≤ n
  pub mentions : name_count views ≤ n
