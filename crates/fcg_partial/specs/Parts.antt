-- How contracts see the releases of a set: each with its coordinate and the views of its graph.
use Rattle.std.specs.Prelude.{ℕ, ◌+◌, List, [], ◌∷◌, length}
use Rattle.fcg_views.specs.declared.view.View.{View}
use Rattle.fcg_partial.specs.Views.{text_of}

pub record PartShown : Type 0 where
  pub coordinate : List ℕ
  pub views : List View

-- how many bytes spell the graphs (std's sum is a fold from the left: a recursion of its own goes on part by part)
unfoldable pub encoded_len : List PartShown → ℕ
encoded_len [] = 0
encoded_len (p ∷ ps) = length (text_of p.views) + encoded_len ps
