use Rattle.std.proofs.Common.{◌<◌, ℕ, List, sym, subst}
use Rattle.std.specs.Prelude.{slice_index}
use Rattle.fcg_json.proofs.Ascii.{coordinate_ascii}
use Rattle.fcg_json.proofs.row.text_of.Goals as goal

pub ascii_str-requires : goal.ascii_str-requires
ascii_str-requires c = subst (λ (t : List ℕ). (i : ℕ) → slice_index t i < 128) (sym c.text.ensures.bytes) (coordinate_ascii _ c.text.ensures.is)
