-- What the known types of some parts have from the types above them.
use Rattle.std.specs.Prelude.{List, length}
use Rattle.fcg_partial.specs.Parts.{PartShown}
use Rattle.fcg_join.specs.declared.inherited.InheritedTables.{InheritedTables}
use Rattle.fcg_join.specs.Parts.{types_of}
use Rattle.fcg_join.specs.SetNames.{set_names}
use Rattle.fcg_join.specs.Internal.Gaps.{AreGaps}
use Rattle.fcg_join.specs.Internal.Mentions.{AreMentions, AreTurnedRows}
use Rattle.fcg_join.specs.Internal.Below.{AreTypePlaces}

pub record AreInherited (parts : List PartShown) (t : InheritedTables) : Type 0 where
  pub gaps' : AreGaps (types_of parts) t.gaps.items
  pub mentions' : AreMentions (set_names parts) (types_of parts) t.mentions
  pub mentioned' : AreTurnedRows t.mentions (length (set_names parts)) t.mentioned
  pub places' : AreTypePlaces (types_of parts) t.places
