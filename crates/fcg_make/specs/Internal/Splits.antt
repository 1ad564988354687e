-- The first instruction of some sites.
use Rattle.std.specs.Prelude.{◌≡◌, ◌<◌, List, [], ◌∷◌, length, Option, Some, None}
use Rattle.std.specs.Borrow.{Bor}
use Rattle.fcg_views.specs.declared.view.Site.{Site}
use Rattle.fcg_make.specs.Steps.{Step, steps_of}

-- it, and the sites after it, which are fewer
abbrev pub Splits : List Site → Option (Step × Bor (List Site)) → Type 0
Splits sites None = sites ≡ []
Splits sites (Some (step, rest)) = (steps_of sites ≡ step ∷ steps_of rest.now) × (length rest.now < length sites)
