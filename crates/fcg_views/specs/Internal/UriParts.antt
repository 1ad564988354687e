-- The parts of a URI after its coordinate.
use Rattle.std.specs.Prelude.{ℕ, List, Result, Ok}
use Rattle.fcg_grammar.specs.Reading.{◌>>=◌, unless_broken}
use Rattle.fcg_views.specs.declared.escaping.Place.TheVariants.{Desc}
use Rattle.fcg_views.specs.declared.uri.Member.{Member}
use Rattle.fcg_views.specs.declared.uri.MethodUri.{MethodUri}
use Rattle.fcg_views.specs.declared.uri.UriFault.{UriFault}
use Rattle.fcg_views.specs.declared.uri.UriRule.TheVariants as rules
use Rattle.fcg_views.specs.DescriptorSteps.{is_descriptor}
use Rattle.fcg_views.specs.Escape.{unescaped}
use Rattle.fcg_views.specs.Uri.{at_escape, fault}

-- the descriptor that a text at a place is escaped from
abbrev pub desc_at : ℕ → List ℕ → Result (List ℕ) UriFault
desc_at at text = do
  desc ← at_escape (unescaped Desc at text)
  described ← unless_broken (is_descriptor desc) (fault at rules.Descriptor)
  Ok desc

-- the method that is named so in a release
abbrev pub method_with : List ℕ → Member → MethodUri
method_with coordinate m = record { coordinate = coordinate; class = m.class; name = m.name; desc = m.desc }
