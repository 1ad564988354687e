-- Which sets are stitched, why others are refused, and how many sites call.
use Rattle.std.specs.Prelude.{◌≡◌, ℕ, ◌<◌, ◌≤◌, ◌^◌, ◌-◌, List, Bool, true, false, length, filter, flat_map, min, ⊤}
use Rattle.fcg_views.specs.declared.view.Site.{Site}
use Rattle.fcg_partial.specs.Parts.{PartShown, encoded_len}
use Rattle.fcg_analysis.specs.Declarations.{Placed}
use Rattle.fcg_analysis.specs.Nodes.{Node, nodes}
use Rattle.fcg_analysis.specs.Edges.{Call, VirtualCall, InterfaceCall, SpecialCall, StaticCall, NoCall, call_of, edges}
use Rattle.fcg_join.specs.Parts.{types_of}
use Rattle.fcg_stitch.specs.declared.refusal.StitchRefusal.{StitchRefusal}
use Rattle.fcg_stitch.specs.declared.refusal.StitchRefusal.TheVariants as refusals

-- the graphs have at most so many bytes, and the call graph at most so many edges
pub record IsStitchable (parts : List PartShown) : Type 0 where
  pub bytes : encoded_len parts ≤ 268435456
  pub edges : length (edges (types_of parts)) ≤ 32000000

-- why a set is refused
abbrev pub Refuses : List PartShown → StitchRefusal → Type 0
Refuses parts (refusals.SetTooLarge n) = (268435456 < encoded_len parts) × (n ≡ min (encoded_len parts) (2 ^ 64 - 1))
Refuses parts refusals.GraphTooLarge = (encoded_len parts ≤ 268435456) × (32000000 < length (edges (types_of parts)))
Refuses parts refusals.NoMemory = ⊤

-- whether a site calls
abbrev pub is_call : Call → Bool
is_call VirtualCall = true
is_call InterfaceCall = true
is_call SpecialCall = true
is_call StaticCall = true
is_call NoCall = false

abbrev pub calls : Site → Bool
calls site = is_call (call_of site.kind)

-- how many sites of some nodes call
abbrev pub calls_of : List Node → ℕ
calls_of ms = length (filter calls (flat_map (λ m. m.method.sites) ms))

abbrev pub call_sites : List Placed → ℕ
call_sites types = calls_of (nodes types)
