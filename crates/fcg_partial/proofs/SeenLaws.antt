-- What was read, where a part of the state is seen.
use Rattle.std.proofs.Common.{◌≡◌, ℕ, refl, ap, ◌∙◌}
use Rattle.std.specs.Prelude.{Result, Ok, Err}
use Rattle.fcg_grammar.specs.declared.error.ReadError.{ReadError}
use Rattle.fcg_grammar.specs.declared.error.ReadError.TheVariants as errors
use Rattle.fcg_grammar.specs.Reading.{Fails, seen}
use Rattle.fcg_partial.specs.declared.fault.RecordFault.{RecordFault}
use Rattle.fcg_partial.specs.Internal.UsedNumbers.{earlier}
use Rattle.fcg_partial.specs.Reading.{Earlier}

pub seen_fails : {X Y : Type 0} (e : ReadError RecordFault) (view : X → Y) (r : Result X RecordFault) → Fails e r → Fails e (seen view r)
seen_fails errors.NoMemory view r h = tt
seen_fails (errors.Fault f) view r h = ap (seen view) h

pub seen_ok : {X Y : Type 0} (view : X → Y) (r : Result X RecordFault) (y : Y) → seen view r ≡ Ok y → (x : X) × (r ≡ Ok x) × (view x ≡ y)
seen_ok view (Ok x) y e = (x, refl, (let same : view x ≡ y = cc in same))
seen_ok view (Err f) y e = absurd cc

pub seen_err : {X Y : Type 0} (view : X → Y) (r : Result X RecordFault) (f : RecordFault) → seen view r ≡ Err f → r ≡ Err f
seen_err view (Ok x) f e = absurd cc
seen_err view (Err d) f e = let same : d ≡ f = cc in ap (λ (g : RecordFault). Err g) same

pub next_is : (s : Earlier) (at sites : ℕ) → s.at ≡ at → s.sites ≡ sites → s ≡ earlier at s.keys sites
next_is s at sites p q = ap (λ (n : ℕ). earlier n s.keys s.sites) p ∙ ap (λ (n : ℕ). earlier at s.keys n) q
