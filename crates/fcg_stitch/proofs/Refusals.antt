-- Why a set is refused.
use Rattle.std.proofs.Common.{◌≡◌, ℕ, ◌-◌, ◌^◌, ◌<◌, ◌≤◌, List, length, min, sym, ap, subst, ◌∙◌, inl, inr, arith}
use Rattle.std.specs.Prelude.{◌⊎◌, Bool, false, IsTrue}
use Rattle.fcg_partial.specs.Parts.{PartShown, encoded_len}
use Rattle.fcg_analysis.specs.Edges.{edges}
use Rattle.fcg_join.specs.Parts.{types_of}
use Rattle.fcg_stitch.specs.Limits.{Refuses}
use Rattle.fcg_stitch.specs.declared.refusal.StitchRefusal.{StitchRefusal}
use Rattle.fcg_stitch.specs.declared.refusal.StitchRefusal.TheVariants as refusals

-- its graphs are small enough
pub refuses : (parts joined : List PartShown) → joined ≡ parts → encoded_len parts ≤ 268435456 → (e : StitchRefusal)
    → (e ≡ refusals.NoMemory) ⊎ ((e ≡ refusals.GraphTooLarge) × (32000000 < length (edges (types_of joined)))) → Refuses parts e
refuses parts joined f l e (inl q) = subst (Refuses parts) (sym q) tt
refuses parts joined f l e (inr q) = subst (Refuses parts) (sym q.0) (l, subst (λ (ps : List PartShown). 32000000 < length (edges (types_of ps))) f q.1)

-- its graphs are too large
pub too_large : (parts read : List PartShown) → read ≡ parts → (fits : Bool) → fits ≡ false → (encoded_len parts ≤ 268435456 → IsTrue fits) → (n : ℕ) → n ≡ min (encoded_len read) (2 ^ 64 - 1) → Refuses parts (refusals.SetTooLarge n)
too_large parts read e fits f h n k = (
  (let no : encoded_len parts ≤ 268435456 → ⊥ = (λ l. (let t : IsTrue fits = h l in cc)) in omega arith),
  k ∙ ap (λ (ps : List PartShown). min (encoded_len ps) (2 ^ 64 - 1)) e,
)
