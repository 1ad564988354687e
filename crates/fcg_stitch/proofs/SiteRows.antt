-- What a site adds to the row of its caller, and to the statuses.
use Rattle.std.proofs.Common.{◌≡◌, ℕ, List, [], ◌∷◌, ◌++◌, ap, ◌∙◌}
use Rattle.std.specs.Prelude.{Bool, ◌||◌, map}
use Rattle.std.proofs.lemmas.List.{map-append}
use Rattle.fcg_analysis.specs.Edges as rules
use Rattle.fcg_edges.specs.Rows.{Rows, has}
use Rattle.fcg_stitch.specs.Status.{status_shown}
use Rattle.fcg_stitch.specs.declared.status.SiteStatus.{SiteStatus}
use Rattle.fcg_stitch.specs.declared.states.Targets.{Targets}
use Rattle.fcg_stitch.specs.Internal.Rows.{AreTargets, targets_have, HaveMoreLists, row_has, IsRowWithin}
use Rattle.fcg_stitch.proofs.MoreLists.{more_row}

pub site_adds : (n : ℕ) (r s : Rows) (ts us more_ts more_us : List ℕ) (t : Targets) (ks : List ℕ) → HaveMoreLists r s → IsRowWithin r ts us
    → ((lists : List (List ℕ)) (b : ℕ) → row_has lists more_ts more_us b ≡ (row_has lists ts us b || targets_have lists t b))
    → AreTargets n s.lists t ks → (b : ℕ) → row_has s.lists more_ts more_us b ≡ (row_has r.lists ts us b || has ks b)
site_adds n r s ts us more_ts more_us t ks h w push a b =
    push s.lists b
    ∙ ap (λ (x : Bool). x || targets_have s.lists t b) (more_row r s ts us h w b)
    ∙ ap (λ (x : Bool). row_has r.lists ts us b || x) (a.each b)

pub status_adds : (ss ts : List SiteStatus) (x : SiteStatus) (s : rules.Status) → ts ≡ ss ++ x ∷ [] → status_shown x ≡ s → map status_shown ts ≡ map status_shown ss ++ s ∷ []
status_adds ss ts x s e f = ap (map status_shown) e ∙ map-append status_shown ss (x ∷ []) ∙ ap (λ q. map status_shown ss ++ q ∷ []) f
