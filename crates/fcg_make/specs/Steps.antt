-- The instructions of a method that is written: each site has one, but handle sites of one place that follow one another
-- have one together.
use Rattle.std.specs.Prelude.{ℕ, ◌+◌, List, [], ◌∷◌, length, Bool, true, false, ◌&&◌, ◌==◌, if◌then◌else◌}
use Rattle.fcg_views.specs.declared.view.Site.{Site}
use Rattle.fcg_views.specs.declared.view.SiteKind.{SiteKind}
use Rattle.fcg_views.specs.declared.view.SiteKind.TheVariants.{Virtual, Interface, Special, Static, New, StaticField, Handle}
use Rattle.fcg_views.specs.declared.view.Method.{Method}

-- an instruction: its site; of an `invokedynamic` the first of its handle sites, and the others
pub record Step : Type 0 where
  pub first : Site
  pub more : List Site

abbrev pub is_handle : SiteKind → Bool
is_handle Virtual = false
is_handle Interface = false
is_handle Special = false
is_handle Static = false
is_handle New = false
is_handle StaticField = false
is_handle (Handle kind) = true

-- both are handle sites of one place
abbrev pub is_joined : Site → Site → Bool
is_joined s t = is_handle s.kind && (is_handle t.kind && s.pc == t.pc)

abbrev pub alone : Site → Step
alone s = record { first = s; more = [] }

abbrev pub with_first : Site → Step → Step
with_first s t = record { first = s; more = t.first ∷ t.more }

-- a site before instructions
abbrev pub before : Site → List Step → List Step
before s [] = alone s ∷ []
before s (t ∷ ts) = if is_joined s t.first then with_first s t ∷ ts else alone s ∷ t ∷ ts

abbrev pub steps_of : List Site → List Step
steps_of [] = []
steps_of (s ∷ ss) = before s (steps_of ss)

-- an `invokedynamic`, which has a row of bootstrap methods
abbrev pub is_call : Step → Bool
is_call t = is_handle t.first.kind

abbrev pub row_count : Step → ℕ
row_count t = if is_call t then 1 else 0

abbrev pub calls : List Step → List Step
calls [] = []
calls (t ∷ ts) = if is_call t then t ∷ calls ts else calls ts

abbrev pub method_rows : Method → ℕ
method_rows m = length (calls (steps_of m.sites))

-- each with the number of its first row, from a number on
abbrev pub numbered : {X : Type 0} → (X → ℕ) → ℕ → List X → List (ℕ × X)
numbered count row [] = []
numbered count row (x ∷ xs) = (row, x) ∷ numbered count (row + count x) xs

-- the bytes of an instruction
abbrev pub size_of : SiteKind → ℕ
size_of Interface = 5
size_of (Handle kind) = 5
size_of kind = 3

-- how many of the sites after a site are joined to it, one after the other
abbrev pub joined_after : Site → List Site → ℕ
joined_after s [] = 0
joined_after s (t ∷ ts) = if is_joined s t then joined_after s ts + 1 else 0
