-- Which rule a reference meets.
use Rattle.std.proofs.Common.{◌≡◌, ℕ, List, sym, ap, subst, ◌∙◌}
use Rattle.std.specs.Prelude.{true, false, cond}
use Rattle.fcg_views.specs.declared.view.Ref.{Ref}
use Rattle.fcg_partial.specs.Parts.{PartShown}
use Rattle.fcg_analysis.specs.Declarations.{Placed, begins_with_bracket, has_array_owner}
use Rattle.fcg_analysis.specs.Types.{type_named}
use Rattle.fcg_analysis.specs.Resolution.{resolved, method_of_array, method_of_owner}
use Rattle.fcg_analysis.proofs.ResolvedLaws.{of_owner}
use Rattle.fcg_join.specs.declared.outcome.Outcome.{Outcome}
use Rattle.fcg_join.specs.Parts.{types_of}
use Rattle.fcg_join.specs.Outcomes.{GivesOutcome}

array_is : (types : List Placed) (r : Ref) → has_array_owner r ≡ true → resolved types r ≡ method_of_array types r
unfolding resolved
array_is types r e = ap (λ b. cond b (method_of_array types r) (method_of_owner types r (type_named types r.owner))) e

-- n is the owner of r
module _ (parts : List PartShown) (r : Ref) (n : List ℕ) (s : n ≡ r.owner) (out : Outcome) where
  pub of_array : begins_with_bracket n ≡ true → GivesOutcome parts out (method_of_array (types_of parts) r) → GivesOutcome parts out (resolved (types_of parts) r)
  of_array e g = subst (λ v. GivesOutcome parts out v) (sym (array_is (types_of parts) r (ap begins_with_bracket (sym s) ∙ e))) g

  pub of_other : begins_with_bracket n ≡ false → GivesOutcome parts out (method_of_owner (types_of parts) r (type_named (types_of parts) n)) → GivesOutcome parts out (resolved (types_of parts) r)
  of_other e g =
      subst (λ v. GivesOutcome parts out v)
      (sym (of_owner (types_of parts) r (type_named (types_of parts) n) (ap begins_with_bracket (sym s) ∙ e) (ap (type_named (types_of parts)) (sym s)))) g
