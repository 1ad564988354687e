-- Items that are written one after the other.
use Rattle.std.proofs.Common.{◌≡◌, ℕ, ◌+◌, ◌<◌, List, [], ◌∷◌, ◌++◌, length, get_or, take, sym, ap, subst, ◌∙◌, append_assoc}
use Rattle.std.specs.Prelude.{All}
use Rattle.std.specs.List.{flat_map}
use Rattle.std.proofs.lemmas.List.{take_more}
use Rattle.std.proofs.lemmas.List.Elements.{All-push}
use Rattle.fcg_partial.proofs.MarkRows.{flat_push}

module _ {X : Type 0} (xs : List X) (i : ℕ) (x : X) (lt : i < length xs) (is : x ≡ get_or xs i x) where
  more : take (i + 1) xs ≡ take i xs ++ x ∷ []
  more = take_more xs i x lt ∙ ap (λ (y : X). take i xs ++ y ∷ []) (sym is)

  pub text_more : (f : X → List ℕ) (old now new : List ℕ) → now ≡ old ++ flat_map f (take i xs) → new ≡ now ++ f x → new ≡ old ++ flat_map f (take (i + 1) xs)
  text_more f old now new so_far here =
      here ∙ ap (λ (l : List ℕ). l ++ f x) so_far ∙ append_assoc old (flat_map f (take i xs)) (f x)
      ∙ ap (λ (l : List ℕ). old ++ l) (sym (flat_push f (take i xs) x) ∙ ap (flat_map f) (sym more))

  pub all_more : (P : X → Type 0) → All P (take i xs) → P x → All P (take (i + 1) xs)
  all_more P so_far here = subst (All P) (sym more) (All-push P (take i xs) x so_far here)
