-- Superinterface methods and the one default, by the numbers of nodes.
use Rattle.std.proofs.Common.{◌≡◌, ℕ, List, [], ◌∷◌, refl, sym, ap, subst, ◌∙◌, inl, inr}
use Rattle.std.specs.Prelude.{Bool, true, false, cond, not, ◌&&◌, ◌||◌, Option, Some, None, option_map, filter, find, Contains}
use Rattle.std.specs.List.{list_any}
use Rattle.fcg_analysis.specs.NamesAndFlags.{first_of_list, one}
use Rattle.fcg_analysis.specs.Declarations.{Placed, Signature, has_signature, is_interface, is_private, is_static, is_abstract}
use Rattle.fcg_analysis.specs.Types.{is_above}
use Rattle.fcg_analysis.specs.Nodes.{Node, nodes, declared, super_methods, specific, one_default, first_super_method}
use Rattle.fcg_join.specs.NodeTables.{HasNodeAt, IsNumberOf, numbers_of, declarers}
use Rattle.fcg_analysis.proofs.General.Members.{IsIn, Contains-from_IsIn, in_filter}
use Rattle.fcg_analysis.proofs.General.Numbered.{first_passing, first_map, one_map}
use Rattle.fcg_analysis.proofs.NodePlaces.{number_is_place}
use Rattle.fcg_analysis.proofs.NodeMembers.{declared_is}
use Rattle.fcg_analysis.proofs.SuperMethods.{super_in, specifics, default_of, default_in, specific_in, first_in}
use Rattle.fcg_analysis.proofs.TableLaws.{numbers_kept}

-- ---- a number of a node that was found

number_of : (types : List Placed) (found : Option ℕ) (o : Option Node) → ((m : Node) → o ≡ Some m → IsIn m (nodes types)) → option_map (λ m. m.number) o ≡ found → IsNumberOf types found o
number_of types None None h e = tt
number_of types (Some k) None h e = absurd (cc)
number_of types None (Some m) h e = absurd (cc)
number_of types (Some k) (Some m) h e =
    let n : m.number ≡ k = cc in
    subst (λ j. HasNodeAt types j m) n (number_is_place types m (Contains-from_IsIn _ m (h m refl)))

pub declared_has_number : (types : List Placed) (s : Signature) (t : Placed) (found : Option ℕ) → option_map (λ m. m.number) (declared types s t) ≡ found → IsNumberOf types found (declared types s t)
declared_has_number types s t found e = number_of types found (declared types s t) (λ m q. (declared_is types t s m q).0) e

pub default_has_number : (types : List Placed) (t : Placed) (s : Signature) (found : Option ℕ) → option_map (λ m. m.number) (one_default types t s) ≡ found → IsNumberOf types found (one_default types t s)
default_has_number types t s found e = number_of types found (one_default types t s) (λ m q. (super_in types t s m (default_in types t s m q).0).0) e

pub first_has_number : (types : List Placed) (t : Placed) (s : Signature) (found : Option ℕ) → option_map (λ m. m.number) (first_super_method types t s) ≡ found → IsNumberOf types found (first_super_method types t s)
first_has_number types t s found e = number_of types found (first_super_method types t s) (λ m q. (super_in types t s m (first_in types t s m q)).0) e

-- ---- superinterface methods

-- two filters are one after the other
filter_both : {X : Type 0} (p q : X → Bool) (xs : List X) → filter (λ x. p x && q x) xs ≡ filter q (filter p xs)
filter_both p q [] = refl
filter_both {X} p q (x ∷ xs) = at (p x) (filter_both p q xs)
  where
    at : (b : Bool) → filter (λ x. p x && q x) xs ≡ filter q (filter p xs)
        → cond (b && q x) (x ∷ filter (λ x. p x && q x) xs) (filter (λ x. p x && q x) xs) ≡ filter q (cond b (x ∷ filter p xs) (filter p xs))
    at true r = ap (λ ys. cond (q x) (x ∷ ys) ys) r
    at false r = r

abbrev sound : List Placed → Placed → Node → Bool
sound types t m = not (is_private m.method || is_static m.method) && (is_interface m.owner && is_above types t m.owner)

supers_are : (types : List Placed) (t : Placed) (s : Signature) → super_methods types t s ≡ filter (sound types t) (filter (λ m. has_signature s m.method) (nodes types))
unfolding super_methods
supers_are types t s =
    (λ i. filter (λ m. joined (has_signature s m.method) (not (is_private m.method || is_static m.method)) (is_interface m.owner) (is_above types t m.owner) i) (nodes types))
    ∙ filter_both (λ m. has_signature s m.method) (sound types t) (nodes types)
  where
    joined : (a b c d : Bool) → (((a && b) && c) && d) ≡ (a && (b && (c && d)))
    joined true true c d = refl
    joined true false c d = refl
    joined false b c d = refl

module _ (types : List Placed) (t : Placed) (s : Signature) where
  pub super_numbers : (passes : ℕ → Bool)
      → ((k : ℕ) (m : Node) → HasNodeAt types k m → has_signature s m.method ≡ true → passes k ≡ (not (is_private m.method || is_static m.method) && (is_interface m.owner && is_above types t m.owner)))
      → numbers_of (super_methods types t s) ≡ filter passes (declarers types s)
  super_numbers passes h =
      ap numbers_of (supers_are types t s)
      ∙ sym (numbers_kept (sound types t) passes (filter (λ m. has_signature s m.method) (nodes types))
      (λ m i. (let r = in_filter (λ m. has_signature s m.method) (nodes types) m i in h m.number m (number_is_place types m (Contains-from_IsIn _ m r.0)) r.1)))

  -- a superinterface method stands at its number
  super_at : (m : Node) → IsIn m (super_methods types t s) → HasNodeAt types m.number m
  super_at m i = number_is_place types m (Contains-from_IsIn _ m (super_in types t s m i).0)

  pub first_number : option_map (λ m. m.number) (first_super_method types t s) ≡ first_of_list (numbers_of (super_methods types t s))
  unfolding first_super_method
  first_number = first_map (λ m. m.number) (super_methods types t s)

  pub first_number_found : (passes : ℕ → Bool)
      → ((k : ℕ) (m : Node) → HasNodeAt types k m → has_signature s m.method ≡ true → passes k ≡ (not (is_private m.method || is_static m.method) && (is_interface m.owner && is_above types t m.owner)))
      → option_map (λ m. m.number) (first_super_method types t s) ≡ find passes (declarers types s)
  first_number_found passes h = first_number ∙ ap first_of_list (super_numbers passes h) ∙ first_passing passes (declarers types s)

  any_number_below : (f : Node → Bool) (g : ℕ → Bool) (ms : List Node) → ((m : Node) → IsIn m ms → g m.number ≡ f m) → list_any g (numbers_of ms) ≡ list_any f ms
  any_number_below f g [] h = refl
  any_number_below f g (m ∷ ms) h =
      ap (λ b. b || list_any g (numbers_of ms)) (h m (inl refl)) ∙ ap (λ b. f m || b) (any_number_below f g ms (λ n i. h n (inr i)))

  module _ (below : ℕ → ℕ → Bool) (agrees : (j k : ℕ) (o m : Node) → HasNodeAt types j o → HasNodeAt types k m → Contains (super_methods types t s) o → Contains (super_methods types t s) m → below j k ≡ is_above types o.owner m.owner) where
    pub specific_numbers : numbers_of (specific types t s) ≡ filter (λ k. not (list_any (λ j. below j k) (numbers_of (super_methods types t s)))) (numbers_of (super_methods types t s))
    specific_numbers =
        ap numbers_of (specifics types t s)
        ∙ sym (numbers_kept (λ m. not (list_any (λ o. is_above types o.owner m.owner) (super_methods types t s))) (λ k. not (list_any (λ j. below j k) (numbers_of (super_methods types t s)))) (super_methods types t s)
        (λ m i. ap not (any_number_below (λ o. is_above types o.owner m.owner) (λ j. below j m.number) (super_methods types t s)
        (λ o j. agrees o.number m.number o m (super_at o j) (super_at m i) (Contains-from_IsIn _ o j) (Contains-from_IsIn _ m i)))))

    pub default_number : (abstract' : ℕ → Bool) → ((k : ℕ) (m : Node) → HasNodeAt types k m → abstract' k ≡ is_abstract m.method)
        → option_map (λ m. m.number) (one_default types t s)
        ≡ one (filter (λ k. not (abstract' k)) (filter (λ k. not (list_any (λ j. below j k) (numbers_of (super_methods types t s)))) (numbers_of (super_methods types t s))))
    default_number abstract' h =
        ap (option_map (λ m. m.number)) (default_of types t s ∙ ap (λ ms. one (filter (λ m. not (is_abstract m.method)) ms)) (sym (specifics types t s)))
        ∙ one_map (λ m. m.number) (filter (λ m. not (is_abstract m.method)) (specific types t s))
        ∙ ap one (sym (numbers_kept (λ m. not (is_abstract m.method)) (λ k. not (abstract' k)) (specific types t s)
        (λ m i. ap not (h m.number m (super_at m (specific_in types t s m i).0)))))
        ∙ ap (λ ks. one (filter (λ k. not (abstract' k)) ks)) specific_numbers
