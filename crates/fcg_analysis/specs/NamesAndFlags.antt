-- Words on lists, names and flags (docs/analysis.md, Words).
--     same m n             two names have the same bytes
--     contains n ns        a name is one of the names
--     has bit flags        a flag is set
--     found_in f xs        the first thing that f finds, going along the list
--     or_else a b          a, or else b
--     one xs               the element of a list of exactly one
--     package_of n         what stands before the last `/` of a name, and nothing where it has none
use Rattle.std.specs.Prelude.{ℕ, List, [], ◌∷◌, Bool, not, ◌==◌, nat_eq, bit_and, Option, Some, None, cond}
use Rattle.std.specs.List.{list_any}
use Rattle.std.specs.Cmp.Lexicographic.{pointwise}

abbrev pub same : List ℕ → List ℕ → Bool
same m n = pointwise nat_eq m n

abbrev pub contains : List ℕ → List (List ℕ) → Bool
contains n ns = list_any (same n) ns

abbrev pub has : ℕ → ℕ → Bool
has bit flags = not (bit_and flags bit == 0)

abbrev pub or_else : {X : Type 0} → Option X → Option X → Option X
or_else None o = o
or_else (Some x) o = Some x

abbrev pub found_in : {X Y : Type 0} → (X → Option Y) → List X → Option Y
found_in f [] = None
found_in f (x ∷ xs) = or_else (f x) (found_in f xs)

abbrev pub first_of_list : {X : Type 0} → List X → Option X
first_of_list [] = None
first_of_list (x ∷ xs) = Some x

abbrev pub one : {X : Type 0} → List X → Option X
one [] = None
one (x ∷ []) = Some x
one (x ∷ y ∷ xs) = None

-- the elements before the first that passes
abbrev pub before : {X : Type 0} → (X → Bool) → List X → List X
before p [] = []
before p (x ∷ xs) = cond (p x) [] (x ∷ before p xs)

-- the bytes before the last `/`, where there is one
abbrev pub package_with : Option (List ℕ) → ℕ → List ℕ → Option (List ℕ)
package_with (Some p) b bs = Some (b ∷ p)
package_with None b bs = cond (b == 47) (Some []) None

abbrev pub before_last_slash : List ℕ → Option (List ℕ)
before_last_slash [] = None
before_last_slash (b ∷ bs) = package_with (before_last_slash bs) b bs

abbrev pub or_empty : Option (List ℕ) → List ℕ
or_empty None = []
or_empty (Some p) = p

-- a name without `/` has the empty package
abbrev pub package_of : List ℕ → List ℕ
package_of n = or_empty (before_last_slash n)
