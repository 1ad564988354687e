-- Superinterface methods by the names of the interfaces that declare them.
use Rattle.std.specs.Prelude.{◌≡◌, ℕ, ◌≤◌, List, Bool, true, false, not, ◌||◌, Option, Some, None, Contains, filter, nat_lt, if◌then◌else◌}
use Rattle.std.specs.List.{list_any}
use Rattle.fcg_partial.specs.Parts.{PartShown}
use Rattle.fcg_analysis.specs.Declarations.{Placed, Signature, is_named, is_abstract}
use Rattle.fcg_analysis.specs.Types.{above}
use Rattle.fcg_analysis.specs.Nodes.{Node, specific}
use Rattle.fcg_join.specs.declared.id.MethodId.{MethodId}
use Rattle.fcg_join.specs.Names.{text_at}
use Rattle.fcg_join.specs.TypeTables.{mentions_at}
use Rattle.fcg_join.specs.Parts.{types_of}
use Rattle.fcg_join.specs.Joined.{HasNode}
use Rattle.fcg_join.specs.SetNames.{set_names}

-- t or a type above it has the number among its own
abbrev pub IsMentioned : List PartShown → Placed → ℕ → Type 0
IsMentioned parts t n = (mentions_at (set_names parts) (types_of parts) n t || list_any (mentions_at (set_names parts) (types_of parts) n) (above (types_of parts) t)) ≡ true

-- the owner of m has the name of the number, or that of one of these
abbrev pub is_of : List PartShown → ℕ → Node → Bool
is_of parts n m = is_named (text_at (set_names parts) n) m.owner

abbrev pub is_of_any : List PartShown → List ℕ → Node → Bool
is_of_any parts ns m = list_any (λ n. is_of parts n m) ns

-- what is found: the only one of these methods that passes, and none where none does
abbrev pub IsOnly : List PartShown → List Node → (Node → Bool) → Option MethodId → Type 0
IsOnly parts ms p None = (o : Node) → Contains ms o → p o ≡ false
IsOnly parts ms p (Some id) = (m : Node) × HasNode parts id m × Contains ms m × (p m ≡ true) × ((o : Node) → Contains ms o → p o ≡ true → o ≡ m)

-- the first of those that pass
abbrev pub IsLeast : List PartShown → List Node → (Node → Bool) → Option MethodId → Type 0
IsLeast parts ms p None = (o : Node) → Contains ms o → p o ≡ false
IsLeast parts ms p (Some id) = (m : Node) × HasNode parts id m × Contains ms m × (p m ≡ true) × ((o : Node) → Contains ms o → p o ≡ true → m.number ≤ o.number)

abbrev pub first_of : Option MethodId → Option MethodId → Option MethodId
first_of None b = b
first_of (Some a) None = Some a
first_of (Some a) (Some b) = if nat_lt b.0 a.0 then Some b else Some a

-- the maximally-specific superinterface methods that aren't abstract
abbrev pub defaults : List Placed → Placed → Signature → List Node
defaults types t s = filter (λ m. not (is_abstract m.method)) (specific types t s)
