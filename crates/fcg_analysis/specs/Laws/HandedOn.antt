-- What hands a method on along a chain, for overriding and selection by one look at each class.
use Rattle.std.specs.Prelude.{List, [], ◌∷◌, Bool, false, not, ◌&&◌, ◌||◌, Option, Some, None, if◌then◌else◌}
use Rattle.fcg_analysis.specs.Declarations.{Placed, signature_of, is_type, is_instance, is_private, is_public, is_protected}
use Rattle.fcg_analysis.specs.Nodes.{Node, declared}
use Rattle.fcg_analysis.specs.Selection.{same_package}

-- the method, where there is one that passes
abbrev pub where_passes : (Node → Bool) → Option Node → Option Node
where_passes test None = None
where_passes test (Some m) = if test m then Some m else None

-- there is a method that passes
abbrev pub passes_at : (Node → Bool) → Option Node → Bool
passes_at test None = false
passes_at test (Some m) = test m

-- an instance method that isn't private
abbrev pub is_open : Node → Bool
is_open m = is_instance m.method && not (is_private m.method)

-- b, which has the name and descriptor of a, overrides a in its package, and is public or protected
abbrev pub is_handing : Node → Node → Bool
is_handing a b = is_open b && ((is_public b.method || is_protected b.method) && same_package b a)

-- t declares such a method
abbrev pub hands : List Placed → Node → Placed → Bool
hands types a t = passes_at (is_handing a) (declared types (signature_of a.method) t)

-- a type of the line stops, and before it one has what is asked; `known` says that already one before the line has
abbrev pub has_before : (Placed → Bool) → (Placed → Bool) → Bool → List Placed → Bool
has_before stops has known [] = false
has_before stops has known (t ∷ ts) = if stops t then known else has_before stops has (known || has t) ts

-- a is handed on before its own class in a line
abbrev pub handed_on : List Placed → Node → List Placed → Bool
handed_on types a line = has_before (is_type a.owner) (hands types a) false line

-- what overrides a package-private a in a chain, by whether a is handed on in it
abbrev pub overrides_alike : Bool → Node → Node → Bool
overrides_alike handed a m = is_open m && (same_package m a || handed)
