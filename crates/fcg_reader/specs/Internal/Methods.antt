-- The methods of a class file as they are read.
use Rattle.std.specs.Prelude.{◌≡◌, ◌≤◌, ℕ, List, map, Bool, true, false, ◌&&◌, nat_eq, Option, Some, None}
use Rattle.std.specs.List.{list_any}
use Rattle.std.specs.Ordering.{nat_cmp, ordering_then}
use Rattle.std.specs.declared.cmp.Ordering.{Ordering}
use Rattle.std.specs.Cmp.Lexicographic.{pointwise}
use Rattle.std.specs.BTreeSet as tree
use Rattle.std.specs.BTreeSet.{BTreeSet}
use Rattle.fcg_views.specs.declared.view.Method.{Method}
use Rattle.fcg_views.specs.Valid.{site_count}
use Rattle.fcg_classfile.specs.Breaks.Pool.{Entries}
use Rattle.fcg_classfile.specs.Breaks.Members.{Calls, Unfinished}
use Rattle.fcg_reader.specs.declared.rows.MethodRow.{MethodRow}
use Rattle.fcg_reader.specs.Internal.Calls.{all_unfinished_in}
use Rattle.fcg_reader.specs.Internal.FirstIndexes.{Known, first_in, AreAsked}

-- the method has this name and descriptor
abbrev pub is_signature : List ℕ → List ℕ → Method → Bool
is_signature name desc m = pointwise nat_eq m.name name && pointwise nat_eq m.desc desc

-- the methods of a class file of this pool, each with its calls
pub record Table : Type 0 where
  pub pool : Entries
  pub methods : List Unfinished

abbrev pub table : Entries → List (MethodRow × Calls) → Table
table pool methods = record { pool = pool; methods = all_unfinished_in pool methods }

-- without their calls
abbrev pub methods_of : List Unfinished → List Method
methods_of methods = map (λ m. m.0) methods

-- the first indexes of a name and of a descriptor, and the order of these
abbrev pub Signature : Type 0
Signature = ℕ × ℕ

abbrev pub signature_cmp : Signature → Signature → Ordering
signature_cmp x y = ordering_then (nat_cmp x.0 y.0) (nat_cmp x.1 y.1)

-- the set has the indexes of two texts, which both have one
abbrev pub has_both : BTreeSet Signature → Option ℕ → Option ℕ → Bool
has_both signatures None j = false
has_both signatures (Some i) None = false
has_both signatures (Some i) (Some j) = tree.contains signature_cmp signatures (i, j)

-- the set has the names and descriptors of the methods, and no others
abbrev pub AreSignatures : Known → BTreeSet Signature → List Method → Type 0
AreSignatures known signatures methods =
    (name desc : List ℕ) → has_both signatures (first_in known name) (first_in known desc) ≡ list_any (is_signature name desc) methods

-- two indexes are those of texts
pub record AreOfTexts (known : Known) (i j : ℕ) : Type 0 where
  pub name : List ℕ
  pub desc : List ℕ
  pub first_name : first_in known name ≡ Some i
  pub first_desc : first_in known desc ≡ Some j

-- each signature of the set is one of texts
abbrev pub AllOfTexts : Known → BTreeSet Signature → Type 0
AllOfTexts known signatures = (i j : ℕ) → tree.contains signature_cmp signatures (i, j) ≡ true → AreOfTexts known i j

pub record IsTable (methods : List Unfinished) (pool : Entries) (known : Known) (firsts : List ℕ) (signatures : BTreeSet Signature) (sites : ℕ) : Type 0 where
  pub asked : AreAsked pool known firsts
  pub signatures_are : AreSignatures known signatures (methods_of methods)
  pub of_texts : AllOfTexts known signatures
  pub counted : sites ≡ site_count (methods_of methods)
  pub few : sites ≤ 1000000
