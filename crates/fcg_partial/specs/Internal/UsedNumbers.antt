-- Which numbers were used: a mark for each. What the readers answer that keep no values, but mark the numbers.
use Rattle.std.specs.Prelude.{◌≡◌, ℕ, ◌+◌, Bool, true, List, [], ◌∷◌, ◌++◌, length, nat_eq, Option, Some, None, Result, Ok, Err, if◌then◌else◌, slice_set}
use Rattle.std.specs.List.{flat_map, list_any, AllZip}
use Rattle.std.specs.Cmp.Lexicographic.{pointwise}
use Rattle.std.specs.Ordering.{nat_cmp, ordering_then}
use Rattle.std.specs.declared.cmp.Ordering.{Ordering}
use Rattle.std.specs.BTreeSet as tree
use Rattle.std.specs.BTreeSet.{BTreeSet}
use Rattle.fcg_grammar.specs.declared.error.ReadError.{ReadError}
use Rattle.fcg_grammar.specs.Reading.{Fails, seen}
use Rattle.fcg_grammar.specs.Rows.{rows}
use Rattle.fcg_partial.specs.declared.fault.RecordFault.{RecordFault}
use Rattle.fcg_partial.specs.declared.types.Places.{Places}
use Rattle.fcg_partial.specs.Graph.{StoredMethod, StoredType, ref_uses, field_uses, method_uses, method_targets, type_uses, type_targets}
use Rattle.fcg_partial.specs.Reading.{TablePlace, Earlier, ref_at, super_at, field_at, interface_at, site_at, method_at, type_at}
use Rattle.fcg_partial.specs.Graph.{StoredSite, StoredField}

-- the marks after these numbers were used
unfoldable pub marked : List Bool → List ℕ → List Bool
marked marks [] = marks
marked marks (k ∷ ks) = marked (slice_set marks k true) ks

-- the first that isn't marked, from number k on
abbrev pub first_unmarked : List Bool → ℕ → Option ℕ
first_unmarked [] k = None
first_unmarked (m ∷ marks) k = if m then first_unmarked marks (k + 1) else Some k

-- a number that was read is marked
abbrev pub marks_after : List Bool → Result ℕ RecordFault → List Bool
marks_after marks (Ok k) = slice_set marks k true
marks_after marks (Err f) = marks

-- Reading gives a value that ends at a place, and its numbers are marked.
pub record Marked {X : Type 0} (uses : X → List ℕ) (read : Result (X × ℕ) RecordFault) (old : List Bool) (after : ℕ) (new : List Bool) : Type 0 where
  pub value : X
  pub read_is : read ≡ Ok (value, after)
  pub marks : new ≡ marked old (uses value)

-- that, or the first fault
abbrev pub Passes : {X : Type 0} → (X → List ℕ) → Result (X × ℕ) RecordFault → List Bool → List Bool → Result ℕ RecordFault → Type 0
Passes uses read old new (Ok after) = Marked uses read old after new
Passes uses read old new (Err f) = read ≡ Err f

-- ---- rows
-- the references, and the place after them
abbrev pub refs_read : List ℕ → ℕ → ℕ → TablePlace → Result (List (List ℕ) × ℕ) RecordFault
refs_read bytes names count s = seen (λ x. (x.0, x.1.at)) (rows (ref_at bytes names) count 0 s)

abbrev pub refs_uses : List (List ℕ) → List ℕ
refs_uses refs = flat_map ref_uses refs

-- a superclass, and the place after it
abbrev pub super_read : List ℕ → ℕ → ℕ → Result (Option ℕ × ℕ) RecordFault
super_read bytes names at = seen (λ o. (o, at + 4)) (super_at bytes names at)

abbrev pub interfaces_read : List ℕ → ℕ → ℕ → ℕ → Result (List ℕ × ℕ) RecordFault
interfaces_read bytes names count at = rows (interface_at bytes names) count 0 at

abbrev pub fields_read : List ℕ → ℕ → ℕ → ℕ → Result (List StoredField × ℕ) RecordFault
fields_read bytes names count at = rows (field_at bytes names) count 0 at

abbrev pub sites_read : List ℕ → ℕ → ℕ → ℕ → Result (List StoredSite × ℕ) RecordFault
sites_read bytes refs count at = rows (site_at bytes refs) count 0 at

abbrev pub one_use : ℕ → List ℕ
one_use n = n ∷ []

abbrev pub interfaces_uses : List ℕ → List ℕ
interfaces_uses names = flat_map one_use names

abbrev pub fields_uses : List StoredField → List ℕ
fields_uses fields = flat_map field_uses fields

abbrev pub site_target : StoredSite → List ℕ
site_target s = s.reference ∷ []

abbrev pub sites_targets : List StoredSite → List ℕ
sites_targets sites = flat_map site_target sites

-- ---- the methods of a type
-- a name and a descriptor, and the order of these
abbrev pub Key : Type 0
Key = ℕ × ℕ

abbrev pub key_cmp : Key → Key → Ordering
key_cmp x y = ordering_then (nat_cmp x.0 y.0) (nat_cmp x.1 y.1)

-- the set has these names and descriptors, and no others
abbrev pub AreKeys : BTreeSet Key → List (List ℕ) → Type 0
AreKeys set keys = (k : Key) → tree.contains key_cmp set k ≡ list_any (pointwise nat_eq (k.0 ∷ k.1 ∷ [])) keys

-- the names and the references that are marked
pub record UsedMarks : Type 0 where
  pub names : List Bool
  pub refs : List Bool

abbrev pub used_marks : List Bool → List Bool → UsedMarks
used_marks names refs = record { names = names; refs = refs }

-- a method more, read at a place after these many sites, with its marks and its key
pub record NextMethod (read : Result (StoredMethod × Earlier) RecordFault) (old new : UsedMarks) (after sites : ℕ) (set : BTreeSet Key) : Type 0 where
  pub method : StoredMethod
  pub next : Earlier
  pub read_is : read ≡ Ok (method, next)
  pub at_is : next.at ≡ after
  pub sites_are : next.sites ≡ sites
  pub keys_are : AreKeys set next.keys
  pub names : new.names ≡ marked old.names (method_uses method)
  pub refs : new.refs ≡ marked old.refs (method_targets method)

abbrev pub PassesMethod : Result (StoredMethod × Earlier) RecordFault → UsedMarks → UsedMarks → BTreeSet Key → Result (ℕ × ℕ) (ReadError RecordFault) → Type 0
PassesMethod read old new set (Ok x) = NextMethod read old new x.0 x.1 set
PassesMethod read old new set (Err e) = Fails e read

-- a row that is read at a place
pub record ReadAt {X S : Type 0} (read : ℕ → S → Result (X × S) RecordFault) (place : S → ℕ) (at : ℕ) (x : X) : Type 0 where
  pub number : ℕ
  pub state : S
  pub next : S
  pub at_is : place state ≡ at
  pub read_is : read number state ≡ Ok (x, next)

abbrev pub at_state : Earlier → ℕ
at_state s = s.at

abbrev pub at_place : ℕ → ℕ
at_place at = at

-- the next method stands at a place, after methods of these names and descriptors, with these many sites
abbrev pub earlier : ℕ → List (List ℕ) → ℕ → Earlier
earlier at keys sites = record { at = at; keys = keys; sites = sites }

abbrev pub methods_read : List ℕ → ℕ → ℕ → ℕ → ℕ → Result (List StoredMethod × ℕ) RecordFault
methods_read bytes names refs count at = seen (λ x. (x.0, x.1.at)) (rows (method_at bytes names refs) count 0 (earlier at [] 0))

abbrev pub AreMethodPlaces : List ℕ → ℕ → ℕ → List ℕ → List StoredMethod → Type 0
AreMethodPlaces bytes names refs places methods = AllZip (ReadAt (method_at bytes names refs) at_state) places methods

-- methods were read, with their marks and their places
pub record NextMethods (bytes : List ℕ) (n r : ℕ) (read : Result (List StoredMethod × ℕ) RecordFault) (old new : UsedMarks) (after : ℕ) (before now : List ℕ) : Type 0 where
  pub methods : List StoredMethod
  pub places : List ℕ
  pub read_is : read ≡ Ok (methods, after)
  pub names : new.names ≡ marked old.names (flat_map method_uses methods)
  pub refs : new.refs ≡ marked old.refs (flat_map method_targets methods)
  pub places_are : now ≡ before ++ places
  pub places_read : AreMethodPlaces bytes n r places methods

abbrev pub PassesMethods : List ℕ → ℕ → ℕ → Result (List StoredMethod × ℕ) RecordFault → UsedMarks → UsedMarks → List ℕ → List ℕ → Result ℕ (ReadError RecordFault) → Type 0
PassesMethods bytes n r read old new before now (Ok after) = NextMethods bytes n r read old new after before now
PassesMethods bytes n r read old new before now (Err e) = Fails e read

-- ---- types
-- a type was read, with its marks and the places of its methods
pub record NextType (bytes : List ℕ) (n r : ℕ) (read : Result (StoredType × ℕ) RecordFault) (old new : UsedMarks) (after : ℕ) (before now : List ℕ) : Type 0 where
  pub type : StoredType
  pub places : List ℕ
  pub read_is : read ≡ Ok (type, after)
  pub names : new.names ≡ marked old.names (type_uses type)
  pub refs : new.refs ≡ marked old.refs (type_targets type)
  pub places_are : now ≡ before ++ places
  pub places_read : AreMethodPlaces bytes n r places type.methods

abbrev pub PassesType : List ℕ → ℕ → ℕ → Result (StoredType × ℕ) RecordFault → UsedMarks → UsedMarks → List ℕ → List ℕ → Result ℕ (ReadError RecordFault) → Type 0
PassesType bytes n r read old new before now (Ok after) = NextType bytes n r read old new after before now
PassesType bytes n r read old new before now (Err e) = Fails e read

-- the number of each type's first method, among the methods of all types
abbrev pub firsts_of : ℕ → List StoredType → List ℕ
firsts_of k [] = []
firsts_of k (t ∷ ts) = k ∷ firsts_of (k + length t.methods) ts

abbrev pub methods_of : List StoredType → List StoredMethod
methods_of types = flat_map (λ t. t.methods) types

-- the places of types, and of their methods
pub record ArePlaces (bytes : List ℕ) (n r : ℕ) (places firsts methods : List ℕ) (types : List StoredType) : Type 0 where
  pub types_read : AllZip (ReadAt (type_at bytes n r) at_place) places types
  pub firsts_are : firsts ≡ firsts_of 0 types
  pub methods_read : AreMethodPlaces bytes n r methods (methods_of types)

abbrev pub types_read : List ℕ → ℕ → ℕ → ℕ → ℕ → Result (List StoredType × ℕ) RecordFault
types_read bytes names refs count at = rows (type_at bytes names refs) count 0 at

-- the tables of the places are these
pub record HavePlaces (places : Places) (types firsts methods : List ℕ) : Type 0 where
  pub types_are : places.types.items ≡ types
  pub firsts_are : places.firsts.items ≡ firsts
  pub methods_are : places.methods.items ≡ methods

-- types were read, with their marks and their places
pub record NextTypes (bytes : List ℕ) (n r : ℕ) (read : Result (List StoredType × ℕ) RecordFault) (old new : UsedMarks) (after : ℕ) (places : Places) : Type 0 where
  pub types : List StoredType
  pub read_is : read ≡ Ok (types, after)
  pub names : new.names ≡ marked old.names (flat_map type_uses types)
  pub refs : new.refs ≡ marked old.refs (flat_map type_targets types)
  pub places_are : ArePlaces bytes n r places.types.items places.firsts.items places.methods.items types

abbrev pub PassesTypes : List ℕ → ℕ → ℕ → Result (List StoredType × ℕ) RecordFault → UsedMarks → UsedMarks → Result (Places × ℕ) (ReadError RecordFault) → Type 0
PassesTypes bytes n r read old new (Ok x) = NextTypes bytes n r read old new x.1 x.0
PassesTypes bytes n r read old new (Err e) = Fails e read
