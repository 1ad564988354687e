-- What the entries that a view needs keep.
use Rattle.std.proofs.Common.{ℕ, List, [], ◌∷◌, ◌++◌}
use Rattle.std.specs.Prelude.{Option, Some, None, codes}
use Rattle.std.specs.List.{flat_map, AllByRecursion}
use Rattle.fcg_views.specs.declared.view.View.{View}
use Rattle.fcg_views.specs.declared.view.Field.{Field}
use Rattle.fcg_views.specs.declared.view.Method.{Method}
use Rattle.fcg_views.specs.declared.view.Site.{Site}
use Rattle.fcg_views.specs.declared.view.Ref.{Ref}
use Rattle.fcg_views.specs.declared.view.SiteKind.{SiteKind}
use Rattle.fcg_views.specs.declared.view.SiteKind.TheVariants as kinds
use Rattle.fcg_make.specs.declared.entry.Entry.{Entry}
use Rattle.fcg_make.specs.declared.entry.Entry.TheVariants.{Text}
use Rattle.fcg_make.specs.Steps.{Step, steps_of, row_count, numbered}
use Rattle.fcg_make.specs.Needs.{type_needs, reference_needs, method_tag, handle_needs, dynamic_needs, site_needs, step_needs, code_needs, field_needs, method_needs, super_needs, row_needs, rows_of, rows_needs, numbered_methods, needs}
use Rattle.fcg_make.proofs.LengthLemmas.{all_append}

-- ---- lists of lists

pub all_first : {X : Type 0} (P : X → Type 0) (xs ys : List X) → AllByRecursion P (xs ++ ys) → AllByRecursion P xs
all_first P [] ys a = tt
all_first P (x ∷ xs) ys a = (a.0, all_first P xs ys a.1)

pub all_second : {X : Type 0} (P : X → Type 0) (xs ys : List X) → AllByRecursion P (xs ++ ys) → AllByRecursion P ys
all_second P [] ys a = a
all_second P (x ∷ xs) ys a = all_second P xs ys a.1

-- what the entries of each piece keep, where they keep something else, those of all pieces do
pub lifted : {X : Type 0} (H Q : Entry → Type 0) (f : X → List Entry) → ((x : X) → AllByRecursion H (f x) → AllByRecursion Q (f x)) → (xs : List X) → AllByRecursion H (flat_map f xs) → AllByRecursion Q (flat_map f xs)
lifted H Q f lift [] h = tt
lifted H Q f lift (x ∷ xs) h = all_append Q (f x) (flat_map f xs) (lift x (all_first H (f x) (flat_map f xs) h)) (lifted H Q f lift xs (all_second H (f x) (flat_map f xs) h))

pub lifted_two : (H Q : Entry → Type 0) (xs ys : List Entry) → (AllByRecursion H xs → AllByRecursion Q xs) → (AllByRecursion H ys → AllByRecursion Q ys) → AllByRecursion H (xs ++ ys) → AllByRecursion Q (xs ++ ys)
lifted_two H Q xs ys first second h = all_append Q xs ys (first (all_first H xs ys h)) (second (all_second H xs ys h))

-- ---- the pieces of what a view needs

-- a property of entries that each piece has by itself, where its entries have another
pub record Pieces (H Q : Entry → Type 0) : Type 0 where
  pub text : (t : List ℕ) → H (Text t) → Q (Text t)
  pub type : (name : List ℕ) → AllByRecursion H (type_needs name) → AllByRecursion Q (type_needs name)
  pub field : (r : Ref) → AllByRecursion H (reference_needs 9 r) → AllByRecursion Q (reference_needs 9 r)
  pub method : (r : Ref) → AllByRecursion H (reference_needs (method_tag r) r) → AllByRecursion Q (reference_needs (method_tag r) r)
  pub handle : (s : Site) → AllByRecursion H (handle_needs s) → AllByRecursion Q (handle_needs s)
  pub dynamic : (row : ℕ) → AllByRecursion H (dynamic_needs row) → AllByRecursion Q (dynamic_needs row)

module _ (H Q : Entry → Type 0) (p : Pieces H Q) where
  of_site : (row : ℕ) (kind : SiteKind) (r : Ref) → AllByRecursion H (site_needs row kind r) → AllByRecursion Q (site_needs row kind r)
  of_site row kinds.Virtual r h = p.method r h
  of_site row kinds.Interface r h = p.method r h
  of_site row kinds.Special r h = p.method r h
  of_site row kinds.Static r h = p.method r h
  of_site row kinds.New r h = p.type r.owner h
  of_site row kinds.StaticField r h = p.field r h
  of_site row (kinds.Handle kind) r h = p.dynamic row h

  of_code : (row : ℕ) (steps : List Step) → AllByRecursion H (code_needs row steps) → AllByRecursion Q (code_needs row steps)
  of_code row [] h = tt
  of_code row (t ∷ ts) h = (p.text (codes "Code") h.0, lifted H Q step_needs (λ t. of_site t.0 t.1.first.kind t.1.first.target) (numbered row_count row (t ∷ ts)) h.1)

  of_method : (m : ℕ × Method) → AllByRecursion H (method_needs m) → AllByRecursion Q (method_needs m)
  of_method m h = (p.text m.1.name h.0, (p.text m.1.desc h.1.0, of_code m.0 (steps_of m.1.sites) h.1.1))

  of_field : (f : Field) → AllByRecursion H (field_needs f) → AllByRecursion Q (field_needs f)
  of_field f h = (p.text f.name h.0, (p.text f.desc h.1.0, tt))

  of_super : (o : Option (List ℕ)) → AllByRecursion H (super_needs o) → AllByRecursion Q (super_needs o)
  of_super None h = tt
  of_super (Some name) h = p.type name h

  of_rows : (rows : List Step) → AllByRecursion H (rows_needs rows) → AllByRecursion Q (rows_needs rows)
  of_rows [] h = tt
  of_rows (t ∷ ts) h = (p.text (codes "BootstrapMethods") h.0, lifted H Q row_needs (λ t. lifted H Q handle_needs p.handle (t.first ∷ t.more)) (t ∷ ts) h.1)

  pub of_needs : (v : View) → AllByRecursion H (needs v) → AllByRecursion Q (needs v)
  unfolding needs
  of_needs v =
      lifted_two H Q (type_needs v.name) _ (p.type v.name) (
      lifted_two H Q (super_needs v.superclass) _ (of_super v.superclass) (
      lifted_two H Q (flat_map type_needs v.interfaces) _ (lifted H Q type_needs p.type v.interfaces) (
      lifted_two H Q (flat_map field_needs v.fields) _ (lifted H Q field_needs of_field v.fields) (
      lifted_two H Q (flat_map method_needs (numbered_methods v.methods)) _ (lifted H Q method_needs of_method (numbered_methods v.methods)) (of_rows (rows_of v.methods))))))
