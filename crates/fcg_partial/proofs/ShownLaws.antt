-- The numbers in the rows of a well formed graph, and the views made of the rows.
use Rattle.std.proofs.Common.{rules, ◌≡◌, ℕ, zero, suc, ◌+◌, ◌<◌, ◌≤◌, List, [], ◌∷◌, ◌++◌, length, take, refl, sym, ap, subst, ◌∙◌, inl, inr, arith}
use Rattle.std.specs.Prelude.{map, slice_get, slice_index_or, Option, Some, None, IfSome}
use Rattle.std.specs.List.{flat_map}
use Rattle.std.proofs.lemmas.List.{take_more, take_all}
use Rattle.fcg_grammar.proofs.Among.{Among, among_all, among_left, among_right, among_map, among_flat, map_append}
use Rattle.fcg_views.specs.declared.view.View.{View}
use Rattle.fcg_partial.specs.Graph.{Graph, StoredType, StoredField, StoredMethod, StoredSite, ref_uses, super_uses, field_uses, method_uses, type_uses, name_uses, method_targets, type_targets, ref_uses_of}
use Rattle.fcg_partial.specs.Views.{name_in, shown, shown_type, graph_of}
use Rattle.fcg_partial.specs.Accessors.{HasType, HasInterface, HasField, HasMethod, HasSite, HasRef}
use Rattle.fcg_partial.specs.Internal.NameTable.{AreNames}
use Rattle.fcg_partial.proofs.ViewLaws.{views_back}

module _ {X : Type 0} where
  pub among_get : (xs : List X) (k : ℕ) (x : X) → slice_get xs k ≡ Some x → Among x xs
  among_get [] k x e = absurd cc
  among_get (y ∷ xs) zero x e = inl cc
  among_get (y ∷ xs) (suc k) x e = inr (among_get xs k x e)

  -- the item of a number below the length
  pub item_at : (xs : List X) (k : ℕ) → k < length xs → (x : X) × (slice_get xs k ≡ Some x)
  item_at [] k lt = absurd (omega arith)
  item_at (x ∷ xs) zero lt = (x, refl)
  item_at (x ∷ xs) (suc k) lt = item_at xs k (omega arith)

  pub index_or_get : (xs : List X) (k : ℕ) (x d : X) → slice_get xs k ≡ Some x → slice_index_or xs k d ≡ x
  index_or_get [] k x d e = absurd cc
  index_or_get (y ∷ xs) zero x d e = cc
  index_or_get (y ∷ xs) (suc k) x d e = index_or_get xs k x d e

  pub below_get : (xs : List X) (k : ℕ) (x : X) → slice_get xs k ≡ Some x → k < length xs
  below_get [] k x e = absurd cc
  below_get (y ∷ xs) zero x e = omega arith
  below_get (y ∷ xs) (suc k) x e = let lt = below_get xs k x e in omega arith

  take_next : (xs : List X) (k : ℕ) (x : X) → slice_get xs k ≡ Some x → take (k + 1) xs ≡ take k xs ++ x ∷ []
  take_next xs k x e = take_more xs k x (below_get xs k x e) ∙ ap (λ (y : X). take k xs ++ y ∷ []) (index_or_get xs k x x e)

  -- one more of the items
  pub taken_more : (xs : List X) (k : ℕ) (x y : X) (now new : List X) → slice_get xs k ≡ Some x → now ≡ take k xs → new ≡ now ++ y ∷ [] → y ≡ x → new ≡ take (k + 1) xs
  taken_more xs k x y now new e so_far push is = push ∙ ap (λ (l : List X). l ++ y ∷ []) so_far ∙ ap (λ (z : X). take k xs ++ z ∷ []) is ∙ sym (take_next xs k x e)

-- one more of the images
module _ {X Y : Type 0} (f : X → Y) where
  image_more : (xs : List X) (k : ℕ) (x : X) → slice_get xs k ≡ Some x → map f (take (k + 1) xs) ≡ map f (take k xs) ++ f x ∷ []
  image_more xs k x e = ap (map f) (take_next xs k x e) ∙ map_append f (take k xs) (x ∷ [])

  pub made_more : (xs : List X) (k : ℕ) (x : X) (y : Y) (now new : List Y) → slice_get xs k ≡ Some x → now ≡ map f (take k xs) → new ≡ now ++ y ∷ [] → y ≡ f x → new ≡ map f (take (k + 1) xs)
  made_more xs k x y now new e so_far push is = push ∙ ap (λ (l : List Y). l ++ y ∷ []) so_far ∙ ap (λ (z : Y). map f (take k xs) ++ z ∷ []) is ∙ sym (image_more xs k x e)

  pub made_all : (xs : List X) (count k : ℕ) (now : List Y) → count ≡ length xs → count ≤ k → now ≡ map f (take k xs) → now ≡ map f xs
  made_all xs count k now long le so_far = so_far ∙ ap (map f) (take_all k xs (omega arith))

-- ---- the numbers of names
module _ (g : Graph) (names : List (List ℕ)) (are : AreNames g names) where
  used : (n : ℕ) → Among n (name_uses g) → n < length names
  used n h = subst (λ (l : List (List ℕ)). n < length l) (sym are.names_are) (among_all (λ k. k < length g.names) (name_uses g) n are.graph.names_used.below h)

  pub ref_used : (r : ℕ) (row : List ℕ) → HasRef g r row → (n : ℕ) → Among n (ref_uses row) → n < length names
  ref_used r row h n a = used n (among_left n (flat_map ref_uses g.refs) (flat_map type_uses g.types) (among_flat ref_uses row n g.refs (among_get g.refs r row h) a))

  pub type_used : (i : ℕ) (t : StoredType) → HasType g i t → (n : ℕ) → Among n (type_uses t) → n < length names
  type_used i t h n a = used n (among_right n (flat_map ref_uses g.refs) (flat_map type_uses g.types) (among_flat type_uses t n g.types (among_get g.types i t h) a))

  pub super_used : (i : ℕ) (t : StoredType) → HasType g i t → IfSome t.superclass (λ n. n < length names)
  super_used i t h = each t.superclass (λ n a. type_used i t h n (inr (among_left n (super_uses t.superclass) (t.interfaces ++ (flat_map field_uses t.fields ++ flat_map method_uses t.methods)) a)))
    where
      each : (s : Option ℕ) → ((n : ℕ) → Among n (super_uses s) → n < length names) → IfSome s (λ n. n < length names)
      each None all = search rules
      each (Some n) all = all n (inl refl)

  pub interface_used : (i j n : ℕ) → HasInterface g i j n → n < length names
  interface_used i j n h =
      let t = h.0 in
      type_used i t h.1 n (inr (among_right n (super_uses t.superclass) (t.interfaces ++ (flat_map field_uses t.fields ++ flat_map method_uses t.methods)) (among_left n t.interfaces (flat_map field_uses t.fields ++ flat_map method_uses t.methods) (among_get t.interfaces j n h.2))))

  pub field_used : (i j : ℕ) (f : StoredField) → HasField g i j f → (n : ℕ) → Among n (field_uses f) → n < length names
  field_used i j f h n a =
      let t = h.0 in
      let fs = flat_map field_uses t.fields in
      let ms = flat_map method_uses t.methods in
      type_used i t h.1 n (inr (among_right n (super_uses t.superclass) (t.interfaces ++ (fs ++ ms)) (among_right n t.interfaces (fs ++ ms) (among_left n fs ms (among_flat field_uses f n t.fields (among_get t.fields j f h.2) a)))))

  pub method_used : (i k : ℕ) (m : StoredMethod) → HasMethod g i k m → (n : ℕ) → Among n (method_uses m) → n < length names
  method_used i k m h n a =
      let t = h.0 in
      let fs = flat_map field_uses t.fields in
      let ms = flat_map method_uses t.methods in
      type_used i t h.1 n (inr (among_right n (super_uses t.superclass) (t.interfaces ++ (fs ++ ms)) (among_right n t.interfaces (fs ++ ms) (among_right n fs ms (among_flat method_uses m n t.methods (among_get t.methods k m h.2) a)))))

  -- the reference of a site
  pub target_there : (i k s : ℕ) (x : StoredSite) → HasSite g i k s x → (row : List ℕ) × HasRef g x.reference row
  target_there i k s x h =
      let m = h.0 in
      let t = h.1.0 in
      let target = among_map (λ (y : StoredSite). y.reference) x m.sites (among_get m.sites s x h.2) in
      let of_type = among_flat method_targets m x.reference t.methods (among_get t.methods k m h.1.2) target in
      let of_graph = among_flat type_targets t x.reference g.types (among_get g.types i t h.1.1) of_type in
      item_at g.refs x.reference (among_all (λ k. k < length g.refs) (ref_uses_of g) x.reference are.graph.refs_used.below of_graph)

-- all types of the graph of some views
pub views_again : (views made : List View) → made ≡ map (shown_type (graph_of views)) (graph_of views).types → made ≡ views
unfolding shown
views_again views made e = e ∙ views_back views

-- a name of the table, by the number in a row
pub named : (names table : List (List ℕ)) → names ≡ table → (m n : ℕ) → m ≡ n → (x : List ℕ) → x ≡ name_in names m → x ≡ name_in table n
named names table same m n is x e = e ∙ ap (λ (l : List (List ℕ)). name_in l m) same ∙ ap (name_in table) is
