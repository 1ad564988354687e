-- The rows of a graph by numbers below their counts, and the numbers in them.
use Rattle.std.proofs.Common.{◌≡◌, ℕ, zero, suc, ◌<◌, ◌⊎◌, inl, inr, List, [], ◌∷◌, length, refl, sym, ap, subst, ◌∙◌, arith}
use Rattle.std.specs.Prelude.{slice_get, slice_index_or, Some}
use Rattle.fcg_grammar.proofs.Among.{among_all, among_map, among_flat}
use Rattle.fcg_partial.specs.declared.row.TypeRow.{TypeRow}
use Rattle.fcg_partial.specs.declared.row.FieldRow.{FieldRow}
use Rattle.fcg_partial.specs.declared.row.MethodRow.{MethodRow}
use Rattle.fcg_partial.specs.declared.row.SiteRow.{SiteRow}
use Rattle.fcg_partial.specs.declared.row.RefRow.{RefRow}
use Rattle.fcg_partial.specs.Graph.{Graph, IsGraph, StoredType, StoredField, StoredMethod, StoredSite, number_at, method_targets, type_targets, ref_uses_of}
use Rattle.fcg_partial.specs.Internal.NameTable.{AreNames}
use Rattle.fcg_partial.specs.Accessors.{row_of_type, row_of_field, row_of_method, row_of_site, row_of_ref, HasType, HasInterface, HasField, HasMethod, HasSite, HasRef, no_type, no_method, type_in, method_in, HasCountsOf, AreBelow, IsRowBelow, IsSuperBelow}
use Rattle.fcg_partial.proofs.ShownLaws.{among_get, below_get, item_at, index_or_get, ref_used, type_used, super_used, interface_used, field_used, method_used}

-- the item of a number, or the default
item_or : {X : Type 0} (xs : List X) (k : ℕ) (d : X) → (slice_get xs k ≡ Some (slice_index_or xs k d)) ⊎ (slice_index_or xs k d ≡ d)
item_or [] k d = inr refl
item_or (x ∷ xs) zero d = inl refl
item_or (x ∷ xs) (suc k) d = item_or xs k d

module _ (g : Graph) where
  -- ---- from numbers to rows
  pub has_ref : (r : ℕ) → r < length g.refs → (row : List ℕ) × HasRef g r row
  has_ref r lt = item_at g.refs r lt

  pub has_type : (i : ℕ) → i < length g.types → (t : StoredType) × HasType g i t
  has_type i lt = item_at g.types i lt

  -- what has a row in a list of the type, where one without rows has none
  of_type : {X : Type 0} (f : StoredType → List X) → f no_type ≡ [] → (i j : ℕ) → j < length (f (type_in g i)) → HasType g i (type_in g i)
  of_type f none i j lt = by_case (item_or g.types i no_type)
    where
      by_case : (slice_get g.types i ≡ Some (type_in g i)) ⊎ (type_in g i ≡ no_type) → HasType g i (type_in g i)
      by_case (inl h) = h
      by_case (inr e) = let long = ap (λ (l : List _). length l) (ap f e ∙ none) in absurd (omega arith)

  pub has_interface : (i j : ℕ) → j < length (type_in g i).interfaces → (n : ℕ) × HasInterface g i j n
  has_interface i j lt = let x = item_at (type_in g i).interfaces j lt in (x.0, (type_in g i, of_type (λ t. t.interfaces) refl i j lt, x.1))

  pub has_field : (i j : ℕ) → j < length (type_in g i).fields → (f : StoredField) × HasField g i j f
  has_field i j lt = let x = item_at (type_in g i).fields j lt in (x.0, (type_in g i, of_type (λ t. t.fields) refl i j lt, x.1))

  pub has_method : (i k : ℕ) → k < length (type_in g i).methods → (m : StoredMethod) × HasMethod g i k m
  has_method i k lt = let x = item_at (type_in g i).methods k lt in (x.0, (type_in g i, of_type (λ t. t.methods) refl i k lt, x.1))

  of_method : (i k s : ℕ) → s < length (method_in g i k).sites → HasMethod g i k (method_in g i k)
  of_method i k s lt = by_case (item_or (type_in g i).methods k no_method)
    where
      by_case : (slice_get (type_in g i).methods k ≡ Some (method_in g i k)) ⊎ (method_in g i k ≡ no_method) → HasMethod g i k (method_in g i k)
      by_case (inl h) = (type_in g i, of_type (λ t. t.methods) refl i k (below_get (type_in g i).methods k (method_in g i k) h), h)
      by_case (inr e) = let long = ap (λ (m : StoredMethod). length m.sites) e in absurd (omega arith)

  pub has_site : (i k s : ℕ) → s < length (method_in g i k).sites → (x : StoredSite) × HasSite g i k s x
  has_site i k s lt = let x = item_at (method_in g i k).sites s lt in (x.0, (method_in g i k, of_method i k s lt, x.1))

  -- ---- from rows to numbers
  pub type_is : (i : ℕ) (t : StoredType) → HasType g i t → type_in g i ≡ t
  type_is i t h = index_or_get g.types i t no_type h

  pub method_is : (i k : ℕ) (m : StoredMethod) → HasMethod g i k m → method_in g i k ≡ m
  method_is i k m h = ap (λ (t : StoredType). slice_index_or t.methods k no_method) (type_is i h.0 h.1) ∙ index_or_get h.0.methods k m no_method h.2

  pub below_refs : (r : ℕ) → (row : List ℕ) × HasRef g r row → r < length g.refs
  below_refs r h = below_get g.refs r h.0 h.1

  pub below_types : (i : ℕ) → (t : StoredType) × HasType g i t → i < length g.types
  below_types i h = below_get g.types i h.0 h.1

  pub below_interfaces : (i j : ℕ) → (n : ℕ) × HasInterface g i j n → j < length (type_in g i).interfaces
  below_interfaces i j h = subst (λ (t : StoredType). j < length t.interfaces) (sym (type_is i h.1.0 h.1.1)) (below_get h.1.0.interfaces j h.0 h.1.2)

  pub below_fields : (i j : ℕ) → (f : StoredField) × HasField g i j f → j < length (type_in g i).fields
  below_fields i j h = subst (λ (t : StoredType). j < length t.fields) (sym (type_is i h.1.0 h.1.1)) (below_get h.1.0.fields j h.0 h.1.2)

  pub below_methods : (i k : ℕ) → (m : StoredMethod) × HasMethod g i k m → k < length (type_in g i).methods
  below_methods i k h = subst (λ (t : StoredType). k < length t.methods) (sym (type_is i h.1.0 h.1.1)) (below_get h.1.0.methods k h.0 h.1.2)

  pub below_sites : (i k s : ℕ) → (x : StoredSite) × HasSite g i k s x → s < length (method_in g i k).sites
  below_sites i k s h = subst (λ (m : StoredMethod). s < length m.sites) (sym (method_is i k h.1.0 h.1.1)) (below_get h.1.0.sites s h.0 h.1.2)

  -- ---- the counts of the rows
  pub counts_are : (i : ℕ) (row : TypeRow) → i < length g.types → ((t : StoredType) → HasType g i t → row ≡ row_of_type t) → HasCountsOf (type_in g i) row
  counts_are i row lt is =
      let h = has_type i lt in
      let same = type_is i h.0 h.1 in
      let e = is h.0 h.1 in
      record {
        interfaces = ap (λ (r : TypeRow). r.interfaces) e ∙ ap (λ (t : StoredType). length t.interfaces) (sym same);
        fields = ap (λ (r : TypeRow). r.fields) e ∙ ap (λ (t : StoredType). length t.fields) (sym same);
        methods = ap (λ (r : TypeRow). r.methods) e ∙ ap (λ (t : StoredType). length t.methods) (sym same);
      }

  pub sites_are : (i k : ℕ) (row : MethodRow) → k < length (type_in g i).methods → ((m : StoredMethod) → HasMethod g i k m → row ≡ row_of_method m) → row.sites ≡ length (method_in g i k).sites
  sites_are i k row lt is =
      let h = has_method i k lt in
      ap (λ (r : MethodRow). r.sites) (is h.0 h.1) ∙ ap (λ (m : StoredMethod). length m.sites) (sym (method_is i k h.0 h.1))

  -- ---- the numbers in the rows
  module _ (is : IsGraph g) where
    are : AreNames g g.names
    are = record { graph = is; names_are = refl }

    pub ref_below : (r : ℕ) (row : RefRow) → r < length g.refs → ((numbers : List ℕ) → HasRef g r numbers → row ≡ row_of_ref numbers) → IsRowBelow g row
    ref_below r row lt told =
        let h = has_ref r lt in
        subst (IsRowBelow g) (sym (told h.0 h.1)) (ref_used g g.names are r h.0 h.1 (number_at 0 h.0) (inl refl), ref_used g g.names are r h.0 h.1 (number_at 2 h.0) (inr (inl refl)), ref_used g g.names are r h.0 h.1 (number_at 3 h.0) (inr (inr (inl refl))))

    pub type_below : (i : ℕ) (row : TypeRow) → i < length g.types → ((t : StoredType) → HasType g i t → row ≡ row_of_type t) → row.name < length g.names
    type_below i row lt told =
        let h = has_type i lt in
        subst (λ (r : TypeRow). r.name < length g.names) (sym (told h.0 h.1)) (type_used g g.names are i h.0 h.1 h.0.name (inl refl))

    pub super_below : (i : ℕ) (row : TypeRow) → i < length g.types → ((t : StoredType) → HasType g i t → row ≡ row_of_type t) → IsSuperBelow g row
    super_below i row lt told =
        let h = has_type i lt in
        subst (IsSuperBelow g) (sym (told h.0 h.1)) (super_used g g.names are i h.0 h.1)

    pub interface_below : (i j n : ℕ) → j < length (type_in g i).interfaces → ((m : ℕ) → HasInterface g i j m → n ≡ m) → n < length g.names
    interface_below i j n lt told =
        let h = has_interface i j lt in
        subst (λ (m : ℕ). m < length g.names) (sym (told h.0 h.1)) (interface_used g g.names are i j h.0 h.1)

    pub field_below : (i j : ℕ) (row : FieldRow) → j < length (type_in g i).fields → ((f : StoredField) → HasField g i j f → row ≡ row_of_field f) → AreBelow (length g.names) row.name row.desc
    field_below i j row lt told =
        let h = has_field i j lt in
        subst (λ (r : FieldRow). AreBelow (length g.names) r.name r.desc) (sym (told h.0 h.1)) (field_used g g.names are i j h.0 h.1 h.0.name (inl refl), field_used g g.names are i j h.0 h.1 h.0.desc (inr (inl refl)))

    pub method_below : (i k : ℕ) (row : MethodRow) → k < length (type_in g i).methods → ((m : StoredMethod) → HasMethod g i k m → row ≡ row_of_method m) → AreBelow (length g.names) row.name row.desc
    method_below i k row lt told =
        let h = has_method i k lt in
        subst (λ (r : MethodRow). AreBelow (length g.names) r.name r.desc) (sym (told h.0 h.1)) (method_used g g.names are i k h.0 h.1 h.0.name (inl refl), method_used g g.names are i k h.0 h.1 h.0.desc (inr (inl refl)))

    pub site_below : (i k s : ℕ) (row : SiteRow) → s < length (method_in g i k).sites → ((x : StoredSite) → HasSite g i k s x → row ≡ row_of_site x) → row.reference < length g.refs
    site_below i k s row lt told =
        let h = has_site i k s lt in
        let m = h.1.0 in
        let t = h.1.1.0 in
        let target = among_map (λ (y : StoredSite). y.reference) h.0 m.sites (among_get m.sites s h.0 h.1.2) in
        let of_type = among_flat method_targets m h.0.reference t.methods (among_get t.methods k m h.1.1.2) target in
        let of_graph = among_flat type_targets t h.0.reference g.types (among_get g.types i t h.1.1.1) of_type in
        subst (λ (r : SiteRow). r.reference < length g.refs) (sym (told h.0 h.1)) (among_all (λ k. k < length g.refs) (ref_uses_of g) h.0.reference is.refs_used.below of_graph)
