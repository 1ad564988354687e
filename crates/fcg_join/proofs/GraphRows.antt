-- The rows of a part's graph, by its views.
use Rattle.std.proofs.Common.{◌≡◌, ℕ, zero, suc, ◌<◌, List, [], ◌∷◌, length, get_or, refl, sym, ap, subst, ◌∙◌, inl, inr, cond, arith}
use Rattle.std.specs.Prelude.{map, flat_map, Option, Some, None, option_map, slice_get, Bool, ◌||◌}
use Rattle.std.proofs.lemmas.Option.{slice_get-map, get_or_from_slice_get}
use Rattle.std.proofs.lemmas.List.{length-map}
use Rattle.fcg_grammar.specs.Table.{place}
use Rattle.fcg_grammar.proofs.Among.{Among, among_left, among_right, among_flat}
use Rattle.fcg_grammar.proofs.TableLaws.{table_among, at_place}
use Rattle.fcg_views.specs.declared.view.View.{View}
use Rattle.fcg_partial.specs.Graph.{StoredType}
use Rattle.fcg_views.specs.NamesIn.{names_of_ref, names_of_super}
use Rattle.fcg_partial.specs.Views.{graph_of, names_of, refs_of, type_row, super_number_of, mentions, names_of_view, targets_of}
use Rattle.fcg_partial.specs.Accessors.{HasType, HasInterface, row_of_type, type_in, no_type}
use Rattle.fcg_partial.specs.declared.row.TypeRow.{TypeRow}
use Rattle.fcg_partial.specs.Parts.{PartShown}
use Rattle.fcg_analysis.specs.NamesAndFlags.{same, has}
use Rattle.fcg_analysis.specs.Declarations.{object_name}
use Rattle.fcg_join.specs.declared.heads.TypeHead.{TypeHead}
use Rattle.fcg_join.specs.Parts.{placed_view}
use Rattle.fcg_join.specs.SetNames.{part_names}
use Rattle.fcg_join.specs.Internal.PartRows.{HasView, row_of_view}
use Rattle.fcg_join.specs.Internal.TypeHeads.{head_of}

-- an element by its place
pub item : {X : Type 0} (xs : List X) (k : ℕ) → k < length xs → (x : X) × (slice_get xs k ≡ Some x) × (x ≡ get_or xs k x)
item [] k l = absurd (omega arith)
item (x ∷ xs) zero l = (x, refl, refl)
item (x ∷ xs) (suc k) l = item xs k (omega arith)

pub among_item : {X : Type 0} (xs : List X) (k : ℕ) (x : X) → slice_get xs k ≡ Some x → Among x xs
among_item [] k x e = absurd cc
among_item (y ∷ xs) zero x e = inl cc
among_item (y ∷ xs) (suc k) x e = inr (among_item xs k x e)

pub types_many : (views : List View) → length (graph_of views).types ≡ length views
unfolding graph_of
types_many views = length-map views (type_row (names_of views) (refs_of (names_of views) views))

module _ (p : PartShown) (k : ℕ) (v : View) (h : HasView p k v) where
  pub row_is : (row : TypeRow) → ((t : StoredType) → HasType (graph_of p.views) k t → row ≡ row_of_type t) → row ≡ row_of_view p v
  unfolding graph_of
  row_is row each =
      let nm = names_of p.views in
      let f = type_row nm (refs_of nm p.views) in
      let a : row ≡ row_of_type (f v) = each (f v) (slice_get-map f p.views k ∙ ap (option_map f) h) in
      a ∙ at nm v
    where
      at : (nm : List (List ℕ)) (v : View) → row_of_type (type_row nm (refs_of nm p.views) v) ≡ record { name = place nm v.name; flags = v.flags; superclass = super_number_of nm v.superclass; interfaces = length v.interfaces; fields = length v.fields; methods = length v.methods }
      at nm v =
          let t = type_row nm (refs_of nm p.views) v in
          let a : length t.interfaces ≡ length v.interfaces = length-map v.interfaces (place nm) in
          let b : length t.fields ≡ length v.fields = length-map v.fields (Rattle.fcg_partial.specs.Views.field_row nm) in
          let c : length t.methods ≡ length v.methods = length-map v.methods (Rattle.fcg_partial.specs.Views.method_row nm (refs_of nm p.views)) in
          λ i. record { name = place nm v.name; flags = v.flags; superclass = super_number_of nm v.superclass; interfaces = a i; fields = b i; methods = c i }

  pub type_there : HasType (graph_of p.views) k (type_row (part_names p) (refs_of (part_names p) p.views) v)
  unfolding graph_of
  type_there = slice_get-map (type_row (names_of p.views) (refs_of (names_of p.views) p.views)) p.views k ∙ ap (option_map (type_row (names_of p.views) (refs_of (names_of p.views) p.views))) h

  pub interface_within : (j : ℕ) → j < length v.interfaces → j < length (type_in (graph_of p.views) k).interfaces
  interface_within j l =
      let t = type_row (part_names p) (refs_of (part_names p) p.views) v in
      let e : type_in (graph_of p.views) k ≡ t = get_or_from_slice_get (graph_of p.views).types k t no_type type_there in
      let m : length t.interfaces ≡ length v.interfaces = length-map v.interfaces (place (part_names p)) in
      subst (λ (n : ℕ). j < n) (sym m ∙ sym (ap (λ (u : StoredType). length u.interfaces) e)) l

  pub interface_is : (j : ℕ) (n : List ℕ) → slice_get v.interfaces j ≡ Some n → (found : ℕ) → ((m : ℕ) → HasInterface (graph_of p.views) k j m → found ≡ m) → found ≡ place (part_names p) n
  interface_is j n e found each = each (place (part_names p) n) (
    type_row (part_names p) (refs_of (part_names p) p.views) v,
    type_there,
    slice_get-map (place (part_names p)) v.interfaces j ∙ ap (option_map (place (part_names p))) e,
  )

  -- the graph has the names that the view has
  pub named : (x : List ℕ) → Among x (names_of_view v) → Among x (part_names p)
  unfolding graph_of names_of
  named x a = table_among (mentions p.views) x (among_right x (flat_map names_of_ref (targets_of p.views)) (flat_map names_of_view p.views) (among_flat names_of_view v x p.views (among_item p.views k v h) a))

-- the name of a number is back
pub name_back : (names : List (List ℕ)) (x y : List ℕ) → Among x names → slice_get names (place names x) ≡ Some y → y ≡ x
name_back names x y a e = sym (get_or_from_slice_get names (place names x) y [] e) ∙ (at_place names x [] a).1

-- the number of the set for a part's number of a name
pub numbered : (names own : List (List ℕ)) (x : List ℕ) (d : ℕ) → Among x own → get_or (map (place names) own) (place own x) d ≡ place names x
numbered names own x d a =
    let r = at_place own x [] a in
    at own (place own x) r.0 ∙ ap (place names) r.1
  where
    at : (ns : List (List ℕ)) (k : ℕ) → k < length ns → get_or (map (place names) ns) k d ≡ place names (get_or ns k [])
    at [] k l = absurd (omega arith)
    at (n ∷ ns) zero l = refl
    at (n ∷ ns) (suc k) l = at ns k (omega arith)

super_numbered : (names own : List (List ℕ)) (s : Option (List ℕ)) → ((x : List ℕ) → Among x (names_of_super s) → Among x own)
    → option_map (λ k. get_or (map (place names) own) k 0) (super_number_of own s) ≡ option_map (place names) s
super_numbered names own None h = refl
super_numbered names own (Some x) h = ap (λ (n : ℕ). Some n) (numbered names own x 0 (h x (inl refl)))

pub head_made : (p : PartShown) (i k : ℕ) (v : View) → HasView p k v → (names : List (List ℕ)) (numbers : List ℕ) → numbers ≡ map (place names) (part_names p)
    → (row : TypeRow) → row ≡ row_of_view p v → (o : Bool) → o ≡ same object_name v.name
    → (s : Option ℕ) → s ≡ cond (o || has 0x0200 row.flags) None (option_map (λ k. get_or numbers k 0) row.superclass)
    → ◌≡◌ {A = TypeHead} (record { part = i; place = k; name = get_or numbers row.name 0; flags = row.flags; is_object = o; superclass = s; methods = row.methods }) (head_of names i k (placed_view p v))
head_made p i k v h names numbers e row r o oe s se =
    let name : get_or numbers row.name 0 ≡ place names v.name =
    ap (λ (q : TypeRow). get_or numbers q.name 0) r ∙ ap (λ ns. get_or ns (place (part_names p) v.name) 0) e ∙ numbered names (part_names p) v.name 0 (named p k v h v.name (inl refl)) in
    let flags : row.flags ≡ v.flags = ap (λ (q : TypeRow). q.flags) r in
    let methods : row.methods ≡ length v.methods = ap (λ (q : TypeRow). q.methods) r in
    let super : s ≡ cond (same object_name v.name || has 0x0200 v.flags) None (option_map (place names) v.superclass) =
    se ∙ ap (λ (q : TypeRow). cond (o || has 0x0200 q.flags) None (option_map (λ k. get_or numbers k 0) q.superclass)) r
    ∙ ap (λ b. cond (b || has 0x0200 v.flags) None (option_map (λ k. get_or numbers k 0) (super_number_of (part_names p) v.superclass))) oe
    ∙ ap (λ ns. cond (same object_name v.name || has 0x0200 v.flags) None (option_map (λ k. get_or ns k 0) (super_number_of (part_names p) v.superclass))) e
    ∙ ap (λ m. cond (same object_name v.name || has 0x0200 v.flags) None m) (super_numbered names (part_names p) v.superclass (λ x a. named p k v h x (inr (among_left x (names_of_super v.superclass) _ a)))) in
    λ j. record { part = i; place = k; name = name j; flags = flags j; is_object = oe j; superclass = super j; methods = methods j }

-- the name of a superclass is back
pub super_back : (p : PartShown) (k : ℕ) (v : View) → HasView p k v → (n : ℕ) (y : List ℕ) → Some n ≡ super_number_of (part_names p) v.superclass → slice_get (part_names p) n ≡ Some y → Some y ≡ v.superclass
super_back p k v h n y e f = at v.superclass (λ x a. named p k v h x (inr (among_left x (names_of_super v.superclass) _ a))) e
  where
    at : (s : Option (List ℕ)) → ((x : List ℕ) → Among x (names_of_super s) → Among x (part_names p)) → Some n ≡ super_number_of (part_names p) s → Some y ≡ s
    at None a e = absurd cc
    at (Some x) a e =
        let number : n ≡ place (part_names p) x = cc in
        ap (λ (z : List ℕ). Some z) (name_back (part_names p) x y (a x (inl refl)) (subst (λ (m : ℕ). slice_get (part_names p) m ≡ Some y) number f))

pub super_none : (p : PartShown) (v : View) → None ≡ super_number_of (part_names p) v.superclass → None ≡ v.superclass
super_none p v e = at v.superclass e
  where
    at : (s : Option (List ℕ)) → None ≡ super_number_of (part_names p) s → None ≡ s
    at None e = refl
    at (Some x) e = absurd cc
