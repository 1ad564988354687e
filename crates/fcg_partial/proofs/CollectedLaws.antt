-- The names that are collected of the views, in the order in which the types are written, are all names of the views.
use Rattle.std.proofs.Common.{◌≡◌, ℕ, ◌⊎◌, inl, inr, List, ◌∷◌, ◌++◌, refl, sym, subst}
use Rattle.std.specs.List.{flat_map}
use Rattle.fcg_grammar.specs.Table.{table}
use Rattle.fcg_grammar.proofs.Among.{Among, among_left, among_right, among_either, among_map, map_among, among_flat, flat_among}
use Rattle.fcg_grammar.proofs.TableLaws.{one_table, table_rises, table_among, among_table}
use Rattle.fcg_views.specs.declared.view.View.{View}
use Rattle.fcg_views.specs.declared.view.Method.{Method}
use Rattle.fcg_views.specs.declared.view.Site.{Site}
use Rattle.fcg_views.specs.declared.view.Ref.{Ref}
use Rattle.fcg_views.specs.NamesIn.{names_of_ref, names_of_super, names_of_field, names_of_site, names_in}
use Rattle.fcg_views.specs.NamesIn as all_names
use Rattle.fcg_partial.specs.Views.{names_of_method, names_of_view, targets_of_method, targets_of_view, targets_of, mentions}
use Rattle.fcg_partial.specs.Internal.Written.{collected}

-- lists of the same members have one table
pub same_table : (xs ys : List (List ℕ)) → ((z : List ℕ) → Among z xs → Among z ys) → ((z : List ℕ) → Among z ys → Among z xs) → table xs ≡ table ys
same_table xs ys to back = one_table (table xs) (table ys) (table_rises xs) (table_rises ys) (λ z h. table_among ys z (to z (among_table xs z h))) (λ z h. table_among xs z (back z (among_table ys z h)))

-- the names of a view, with these for its methods
front : View → List (List ℕ) → List (List ℕ)
front v ms = v.name ∷ (names_of_super v.superclass ++ (v.interfaces ++ (flat_map names_of_field v.fields ++ ms)))

front_left : (v : View) (ms ns : List (List ℕ)) (x : List ℕ) → Among x (front v ms) → Among x (front v ns) ⊎ Among x ms
unfolding front
front_left v ms ns x (inl e) = inl (inl e)
front_left v ms ns x (inr h) =
    let ss = names_of_super v.superclass in
    let fs = flat_map names_of_field v.fields in
    in_super (among_either x ss (v.interfaces ++ (fs ++ ms)) h)
  where
    in_fields : Among x (flat_map names_of_field v.fields) ⊎ Among x ms → Among x (v.name ∷ (names_of_super v.superclass ++ (v.interfaces ++ (flat_map names_of_field v.fields ++ ns)))) ⊎ Among x ms
    in_fields (inl f) = inl (inr (among_right x (names_of_super v.superclass) (v.interfaces ++ (flat_map names_of_field v.fields ++ ns)) (among_right x v.interfaces (flat_map names_of_field v.fields ++ ns) (among_left x (flat_map names_of_field v.fields) ns f))))
    in_fields (inr m) = inr m

    in_interfaces : Among x v.interfaces ⊎ Among x (flat_map names_of_field v.fields ++ ms) → Among x (v.name ∷ (names_of_super v.superclass ++ (v.interfaces ++ (flat_map names_of_field v.fields ++ ns)))) ⊎ Among x ms
    in_interfaces (inl i) = inl (inr (among_right x (names_of_super v.superclass) (v.interfaces ++ (flat_map names_of_field v.fields ++ ns)) (among_left x v.interfaces (flat_map names_of_field v.fields ++ ns) i)))
    in_interfaces (inr r) = in_fields (among_either x (flat_map names_of_field v.fields) ms r)

    in_super : Among x (names_of_super v.superclass) ⊎ Among x (v.interfaces ++ (flat_map names_of_field v.fields ++ ms)) → Among x (v.name ∷ (names_of_super v.superclass ++ (v.interfaces ++ (flat_map names_of_field v.fields ++ ns)))) ⊎ Among x ms
    in_super (inl s) = inl (inr (among_left x (names_of_super v.superclass) (v.interfaces ++ (flat_map names_of_field v.fields ++ ns)) s))
    in_super (inr r) = in_interfaces (among_either x v.interfaces (flat_map names_of_field v.fields ++ ms) r)

front_right : (v : View) (ms : List (List ℕ)) (x : List ℕ) → Among x ms → Among x (front v ms)
unfolding front
front_right v ms x h =
    let ss = names_of_super v.superclass in
    let fs = flat_map names_of_field v.fields in
    inr (among_right x ss (v.interfaces ++ (fs ++ ms)) (among_right x v.interfaces (fs ++ ms) (among_right x fs ms h)))

named_front : (v : View) → names_of_view v ≡ front v (flat_map names_of_method v.methods)
unfolding front
named_front v = refl

collected_front : (v : View) → names_in v ≡ front v (flat_map all_names.names_of_method v.methods)
unfolding front
collected_front v = refl

module _ (vs : List View) (x : List ℕ) where
  of_names : (v : View) → Among v vs → Among x (names_of_view v) → Among x (mentions vs)
  of_names v av h = among_right x (flat_map names_of_ref (targets_of vs)) (flat_map names_of_view vs) (among_flat names_of_view v x vs av h)

  of_method : (v : View) → Among v vs → (m : Method) → Among m v.methods → Among x (names_of_method m) → Among x (mentions vs)
  of_method v av m am h = of_names v av (subst (λ (l : List (List ℕ)). Among x l) (sym (named_front v)) (front_right v (flat_map names_of_method v.methods) x (among_flat names_of_method m x v.methods am h)))

  of_site : (v : View) → Among v vs → (m : Method) → Among m v.methods → (s : Site) → Among s m.sites → Among x (names_of_site s) → Among x (mentions vs)
  of_site v av m am s at h =
      let target = among_flat targets_of_view v s.target vs av (among_flat targets_of_method m s.target v.methods am (among_map (λ (y : Site). y.target) s m.sites at)) in
      among_left x (flat_map names_of_ref (targets_of vs)) (flat_map names_of_view vs) (among_flat names_of_ref s.target x (targets_of vs) target h)

  to_method : (v : View) → Among v vs → (m : Method) → Among m v.methods → Among x (all_names.names_of_method m) → Among x (mentions vs)
  to_method v av m am (inl e) = of_method v av m am (inl e)
  to_method v av m am (inr (inl e)) = of_method v av m am (inr (inl e))
  to_method v av m am (inr (inr h)) = let s = flat_among names_of_site x m.sites h in of_site v av m am s.0 s.1 s.2

  to_view : (v : View) → Among v vs → Among x (front v (flat_map names_of_method v.methods)) ⊎ Among x (flat_map all_names.names_of_method v.methods) → Among x (mentions vs)
  to_view v av (inl h) = of_names v av (subst (λ (l : List (List ℕ)). Among x l) (sym (named_front v)) h)
  to_view v av (inr h) = let m = flat_among all_names.names_of_method x v.methods h in to_method v av m.0 m.1 m.2

  to_mentions : Among x (collected vs) → Among x (mentions vs)
  to_mentions h =
      let v = flat_among names_in x vs h in
      to_view v.0 v.1 (front_left v.0 (flat_map all_names.names_of_method v.0.methods) (flat_map names_of_method v.0.methods) x (subst (λ (l : List (List ℕ)). Among x l) (collected_front v.0) v.2))

  -- ---- and back
  back_view : (v : View) → Among v vs → Among x (front v (flat_map all_names.names_of_method v.methods)) → Among x (collected vs)
  back_view v av h = among_flat names_in v x vs av (subst (λ (l : List (List ℕ)). Among x l) (sym (collected_front v)) h)

  back_method : (v : View) → Among v vs → (m : Method) → Among m v.methods → Among x (all_names.names_of_method m) → Among x (collected vs)
  back_method v av m am h = back_view v av (front_right v (flat_map all_names.names_of_method v.methods) x (among_flat all_names.names_of_method m x v.methods am h))

  own_names : (m : Method) → Among x (names_of_method m) → Among x (all_names.names_of_method m)
  own_names m (inl e) = inl e
  own_names m (inr (inl e)) = inr (inl e)
  own_names m (inr (inr h)) = absurd h

  back_own : (v : View) → Among v vs → Among x (front v (flat_map all_names.names_of_method v.methods)) ⊎ Among x (flat_map names_of_method v.methods) → Among x (collected vs)
  back_own v av (inl h) = back_view v av h
  back_own v av (inr h) = let m = flat_among names_of_method x v.methods h in back_method v av m.0 m.1 (own_names m.0 m.2)

  back_target : Among x (flat_map names_of_ref (targets_of vs)) → Among x (collected vs)
  back_target h =
      let r = flat_among names_of_ref x (targets_of vs) h in
      let v = flat_among targets_of_view r.0 vs r.1 in
      let m = flat_among targets_of_method r.0 v.0.methods v.2 in
      let s = map_among (λ (y : Site). y.target) r.0 m.0.sites m.2 in
      let here : Among x (names_of_site s.0) = subst (λ (t : Ref). Among x (names_of_ref t)) (sym s.2) r.2 in
      back_method v.0 v.1 m.0 m.1 (inr (inr (among_flat names_of_site s.0 x m.0.sites s.1 here)))

  back : Among x (flat_map names_of_ref (targets_of vs)) ⊎ Among x (flat_map names_of_view vs) → Among x (collected vs)
  back (inl h) = back_target h
  back (inr h) =
      let v = flat_among names_of_view x vs h in
      back_own v.0 v.1 (front_left v.0 (flat_map names_of_method v.0.methods) (flat_map all_names.names_of_method v.0.methods) x (subst (λ (l : List (List ℕ)). Among x l) (named_front v.0) v.2))

pub collected_table : (vs : List View) → table (collected vs) ≡ table (mentions vs)
collected_table vs = same_table (collected vs) (mentions vs) (λ z h. to_mentions vs z h) (λ z h. back vs z (among_either z (flat_map names_of_ref (targets_of vs)) (flat_map names_of_view vs) h))
