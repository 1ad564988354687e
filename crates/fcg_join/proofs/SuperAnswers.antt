-- What the tables of a Joined answer on superinterface methods.
use Rattle.std.proofs.Common.{◌≡◌, ℕ, ◌<◌, List, [], length, eqb, ltb, refl, sym, ap, subst, ◌∙◌, inl, inr}
use Rattle.std.specs.Prelude.{Bool, true, false, not, ◌&&◌, ◌||◌, ◌==◌, Option, Some, None, is_none, slice_get, Contains}
use Rattle.std.specs.List.{list_any, IsDistinct}
use Rattle.std.proofs.lemmas.Bool.{and_from, or_cases, or_from, false_from_ne_true, not-true}
use Rattle.std.proofs.lemmas.Bool.Decides.{Decides-ltb}
use Rattle.std.proofs.lemmas.Option.{get_or_from_slice_get}
use Rattle.std.specs.Cmp.Lexicographic.{bytes_decides}
use Rattle.fcg_grammar.specs.Table.{place}
use Rattle.fcg_grammar.proofs.Among.{among_from_contains}
use Rattle.fcg_grammar.proofs.TableLaws.{at_place}
use Rattle.fcg_partial.specs.Parts.{PartShown}
use Rattle.fcg_analysis.specs.NamesAndFlags.{same, contains}
use Rattle.fcg_analysis.specs.Declarations.{Placed, Signature, is_named, is_type, is_class, is_interface, is_private, is_static, names_of}
use Rattle.fcg_analysis.specs.Types.{links, above, is_above, type_named}
use Rattle.fcg_analysis.specs.Nodes.{Node, nodes, declared, super_methods}
use Rattle.fcg_analysis.specs.Laws.Methods.{AreApart, IsSuperMethod}
use Rattle.fcg_analysis.proofs.General.Members.{IsIn, IsIn-from_Contains, Contains-from_IsIn, and_first, and_second, any_in, in_any, find_in}
use Rattle.fcg_analysis.proofs.General.Places.{same_at}
use Rattle.fcg_analysis.proofs.General.Walking.{walk_from_led, walk_end}
use Rattle.fcg_analysis.proofs.DeclaredPlaces.{of_node}
use Rattle.fcg_analysis.proofs.NameLaws.{name_from_above, find_type, not_circular}
use Rattle.fcg_analysis.proofs.NodeMembers.{declared_is}
use Rattle.fcg_analysis.proofs.OverrideLaws.{one_of_name, node_owner}
use Rattle.fcg_analysis.proofs.SuperMethods.{super_members}
use Rattle.fcg_analysis.proofs.WinnerLaws.{is_type_self, is_type_back, known_distinct}
use Rattle.fcg_join.specs.declared.heads.TypeHead.{TypeHead}
use Rattle.fcg_join.specs.declared.id.MethodId.{MethodId}
use Rattle.fcg_join.specs.Names.{text_at}
use Rattle.fcg_join.specs.NodeTables.{HasNodeAt, IsNumberOf}
use Rattle.fcg_join.specs.TypeLinks.{HasTypeAt}
use Rattle.fcg_join.specs.TypeTables.{mentions, mentions_at, is_class_name, IsUpwardRow}
use Rattle.fcg_join.specs.Parts.{placed, types_of}
use Rattle.fcg_join.specs.Joined.{IsTypeNumber}
use Rattle.fcg_join.specs.SetNames.{set_names}
use Rattle.fcg_join.specs.Internal.Supers.{IsMentioned, is_of, is_of_any, IsOnly}
use Rattle.fcg_join.specs.Internal.TypeHeads.{IsHead}
use Rattle.fcg_join.proofs.GraphRows.{item}
use Rattle.fcg_join.proofs.HeadLaws.{head_named, head_name}
use Rattle.fcg_join.proofs.MentionRows.{any_number, interface_by_row, same_number}
use Rattle.fcg_join.proofs.OwnMentions.{known_are_acyclic}
use Rattle.fcg_join.proofs.Places.{has_in, one_place}

module _ (parts : List PartShown) where
  abbrev N : List (List ℕ)
  N = set_names parts

  abbrev T : List Placed
  T = types_of parts

  distinct : IsDistinct is_type T
  distinct = known_distinct (placed parts)

  super_is : (x : Placed) (s : Signature) (m : Node) → Contains (super_methods T x s) m → IsSuperMethod T x s m
  super_is x s m c = (super_members T distinct x s m).0 c

  owner_in : (m : Node) → Contains (nodes T) m → IsIn m.owner T
  owner_in m c = node_owner T m (IsIn-from_Contains _ m c)

  pub super_interface : (x : Placed) (s : Signature) (m : Node) → Contains (super_methods T x s) m → is_interface m.owner ≡ true
  super_interface x s m c = (super_is x s m c).interface

  -- ---- rows

  pub mentioned_small : (x : Placed) (n : ℕ) → IsMentioned parts x n → n < length N
  mentioned_small x n h =
      elim (or_cases (mentions_at N T n x) (list_any (mentions_at N T n) (above T x)) h) [
        | inl a ↦ small x a
        | inr b ↦ (let v = in_any (mentions_at N T n) (above T x) b in small v.0 v.2)
      ]
    where
      small : (v : Placed) → mentions_at N T n v ≡ true → n < length N
      small v e = (Decides-ltb n (length N)).0 (and_first (ltb n (length N)) (not (is_class_name T (text_at N n)) && mentions T (text_at N n) v) e)

  pub text_there : (n : ℕ) → n < length N → slice_get N n ≡ Some (text_at N n)
  text_there n l = (let t = item N n l in t.1 ∙ ap (λ (m : List ℕ). Some m) (sym (get_or_from_slice_get N n t.0 [] t.1)))

  -- the row of a type has the name of each interface above it
  pub super_in_row : (x : Placed) → Contains T x → (row : List ℕ) → IsUpwardRow T (mentions_at N T) x row → ((t : Placed) → Contains T t → Contains N t.view.name)
      → (s : Signature) (m : Node) → Contains (super_methods T x s) m → is_of_any parts row m ≡ true
  super_in_row x xc row up named s m c =
      let r = super_is x s m c in
      let oc = Contains-from_IsIn T m.owner (owner_in m r.node_in) in
      let at = at_place N m.owner.view.name [] (among_from_contains m.owner.view.name N (named m.owner oc)) in
      let n = place N m.owner.view.name in
      let e = sym (interface_by_row N T (known_are_acyclic (placed parts)) distinct x m.owner n row xc oc r.interface at.0 at.1 up) ∙ name_from_above T x m.owner r.above' in
      let i = (any_number n row).0 (and_second (not (is_type m.owner x)) (list_any (λ k. eqb k n) row) e) in
      any_in (λ k. is_of parts k m) row n (IsIn-from_Contains row n i) (ap (λ t. same t m.owner.view.name) at.1 ∙ is_type_self m.owner)

  -- an interface is above another type where the row of that has the number of its name
  pub owned_below : (a b : Node) (k l : ℕ) → HasTypeAt T k a.owner → HasTypeAt T l b.owner → is_interface b.owner ≡ true → (h : TypeHead) → IsHead parts N h b.owner
      → (row : List ℕ) → IsUpwardRow T (mentions_at N T) a.owner row → is_above T a.owner b.owner ≡ (not (eqb k l) && list_any (λ j. j == h.name) row)
  owned_below a b k l ak bl i h is row up =
      let at = at_place N b.owner.view.name [] (head_named parts h b.owner is) in
      interface_by_row N T (known_are_acyclic (placed parts)) distinct a.owner b.owner (place N b.owner.view.name) row (has_in T k a.owner ak) (has_in T l b.owner bl) i at.0 at.1 up
      ∙ ap (λ c. not c && list_any (λ j. eqb j (place N b.owner.view.name)) row) (is_type_back b.owner a.owner ∙ same_number T distinct k l a.owner b.owner ak bl)
      ∙ ap (λ n. not (eqb k l) && list_any (λ j. eqb j n) row) (sym (head_name parts h b.owner is))

  pub not_below_itself : (k l : ℕ) (t u : Placed) → HasTypeAt T k t → HasTypeAt T l u → k ≡ l → is_above T t u ≡ false
  not_below_itself k l t u a b e =
      let same_type : t ≡ u = same_at T l t u (subst (λ j. HasTypeAt T j t) e a) b in
      ap (is_above T t) (sym same_type) ∙ not_circular T distinct t (has_in T k t a) (known_are_acyclic (placed parts) t (has_in T k t a))

  -- ---- the interface of a mentioned name

  given : (y : ℕ) (r : Option Placed) → IsTypeNumber T (Some y) r → (u : Placed) × (r ≡ Some u) × HasTypeAt T y u
  given y None h = absurd h
  given y (Some u) h = (u, refl, h)

  module _ (k : ℕ) (x : Placed) (h : HasTypeAt T k x) (n : ℕ) where
    named_above : (y : ℕ) (u : Placed) → HasTypeAt T y u → (y ≡ k → ⊥) → type_named T (text_at N n) ≡ Some u → IsMentioned parts x n → (is_interface u ≡ true) × Contains (above T x) u
    unfolding above
    named_above y u g other e m =
        elim (or_cases (mentions_at N T n x) (list_any (mentions_at N T n) (above T x)) m) [
          | inl a ↦ absurd (let same_type : u ≡ x = one x (IsIn-from_Contains T x (has_in T k x h)) a in
              other (one_place T y k u distinct g (subst (HasTypeAt T k) (sym same_type) h)))
          | inr b ↦ (let v = in_any (mentions_at N T n) (above T x) b in
              let same_type : u ≡ v.0 = one v.0 (IsIn-from_Contains T v.0 (walk_end (walk_from_led links T x v.0 (Contains-from_IsIn _ v.0 v.1)))) v.2 in
              (interface v.0 v.2, subst (Contains (above T x)) (sym same_type) (Contains-from_IsIn _ v.0 v.1)))
        ]
      where
        found : IsIn u T × (is_named (text_at N n) u ≡ true)
        found = find_in (is_named (text_at N n)) T u e

        rest : (v : Placed) → mentions_at N T n v ≡ true → (is_class_name T (text_at N n) ≡ false) × (mentions T (text_at N n) v ≡ true)
        rest v q =
            let r = and_second (ltb n (length N)) (not (is_class_name T (text_at N n)) && mentions T (text_at N n) v) q in (
              not-true (is_class_name T (text_at N n)) (and_first (not (is_class_name T (text_at N n))) (mentions T (text_at N n) v) r),
              and_second (not (is_class_name T (text_at N n))) (mentions T (text_at N n) v) r,
            )

        one : (v : Placed) → IsIn v T → mentions_at N T n v ≡ true → u ≡ v
        one v i q =
            elim (or_cases (is_named (text_at N n) v) (is_none (type_named T (text_at N n)) && contains (text_at N n) (names_of v)) (rest v q).1) [
              | inl b ↦ one_of_name T u v distinct found.0 i (ap (λ t. same t v.view.name) (sym ((bytes_decides (text_at N n) u.view.name).0 found.1)) ∙ b)
              | inr b ↦ absurd (let a = and_first (is_none (type_named T (text_at N n))) (contains (text_at N n) (names_of v)) b in let c : is_none (type_named T (text_at N n)) ≡ false = ap is_none e in cc)
            ]

        interface : (v : Placed) → mentions_at N T n v ≡ true → is_interface u ≡ true
        interface v q = at (is_interface u) refl
          where
            at : (b : Bool) → is_interface u ≡ b → b ≡ true
            at true f = refl
            at false f = absurd (
                let on : is_class_name T (text_at N n) ≡ true = any_in (λ t. is_named (text_at N n) t && is_class t) T u found.0 (and_from (is_named (text_at N n) u) (is_class u) found.1 (ap not f)) in
                let off = (rest v q).0 in
                cc)

    module _ (s : Signature) where
      abbrev S : List Node
      S = super_methods T x s

      of_name : (o : Node) → Contains S o → is_of parts n o ≡ true → type_named T (text_at N n) ≡ Some o.owner
      of_name o c e = find_type T distinct (text_at N n) o.owner (owner_in o (super_is x s o c).node_in) e

      pub unnamed : IsTypeNumber T None (type_named T (text_at N n)) → IsOnly parts S (is_of parts n) None
      unnamed g = λ o c. false_from_ne_true _ (λ e. subst (IsTypeNumber T None) (of_name o c e) g)

      module _ (y : ℕ) (g : IsTypeNumber T (Some y) (type_named T (text_at N n))) where
        owner_at : (o : Node) → Contains S o → is_of parts n o ≡ true → HasTypeAt T y o.owner
        owner_at o c e = subst (IsTypeNumber T (Some y)) (of_name o c e) g

        pub itself : y ≡ k → IsOnly parts S (is_of parts n) None
        unfolding above
        itself q = λ o c. false_from_ne_true _ (λ e. (
            let same_type : o.owner ≡ x = same_at T k o.owner x (subst (λ j. HasTypeAt T j o.owner) q (owner_at o c e)) h in
            known_are_acyclic (placed parts) x (has_in T k x h) (walk_from_led links T x x (subst (Contains (above T x)) same_type (super_is x s o c).above'))))

        module _ (apart : AreApart T) where
          declared_there : (o : Node) → Contains S o → declared T s o.owner ≡ Some o
          declared_there o c = (let r = super_is x s o c in of_node T distinct apart o.owner s o r.node_in (is_type_self o.owner) r.signature)

          pub undeclared : ((u : Placed) → HasTypeAt T y u → IsNumberOf T None (declared T s u)) → IsOnly parts S (is_of parts n) None
          undeclared d = λ o c. false_from_ne_true _ (λ e. subst (IsNumberOf T None) (declared_there o c) (d o.owner (owner_at o c e)))

          module _ (id : MethodId) (d : (u : Placed) → HasTypeAt T y u → IsNumberOf T (Some id.0) (declared T s u)) where
            pub closed : ((m : Node) → HasNodeAt T id.0 m → false ≡ not (is_private m.method || is_static m.method)) → IsOnly parts S (is_of parts n) None
            closed f = λ o c. false_from_ne_true _ (λ e. (
                let off = f o (subst (IsNumberOf T (Some id.0)) (declared_there o c) (d o.owner (owner_at o c e))) in
                let r = super_is x s o c in
                let on = ap not (or_from (is_private o.method) (is_static o.method) r.not_private r.not_static) in
                absurd cc))

            pub declared_open : (y ≡ k → ⊥) → IsMentioned parts x n → ((m : Node) → HasNodeAt T id.0 m → true ≡ not (is_private m.method || is_static m.method)) → IsOnly parts S (is_of parts n) (Some id)
            declared_open other m f = at (declared T s u.0) refl (d u.0 u.2)
              where
                u : (u : Placed) × (type_named T (text_at N n) ≡ Some u) × HasTypeAt T y u
                u = given y (type_named T (text_at N n)) g

                at : (r : Option Node) → declared T s u.0 ≡ r → IsNumberOf T (Some id.0) r → IsOnly parts S (is_of parts n) (Some id)
                at None e i = absurd i
                at (Some o) e i =
                    let r = declared_is T u.0 s o e in
                    let a = named_above y u.0 u.2 other u.1 m in
                    let in_types = find_in (is_named (text_at N n)) T u.0 u.1 in
                    let own : u.0 ≡ o.owner = one_of_name T u.0 o.owner distinct in_types.0 (node_owner T o r.0) r.1 in
                    let p = open_parts (is_private o.method) (is_static o.method) (f o i) in (
                      o,
                      i,
                      (super_members T distinct x s o).1 record {
                        node_in = Contains-from_IsIn _ o r.0;
                        above' = subst (Contains (above T x)) own a.1;
                        interface = ap is_interface (sym own) ∙ a.0;
                        signature = r.2;
                        not_private = p.0;
                        not_static = p.1;
                      },
                      ap (is_named (text_at N n)) (sym own) ∙ in_types.1,
                      λ v c q. one v c q,
                    )
                  where
                    open_parts : (a b : Bool) → true ≡ not (a || b) → (a ≡ false) × (b ≡ false)
                    open_parts true b q = absurd cc
                    open_parts false true q = absurd cc
                    open_parts false false q = (refl, refl)

                    one : (v : Node) → Contains S v → is_of parts n v ≡ true → v ≡ o
                    one v c q =
                        let w : Some u.0 ≡ Some v.owner = sym u.1 ∙ of_name v c q in
                        let own : u.0 ≡ v.owner = cc in
                        let z : Some v ≡ Some o = sym (declared_there v c) ∙ ap (declared T s) (sym own) ∙ e in
                        cc
