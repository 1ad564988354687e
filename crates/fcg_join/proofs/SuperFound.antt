-- The only one and the first of the methods whose owners have some names.
use Rattle.std.proofs.Common.{◌≡◌, ℕ, ◌+◌, ◌<◌, ◌≤◌, List, [], ◌∷◌, length, take, cond, ltb, get_or, refl, sym, ap, subst, ◌∙◌, inl, inr, arith}
use Rattle.std.specs.Prelude.{Bool, true, false, not, ◌||◌, Option, Some, None, IfSome, is_some, filter, Contains}
use Rattle.std.specs.List.{list_any}
use Rattle.std.specs.List.Sorted.{IsStrictlyIncreasing}
use Rattle.std.specs.Option.{option_or}
use Rattle.std.specs.Cmp.Lexicographic.{bytes_decides}
use Rattle.std.proofs.Math.Bool.{or-false}
use Rattle.std.proofs.lemmas.Bool.{or_cases, or_left, or_right, or_from, false_from_ne_true, not-true}
use Rattle.std.proofs.lemmas.Bool.Decides.{Decides-eqb, Decides-ltb}
use Rattle.std.proofs.lemmas.List.{take_more, take_all, length-take-le, get_or-take, get_or_default}
use Rattle.std.proofs.lemmas.List.Folds.{list_any-append}
use Rattle.std.proofs.lemmas.List.Kept.{AllPairs-from_increasing}
use Rattle.fcg_grammar.specs.Table.{place}
use Rattle.fcg_grammar.proofs.TableLaws.{place_at, table_rises}
use Rattle.fcg_partial.specs.Parts.{PartShown}
use Rattle.fcg_analysis.specs.NamesAndFlags.{one, first_of_list}
use Rattle.fcg_analysis.specs.Declarations.{Placed, Signature, is_abstract}
use Rattle.fcg_analysis.specs.Types.{is_above}
use Rattle.fcg_analysis.specs.Nodes.{Node, nodes, super_methods, specific, one_default, first_super_method}
use Rattle.fcg_analysis.proofs.General.Members.{IsIn, IsIn-from_Contains, Contains-from_IsIn, filter_in, in_filter, in_any}
use Rattle.fcg_analysis.proofs.General.Sorted.{all_from_in, in_all}
use Rattle.fcg_analysis.proofs.NodeLaws.{Rising, nodes_rise}
use Rattle.fcg_analysis.proofs.NodeMembers.{one_node}
use Rattle.fcg_analysis.proofs.NodePlaces.{of_method_at}
use Rattle.fcg_analysis.proofs.SuperMethods.{super_in, specifics, specific_in, first_is_least, first_in}
use Rattle.fcg_join.specs.declared.id.MethodId.{MethodId}
use Rattle.fcg_join.specs.Names.{text_at}
use Rattle.fcg_join.specs.TypeTables.{IsUpwardRow, mentions_at}
use Rattle.fcg_join.specs.Parts.{types_of}
use Rattle.fcg_join.specs.Joined.{HasNode, GivesNode}
use Rattle.fcg_join.specs.SetNames.{all_names, set_names}
use Rattle.fcg_join.specs.Internal.Supers.{is_of, is_of_any, IsOnly, IsLeast, first_of, defaults}
use Rattle.fcg_join.proofs.SuperAnswers.{mentioned_small}

module _ (parts : List PartShown) where
  abbrev N : List (List ℕ)
  N = set_names parts

  abbrev T : List Placed
  T = types_of parts

  -- ---- one name more

  pub of_one_more : (row : List ℕ) (i d : ℕ) → i < length row → (o : Node) → is_of_any parts (take (i + 1) row) o ≡ (is_of_any parts (take i row) o || is_of parts (get_or row i d) o)
  of_one_more row i d l o =
      ap (λ ns. is_of_any parts ns o) (take_more row i d l) ∙ list_any-append (λ n. is_of parts n o) (take i row) (get_or row i d ∷ [])
      ∙ ap (λ b. is_of_any parts (take i row) o || b) (or-false (is_of parts (get_or row i d) o))

  pub of_all : (row : List ℕ) (i : ℕ) → length row ≤ i → (o : Node) → is_of_any parts (take i row) o ≡ is_of_any parts row o
  of_all row i l o = ap (λ ns. is_of_any parts ns o) (take_all i row l)

  module _ (ms : List Node) (p q r : Node → Bool) (joined : (o : Node) → r o ≡ (p o || q o)) where
    neither : (o : Node) → p o ≡ false → q o ≡ false → r o ≡ false
    neither o a b = joined o ∙ or_from (p o) (q o) a b

    of_second : (o : Node) → p o ≡ false → r o ≡ true → q o ≡ true
    of_second o a e = elim (or_cases (p o) (q o) (sym (joined o) ∙ e)) [ inl k ↦ absurd cc | inr k ↦ k ]

    of_first : (o : Node) → q o ≡ false → r o ≡ true → p o ≡ true
    of_first o a e = elim (or_cases (p o) (q o) (sym (joined o) ∙ e)) [ inl k ↦ k | inr k ↦ absurd cc ]

    pub only_more : (a b : Option MethodId) → (is_some a ≡ true → is_some b ≡ true → ⊥) → IsOnly parts ms p a → IsOnly parts ms q b → IsOnly parts ms r (option_or a b)
    only_more None None n f g = λ o c. neither o (f o c) (g o c)
    only_more None (Some b) n f g =
        (g.0, g.1, g.2, joined g.0 ∙ or_right (p g.0) (q g.0) g.3, λ o c e. g.4 o c (of_second o (f o c) e))
    only_more (Some a) None n f g =
        (f.0, f.1, f.2, joined f.0 ∙ or_left (p f.0) (q f.0) f.3, λ o c e. f.4 o c (of_first o (g o c) e))
    only_more (Some a) (Some b) n f g = absurd (n refl refl)

    number_is : (id : MethodId) (m : Node) → HasNode parts id m → m.number ≡ id.0
    number_is id m h = (of_method_at T id.0 m h).number

    pub least_more : (a b : Option MethodId) → IsLeast parts ms p a → IsOnly parts ms q b → IsLeast parts ms r (first_of a b)
    least_more None None f g = λ o c. neither o (f o c) (g o c)
    least_more None (Some b) f g =
        (g.0, g.1, g.2, joined g.0 ∙ or_right (p g.0) (q g.0) g.3, λ o c e. (let same = ap (λ (v : Node). v.number) (g.4 o c (of_second o (f o c) e)) in omega arith))
    least_more (Some a) None f g =
        (f.0, f.1, f.2, joined f.0 ∙ or_left (p f.0) (q f.0) f.3, λ o c e. f.4 o c (of_first o (g o c) e))
    least_more (Some a) (Some b) f g = at (ltb b.0 a.0) refl
      where
        before : (b.0 < a.0) → (o : Node) → Contains ms o → r o ≡ true → g.0.number ≤ o.number
        before l o c e =
            let j = number_is a f.0 f.1 in
            let k = number_is b g.0 g.1 in
            elim (or_cases (p o) (q o) (sym (joined o) ∙ e)) [
              | inl i ↦ (let m = f.4 o c i in omega arith)
              | inr i ↦ (let same = ap (λ (v : Node). v.number) (g.4 o c i) in omega arith)
            ]

        after : (b.0 < a.0 → ⊥) → (o : Node) → Contains ms o → r o ≡ true → f.0.number ≤ o.number
        after l o c e =
            let j = number_is a f.0 f.1 in
            let k = number_is b g.0 g.1 in
            let n : a.0 ≤ b.0 = omega (arith, l) in
            elim (or_cases (p o) (q o) (sym (joined o) ∙ e)) [
              | inl i ↦ f.4 o c i
              | inr i ↦ (let same = ap (λ (v : Node). v.number) (g.4 o c i) in omega arith)
            ]

        at : (v : Bool) → ltb b.0 a.0 ≡ v → IsLeast parts ms r (cond v (Some b) (Some a))
        at true e = (g.0, g.1, g.2, joined g.0 ∙ or_right (p g.0) (q g.0) g.3, before ((Decides-ltb b.0 a.0).0 e))
        at false e = (f.0, f.1, f.2, joined f.0 ∙ or_left (p f.0) (q f.0) f.3, after (λ l. (let on = (Decides-ltb b.0 a.0).1 l in cc)))

  -- ---- their numbers

  pub first_within : (a b r : Option MethodId) → r ≡ first_of a b → IfSome a (λ m. m.0 < length (nodes T)) → IfSome b (λ m. m.0 < length (nodes T)) → IfSome r (λ m. m.0 < length (nodes T))
  first_within a b r e f g = subst (λ (o : Option MethodId). IfSome o (λ m. m.0 < length (nodes T))) (sym e) (at a b f g)
    where
      at : (a b : Option MethodId) → IfSome a (λ m. m.0 < length (nodes T)) → IfSome b (λ m. m.0 < length (nodes T)) → IfSome (first_of a b) (λ m. m.0 < length (nodes T))
      at None b f g = g
      at (Some a) None f g = f
      at (Some a) (Some b) f g = elim (ltb b.0 a.0) as (λ v. IfSome (cond v (Some b) (Some a)) (λ m. m.0 < length (nodes T))) [ true ↦ g | false ↦ f ]

  pub or_within : (a b r : Option MethodId) → r ≡ option_or a b → IfSome a (λ m. m.0 < length (nodes T)) → IfSome b (λ m. m.0 < length (nodes T)) → IfSome r (λ m. m.0 < length (nodes T))
  or_within a b r e f g = subst (λ (o : Option MethodId). IfSome o (λ m. m.0 < length (nodes T))) (sym e) (at a b f g)
    where
      at : (a b : Option MethodId) → IfSome a (λ m. m.0 < length (nodes T)) → IfSome b (λ m. m.0 < length (nodes T)) → IfSome (option_or a b) (λ m. m.0 < length (nodes T))
      at None b f g = g
      at (Some a) b f g = f

  -- ---- the first superinterface method

  some_first : (x : Placed) (s : Signature) (o : Node) → Contains (super_methods T x s) o → first_super_method T x s ≡ None → ⊥
  unfolding first_super_method
  some_first x s o c e = none (super_methods T x s) (IsIn-from_Contains _ o c) e
    where
      none : (ms : List Node) → IsIn o ms → first_of_list ms ≡ None → ⊥
      none [] i g = i
      none (m ∷ ms) i g = absurd cc

  pub first_is : (x : Placed) (s : Signature) (p : Node → Bool) → ((o : Node) → Contains (super_methods T x s) o → p o ≡ true) → (found : Option MethodId)
      → IsLeast parts (super_methods T x s) p found → GivesNode parts found (first_super_method T x s)
  first_is x s p all found f = at found (first_super_method T x s) refl f
    where
      at : (a : Option MethodId) (r : Option Node) → first_super_method T x s ≡ r → IsLeast parts (super_methods T x s) p a → GivesNode parts a r
      at None None e g = tt
      at None (Some m) e g =
          let c = Contains-from_IsIn _ m (first_in T x s m e) in
          let on = all m c in
          let off = g m c in
          absurd cc
      at (Some id) None e g = absurd (some_first x s g.0 g.2 e)
      at (Some id) (Some m) e g =
          let c = Contains-from_IsIn _ m (first_in T x s m e) in
          let low = first_is_least T x s m g.0 e g.2 in
          let high = g.4 m c (all m c) in
          let number : m.number ≡ g.0.number = omega (arith, low) in
          let same = one_node T m g.0 (Contains-from_IsIn _ m (super_in T x s m (first_in T x s m e)).0) (Contains-from_IsIn _ g.0 (super_in T x s g.0 (IsIn-from_Contains _ g.0 g.2)).0) ((Decides-eqb m.number g.0.number).1 number) in
          subst (λ (v : Node). HasNode parts id v) (sym same) g.1

  -- ---- the methods that aren't abstract, of the maximally-specific ones

  module _ (x : Placed) (s : Signature) where
    abbrev below : Node → Bool
    below m = list_any (λ o. is_above T o.owner m.owner) (super_methods T x s)

    pub default_is_super : (m : Node) → Contains (defaults T x s) m → Contains (super_methods T x s) m × (is_abstract m.method ≡ false) × (below m ≡ false)
    default_is_super m c =
        let r = in_filter (λ m. not (is_abstract m.method)) (specific T x s) m (IsIn-from_Contains _ m c) in
        let t = specific_in T x s m r.0 in
        (Contains-from_IsIn _ m t.0, not-true (is_abstract m.method) r.1, t.1)

    super_is_default : (m : Node) → Contains (super_methods T x s) m → is_abstract m.method ≡ false → below m ≡ false → Contains (defaults T x s) m
    super_is_default m c a b =
        Contains-from_IsIn _ m (filter_in (λ m. not (is_abstract m.method)) (specific T x s) m
        (subst (IsIn m) (sym (specifics T x s)) (filter_in (λ m. not (below m)) (super_methods T x s) m (IsIn-from_Contains _ m c) (ap not b)))
        (ap not a))

    module _ (p : Node → Bool) where
      pub no_default : IsOnly parts (super_methods T x s) p None → IsOnly parts (defaults T x s) p None
      no_default f = λ o c. f o (default_is_super o c).0

      module _ (id : MethodId) (f : IsOnly parts (super_methods T x s) p (Some id)) where
        pub a_default : ((m : Node) → HasNode parts id m → Contains (super_methods T x s) m → (is_abstract m.method ≡ false) × (below m ≡ false)) → IsOnly parts (defaults T x s) p (Some id)
        a_default g = (let r = g f.0 f.1 f.2 in (f.0, f.1, super_is_default f.0 f.2 r.0 r.1, f.3, λ o c e. f.4 o (default_is_super o c).0 e))

        pub not_default : ((m : Node) → HasNode parts id m → Contains (defaults T x s) m → ⊥) → IsOnly parts (defaults T x s) p None
        not_default g = λ o c. false_from_ne_true _ (λ e. (
            let same = f.4 o (default_is_super o c).0 e in
            g f.0 f.1 (subst (Contains (defaults T x s)) same c)))

    -- ---- the one of these

    rising_kept : (q : Node → Bool) (ms : List Node) → Rising ms → Rising (filter q ms)
    unfolding Rising
    rising_kept q [] r = tt
    rising_kept q (m ∷ ms) r = at (q m) (rising_kept q ms r.1)
      where
        at : (b : Bool) → Rising (filter q ms) → Rising (cond b (m ∷ filter q ms) (filter q ms))
        at true k = (all_from_in (λ n. m.number < n.number) (filter q ms) (λ n i. in_all (λ n. m.number < n.number) ms n r.0 (in_filter q ms n i).0), k)
        at false k = k

    defaults_rise : Rising (defaults T x s)
    unfolding super_methods specific
    defaults_rise = rising_kept _ _ (rising_kept _ _ (rising_kept _ _ (nodes_rise T)))

    one_of : (ms : List Node) (m : Node) → Rising ms → IsIn m ms → ((o : Node) → IsIn o ms → o ≡ m) → one ms ≡ Some m
    unfolding Rising
    one_of [] m r i f = absurd i
    one_of (n ∷ []) m r i f = ap (λ v. Some v) (f n (inl refl))
    one_of (n ∷ o ∷ ms) m r i f = absurd (
        let less : n.number < o.number = r.0.0 in
        let a = ap (λ (v : Node). v.number) (f n (inl refl)) in
        let b = ap (λ (v : Node). v.number) (f o (inr (inl refl))) in
        omega arith)

    none_of_two : (ms : List Node) (m n : Node) → IsIn m ms → IsIn n ms → (m ≡ n → ⊥) → one ms ≡ None
    none_of_two [] m n i j f = refl
    none_of_two (o ∷ []) m n (inl a) (inl b) f = absurd (f (sym a ∙ b))
    none_of_two (o ∷ []) m n (inl a) (inr b) f = absurd b
    none_of_two (o ∷ []) m n (inr a) j f = absurd a
    none_of_two (o ∷ p ∷ ms) m n i j f = refl

    default_there : one_default T x s ≡ one (defaults T x s)
    unfolding one_default
    default_there = refl

    pub only_default : (p : Node → Bool) → ((o : Node) → Contains (super_methods T x s) o → p o ≡ true) → (found : Option MethodId)
        → IsOnly parts (defaults T x s) p found → GivesNode parts found (one_default T x s)
    only_default p all found f = subst (GivesNode parts found) (sym default_there) (at found f)
      where
        passes : (o : Node) → Contains (defaults T x s) o → p o ≡ true
        passes o c = all o (default_is_super o c).0

        none : (ms : List Node) → ((o : Node) → IsIn o ms → ⊥) → one ms ≡ None
        none [] g = refl
        none (m ∷ ms) g = absurd (g m (inl refl))

        at : (a : Option MethodId) → IsOnly parts (defaults T x s) p a → GivesNode parts a (one (defaults T x s))
        at None g =
            subst (GivesNode parts None) (sym (none (defaults T x s) (λ o i. (
            let c = Contains-from_IsIn _ o i in
            let on = passes o c in
            let off = g o c in
            absurd cc)))) tt
        at (Some id) g =
            subst (GivesNode parts (Some id)) (sym (one_of (defaults T x s) g.0 defaults_rise (IsIn-from_Contains _ g.0 g.2) (λ o i. (
            let c = Contains-from_IsIn _ o i in
            g.4 o c (passes o c))))) g.1

    -- a name of two numbers of a row
    one_number : (k l : ℕ) → k < length N → l < length N → text_at N k ≡ text_at N l → k ≡ l
    unfolding set_names
    one_number k l a b e = sym (place_at N k [] (table_rises (all_names parts)) a) ∙ ap (place N) e ∙ place_at N l [] (table_rises (all_names parts)) b

    pub two_defaults : (row : List ℕ) → IsStrictlyIncreasing row → IsUpwardRow T (mentions_at N T) x row → (i d : ℕ) → i < length row → (a b : Option MethodId) → is_some a ≡ true → is_some b ≡ true
        → IsOnly parts (defaults T x s) (is_of_any parts (take i row)) a → IsOnly parts (defaults T x s) (is_of parts (get_or row i d)) b → GivesNode parts None (one_default T x s)
    two_defaults row rise up i d l None b e f g h = absurd cc
    two_defaults row rise up i d l (Some a) None e f g h = absurd cc
    two_defaults row rise up i d l (Some a) (Some b) e f g h =
        subst (GivesNode parts None) (sym (default_there ∙ none_of_two (defaults T x s) g.0 h.0 (IsIn-from_Contains _ g.0 g.2) (IsIn-from_Contains _ h.0 h.2) other)) tt
      where
        small : (n : ℕ) → Contains row n → n < length N
        small n c = mentioned_small parts x n ((up n).0 c)

        other : g.0 ≡ h.0 → ⊥
        other q =
            let j = in_any (λ n. is_of parts n g.0) (take i row) g.3 in
            let c : Contains (take i row) j.0 = Contains-from_IsIn _ j.0 j.1 in
            let k = c.0 in
            let before : (k < i) × (get_or row k 0 ≡ j.0) = taken row i k j.0 (omega arith) c.1 c.2 in
            let here : Contains row (get_or row i d) = (i, l, get_or_default row i (get_or row i d) d l) in
            let there : Contains row j.0 = (k, (let m = before.0 in omega arith), get_or_default row k j.0 0 (let m = before.0 in omega arith) ∙ before.1) in
            let text : text_at N j.0 ≡ text_at N (get_or row i d) =
            (bytes_decides (text_at N j.0) g.0.owner.view.name).0 j.2 ∙ ap (λ (v : Node). v.owner.view.name) q ∙ sym ((bytes_decides (text_at N (get_or row i d)) h.0.owner.view.name).0 h.3) in
            let same : j.0 ≡ get_or row i d = one_number j.0 (get_or row i d) (small j.0 there) (small (get_or row i d) here) text in
            let less = AllPairs-from_increasing row rise k i 0 before.0 l in
            let at = get_or_default row i 0 d l in
            let m = before.1 in
            omega arith
          where
            taken : (ns : List ℕ) (i k n : ℕ) → i ≤ length ns → k < length (take i ns) → get_or (take i ns) k n ≡ n → (k < i) × (get_or ns k 0 ≡ n)
            taken ns i k n a b e =
                let long = length-take-le i ns a in
                let l : k < i = omega arith in
                (l, get_or_default ns k 0 n (omega arith) ∙ sym (get_or-take i ns k n l) ∙ e)
