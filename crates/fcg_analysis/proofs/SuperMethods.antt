-- Superinterface methods, the maximally-specific ones and the one default.
use Rattle.std.proofs.Common.{◌≡◌, ℕ, zero, suc, ◌+◌, ◌<◌, ◌≤◌, List, [], ◌∷◌, length, refl, sym, ap, subst, ◌∙◌, inl, inr, arith}
use Rattle.std.specs.Prelude.{◌↔◌, Bool, true, false, not, cond, ◌&&◌, ◌||◌, filter, Some, None, Contains}
use Rattle.std.specs.List.{list_any, IsDistinct}
use Rattle.std.proofs.lemmas.Bool.{and_from, or_parts, or_from, false_from_ne_true, not-true}
use Rattle.fcg_analysis.specs.NamesAndFlags.{one, first_of_list}
use Rattle.fcg_analysis.specs.Declarations.{Placed, Signature, is_type, is_interface, is_private, is_static, is_abstract, has_signature}
use Rattle.fcg_analysis.specs.Types.{links, above, is_above}
use Rattle.fcg_analysis.specs.Nodes.{Node, nodes, super_methods, specific, one_default, first_super_method}
use Rattle.fcg_analysis.specs.Laws.Statements.{IsAcyclic}
use Rattle.fcg_analysis.specs.Laws.Methods.{IsSuperMethod, IsMaximal, HasSpecific, SameInterfaces}
use Rattle.fcg_analysis.proofs.General.Members.{IsIn, IsIn-from_Contains, Contains-from_IsIn, filter_in, in_filter, any_in, in_any, and_first, and_second}
use Rattle.fcg_analysis.proofs.General.Finding.{filter_alike}
use Rattle.fcg_analysis.proofs.General.Sorted.{in_all}
use Rattle.fcg_analysis.proofs.General.Walking.{walk_from_led}
use Rattle.fcg_analysis.proofs.LineLaws.{height, height_less, height_small}
use Rattle.fcg_analysis.proofs.NameLaws.{above_from_name, name_from_above}
use Rattle.fcg_analysis.proofs.NodeLaws.{Rising, nodes_rise}
use Rattle.fcg_analysis.proofs.OverrideLaws.{node_owner}
use Rattle.fcg_analysis.proofs.WinnerLaws.{above_joined}

-- what is asked of a superinterface method beside its interface
abbrev is_open_one : Signature → Node → Bool
is_open_one s m = has_signature s m.method && not (is_private m.method || is_static m.method)

abbrev is_super : List Placed → Placed → Signature → Node → Bool
is_super types t s m = has_signature s m.method && not (is_private m.method || is_static m.method) && is_interface m.owner && is_above types t m.owner

supers : (types : List Placed) (t : Placed) (s : Signature) → super_methods types t s ≡ filter (is_super types t s) (nodes types)
unfolding super_methods
supers types t s = refl

pub super_in : (types : List Placed) (t : Placed) (s : Signature) (m : Node) → IsIn m (super_methods types t s) → IsIn m (nodes types) × (is_super types t s m ≡ true)
super_in types t s m h = in_filter (is_super types t s) (nodes types) m (subst (IsIn m) (supers types t s) h)

pub super_signature : (types : List Placed) (t : Placed) (s : Signature) (m : Node) → IsIn m (super_methods types t s) → has_signature s m.method ≡ true
super_signature types t s m h =
    let r = super_in types t s m h in
    and_first (has_signature s m.method) (not (is_private m.method || is_static m.method))
    (and_first (is_open_one s m) (is_interface m.owner) (and_first (is_open_one s m && is_interface m.owner) (is_above types t m.owner) r.1))

pub super_is_open : (types : List Placed) (t : Placed) (s : Signature) (m : Node) → IsIn m (super_methods types t s) → (is_private m.method ≡ false) × (is_static m.method ≡ false)
super_is_open types t s m h =
    let r = super_in types t s m h in
    or_parts (is_private m.method) (is_static m.method) (not-true (is_private m.method || is_static m.method)
    (and_second (has_signature s m.method) (not (is_private m.method || is_static m.method))
    (and_first (is_open_one s m) (is_interface m.owner) (and_first (is_open_one s m && is_interface m.owner) (is_above types t m.owner) r.1))))

pub super_members : (types : List Placed) → IsDistinct is_type types → (t : Placed) (s : Signature) (m : Node) → Contains (super_methods types t s) m ↔ IsSuperMethod types t s m
super_members types d t s m = (forth, back)
  where
    forth : Contains (super_methods types t s) m → IsSuperMethod types t s m
    forth c =
        let h = IsIn-from_Contains _ m c in
        let r = super_in types t s m h in
        let o = super_is_open types t s m h in
        record {
          node_in = Contains-from_IsIn _ m r.0;
          above' = above_from_name types d t m.owner (Contains-from_IsIn types m.owner (node_owner types m r.0)) (and_second (is_open_one s m && is_interface m.owner) (is_above types t m.owner) r.1);
          interface = and_second (is_open_one s m) (is_interface m.owner) (and_first (is_open_one s m && is_interface m.owner) (is_above types t m.owner) r.1);
          signature = super_signature types t s m h;
          not_private = o.0;
          not_static = o.1;
        }

    back : IsSuperMethod types t s m → Contains (super_methods types t s) m
    back r =
        Contains-from_IsIn _ m (subst (IsIn m) (sym (supers types t s)) (filter_in (is_super types t s) (nodes types) m (IsIn-from_Contains _ m r.node_in)
        (and_from (is_open_one s m && is_interface m.owner) (is_above types t m.owner)
        (and_from (is_open_one s m) (is_interface m.owner)
        (and_from (has_signature s m.method) (not (is_private m.method || is_static m.method)) r.signature (ap not (or_from (is_private m.method) (is_static m.method) r.not_private r.not_static)))
        r.interface)
        (name_from_above types t m.owner r.above'))))

pub supers_alike : (types : List Placed) (t u : Placed) → SameInterfaces types t u → (s : Signature) → super_methods types t s ≡ super_methods types u s
supers_alike types t u h s = supers types t s ∙ filter_alike (is_super types t s) (is_super types u s) (nodes types) alike ∙ sym (supers types u s)
  where
    at : (a b : Bool) → (c e : Bool) → (b ≡ true → c ≡ e) → (a && b && c) ≡ (a && b && e)
    at true true c e k = k refl
    at true false c e k = refl
    at false b c e k = refl

    alike : (m : Node) → IsIn m (nodes types) → is_super types t s m ≡ is_super types u s m
    alike m i = at (is_open_one s m) (is_interface m.owner) (is_above types t m.owner) (is_above types u m.owner) (h m.owner (Contains-from_IsIn types m.owner (node_owner types m i)))

-- the maximally-specific ones of these
abbrev most : List Placed → List Node → List Node
most types all = filter (λ m. not (list_any (λ o. is_above types o.owner m.owner) all)) all

pub specifics : (types : List Placed) (t : Placed) (s : Signature) → specific types t s ≡ most types (super_methods types t s)
unfolding specific
specifics types t s = refl

pub default_of : (types : List Placed) (t : Placed) (s : Signature) → one_default types t s ≡ one (filter (λ m. not (is_abstract m.method)) (most types (super_methods types t s)))
unfolding one_default specific
default_of types t s = refl

pub defaults_alike : (types : List Placed) (t u : Placed) → SameInterfaces types t u → (s : Signature) → one_default types t s ≡ one_default types u s
defaults_alike types t u h s =
    default_of types t s ∙ ap (λ all. one (filter (λ m. not (is_abstract m.method)) (most types all))) (supers_alike types t u h s) ∙ sym (default_of types u s)

-- ---- maximally-specific

pub specific_in : (types : List Placed) (t : Placed) (s : Signature) (m : Node) → IsIn m (specific types t s)
    → IsIn m (super_methods types t s) × (list_any (λ o. is_above types o.owner m.owner) (super_methods types t s) ≡ false)
specific_in types t s m h =
    let r = in_filter (λ m. not (list_any (λ o. is_above types o.owner m.owner) (super_methods types t s))) (super_methods types t s) m (subst (IsIn m) (specifics types t s) h) in
    (r.0, not-true _ r.1)

in_specific : (types : List Placed) (t : Placed) (s : Signature) (m : Node) → IsIn m (super_methods types t s)
    → list_any (λ o. is_above types o.owner m.owner) (super_methods types t s) ≡ false → IsIn m (specific types t s)
in_specific types t s m h e =
    subst (IsIn m) (sym (specifics types t s))
    (filter_in (λ m. not (list_any (λ o. is_above types o.owner m.owner) (super_methods types t s))) (super_methods types t s) m h (ap not e))

module _ (types : List Placed) (acyclic : IsAcyclic types) (distinct : IsDistinct is_type types) (t : Placed) (s : Signature) where
  owner_known : (m : Node) → IsIn m (super_methods types t s) → Contains types m.owner
  owner_known m h = Contains-from_IsIn types m.owner (node_owner types m (super_in types t s m h).0)

  below_joined : (n o m : Node) → Contains types o.owner → Contains types m.owner → is_above types n.owner o.owner ≡ true → is_above types o.owner m.owner ≡ true → is_above types n.owner m.owner ≡ true
  below_joined n o m c d h k =
      name_from_above types n.owner m.owner
      (above_joined types n.owner o.owner m.owner (above_from_name types distinct n.owner o.owner c h) (above_from_name types distinct o.owner m.owner d k))

  below_is_higher : (o m : Node) → Contains types m.owner → is_above types o.owner m.owner ≡ true → height types acyclic m.owner < height types acyclic o.owner
  unfolding above
  below_is_higher o m c h = height_less types acyclic m.owner o.owner (walk_from_led links types o.owner m.owner (above_from_name types distinct o.owner m.owner c h)) c

  some_specific : (k : ℕ) (m : Node) → IsIn m (super_methods types t s) → length types ≤ height types acyclic m.owner + k → HasSpecific types t s m
  some_specific zero m h l = absurd (let c = height_small types acyclic m.owner (owner_known m h) in omega arith)
  some_specific (suc k) m h l = at (list_any (λ o. is_above types o.owner m.owner) (super_methods types t s)) refl (λ o i j. some_specific k o i j)
    where
      joined : (o : Node) → IsIn o (super_methods types t s) → is_above types o.owner m.owner ≡ true → HasSpecific types t s o → HasSpecific types t s m
      joined o i e r = record {
        node = r.node;
        node_in = r.node_in;
        below = inr (elim r.below [
          | inl q ↦ ap (λ n. is_above types n.owner m.owner) q ∙ e
          | inr q ↦ below_joined r.node o m (owner_known o i) (owner_known m h) q e
        ]);
      }

      at : (b : Bool) → list_any (λ o. is_above types o.owner m.owner) (super_methods types t s) ≡ b
          → ((o : Node) → IsIn o (super_methods types t s) → length types ≤ height types acyclic o.owner + k → HasSpecific types t s o) → HasSpecific types t s m
      at false e r = record { node = m; node_in = Contains-from_IsIn _ m (in_specific types t s m h e); below = inl refl }
      at true e r =
          let o = in_any (λ o. is_above types o.owner m.owner) (super_methods types t s) e in
          let less : height types acyclic m.owner < height types acyclic o.0.owner = below_is_higher o.0 m (owner_known m h) o.2 in
          joined o.0 o.1 o.2 (r o.0 o.1 (omega arith))

  pub specific_there : (m : Node) → Contains (super_methods types t s) m → HasSpecific types t s m
  specific_there m c = some_specific (length types) m (IsIn-from_Contains _ m c) (omega arith)

  pub specific_is_maximal : (m : Node) → Contains (specific types t s) m ↔ IsMaximal types t s m
  specific_is_maximal m = (forth, back)
    where
      forth : Contains (specific types t s) m → IsMaximal types t s m
      forth c =
          let r = specific_in types t s m (IsIn-from_Contains _ m c) in
          record {
            method_in = Contains-from_IsIn _ m r.0;
            none_below = λ o d. false_from_ne_true _ (λ h. (let k = any_in (λ o. is_above types o.owner m.owner) (super_methods types t s) o (specific_in types t s o (IsIn-from_Contains _ o d)).0 h in let e = r.1 in cc));
          }

      back : IsMaximal types t s m → Contains (specific types t s) m
      back r = Contains-from_IsIn _ m (in_specific types t s m (IsIn-from_Contains _ m r.method_in) (false_from_ne_true _ lower))
        where
          lower : list_any (λ o. is_above types o.owner m.owner) (super_methods types t s) ≡ true → ⊥
          lower h =
              let o = in_any (λ o. is_above types o.owner m.owner) (super_methods types t s) h in
              let n = specific_there o.0 (Contains-from_IsIn _ o.0 o.1) in
              let under : is_above types n.node.owner m.owner ≡ true = elim n.below [
                | inl q ↦ ap (λ v. is_above types v.owner m.owner) q ∙ o.2
                | inr q ↦ below_joined n.node o.0 m (owner_known o.0 o.1) (owner_known m (IsIn-from_Contains _ m r.method_in)) q o.2
              ] in
              let e = r.none_below n.node n.node_in in
              cc

-- ---- the one default, and the first

one_is : (xs : List Node) (m : Node) → one xs ≡ Some m ↔ (xs ≡ m ∷ [])
one_is [] m = (λ e. absurd (cc), λ e. absurd (cc))
one_is (x ∷ []) m = (λ e. (let same : x ≡ m = cc in ap (λ y. y ∷ []) same), λ e. ap one e)
one_is (x ∷ y ∷ xs) m = (λ e. absurd (cc), λ e. absurd (cc))

pub default_is_only : (types : List Placed) (t : Placed) (s : Signature) (m : Node) → one_default types t s ≡ Some m ↔ (filter (λ n. not (is_abstract n.method)) (specific types t s) ≡ m ∷ [])
unfolding one_default
default_is_only types t s m = one_is (filter (λ n. not (is_abstract n.method)) (specific types t s)) m

pub default_in : (types : List Placed) (t : Placed) (s : Signature) (m : Node) → one_default types t s ≡ Some m → IsIn m (super_methods types t s) × (is_abstract m.method ≡ false)
default_in types t s m e =
    let r = in_filter (λ n. not (is_abstract n.method)) (specific types t s) m (subst (IsIn m) (sym ((default_is_only types t s m).0 e)) (inl refl)) in
    ((specific_in types t s m r.0).0, not-true (is_abstract m.method) r.1)

least_first : (p : Node → Bool) (ns : List Node) → Rising ns → (m n : Node) → first_of_list (filter p ns) ≡ Some m → IsIn n (filter p ns) → m.number ≤ n.number
unfolding Rising
least_first p [] r m n e h = absurd h
least_first p (x ∷ xs) r m n e h = at (p x) e h (least_first p xs r.1 m n)
  where
    at : (b : Bool) → first_of_list (cond b (x ∷ filter p xs) (filter p xs)) ≡ Some m → IsIn n (cond b (x ∷ filter p xs) (filter p xs))
        → (first_of_list (filter p xs) ≡ Some m → IsIn n (filter p xs) → m.number ≤ n.number) → m.number ≤ n.number
    at false f k rec = rec f k
    at true f (inl i) rec = let same : m ≡ n = (let q : x ≡ m = cc in sym q ∙ i) in let l : m.number ≡ n.number = ap (λ v. v.number) same in omega arith
    at true f (inr k) rec =
        let same : x ≡ m = cc in
        let l : x.number ≡ m.number = ap (λ v. v.number) same in
        let g : x.number < n.number = in_all (λ v. x.number < v.number) xs n r.0 (in_filter p xs n k).0 in
        omega arith

pub first_is_least : (types : List Placed) (t : Placed) (s : Signature) (m n : Node) → first_super_method types t s ≡ Some m → Contains (super_methods types t s) n → m.number ≤ n.number
unfolding first_super_method
first_is_least types t s m n e c =
    least_first (is_super types t s) (nodes types) (nodes_rise types) m n (ap first_of_list (sym (supers types t s)) ∙ e) (subst (IsIn n) (supers types t s) (IsIn-from_Contains _ n c))

pub first_in : (types : List Placed) (t : Placed) (s : Signature) (m : Node) → first_super_method types t s ≡ Some m → IsIn m (super_methods types t s)
unfolding first_super_method
first_in types t s m e = at (super_methods types t s) e
  where
    at : (xs : List Node) → first_of_list xs ≡ Some m → IsIn m xs
    at [] f = absurd (cc)
    at (x ∷ xs) f = inl (let same : x ≡ m = cc in same)

pub none_of_none : (types : List Placed) (t : Placed) (s : Signature) → first_super_method types t s ≡ None → one_default types t s ≡ None
unfolding first_super_method
none_of_none types t s e = default_of types t s ∙ at (super_methods types t s) e
  where
    at : (xs : List Node) → first_of_list xs ≡ None → one (filter (λ m. not (is_abstract m.method)) (most types xs)) ≡ None
    at [] f = refl
    at (x ∷ xs) f = absurd (cc)
