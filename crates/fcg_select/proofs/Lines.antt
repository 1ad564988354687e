-- Walking along a line of superclasses, and the names that its classes use.
use Rattle.std.proofs.Common.{◌≡◌, ℕ, zero, suc, ◌<◌, List, ◌∷◌, length, drop, eqb, refl, sym, ap, subst, ◌∙◌, arith}
use Rattle.std.specs.Prelude.{Bool, true, false, ◌||◌, ◌&&◌, Option, Some, None, IfSome, Contains, is_none, option_to_list, slice_get}
use Rattle.std.specs.List.{list_any}
use Rattle.std.specs.Cmp.Lexicographic.{bytes_decides}
use Rattle.std.proofs.lemmas.Bool.{false_from_ne_true, eqb-true, eqb-false}
use Rattle.std.proofs.lemmas.Option.{slice_get_within, get_or_from_slice_get}
use Rattle.std.proofs.Math.Bool.{or-false}
use Rattle.fcg_grammar.specs.Table.{place}
use Rattle.fcg_grammar.proofs.TableLaws.{place_at, table_rises}
use Rattle.fcg_partial.specs.Parts.{PartShown}
use Rattle.fcg_analysis.specs.NamesAndFlags.{same, contains}
use Rattle.fcg_analysis.specs.Declarations.{Placed, is_named, is_type}
use Rattle.fcg_analysis.specs.Types.{line, superclass, superclass_line, extends, type_named}
use Rattle.fcg_analysis.specs.Special.{is_superclass_name}
use Rattle.fcg_analysis.specs.Laws.Statements.{line_above}
use Rattle.fcg_analysis.proofs.General.Members.{IsIn, find_in, find_none}
use Rattle.fcg_analysis.proofs.LineLaws.{line_goes_on}
use Rattle.fcg_analysis.proofs.SpecialLaws.{name_of_line}
use Rattle.fcg_join.specs.declared.id.TypeId.{TypeId}
use Rattle.fcg_join.specs.declared.id.NameId.{NameId}
use Rattle.fcg_join.specs.Parts.{placed, types_of}
use Rattle.fcg_join.specs.Joined.{HasType, GivesType}
use Rattle.fcg_join.specs.SetNames.{all_names, set_names}
use Rattle.fcg_join.specs.Numbers.{HasName, GivesName}
use Rattle.fcg_select.specs.Internal.Target.{uses_superclass}
use Rattle.fcg_join.proofs.GraphRows.{item}
use Rattle.fcg_join.proofs.OwnMentions.{known_are_acyclic}
use Rattle.fcg_join.proofs.ChainWalks.{type_of, gives_there, range_of}
use Rattle.fcg_join.proofs.FoundNumbers.{type_there, type_at, type_known, no_type}

-- ---- names by their numbers

-- a name has one number
pub number_is : (parts : List PartShown) (id : NameId) (n : List ℕ) → HasName parts id n → place (set_names parts) n ≡ id.0
unfolding set_names
number_is parts id n h =
    ap (place (set_names parts)) (sym (get_or_from_slice_get (set_names parts) id.0 n n h)) ∙ place_at (set_names parts) id.0 n (table_rises (all_names parts)) (slice_get_within (set_names parts) id.0 n h)

entry_is : (n m : List ℕ) (b : Bool) (o : Option (List ℕ)) → o ≡ Some m → b ≡ same n m → b ≡ contains n (option_to_list o)
entry_is n m b o e h = h ∙ sym (ap (λ v. contains n (option_to_list v)) e ∙ or-false (same n m))

pub known_entry : (parts : List PartShown) (name : Option NameId) (a b : NameId) (n : List ℕ) (entry : Option (List ℕ)) (r : Bool) → name ≡ Some a → r ≡ eqb a.0 b.0 → GivesName parts name n → b.0 < length (set_names parts)
    → ((m : List ℕ) → HasName parts b m → entry ≡ Some m) → r ≡ contains n (option_to_list entry)
known_entry parts name a b n entry r q e g l k = at (eqb a.0 b.0) refl
  where
    h : HasName parts a n
    h = subst (λ o. GivesName parts o n) q g

    at : (v : Bool) → eqb a.0 b.0 ≡ v → r ≡ contains n (option_to_list entry)
    at true t =
        entry_is n n r entry (k n (ap (slice_get (set_names parts)) (sym (eqb-true a.0 b.0 t)) ∙ h)) (e ∙ t ∙ sym ((bytes_decides n n).1 refl))
    at false t =
        let m = item (set_names parts) b.0 l in
        entry_is n m.0 r entry (k m.0 m.1)
        (e ∙ t ∙ sym (false_from_ne_true (same n m.0) (λ s.
        eqb-false a.0 b.0 t (sym (number_is parts a n h) ∙ ap (place (set_names parts)) ((bytes_decides n m.0).0 s) ∙ number_is parts b m.0 m.1))))

pub unknown_entry : (parts : List PartShown) (name : Option NameId) (b : NameId) (n : List ℕ) (entry : Option (List ℕ)) → name ≡ None → GivesName parts name n → b.0 < length (set_names parts) → ((m : List ℕ) → HasName parts b m → entry ≡ Some m) → false ≡ contains n (option_to_list entry)
unknown_entry parts name b n entry q g l k =
    let m = item (set_names parts) b.0 l in
    let x : Contains (set_names parts) n → ⊥ = subst (λ o. GivesName parts o n) q g in
    entry_is n m.0 false entry (k m.0 m.1)
    (sym (false_from_ne_true (same n m.0) (λ s. x (subst (λ v. Contains (set_names parts) v) (sym ((bytes_decides n m.0).0 s)) (b.0, l, get_or_from_slice_get (set_names parts) b.0 m.0 m.0 m.1)))))

-- ---- the walk

-- how many types of the line are left
abbrev pub lines_left : List PartShown → Option TypeId → ℕ
lines_left parts at = length (line_above (types_of parts) (type_of parts at))

line_is : (parts : List PartShown) (t : TypeId) (y : Placed) → HasType parts t y → line (types_of parts) y ≡ y ∷ line_above (types_of parts) (superclass (types_of parts) y)
line_is parts t y h = line_goes_on (types_of parts) (known_are_acyclic (placed parts)) y (type_known parts t y h)

module _ (parts : List PartShown) (p : Placed → Bool) where
  -- a walk along the line of o has come to a type, or past the end, and met nothing before
  pub record Lines (o : Option Placed) (at : Option TypeId) : Type 0 where
    pub here : GivesType parts at (type_of parts at)
    pub same : list_any p (line_above (types_of parts) o) ≡ list_any p (line_above (types_of parts) (type_of parts at))

  pub begins : (start : Option TypeId) (o : Option Placed) → GivesType parts start o → Lines o start
  begins start o g =
      let e = gives_there parts start o g in
      record { here = subst (λ q. GivesType parts start q) (sym e) g; same = ap (λ q. list_any p (line_above (types_of parts) q)) (sym e) }

  at_type : (o : Option Placed) (at : Option TypeId) (t : TypeId) → at ≡ Some t → Lines o at
      → (y : Placed) × HasType parts t y × (list_any p (line_above (types_of parts) o) ≡ (p y || list_any p (line_above (types_of parts) (superclass (types_of parts) y))))
  at_type o at t e w =
      let v = subst (λ q. Lines o q) e w in
      let r = type_there parts t (slice_get (types_of parts) t.0) v.here in
      (r.0, r.2, v.same ∙ ap (λ q. list_any p (line_above (types_of parts) q)) r.2 ∙ ap (list_any p) (line_is parts t r.0 r.2))

  pub met : (o : Option Placed) (at : Option TypeId) (t : TypeId) → at ≡ Some t → Lines o at → ((y : Placed) → HasType parts t y → p y ≡ true) → true ≡ list_any p (line_above (types_of parts) o)
  met o at t e w h =
      let r = at_type o at t e w in
      sym (r.2 ∙ ap (λ v. v || list_any p (line_above (types_of parts) (superclass (types_of parts) r.0))) (h r.0 r.1))

  pub not_met : (o : Option Placed) (at : Option TypeId) (t : TypeId) (next : Option TypeId) → at ≡ Some t → Lines o at → ((y : Placed) → HasType parts t y → p y ≡ false)
      → ((y : Placed) → HasType parts t y → GivesType parts next (superclass (types_of parts) y)) → Lines o next
  not_met o at t next e w h g =
      let r = at_type o at t e w in
      let q = gives_there parts next (superclass (types_of parts) r.0) (g r.0 r.1) in
      record {
        here = subst (λ z. GivesType parts next z) (sym q) (g r.0 r.1);
        same = r.2 ∙ ap (λ v. v || list_any p (line_above (types_of parts) (superclass (types_of parts) r.0))) (h r.0 r.1) ∙ ap (λ z. list_any p (line_above (types_of parts) z)) (sym q);
      }

  pub ended : (o : Option Placed) (at : Option TypeId) → at ≡ None → Lines o at → false ≡ list_any p (line_above (types_of parts) o)
  ended o at e w = let v = subst (λ q. Lines o q) e w in sym v.same

pub less : (parts : List PartShown) (at : Option TypeId) (t : TypeId) (next : Option TypeId) → at ≡ Some t → IfSome at (λ u. u.0 < length (types_of parts))
    → ((y : Placed) → HasType parts t y → GivesType parts next (superclass (types_of parts) y)) → lines_left parts next < lines_left parts at
less parts at t next e h g =
    let y = type_at parts t (range_of parts at t e h) in
    let q = ap (λ z. length (line_above (types_of parts) z)) (gives_there parts next (superclass (types_of parts) y.0) (g y.0 y.1)) in
    let k = ap (λ z. length (line_above (types_of parts) z)) y.1 in
    let l = ap length (line_is parts t y.0 y.1) in
    subst (λ o. lines_left parts next < lines_left parts o) (sym e) (omega (arith, q, k, l))

-- ---- superclass names

-- no type of a line passes where no known type does
none_in_line : (types : List Placed) (p : Placed → Bool) → ((t : Placed) → IsIn t types → p t ≡ false) → (k : ℕ) (o : Option Placed) → ((t : Placed) → o ≡ Some t → IsIn t types) → list_any p (superclass_line k types o) ≡ false
none_in_line types p none k None i = refl
none_in_line types p none zero (Some t) i = refl
none_in_line types p none (suc k) (Some t) i =
    ap (λ v. v || list_any p (superclass_line k types (superclass types t))) (none t (i t refl))
    ∙ none_in_line types p none k (superclass types t) (λ s e. (find_in (extends t) types s e).0)

none_above : (types : List Placed) (p : Placed → Bool) → ((t : Placed) → IsIn t types → p t ≡ false) → (o : Option Placed) → ((t : Placed) → o ≡ Some t → IsIn t types) → list_any p (line_above types o) ≡ false
unfolding line
none_above types p none None i = refl
none_above types p none (Some t) i = none_in_line types p none (length types) (Some t) i

-- of a known type's name
pub of_known : (parts : List PartShown) (t u : TypeId) (owner : Option TypeId) (x : Placed) (n : List ℕ) (b : Bool) → owner ≡ Some u → HasType parts t x → GivesType parts owner (type_named (types_of parts) n)
    → ((v : Placed) → HasType parts u v → b ≡ list_any (is_type v) (line_above (types_of parts) (superclass (types_of parts) x))) → b ≡ is_superclass_name (types_of parts) x n
of_known parts t u owner x n b e h g k =
    let r = type_there parts u (type_named (types_of parts) n) (subst (λ o. GivesType parts o (type_named (types_of parts) n)) e g) in
    let s : n ≡ r.0.view.name = (bytes_decides n r.0.view.name).0 (find_in (is_named n) (types_of parts) r.0 r.1).1 in
    k r.0 r.2
    ∙ sym (name_of_line (types_of parts) (known_are_acyclic (placed parts)) x r.0 (type_known parts t x h) (type_known parts u r.0 r.2))
    ∙ ap (is_superclass_name (types_of parts) x) (sym s)

-- of a name that no known type has
pub of_absent : (parts : List PartShown) (t : TypeId) (owner : Option TypeId) (x : Placed) (n : List ℕ) (b : Bool) → owner ≡ None → HasType parts t x → GivesType parts owner (type_named (types_of parts) n)
    → b ≡ list_any (uses_superclass n) (line (types_of parts) x) → b ≡ is_superclass_name (types_of parts) x n
of_absent parts t owner x n b e h g k =
    let none : type_named (types_of parts) n ≡ None = no_type parts (type_named (types_of parts) n) (subst (λ o. GivesType parts o (type_named (types_of parts) n)) e g) in
    k ∙ sym (
    ap (λ own. list_any (is_named n) (drop 1 own) || is_none (type_named (types_of parts) n) && list_any (uses_superclass n) (line (types_of parts) x)) (line_is parts t x h)
    ∙ ap (λ v. v || is_none (type_named (types_of parts) n) && list_any (uses_superclass n) (line (types_of parts) x))
    (none_above (types_of parts) (is_named n) (λ y i. false_from_ne_true (is_named n y) (λ t. find_none (is_named n) (types_of parts) y none i t))
    (superclass (types_of parts) x) (λ s e. (find_in (extends x) (types_of parts) s e).0))
    ∙ ap (λ o. is_none o && list_any (uses_superclass n) (line (types_of parts) x)) none)
