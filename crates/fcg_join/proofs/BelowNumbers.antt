-- The class of a number of a name, and what is at or below the name.
use Rattle.std.proofs.Common.{◌≡◌, ℕ, ◌<◌, List, [], length, get_or, sym, ap, subst, ◌∙◌, arith}
use Rattle.std.specs.Prelude.{All, true, false, ◌&&◌, ◌||◌, ◌==◌, Option, Some, None}
use Rattle.std.specs.List.{IsDistinct, list_any}
use Rattle.std.specs.Cmp.Lexicographic.{bytes_decides}
use Rattle.std.proofs.lemmas.Bool.{false_from_ne_true}
use Rattle.fcg_grammar.specs.Table.{place}
use Rattle.fcg_grammar.proofs.Among.{among_at}
use Rattle.fcg_grammar.proofs.TableLaws.{table_rises, place_at}
use Rattle.fcg_partial.specs.Parts.{PartShown}
use Rattle.fcg_analysis.specs.NamesAndFlags.{same}
use Rattle.fcg_analysis.specs.Declarations.{Placed, object_name, is_type, is_named, is_class}
use Rattle.fcg_analysis.specs.Types.{is_below}
use Rattle.fcg_analysis.specs.Laws.Statements.{IsAcyclic}
use Rattle.fcg_analysis.proofs.General.Members.{Contains-from_IsIn, in_any, and_first, and_second}
use Rattle.fcg_join.specs.declared.heads.TypeHead.{TypeHead}
use Rattle.fcg_join.specs.Names.{text_at}
use Rattle.fcg_join.specs.SetNames.{set_names, all_names}
use Rattle.fcg_join.specs.TypeLinks.{HasTypeAt}
use Rattle.fcg_join.specs.Internal.TypeNumbers.{AreHeads, FindsHeads, class_numbered}
use Rattle.fcg_join.specs.TypeTables.{IsUpwardRow, AreUpwardRows, mentions_at, is_class_name}
use Rattle.fcg_order.specs.Links.{row}
use Rattle.fcg_order.specs.declared.places.Places.{Places}
use Rattle.std.proofs.lemmas.Option.{slice_get_within}
use Rattle.std.proofs.lemmas.List.Elements.{Contains-get_or}
use Rattle.fcg_join.specs.declared.joined_rows.JoinedRows.{JoinedRows}
use Rattle.fcg_join.specs.Internal.Mentions.{row_of, AreSorted, AreTurnedRows}
use Rattle.fcg_join.specs.Internal.Below.{AreTypePlaces, HasInterval, is_under, interval, AreBelow}
use Rattle.fcg_join.proofs.Places.{place_of}
use Rattle.fcg_join.proofs.LinkLaws.{class_is, class_at}
use Rattle.fcg_join.proofs.MentionRows.{below_by_row}
use Rattle.fcg_join.proofs.BelowLists.{listed_by_rows}
use Rattle.fcg_join.proofs.PlacedTypes.{has_interval, below_by_places, listed_by_places}

pub same_back : (m n : List ℕ) → same m n ≡ false → same n m ≡ false
same_back m n e = false_from_ne_true (same n m) (λ h. (let on = (bytes_decides m n).1 (sym ((bytes_decides n m).0 h)) in absurd cc))

module _ (parts : List PartShown) (heads : List TypeHead) (types : List Placed) (by_name : List (Option ℕ))
    (are : AreHeads parts heads types) (d : IsDistinct is_type types) (f : FindsHeads heads by_name (length (set_names parts))) where
  abbrev N : List (List ℕ)
  N = set_names parts

  -- the number of the text of a number
  itself : (n : ℕ) → n < length N → place N (text_at N n) ≡ n
  unfolding set_names
  itself n l = place_at (set_names parts) n [] (table_rises (all_names parts)) l

  class_found : (n : ℕ) → n < length N → (y : ℕ) → class_numbered heads by_name n ≡ Some y → (u : Placed) × HasTypeAt types y u × (u.view.name ≡ text_at N n) × (is_class u ≡ true)
  class_found n l y e =
      let r = class_is parts heads types by_name are d f (text_at N n) (among_at N n [] l) y (ap (class_numbered heads by_name) (itself n l) ∙ e) in
      (r.0.type, r.0.here, r.0.name, r.1)

  no_class : (n : ℕ) → n < length N → class_numbered heads by_name n ≡ None → is_class_name types (text_at N n) ≡ false
  no_class n l e = false_from_ne_true (is_class_name types (text_at N n)) (λ h. (
      let r = in_any (λ t. is_named (text_at N n) t && is_class t) types h in
      let p = place_of types r.0 (Contains-from_IsIn types r.0 r.1) in
      let name : text_at N n ≡ r.0.view.name = (bytes_decides (text_at N n) r.0.view.name).0 (and_first (is_named (text_at N n) r.0) (is_class r.0) r.2) in
      let k = class_at parts heads types by_name are d f p.0 r.0 p.1 (and_second (is_named (text_at N n) r.0) (is_class r.0) r.2) in
      let found : None ≡ Some p.0 = sym e ∙ ap (class_numbered heads by_name) (sym (itself n l) ∙ ap (place N) name) ∙ k in
      absurd cc))

  module _ (n : ℕ) (small : n < length N) (other : same (text_at N n) object_name ≡ false) where
    module _ (acyclic : IsAcyclic types) (p : Places) (places : AreTypePlaces types p) (y : ℕ) (e : class_numbered heads by_name n ≡ Some y) where
      pub class_has_interval : HasInterval p y
      class_has_interval = let u = class_found n small y e in has_interval types p places y (slice_get_within types y u.0 u.1)

      pub below_class_number : (x : ℕ) (t : Placed) → HasTypeAt types x t → is_below types t (text_at N n) ≡ is_under p y x
      below_class_number x t h =
          let u = class_found n small y e in
          ap (is_below types t) (sym u.2)
          ∙ below_by_places types p places acyclic d y u.0 u.1 u.3 (ap (λ m. same m object_name) u.2 ∙ other) x t h

      pub listed_class_number : (numbers : List ℕ) → AreSorted (interval p y) numbers → AreBelow types (text_at N n) numbers
      listed_class_number numbers s =
          let u = class_found n small y e in
          subst (λ (m : List ℕ). AreBelow types m numbers) u.2
          (listed_by_places types p places acyclic d y u.0 u.1 u.3 (ap (λ m. same m object_name) u.2 ∙ other) numbers s)

    pub listed_row_number : class_numbered heads by_name n ≡ None → (r : JoinedRows) (turned : List (List ℕ)) → length r.places.items ≡ length types → AreUpwardRows types (mentions_at N types) (row_of r) → AreTurnedRows r (length N) turned
        → AreBelow types (text_at N n) (row turned n)
    listed_row_number e r turned m up t = record {
      listed = listed_by_rows N types (row_of r) up n (row turned n) small (no_class n small e) other (t.rise n small) within (λ x l. (
        (λ c. ((t.each n x small).0 c).1),
        (λ c. (t.each n x small).1 (omega (arith, l, m), c)),
      ));
      range = within;
    }
      where
        within : All (λ x. x < length types) (row turned n)
        within k q l = let c = ((t.each n (get_or (row turned n) k q) small).0 (Contains-get_or (row turned n) k q l)).0 in omega (arith, c, m)

    pub below_row_number : class_numbered heads by_name n ≡ None → (t : Placed) (numbers : List ℕ) → IsUpwardRow types (mentions_at N types) t numbers
        → is_below types t (text_at N n) ≡ list_any (λ k. k == n) numbers
    below_row_number e t numbers up =
        below_by_row N types t numbers up n small (no_class n small e) ∙ ap (λ b. b || list_any (λ k. k == n) numbers) other
