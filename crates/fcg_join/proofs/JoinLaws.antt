-- The winners and the known types are few, and a table of names has so many places.
use Rattle.std.proofs.Common.{◌≡◌, ℕ, ◌+◌, ◌<◌, ◌≤◌, List, [], ◌∷◌, ◌++◌, length, get_or, drop, sym, ap, ◌∙◌, cond, arith}
use Rattle.std.specs.Prelude.{true, false, not, flat_map}
use Rattle.std.specs.List.{list_any}
use Rattle.std.proofs.lemmas.List.{length-map, length-append, drop_more, drop_all}
use Rattle.std.specs.declared.cmp.Ordering.TheVariants.{Less, Equal, Greater}
use Rattle.fcg_grammar.specs.Table.{order, by, put, table}
use Rattle.fcg_views.specs.declared.view.View.{View}
use Rattle.fcg_partial.specs.Views.{text_of}
use Rattle.fcg_partial.proofs.SizeLaws.{has_at_most}
use Rattle.fcg_partial.specs.Parts.{PartShown, encoded_len}
use Rattle.fcg_analysis.specs.Declarations.{Placed, is_type}
use Rattle.fcg_analysis.specs.Types.{winners, winners_after, known, is_circular}
use Rattle.fcg_analysis.proofs.General.Members.{length-filter_all}
use Rattle.fcg_join.specs.declared.part_names.SetNames.{SetNames}
use Rattle.fcg_join.specs.Parts.{placed_view, placed_of, placed}
use Rattle.fcg_join.specs.SetNames.{part_names, all_names, set_names}
use Rattle.fcg_join.specs.Internal.PartNames.{name_there, AreSetNames}
use Rattle.fcg_join.proofs.GraphRows.{types_many}

winners_short : (earlier later : List Placed) → length (winners_after earlier later) ≤ length later
winners_short earlier [] = omega arith
winners_short earlier (t ∷ later) =
    let r = winners_short (earlier ++ t ∷ []) later in
    elim (list_any (is_type t) earlier) as (λ b. length (cond b (winners_after (earlier ++ t ∷ []) later) (t ∷ winners_after (earlier ++ t ∷ []) later)) ≤ length (t ∷ later)) [
      | true ↦ omega arith
      | false ↦ omega arith
    ]

pub few_winners : (views : List Placed) → length (winners views) ≤ length views
unfolding winners
few_winners views = winners_short [] views

pub few_known : (views : List Placed) → length (known views) ≤ length views
unfolding known
few_known views = (let a = length-filter_all (λ t. not (is_circular (winners views) t)) (winners views) in let b = few_winners views in omega arith)

pub many_names : (parts : List PartShown) (names : SetNames) → AreSetNames parts names → length (set_names parts) ≡ length names.places.items
many_names parts names a = sym (ap (λ ns. length ns) a.names_are) ∙ length-map names.places.items (name_there parts)

text_long : (views : List View) → 1 ≤ length (text_of views)
unfolding text_of
text_long views = omega arith

-- what parts have is at most as much as their encodings
pub record AreFew (parts : List PartShown) : Type 0 where
  pub parts_few : length parts ≤ encoded_len parts
  pub names_few : length (all_names parts) ≤ encoded_len parts
  pub views_few : length (placed parts) ≤ encoded_len parts

pub are_few : (parts : List PartShown) → AreFew parts
unfolding encoded_len all_names placed
are_few [] = record { parts_few = omega arith; names_few = omega arith; views_few = omega arith }
are_few (p ∷ ps) =
    let r = are_few ps in
    let a = has_at_most p.views in
    let one = text_long p.views in
    let names = length-append (part_names p) (flat_map part_names ps) in
    let views = length-append (placed_of p) (flat_map placed_of ps) in
    let own = length-map p.views (placed_view p) in
    let types = types_many p.views in
    record {
      parts_few = (let b = r.parts_few in omega arith);
      names_few = (let b = r.names_few in let d = a.names in omega arith);
      views_few = (let b = r.views_few in let d = a.types in omega arith);
    }

put_long : (x : List ℕ) (ys : List (List ℕ)) → length (put x ys) ≤ length ys + 1
put_long x [] = omega arith
put_long x (y ∷ ys) =
    let r = put_long x ys in
    elim (order x y) as (λ o. length (by o (x ∷ y ∷ ys) (y ∷ ys) (y ∷ put x ys)) ≤ length (y ∷ ys) + 1) [ Less ↦ omega arith | Equal ↦ omega arith | Greater ↦ omega arith ]

pub table_long : (xs : List (List ℕ)) → length (table xs) ≤ length xs
unfolding table
table_long [] = omega arith
table_long (x ∷ xs) = (let a = put_long x (table xs) in let b = table_long xs in omega arith)

pub few_set_names : (parts : List PartShown) → length (set_names parts) ≤ length (all_names parts)
unfolding set_names
few_set_names parts = table_long (all_names parts)

-- the bytes of the parts that are left
pub encoded_more : (ps : List PartShown) (i : ℕ) (p : PartShown) → i < length ps → p ≡ get_or ps i p → encoded_len (drop i ps) ≡ length (text_of p.views) + encoded_len (drop (i + 1) ps)
unfolding encoded_len
encoded_more ps i p l e = ap encoded_len (drop_more ps i p l) ∙ ap (λ (q : PartShown). length (text_of q.views) + encoded_len (drop (i + 1) ps)) (sym e)

pub encoded_none : (ps : List PartShown) (i : ℕ) → length ps ≤ i → encoded_len (drop i ps) ≡ 0
unfolding encoded_len
encoded_none ps i l = ap encoded_len (drop_all i ps l)
