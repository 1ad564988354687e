-- How the tables of nodes are made, and how many nodes there are.
use Rattle.std.proofs.Common.{◌≡◌, ℕ, ◌+◌, ◌<◌, ◌≤◌, List, [], ◌∷◌, ◌++◌, length, get_or, take, replicate, refl, sym, ap, subst, ◌∙◌, cond, arith}
use Rattle.std.specs.Prelude.{Bool, true, false, not, map, flat_map, filter, sum_by}
use Rattle.std.specs.List.{list_any}
use Rattle.std.proofs.lemmas.List.{length-map, get_or-map, take_more, take_all, length-take-le}
use Rattle.std.proofs.lemmas.List.Sums.{sum_by-cons, sum_by-append, sum_by-take-le}
use Rattle.fcg_views.specs.declared.view.View.{View}
use Rattle.fcg_partial.specs.Parts.{PartShown, encoded_len}
use Rattle.fcg_partial.proofs.SizeLaws.{has_at_most}
use Rattle.fcg_analysis.specs.Declarations.{Placed, is_type}
use Rattle.fcg_analysis.specs.Types.{winners, winners_after, known, is_circular}
use Rattle.fcg_analysis.specs.Laws.Methods.{method_total}
use Rattle.fcg_analysis.proofs.NodePlaces.{count_is}
use Rattle.fcg_join.specs.declared.heads.TypeHead.{TypeHead}
use Rattle.fcg_join.specs.Parts.{placed_view, placed_of, placed, types_of}
use Rattle.fcg_join.specs.SetNames.{set_names}
use Rattle.fcg_join.specs.Internal.TypeHeads.{IsHead, no_head}
use Rattle.fcg_join.specs.Internal.TypeNumbers.{AreHeads, head_at}
use Rattle.fcg_join.specs.NodeTables.{first_nodes, owners}
use Rattle.fcg_join.specs.Internal.Nodes.{HaveMethods, AreNodeTables}
use Rattle.fcg_join.proofs.NodeNumbers.{first_nodes_go_on, owners_go_on, owners_long}
use Rattle.fcg_join.proofs.ZipLaws.{zip_map}
use Rattle.fcg_join.proofs.GraphRows.{item}

pub have_methods : (parts : List PartShown) (heads : List TypeHead) (types : List Placed) → AreHeads parts heads types → HaveMethods heads types
have_methods parts heads types are = zip_map (IsHead parts (set_names parts)) (λ h. h.methods) (λ t. length t.view.methods) (λ h t is. ap (λ (g : TypeHead). g.methods) is.head_is) heads types are

module _ (heads : List TypeHead) (types : List Placed) (have : HaveMethods heads types) where
  pub as_many : length heads ≡ length types
  as_many = sym (length-map heads (λ h. h.methods)) ∙ ap (λ ns. length ns) have ∙ length-map types (λ t. length t.view.methods)

  pub owners_below : (y : ℕ) (fs os : List ℕ) → AreNodeTables (take y types) fs os → length os ≤ method_total types
  owners_below y fs os a =
      let e = ap (λ ns. length ns) a.owners_are ∙ owners_long (take y types) ∙ count_is (take y types) in
      let l = sum_by-take-le (λ t. length t.view.methods) types y in
      omega arith

  pub nodes_next : (y : ℕ) → y < length heads → (fs os fs' os' : List ℕ) → AreNodeTables (take y types) fs os → fs' ≡ fs ++ length os ∷ [] → os' ≡ os ++ replicate (head_at heads y).methods y
      → AreNodeTables (take (y + 1) types) fs' os'
  nodes_next y l fs os fs' os' a e f =
      let m : y < length types = (let b = as_many in omega arith) in
      let t = item types y m in
      let more : take (y + 1) types ≡ take y types ++ t.0 ∷ [] = take_more types y t.0 m ∙ ap (λ u. take y types ++ u ∷ []) (sym t.2) in
      let total : length os ≡ method_total (take y types) = ap (λ ns. length ns) a.owners_are ∙ owners_long (take y types) ∙ count_is (take y types) in
      let methods : (head_at heads y).methods ≡ length t.0.view.methods =
      sym (get_or-map (λ h. h.methods) heads y no_head 0 l) ∙ ap (λ ns. get_or ns y 0) have ∙ get_or-map (λ u. length u.view.methods) types y t.0 0 m ∙ ap (λ u. length u.view.methods) (sym t.2) in
      let long : length (take y types) ≡ y = length-take-le y types (omega arith) in
      record {
        firsts_are = e ∙ ap (λ ns. ns ++ length os ∷ []) a.firsts_are ∙ ap (λ n. first_nodes (take y types) ++ n ∷ []) total ∙ sym (first_nodes_go_on (take y types) t.0) ∙ sym (ap first_nodes more);
        owners_are = f ∙ ap (λ ns. ns ++ replicate (head_at heads y).methods y) a.owners_are ∙ ap (λ n. owners (take y types) ++ replicate n y) methods
            ∙ ap (λ n. owners (take y types) ++ replicate (length t.0.view.methods) n) (sym long) ∙ sym (owners_go_on (take y types) t.0) ∙ sym (ap owners more);
      }

  pub nodes_all : (y : ℕ) → length heads ≤ y → (fs os : List ℕ) → AreNodeTables (take y types) fs os → AreNodeTables types fs os
  nodes_all y l fs os a = subst (λ (ts : List Placed). AreNodeTables ts fs os) (take_all y types (let b = as_many in omega arith)) a

-- ---- how many
fewer : (p : Placed → Bool) (ts : List Placed) → method_total (filter p ts) ≤ method_total ts
fewer p [] = omega arith
fewer p (t ∷ ts) =
    let r = fewer p ts in
    let a = sum_by-cons (λ u. length u.view.methods) t ts in
    let b = sum_by-cons (λ u. length u.view.methods) t (filter p ts) in
    elim (p t) as (λ c. method_total (cond c (t ∷ filter p ts) (filter p ts)) ≤ method_total (t ∷ ts)) [ true ↦ omega arith | false ↦ omega arith ]

fewer_winners : (earlier later : List Placed) → method_total (winners_after earlier later) ≤ method_total later
fewer_winners earlier [] = omega arith
fewer_winners earlier (t ∷ later) =
    let w = winners_after (earlier ++ t ∷ []) later in
    let r = fewer_winners (earlier ++ t ∷ []) later in
    let a = sum_by-cons (λ u. length u.view.methods) t later in
    let b = sum_by-cons (λ u. length u.view.methods) t w in
    elim (list_any (is_type t) earlier) as (λ c. method_total (cond c w (t ∷ w)) ≤ method_total (t ∷ later)) [ true ↦ omega arith | false ↦ omega arith ]

of_views : (p : PartShown) (vs : List View) → method_total (map (placed_view p) vs) ≡ sum_by (λ v. length v.methods) vs
of_views p [] = refl
of_views p (v ∷ vs) =
    sum_by-cons (λ u. length u.view.methods) (placed_view p v) (map (placed_view p) vs) ∙ ap (λ n. length v.methods + n) (of_views p vs) ∙ sym (sum_by-cons (λ w. length w.methods) v vs)

of_parts : (parts : List PartShown) → method_total (placed parts) ≤ encoded_len parts
unfolding encoded_len placed
of_parts [] = omega arith
of_parts (p ∷ ps) =
    let r = of_parts ps in
    let a = (has_at_most p.views).methods in
    let b = of_views p p.views in
    let c = sum_by-append (λ u. length u.view.methods) (placed_of p) (flat_map placed_of ps) in
    omega arith

pub few_methods : (parts : List PartShown) → method_total (types_of parts) ≤ encoded_len parts
unfolding known winners
few_methods parts =
    let views = placed parts in
    let a = fewer (λ t. not (is_circular (winners_after [] views) t)) (winners_after [] views) in
    let b = fewer_winners [] views in
    let c = of_parts parts in
    omega arith
