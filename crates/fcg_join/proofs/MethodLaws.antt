-- Where types come from, and where their methods stand.
use Rattle.std.proofs.Common.{◌≡◌, ℕ, zero, suc, ◌+◌, ◌-◌, ◌<◌, ◌≤◌, List, [], ◌∷◌, length, get_or, take, refl, sym, ap, subst, ◌∙◌, inl, inr, arith}
use Rattle.std.specs.Prelude.{Bool, true, false, All, Some, map, position, slice_get, Contains}
use Rattle.std.proofs.lemmas.Option.{slice_get_within, get_or_from_slice_get}
use Rattle.fcg_grammar.proofs.Among.{Contains-among}
use Rattle.fcg_views.specs.declared.view.View.{View}
use Rattle.fcg_partial.specs.Parts.{PartShown}
use Rattle.fcg_analysis.specs.Declarations.{Placed, is_type}
use Rattle.fcg_analysis.specs.Nodes.{Node}
use Rattle.fcg_analysis.specs.Laws.Methods.{first_node}
use Rattle.fcg_analysis.proofs.General.Members.{IsIn-from_Contains}
use Rattle.fcg_analysis.proofs.General.Places.{get_joined, same_at}
use Rattle.fcg_analysis.proofs.NodePlaces.{of_method_at}
use Rattle.fcg_analysis.proofs.WinnerLaws.{known_distinct}
use Rattle.fcg_join.specs.declared.heads.TypeHead.{TypeHead}
use Rattle.fcg_join.specs.Parts.{placed_view, placed, views_before, types_of, nodes_of}
use Rattle.fcg_join.specs.Winners.{name_number, first_marks, marked}
use Rattle.fcg_join.specs.Internal.Collected.{collected}
use Rattle.fcg_join.specs.SetNames.{set_names}
use Rattle.fcg_join.specs.Internal.TypeHeads.{head_of, heads_in, heads_of, IsHead, IsFirstHead}
use Rattle.fcg_join.specs.Internal.TypeNumbers.{AreHeads}
use Rattle.fcg_join.proofs.HeadLaws.{all_heads, all_named, names_are}
use Rattle.fcg_join.proofs.Places.{one_place}
use Rattle.fcg_join.proofs.WinnerPlaces.{first_of_name}
use Rattle.fcg_join.proofs.ZipLaws.{zip_left}

-- ---- what holds of the elements with a mark
pub all_marked : {X : Type 0} (P : X → Type 0) (ms : List Bool) (xs : List X) → ((k : ℕ) (x : X) → slice_get ms k ≡ Some true → slice_get xs k ≡ Some x → P x) → All P (marked ms xs)
all_marked P [] xs h = λ k d l. absurd (omega arith)
all_marked P (m ∷ ms) [] h = λ k d l. absurd (omega arith)
all_marked P (false ∷ ms) (x ∷ xs) h = all_marked P ms xs (λ k y. h (suc k) y)
all_marked {X} P (true ∷ ms) (x ∷ xs) h = at (all_marked P ms xs (λ k y. h (suc k) y))
  where
    at : All P (marked ms xs) → (k : ℕ) (d : X) → k < length (x ∷ marked ms xs) → P (get_or (x ∷ marked ms xs) k d)
    at r zero d l = h 0 x refl refl
    at r (suc k) d l = r k d (omega arith)

pub all_kept : {X : Type 0} (P : X → Type 0) (ms : List Bool) (xs : List X) → All P xs → All P (marked ms xs)
all_kept {X} P ms xs a = all_marked P ms xs (λ k x m e. at k x e)
  where
    at : (k : ℕ) (x : X) → slice_get xs k ≡ Some x → P x
    at k x e = subst P (get_or_from_slice_get xs k x x e) (a k x (slice_get_within xs k x e))

-- ---- the places of types among all views
module _ (names : List (List ℕ)) where
  heads_long : (i n : ℕ) (p : PartShown) (vs : List View) → length (collected (λ k v. head_of names i k (placed_view p v) ∷ []) n vs) ≡ length vs
  heads_long i n p [] = refl
  heads_long i n p (v ∷ vs) = ap suc (heads_long i (n + 1) p vs)

  place_in : (i n : ℕ) (p : PartShown) (vs : List View) (k : ℕ) (h : TypeHead) → slice_get (collected (λ k v. head_of names i k (placed_view p v) ∷ []) n vs) k ≡ Some h
      → (h.part ≡ i) × (h.place ≡ n + k)
  place_in i n p [] k h e = absurd cc
  place_in i n p (v ∷ vs) zero h e =
      let same : head_of names i n (placed_view p v) ≡ h = cc in
      let z : n ≡ n + 0 = omega arith in
      (sym (ap (λ (g : TypeHead). g.part) same), sym (ap (λ (g : TypeHead). g.place) same) ∙ z)
  place_in i n p (v ∷ vs) (suc k) h e =
      let r = place_in i (n + 1) p vs k h e in
      let z : n + 1 + k ≡ n + suc k = omega arith in
      (r.0, r.1 ∙ z)

  place_from : (i : ℕ) (ps : List PartShown) (k : ℕ) (h : TypeHead) → slice_get (collected (heads_in names) i ps) k ≡ Some h
      → (j : ℕ) × (h.part ≡ i + j) × (k ≡ views_before (take j ps) + h.place)
  unfolding views_before
  place_from i [] k h e = absurd cc
  place_from i (p ∷ ps) k h e =
      elim (get_joined (heads_in names i p) (collected (heads_in names) (i + 1) ps) k h e) [
        | inl a ↦ (let r = place_in i 0 p p.views k h a in (0, (let q = r.0 in omega arith), (let q = r.1 in omega arith)))
        | inr b ↦ (let r = place_from (i + 1) ps b.0 h b.2 in
            let long = heads_long i 0 p p.views in
            (suc r.0, (let q = r.1 in omega arith), (let q = r.2 in let s = b.1 in omega arith)))
      ]

  pub place_among : (parts : List PartShown) (k : ℕ) (h : TypeHead) → slice_get (heads_of names parts) k ≡ Some h → k ≡ views_before (take h.part parts) + h.place
  place_among parts k h e =
      let r = place_from 0 parts k h e in
      let q : r.0 ≡ h.part = (let s = r.1 in omega arith) in
      subst (λ (j : ℕ). k ≡ views_before (take j parts) + h.place) q r.2

one_head : (parts : List PartShown) (h : TypeHead) (t u : Placed) → IsHead parts (set_names parts) h t → IsHead parts (set_names parts) h u → t ≡ u
one_head parts h t u a b =
    let p : a.part ≡ b.part = same_at parts h.part a.part b.part a.part_is b.part_is in
    let v : a.view ≡ b.view = same_at b.part.views h.place a.view b.view (subst (λ (q : PartShown). slice_get q.views h.place ≡ Some a.view) p a.view_is) b.view_is in
    sym a.type_is ∙ ap (λ (q : PartShown). placed_view q a.view) p ∙ ap (placed_view b.part) v ∙ b.type_is

-- each winner stands where the first view of its name does
pub winners_first : (parts : List PartShown) (heads : List TypeHead) (marks : List Bool) → heads ≡ heads_of (set_names parts) parts → marks ≡ first_marks (map (λ h. h.name) heads)
    → All (IsFirstHead parts) (marked marks heads)
winners_first parts heads marks e f = all_marked (IsFirstHead parts) marks heads at
  where
    are : AreHeads parts heads (placed parts)
    are = all_heads parts heads e

    in_names : (u : Placed) → Contains (placed parts) u → Contains (set_names parts) u.view.name
    in_names u c = Contains-among u.view.name (set_names parts) (all_named parts heads (placed parts) are u (IsIn-from_Contains (placed parts) u c))

    at : (k : ℕ) (h : TypeHead) → slice_get marks k ≡ Some true → slice_get heads k ≡ Some h → IsFirstHead parts h
    at k h m s t is =
        let r = zip_left (IsHead parts (set_names parts)) heads (placed parts) are k h s in
        let same : t ≡ r.0 = one_head parts h t r.0 is r.2 in
        let mark : slice_get (first_marks (map (name_number (set_names parts)) (placed parts))) k ≡ Some true =
        sym (ap (λ (ns : List ℕ). slice_get (first_marks ns) k) (names_are parts heads (placed parts) are)) ∙ sym (ap (λ (ms : List Bool). slice_get ms k) f) ∙ m in
        ap (λ (u : Placed). position (is_type u) (placed parts)) same ∙ first_of_name (set_names parts) (placed parts) in_names k r.0 r.1 mark
        ∙ ap (λ (n : ℕ). Some n) (place_among (set_names parts) parts k h (ap (λ (hs : List TypeHead). slice_get hs k) (sym e) ∙ s))

-- ---- a node by the number of its owner
pub in_row : (parts : List PartShown) (y k : ℕ) (n : Node) → slice_get (types_of parts) y ≡ Some n.owner → slice_get (nodes_of parts) k ≡ Some n
    → (first_node (types_of parts) y ≤ k) × (k < first_node (types_of parts) y + length n.owner.view.methods) × (slice_get n.owner.view.methods (k - first_node (types_of parts) y) ≡ Some n.method)
in_row parts y k n o h =
    let types = types_of parts in
    let p = of_method_at types k n h in
    let e : p.place ≡ y = one_place types p.place y n.owner (known_distinct (placed parts)) p.owner o in
    subst (λ (x : ℕ). (first_node types x ≤ k) × (k < first_node types x + length n.owner.view.methods) × (slice_get n.owner.view.methods (k - first_node types x) ≡ Some n.method)) e
    (p.from', p.until, p.method)
