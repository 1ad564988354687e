-- How the search begins, and what it has at its end.
use Rattle.std.proofs.Common.{◌≡◌, ℕ, zero, suc, ◌+◌, ◌<◌, List, [], ◌∷◌, ◌++◌, length, get_or, take, replicate, refl, sym, ap, subst, ◌∙◌, inl, inr, arith, eqb}
use Rattle.std.specs.Prelude.{Bool, true, false, Contains, ◌==◌}
use Rattle.std.specs.List.{list_any}
use Rattle.std.proofs.lemmas.Bool.{cases_eq, cases_lt, cases_Bool, or_cases, or_left, or_right}
use Rattle.std.proofs.lemmas.Bool.Decides.{Decides-eqb}
use Rattle.std.proofs.lemmas.List.{get_or-replicate, get_or_past, length-replicate, get_or-set_same, get_or-set_other, get_or_default, length-append}
use Rattle.std.proofs.Math.Seq.{get_or-append_seam, take-append_seam}
use Rattle.fcg_order.specs.declared.search.Mark.{Mark}
use Rattle.fcg_order.specs.declared.search.Mark.TheVariants.{Unvisited, OnStack, Finished}
use Rattle.fcg_order.specs.Links.{row, HasLink, first_link, IsCircular}
use Rattle.fcg_order.specs.Order.{MarksCircles, IsOrder}
use Rattle.fcg_order.specs.Internal.Search.{SearchState, mark, is_marked, AreFrames, IsSearchState, after_enter, KeepsVisited, AreSelfLinks}
use Rattle.fcg_order.proofs.EnterLaws.{enter_state}
use Rattle.fcg_order.proofs.StepLaws.{stack_empty}

-- ---- links to itself

any_from : (xs : List ℕ) (x k : ℕ) → k < length xs → get_or xs k x ≡ x → list_any (λ w. w == x) xs ≡ true
any_from [] x k l e = absurd (omega arith)
any_from (y ∷ ys) x zero l e = or_left (eqb y x) (list_any (λ w. w == x) ys) ((Decides-eqb y x).1 e)
any_from (y ∷ ys) x (suc k) l e = or_right (eqb y x) (list_any (λ w. w == x) ys) (any_from ys x k (omega arith) e)

from_any : (xs : List ℕ) (x : ℕ) → list_any (λ w. w == x) xs ≡ true → Contains xs x
from_any [] x h = absurd (cc)
from_any (y ∷ ys) x h = elim (or_cases (eqb y x) (list_any (λ w. w == x) ys) h) [
  | inl e ↦ (0, omega arith, (Decides-eqb y x).0 e)
  | inr e ↦ (let r = from_any ys x e in let l : r.0 < length ys = r.1 in (suc r.0, omega arith, r.2))
]

module _ (rows : List (List ℕ)) (circular : List Bool) (m : AreSelfLinks rows circular) where
  itself : (v : ℕ) → get_or circular v false ≡ true → HasLink rows v v
  itself v e = elim (cases_lt v (length rows)) [
    | inl l ↦ from_any (row rows v) v (sym (m.each v l) ∙ e)
    | inr l ↦ absurd (let k : false ≡ true = sym (get_or_past circular v false (let a = m.long in omega arith)) ∙ e in cc)
  ]

  not_itself : (v : ℕ) → get_or circular v false ≡ false → HasLink rows v v → ⊥
  not_itself v e l = elim (cases_lt v (length rows)) [
    | inl b ↦ (let k : false ≡ true = sym e ∙ m.each v b ∙ any_from (row rows v) v l.0 l.1 l.2 in cc)
    | inr b ↦ (let z : row rows v ≡ [] = get_or_past rows v [] b in let k : l.0 < length (row rows v) = l.1 in let y : length (row rows v) ≡ 0 = ap (λ xs. length xs) z in omega arith)
  ]

  pub begun : (marks : List Mark) → marks ≡ replicate (length rows) Unvisited → IsSearchState rows (record { marks = marks; stack = []; frames = []; order = []; circular = circular })
  begun marks e = record {
    marks_long = ap (λ ms. length ms) e ∙ length-replicate (length rows) Unvisited;
    circular_long = m.long;
    on_stack = λ i l. absurd (omega arith);
    place = λ v i o. absurd (let k : Unvisited ≡ OnStack i = sym (all_new v) ∙ o in cc);
    up = λ i j l b. absurd (omega arith);
    frames = refl;
    closed = λ v w d l. absurd (let k : Unvisited ≡ Finished = sym (all_new v) ∙ d in cc);
    circle = λ v c. first_link (itself v c);
    none = λ v d. absurd (let k : Unvisited ≡ Finished = sym (all_new v) ∙ d in cc);
    self = not_itself;
    ordered = λ v d. absurd (let k : Unvisited ≡ Finished = sym (all_new v) ∙ d in cc);
    finished = λ k l. absurd (omega arith);
    once = λ j k l b. absurd (omega arith);
    after = λ k y l. absurd (omega arith);
  }
    where
      all_new : (v : ℕ) → get_or marks v Unvisited ≡ Unvisited
      all_new v = ap (λ ms. get_or ms v Unvisited) e ∙ (elim (cases_lt v (length rows)) [
        | inl l ↦ get_or-replicate (length rows) v Unvisited Unvisited l
        | inr l ↦ get_or_past (replicate (length rows) Unvisited) v Unvisited (let k : length (replicate (length rows) Unvisited) ≡ length rows = length-replicate (length rows) Unvisited in omega arith)
      ])

pub begun_at : (rows : List (List ℕ)) (s : SearchState) → AreSelfLinks rows s.circular → s.marks ≡ replicate (length rows) Unvisited → s.stack ≡ [] → s.frames ≡ [] → s.order ≡ [] → IsSearchState rows s
begun_at rows s m e p f o =
    subst (λ stack. IsSearchState rows (record { marks = s.marks; stack = stack; frames = s.frames; order = s.order; circular = s.circular })) (sym p)
    (subst (λ frames. IsSearchState rows (record { marks = s.marks; stack = []; frames = frames; order = s.order; circular = s.circular })) (sym f)
    (subst (λ order. IsSearchState rows (record { marks = s.marks; stack = []; frames = []; order = order; circular = s.circular })) (sym o)
    (begun rows s.circular m s.marks e)))

-- the nodes so far were visited
pub visited_more : (s t : SearchState) (n v : ℕ) → ((u : ℕ) → u < n → mark s u ≡ Unvisited → ⊥) → KeepsVisited s t → (mark t n ≡ Unvisited → ⊥) → v < n + 1 → mark t v ≡ Unvisited → ⊥
visited_more s t n v h g m l e = elim (cases_eq v n) [
  | inl q ↦ m (sym (ap (mark t) q) ∙ e)
  | inr ne ↦ h v (omega arith) (g v e)
]

-- ---- a search from a node begins

pub record IsSearchBegun (rows : List (List ℕ)) (s t : SearchState) (root : ℕ) : Type 0 where
  pub state : IsSearchState rows t
  pub keeps : KeepsVisited s t
  pub visited : mark t root ≡ Unvisited → ⊥

pub search_begun : (rows : List (List ℕ)) (s : SearchState) (root : ℕ) → IsSearchState rows s → s.frames ≡ [] → root < length rows → mark s root ≡ Unvisited → IsSearchBegun rows s (after_enter s root s.frames) root
search_begun rows s root h e small new = record {
  state = enter_state rows s h root small new s.frames (λ i l. absurd (let z = none in omega arith)) (subst (λ gs. AreFrames rows (after_enter s root s.frames) gs (length s.stack)) (sym e) none);
  keeps = λ u k. (elim (cases_eq u root) [
    | inl q ↦ ap (mark s) q ∙ new
    | inr ne ↦ sym (get_or-set_other s.marks root u (OnStack (length s.stack)) Unvisited ne) ∙ k
  ]);
  visited = λ k. (let o : OnStack (length s.stack) ≡ Unvisited = sym (get_or-set_same s.marks root (OnStack (length s.stack)) Unvisited (let m = h.marks_long in omega arith)) ∙ k in cc);
}
  where
    none : length s.stack ≡ 0
    none = subst (λ gs. AreFrames rows s gs (length s.stack)) e h.frames

-- ---- the end

module _ (rows : List (List ℕ)) (s : SearchState) (h : IsSearchState rows s) (e : s.frames ≡ []) (visited : (v : ℕ) → v < length rows → mark s v ≡ Unvisited → ⊥) where
  finished : (v : ℕ) → v < length rows → mark s v ≡ Finished
  finished v l = go (mark s v) refl
    where
      go : (m : Mark) → mark s v ≡ m → m ≡ Finished
      go Unvisited q = absurd (visited v l q)
      go (OnStack i) q = absurd (stack_empty rows s h e v i q)
      go Finished q = refl

  pub circles_are : MarksCircles rows s.circular
  circles_are = record {
    long = h.circular_long;
    each = λ x l. (
      h.circle x,
      λ w. (elim (cases_Bool (is_marked s x)) [
        | inl m ↦ m
        | inr m ↦ absurd (h.none x (finished x l) m w)
      ]),
    );
  }

  in_order : (k : ℕ) → k < length s.order → get_or s.order k 0 < length rows
  in_order k l = elim (cases_lt (get_or s.order k 0) (length s.marks)) [
    | inl b ↦ (let m = h.marks_long in omega arith)
    | inr b ↦ absurd (let x : Unvisited ≡ Finished = sym (get_or_past s.marks (get_or s.order k 0) Unvisited b) ∙ h.finished k l in cc)
  ]

  unmarked : (x : ℕ) → ¬ IsCircular rows x → is_marked s x ≡ false
  unmarked x n = elim (cases_Bool (is_marked s x)) [
    | inl m ↦ absurd (n (h.circle x m))
    | inr m ↦ m
  ]

  after : (before later : List ℕ) (x y : ℕ) → s.order ≡ before ++ x ∷ later → ¬ IsCircular rows x → HasLink rows x y → Contains before y
  after before later x y q n l =
      let k : ℕ = length before in
      let long : length s.order ≡ length before + suc (length later) = ap (λ xs. length xs) q ∙ length-append before (x ∷ later) in
      let here : get_or s.order (length before) 0 ≡ x = ap (λ xs. get_or xs (length before) 0) q ∙ get_or-append_seam before x later 0 in
      let front : take (length before) s.order ≡ before = ap (take (length before)) q ∙ take-append_seam before (x ∷ later) in
      subst (λ xs. Contains xs y) front
      (h.after (length before) y (omega arith) (ap (is_marked s) here ∙ unmarked x n) (subst (λ z. HasLink rows z y) (sym here) l))

  pub order_is : IsOrder rows s.order
  order_is = record {
    each = λ x. (
      (λ c. (let l : c.0 < length s.order = c.1 in
          let q : get_or s.order c.0 0 ≡ x = get_or_default s.order c.0 0 x l ∙ c.2 in
          subst (λ z. z < length rows) q (in_order c.0 l))),
      (λ l. h.ordered x (finished x l)),
    );
    once = λ j k d l b q. h.once j k l b (get_or_default s.order j 0 d (omega arith) ∙ q ∙ get_or_default s.order k d 0 b);
    after = after;
  }
