-- One list or one caller more.
use Rattle.std.proofs.Common.{◌≡◌, ℕ, ◌+◌, ◌<◌, ◌≤◌, List, [], ◌∷◌, ◌++◌, length, get_or, refl, sym, ap, subst, ◌∙◌, inl, inr, arith}
use Rattle.std.specs.Prelude.{◌^◌, ◌||◌, All, AllPairs, map, sum}
use Rattle.std.proofs.lemmas.Bool.{cases_lt}
use Rattle.std.proofs.lemmas.List.{get_or_append_left, get_or_push, length_push}
use Rattle.std.proofs.lemmas.List.Elements.{All-contains, All-push, All-head, All-tail}
use Rattle.fcg_analysis.proofs.General.Members.{Contains-from_IsIn}
use Rattle.fcg_analysis.proofs.General.Finding.{any_alike}
use Rattle.fcg_order.specs.Links.{row}
use Rattle.fcg_edges.specs.Rows.{Rows, IsList, IsWithCaller, has, any_has, leads, with_list}
use Rattle.fcg_edges.specs.Internal.Tables.{AreApart, IsRow, AreRows, size_of, with_row}
use Rattle.fcg_edges.specs.Internal.Making.{AreWithLists}

-- the lists that were there are there
abbrev pub Stand : List (List ℕ) → List (List ℕ) → Type 0
Stand old new = (l : ℕ) → l < length old → row new l ≡ row old l

pub any_has_stands : (old new : List (List ℕ)) (uses : List ℕ) (b : ℕ) → Stand old new → All (λ l. l < length old) uses → any_has new uses b ≡ any_has old uses b
any_has_stands old new uses b s t =
    any_alike (λ l. has (row new l) b) (λ l. has (row old l) b) uses
    (λ l i. ap (λ xs. has xs b) (s l (All-contains (λ m. m < length old) uses l t (Contains-from_IsIn uses l i))))

sizes_stand : (old new : List (List ℕ)) (uses : List ℕ) → Stand old new → All (λ l. l < length old) uses
    → map (λ l. length (row new l)) uses ≡ map (λ l. length (row old l)) uses
sizes_stand old new [] s t = refl
sizes_stand old new (l ∷ uses) s t =
    let head : length (row new l) ≡ length (row old l) = ap (λ xs. length xs) (s l (All-head (λ m. m < length old) l uses t)) in
    let tail = sizes_stand old new uses s (All-tail (λ m. m < length old) l uses t) in
    λ i. head i ∷ tail i

pub size_stands : (old new : List (List ℕ)) (targets uses : List ℕ) → Stand old new → All (λ l. l < length old) uses → size_of new targets uses ≡ size_of old targets uses
size_stands old new targets uses s t = ap (λ ks. length targets + sum ks) (sizes_stand old new uses s t)

pub pairs_stand : (old new : List (List ℕ)) (uses : List ℕ) → Stand old new → All (λ l. l < length old) uses
    → AllPairs (λ l m. AreApart (row old l) (row old m)) uses → AllPairs (λ l m. AreApart (row new l) (row new m)) uses
pairs_stand old new uses s t a i j d lt within =
    subst (λ xs. AreApart xs (row new (get_or uses j d))) (sym (s (get_or uses i d) (t i d (omega arith))))
    (subst (λ xs. AreApart (row old (get_or uses i d)) xs) (sym (s (get_or uses j d) (t j d within))) (a i j d lt within))

pub row_stands : (count : ℕ) (old new : List (List ℕ)) (targets uses : List ℕ) → Stand old new → length old ≤ length new → IsRow count old targets uses → IsRow count new targets uses
row_stands count old new targets uses s m r = record {
  rise = r.rise;
  there = λ i d lt. (let t = r.there i d lt in omega arith);
  apart = pairs_stand old new uses s r.there r.apart;
  own = λ l c. subst (λ xs. AreApart targets xs) (sym (s l (All-contains (λ m. m < length old) uses l r.there c))) (r.own l c);
}

-- ---- one list more

push_stands : (lists : List (List ℕ)) (xs : List ℕ) → Stand lists (lists ++ xs ∷ [])
push_stands lists xs l lt = get_or_append_left lists (xs ∷ []) [] l lt

pub rows_with_list : (r : Rows) (firsts xs : List ℕ) → AreRows r firsts → IsList r.count xs → length r.lists + 1 < 2 ^ 32 → AreRows (with_list r xs) firsts
rows_with_list r firsts xs h l few = record {
  few = h.few;
  few_lists = (let e = length_push r.lists xs in omega (arith, e));
  within = h.within;
  uses_long = h.uses_long;
  lists = All-push (IsList r.count) r.lists xs h.lists l;
  rows = λ a lt. row_stands r.count r.lists (r.lists ++ xs ∷ []) (row r.targets a) (row r.uses a) (push_stands r.lists xs) (let e = length_push r.lists xs in omega (arith, e)) (h.rows a lt);
  firsts_long = h.firsts_long;
  first = h.first;
  sums = λ a lt. h.sums a lt ∙ ap (λ k. get_or firsts a 0 + k) (sym (size_stands r.lists (r.lists ++ xs ∷ []) (row r.targets a) (row r.uses a) (push_stands r.lists xs) (h.rows a lt).there));
}

pub list_stands : (r : Rows) (firsts xs : List ℕ) → AreRows r firsts → AreWithLists r (with_list r xs)
unfolding leads
list_stands r firsts xs h = record {
  count = refl;
  callers = refl;
  more_lists = (let e = length_push r.lists xs in omega (arith, e));
  lists = push_stands r.lists xs;
  before = λ a b lt. ap (λ t. has (row r.targets a) b || t) (any_has_stands r.lists (r.lists ++ xs ∷ []) (row r.uses a) b (push_stands r.lists xs) (h.rows a lt).there);
}

-- ---- one caller more

module _ (r : Rows) (firsts targets uses : List ℕ) (h : AreRows r firsts) where
  below : (a : ℕ) → a < length r.targets → (row (r.targets ++ targets ∷ []) a ≡ row r.targets a) × (row (r.uses ++ uses ∷ []) a ≡ row r.uses a)
  below a lt = (get_or_append_left r.targets (targets ∷ []) [] a lt, (let l = h.uses_long in get_or_append_left r.uses (uses ∷ []) [] a (omega (arith, l))))

  last : (row (r.targets ++ targets ∷ []) (length r.targets) ≡ targets) × (row (r.uses ++ uses ∷ []) (length r.targets) ≡ uses)
  last = (get_or_push r.targets targets [] (length r.targets) refl, get_or_push r.uses uses [] (length r.targets) h.uses_long)

  next_row : IsRow r.count r.lists targets uses → (a : ℕ) → a < length (r.targets ++ targets ∷ [])
      → IsRow r.count r.lists (row (r.targets ++ targets ∷ []) a) (row (r.uses ++ uses ∷ []) a)
  next_row q a lt =
      elim (cases_lt a (length r.targets)) [
        | inl l ↦ subst (λ ts. IsRow r.count r.lists ts (row (r.uses ++ uses ∷ []) a)) (sym (below a l).0) (subst (IsRow r.count r.lists (row r.targets a)) (sym (below a l).1) (h.rows a l))
        | inr l ↦ (let p = length_push r.targets targets in let e : a ≡ length r.targets = omega (arith, p) in
            subst (λ k. IsRow r.count r.lists (row (r.targets ++ targets ∷ []) k) (row (r.uses ++ uses ∷ []) k)) (sym e)
            (subst (λ ts. IsRow r.count r.lists ts (row (r.uses ++ uses ∷ []) (length r.targets))) (sym last.0) (subst (IsRow r.count r.lists targets) (sym last.1) q)))
      ]

  next_sum : (first : ℕ) → first ≡ get_or firsts (length r.targets) 0 + size_of r.lists targets uses → (a : ℕ) → a < length (r.targets ++ targets ∷ [])
      → get_or (firsts ++ first ∷ []) (a + 1) 0 ≡ get_or (firsts ++ first ∷ []) a 0 + size_of r.lists (row (r.targets ++ targets ∷ []) a) (row (r.uses ++ uses ∷ []) a)
  next_sum first e a lt =
      let long = h.firsts_long in
      let p = length_push r.targets targets in
      elim (cases_lt a (length r.targets)) [
        | inl l ↦ get_or_append_left firsts (first ∷ []) 0 (a + 1) (omega (arith, long)) ∙ h.sums a l
            ∙ (let x = get_or_append_left firsts (first ∷ []) 0 a (omega (arith, long)) in
            let y : size_of r.lists (row (r.targets ++ targets ∷ []) a) (row (r.uses ++ uses ∷ []) a) ≡ size_of r.lists (row r.targets a) (row r.uses a) =
            ap (λ ts. size_of r.lists ts (row (r.uses ++ uses ∷ []) a)) (below a l).0 ∙ ap (size_of r.lists (row r.targets a)) (below a l).1 in
            omega (arith, x, y))
        | inr l ↦ (let f : a ≡ length r.targets = omega (arith, p) in
            subst (λ k. get_or (firsts ++ first ∷ []) (k + 1) 0 ≡ get_or (firsts ++ first ∷ []) k 0 + size_of r.lists (row (r.targets ++ targets ∷ []) k) (row (r.uses ++ uses ∷ []) k)) (sym f)
            (get_or_push firsts first 0 (length r.targets + 1) long ∙ e
            ∙ (let x = get_or_append_left firsts (first ∷ []) 0 (length r.targets) (omega (arith, long)) in
            let y : size_of r.lists (row (r.targets ++ targets ∷ []) (length r.targets)) (row (r.uses ++ uses ∷ []) (length r.targets)) ≡ size_of r.lists targets uses =
            ap (λ ts. size_of r.lists ts (row (r.uses ++ uses ∷ []) (length r.targets))) last.0 ∙ ap (size_of r.lists targets) last.1 in
            omega (arith, x, y))))
      ]

  pub rows_with_row : (first : ℕ) → first ≡ get_or firsts (length r.targets) 0 + size_of r.lists targets uses → length r.targets < r.count → IsRow r.count r.lists targets uses
      → AreRows (with_row r targets uses) (firsts ++ first ∷ [])
  rows_with_row first e more q = record {
    few = h.few;
    few_lists = h.few_lists;
    within = (let p = length_push r.targets targets in omega (arith, p));
    uses_long = (let p = length_push r.targets targets in let u = length_push r.uses uses in let l = h.uses_long in omega (arith, p, u, l));
    lists = h.lists;
    rows = next_row q;
    firsts_long = (let p = length_push r.targets targets in let f = length_push firsts first in let l = h.firsts_long in omega (arith, p, f, l));
    first = (let l = h.firsts_long in get_or_append_left firsts (first ∷ []) 0 0 (omega (arith, l)) ∙ h.first);
    sums = next_sum first e;
  }

  pub is_with_caller : IsWithCaller r (with_row r targets uses) targets uses
  unfolding leads
  is_with_caller = record {
    count = refl;
    callers = length_push r.targets targets;
    more_lists = omega arith;
    lists = λ l lt. refl;
    before = λ a b lt. ap (λ ts. has ts b || any_has r.lists (row (r.uses ++ uses ∷ []) a) b) (below a lt).0 ∙ ap (λ us. has (row r.targets a) b || any_has r.lists us b) (below a lt).1;
    caller = λ b. ap (λ ts. has ts b || any_has r.lists (row (r.uses ++ uses ∷ []) (length r.targets)) b) last.0 ∙ ap (λ us. has targets b || any_has r.lists us b) last.1;
  }
