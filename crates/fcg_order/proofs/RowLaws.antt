-- Rows that stand one after the other in one list.
use Rattle.std.proofs.Common.{◌≡◌, ℕ, zero, suc, ◌+◌, ◌<◌, ◌≤◌, List, [], ◌∷◌, ◌++◌, length, get_or, take, drop, refl, sym, ap, subst, ◌∙◌, arith}
use Rattle.std.proofs.lemmas.List.{take_all, drop_at, take-append-le, length-append}
use Rattle.fcg_order.specs.Links.{row}
use Rattle.fcg_order.specs.Internal.Rows.{rows_of, AreStarts}

length-rows_of : (ss ts : List ℕ) → AreStarts ss ts → suc (length (rows_of ss ts)) ≡ length ss
length-rows_of [] ts h = absurd h
length-rows_of (a ∷ []) ts h = refl
length-rows_of (a ∷ b ∷ ss) ts h = ap suc (length-rows_of (b ∷ ss) ts h.1)

row_at : (ss ts : List ℕ) (n d e : ℕ) → suc n < length ss → get_or (rows_of ss ts) n [] ≡ drop (get_or ss n d) (take (get_or ss (suc n) e) ts)
row_at [] ts n d e l = absurd (omega arith)
row_at (a ∷ []) ts n d e l = absurd (omega arith)
row_at (a ∷ b ∷ ss) ts zero d e l = refl
row_at (a ∷ b ∷ ss) ts (suc n) d e l = row_at (b ∷ ss) ts n d e (omega arith)

pub start_below : (ss ts : List ℕ) (n d : ℕ) → AreStarts ss ts → n < length ss → get_or ss n d ≤ length ts
start_below [] ts n d h l = absurd h
start_below (a ∷ []) ts zero d h l = omega (arith, h)
start_below (a ∷ []) ts (suc n) d h l = absurd (omega arith)
start_below (a ∷ b ∷ ss) ts zero d h l = let x : b ≤ length ts = start_below (b ∷ ss) ts zero d h.1 (omega arith) in let y : a ≤ b = h.0 in omega arith
start_below (a ∷ b ∷ ss) ts (suc n) d h l = start_below (b ∷ ss) ts n d h.1 (omega arith)

rises : (ss ts : List ℕ) (n d e : ℕ) → AreStarts ss ts → suc n < length ss → get_or ss n d ≤ get_or ss (suc n) e
rises [] ts n d e h l = absurd h
rises (a ∷ []) ts n d e h l = absurd (omega arith)
rises (a ∷ b ∷ ss) ts zero d e h l = h.0
rises (a ∷ b ∷ ss) ts (suc n) d e h l = rises (b ∷ ss) ts n d e h.1 (omega arith)

-- the row of a node, between its two starts
pub record IsRow (rows : List (List ℕ)) (ss ts : List ℕ) (n d e : ℕ) : Type 0 where
  pub inside : n + 1 < length ss
  pub rise : get_or ss n d ≤ get_or ss (n + 1) e
  pub below : get_or ss (n + 1) e ≤ length ts
  pub row_is : row rows n ≡ drop (get_or ss n d) (take (get_or ss (n + 1) e) ts)

pub row_there : (rows : List (List ℕ)) (ss ts : List ℕ) (n d e : ℕ) → rows_of ss ts ≡ rows → AreStarts ss ts → n < length rows → IsRow rows ss ts n d e
row_there rows ss ts n d e q h l =
    let m : suc (length rows) ≡ length ss = ap (λ rs. suc (length rs)) (sym q) ∙ length-rows_of ss ts h in
    let s : n + 1 ≡ suc n = omega arith in
    let b : n + 1 < length ss = omega arith in
    let c : suc n < length ss = omega arith in
    record {
      inside = b;
      rise = subst (λ k. get_or ss n d ≤ get_or ss k e) (sym s) (rises ss ts n d e h c);
      below = start_below ss ts (n + 1) e h b;
      row_is = ap (λ rs. row rs n) (sym q) ∙ row_at ss ts n d e c ∙ ap (λ k. drop (get_or ss n d) (take (get_or ss k e) ts)) (sym s);
    }

pub length-rows : (rows : List (List ℕ)) (ss ts : List ℕ) → rows_of ss ts ≡ rows → AreStarts ss ts → length rows + 1 ≡ length ss
length-rows rows ss ts q h = let m : suc (length rows) ≡ length ss = ap (λ rs. suc (length rs)) (sym q) ∙ length-rows_of ss ts h in omega arith

-- ---- one more row

pub starts_push : (ss ts r : List ℕ) → AreStarts ss ts → AreStarts (ss ++ length (ts ++ r) ∷ []) (ts ++ r)
starts_push [] ts r h = absurd h
starts_push (a ∷ []) ts r h = (let m = length-append ts r in omega arith, refl)
starts_push (a ∷ b ∷ ss) ts r h = (h.0, starts_push (b ∷ ss) ts r h.1)

pub rows_push : (ss ts r : List ℕ) → AreStarts ss ts → rows_of (ss ++ length (ts ++ r) ∷ []) (ts ++ r) ≡ rows_of ss ts ++ r ∷ []
rows_push [] ts r h = absurd h
rows_push (a ∷ []) ts r h = ap (λ xs. xs ∷ []) (ap (drop a) (take_all (length (ts ++ r)) (ts ++ r) (omega arith)) ∙ drop_at ts r a (sym h))
rows_push (a ∷ b ∷ ss) ts r h =
    ap (λ xs. drop a xs ∷ rows_of (b ∷ (ss ++ length (ts ++ r) ∷ [])) (ts ++ r)) (take-append-le b ts r (start_below (b ∷ ss) ts 0 0 h.1 (omega arith)))
    ∙ ap (λ rs. drop a (take b ts) ∷ rs) (rows_push (b ∷ ss) ts r h.1)
