-- Places of the nodes of a forest, as they are given.
use Rattle.std.proofs.Common.{◌≡◌, ℕ, zero, suc, ◌+◌, ◌-◌, ◌<◌, ◌≤◌, List, length, get_or, set, cond, eqb, refl, sym, ap, subst, ◌∙◌, inl, inr, arith}
use Rattle.std.specs.Prelude.{◌⊎◌, Option, Some, None}
use Rattle.std.proofs.lemmas.Bool.{cases_eq, cases_lt}
use Rattle.std.proofs.lemmas.List.{length-set, get_or-set_same, get_or-set_other}
use Rattle.fcg_order.specs.Places.{parent, IsOnLine, itself, upward, IsForest, ArePlaces}
use Rattle.fcg_order.specs.Internal.Turn.{sum_first}
use Rattle.fcg_order.specs.Internal.Places.{slot, slot_of, node_at, size_at, added_to, own_size, AreSizes, base, IsOpen, AreEntered, AreListed}
use Rattle.fcg_order.proofs.TurnLaws.{sum_to}
use Rattle.fcg_order.proofs.PlaceSums.{at_eq, at_ne, first_zero, first_has, first_falls, node_below, one_node, found, parent_before, slot_open, slot_below, not_later, adds_here, adds_none, added_whole}

module _ (parents : List (Option ℕ)) (order : List ℕ) (forest : IsForest parents order) (sizes : List ℕ) (z : AreSizes parents order sizes 0) where
  abbrev N : ℕ
  N = length parents

  abbrev L : ℕ
  L = length order

  abbrev W : ℕ → ℕ → ℕ
  W s = added_to parents order sizes s

  pub size_is : (x : ℕ) → x < N → size_at sizes x ≡ 1 + sum_first (W x) L
  size_is x l =
      let a = z.size x (omega (arith, l)) in
      let b = added_whole parents order forest sizes x in
      let c : own_size parents x ≡ 1 = at_ne x N 0 1 (λ e. omega (arith, e, l)) in
      omega (arith, a, b, c)

  pub all_is : sum_first (W N) L ≡ L
  all_is =
      let a = z.size N (omega arith) in
      let b = added_whole parents order forest sizes N in
      let c : own_size parents N ≡ 0 = at_eq N N 0 1 refl in
      let d : sum_first (λ k. size_at sizes (node_at order k)) 0 ≡ 0 = refl in
      let e = z.all in
      omega (arith, a, b, c, d, e)

  base_top : (enter : List ℕ) → base parents enter N ≡ 0
  base_top enter = at_eq N N 0 (get_or enter N 0 + 1) refl

  base_node : (enter : List ℕ) (x : ℕ) → x < N → base parents enter x ≡ get_or enter x 0 + 1
  base_node enter x l = at_ne x N 0 (get_or enter x 0 + 1) (λ e. omega (arith, e, l))

  step_sum : (s k : ℕ) → slot parents (node_at order k) ≡ s → sum_first (W s) (suc k) ≡ sum_first (W s) k + size_at sizes (node_at order k)
  step_sum s k e = let h = adds_here parents order forest sizes s k e in omega (arith, h)

  -- what hangs at a slot has room there
  room : (enter next : List ℕ) (i s k : ℕ) → AreEntered parents order sizes enter next i → i ≤ L → IsOpen parents order i s → k ≤ L → base parents enter s + sum_first (W s) k ≤ L
  room enter next i s k a h (inl e) l =
      let b = base_top enter in
      let c = sum_to (W N) k L l in
      let d = all_is in
      let p = ap (base parents enter) e in
      let q = ap (λ t. sum_first (W t) k) e in
      omega (arith, b, c, d, p, q)
  room enter next i s k a h (inr (j, w, e)) l =
      let b = a.bound j w in
      let n = node_below parents order forest j (omega (arith, w, h)) in
      let c = sum_to (W (node_at order j)) k L l in
      let d = size_is (node_at order j) n in
      let f = base_node enter (node_at order j) n in
      let p = ap (base parents enter) e in
      let q = ap (λ t. sum_first (W t) k) e in
      omega (arith, b, c, d, f, p, q)

  -- ---- one node more
  module _ (enter next : List ℕ) (i : ℕ) (there : i < L) (a : AreEntered parents order sizes enter next i) where
    abbrev node : ℕ
    node = node_at order i

    abbrev s : ℕ
    s = slot parents node

    abbrev place : ℕ
    place = get_or next s 0

    abbrev next1 : List ℕ
    next1 = set next s (place + size_at sizes node)

    node_in : node < N
    node_in = node_below parents order forest i there

    pub place_is : place ≡ base parents enter s + sum_first (W s) i
    place_is = a.next_place s (slot_open parents order forest i there)

    pub place_bound : place + size_at sizes node ≤ L
    place_bound =
        let p = place_is in
        let q = step_sum s i refl in
        let r = room enter next i s (suc i) a (omega (arith, there)) (slot_open parents order forest i there) (omega (arith, there)) in
        omega (arith, p, q, r)

    pub size_some : 1 ≤ size_at sizes node
    size_some = let q = size_is node node_in in omega (arith, q)

    abbrev enter' : List ℕ
    enter' = set enter node place

    base_same : (t : ℕ) → (t ≡ node → ⊥) → base parents enter' t ≡ base parents enter t
    base_same t ne = ap (λ v. cond (eqb t N) 0 (v + 1)) (get_or-set_other enter node t place 0 ne)

    earlier : (j : ℕ) → j < i → node_at order j ≡ node → ⊥
    earlier j l e = let o = one_node parents order forest j i (omega (arith, l, there)) there e in omega (arith, o, l)

    slot_other : (j : ℕ) → j ≤ i → slot parents (node_at order j) ≡ node → ⊥
    slot_other j l e = not_later parents order forest j i (slot parents (node_at order j)) l there (slot_open parents order forest j (omega (arith, l, there))) (sym e)

    new_place : get_or enter' node 0 ≡ place
    new_place = get_or-set_same enter node place 0 (let m = a.enter_long in let b = node_in in omega (arith, m, b))

    pub entered_more : AreEntered parents order sizes enter' (set next1 node (place + 1)) (i + 1)
    entered_more = record {
      enter_long = length-set enter node place ∙ a.enter_long;
      next_long = length-set next1 node (place + 1) ∙ length-set next s (place + size_at sizes node) ∙ a.next_long;
      place = λ j l. elim (cases_eq j i) [
        | inl q ↦ subst (λ k. get_or enter' (node_at order k) 0 ≡ base parents enter' (slot parents (node_at order k)) + sum_first (W (slot parents (node_at order k))) k) (sym q)
            (let p = place_is in let b = base_same s (slot_other i (omega arith)) in let w = new_place in omega (arith, p, b, w))
        | inr ne ↦ (let m : j < i = omega (arith, l, ne) in
            let b = base_same (slot parents (node_at order j)) (slot_other j (omega (arith, m))) in
            let w = get_or-set_other enter node (node_at order j) place 0 (earlier j m) in
            let p = a.place j m in omega (arith, p, b, w))
      ];
      next_place = opened;
      bound = λ j l. elim (cases_eq j i) [
        | inl q ↦ subst (λ k. get_or enter' (node_at order k) 0 + size_at sizes (node_at order k) ≤ L) (sym q) (let p = place_bound in let w = new_place in omega (arith, p, w))
        | inr ne ↦ (let m : j < i = omega (arith, l, ne) in
            let w = get_or-set_other enter node (node_at order j) place 0 (earlier j m) in
            let p = a.bound j m in omega (arith, p, w))
      ];
    }
      where
        n1_long : length next1 ≡ N + 1
        n1_long = length-set next s (place + size_at sizes node) ∙ a.next_long

        next_sum : (t : ℕ) → sum_first (W t) (i + 1) ≡ sum_first (W t) i + W t i
        next_sum t = let e : i + 1 ≡ suc i = omega arith in ap (sum_first (W t)) e

        of_node : get_or (set next1 node (place + 1)) node 0 ≡ base parents enter' node + sum_first (W node) (i + 1)
        of_node =
            let b = base_node enter' node node_in in
            let w = new_place in
            let l = n1_long in
            let n = node_in in
            let u = get_or-set_same next1 node (place + 1) 0 (omega (arith, l, n)) in
            let y = first_zero (W node) (i + 1) (λ k m. adds_none parents order forest sizes node k (slot_other k (omega (arith, m)))) in
            omega (arith, b, w, u, y)

        old : (t : ℕ) → IsOpen parents order i t → (t ≡ node → ⊥) → get_or (set next1 node (place + 1)) t 0 ≡ base parents enter' t + sum_first (W t) (i + 1)
        old t o ne = elim (cases_eq t s) [
          | inl q ↦ subst (λ v. get_or (set next1 node (place + 1)) v 0 ≡ base parents enter' v + sum_first (W v) (i + 1)) (sym q)
              (let other : (s ≡ node → ⊥) = slot_other i (omega arith) in
              let u = get_or-set_other next1 node s (place + 1) 0 other in
              let l = a.next_long in
              let n = slot_below parents order forest i there in
              let v = get_or-set_same next s (place + size_at sizes node) 0 (omega (arith, l, n)) in
              let p = place_is in
              let b = base_same s other in
              let d = next_sum s in
              let h = adds_here parents order forest sizes s i refl in
              omega (arith, u, v, p, b, d, h))
          | inr other ↦ (let u = get_or-set_other next1 node t (place + 1) 0 ne in
              let v = get_or-set_other next s t (place + size_at sizes node) 0 other in
              let p = a.next_place t o in
              let b = base_same t ne in
              let d = next_sum t in
              let h = adds_none parents order forest sizes t i (λ w. other (sym w)) in
              omega (arith, u, v, p, b, d, h))
        ]

        opened : (t : ℕ) → IsOpen parents order (i + 1) t → get_or (set next1 node (place + 1)) t 0 ≡ base parents enter' t + sum_first (W t) (i + 1)
        opened t (inl e) = old t (inl e) (λ q. (let n = node_in in omega (arith, n, e, q)))
        opened t (inr (j, l, e)) = elim (cases_eq j i) [
          | inl q ↦ subst (λ v. get_or (set next1 node (place + 1)) v 0 ≡ base parents enter' v + sum_first (W v) (i + 1)) (ap (node_at order) (sym q) ∙ e) of_node
          | inr ne ↦ (let m : j < i = omega (arith, l, ne) in old t (inr (j, m, e)) (λ q. earlier j m (e ∙ q)))
        ]

  -- ---- all nodes
  module _ (enter next : List ℕ) (a : AreEntered parents order sizes enter next L) where
    abbrev E : ℕ → ℕ
    E x = get_or enter x 0

    abbrev Z : ℕ → ℕ
    Z x = size_at sizes x

    -- the place after the last below a slot
    abbrev limit : ℕ → ℕ
    limit s = base parents enter s + sum_first (W s) L

    limit_node : (x : ℕ) → x < N → limit x ≡ E x + Z x
    limit_node x l = let b = base_node enter x l in let q = size_is x l in omega (arith, b, q)

    leave_is : (x : ℕ) → x < N → get_or next x 0 ≡ E x + Z x
    leave_is x l = let f = found parents order forest x l in let n = a.next_place x (inr f) in let m = limit_node x l in omega (arith, n, m)

    some_size : (x : ℕ) → x < N → 1 ≤ Z x
    some_size x l = let q = size_is x l in omega (arith, q)

    -- a node stands within what its slot has
    inside : (x : ℕ) → x < N → (base parents enter (slot parents x) ≤ E x) × (E x + Z x ≤ limit (slot parents x))
    inside x l =
        let f = found parents order forest x l in
        subst (λ y. (base parents enter (slot parents y) ≤ E y) × (E y + Z y ≤ limit (slot parents y))) f.2
        (let p = a.place f.0 f.1 in
        let q = step_sum (slot parents (node_at order f.0)) f.0 refl in
        let r = sum_to (W (slot parents (node_at order f.0))) (suc f.0) L f.1 in
        (omega (arith, p), omega (arith, p, q, r)))

    -- two of one slot are apart, or one
    apart : (x y : ℕ) → x < N → y < N → slot parents x ≡ slot parents y → E x ≤ E y → E y < E x + Z x → x ≡ y
    apart x y l m e u v =
        let f = found parents order forest x l in
        let g = found parents order forest y m in
        at f g
      where
        at : ((k : ℕ) × (k < L) × (node_at order k ≡ x)) → ((k : ℕ) × (k < L) × (node_at order k ≡ y)) → x ≡ y
        at (j, lj, ej) (k, lk, ek) = elim (cases_eq j k) [
          | inl q ↦ sym ej ∙ ap (node_at order) q ∙ ek
          | inr ne ↦ absurd (elim (cases_lt j k) [
            | inl w ↦ (let p = placed j lj x ej in let r = placed k lk y ek in
                let s1 = summed j x ej in
                let t = sum_to (W (slot parents x)) (suc j) k w in
                let c = ap (λ s. base parents enter s + sum_first (W s) k) e in
                omega (arith, p, r, s1, t, c, v))
            | inr w ↦ (let p = placed j lj x ej in let r = placed k lk y ek in
                let s1 = summed k y ek in
                let t = sum_to (W (slot parents y)) (suc k) j (omega (arith, w, ne)) in
                let c = ap (λ s. base parents enter s + sum_first (W s) j) e in
                let n = some_size y m in
                omega (arith, p, r, s1, t, c, u, n))
          ])
        ]
          where
            placed : (k : ℕ) → k < L → (y : ℕ) → node_at order k ≡ y → E y ≡ base parents enter (slot parents y) + sum_first (W (slot parents y)) k
            placed k l y q = subst (λ v. E v ≡ base parents enter (slot parents v) + sum_first (W (slot parents v)) k) q (a.place k l)

            summed : (k y : ℕ) → node_at order k ≡ y → sum_first (W (slot parents y)) (suc k) ≡ sum_first (W (slot parents y)) k + Z y
            summed k y q = subst (λ v. sum_first (W (slot parents v)) (suc k) ≡ sum_first (W (slot parents v)) k + Z v) q (step_sum (slot parents (node_at order k)) k refl)

    -- ---- lines

    slot_parent : (x p : ℕ) → parent parents x ≡ Some p → slot parents x ≡ p
    slot_parent x p e = ap (slot_of N) e

    slot_none : (x : ℕ) → parent parents x ≡ None → slot parents x ≡ N
    slot_none x e = ap (slot_of N) e

    parent_in : (x p : ℕ) → x < N → parent parents x ≡ Some p → p < N
    parent_in x p l e =
        let f = found parents order forest x l in
        let w = f.1 in
        let b = parent_before parents order forest f.0 p f.1 (ap (parent parents) f.2 ∙ e) in
        let u = b.1 in
        subst (λ y. y < N) b.2 (node_below parents order forest b.0 (omega (arith, u, w)))

    under : (x p : ℕ) → x < N → parent parents x ≡ Some p → (E p < E x) × (E x + Z x ≤ E p + Z p)
    under x p l e =
        let m = parent_in x p l e in
        let s = slot_parent x p e in
        let i = inside x l in
        let b = ap (base parents enter) s in
        let c = ap limit s in
        let d = base_node enter p m in
        let f = limit_node p m in
        let u = i.0 in
        let v = i.1 in
        (omega (arith, u, b, d), omega (arith, v, c, f))

    up : (x y : ℕ) → IsOnLine parents x y → y < N → (E x ≤ E y) × (E y + Z y ≤ E x + Z x)
    up x _ itself l = (omega arith, omega arith)
    up x y (upward {p = p} e w) l =
        let r = up x p w (parent_in y p l e) in
        let s = under y p l e in
        let r0 = r.0 in
        let r1 = r.1 in
        let s0 = s.0 in
        let s1 = s.1 in
        (omega (arith, r0, s0), omega (arith, r1, s1))

    bound : (x : ℕ) → x < N → E x + Z x ≤ L
    bound x l = let f = found parents order forest x l in let b = a.bound f.0 f.1 in subst (λ y. E y + Z y ≤ L) f.2 b

    line_in : (x y : ℕ) → IsOnLine parents x y → y < N → x < N
    line_in x _ itself l = l
    line_in x y (upward {p = p} e w) l = line_in x p w (parent_in y p l e)

    -- what stands above on a line has a child there
    child : (p y : ℕ) → IsOnLine parents p y → (p ≡ y) ⊎ ((c : ℕ) × (parent parents c ≡ Some p) × IsOnLine parents c y)
    child p _ itself = inl refl
    child p y (upward {p = q} e w) = at (child p q w)
      where
        at : (p ≡ q) ⊎ ((c : ℕ) × (parent parents c ≡ Some p) × IsOnLine parents c q) → (p ≡ y) ⊎ ((c : ℕ) × (parent parents c ≡ Some p) × IsOnLine parents c y)
        at (inl s) = inr (y, e ∙ ap (λ v. Some v) (sym s), itself)
        at (inr (c, f, v)) = inr (c, f, upward e v)

    root : (k y : ℕ) → E y < k → y < N → (r : ℕ) × (parent parents r ≡ None) × IsOnLine parents r y
    root zero y m l = absurd (omega (arith, m))
    root (suc k) y m l = at (parent parents y) refl (root k)
      where
        at : (o : Option ℕ) → parent parents y ≡ o → ((p : ℕ) → E p < k → p < N → (r : ℕ) × (parent parents r ≡ None) × IsOnLine parents r p) → (r : ℕ) × (parent parents r ≡ None) × IsOnLine parents r y
        at None e h = (y, e, itself)
        at (Some p) e h = let u = (under y p l e).0 in let r = h p (omega (arith, m, u)) (parent_in y p l e) in (r.0, r.1, upward e r.2)

    -- two of one slot that have a place in common are one
    meet : (x c y : ℕ) → x < N → c < N → y < N → slot parents x ≡ slot parents c → E x ≤ E y → E y < E x + Z x → IsOnLine parents c y → c ≡ x
    meet x c y lx lc ly e a b w =
        let u = up c y w ly in
        let u0 = u.0 in
        let u1 = u.1 in
        let n = some_size y ly in
        elim (cases_lt (E x) (E c)) [
          | inl t ↦ sym (apart x c lx lc e (omega (arith, t)) (omega (arith, u0, b)))
          | inr t ↦ apart c x lc lx (sym e) (omega (arith, t)) (omega (arith, a, u1, n))
        ]

    down : (k x y : ℕ) → E x < k → x < N → y < N → E x ≤ E y → E y < E x + Z x → IsOnLine parents x y
    down zero x y m lx ly a b = absurd (omega (arith, m))
    down (suc k) x y m lx ly a b = at (parent parents x) refl (down k)
      where
        at : (o : Option ℕ) → parent parents x ≡ o → ((p z : ℕ) → E p < k → p < N → z < N → E p ≤ E z → E z < E p + Z p → IsOnLine parents p z) → IsOnLine parents x y
        at None e h =
            let r = root (suc (E y)) y (omega arith) ly in
            subst (λ v. IsOnLine parents v y) (meet x r.0 y lx (line_in r.0 y r.2 ly) ly (slot_none x e ∙ sym (slot_none r.0 r.1)) a b r.2) r.2
        at (Some p) e h =
            let u = under x p lx e in
            let u0 = u.0 in
            let u1 = u.1 in
            elim (child p y (h p y (omega (arith, m, u0)) (parent_in x p lx e) ly (omega (arith, a, u0)) (omega (arith, b, u1)))) [
              | inl s ↦ absurd (let q = ap E s in omega (arith, q, u0, a))
              | inr c ↦ subst (λ v. IsOnLine parents v y) (meet x c.0 y lx (line_in c.0 y c.2 ly) ly (slot_parent x p e ∙ sym (slot_parent c.0 p c.1)) a b c.2) c.2
            ]

    line_same : (x y : ℕ) → IsOnLine parents x y → y < N → E x ≡ E y → x ≡ y
    line_same x _ itself l e = refl
    line_same x y (upward {p = p} f w) l e =
        let u = (up x p w (parent_in y p l f)).0 in
        let v = (under y p l f).0 in
        absurd (omega (arith, u, v, e))

    pub same_place : (x y : ℕ) → x < N → y < N → E x ≡ E y → x ≡ y
    same_place x y lx ly e =
        let m = some_size x lx in
        line_same x y (down (suc (E x)) x y (omega arith) lx ly (omega (arith, e)) (omega (arith, e, m))) ly e

    -- ---- each place has a node

    adds : (s j : ℕ) → 0 < W s j → slot parents (node_at order j) ≡ s
    adds s j l = elim (cases_eq (slot parents (node_at order j)) s) [
      | inl e ↦ e
      | inr ne ↦ absurd (let q = adds_none parents order forest sizes s j ne in omega (arith, q, l))
    ]

    hung : (s j : ℕ) → j < L → 0 < W s j → (E (node_at order j) ≡ base parents enter s + sum_first (W s) j) × (W s j ≡ Z (node_at order j))
    hung s j l p =
        let e = adds s j p in
        (subst (λ t. E (node_at order j) ≡ base parents enter t + sum_first (W t) j) e (a.place j l), adds_here parents order forest sizes s j e)

    fill : (k x v : ℕ) → Z x < k → x < N → E x ≤ v → v < E x + Z x → (y : ℕ) × (y < N) × (E y ≡ v)
    fill zero x v m l a b = absurd (omega (arith, m))
    fill (suc k) x v m l a b = elim (cases_eq (E x) v) [
      | inl e ↦ (x, l, e)
      | inr ne ↦ by ne (fill k)
    ]
      where
        by : (E x ≡ v → ⊥) → ((c w : ℕ) → Z c < k → c < N → E c ≤ w → w < E c + Z c → (y : ℕ) × (y < N) × (E y ≡ w)) → (y : ℕ) × (y < N) × (E y ≡ v)
        by ne h =
            let q = size_is x l in
            let o = base_node enter x l in
            let f = first_falls (W x) L (v - (E x + 1)) (omega (arith, q, a, b, ne)) in
            let j = f.0 in
            let c = f.2 in
            let d = f.3 in
            let s = hung x j f.1 (omega (arith, c, d)) in
            let w = s.0 in
            let r = s.1 in
            let t = first_has (W x) L j f.1 in
            h (node_at order j) v (omega (arith, m, q, t, r)) (node_below parents order forest j f.1) (omega (arith, w, o, c, a, ne)) (omega (arith, w, o, d, r, a, ne))

    pub node_there : (v : ℕ) → v < L → (y : ℕ) × (y < N) × (E y ≡ v)
    node_there v l =
        let t = all_is in
        let f = first_falls (W N) L v (omega (arith, l, t)) in
        let j = f.0 in
        let s = hung N j f.1 (let a = f.2 in let b = f.3 in omega (arith, a, b)) in
        let a = f.2 in
        let b = f.3 in
        let w = s.0 in
        let q = s.1 in
        let o = base_top enter in
        fill (suc (Z (node_at order j))) (node_at order j) v (omega arith) (node_below parents order forest j f.1) (omega (arith, w, o, a)) (omega (arith, w, o, b, q))

    -- ---- the list of nodes

    pub listed_more : (nodes : List ℕ) (x : ℕ) → x < N → length nodes ≡ L → AreListed enter nodes x → AreListed enter (set nodes (E x) x) (x + 1)
    listed_more nodes x l m h = record {
      each = λ y k. elim (cases_eq y x) [
        | inl e ↦ subst (λ v. get_or (set nodes (E x) x) (E v) 0 ≡ v) (sym e) (get_or-set_same nodes (E x) x 0 (place_small nodes x l m))
        | inr ne ↦ get_or-set_other nodes (E x) (E y) x 0 (λ q. ne (same_place y x (omega (arith, k, l)) l q)) ∙ h.each y (omega (arith, k, ne))
      ];
    }
      where
        place_small : (nodes : List ℕ) (x : ℕ) → x < N → length nodes ≡ L → E x < length nodes
        place_small nodes x l m = let b = bound x l in let n = some_size x l in omega (arith, b, n, m)

    pub place_in : (x : ℕ) → x < N → E x < L
    place_in x l = let b = bound x l in let n = some_size x l in omega (arith, b, n)

    pub are_places : (nodes : List ℕ) → length nodes ≡ L → AreListed enter nodes N → ArePlaces parents enter next nodes
    are_places nodes m h = record {
      enter_long = a.enter_long;
      leave_long = (let n = a.next_long in omega (arith, n));
      some = λ x l. (let v = leave_is x l in let n = some_size x l in omega (arith, v, n));
      within = λ x l. (let v = leave_is x l in let b = bound x l in omega (arith, v, b, m));
      line = λ x y lx ly. (let v = leave_is x lx in let n = some_size y ly in (
        (λ w. (let u = up x y w ly in let u0 = u.0 in let u1 = u.1 in (u0, omega (arith, v, u1, n)))),
        (λ i. (let i0 = i.0 in let i1 = i.1 in down (suc (E x)) x y (omega arith) lx ly i0 (omega (arith, v, i1)))),
      ));
      listed = λ x l. h.each x l;
      node = λ k l. (let y = node_there k (omega (arith, l, m)) in
          let q : get_or nodes k 0 ≡ y.0 = ap (λ v. get_or nodes v 0) (sym y.2) ∙ h.each y.0 y.1 in
          let w = y.1 in
          (omega (arith, q, w), ap E q ∙ y.2));
    }
