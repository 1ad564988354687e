-- The rows of callers, the statuses of their sites and the numbers of their first sites, node after node.
use Rattle.std.proofs.Common.{◌≡◌, ℕ, ◌≤◌, ◌+◌, List, [], ◌∷◌, ◌++◌, length, take, drop, append-nil, append_assoc, length-append, refl, sym, ap, ◌∙◌, arith}
use Rattle.std.specs.Prelude.{Bool, true, false, ◌||◌, ◌==◌, Some, slice_get, filter, map, flat_map}
use Rattle.std.proofs.lemmas.List.{take_more, take-append-drop, map-append, length-map}
use Rattle.std.proofs.lemmas.List.Concat.{flat_map-append}
use Rattle.std.proofs.lemmas.List.Elements.{filter-append}
use Rattle.std.proofs.lemmas.Option.{get_or_from_slice_get, slice_get_within}
use Rattle.fcg_views.specs.declared.view.Site.{Site}
use Rattle.fcg_analysis.specs.Declarations.{Placed}
use Rattle.fcg_analysis.specs.Nodes.{Node}
use Rattle.fcg_analysis.specs.Edges as rules
use Rattle.fcg_edges.specs.Rows.{Rows, has}
use Rattle.fcg_stitch.specs.Limits.{calls, calls_of}
use Rattle.fcg_stitch.specs.Status.{status_shown}
use Rattle.fcg_stitch.specs.declared.callers.Work.{Work}
use Rattle.fcg_stitch.specs.Internal.Rows.{row_has, first_sites_from, first_sites, statuses_of_nodes}
use Rattle.fcg_stitch.specs.Internal.Calling.{AddsTargets, AddsStatuses}

-- ---- the first elements of a list

pub one_more : {X : Type 0} (xs : List X) (k : ℕ) (x : X) → slice_get xs k ≡ Some x → take (k + 1) xs ≡ take k xs ++ x ∷ []
one_more {X} xs k x e = take_more xs k x (slice_get_within xs k x e) ∙ ap (λ (y : X). take k xs ++ y ∷ []) (get_or_from_slice_get xs k x x e)

pub map_one_more : {X Y : Type 0} (f : X → Y) (xs : List X) (k : ℕ) (x : X) → slice_get xs k ≡ Some x → map f (take (k + 1) xs) ≡ map f (take k xs) ++ f x ∷ []
map_one_more f xs k x e = ap (map f) (one_more xs k x e) ∙ map-append f (take k xs) (x ∷ [])

pub flat_map_one_more : {X Y : Type 0} (f : X → List Y) (xs : List X) (k : ℕ) (x : X) → slice_get xs k ≡ Some x → flat_map f (take (k + 1) xs) ≡ flat_map f (take k xs) ++ f x
flat_map_one_more f xs k x e =
    ap (flat_map f) (one_more xs k x e)
    ∙ flat_map-append f (take k xs) (x ∷ [])
    ∙ ap (λ ys. flat_map f (take k xs) ++ ys) (append-nil (f x))

count_append : {X : Type 0} (p : X → Bool) (xs ys : List X) → length (filter p (xs ++ ys)) ≡ length (filter p xs) + length (filter p ys)
count_append p xs ys = ap length (filter-append p xs ys) ∙ length-append (filter p xs) (filter p ys)

pub count_one_more : {X : Type 0} (p : X → Bool) (xs : List X) (k : ℕ) (x : X) → slice_get xs k ≡ Some x → length (filter p (take (k + 1) xs)) ≡ length (filter p (take k xs)) + length (filter p (x ∷ []))
count_one_more p xs k x e = ap (λ ys. length (filter p ys)) (one_more xs k x e) ∙ count_append p (take k xs) (x ∷ [])

pub count_first : {X : Type 0} (p : X → Bool) (xs : List X) (k : ℕ) → length (filter p (take k xs)) ≤ length (filter p xs)
count_first p xs k =
    let e : length (filter p xs) ≡ length (filter p (take k xs)) + length (filter p (drop k xs)) =
    ap (λ ys. length (filter p ys)) (sym (take-append-drop k xs)) ∙ count_append p (take k xs) (drop k xs) in
    omega arith

-- ---- sites that call

pub calls_one_more : (ms : List Node) (k : ℕ) (m : Node) → slice_get ms k ≡ Some m → calls_of (take (k + 1) ms) ≡ calls_of (take k ms) + length (filter calls m.method.sites)
calls_one_more ms k m e =
    ap (λ ss. length (filter calls ss)) (flat_map_one_more (λ n. n.method.sites) ms k m e)
    ∙ count_append calls (flat_map (λ n. n.method.sites) (take k ms)) m.method.sites

pub calls_first : (ms : List Node) (k : ℕ) → calls_of (take k ms) ≤ calls_of ms
calls_first ms k =
    let f : Node → List Site = λ n. n.method.sites in
    let e : calls_of ms ≡ calls_of (take k ms) + calls_of (drop k ms) =
    ap calls_of (sym (take-append-drop k ms))
    ∙ ap (λ ss. length (filter calls ss)) (flat_map-append f (take k ms) (drop k ms))
    ∙ count_append calls (flat_map f (take k ms)) (flat_map f (drop k ms)) in
    omega arith

-- the first nodes and one more cost no more than all
pub next_cost : (ms : List Node) (k : ℕ) (m : Node) → slice_get ms k ≡ Some m → (a b d : ℕ) → b ≤ a + calls_of (take k ms) → d ≤ b + length (filter calls m.method.sites) → d ≤ a + calls_of ms
next_cost ms k m e a b d h g =
    let one = calls_one_more ms k m e in
    let all = calls_first ms (k + 1) in
    omega arith

-- ---- first sites, and statuses

first_more : (n : ℕ) (ms : List Node) (m : Node) → first_sites_from n (ms ++ m ∷ []) ≡ first_sites_from n ms ++ (n + length (flat_map (λ a. a.method.sites) ms)) ∷ []
first_more n [] m = let e : n ≡ n + 0 = omega arith in ap (λ k. k ∷ []) e
first_more n (a ∷ ms) m =
    let e : n + length a.method.sites + length (flat_map (λ b. b.method.sites) ms) ≡ n + length (a.method.sites ++ flat_map (λ b. b.method.sites) ms) =
    omega (arith, length-append a.method.sites (flat_map (λ b. b.method.sites) ms)) in
    ap (λ ks. n ∷ ks) (first_more (n + length a.method.sites) ms m ∙ ap (λ k. first_sites_from (n + length a.method.sites) ms ++ k ∷ []) e)

statuses_count : (types : List Placed) (ms : List Node) → length (statuses_of_nodes types ms) ≡ length (flat_map (λ m. m.method.sites) ms)
statuses_count types [] = refl
statuses_count types (m ∷ ms) =
    length-append (rules.statuses_of types m) (statuses_of_nodes types ms)
    ∙ ap (λ k. k + length (statuses_of_nodes types ms)) (length-map m.method.sites (rules.status types))
    ∙ ap (λ k. length m.method.sites + k) (statuses_count types ms)
    ∙ sym (length-append m.method.sites (flat_map (λ n. n.method.sites) ms))

-- the number of a node's first site is the count of the statuses before
pub first_sites_one_more : (types : List Placed) (ms : List Node) (k : ℕ) (m : Node) → slice_get ms k ≡ Some m → first_sites (take (k + 1) ms) ≡ first_sites (take k ms) ++ length (statuses_of_nodes types (take k ms)) ∷ []
first_sites_one_more types ms k m e =
    let c : 0 + length (flat_map (λ a. a.method.sites) (take k ms)) ≡ length (statuses_of_nodes types (take k ms)) =
    (let d = statuses_count types (take k ms) in omega arith) in
    ap (first_sites_from 0) (one_more ms k m e) ∙ first_more 0 (take k ms) m ∙ ap (λ n. first_sites_from 0 (take k ms) ++ n ∷ []) c

-- ---- what is added

or_nothing : (a : Bool) → a ≡ (a || false)
or_nothing true = refl
or_nothing false = refl

or_more : (a b c : Bool) → (a || b || c) ≡ (a || (b || c))
or_more true b c = refl
or_more false b c = refl

pub has_joined : (ks js : List ℕ) (b : ℕ) → has (ks ++ js) b ≡ (has ks b || has js b)
has_joined [] js b = refl
has_joined (k ∷ ks) js b = ap (λ (x : Bool). (k == b) || x) (has_joined ks js b) ∙ sym (or_more (k == b) (has ks b) (has js b))

pub adds_nothing : (r : Rows) (w : Work) → AddsTargets r r w w []
adds_nothing r w b = or_nothing (row_has r.lists w.row.targets.items w.row.uses.items b)

pub adds_more : (r s t : Rows) (u v w : Work) (ks js : List ℕ) → AddsTargets r s u v ks → AddsTargets s t v w js → AddsTargets r t u w (ks ++ js)
adds_more r s t u v w ks js h k b =
    k b
    ∙ ap (λ (x : Bool). x || has js b) (h b)
    ∙ or_more (row_has r.lists u.row.targets.items u.row.uses.items b) (has ks b) (has js b)
    ∙ ap (λ (x : Bool). row_has r.lists u.row.targets.items u.row.uses.items b || x) (sym (has_joined ks js b))

pub adds_no_status : (w : Work) → AddsStatuses w w []
adds_no_status w = sym (append-nil (map status_shown w.statuses.items))

pub adds_more_statuses : (u v w : Work) (ss ts : List rules.Status) → AddsStatuses u v ss → AddsStatuses v w ts → AddsStatuses u w (ss ++ ts)
adds_more_statuses u v w ss ts h k = k ∙ ap (λ qs. qs ++ ts) h ∙ append_assoc (map status_shown u.statuses.items) ss ts
