-- The keys of nodes, and the tables of signatures from them.
use Rattle.std.proofs.Common.{◌≡◌, ℕ, ◌+◌, ◌-◌, ◌<◌, ◌≤◌, List, [], ◌∷◌, length, get_or, replicate, refl, sym, ap, subst, ◌∙◌, inr, cond, arith}
use Rattle.std.specs.Prelude.{Bool, true, false, All, Some, map, filter, option_map, slice_get}
use Rattle.std.specs.Cmp.Lexicographic.{bytes_decides}
use Rattle.std.proofs.lemmas.List.{get_or-map, get_or_default, length-map, length-replicate, same_lists}
use Rattle.std.proofs.lemmas.List.Sorted.{length_permutation}
use Rattle.std.proofs.lemmas.Option.{slice_get_within, slice_get-map, get_or_from_slice_get}
use Rattle.fcg_grammar.specs.Table.{table, place}
use Rattle.fcg_grammar.proofs.Among.{Among}
use Rattle.fcg_grammar.proofs.TableLaws.{table_rises, table_among, place_at, at_place}
use Rattle.fcg_views.specs.declared.view.Method.{Method}
use Rattle.fcg_partial.specs.declared.row.MethodRow.{MethodRow}
use Rattle.fcg_partial.specs.Parts.{PartShown}
use Rattle.fcg_analysis.specs.NamesAndFlags.{same}
use Rattle.fcg_analysis.specs.Declarations.{Placed}
use Rattle.fcg_analysis.specs.Laws.Methods.{first_node}
use Rattle.fcg_analysis.specs.Nodes.{Node, nodes}
use Rattle.fcg_analysis.proofs.General.Members.{IsIn, IsIn-from_Contains, Contains-from_IsIn, map_in}
use Rattle.fcg_analysis.proofs.WinnerLaws.{known_distinct}
use Rattle.fcg_join.specs.declared.heads.TypeHead.{TypeHead}
use Rattle.fcg_join.specs.declared.methods.MethodPlace.{MethodPlace}
use Rattle.fcg_join.specs.SetNames.{part_names, set_names}
use Rattle.fcg_join.specs.Parts.{placed, types_of, nodes_of}
use Rattle.fcg_join.specs.NodeTables.{HasNodeAt, owners, numbers_of}
use Rattle.fcg_join.specs.Numbers.{signature_key}
use Rattle.fcg_join.specs.TypeLinks.{HasTypeAt}
use Rattle.fcg_join.specs.Internal.MethodRows.{IsMethodPlace, row_of_own}
use Rattle.fcg_join.specs.Internal.Nodes.{AreNodeTables}
use Rattle.fcg_join.specs.Internal.PartNames.{names_by_number}
use Rattle.fcg_join.specs.Internal.Signatures.{Key, key_of, row_of_pair, pairs_of_keys, nodes_of_row, set_rows, signature_rows, AreSortedKeys}
use Rattle.fcg_join.specs.Internal.TypeHeads.{IsHead}
use Rattle.fcg_join.specs.Internal.TypeNumbers.{AreHeads, head_at}
use Rattle.fcg_join.proofs.CollectedLaws.{map_twice}
use Rattle.fcg_join.proofs.GraphRows.{item, numbered, among_item}
use Rattle.fcg_join.proofs.JoinLaws.{table_long}
use Rattle.fcg_join.proofs.JoinedLaws.{head_of_type}
use Rattle.fcg_join.proofs.MethodLaws.{in_row}
use Rattle.fcg_join.proofs.MethodRows.{name_among, desc_among, own_there}
use Rattle.fcg_join.proofs.NodeNumbers.{owners_long, owner_is, owners_within, first_nodes_long, first_nodes_at, passing_in, in_passing, passing_within}
use Rattle.fcg_join.proofs.SignatureRows.{set_rows_value, set_rows_long}
use Rattle.fcg_join.proofs.SignatureKeys.{kept, kept_pairs}
use Rattle.fcg_join.proofs.ZipLaws.{zip_long}

-- ---- the pair of a method
pub pair_loaded : (parts : List PartShown) (at : MethodPlace) (m : Method) → IsMethodPlace parts at m → (p : PartShown) → p ≡ get_or parts at.part p → (row : MethodRow) → row ≡ row_of_own p m
    → (own : List ℕ) → own ≡ get_or (names_by_number (set_names parts) parts) at.part [] → (get_or own row.name 0 ≡ place (set_names parts) m.name) × (get_or own row.desc 0 ≡ place (set_names parts) m.desc)
pair_loaded parts at m a p e row r own f =
    let names = set_names parts in
    let h = own_there parts at m a p e in
    let own_is : own ≡ map (place names) (part_names p) =
    f ∙ get_or-map (λ (q : PartShown). map (place names) (part_names q)) parts at.part p [] (slice_get_within parts at.part a.part a.part_is) ∙ ap (λ (q : PartShown). map (place names) (part_names q)) (sym e) in (
      ap (λ (q : MethodRow). get_or own q.name 0) r ∙ ap (λ ns. get_or ns (place (part_names p) m.name) 0) own_is ∙ numbered names (part_names p) m.name 0 (name_among p at.place at.index m h),
      ap (λ (q : MethodRow). get_or own q.desc 0) r ∙ ap (λ ns. get_or ns (place (part_names p) m.desc) 0) own_is ∙ numbered names (part_names p) m.desc 0 (desc_among p at.place at.index m h),
    )

-- ---- the place of a node
module _ (parts : List PartShown) (heads : List TypeHead) (are : AreHeads parts heads (types_of parts)) (firsts os : List ℕ) (tables : AreNodeTables (types_of parts) firsts os) where
  abbrev types : List Placed
  types = types_of parts

  pub owners_many : length os ≡ length (nodes_of parts)
  owners_many = ap (λ ns. length ns) tables.owners_are ∙ owners_long types

  pub firsts_many : length firsts ≡ length types
  firsts_many = ap (λ ns. length ns) tables.firsts_are ∙ first_nodes_long types

  pub heads_many : length heads ≡ length types
  heads_many = zip_long (IsHead parts (set_names parts)) heads types are

  module _ (m : ℕ) (l : m < length (nodes_of parts)) (y : ℕ) (e : y ≡ get_or os m y) where
    owner_at : y ≡ get_or (owners types) m 0
    owner_at = e ∙ get_or_default os m y 0 (let k = owners_many in omega arith) ∙ ap (λ ns. get_or ns m 0) tables.owners_are

    pub owner_below : y < length types
    owner_below = subst (λ (x : ℕ). x < length types) (sym owner_at) (owners_within types m 0 (let k = owners_long types in omega arith))

    first_at : (first : ℕ) → first ≡ get_or firsts y first → first ≡ first_node types y
    first_at first f =
        let t = item types y owner_below in
        f ∙ get_or_default firsts y first 0 (let k = firsts_many in let b = owner_below in omega arith) ∙ ap (λ ns. get_or ns y 0) tables.firsts_are ∙ first_nodes_at types y t.0 t.1

    module _ (n : Node) (h : slice_get (nodes_of parts) m ≡ Some n) where
      type_at : HasTypeAt types y n.owner
      type_at = subst (λ (x : ℕ). HasTypeAt types x n.owner) (sym owner_at) (owner_is types m n h)

      head_there : IsHead parts (set_names parts) (head_at heads y) n.owner
      head_there = head_of_type parts heads types are (known_distinct (placed parts)) y n.owner type_at

      pub methods_are : (head : TypeHead) → head ≡ head_at heads y → head.methods ≡ length n.owner.view.methods
      methods_are head i = ap (λ (g : TypeHead). g.methods) (i ∙ head_there.head_is)

      pub row_there : (first : ℕ) → first ≡ get_or firsts y first → (first ≤ m) × (m < first + length n.owner.view.methods) × (slice_get n.owner.view.methods (m - first) ≡ Some n.method)
      row_there first f = subst (λ (k : ℕ). (k ≤ m) × (m < k + length n.owner.view.methods) × (slice_get n.owner.view.methods (m - k) ≡ Some n.method)) (sym (first_at first f)) (in_row parts y m n type_at h)

      pub place_there : (head : TypeHead) → head ≡ head_at heads y → (first : ℕ) → first ≡ get_or firsts y first → IsMethodPlace parts (record { part = head.part; place = head.place; index = m - first }) n.method
      place_there head i first f =
          let is = subst (λ (g : TypeHead). IsHead parts (set_names parts) g n.owner) (sym i) head_there in
          record {
            part = is.part;
            part_is = is.part_is;
            method_is = (is.view, is.view_is, ap (λ (t : Placed). slice_get t.view.methods (m - first)) is.type_is ∙ (row_there first f).2);
          }

-- ---- the rows of nodes
module _ (names : List (List ℕ)) (types : List Placed) where
  abbrev pub key : Node → List ℕ
  key m = signature_key names m.method

  abbrev pub rows : List (List ℕ)
  rows = signature_rows names (nodes types)

  abbrev pub has_key : List ℕ → Node → Bool
  has_key row m = same row (signature_key names m.method)

  abbrev pub nodes_with : List ℕ → List ℕ
  nodes_with row = numbers_of (filter (has_key row) (nodes types))

  kept_keys : (row : List ℕ) (ms : List Node) → nodes_of_row (map (key_of names) ms) row ≡ numbers_of (filter (has_key row) ms)
  kept_keys row [] = refl
  kept_keys row (m ∷ ms) = at (same row (signature_key names m.method)) (kept_keys row ms)
    where
      at : (b : Bool) → nodes_of_row (map (key_of names) ms) row ≡ numbers_of (filter (has_key row) ms)
          → map (λ (k : Key). k.1) (cond b (key_of names m ∷ filter (λ (k : Key). same row (row_of_pair k.0)) (map (key_of names) ms)) (filter (λ (k : Key). same row (row_of_pair k.0)) (map (key_of names) ms)))
          ≡ numbers_of (cond b (m ∷ filter (has_key row) ms) (filter (has_key row) ms))
      at true r = ap (λ ns. m.number ∷ ns) r
      at false r = r

  pub rows_are : pairs_of_keys (map (key_of names) (nodes types)) ≡ rows
  rows_are = ap table (map_twice (λ (k : Key). row_of_pair k.0) (key_of names) (nodes types))

  pub nodes_are : map (nodes_of_row (map (key_of names) (nodes types))) (pairs_of_keys (map (key_of names) (nodes types))) ≡ map nodes_with rows
  nodes_are = (λ i. map (λ row. kept_keys row (nodes types) i) (pairs_of_keys (map (key_of names) (nodes types)))) ∙ ap (map nodes_with) rows_are

  key_at : ℕ → List ℕ
  key_at k = get_or (map key (nodes types)) k []

  key_there : (k : ℕ) (m : Node) → HasNodeAt types k m → get_or (map key (nodes types)) k [] ≡ key m
  key_there k m h = get_or_from_slice_get (map key (nodes types)) k (key m) [] (slice_get-map key (nodes types) k ∙ ap (option_map key) h)

  row_at : (i : ℕ) → i < length rows → get_or (map nodes_with rows) i [] ≡ nodes_with (get_or rows i [])
  row_at i l = get_or-map nodes_with rows i [] [] l

  module _ (i k : ℕ) (l : i < length rows) (a : IsIn k (nodes_with (get_or rows i []))) where
    row_node : (m : Node) × HasNodeAt types k m × (has_key (get_or rows i []) m ≡ true)
    row_node = in_passing types (has_key (get_or rows i [])) k (Contains-from_IsIn _ k a)

    row_below : k < length (nodes types)
    row_below = slice_get_within (nodes types) k row_node.0 row_node.1

    row_number : place rows (get_or (map key (nodes types)) k []) ≡ i
    row_number =
        let e : get_or rows i [] ≡ key row_node.0 = (bytes_decides (get_or rows i []) (key row_node.0)).0 row_node.2 in
        ap (place rows) (key_there k row_node.0 row_node.1 ∙ sym e) ∙ place_at rows i [] (table_rises (map key (nodes types))) l

  node_row : (j : ℕ) → j < length (nodes types) → (i : ℕ) × (i < length rows) × IsIn j (nodes_with (get_or rows i []))
  node_row j l =
      let m = item (nodes types) j l in
      let a : Among (key m.0) rows = table_among (map key (nodes types)) (key m.0) (map_in key (nodes types) m.0 (among_item (nodes types) j m.0 m.1)) in
      let p = at_place rows (key m.0) [] a in (
        place rows (key m.0),
        p.0,
        IsIn-from_Contains _ j (passing_in types (has_key (get_or rows (place rows (key m.0)) [])) j m.0 m.1 ((bytes_decides (get_or rows (place rows (key m.0)) []) (key m.0)).1 p.1)),
      )

  -- what the rows leave is of each node the number of its row
  pub numbers_are : (count : ℕ) → count ≡ length (nodes types) → set_rows 0 (map nodes_with rows) (replicate count 0) ≡ map (λ m. place rows (signature_key names m.method)) (nodes types)
  numbers_are count e = same_lists _ _ (long ∙ sym (length-map (nodes types) (λ m. place rows (signature_key names m.method)))) each
    where
      zeros : List ℕ
      zeros = replicate count 0

      long : length (set_rows 0 (map nodes_with rows) (replicate count 0)) ≡ length (nodes types)
      long = set_rows_long 0 (map nodes_with rows) (replicate count 0) ∙ length-replicate count 0 ∙ e

      shorter : (j : ℕ) → j < length (nodes types) → j < length (replicate {A = ℕ} count 0)
      shorter j l = (let z : length (replicate {A = ℕ} count 0) ≡ count = length-replicate count 0 in subst (λ (n : ℕ). j < n) (sym (z ∙ e)) l)

      each : (k d : ℕ) → k < length (set_rows 0 (map nodes_with rows) (replicate count 0)) → get_or (set_rows 0 (map nodes_with rows) (replicate count 0)) k d ≡ get_or (map (λ m. place rows (signature_key names m.method)) (nodes types)) k d
      each k d l =
          let below : k < length (nodes types) = (let a = long in omega arith) in
          let m = item (nodes types) k below in
          let r = node_row k below in
          let many = length-map rows nodes_with in
          let value = set_rows_value (λ j. place rows (get_or (map key (nodes types)) j [])) 0 (map nodes_with rows) (replicate count 0)
          (λ i j b a. (let b' : i < length rows = omega arith in
          let a' : IsIn j (nodes_with (get_or rows i [])) = subst (λ (ns : List ℕ). IsIn j ns) (row_at i b') a in
          (shorter j (row_below i j b' a'), (let f = row_number i j b' a' in omega arith))))
          k (inr (r.0, (let b = r.1 in omega arith), subst (λ (ns : List ℕ). IsIn k ns) (sym (row_at r.0 r.1)) r.2)) in
          get_or_default (set_rows 0 (map nodes_with rows) (replicate count 0)) k d 0 l ∙ value ∙ ap (place rows) (key_there k m.0 m.1)
          ∙ sym (get_or_from_slice_get (map (λ m. place rows (signature_key names m.method)) (nodes types)) k (place rows (key m.0)) d (slice_get-map (λ m. place rows (signature_key names m.method)) (nodes types) k ∙ ap (option_map (λ m. place rows (signature_key names m.method))) m.1))

  -- no node is beyond the count
  pub rows_within : (count : ℕ) → count ≡ length (nodes types) → All (λ row. All (λ k. k < count) row) (map nodes_with rows)
  rows_within count e i d l =
      let many = length-map rows nodes_with in
      let b : i < length rows = omega arith in
      let r : get_or (map nodes_with rows) i d ≡ nodes_with (get_or rows i []) = get_or_default (map nodes_with rows) i d [] l ∙ row_at i b in
      subst (λ (row : List ℕ). All (λ k. k < count) row) (sym r) (subst (λ (n : ℕ). All (λ k. k < n) (nodes_with (get_or rows i []))) (sym e) (passing_within types (has_key (get_or rows i []))))

-- ---- the tables of signatures
module _ (parts : List PartShown) (made keys : List Key) (m : made ≡ map (key_of (set_names parts)) (nodes_of parts)) (s : AreSortedKeys made keys) where
  pub pairs_found : pairs_of_keys keys ≡ signature_rows (set_names parts) (nodes_of parts)
  pairs_found = kept_pairs made keys s ∙ ap pairs_of_keys m ∙ rows_are (set_names parts) (types_of parts)

  pub rows_found : map (nodes_of_row keys) (pairs_of_keys keys) ≡ map (nodes_with (set_names parts) (types_of parts)) (signature_rows (set_names parts) (nodes_of parts))
  rows_found = kept made keys s ∙ ap (λ ks. map (nodes_of_row ks) (pairs_of_keys ks)) m ∙ nodes_are (set_names parts) (types_of parts)

  pub keys_many : length keys ≡ length (nodes_of parts)
  keys_many = length_permutation made keys s.permutation ∙ ap (λ ks. length ks) m ∙ length-map (nodes_of parts) (key_of (set_names parts))

pub rows_few : (parts : List PartShown) → length (signature_rows (set_names parts) (nodes_of parts)) ≤ length (nodes_of parts)
rows_few parts =
    let l = table_long (map (λ m. signature_key (set_names parts) m.method) (nodes_of parts)) in
    let n = length-map (nodes_of parts) (λ m. signature_key (set_names parts) m.method) in
    omega arith
