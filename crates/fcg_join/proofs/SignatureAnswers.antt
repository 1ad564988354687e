-- What the tables of signatures answer.
use Rattle.std.proofs.Common.{◌≡◌, ℕ, ◌+◌, ◌<◌, ◌≤◌, List, [], ◌∷◌, length, get_or, refl, sym, ap, subst, ◌∙◌, inl, inr, cond, arith}
use Rattle.std.specs.Prelude.{Bool, true, false, ◌&&◌, Option, Some, None, IfSome, option_map, map, filter, slice_get, Contains}
use Rattle.std.specs.Cmp.Lexicographic.{bytes_decides}
use Rattle.std.specs.Cmp.{both_ways}
use Rattle.std.proofs.lemmas.Bool.{false_from_ne_true}
use Rattle.std.proofs.lemmas.List.{length-map, get_or-map}
use Rattle.std.proofs.lemmas.List.Sums.{sum_by-take-le}
use Rattle.std.proofs.lemmas.Option.{slice_get-map, slice_get_within, slice_get-get_or, get_or_from_slice_get, same_Some}
use Rattle.fcg_grammar.specs.Table.{place, Rises}
use Rattle.fcg_grammar.proofs.Among.{Among, Contains-among, among_at}
use Rattle.fcg_grammar.proofs.TableLaws.{table_rises, table_among, among_table, at_place}
use Rattle.fcg_partial.specs.Parts.{PartShown}
use Rattle.fcg_analysis.specs.NamesAndFlags.{same}
use Rattle.fcg_analysis.specs.Declarations.{Placed, Signature, signature_of, has_signature}
use Rattle.fcg_analysis.specs.Nodes.{Node, nodes, declared}
use Rattle.fcg_analysis.specs.Laws.Methods.{AreApart, first_node}
use Rattle.fcg_analysis.proofs.General.Members.{IsIn, Contains-from_IsIn, and_first, and_second, in_map}
use Rattle.fcg_analysis.proofs.NodePlaces.{of_method_at, number_is_place, first_goes_on, count_is}
use Rattle.fcg_analysis.proofs.WinnerLaws.{known_distinct}
use Rattle.fcg_order.specs.Links.{row}
use Rattle.fcg_join.specs.declared.id.MethodId.{MethodId}
use Rattle.fcg_join.specs.declared.id.NameId.{NameId}
use Rattle.fcg_join.specs.declared.id.SignatureId.{SignatureId}
use Rattle.fcg_join.specs.declared.signatures.SignatureTables.{SignatureTables}
use Rattle.fcg_join.specs.Names.{text_at}
use Rattle.fcg_join.specs.SetNames.{set_names}
use Rattle.fcg_join.specs.Parts.{placed, types_of, nodes_of}
use Rattle.fcg_join.specs.NodeTables.{HasNodeAt, IsNumberOf, numbers_of, declarers}
use Rattle.fcg_join.specs.TypeLinks.{HasTypeAt}
use Rattle.fcg_join.specs.Joined.{signature}
use Rattle.fcg_join.specs.Numbers.{HasName, signature_key, signature_of_key, set_signatures, GivesSignature}
use Rattle.fcg_join.specs.Internal.Signatures.{row_of_pair, signature_rows, AreSignatures}
use Rattle.fcg_join.proofs.DeclaredLaws.{own_names, number_is}
use Rattle.fcg_join.proofs.GraphRows.{item, among_item}
use Rattle.fcg_join.proofs.NodeNumbers.{declarer_members, owner_row, declared_found, declared_none}
use Rattle.fcg_join.proofs.Places.{has_in}

filter_alike : {X : Type 0} (p q : X → Bool) (xs : List X) → ((x : X) → IsIn x xs → p x ≡ q x) → filter p xs ≡ filter q xs
filter_alike p q [] h = refl
filter_alike p q (x ∷ xs) h = (let r = filter_alike p q xs (λ y i. h y (inr i)) in λ i. cond (h x (inl refl) i) (x ∷ r i) (r i))

module _ (parts : List PartShown) where
  abbrev N : List (List ℕ)
  N = set_names parts

  abbrev T : List (List ℕ)
  T = signature_rows (set_names parts) (nodes_of parts)

  signatures_many : length (set_signatures parts) ≡ length (signature_rows (set_names parts) (nodes_of parts))
  unfolding set_signatures
  signatures_many = length-map T (signature_of_key N)

  signature_there : (s : ℕ) (key : List ℕ) → slice_get T s ≡ Some key → slice_get (set_signatures parts) s ≡ Some (signature_of_key N key)
  unfolding set_signatures
  signature_there s key h = slice_get-map (signature_of_key N) T s ∙ ap (option_map (signature_of_key N)) h

  key_there : (s : ℕ) (sig : Signature) → slice_get (set_signatures parts) s ≡ Some sig → (key : List ℕ) × (slice_get T s ≡ Some key) × (signature_of_key N key ≡ sig)
  key_there s sig h =
      let l : s < length T = (let a = slice_get_within (set_signatures parts) s sig h in let m = signatures_many in omega arith) in
      let key = item T s l in
      (key.0, key.1, same_Some (signature_of_key N key.0) sig (sym (signature_there s key.0 key.1) ∙ h))

  -- ---- the names of nodes
  node_names : (k : ℕ) (m : Node) → HasNodeAt (types_of parts) k m → Among m.method.name N × Among m.method.desc N
  node_names k m h =
      let p = of_method_at (types_of parts) k m h in
      own_names parts m.owner (has_in (types_of parts) p.place m.owner p.owner) _ m.method p.method

  node_signature : (k : ℕ) (m : Node) → HasNodeAt (types_of parts) k m → signature_of_key N (signature_key N m.method) ≡ signature_of m.method
  node_signature k m h =
      let a = node_names k m h in
      let name : text_at N (place N m.method.name) ≡ m.method.name = (at_place N m.method.name [] a.0).1 in
      let desc : text_at N (place N m.method.desc) ≡ m.method.desc = (at_place N m.method.desc [] a.1).1 in
      λ i. record { name = name i; desc = desc i }

  key_among : (k : ℕ) (m : Node) → HasNodeAt (types_of parts) k m → Among (signature_key N m.method) T
  key_among k m h = table_among (map (λ n. signature_key N n.method) (nodes_of parts)) (signature_key N m.method) (among_key (nodes_of parts) m (among_item (nodes_of parts) k m h))
    where
      among_key : (ms : List Node) (m : Node) → Among m ms → Among (signature_key N m.method) (map (λ n. signature_key N n.method) ms)
      among_key [] m a = absurd a
      among_key (n ∷ ms) m (inl e) = inl (ap (λ (x : Node). signature_key N x.method) e)
      among_key (n ∷ ms) m (inr a) = inr (among_key ms m a)

  node_of_key : (key : List ℕ) → Among key T → (k : ℕ) × (m : Node) × HasNodeAt (types_of parts) k m × (signature_key N m.method ≡ key)
  node_of_key key a =
      let r = in_map (λ n. signature_key N n.method) (nodes_of parts) key (among_table (map (λ n. signature_key N n.method) (nodes_of parts)) key a) in
      (r.0.number, r.0, number_is_place (types_of parts) r.0 (Contains-from_IsIn (nodes_of parts) r.0 r.1), r.2)

  -- a node has a signature where its key is that of the signature
  key_decides : (k : ℕ) (m : Node) → HasNodeAt (types_of parts) k m → (key : List ℕ) → Among key T → same key (signature_key N m.method) ≡ has_signature (signature_of_key N key) m.method
  key_decides k m h key a = both_ways (same key (signature_key N m.method)) (has_signature (signature_of_key N key) m.method) forth back
    where
      forth : same key (signature_key N m.method) ≡ true → has_signature (signature_of_key N key) m.method ≡ true
      forth e =
          let is : signature_of_key N key ≡ signature_of m.method = ap (signature_of_key N) ((bytes_decides key (signature_key N m.method)).0 e) ∙ node_signature k m h in
          let name = (bytes_decides m.method.name m.method.name).1 refl in
          let desc = (bytes_decides m.method.desc m.method.desc).1 refl in
          ap (λ (s : Signature). has_signature s m.method) is ∙ ap (λ v. v && same m.method.desc m.method.desc) name ∙ desc

      back : has_signature (signature_of_key N key) m.method ≡ true → same key (signature_key N m.method) ≡ true
      back e =
          let r = node_of_key key a in
          let is : signature_of_key N key ≡ signature_of r.1.method = ap (signature_of_key N) (sym r.3) ∙ node_signature r.0 r.1 r.2 in
          let g : has_signature (signature_of r.1.method) m.method ≡ true = ap (λ (s : Signature). has_signature s m.method) (sym is) ∙ e in
          let name = (bytes_decides r.1.method.name m.method.name).0 (and_first (same r.1.method.name m.method.name) (same r.1.method.desc m.method.desc) g) in
          let desc = (bytes_decides r.1.method.desc m.method.desc).0 (and_second (same r.1.method.name m.method.name) (same r.1.method.desc m.method.desc) g) in
          (bytes_decides key (signature_key N m.method)).1 (sym r.3 ∙ (λ i. place N (name i) ∷ place N (desc i) ∷ []))

  -- ---- a signature of two names
  found_signature : (n d : List ℕ) (a b s : ℕ) → slice_get N a ≡ Some n → slice_get N b ≡ Some d → slice_get T s ≡ Some (a ∷ b ∷ []) → slice_get (set_signatures parts) s ≡ Some (signature n d)
  found_signature n d a b s e f h =
      let name : text_at N a ≡ n = get_or_from_slice_get N a n [] e in
      let desc : text_at N b ≡ d = get_or_from_slice_get N b d [] f in
      signature_there s (a ∷ b ∷ []) h ∙ (λ i. Some (record { name = name i; desc = desc i }))

  no_signature : (n d : List ℕ) (a b : ℕ) → slice_get N a ≡ Some n → slice_get N b ≡ Some d → (Contains T (a ∷ b ∷ []) → ⊥) → GivesSignature parts None (signature n d)
  no_signature n d a b e f h = λ m c. false_from_ne_true (has_signature (signature n d) m.method) (λ g. (
      let i = number_is_place (types_of parts) m c in
      let name : n ≡ m.method.name = (bytes_decides n m.method.name).0 (and_first (same n m.method.name) (same d m.method.desc) g) in
      let desc : d ≡ m.method.desc = (bytes_decides d m.method.desc).0 (and_second (same n m.method.name) (same d m.method.desc) g) in
      let first : place N m.method.name ≡ a = ap (place N) (sym name) ∙ number_is parts a n e in
      let second : place N m.method.desc ≡ b = ap (place N) (sym desc) ∙ number_is parts b d f in
      let key : signature_key N m.method ≡ a ∷ b ∷ [] = λ j. first j ∷ second j ∷ [] in
      h (Contains-among (a ∷ b ∷ []) T (subst (λ (x : List ℕ). Among x T) key (key_among m.number m i)))))

  pub unnamed_signature : (n d : List ℕ) → (Contains N n → ⊥) → GivesSignature parts None (signature n d)
  unnamed_signature n d h = λ m c. false_from_ne_true (has_signature (signature n d) m.method) (λ g. (
      let i = number_is_place (types_of parts) m c in
      let name : n ≡ m.method.name = (bytes_decides n m.method.name).0 (and_first (same n m.method.name) (same d m.method.desc) g) in
      h (Contains-among n N (subst (λ (x : List ℕ). Among x N) (sym name) (node_names m.number m i).0))))

  pub undescribed_signature : (n d : List ℕ) → (Contains N d → ⊥) → GivesSignature parts None (signature n d)
  undescribed_signature n d h = λ m c. false_from_ne_true (has_signature (signature n d) m.method) (λ g. (
      let i = number_is_place (types_of parts) m c in
      let desc : d ≡ m.method.desc = (bytes_decides d m.method.desc).0 (and_second (same n m.method.name) (same d m.method.desc) g) in
      h (Contains-among d N (subst (λ (x : List ℕ). Among x N) (sym desc) (node_names m.number m i).1))))

  -- what was found among the keys
  module _ (name desc : NameId) (keys : List (List ℕ)) (e : keys ≡ T) (o : Option ℕ) (found : IfSome o (λ s. slice_get keys s ≡ Some (name.0 ∷ desc.0 ∷ [])))
      (id : Option SignatureId) (f : option_map (λ s. s.0) id ≡ o) where
    pub pair_signature : (none : o ≡ None → Contains keys (name.0 ∷ desc.0 ∷ []) → ⊥) (n d : List ℕ) → HasName parts name n → HasName parts desc d → GivesSignature parts id (signature n d)
    pair_signature none n d a b = at o found none id f
      where
        at : (o : Option ℕ) → IfSome o (λ s. slice_get keys s ≡ Some (name.0 ∷ desc.0 ∷ [])) → (o ≡ None → Contains keys (name.0 ∷ desc.0 ∷ []) → ⊥) → (id : Option SignatureId) → option_map (λ s. s.0) id ≡ o → GivesSignature parts id (signature n d)
        at None h g None f = no_signature n d name.0 desc.0 a b (λ c. g refl (subst (λ (ks : List (List ℕ)). Contains ks (name.0 ∷ desc.0 ∷ [])) (sym e) c))
        at None h g (Some s) f = absurd cc
        at (Some k) h g None f = absurd cc
        at (Some k) h g (Some s) f =
            let same : s.0 ≡ k = cc in
            found_signature n d name.0 desc.0 s.0 a b (ap (slice_get T) same ∙ ap (λ (ks : List (List ℕ)). slice_get ks k) (sym e) ∙ h)

    pub pair_within : IfSome id (λ s. s.0 < length (set_signatures parts))
    pair_within = at o found id f
      where
        at : (o : Option ℕ) → IfSome o (λ s. slice_get keys s ≡ Some (name.0 ∷ desc.0 ∷ [])) → (id : Option SignatureId) → option_map (λ s. s.0) id ≡ o → IfSome id (λ s. s.0 < length (set_signatures parts))
        at o h None f = tt
        at None h (Some s) f = absurd cc
        at (Some k) h (Some s) f =
            let same : s.0 ≡ k = cc in
            let l = slice_get_within T s.0 (name.0 ∷ desc.0 ∷ []) (ap (slice_get T) same ∙ ap (λ (ks : List (List ℕ)). slice_get ks k) (sym e) ∙ h) in
            let m = signatures_many in
            omega arith

  -- ---- the tables
  module _ (t : SignatureTables) (a : AreSignatures parts t) where
    pub keys_many : length t.keys.items ≡ length (set_signatures parts)
    keys_many = sym (length-map t.keys.items row_of_pair) ∙ ap (λ (ks : List (List ℕ)). length ks) a.keys_are ∙ sym signatures_many

    pub rows_many : length t.declarers ≡ length (set_signatures parts)
    rows_many = ap (λ (ks : List (List ℕ)). length ks) a.declarers_are ∙ length-map T (λ key. numbers_of (filter (λ m. same key (signature_key N m.method)) (nodes_of parts))) ∙ sym signatures_many

    pub nodes_many : length t.of_nodes.items ≡ length (nodes_of parts)
    nodes_many = ap (λ (ks : List ℕ). length ks) a.of_nodes_are ∙ length-map (nodes_of parts) (λ m. place T (signature_key N m.method))

    pub keys_rise : Rises (map row_of_pair t.keys.items)
    keys_rise = subst Rises (sym a.keys_are) (table_rises (map (λ m. signature_key N m.method) (nodes_of parts)))

    pub declarers_there : (s : ℕ) (sig : Signature) → slice_get (set_signatures parts) s ≡ Some sig → row t.declarers s ≡ declarers (types_of parts) sig
    declarers_there s sig h =
        let key = key_there s sig h in
        let l : s < length T = slice_get_within T s key.0 key.1 in
        let among = subst (λ (x : List ℕ). Among x T) (get_or_from_slice_get T s key.0 [] key.1) (among_at T s [] l) in
        ap (λ (rows : List (List ℕ)). get_or rows s []) a.declarers_are
        ∙ get_or-map (λ k. numbers_of (filter (λ m. same k (signature_key N m.method)) (nodes_of parts))) T s [] [] l
        ∙ ap (λ k. numbers_of (filter (λ m. same k (signature_key N m.method)) (nodes_of parts))) (get_or_from_slice_get T s key.0 [] key.1)
        ∙ ap numbers_of (filter_alike (λ m. same key.0 (signature_key N m.method)) (λ m. has_signature (signature_of_key N key.0) m.method) (nodes_of parts)
        (λ m i. key_decides m.number m (number_is_place (types_of parts) m (Contains-from_IsIn (nodes_of parts) m i)) key.0 among))
        ∙ ap (declarers (types_of parts)) key.2

    pub node_there : (k : ℕ) (m : Node) → HasNodeAt (types_of parts) k m → (s : ℕ) → s ≡ get_or t.of_nodes.items k 0 → slice_get (set_signatures parts) s ≡ Some (signature_of m.method)
    node_there k m h s e =
        let key = signature_key N m.method in
        let number : s ≡ place T key =
        e ∙ ap (λ (ns : List ℕ). get_or ns k 0) a.of_nodes_are
        ∙ get_or_from_slice_get (map (λ n. place T (signature_key N n.method)) (nodes_of parts)) k (place T key) 0 (slice_get-map (λ n. place T (signature_key N n.method)) (nodes_of parts) k ∙ ap (option_map (λ n. place T (signature_key N n.method))) h) in
        let p = at_place T key [] (key_among k m h) in
        let here : slice_get T (place T key) ≡ Some key = slice_get-get_or T (place T key) [] p.0 ∙ ap (λ (x : List ℕ). Some x) p.1 in
        ap (slice_get (set_signatures parts)) number ∙ signature_there (place T key) key here ∙ ap (λ (x : Signature). Some x) (node_signature k m h)

  -- ---- the declared method of a type
  pub last_node : (y : ℕ) (x : Placed) → HasTypeAt (types_of parts) y x → first_node (types_of parts) y + length x.view.methods ≤ length (nodes_of parts)
  last_node y x h =
      let n = first_goes_on (types_of parts) y x h in
      let l = sum_by-take-le (λ t. length t.view.methods) (types_of parts) (y + 1) in
      let m = count_is (types_of parts) in
      omega arith

  module _ (y : ℕ) (x : Placed) (h : HasTypeAt (types_of parts) y x) (sig : Signature) where
    pub undeclared : ((m : Node) → Contains (nodes_of parts) m → has_signature sig m.method ≡ false) → IsNumberOf (types_of parts) None (declared (types_of parts) sig x)
    undeclared none = subst (λ (o : Option Node). IsNumberOf (types_of parts) None o)
        (sym (declared_none (types_of parts) (known_distinct (placed parts)) sig y x h (λ k c e. (
        let d = (declarer_members (types_of parts) sig k).0 c in
        let off = none d.node (Contains-among d.node (nodes_of parts) (among_item (nodes_of parts) k d.node d.there)) in
        let on = d.signature in
        absurd cc)))) tt

    pub declared_between : AreApart (types_of parts) → (ks : List ℕ) → ks ≡ declarers (types_of parts) sig → (first last : ℕ) → first ≡ first_node (types_of parts) y → last ≡ first_node (types_of parts) y + length x.view.methods
        → (o : Option ℕ) → IfSome o (λ k. Contains ks k × (first ≤ k) × (k < last)) → (o ≡ None → (k : ℕ) → Contains ks k → first ≤ k → k < last → ⊥) → IsNumberOf (types_of parts) o (declared (types_of parts) sig x)
    declared_between apart ks e first last f g None found none = subst (λ (o : Option Node). IsNumberOf (types_of parts) None o)
        (sym (declared_none (types_of parts) (known_distinct (placed parts)) sig y x h (λ k c o. (
        let d = (declarer_members (types_of parts) sig k).0 c in
        let r = (owner_row (types_of parts) k y d.node x d.there h).0 o in
        none refl k (subst (λ (ns : List ℕ). Contains ns k) (sym e) c) (let b = r.0 in omega arith) (let b = r.1 in omega arith))))) tt
    declared_between apart ks e first last f g (Some k) found none =
        let c : Contains (declarers (types_of parts) sig) k = subst (λ (ns : List ℕ). Contains ns k) e found.0 in
        let d = (declarer_members (types_of parts) sig k).0 c in
        let o = (owner_row (types_of parts) k y d.node x d.there h).1 ((let b = found.1 in omega arith), (let b = found.2 in omega arith)) in
        subst (λ (m : Option Node). IsNumberOf (types_of parts) (Some k) m) (sym (declared_found (types_of parts) (known_distinct (placed parts)) sig y x h apart k d.node d.there c o)) d.there

  module _ (sig : Signature) where
    pub declared_within : (ks : List ℕ) → ks ≡ declarers (types_of parts) sig → (first last : ℕ) (o : Option ℕ) → IfSome o (λ k. Contains ks k × (first ≤ k) × (k < last)) → (found : Option MethodId) → option_map (λ id. id.0) found ≡ o
        → IfSome found (λ m. m.0 < length (nodes_of parts))
    declared_within ks e first last o h None f = tt
    declared_within ks e first last None h (Some m) f = absurd cc
    declared_within ks e first last (Some k) h (Some m) f =
        let same : m.0 ≡ k = cc in
        let d = (declarer_members (types_of parts) sig k).0 (subst (λ (ns : List ℕ). Contains ns k) e h.0) in
        let l = slice_get_within (nodes_of parts) k d.node d.there in
        omega arith
