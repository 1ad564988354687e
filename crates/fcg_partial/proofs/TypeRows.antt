-- The rows of types: what is read is spelled so.
use Rattle.std.proofs.Common.{◌≡◌, ℕ, ◌+◌, ◌^◌, ◌<◌, ◌≤◌, Bool, true, false, not, cond, ltb, List, [], ◌∷◌, ◌++◌, length, refl, sym, ap, subst, ◌∙◌, append_assoc, arith}
use Rattle.std.specs.Prelude.{Ok, Option, Some, None, map, nat_eq, ◌==◌}
use Rattle.std.specs.List.{flat_map, AllByRecursion, IsDistinct, list_any}
use Rattle.std.specs.Cmp.Lexicographic.{pointwise, nat_list_eq_equiv}
use Rattle.std.proofs.lemmas.Bool.{ltb-true, eqb-true}
use Rattle.std.proofs.lemmas.List.{append-nil}
use Rattle.std.proofs.lemmas.List.Concat.{flat_map-cons}
use Rattle.std.proofs.lemmas.Map.Keys.{IsDistinct-push}
use Rattle.fcg_grammar.specs.Reading.{unless_broken}
use Rattle.fcg_grammar.specs.Rows.{rows}
use Rattle.fcg_grammar.specs.Spell.{IsBytes, u2, u4}
use Rattle.fcg_grammar.proofs.LawLemmas.{bind_ok, kept_ok}
use Rattle.fcg_grammar.proofs.Standing.{Stands, Stands-then, ok_is}
use Rattle.fcg_partial.proofs.Numbers.{u1_found, u2_found, u4_found}
use Rattle.fcg_grammar.proofs.ValueRowLaws.{Linked, FoundRow, rows_found, Plain, plain_all}
use Rattle.fcg_views.specs.declared.view.SiteKind.{SiteKind}
use Rattle.fcg_partial.specs.declared.fault.RecordRule.TheVariants.{DoubleMethod, ManySites}
use Rattle.fcg_partial.specs.Fault.{fault, u1_at, u2_at, u4_at}
use Rattle.fcg_partial.specs.Graph.{StoredSite, StoredField, StoredMethod, StoredType, kind_number, site_text, field_text, method_text, super_number, super_uses, field_uses, method_uses, method_targets, type_uses, type_targets, type_text, key, site_count, FitsType}
use Rattle.fcg_partial.specs.Reading.{index_at, all_kinds, first_kind, kind_of, known_kind, kind_at, site_at, Earlier, method_at, field_at, interface_at, some_index, super_at, type_at, types_at}
use Rattle.fcg_partial.proofs.TableRows.{index_found}

first_is : (ks : List SiteKind) (b : ℕ) (k : SiteKind) → first_kind ks b ≡ Some k → kind_number k ≡ b
first_is [] b k e = absurd cc
first_is (j ∷ ks) b k e =
    elim (kind_number j == b) as (λ t. (kind_number j == b) ≡ t → cond t (Some j) (first_kind ks b) ≡ Some k → kind_number k ≡ b) [
      | true ↦ λ t f. (let same : j ≡ k = cc in subst (λ (i : SiteKind). kind_number i ≡ b) same (eqb-true (kind_number j) b t))
      | false ↦ λ t f. first_is ks b k f
    ] refl e

kind_found : (at b : ℕ) (k : SiteKind) → known_kind at (kind_of b) ≡ Ok k → kind_number k ≡ b
unfolding kind_of
kind_found at b k e = first_is all_kinds b k (some_of (first_kind all_kinds b) e)
  where
    some_of : (o : Option SiteKind) → known_kind at o ≡ Ok k → o ≡ Some k
    some_of None f = absurd cc
    some_of (Some j) f = let same : j ≡ k = cc in ap (λ (i : SiteKind). Some i) same

none_yet : 0 ≤ 1000000
none_yet = omega arith

none_apart : IsDistinct {K = List ℕ} (pointwise nat_eq) []
unfolding IsDistinct
none_apart = tt

not_true : (b : Bool) → not b ≡ true → b ≡ false
not_true true e = absurd cc
not_true false e = refl

module _ (bytes : List ℕ) (are : IsBytes bytes) (n r : ℕ) where
  abbrev pub IsName : ℕ → Type 0
  IsName k = k < n

  -- ---- sites
  abbrev pub FitsSite : StoredSite → Type 0
  FitsSite s = (s.pc < 2 ^ 16) × (s.reference < r)

  seven : (a : ℕ) → a + 2 + 1 + 4 ≡ a + 7
  seven a = omega arith

  site_found : (k at : ℕ) (x : StoredSite × ℕ) → at ≤ length bytes → site_at bytes r k at ≡ Ok x → FoundRow bytes (λ (a : ℕ). a) site_text (Plain site_text FitsSite) (site_at bytes r) at x.0 x.1
  unfolding site_at
  site_found k at x le e =
      let a = bind_ok (u2_at bytes at) _ x e in
      let k = bind_ok (kind_at bytes (at + 2)) _ x a.2 in
      let b = bind_ok (u1_at bytes (at + 2)) _ k.0 k.1 in
      let c = k in
      let d = bind_ok (index_at bytes r (at + 2 + 1)) _ x k.2 in
      let pc = u2_found bytes at a.0 are a.1 in
      let tag = u1_found bytes (at + 2) b.0 b.1 in
      let kind = kind_found (at + 2) b.0 k.0 b.2 in
      let tag_is : Stands bytes (at + 2) (kind_number c.0 ∷ []) (at + 2 + 1) = subst (λ (m : ℕ). Stands bytes (at + 2) (m ∷ []) (at + 2 + 1)) (sym kind) tag in
      let ref = index_found bytes are r (at + 2 + 1) d.0 d.1 in
      let row : StoredSite = record { pc = a.0; kind = c.0; reference = d.0 } in
      let made : StoredSite × ℕ = (row, at + 2 + 1 + 4) in
      subst (λ (y : StoredSite × ℕ). FoundRow bytes (λ (a : ℕ). a) site_text (Plain site_text FitsSite) (site_at bytes r) at y.0 y.1) (ok_is made x d.2) (record {
        stands = Stands-then pc.0 (Stands-then tag_is ref.0);
        fit = record { fit = (pc.1, ref.1); ends = seven at };
      })

  -- ---- fields
  abbrev pub FitsField : StoredField → Type 0
  FitsField f = (f.flags < 2 ^ 16) × AllByRecursion IsName (field_uses f)

  ten : (a : ℕ) → a + 4 + 4 + 2 ≡ a + 10
  ten a = omega arith

  field_found : (k at : ℕ) (x : StoredField × ℕ) → at ≤ length bytes → field_at bytes n k at ≡ Ok x → FoundRow bytes (λ (a : ℕ). a) field_text (Plain field_text FitsField) (field_at bytes n) at x.0 x.1
  unfolding field_at
  field_found k at x le e =
      let a = bind_ok (index_at bytes n at) _ x e in
      let b = bind_ok (index_at bytes n (at + 4)) _ x a.2 in
      let c = bind_ok (u2_at bytes (at + 4 + 4)) _ x b.2 in
      let name = index_found bytes are n at a.0 a.1 in
      let desc = index_found bytes are n (at + 4) b.0 b.1 in
      let flags = u2_found bytes (at + 4 + 4) c.0 are c.1 in
      let row : StoredField = record { name = a.0; desc = b.0; flags = c.0 } in
      let made : StoredField × ℕ = (row, at + 4 + 4 + 2) in
      subst (λ (y : StoredField × ℕ). FoundRow bytes (λ (a : ℕ). a) field_text (Plain field_text FitsField) (field_at bytes n) at y.0 y.1) (ok_is made x c.2) (record {
        stands = Stands-then name.0 (Stands-then desc.0 flags.0);
        fit = record { fit = (flags.1, (name.1, (desc.1, tt))); ends = ten at };
      })

  -- ---- interfaces
  interface_found : (k at : ℕ) (x : ℕ × ℕ) → at ≤ length bytes → interface_at bytes n k at ≡ Ok x → FoundRow bytes (λ (a : ℕ). a) u4 (Plain u4 IsName) (interface_at bytes n) at x.0 x.1
  unfolding interface_at
  interface_found k at x le e =
      let a = bind_ok (index_at bytes n at) _ x e in
      let name = index_found bytes are n at a.0 a.1 in
      let made : ℕ × ℕ = (a.0, at + 4) in
      subst (λ (y : ℕ × ℕ). FoundRow bytes (λ (a : ℕ). a) u4 (Plain u4 IsName) (interface_at bytes n) at y.0 y.1) (ok_is made x a.2) (record {
        stands = name.0;
        fit = record { fit = name.1; ends = refl };
      })

  -- ---- the superclass
  super_found : (at : ℕ) (x : Option ℕ) → super_at bytes n at ≡ Ok x → Stands bytes at (u4 (super_number x)) (at + 4) × AllByRecursion IsName (super_uses x)
  unfolding super_at
  super_found at x e =
      let a = bind_ok (u4_at bytes at) _ x e in
      let four = u4_found bytes at a.0 are a.1 in
      elim (a.0 == 0xffffffff) as (λ t. (a.0 == 0xffffffff) ≡ t → some_index bytes n at t ≡ Ok x → Stands bytes at (u4 (super_number x)) (at + 4) × AllByRecursion IsName (super_uses x)) [
        | true ↦ λ t f. none (ok_is None x f) (subst (λ (m : ℕ). Stands bytes at (u4 m) (at + 4)) (eqb-true a.0 0xffffffff t) four.0)
        | false ↦ λ t f. (let b = bind_ok (index_at bytes n at) _ x f in some b.0 (index_found bytes are n at b.0 b.1) (ok_is (Some b.0) x b.2))
      ] refl a.2
    where
      none : None ≡ x → Stands bytes at (u4 0xffffffff) (at + 4) → Stands bytes at (u4 (super_number x)) (at + 4) × AllByRecursion IsName (super_uses x)
      none f s = subst (λ (o : Option ℕ). Stands bytes at (u4 (super_number o)) (at + 4) × AllByRecursion IsName (super_uses o)) f (s, tt)

      some : (k : ℕ) → Stands bytes at (u4 k) (at + 4) × (k < n) → Some k ≡ x → Stands bytes at (u4 (super_number x)) (at + 4) × AllByRecursion IsName (super_uses x)
      some k s f = subst (λ (o : Option ℕ). Stands bytes at (u4 (super_number o)) (at + 4) × AllByRecursion IsName (super_uses o)) f (s.0, (s.1, tt))

  -- ---- methods
  pub record FitsMethod (s : Earlier) (m : StoredMethod) (next : Earlier) : Type 0 where
    pub flags : m.flags < 2 ^ 16
    pub names : AllByRecursion IsName (method_uses m)
    pub sites : AllByRecursion FitsSite m.sites
    pub fresh : list_any (pointwise nat_eq (key m)) s.keys ≡ false
    pub few : s.sites + length m.sites ≤ 1000000
    pub at_is : next.at ≡ s.at + length (method_text m)
    pub keys_are : next.keys ≡ s.keys ++ key m ∷ []
    pub sites_are : next.sites ≡ s.sites + length m.sites

  method_found : (k : ℕ) (s : Earlier) (x : StoredMethod × Earlier) → s.at ≤ length bytes → method_at bytes n r k s ≡ Ok x → FoundRow bytes (λ (b : Earlier). b.at) method_text FitsMethod (method_at bytes n r) s x.0 x.1
  unfolding method_at
  method_found k s x le e =
      let a = bind_ok (index_at bytes n s.at) _ x e in
      let b = bind_ok (index_at bytes n (s.at + 4)) _ x a.2 in
      let c = bind_ok (unless_broken (not (list_any (pointwise nat_eq (a.0 ∷ b.0 ∷ [])) s.keys)) (fault s.at DoubleMethod)) _ x b.2 in
      let d = bind_ok (u2_at bytes (s.at + 4 + 4)) _ x c.2 in
      let f = bind_ok (u4_at bytes (s.at + 4 + 4 + 2)) _ x d.2 in
      let g = bind_ok (unless_broken (ltb (s.sites + f.0) 1000001) (fault (s.at + 4 + 4 + 2) ManySites)) _ x f.2 in
      let h = bind_ok (rows (site_at bytes r) f.0 0 (s.at + 4 + 4 + 2 + 4)) _ x g.2 in
      let name = index_found bytes are n s.at a.0 a.1 in
      let desc = index_found bytes are n (s.at + 4) b.0 b.1 in
      let flags = u2_found bytes (s.at + 4 + 4) d.0 are d.1 in
      let count = u4_found bytes (s.at + 4 + 4 + 2) f.0 are f.1 in
      let sites = rows_found bytes (λ (a : ℕ). a) site_text (Plain site_text FitsSite) (site_at bytes r) site_found f.0 0 (s.at + 4 + 4 + 2 + 4) h.0 count.0.within h.1 in
      let row : StoredMethod = record { name = a.0; desc = b.0; flags = d.0; sites = h.0.0 } in
      let next : Earlier = record { at = h.0.1; keys = s.keys ++ (a.0 ∷ b.0 ∷ []) ∷ []; sites = s.sites + f.0 } in
      let made : StoredMethod × Earlier = (row, next) in
      let many : Stands bytes (s.at + 4 + 4 + 2) (u4 (length h.0.0)) (s.at + 4 + 4 + 2 + 4) = subst (λ (m : ℕ). Stands bytes (s.at + 4 + 4 + 2) (u4 m) (s.at + 4 + 4 + 2 + 4)) (sym sites.many) count.0 in
      let rest : Stands bytes (s.at + 4 + 4 + 2 + 4) (flat_map site_text h.0.0 ++ []) h.0.1 = rw (append-nil (flat_map site_text h.0.0)) sites.stands in
      let stands : Stands bytes s.at (method_text row) h.0.1 = Stands-then name.0 (Stands-then desc.0 (Stands-then flags.0 (Stands-then many rest))) in
      subst (λ (y : StoredMethod × Earlier). FoundRow bytes (λ (b : Earlier). b.at) method_text FitsMethod (method_at bytes n r) s y.0 y.1) (ok_is made x h.2) (record {
        stands = stands;
        fit = record {
          flags = flags.1;
          names = (name.1, (desc.1, tt));
          sites = plain_all site_text FitsSite (s.at + 4 + 4 + 2 + 4) h.0.0 h.0.1 sites.fit;
          fresh = not_true _ (kept_ok _ _ c.0 c.1);
          few = few_sites s.sites f.0 (length h.0.0) sites.many (ltb-true _ _ (kept_ok _ _ g.0 g.1));
          at_is = stands.ends;
          keys_are = refl;
          sites_are = ap (λ (m : ℕ). s.sites + m) (sym sites.many);
        };
      })
    where
      few_sites : (a b c : ℕ) → c ≡ b → a + b < 1000001 → a + c ≤ 1000000
      few_sites a b c e lt = omega arith

  methods_all : (s : Earlier) (ms : List StoredMethod) (end : Earlier) → Linked FitsMethod s ms end → AllByRecursion (λ m. (m.flags < 2 ^ 16) × AllByRecursion IsName (method_uses m) × AllByRecursion FitsSite m.sites) ms
  methods_all s [] end l = tt
  methods_all s (m ∷ ms) end l = ((l.1.flags, l.1.names, l.1.sites), methods_all l.0 ms end l.2)

  methods_apart : (s : Earlier) (ms : List StoredMethod) (end : Earlier) → Linked FitsMethod s ms end → IsDistinct (pointwise nat_eq) s.keys → IsDistinct (pointwise nat_eq) (s.keys ++ map key ms)
  methods_apart s [] end l d = rw (append-nil s.keys) d
  methods_apart s (m ∷ ms) end l d =
      let one : IsDistinct (pointwise nat_eq) l.0.keys = rw (l.1.keys_are) (IsDistinct-push nat_list_eq_equiv s.keys (key m) d l.1.fresh) in
      let all = methods_apart l.0 ms end l.2 one in
      subst (λ (ks : List (List ℕ)). IsDistinct (pointwise nat_eq) ks) (ap (λ (ks : List (List ℕ)). ks ++ map key ms) l.1.keys_are ∙ append_assoc s.keys (key m ∷ []) (map key ms)) all

  methods_few : (s : Earlier) (ms : List StoredMethod) (end : Earlier) → Linked FitsMethod s ms end → s.sites ≤ 1000000 → s.sites + site_count ms ≤ 1000000
  methods_few s [] end l le = omega arith
  methods_few s (m ∷ ms) end l le =
      let rest = methods_few l.0 ms end l.2 (more s.sites l.0.sites (length m.sites) l.1.few l.1.sites_are) in
      regroup s.sites l.0.sites (length m.sites) (site_count ms) l.1.sites_are rest
    where
      more : (a b c : ℕ) → a + c ≤ 1000000 → b ≡ a + c → b ≤ 1000000
      more a b c p e = omega arith

      regroup : (a b c d : ℕ) → b ≡ a + c → b + d ≤ 1000000 → a + (c + d) ≤ 1000000
      regroup a b c d e p = omega arith

  -- ---- types
  pub record FitsRow (t : StoredType) : Type 0 where
    pub alone : FitsType t
    pub names : AllByRecursion IsName (type_uses t)
    pub refs : AllByRecursion (λ k. k < r) (type_targets t)

  pub all_append : (P : ℕ → Type 0) (xs ys : List ℕ) → AllByRecursion P xs → AllByRecursion P ys → AllByRecursion P (xs ++ ys)
  all_append P [] ys p q = q
  all_append P (x ∷ xs) ys p q = (p.0, all_append P xs ys p.1 q)

  pub flat_all : {X : Type 0} (P : ℕ → Type 0) (f : X → List ℕ) (xs : List X) → AllByRecursion (λ x. AllByRecursion P (f x)) xs → AllByRecursion P (flat_map f xs)
  flat_all P f [] all = tt
  flat_all P f (x ∷ xs) all = rw flat_map-cons (all_append P (f x) (flat_map f xs) all.0 (flat_all P f xs all.1))

  pub all_of : {X : Type 0} (P Q : X → Type 0) → ((x : X) → P x → Q x) → (xs : List X) → AllByRecursion P xs → AllByRecursion Q xs
  all_of P Q each [] all = tt
  all_of P Q each (x ∷ xs) all = (each x all.0, all_of P Q each xs all.1)

  map_all : (ss : List StoredSite) → AllByRecursion FitsSite ss → AllByRecursion (λ k. k < r) (map (λ s. s.reference) ss)
  map_all [] all = tt
  map_all (s ∷ ss) all = (all.0.1, map_all ss all.1)

  abbrev pub FitsKept : StoredMethod → Type 0
  FitsKept m = (m.flags < 2 ^ 16) × AllByRecursion IsName (method_uses m) × AllByRecursion FitsSite m.sites

  long_type : (a i f : ℕ) → a + 4 + 2 + 4 + 2 ≡ a + 12
  long_type a i f = omega arith

  type_found : (k at : ℕ) (x : StoredType × ℕ) → at ≤ length bytes → type_at bytes n r k at ≡ Ok x → FoundRow bytes (λ (a : ℕ). a) type_text (Plain type_text FitsRow) (type_at bytes n r) at x.0 x.1
  unfolding type_at
  type_found k at x le e =
      let a = bind_ok (index_at bytes n at) _ x e in
      let b = bind_ok (u2_at bytes (at + 4)) _ x a.2 in
      let c = bind_ok (super_at bytes n (at + 4 + 2)) _ x b.2 in
      let d = bind_ok (u2_at bytes (at + 4 + 2 + 4)) _ x c.2 in
      let f = bind_ok (rows (interface_at bytes n) d.0 0 (at + 4 + 2 + 4 + 2)) _ x d.2 in
      let g = bind_ok (u2_at bytes f.0.1) _ x f.2 in
      let h = bind_ok (rows (field_at bytes n) g.0 0 (f.0.1 + 2)) _ x g.2 in
      let i = bind_ok (u2_at bytes h.0.1) _ x h.2 in
      let begin : Earlier = record { at = h.0.1 + 2; keys = []; sites = 0 } in
      let j = bind_ok (rows (method_at bytes n r) i.0 0 begin) _ x i.2 in
      let name = index_found bytes are n at a.0 a.1 in
      let flags = u2_found bytes (at + 4) b.0 are b.1 in
      let super = super_found (at + 4 + 2) c.0 c.1 in
      let many = u2_found bytes (at + 4 + 2 + 4) d.0 are d.1 in
      let interfaces = rows_found bytes (λ (a : ℕ). a) u4 (Plain u4 IsName) (interface_at bytes n) interface_found d.0 0 (at + 4 + 2 + 4 + 2) f.0 many.0.within f.1 in
      let more = u2_found bytes f.0.1 g.0 are g.1 in
      let fields = rows_found bytes (λ (a : ℕ). a) field_text (Plain field_text FitsField) (field_at bytes n) field_found g.0 0 (f.0.1 + 2) h.0 more.0.within h.1 in
      let most = u2_found bytes h.0.1 i.0 are i.1 in
      let methods = rows_found bytes (λ (b : Earlier). b.at) method_text FitsMethod (method_at bytes n r) method_found i.0 0 begin j.0 most.0.within j.1 in
      let row : StoredType = record { name = a.0; flags = b.0; superclass = c.0; interfaces = f.0.0; fields = h.0.0; methods = j.0.0 } in
      let made : StoredType × ℕ = (row, j.0.1.at) in
      let many_is : Stands bytes (at + 4 + 2 + 4) (u2 (length f.0.0)) (at + 4 + 2 + 4 + 2) = subst (λ (m : ℕ). Stands bytes (at + 4 + 2 + 4) (u2 m) (at + 4 + 2 + 4 + 2)) (sym interfaces.many) many.0 in
      let more_is : Stands bytes f.0.1 (u2 (length h.0.0)) (f.0.1 + 2) = subst (λ (m : ℕ). Stands bytes f.0.1 (u2 m) (f.0.1 + 2)) (sym fields.many) more.0 in
      let most_is : Stands bytes h.0.1 (u2 (length j.0.0)) (h.0.1 + 2) = subst (λ (m : ℕ). Stands bytes h.0.1 (u2 m) (h.0.1 + 2)) (sym methods.many) most.0 in
      let last : Stands bytes (h.0.1 + 2) (flat_map method_text j.0.0 ++ []) j.0.1.at = rw (append-nil (flat_map method_text j.0.0)) methods.stands in
      let stands : Stands bytes at (type_text row) j.0.1.at = Stands-then name.0 (Stands-then flags.0 (Stands-then super.0 (Stands-then many_is (Stands-then interfaces.stands (Stands-then more_is (Stands-then fields.stands (Stands-then most_is last))))))) in
      let names = plain_all u4 IsName (at + 4 + 2 + 4 + 2) f.0.0 f.0.1 interfaces.fit in
      let rows_fit = plain_all field_text FitsField (f.0.1 + 2) h.0.0 h.0.1 fields.fit in
      let kept_all = methods_all begin j.0.0 j.0.1 methods.fit in
      subst (λ (y : StoredType × ℕ). FoundRow bytes (λ (a : ℕ). a) type_text (Plain type_text FitsRow) (type_at bytes n r) at y.0 y.1) (ok_is made x j.2) (record {
        stands = stands;
        fit = record {
          fit = record {
            alone = record {
              flags = flags.1;
              interfaces = subst (λ (m : ℕ). m < 2 ^ 16) (sym interfaces.many) many.1;
              fields = subst (λ (m : ℕ). m < 2 ^ 16) (sym fields.many) more.1;
              field_flags = all_of FitsField (λ f. f.flags < 2 ^ 16) (λ f p. p.0) h.0.0 rows_fit;
              methods = subst (λ (m : ℕ). m < 2 ^ 16) (sym methods.many) most.1;
              method_flags = all_of FitsKept (λ m. m.flags < 2 ^ 16) (λ m p. p.0) j.0.0 kept_all;
              places = all_of FitsKept (λ m. AllByRecursion (λ s. s.pc < 2 ^ 16) m.sites) (λ m p. all_of FitsSite (λ s. s.pc < 2 ^ 16) (λ s q. q.0) m.sites p.2) j.0.0 kept_all;
              apart = methods_apart begin j.0.0 j.0.1 methods.fit none_apart;
              few = none_more _ (methods_few begin j.0.0 j.0.1 methods.fit none_yet);
            };
            names = (
              name.1,
              all_append IsName (super_uses c.0) (f.0.0 ++ (flat_map field_uses h.0.0 ++ flat_map method_uses j.0.0)) super.1
                  (all_append IsName f.0.0 (flat_map field_uses h.0.0 ++ flat_map method_uses j.0.0) names
                  (all_append IsName (flat_map field_uses h.0.0) (flat_map method_uses j.0.0)
                  (flat_all IsName field_uses h.0.0 (all_of FitsField (λ f. AllByRecursion IsName (field_uses f)) (λ f p. p.1) h.0.0 rows_fit))
                  (flat_all IsName method_uses j.0.0 (all_of FitsKept (λ m. AllByRecursion IsName (method_uses m)) (λ m p. p.1) j.0.0 kept_all)))),
            );
            refs = flat_all (λ k. k < r) method_targets j.0.0 (all_of FitsKept (λ m. AllByRecursion (λ k. k < r) (method_targets m)) (λ m p. map_all m.sites p.2) j.0.0 kept_all);
          };
          ends = stands.ends;
        };
      })
    where
      none_more : (a : ℕ) → 0 + a ≤ 1000000 → a ≤ 1000000
      none_more a h = omega arith

  pub record FoundTypes (at : ℕ) (types : List StoredType) (after : ℕ) : Type 0 where
    pub stands : Stands bytes at (u4 (length types) ++ flat_map type_text types) after
    pub few : length types < 2 ^ 32
    pub fit : AllByRecursion FitsRow types

  pub types_found : (at : ℕ) (x : List StoredType × ℕ) → types_at bytes n r at ≡ Ok x → FoundTypes at x.0 x.1
  unfolding types_at
  types_found at x e =
      let a = bind_ok (u4_at bytes at) _ x e in
      let count = u4_found bytes at a.0 are a.1 in
      let found = rows_found bytes (λ (a : ℕ). a) type_text (Plain type_text FitsRow) (type_at bytes n r) type_found a.0 0 (at + 4) x count.0.within a.2 in
      record {
        stands = subst (λ (m : ℕ). Stands bytes at (u4 m ++ flat_map type_text x.0) x.1) (sym found.many) (Stands-then count.0 found.stands);
        few = subst (λ (m : ℕ). m < 2 ^ 32) (sym found.many) count.1;
        fit = plain_all type_text FitsRow (at + 4) x.0 x.1 found.fit;
      }
