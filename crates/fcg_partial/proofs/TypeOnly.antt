-- The rows of types: what is spelled so is read.
use Rattle.std.proofs.Common.{◌≡◌, ℕ, ◌+◌, ◌^◌, ◌<◌, ◌≤◌, true, false, ltb, List, [], ◌∷◌, ◌++◌, length, refl, sym, ap, subst, ◌∙◌, append_assoc, arith}
use Rattle.std.specs.Prelude.{Ok, Option, Some, None, map, nat_eq, ◌==◌}
use Rattle.std.specs.List.{flat_map, AllByRecursion, IsDistinct, list_any}
use Rattle.std.specs.Cmp.Lexicographic.{pointwise, nat_list_eq_equiv}
use Rattle.std.proofs.lemmas.Bool.{lt-ltb}
use Rattle.std.proofs.lemmas.Bool.Decides.{nat_tests}
use Rattle.std.proofs.lemmas.List.{append-nil}
use Rattle.std.proofs.lemmas.Map.Keys.{IsDistinct-head, IsDistinct-tail}
use Rattle.fcg_grammar.specs.Spell.{IsBytes, u2, u4}
use Rattle.fcg_grammar.proofs.Standing.{Stands, Stands-back}
use Rattle.fcg_partial.proofs.Numbers.{u1_only, u2_only, u4_only}
use Rattle.fcg_grammar.proofs.ValueRowLaws.{Linked, rows_only, Plain, all_plain}
use Rattle.fcg_views.specs.declared.view.SiteKind.{SiteKind}
use Rattle.fcg_views.specs.declared.view.SiteKind.TheVariants as kinds
use Rattle.fcg_views.specs.declared.view.HandleKind.TheVariants as handles
use Rattle.fcg_partial.specs.Graph.{StoredSite, StoredField, StoredMethod, StoredType, kind_number, site_text, field_text, method_text, super_number, super_uses, field_uses, method_uses, method_targets, type_text, key, site_count}
use Rattle.fcg_partial.specs.Reading.{kind_of, site_at, Earlier, method_at, field_at, interface_at, super_at, type_at, types_at}
use Rattle.fcg_grammar.proofs.Among.{all_left, all_right, all_flat}
use Rattle.fcg_partial.proofs.TableRows.{index_only}
use Rattle.fcg_partial.proofs.TypeRows.{FitsSite, FitsField, FitsMethod, FitsRow, FitsKept, IsName}

kind_there : (k : SiteKind) → kind_of (kind_number k) ≡ Some k
unfolding kind_of
kind_there kinds.Virtual = refl
kind_there kinds.Interface = refl
kind_there kinds.Special = refl
kind_there kinds.Static = refl
kind_there kinds.New = refl
kind_there kinds.StaticField = refl
kind_there (kinds.Handle handles.K5) = refl
kind_there (kinds.Handle handles.K6) = refl
kind_there (kinds.Handle handles.K7) = refl
kind_there (kinds.Handle handles.K8) = refl
kind_there (kinds.Handle handles.K9) = refl

not_none : (k n : ℕ) → k < n → n < 2 ^ 32 → (k == 0xffffffff) ≡ false
not_none k n lt small = grind (arith, nat_tests)

same_end : (a b c r : ℕ) → c ≡ a + r → c ≡ b + r → a ≡ b
same_end a b c r p q = omega arith

few_enough : (a b : ℕ) → a + b ≤ 1000000 → b < 2 ^ 32
few_enough a b le = omega arith

still_few : (a b : ℕ) → a + b ≤ 1000000 → ltb (a + b) 1000001 ≡ true
still_few a b le = lt-ltb (a + b) 1000001 (omega arith)

module _ (bytes : List ℕ) (are : IsBytes bytes) (n r : ℕ) (small : n < 2 ^ 32) (small_r : r < 2 ^ 32) where
  le_n : n ≤ 2 ^ 32
  le_n = omega arith

  le_r : r ≤ 2 ^ 32
  le_r = omega arith

  seven : (a : ℕ) → a + 2 + 1 + 4 ≡ a + 7
  seven a = omega arith

  ten : (a : ℕ) → a + 4 + 4 + 2 ≡ a + 10
  ten a = omega arith

  site_only : (k at : ℕ) (s : StoredSite) (next : ℕ) (rest : List ℕ) (after : ℕ) → Plain site_text (FitsSite bytes are n r) at s next → Stands bytes at (site_text s ++ rest) after → (site_at bytes r k at ≡ Ok (s, next)) × (next ≡ at + length (site_text s))
  unfolding site_at
  site_only k at s next rest after fit t =
      let a = u2_only bytes at s.pc (kind_number s.kind ∷ (u4 s.reference ++ rest)) after fit.fit.0 t in
      let b = u1_only bytes (at + 2) (kind_number s.kind) (u4 s.reference ++ rest) after a.1 in
      let c = index_only bytes are r (at + 2 + 1) s.reference rest after fit.fit.1 le_r b.1 in
      (rw (a.0, b.0, kind_there s.kind, c.0, seven at) (ap (λ (m : ℕ). Ok (s, m)) (sym fit.ends)), fit.ends)

  field_only : (k at : ℕ) (f : StoredField) (next : ℕ) (rest : List ℕ) (after : ℕ) → Plain field_text (FitsField bytes are n r) at f next → Stands bytes at (field_text f ++ rest) after → (field_at bytes n k at ≡ Ok (f, next)) × (next ≡ at + length (field_text f))
  unfolding field_at
  field_only k at f next rest after fit t =
      let a = index_only bytes are n at f.name (u4 f.desc ++ (u2 f.flags ++ rest)) after fit.fit.1.0 le_n t in
      let b = index_only bytes are n (at + 4) f.desc (u2 f.flags ++ rest) after fit.fit.1.1.0 le_n a.1 in
      let c = u2_only bytes (at + 4 + 4) f.flags rest after fit.fit.0 b.1 in
      (rw (a.0, b.0, c.0, ten at) (ap (λ (m : ℕ). Ok (f, m)) (sym fit.ends)), fit.ends)

  interface_only : (k at : ℕ) (i : ℕ) (next : ℕ) (rest : List ℕ) (after : ℕ) → Plain u4 (IsName bytes are n r) at i next → Stands bytes at (u4 i ++ rest) after → (interface_at bytes n k at ≡ Ok (i, next)) × (next ≡ at + length (u4 i))
  unfolding interface_at
  interface_only k at i next rest after fit t =
      let a = index_only bytes are n at i rest after fit.fit le_n t in
      (rw a.0 (ap (λ (m : ℕ). Ok (i, m)) (sym fit.ends)), fit.ends)

  super_only : (at : ℕ) (x : Option ℕ) (rest : List ℕ) (after : ℕ) → AllByRecursion (IsName bytes are n r) (super_uses x) → Stands bytes at (u4 (super_number x) ++ rest) after → (super_at bytes n at ≡ Ok x) × Stands bytes (at + 4) rest after
  unfolding super_at
  super_only at None rest after all t =
      let a = u4_only bytes at 0xffffffff rest after (omega arith) t in
      (rw a.0 refl, a.1)
  super_only at (Some k) rest after all t =
      let a = u4_only bytes at k rest after (let lt = all.0 in omega arith) t in
      let b = index_only bytes are n at k rest after all.0 le_n t in
      (rw (a.0, not_none k n all.0 small, b.0) refl, b.1)

  method_only : (k : ℕ) (s : Earlier) (m : StoredMethod) (next : Earlier) (rest : List ℕ) (after : ℕ) → FitsMethod bytes are n r s m next → Stands bytes s.at (method_text m ++ rest) after → (method_at bytes n r k s ≡ Ok (m, next)) × (next.at ≡ s.at + length (method_text m))
  unfolding method_at
  method_only k s m next rest after fit t =
      let flat = flat_map site_text m.sites in
      let whole_back = Stands-back (method_text m) rest t in
      let r4 = flat ++ rest in
      let r3 = u4 (length m.sites) ++ r4 in
      let r2 = u2 m.flags ++ r3 in
      let r1 = u4 m.desc ++ r2 in
      let t' : Stands bytes s.at (u4 m.name ++ r1) after = subst (λ (l : List ℕ). Stands bytes s.at (u4 m.name ++ (u4 m.desc ++ (u2 m.flags ++ (u4 (length m.sites) ++ (l ++ rest))))) after) (append-nil flat) t in
      let a = index_only bytes are n s.at m.name r1 after fit.names.0 le_n t' in
      let b = index_only bytes are n (s.at + 4) m.desc r2 after fit.names.1.0 le_n a.1 in
      let c = u2_only bytes (s.at + 4 + 4) m.flags r3 after fit.flags b.1 in
      let d = u4_only bytes (s.at + 4 + 4 + 2) (length m.sites) r4 after (few_enough s.sites (length m.sites) fit.few) c.1 in
      let l = all_plain site_text (FitsSite bytes are n r) (s.at + 4 + 4 + 2 + 4) m.sites fit.sites in
      let e = rows_only bytes (λ (a : ℕ). a) site_text (Plain site_text (FitsSite bytes are n r)) (site_at bytes r) site_only 0 (s.at + 4 + 4 + 2 + 4) m.sites l.0 rest after l.1 d.1 in
      let end : l.0 ≡ next.at = same_end l.0 (s.at + length (method_text m)) after (length rest) e.1.ends whole_back.ends ∙ sym fit.at_is in
      let made : record_of l.0 s m ≡ next = next_is l.0 s m next end fit.keys_are fit.sites_are in
      (rw (a.0, b.0, fit.fresh, c.0, d.0, still_few s.sites (length m.sites) fit.few, e.0) (ap (λ (y : Earlier). Ok (m, y)) made), fit.at_is)
    where
      record_of : ℕ → Earlier → StoredMethod → Earlier
      record_of end s m = record { at = end; keys = s.keys ++ key m ∷ []; sites = s.sites + length m.sites }

      next_is : (end : ℕ) (s : Earlier) (m : StoredMethod) (next : Earlier) → end ≡ next.at → next.keys ≡ s.keys ++ key m ∷ [] → next.sites ≡ s.sites + length m.sites → record_of end s m ≡ next
      next_is end s m next p q v = rw (p, ← q, ← v) refl

  -- ---- the methods of a type, in the reader's sense
  fresh_from : (ks : List (List ℕ)) (k : List ℕ) (more : List (List ℕ)) → IsDistinct (pointwise nat_eq) (ks ++ k ∷ more) → list_any (pointwise nat_eq k) ks ≡ false
  fresh_from [] k more d = refl
  fresh_from (x ∷ ks) k more d =
      let apart : pointwise nat_eq x k ≡ false = among_one ks (IsDistinct-head (pointwise nat_eq) x (ks ++ k ∷ more) d) in
      let other : pointwise nat_eq k x ≡ false = nat_list_eq_equiv.symm k x ∙ apart in
      rw other (fresh_from ks k more (IsDistinct-tail (pointwise nat_eq) x (ks ++ k ∷ more) d))
    where
      among_one : (ls : List (List ℕ)) → AllByRecursion (λ y. pointwise nat_eq x y ≡ false) (ls ++ k ∷ more) → pointwise nat_eq x k ≡ false
      among_one [] all = all.0
      among_one (l ∷ ls) all = among_one ls all.1

  link_methods : (s : Earlier) (ms : List StoredMethod) → AllByRecursion (FitsKept bytes are n r) ms → IsDistinct (pointwise nat_eq) (s.keys ++ map key ms) → s.sites + site_count ms ≤ 1000000 → (end : Earlier) × Linked (FitsMethod bytes are n r) s ms end
  link_methods s [] all d few = (s, refl)
  link_methods s (m ∷ ms) all d few =
      let next : Earlier = record { at = s.at + length (method_text m); keys = s.keys ++ key m ∷ []; sites = s.sites + length m.sites } in
      let d' : IsDistinct (pointwise nat_eq) (s.keys ++ key m ∷ [] ++ map key ms) = subst (λ (ks : List (List ℕ)). IsDistinct (pointwise nat_eq) ks) (sym (append_assoc s.keys (key m ∷ []) (map key ms))) d in
      let others = link_methods next ms all.1 d' (later s.sites (length m.sites) (site_count ms) few) in (
        others.0,
        (
          next,
          record {
            flags = all.0.0;
            names = all.0.1;
            sites = all.0.2;
            fresh = fresh_from s.keys (key m) (map key ms) d;
            few = first s.sites (length m.sites) (site_count ms) few;
            at_is = refl;
            keys_are = refl;
            sites_are = refl;
          },
          others.1,
        ),
      )
    where
      later : (a b c : ℕ) → a + (b + c) ≤ 1000000 → a + b + c ≤ 1000000
      later a b c h = omega arith

      first : (a b c : ℕ) → a + (b + c) ≤ 1000000 → a + b ≤ 1000000
      first a b c h = omega arith

  -- ---- types
  rest_of : (i : List ℕ) (lf : ℕ) (f : List ℕ) (lm : ℕ) (m rest : List ℕ) → (i ++ (u2 lf ++ (f ++ (u2 lm ++ (m ++ []))))) ++ rest ≡ i ++ (u2 lf ++ (f ++ (u2 lm ++ (m ++ rest))))
  rest_of i lf f lm m rest =
      append_assoc i (u2 lf ++ (f ++ (u2 lm ++ (m ++ [])))) rest
      ∙ ap (λ (l : List ℕ). i ++ (u2 lf ++ l)) (append_assoc f (u2 lm ++ (m ++ [])) rest ∙ ap (λ (l : List ℕ). f ++ (u2 lm ++ l)) (append_assoc m [] rest))

  zip_sites : (ss : List StoredSite) → AllByRecursion (λ s. s.pc < 2 ^ 16) ss → AllByRecursion (λ k. k < r) (map (λ s. s.reference) ss) → AllByRecursion (FitsSite bytes are n r) ss
  zip_sites [] p q = tt
  zip_sites (s ∷ ss) p q = ((p.0, q.0), zip_sites ss p.1 q.1)

  zip_fields : (fs : List StoredField) → AllByRecursion (λ f. f.flags < 2 ^ 16) fs → AllByRecursion (λ f. AllByRecursion (IsName bytes are n r) (field_uses f)) fs → AllByRecursion (FitsField bytes are n r) fs
  zip_fields [] p q = tt
  zip_fields (f ∷ fs) p q = ((p.0, q.0), zip_fields fs p.1 q.1)

  zip_methods : (ms : List StoredMethod) → AllByRecursion (λ m. m.flags < 2 ^ 16) ms → AllByRecursion (λ m. AllByRecursion (IsName bytes are n r) (method_uses m)) ms → AllByRecursion (λ m. AllByRecursion (λ s. s.pc < 2 ^ 16) m.sites) ms → AllByRecursion (λ m. AllByRecursion (λ k. k < r) (method_targets m)) ms → AllByRecursion (FitsKept bytes are n r) ms
  zip_methods [] p q u v = tt
  zip_methods (m ∷ ms) p q u v = ((p.0, q.0, zip_sites m.sites u.0 v.0), zip_methods ms p.1 q.1 u.1 v.1)

  type_only : (k at : ℕ) (t : StoredType) (next : ℕ) (rest : List ℕ) (after : ℕ) → Plain type_text (FitsRow bytes are n r) at t next → Stands bytes at (type_text t ++ rest) after → (type_at bytes n r k at ≡ Ok (t, next)) × (next ≡ at + length (type_text t))
  unfolding type_at
  type_only k at t next rest after fit s =
      let P : ℕ → Type 0 = IsName bytes are n r in
      let is = fit.fit in
      let I = flat_map u4 t.interfaces in
      let F = flat_map field_text t.fields in
      let M = flat_map method_text t.methods in
      let us = super_uses t.superclass in
      let uf = flat_map field_uses t.fields in
      let um = flat_map method_uses t.methods in
      let b1 = all_right P us (t.interfaces ++ (uf ++ um)) is.names.1 in
      let b2 = all_right P t.interfaces (uf ++ um) b1 in
      let r5 = u2 (length t.fields) ++ (F ++ (u2 (length t.methods) ++ (M ++ rest))) in
      let r4 = I ++ r5 in
      let r3 = u2 (length t.interfaces) ++ r4 in
      let r2 = u4 (super_number t.superclass) ++ r3 in
      let s' : Stands bytes at (u4 t.name ++ (u2 t.flags ++ r2)) after = subst (λ (l : List ℕ). Stands bytes at (u4 t.name ++ (u2 t.flags ++ (u4 (super_number t.superclass) ++ (u2 (length t.interfaces) ++ l)))) after) (rest_of I (length t.fields) F (length t.methods) M rest) s in
      let a = index_only bytes are n at t.name (u2 t.flags ++ r2) after is.names.0 le_n s' in
      let b = u2_only bytes (at + 4) t.flags r2 after is.alone.flags a.1 in
      let c = super_only (at + 4 + 2) t.superclass r3 after (all_left P us (t.interfaces ++ (uf ++ um)) is.names.1) b.1 in
      let d = u2_only bytes (at + 4 + 2 + 4) (length t.interfaces) r4 after is.alone.interfaces c.1 in
      let li = all_plain u4 P (at + 4 + 2 + 4 + 2) t.interfaces (all_left P t.interfaces (uf ++ um) b1) in
      let e = rows_only bytes (λ (a : ℕ). a) u4 (Plain u4 P) (interface_at bytes n) interface_only 0 (at + 4 + 2 + 4 + 2) t.interfaces li.0 r5 after li.1 d.1 in
      let f = u2_only bytes li.0 (length t.fields) (F ++ (u2 (length t.methods) ++ (M ++ rest))) after is.alone.fields e.1 in
      let lf = all_plain field_text (FitsField bytes are n r) (li.0 + 2) t.fields (zip_fields t.fields is.alone.field_flags (all_flat field_uses P t.fields (all_left P uf um b2))) in
      let g = rows_only bytes (λ (a : ℕ). a) field_text (Plain field_text (FitsField bytes are n r)) (field_at bytes n) field_only 0 (li.0 + 2) t.fields lf.0 (u2 (length t.methods) ++ (M ++ rest)) after lf.1 f.1 in
      let h = u2_only bytes lf.0 (length t.methods) (M ++ rest) after is.alone.methods g.1 in
      let begin : Earlier = record { at = lf.0 + 2; keys = []; sites = 0 } in
      let lm = link_methods begin t.methods (zip_methods t.methods is.alone.method_flags (all_flat method_uses P t.methods (all_right P uf um b2)) is.alone.places (all_flat method_targets (λ k. k < r) t.methods is.refs)) is.alone.apart (none_more (site_count t.methods) is.alone.few) in
      let i = rows_only bytes (λ (b : Earlier). b.at) method_text (FitsMethod bytes are n r) (method_at bytes n r) method_only 0 begin t.methods lm.0 rest after lm.1 h.1 in
      let back = Stands-back (type_text t) rest s in
      let end : lm.0.at ≡ next = same_end lm.0.at (at + length (type_text t)) after (length rest) i.1.ends back.ends ∙ sym fit.ends in
      (rw (a.0, b.0, c.0, d.0, e.0, f.0, g.0, h.0, i.0) (ap (λ (m : ℕ). Ok (t, m)) end), fit.ends)
    where
      none_more : (a : ℕ) → a ≤ 1000000 → 0 + a ≤ 1000000
      none_more a h = omega arith

  pub types_only : (at : ℕ) (types : List StoredType) (rest : List ℕ) (after : ℕ) → length types < 2 ^ 32 → AllByRecursion (FitsRow bytes are n r) types → Stands bytes at (u4 (length types) ++ (flat_map type_text types ++ rest)) after → (end : ℕ) × (types_at bytes n r at ≡ Ok (types, end)) × Stands bytes end rest after
  unfolding types_at
  types_only at types rest after few fit t =
      let a = u4_only bytes at (length types) (flat_map type_text types ++ rest) after few t in
      let l = all_plain type_text (FitsRow bytes are n r) (at + 4) types fit in
      let b = rows_only bytes (λ (a : ℕ). a) type_text (Plain type_text (FitsRow bytes are n r)) (type_at bytes n r) type_only 0 (at + 4) types l.0 rest after l.1 a.1 in
      (l.0, rw a.0 b.0, b.1)
