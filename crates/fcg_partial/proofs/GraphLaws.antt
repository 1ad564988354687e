-- The whole: what is read is spelled so and well formed.
use Rattle.std.proofs.Common.{◌≡◌, ℕ, zero, suc, ◌+◌, ◌*◌, ◌<◌, ◌≤◌, true, false, ◌||◌, ◌⊎◌, inl, inr, cond, eqb, List, [], ◌∷◌, ◌++◌, length, refl, sym, ap, subst, ◌∙◌, arith}
use Rattle.std.specs.Prelude.{Ok, Option, Some, None, ◌==◌}
use Rattle.std.specs.List.{flat_map, AllByRecursion, list_any}
use Rattle.std.proofs.lemmas.Bool.{eqb-true}
use Rattle.std.proofs.lemmas.List.{append-nil}
use Rattle.std.proofs.lemmas.Bool.Decides.{nat_tests}
use Rattle.fcg_grammar.specs.Reading.{unless_broken}
use Rattle.fcg_grammar.specs.Spell.{IsBytes, u2, u4}
use Rattle.fcg_grammar.proofs.LawLemmas.{bind_ok, kept_ok}
use Rattle.fcg_grammar.proofs.Standing.{Stands, Stands-then, ok_is, whole_is}
use Rattle.fcg_partial.proofs.Numbers.{u2_found, u4_found}
use Rattle.fcg_partial.specs.declared.fault.RecordRule.TheVariants.{Magic, Version, Trailing}
use Rattle.fcg_partial.specs.Fault.{fault, u2_at, u4_at}
use Rattle.fcg_partial.specs.Graph.{Graph, name_text, ref_text, type_text, spelling, FitsRef, FitsType, ref_uses, type_uses, type_targets, name_uses, ref_uses_of, IsUsed, IsGraph}
use Rattle.fcg_partial.specs.Views.{shown}
use Rattle.fcg_partial.specs.Reading.{names_at, refs_at, types_at, name_place, unused_from, unused_at, graph_at}
use Rattle.fcg_grammar.proofs.Among.{Among, Contains-among}
use Rattle.fcg_partial.proofs.TableRows.{names_found, refs_found}
use Rattle.fcg_partial.proofs.TypeRows.{FoundTypes, types_found}
use Rattle.fcg_partial.proofs.TypeRows as rows
use Rattle.std.proofs.lemmas.List.Concat.{flat_map-cons}
use Rattle.fcg_partial.proofs.OneSpelling.{one_graph}

-- ---- each number is used
any_among : (k : ℕ) (uses : List ℕ) → list_any (λ u. u == k) uses ≡ true → Among k uses
any_among k [] e = absurd cc
any_among k (u ∷ uses) e =
    elim (u == k) as (λ b. (u == k) ≡ b → (b || list_any (λ u. u == k) uses) ≡ true → (u ≡ k) ⊎ Among k uses) [
      | true ↦ λ t f. inl (eqb-true u k t)
      | false ↦ λ t f. inr (any_among k uses f)
    ] refl e

none_unused : (place : ℕ → ℕ) (o : Option ℕ) (u : Unit {0}) → unused_at place o ≡ Ok u → o ≡ None
none_unused place None u e = refl
none_unused place (Some k) u e = absurd cc

all_used : (uses : List ℕ) (n k : ℕ) → unused_from uses n k ≡ None → (j : ℕ) → k ≤ j → j < k + n → Among j uses
all_used uses zero k e j lo hi = absurd (omega arith)
all_used uses (suc n) k e j lo hi =
    elim (list_any (λ u. u == k) uses) as (λ b. list_any (λ u. u == k) uses ≡ b → cond b (unused_from uses n (k + 1)) (Some k) ≡ None → Among j uses) [
      | true ↦ λ t f. elim (eqb k j) as (λ c. eqb k j ≡ c → Among j uses) [
        | true ↦ λ s. subst (λ (m : ℕ). Among m uses) (eqb-true k j s) (any_among k uses t)
        | false ↦ λ s. all_used uses n (k + 1) f j (above k j lo s) (omega arith)
      ] refl
      | false ↦ λ t f. absurd cc
    ] refl e
  where
    above : (k j : ℕ) → k ≤ j → eqb k j ≡ false → k + 1 ≤ j
    above k j le s = grind (arith, nat_tests)

is_used : (n : ℕ) (uses : List ℕ) → AllByRecursion (λ k. k < n) uses → unused_from uses n 0 ≡ None → IsUsed n uses
is_used n uses below e = record { below = below; each = λ k lt. Contains-among k uses (all_used uses n 0 e k (omega arith) (omega arith)) }

all_of : {X : Type 0} (P Q : X → Type 0) → ((x : X) → P x → Q x) → (xs : List X) → AllByRecursion P xs → AllByRecursion Q xs
all_of P Q each [] all = tt
all_of P Q each (x ∷ xs) all = (each x all.0, all_of P Q each xs all.1)

all_append : (P : ℕ → Type 0) (xs ys : List ℕ) → AllByRecursion P xs → AllByRecursion P ys → AllByRecursion P (xs ++ ys)
all_append P [] ys p q = q
all_append P (x ∷ xs) ys p q = (p.0, all_append P xs ys p.1 q)

flat_all : {X : Type 0} (P : ℕ → Type 0) (f : X → List ℕ) (xs : List X) → AllByRecursion (λ x. AllByRecursion P (f x)) xs → AllByRecursion P (flat_map f xs)
flat_all P f [] all = tt
flat_all P f (x ∷ xs) all = rw flat_map-cons (all_append P (f x) (flat_map f xs) all.0 (flat_all P f xs all.1))

module _ (bytes : List ℕ) (are : IsBytes bytes) where
  spelled_of : (g : Graph) (b c d : ℕ) → Stands bytes 0 (u4 0x46434752) 4 → Stands bytes 4 (u2 1) 6 → Stands bytes 6 (u4 (length g.names) ++ flat_map name_text g.names) b → Stands bytes b (u4 (length g.refs) ++ flat_map ref_text g.refs) c → Stands bytes c (u4 (length g.types) ++ flat_map type_text g.types) d → Stands bytes 0 (spelling g) d
  spelled_of g b c d magic version names refs types =
      let last : Stands bytes c (u4 (length g.types) ++ (flat_map type_text g.types ++ [])) d = rw (append-nil (flat_map type_text g.types)) types in
      Stands-then magic (Stands-then version (Stands-then names (Stands-then refs last)))

  names_below : (g : Graph) → AllByRecursion (λ row. FitsRef row × AllByRecursion (λ k. k < length g.names) (ref_uses row)) g.refs → AllByRecursion (rows.FitsRow bytes are (length g.names) (length g.refs)) g.types → AllByRecursion (λ k. k < length g.names) (name_uses g)
  names_below g refs types = all_append (λ k. k < length g.names) (flat_map ref_uses g.refs) (flat_map type_uses g.types)
      (flat_all (λ k. k < length g.names) ref_uses g.refs (all_of _ _ (λ row p. p.1) g.refs refs))
      (flat_all (λ k. k < length g.names) type_uses g.types (all_of _ _ (λ t p. p.names) g.types types))

  pub record FoundGraph (g : Graph) : Type 0 where
    pub spelled : bytes ≡ spelling g
    pub is : IsGraph g

  pub graph_found : (g : Graph) → graph_at bytes ≡ Ok g → FoundGraph g
  unfolding graph_at
  graph_found g e =
      let a = bind_ok (u4_at bytes 0) _ g e in
      let b = bind_ok (unless_broken (a.0 == 0x46434752) (fault 0 Magic)) _ g a.2 in
      let c = bind_ok (u2_at bytes 4) _ g b.2 in
      let d = bind_ok (unless_broken (c.0 == 1) (fault 4 Version)) _ g c.2 in
      let f = bind_ok (names_at bytes 6) _ g d.2 in
      let h = bind_ok (refs_at bytes (length f.0.0) f.0.1) _ g f.2 in
      let i = bind_ok (types_at bytes (length f.0.0) (length h.0.0) h.0.1) _ g h.2 in
      let made : Graph = record { names = f.0.0; refs = h.0.0; types = i.0.0 } in
      let j = bind_ok (unless_broken (i.0.1 == length bytes) (fault i.0.1 Trailing)) _ g i.2 in
      let k = bind_ok (unused_at (name_place f.0.0) (unused_from (name_uses made) (length f.0.0) 0)) _ g j.2 in
      let l = bind_ok (unused_at (λ k. f.0.1 + 4 + 13 * k) (unused_from (ref_uses_of made) (length h.0.0) 0)) _ g k.2 in
      let first = u4_found bytes 0 a.0 are a.1 in
      let magic : Stands bytes 0 (u4 0x46434752) 4 = subst (λ (m : ℕ). Stands bytes 0 (u4 m) 4) (eqb-true a.0 0x46434752 (kept_ok _ _ b.0 b.1)) first.0 in
      let second = u2_found bytes 4 c.0 are c.1 in
      let version : Stands bytes 4 (u2 1) 6 = subst (λ (m : ℕ). Stands bytes 4 (u2 m) 6) (eqb-true c.0 1 (kept_ok _ _ d.0 d.1)) second.0 in
      let names = names_found bytes are 6 f.0 f.1 in
      let refs = refs_found bytes are (length f.0.0) names.few f.0.1 h.0 h.1 in
      let types = types_found bytes are (length f.0.0) (length h.0.0) h.0.1 i.0 i.1 in
      let stands : Stands bytes 0 (spelling made) i.0.1 = spelled_of made f.0.1 h.0.1 i.0.1 magic version names.stands refs.stands types.stands in
      let end : i.0.1 ≡ length bytes = eqb-true i.0.1 (length bytes) (kept_ok _ _ j.0 j.1) in
      subst (λ (y : Graph). FoundGraph y) (ok_is made g l.2) (record {
        spelled = whole_is bytes (spelling made) (subst (λ (m : ℕ). Stands bytes 0 (spelling made) m) end stands);
        is = record {
          few_names = names.few;
          names = names.fit;
          names_rise = names.rise;
          few_refs = refs.few;
          refs = all_of _ FitsRef (λ row p. p.0) h.0.0 refs.fit;
          refs_rise = refs.rise;
          few_types = types.few;
          types = all_of _ FitsType (λ t p. p.alone) i.0.0 types.fit;
          names_used = is_used (length f.0.0) (name_uses made) (names_below made refs.fit types.fit) (none_unused _ _ k.0 k.1);
          refs_used = is_used (length h.0.0) (ref_uses_of made) (flat_all (λ k. k < length h.0.0) type_targets i.0.0 (all_of _ _ (λ t p. p.refs) i.0.0 types.fit)) (none_unused _ _ l.0 l.1);
        };
      })

-- two that are read, with the same views, are the same bytes
pub one_spelling : (a b : List ℕ) (g h : Graph) → IsBytes a → IsBytes b → graph_at a ≡ Ok g → graph_at b ≡ Ok h → shown g ≡ shown h → a ≡ b
one_spelling a b g h p q e f s =
    let x = graph_found a p g e in
    let y = graph_found b q h f in
    x.spelled ∙ ap spelling (one_graph g h x.is y.is s) ∙ sym y.spelled
