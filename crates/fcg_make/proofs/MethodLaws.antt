-- A method and a field that are written are what the class file says.
use Rattle.std.proofs.Common.{◌≡◌, ◌⊎◌, inl, inr, ℕ, ◌+◌, ◌-◌, ◌<◌, ◌≤◌, ◌^◌, true, false, List, [], ◌∷◌, ◌++◌, length, length-append, map, replicate, refl, ap, arith}
use Rattle.std.specs.Prelude.{codes}
use Rattle.std.specs.List.{flat_map, list_all, AllByRecursion}
use Rattle.fcg_views.specs.declared.view.Field.{Field}
use Rattle.fcg_views.specs.declared.view.Method.{Method}
use Rattle.fcg_views.specs.declared.view.Site.{Site}
use Rattle.fcg_classfile.specs.ClassFile.{code_info}
use Rattle.fcg_classfile.specs.Instructions.{instruction}
use Rattle.fcg_classfile.specs.Reads.{HasCode, IsCodeOf, IsFieldOf, IsMethodOf}
use Rattle.fcg_views.specs.DescriptorSteps.{is_descriptor}
use Rattle.fcg_views.proofs.DescLaws.{descriptor_found, field_descriptor_found}
use Rattle.fcg_make.specs.declared.entry.Entry.{Entry}
use Rattle.fcg_make.specs.declared.entry.Entry.TheVariants.{Text}
use Rattle.fcg_make.specs.Steps.{Step, is_joined, is_call, before, calls, steps_of, row_count, size_of, numbered}
use Rattle.fcg_make.specs.Needs.{handle_needs, step_needs, code_needs, field_needs, method_needs, row_needs}
use Rattle.fcg_make.specs.Unwritable.{is_typed_site, is_typed_field, is_typed_method, is_placed_from, is_placed_method}
use Rattle.fcg_make.specs.Layout.{instruction_of, instructions_from, code_bytes, code_of, code_attributes, field_of, method_of, row_of}
use Rattle.fcg_make.proofs.TableLemmas.{at_bool}
use Rattle.fcg_make.proofs.WriteLemmas.{code_first}
use Rattle.fcg_make.proofs.HasLemmas.{Has, constants, index_small}
use Rattle.fcg_make.proofs.FactLemmas.{all_first, all_second}
use Rattle.fcg_make.proofs.LengthLemmas.{code_short}
use Rattle.fcg_make.proofs.SoundLemmas.{both_of, IsGood, IsJoined, IsGoodStep, good_steps, IsGoodField, IsGoodMethod}
use Rattle.fcg_make.proofs.PooledLaws.{IsPooled, names}
use Rattle.fcg_make.proofs.CodeLaws.{found_of, IsTyped, fit_from, are_found}
use Rattle.fcg_make.proofs.SitesLaws.{sites_of, IsHandled, IsCalled, are_sites}

-- ---- typed sites

typed_sites : (ss : List Site) → AllByRecursion IsGood ss → list_all is_typed_site ss ≡ true → AllByRecursion IsTyped ss
typed_sites [] good typed = tt
typed_sites (s ∷ ss) good typed = let b = both_of (is_typed_site s) (list_all is_typed_site ss) typed in (record { good = good.0; typed = b.0 }, typed_sites ss good.1 b.1)

abbrev OfStep : (Site → Type 0) → Step → Type 0
OfStep P t = P t.first × AllByRecursion P t.more

before_all : (P : Site → Type 0) (s : Site) (ts : List Step) → P s → AllByRecursion (OfStep P) ts → AllByRecursion (OfStep P) (before s ts)
before_all P s [] p h = ((p, tt), tt)
before_all P s (t ∷ ts) p h = split (at_bool (is_joined s t.first))
  where
    split : (is_joined s t.first ≡ true) ⊎ (is_joined s t.first ≡ false) → AllByRecursion (OfStep P) (before s (t ∷ ts))
    split (inl j) = rw j ((p, (h.0.0, h.0.1)), h.1)
    split (inr other) = rw other ((p, tt), h)

steps_all : (P : Site → Type 0) (ss : List Site) → AllByRecursion P ss → AllByRecursion (OfStep P) (steps_of ss)
steps_all P [] h = tt
steps_all P (s ∷ ss) h = before_all P s (steps_of ss) h.0 (steps_all P ss h.1)

firsts : (P : Site → Type 0) (ts : List Step) → AllByRecursion (OfStep P) ts → AllByRecursion (λ t. P t.first) ts
firsts P [] h = tt
firsts P (t ∷ ts) h = (h.0.0, firsts P ts h.1)

code_some : (pool : List Entry) (at row : ℕ) (ts : List Step) → 1 ≤ length (code_bytes pool at (numbered row_count row ts))
code_some pool at row [] = omega arith
code_some pool at row (t ∷ ts) =
    let rest : List ℕ = code_bytes pool (t.first.pc + size_of t.first.kind) (numbered row_count (row + row_count t) ts) in
    let here : List ℕ = instruction (instruction_of pool row t.first) in
    let whole = ap (λ (bytes : List ℕ). length bytes) (code_first pool at row t (numbered row_count (row + row_count t) ts)) in
    let some = code_some pool (t.first.pc + size_of t.first.kind) (row + row_count t) ts in
    omega (arith, whole, some, length-append (replicate (t.first.pc - at) 0) (here ++ rest), length-append here rest)

module _ (pool : List Entry) (p : IsPooled pool) where
  -- ---- fields

  pub field_is : (f : Field) → f.flags < 2 ^ 16 → IsGoodField f → is_typed_field f ≡ true → AllByRecursion (Has pool) (field_needs f) → IsFieldOf (constants pool) (field_of pool f) f
  field_is f small good typed has = record {
    declared = record {
      flags_few = small;
      flags_are = refl;
      name_index = index_small pool (Text f.name) p.few has.0;
      name_is = names pool p (Text f.name) has.0;
      filled = good.name.some;
      desc_index = index_small pool (Text f.desc) p.few has.1.0;
      desc_is = names pool p (Text f.desc) has.1.0;
      typed = field_descriptor_found f.desc typed;
    };
    attributes = record { few = omega arith; each = tt };
  }

  -- ---- code

  is_code : (row : ℕ) (ts : List Step) → is_placed_from 0 ts ≡ true → AllByRecursion (λ t. IsTyped t.first) ts → AllByRecursion (Has pool) (flat_map step_needs (numbered row_count row ts)) → IsCodeOf (constants pool) (code_of pool row ts) (found_of row ts)
  is_code row ts placed typed has = record {
    stack = omega arith;
    locals = omega arith;
    some = code_some pool 0 row ts;
    short = (let le = code_short pool 0 row ts placed in omega (arith, le));
    instructions = instructions_from pool 0 (numbered row_count row ts);
    code = record { spelled = refl; fit = fit_from pool 0 row ts placed };
    found = are_found pool p 0 row ts placed typed has;
    few_handlers = omega arith;
    handlers = tt;
    attributes = record { few = omega arith; each = tt };
  }

  content_short : (row : ℕ) (ts : List Step) → is_placed_from 0 ts ≡ true → length (code_info (code_of pool row ts)) < 2 ^ 32
  content_short row ts placed = let le = code_short pool 0 row ts placed in simp length-append (omega (arith, le))

  has_code : (row : ℕ) (ts : List Step) → is_placed_from 0 ts ≡ true → AllByRecursion (λ t. IsTyped t.first) ts → AllByRecursion (Has pool) (code_needs row ts) → HasCode (constants pool) (code_attributes pool row ts) (found_of row ts)
  has_code row [] placed typed has = record { few = omega arith; code = refl }
  has_code row (t ∷ ts) placed typed has = record {
    few = omega arith;
    code = inr (
      record { index = index_small pool (Text (codes "Code")) p.few has.0; named = names pool p (Text (codes "Code")) has.0; fits = content_short row (t ∷ ts) placed },
      (code_of pool row (t ∷ ts), refl, is_code row (t ∷ ts) placed typed has.1),
      tt,
    );
  }

  -- ---- calls

  handled : (first : Site) (ss : List Site) → AllByRecursion (IsJoined first) ss → AllByRecursion IsTyped ss → AllByRecursion (Has pool) (flat_map handle_needs ss) → AllByRecursion (IsHandled pool p first.pc) ss
  handled first [] joined typed has = tt
  handled first (s ∷ ss) joined typed has = (
    record { handle = joined.0.handle; place = joined.0.place; typed = typed.0; has = all_first (Has pool) (handle_needs s) (flat_map handle_needs ss) has },
    handled first ss joined.1 typed.1 (all_second (Has pool) (handle_needs s) (flat_map handle_needs ss) has),
  )

  called : (ts : List Step) → AllByRecursion IsGoodStep ts → AllByRecursion (OfStep IsTyped) ts → AllByRecursion (Has pool) (flat_map row_needs (calls ts)) → AllByRecursion (IsCalled pool p) (calls ts)
  called [] good typed has = tt
  called (t ∷ ts) good typed has = split (called ts good.1 typed.1) (at_bool (is_call t))
    where
      split : (AllByRecursion (Has pool) (flat_map row_needs (calls ts)) → AllByRecursion (IsCalled pool p) (calls ts)) → (is_call t ≡ true) ⊎ (is_call t ≡ false) → AllByRecursion (IsCalled pool p) (calls (t ∷ ts))
      split others (inl call) =
          let h = rw call at has in
          let here = all_first (Has pool) (row_needs t) (flat_map row_needs (calls ts)) h in
          rw call (handled t.first (sites_of t) (record { handle = call; place = refl }, good.0.joined) (typed.0.0, typed.0.1) here, others (all_second (Has pool) (row_needs t) (flat_map row_needs (calls ts)) h))
      split others (inr other) = rw other (others (rw other at has))

  -- ---- methods

  pub method_is : (all front rest : List Step) (row : ℕ) (m : Method) → m.flags < 2 ^ 16 → IsGoodMethod m → is_typed_method m ≡ true → is_placed_method m ≡ true → all ≡ front ++ (calls (steps_of m.sites) ++ rest) → length front ≡ row
      → AllByRecursion (Has pool) (method_needs (row, m)) → AllByRecursion (Has pool) (flat_map row_needs (calls (steps_of m.sites))) → IsMethodOf (constants pool) (map (row_of pool) all) (method_of pool (row, m)) m
  method_is all front rest row m small good typed placed is counted has rows =
      let t = both_of (is_descriptor m.desc) (list_all is_typed_site m.sites) typed in
      let steps = good_steps m.sites good.sites in
      let sites = steps_all IsTyped m.sites (typed_sites m.sites good.sites t.1) in
      record {
        declared = record {
          flags_few = small;
          flags_are = refl;
          name_index = index_small pool (Text m.name) p.few has.0;
          name_is = names pool p (Text m.name) has.0;
          filled = good.name.some;
          desc_index = index_small pool (Text m.desc) p.few has.1.0;
          desc_is = names pool p (Text m.desc) has.1.0;
          typed = descriptor_found m.desc t.0;
        };
        found = found_of row (steps_of m.sites);
        code = has_code row (steps_of m.sites) placed (firsts IsTyped (steps_of m.sites) sites) has.1.1;
        sites = are_sites pool p all front rest row m.sites placed steps is counted (called (steps_of m.sites) steps sites rows);
      }
