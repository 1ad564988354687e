-- What is written is a class file with the view that was given.
use Rattle.std.proofs.Common.{◌≡◌, inr, ℕ, ◌+◌, ◌<◌, ◌≤◌, ◌^◌, Bool, true, false, not, List, [], ◌∷◌, ◌++◌, append_assoc, length, length-append, map, refl, sym, subst, ◌∙◌, arith}
use Rattle.std.specs.Prelude.{Option, Some, None, Result, Ok, Err, IfOk, OnOk, codes, nat_le, nat_lt, if◌then◌else◌}
use Rattle.std.specs.List.{flat_map, list_all, AllByRecursion, AllZip}
use Rattle.std.proofs.lemmas.Grind.{flat_map-append}
use Rattle.fcg_views.specs.declared.view.View.{View}
use Rattle.fcg_views.specs.declared.view.Field.{Field}
use Rattle.fcg_views.specs.declared.view.Method.{Method}
use Rattle.fcg_views.specs.declared.view.Site.{Site}
use Rattle.fcg_classfile.specs.ClassFile.{bootstrap_info, spelling}
use Rattle.fcg_views.specs.Valid.{IsValid}
use Rattle.fcg_classfile.specs.Reads.{NamesType, NamesSuper, HasRows, IsRow, IsFieldOf, IsMethodOf, IsViewOf, Reads}
use Rattle.fcg_classfile.proofs.WordLaws.{methods_differ}
use Rattle.fcg_make.specs.declared.entry.Entry.{Entry}
use Rattle.fcg_make.specs.declared.entry.Entry.TheVariants.{Text, Class}
use Rattle.fcg_make.specs.declared.refusal.NotWritable.{NotWritable}
use Rattle.fcg_make.specs.declared.refusal.NotWritable.TheVariants as refusals
use Rattle.fcg_make.specs.declared.refusal.WriteError.{WriteError}
use Rattle.fcg_make.specs.Steps.{Step, calls, steps_of, method_rows, numbered}
use Rattle.fcg_make.specs.Needs.{type_needs, super_needs, field_needs, method_needs, handle, handle_needs, row_needs, rows_of, rows_needs, numbered_methods, needs, pool_of}
use Rattle.fcg_make.specs.Unwritable.{is_named, is_typed_field, is_typed_method, is_typed, is_kind_method, is_kind, is_placed_method, is_placed, has_room, unwritable}
use Rattle.fcg_make.specs.Layout.{type_index, super_index, field_of, method_of, handle_index, row_of, class_attributes, file_by, file_of, written_or, written}
use Rattle.fcg_make.specs.Internal.Small.{HasFewHandles, IsFlaggedField, IsFlaggedMethod, IsFlagged}
use Rattle.fcg_make.specs.Answers.{Answers}
use Rattle.fcg_make.proofs.WriteLemmas.{length_map, length_numbered}
use Rattle.fcg_make.proofs.HasLemmas.{Has, constants, index_small, index_some}
use Rattle.fcg_make.proofs.FactLemmas.{all_first, all_second}
use Rattle.fcg_make.proofs.LengthLemmas.{le_true, lt_true, few_in_rows, short_info}
use Rattle.fcg_make.proofs.SoundLemmas.{both_of, IsName, IsNameOrNone, IsGoodField, IsGoodMethod, good_view}
use Rattle.fcg_make.proofs.WrittenLemmas.{IsSaid, pool_tagged, pool_sound}
use Rattle.fcg_make.proofs.PooledLaws.{IsPooled, needed, pool_parts, is_pool, names, names_class}
use Rattle.fcg_make.proofs.MethodLaws.{field_is, method_is}

module _ (pool : List Entry) (p : IsPooled pool) where
  -- ---- names of types

  names_type : (name : List ℕ) → IsName name → AllByRecursion (Has pool) (type_needs name) → NamesType (constants pool) (type_index pool name) name
  names_type name good has = (index_small pool (Class name) p.few has.1.0, names_class pool p name has, good.some)

  names_super : (o : Option (List ℕ)) → IsNameOrNone o → AllByRecursion (Has pool) (super_needs o) → NamesSuper (constants pool) (super_index pool o) o
  names_super None good has = refl
  names_super (Some name) good has = (index_some pool (Class name) has.1.0, names_type name good has)

  names_types : (ns : List (List ℕ)) → AllByRecursion IsName ns → AllByRecursion (Has pool) (flat_map type_needs ns) → AllZip (NamesType (constants pool)) (map (type_index pool) ns) ns
  names_types [] good has = tt
  names_types (n ∷ ns) good has = (names_type n good.0 (has.0, (has.1.0, tt)), names_types ns good.1 has.1.1)

  -- ---- fields and methods

  fields_are : (fs : List Field) → AllByRecursion IsFlaggedField fs → AllByRecursion IsGoodField fs → list_all is_typed_field fs ≡ true → AllByRecursion (Has pool) (flat_map field_needs fs) → AllZip (IsFieldOf (constants pool)) (map (field_of pool) fs) fs
  fields_are [] small good typed has = tt
  fields_are (f ∷ fs) small good typed has =
      let t = both_of (is_typed_field f) (list_all is_typed_field fs) typed in
      (field_is pool p f small.0 good.0 t.0 (has.0, (has.1.0, tt)), fields_are fs small.1 good.1 t.1 has.1.1)

  methods_are : (all front : List Step) (row : ℕ) (ms : List Method) → AllByRecursion IsFlaggedMethod ms → AllByRecursion IsGoodMethod ms → list_all is_typed_method ms ≡ true → list_all is_placed_method ms ≡ true → all ≡ front ++ rows_of ms → length front ≡ row
      → AllByRecursion (Has pool) (flat_map method_needs (numbered method_rows row ms)) → AllByRecursion (Has pool) (flat_map row_needs (rows_of ms))
      → AllZip (IsMethodOf (constants pool) (map (row_of pool) all)) (map (method_of pool) (numbered method_rows row ms)) ms
  methods_are all front row [] small good typed placed is counted has rows = tt
  methods_are all front row (m ∷ ms) small good typed placed is counted has rows =
      let t = both_of (is_typed_method m) (list_all is_typed_method ms) typed in
      let q = both_of (is_placed_method m) (list_all is_placed_method ms) placed in
      let own : List Step = calls (steps_of m.sites) in
      let split = subst (AllByRecursion (Has pool)) (flat_map-append row_needs own (rows_of ms)) rows in
      let next : length (front ++ own) ≡ row + method_rows m = omega (arith, length-append front own, counted) in (
        method_is pool p all front (rows_of ms) row m small.0 good.0 t.0 q.0 is counted
            (all_first (Has pool) (method_needs (row, m)) (flat_map method_needs (numbered method_rows (row + method_rows m) ms)) has) (all_first (Has pool) (flat_map row_needs own) (flat_map row_needs (rows_of ms)) split),
        methods_are all (front ++ own) (row + method_rows m) ms small.1 good.1 t.1 q.1 (is ∙ sym (append_assoc front own (rows_of ms))) next
            (all_second (Has pool) (method_needs (row, m)) (flat_map method_needs (numbered method_rows (row + method_rows m) ms)) has) (all_second (Has pool) (flat_map row_needs own) (flat_map row_needs (rows_of ms)) split),
      )

  -- ---- bootstrap methods

  handles_small : (ss : List Site) → AllByRecursion (Has pool) (flat_map handle_needs ss) → AllByRecursion (λ i. i < 2 ^ 16) (map (handle_index pool) ss)
  handles_small [] has = tt
  handles_small (s ∷ ss) has =
      let here = all_first (Has pool) (handle_needs s) (flat_map handle_needs ss) has in
      (index_small pool (handle s) p.few here.1.1.1.1.1.1.0, handles_small ss (all_second (Has pool) (handle_needs s) (flat_map handle_needs ss) has))

  rows_are : (ts : List Step) → AllByRecursion HasFewHandles ts → AllByRecursion (Has pool) (flat_map row_needs ts) → AllByRecursion IsRow (map (row_of pool) ts)
  rows_are [] few has = tt
  rows_are (t ∷ ts) few has =
      let here = handles_small (t.first ∷ t.more) (all_first (Has pool) (row_needs t) (flat_map row_needs ts) has) in
      let le = few.0 in
      let n = length_map (handle_index pool) t.more in
      (record { handle = here.0; few = omega (arith, le, n); arguments = here.1 }, rows_are ts few.1 (all_second (Has pool) (row_needs t) (flat_map row_needs ts) has))

  rows_there : (ts : List Step) → AllByRecursion (Has pool) (rows_needs ts) → AllByRecursion (Has pool) (flat_map row_needs ts)
  rows_there [] has = tt
  rows_there (t ∷ ts) has = has.1

  has_rows : (v : View) (ts : List Step) → rows_of v.methods ≡ ts → IsValid v → length ts ≤ 65535 → AllByRecursion HasFewHandles ts → AllByRecursion (Has pool) (rows_needs ts) → HasRows (constants pool) (class_attributes pool ts) (map (row_of pool) ts)
  has_rows v [] is valid few handles has = record { few = omega arith; rows_are = refl }
  has_rows v (t ∷ ts) is valid few handles has =
      let n = length_map (row_of pool) (t ∷ ts) in
      record {
        few = omega arith;
        rows_are = inr (
          record {
            index = index_small pool (Text (codes "BootstrapMethods")) p.few has.0;
            named = names pool p (Text (codes "BootstrapMethods")) has.0;
            fits = subst (λ (rows : List Step). length (bootstrap_info (map (row_of pool) rows)) < 2 ^ 32) is (short_info pool v valid);
          },
          record { spelled = refl; few = omega (arith, few, n); each = rows_are (t ∷ ts) handles has.1 },
          tt,
        );
      }

-- ---- the class file

-- a view that breaks no rule
pub record IsWritable (v : View) : Type 0 where
  pub said : IsSaid v
  pub few_rows : length (rows_of v.methods) ≤ 65535
  pub few_entries : length (pool_of v) ≤ 65534

pooled : (v : View) → IsWritable v → IsPooled (pool_of v)
pooled v w = record { few = w.few_entries; tagged = pool_tagged v; sound = pool_sound v w.said w.few_rows; parts = pool_parts v }

-- what each part of a view needs is in its pool
record Parted (v : View) : Type 0 where
  name : AllByRecursion (Has (pool_of v)) (type_needs v.name)
  super : AllByRecursion (Has (pool_of v)) (super_needs v.superclass)
  interfaces : AllByRecursion (Has (pool_of v)) (flat_map type_needs v.interfaces)
  fields : AllByRecursion (Has (pool_of v)) (flat_map field_needs v.fields)
  methods : AllByRecursion (Has (pool_of v)) (flat_map method_needs (numbered_methods v.methods))
  rows : AllByRecursion (Has (pool_of v)) (rows_needs (rows_of v.methods))

parted : (v : View) → Parted v
unfolding needs
parted v =
    let H = Has (pool_of v) in
    let a = needed v in
    let b = all_second H (type_needs v.name) _ a in
    let c = all_second H (super_needs v.superclass) _ b in
    let d = all_second H (flat_map type_needs v.interfaces) _ c in
    let e = all_second H (flat_map field_needs v.fields) _ d in
    record {
      name = all_first H (type_needs v.name) _ a;
      super = all_first H (super_needs v.superclass) _ b;
      interfaces = all_first H (flat_map type_needs v.interfaces) _ c;
      fields = all_first H (flat_map field_needs v.fields) _ d;
      methods = all_first H (flat_map method_needs (numbered_methods v.methods)) _ e;
      rows = all_second H (flat_map method_needs (numbered_methods v.methods)) _ e;
    }

view_is : (v : View) → IsWritable v → IsFlagged v → IsViewOf (file_by (pool_of v) v) v
unfolding is_typed is_placed is_kind
view_is v w flags =
    let p = pooled v w in
    let has = parted v in
    let valid = w.said.valid in
    let good = good_view v valid w.said.named w.said.kind in
    let typed = both_of (list_all is_typed_field v.fields) (list_all is_typed_method v.methods) w.said.typed in
    let kind = both_of (nat_lt v.flags 0x8000) (list_all is_kind_method v.methods) w.said.kind in
    let low = lt_true v.flags 0x8000 kind.0 in
    let interfaces_few = valid.interfaces.0 in
    let fields_few = valid.fields.0 in
    let methods_few = valid.methods.0 in
    let n_interfaces = length_map (type_index (pool_of v)) v.interfaces in
    let n_fields = length_map (field_of (pool_of v)) v.fields in
    let n_methods = length_map (method_of (pool_of v)) (numbered_methods v.methods) in
    let n_numbered = length_numbered method_rows 0 v.methods in
    record {
      minor = omega arith;
      from = omega arith;
      to = omega arith;
      pool = is_pool (pool_of v) p;
      flags_few = omega (arith, low);
      flags = refl;
      name = names_type (pool_of v) p v.name good.name has.name;
      super = names_super (pool_of v) p v.superclass good.super has.super;
      few_interfaces = omega (arith, interfaces_few, n_interfaces);
      interfaces = names_types (pool_of v) p v.interfaces good.interfaces has.interfaces;
      few_fields = omega (arith, fields_few, n_fields);
      fields = fields_are (pool_of v) p v.fields flags.0 good.fields typed.0 has.fields;
      few_methods = omega (arith, methods_few, n_methods, n_numbered);
      rows = map (row_of (pool_of v)) (rows_of v.methods);
      methods = methods_are (pool_of v) p (rows_of v.methods) [] 0 v.methods flags.1 good.methods typed.1 w.said.placed refl refl has.methods (rows_there (pool_of v) p (rows_of v.methods) has.rows);
      distinct = methods_differ v.methods valid.distinct;
      few_sites = valid.few_sites;
      attributes = has_rows (pool_of v) p v (rows_of v.methods) refl valid w.few_rows (few_in_rows v.methods w.said.placed) has.rows;
    }

reads_layout : (v : View) → IsWritable v → IsFlagged v → Reads (spelling (file_of v)) (Some v)
unfolding file_of is_kind
reads_layout v w flags =
    let kind = both_of (nat_lt v.flags 0x8000) (list_all is_kind_method v.methods) w.said.kind in
    record { file = file_of v; spelled = refl; view = v; is = view_is v w flags; shown = (lt_true v.flags 0x8000 kind.0, refl) }

-- ---- no rule is broken

none_broken : (a b c d e : Bool)
    → ◌≡◌ {A = Option NotWritable} (if not a then Some refusals.Name else (if not b then Some refusals.Descriptor else (if not c then Some refusals.Kind else (if not d then Some refusals.Places else (if not e then Some refusals.PoolFull else None))))) None
    → (a ≡ true) × (b ≡ true) × (c ≡ true) × (d ≡ true) × (e ≡ true)
none_broken true true true true true h = (refl, refl, refl, refl, refl)
none_broken true true true true false h = absurd cc
none_broken true true true false e h = absurd cc
none_broken true true false d e h = absurd cc
none_broken true false c d e h = absurd cc
none_broken false b c d e h = absurd cc

writable : (v : View) → IsValid v → unwritable v ≡ None → IsWritable v
unfolding unwritable has_room
writable v valid none =
    let all = none_broken (is_named v) (is_typed v) (is_kind v) (is_placed v) (has_room v) none in
    let room = both_of (nat_le (length (rows_of v.methods)) 65535) (nat_le (length (pool_of v)) 65534) all.4 in
    record {
      said = record { valid = valid; named = all.0; typed = all.1; kind = all.2; placed = all.3 };
      few_rows = le_true (length (rows_of v.methods)) 65535 room.0;
      few_entries = le_true (length (pool_of v)) 65534 room.1;
    }

by_rule : (v : View) (o : Option NotWritable) (bytes : List ℕ) → unwritable v ≡ o → written_or o v ≡ Ok bytes → IsValid v → IsFlagged v → Reads bytes (Some v)
by_rule v None bytes none e valid flags = let same : spelling (file_of v) ≡ bytes = cc in subst (λ (out : List ℕ). Reads out (Some v)) same (reads_layout v (writable v valid none) flags)
by_rule v (Some rule) bytes broken e valid flags = absurd cc

written_reads : (v : View) (bytes : List ℕ) → IsValid v → IsFlagged v → written v ≡ Ok bytes → Reads bytes (Some v)
unfolding written
written_reads v bytes valid flags e = by_rule v (unwritable v) bytes refl e valid flags

pub read_back : (r : Result (List ℕ) WriteError) (v : View) → IsValid v → OnOk r (IsFlagged v) → Answers r (written v) → IfOk r (λ bytes. Reads bytes (Some v))
read_back (Ok bytes) v valid flags e = written_reads v bytes valid flags e
read_back (Err e) v valid flags a = tt
