-- The pool that is written is a constant pool, and its indexes name what was asked for.
use Rattle.std.proofs.Common.{◌≡◌, ℕ, ◌<◌, ◌≤◌, ◌^◌, true, List, [], ◌∷◌, length, map, refl, arith}
use Rattle.std.specs.Prelude.{Option, Some, None, is_none}
use Rattle.std.specs.List.{AllByRecursion}
use Rattle.fcg_views.specs.declared.view.View.{View}
use Rattle.fcg_views.specs.declared.view.Ref.{Ref}
use Rattle.fcg_classfile.specs.Breaks.Groups.{bad_group}
use Rattle.fcg_classfile.specs.ClassFile.{Two, shape_of, is_one_of, Pair, tag_of, handle_tags, pair_wants, wants}
use Rattle.fcg_classfile.specs.Constants.{constant_at, NamesClass, NamesReference}
use Rattle.fcg_classfile.specs.Reads.{Fits, HasTag, IsPool}
use Rattle.fcg_classfile.proofs.GroupLaws.{groups_found}
use Rattle.fcg_make.specs.declared.entry.Entry.{Entry}
use Rattle.fcg_make.specs.declared.entry.Entry.TheVariants.{Text, Class, Member, Reference, Handle, Dynamic}
use Rattle.fcg_make.specs.Entries.{index_of}
use Rattle.fcg_make.specs.Needs.{dynamic_name, dynamic_desc, type_needs, reference, reference_needs, needs, pool_of}
use Rattle.fcg_make.specs.Layout.{constant_of}
use Rattle.fcg_make.proofs.HasLemmas.{Has, has_all, all_kept, IsTagged, tags, constants, constant_there, index_small}
use Rattle.fcg_make.proofs.FactLemmas.{Pieces, of_needs}
use Rattle.fcg_make.proofs.SoundLemmas.{IsSound}
use Rattle.fcg_make.proofs.SpellLemmas.{slots_length}

-- ---- the parts of entries are there

-- the parts of an entry are in the pool
abbrev pub HasParts : List Entry → Entry → Type 0
HasParts pool (Text text) = Unit {0}
HasParts pool (Class name) = Has pool (Text name)
HasParts pool (Member name desc) = Has pool (Text name) × Has pool (Text desc)
HasParts pool (Reference tag owner name desc) = Has pool (Class owner) × Has pool (Member name desc)
HasParts pool (Handle kind tag owner name desc) = Has pool (Reference tag owner name desc)
HasParts pool (Dynamic row) = Has pool (Member dynamic_name dynamic_desc)

part_pieces : (pool : List Entry) → Pieces (Has pool) (HasParts pool)
part_pieces pool = record {
  text = λ t h. tt;
  type = λ name h. (tt, (h.0, tt));
  field = λ r h. (tt, (h.0, (tt, (tt, ((h.1.1.0, h.1.1.1.0), ((h.1.0, h.1.1.1.1.0), tt))))));
  method = λ r h. (tt, (h.0, (tt, (tt, ((h.1.1.0, h.1.1.1.0), ((h.1.0, h.1.1.1.1.0), tt))))));
  handle = λ s h. (tt, (h.0, (tt, (tt, ((h.1.1.0, h.1.1.1.0), ((h.1.0, h.1.1.1.1.0), (h.1.1.1.1.1.0, tt)))))));
  dynamic = λ row h. (tt, (tt, ((h.0, h.1.0), (h.1.1.0, tt))));
}

-- all that a view needs is in its pool
pub needed : (v : View) → AllByRecursion (Has (pool_of v)) (needs v)
unfolding pool_of
needed v = has_all [] (needs v)

-- what all that a view needs keep, its pool does
pool_keeps : (P : Entry → Type 0) (v : View) → AllByRecursion P (needs v) → AllByRecursion P (pool_of v)
unfolding pool_of
pool_keeps P v kept = all_kept P [] (needs v) tt kept

pub pool_parts : (v : View) → AllByRecursion (HasParts (pool_of v)) (pool_of v)
pool_parts v = pool_keeps (HasParts (pool_of v)) v (of_needs (Has (pool_of v)) (HasParts (pool_of v)) (part_pieces (pool_of v)) v (needed v))

-- ---- a pool

is_none_by : (o : Option ℕ) → is_none o ≡ true → o ≡ None
is_none_by None e = refl
is_none_by (Some i) e = absurd cc

-- what makes the constants of a pool one
pub record IsPooled (pool : List Entry) : Type 0 where
  pub few : length pool ≤ 65534
  pub tagged : AllByRecursion IsTagged pool
  pub sound : AllByRecursion IsSound pool
  pub parts : AllByRecursion (HasParts pool) pool

module _ (pool : List Entry) (p : IsPooled pool) where
  small : (e : Entry) → Has pool e → index_of pool e < 2 ^ 16
  small e has = index_small pool e p.few has

  pub names : (e : Entry) → Has pool e → constant_at (constants pool) (index_of pool e) ≡ Some (constant_of pool e)
  names e has = constant_there pool e p.tagged has

  fits_tag : (tag i j : ℕ) → is_one_of (9 ∷ 10 ∷ 11 ∷ []) tag ≡ true → i < 2 ^ 16 → j < 2 ^ 16 → Fits (Pair tag i j)
  fits_tag tag i j t a b = (tags (λ (n : ℕ). shape_of n ≡ Some Two) refl refl refl tag t, a, b)

  fits : (e : Entry) → IsTagged e → IsSound e → HasParts pool e → Fits (constant_of pool e)
  fits (Text text) t sound parts = (sound.short, groups_found 0 text (is_none_by (bad_group 0 text) sound.groups))
  fits (Class name) t sound parts = (refl, small (Text name) parts)
  fits (Member name desc) t sound parts = (refl, small (Text name) parts.0, small (Text desc) parts.1)
  fits (Reference tag owner name desc) t sound parts = fits_tag tag _ _ t (small (Class owner) parts.0) (small (Member name desc) parts.1)
  fits (Handle kind tag owner name desc) t sound parts = small (Reference tag owner name desc) parts
  fits (Dynamic row) t sound parts = (refl, sound, small (Member dynamic_name dynamic_desc) parts)

  tag_there : (e : Entry) (allowed : List ℕ) → Has pool e → is_one_of allowed (tag_of (constant_of pool e)) ≡ true → HasTag (constants pool) (index_of pool e, allowed)
  tag_there e allowed has is = (constant_of pool e, names e has, is)

  wanted_by : (tag i j : ℕ) → is_one_of (9 ∷ 10 ∷ 11 ∷ []) tag ≡ true → HasTag (constants pool) (i, 7 ∷ []) → HasTag (constants pool) (j, 12 ∷ []) → AllByRecursion (HasTag (constants pool)) (pair_wants tag i j)
  wanted_by tag i j t a b = tags (λ (n : ℕ). AllByRecursion (HasTag (constants pool)) (pair_wants n i j)) (a, (b, tt)) (a, (b, tt)) (a, (b, tt)) tag t

  wanted : (e : Entry) → IsTagged e → IsSound e → HasParts pool e → AllByRecursion (HasTag (constants pool)) (wants (constant_of pool e))
  wanted (Text text) t sound parts = tt
  wanted (Class name) t sound parts = (tag_there (Text name) (1 ∷ []) parts refl, tt)
  wanted (Member name desc) t sound parts = (tag_there (Text name) (1 ∷ []) parts.0 refl, (tag_there (Text desc) (1 ∷ []) parts.1 refl, tt))
  wanted (Reference tag owner name desc) t sound parts = wanted_by tag _ _ t (tag_there (Class owner) (7 ∷ []) parts.0 refl) (tag_there (Member name desc) (12 ∷ []) parts.1 refl)
  wanted (Handle kind tag owner name desc) t sound parts = (tag_there (Reference tag owner name desc) (handle_tags kind) parts sound, tt)
  wanted (Dynamic row) t sound parts = (tag_there (Member dynamic_name dynamic_desc) (12 ∷ []) parts refl, tt)

  all_fit : (es : List Entry) → AllByRecursion IsTagged es → AllByRecursion IsSound es → AllByRecursion (HasParts pool) es → AllByRecursion Fits (map (constant_of pool) es)
  all_fit [] t sound parts = tt
  all_fit (e ∷ es) t sound parts = (fits e t.0 sound.0 parts.0, all_fit es t.1 sound.1 parts.1)

  all_wanted : (es : List Entry) → AllByRecursion IsTagged es → AllByRecursion IsSound es → AllByRecursion (HasParts pool) es → AllByRecursion (λ c. AllByRecursion (HasTag (constants pool)) (wants c)) (map (constant_of pool) es)
  all_wanted [] t sound parts = tt
  all_wanted (e ∷ es) t sound parts = (wanted e t.0 sound.0 parts.0, all_wanted es t.1 sound.1 parts.1)

  pub is_pool : IsPool (constants pool)
  is_pool = record {
    few = let e = slots_length pool pool p.tagged in let le = p.few in omega (arith, e, le);
    fit = all_fit pool p.tagged p.sound p.parts;
    named = all_wanted pool p.tagged p.sound p.parts;
  }

  -- ---- what indexes name

  pub names_class : (name : List ℕ) → AllByRecursion (Has pool) (type_needs name) → NamesClass (constants pool) (index_of pool (Class name)) name
  names_class name has = (index_of pool (Text name), names (Class name) has.1.0, names (Text name) has.0)

  -- a reference, by what it needs
  pub names_reference : (tag : ℕ) (r : Ref) → is_one_of (9 ∷ 10 ∷ 11 ∷ []) tag ≡ true → AllByRecursion (Has pool) (reference_needs tag r) → NamesReference (constants pool) (index_of pool (reference tag r)) tag r.owner r.name r.desc
  names_reference tag r t has = (
    index_of pool (Class r.owner),
    index_of pool (Member r.name r.desc),
    (names (reference tag r) has.1.1.1.1.1.0, t),
    (index_of pool (Text r.owner), names (Class r.owner) has.1.0, names (Text r.owner) has.0),
    (index_of pool (Text r.name), index_of pool (Text r.desc), names (Member r.name r.desc) has.1.1.1.1.0, names (Text r.name) has.1.1.0, names (Text r.desc) has.1.1.1.0),
  )
