-- What is written of a view that breaks no rule but that of the pool.
use Rattle.std.proofs.Common.{◌≡◌, ℕ, ◌<◌, ◌≤◌, Bool, true, false, cond, ◌&&◌, List, [], ◌∷◌, length, All, refl, sym, ap, subst, ◌∙◌, arith}
use Rattle.std.specs.Prelude.{Some, None, Ok, Err, nat_le}
use Rattle.std.specs.List.{AllByRecursion}
use Rattle.std.proofs.lemmas.Bool.Decides.{nat_tests}
use Rattle.std.proofs.lemmas.List.Elements.{All-from_recursion}
use Rattle.fcg_views.specs.declared.view.View.{View}
use Rattle.fcg_views.specs.Valid.{IsValid}
use Rattle.fcg_classfile.specs.ClassFile.{is_one_of}
use Rattle.fcg_make.specs.declared.entry.Entry.{Entry}
use Rattle.fcg_make.specs.declared.entry.Entry.TheVariants.{Text, Class, Member, Reference, Handle, Dynamic}
use Rattle.fcg_make.specs.declared.refusal.NotWritable.TheVariants as refusals
use Rattle.fcg_make.specs.Needs.{rows_of, needs, pool_of}
use Rattle.fcg_make.specs.Unwritable.{is_named, is_typed, is_kind, is_placed, has_room, unwritable}
use Rattle.fcg_make.specs.Layout.{file_of, written}
use Rattle.fcg_make.specs.Internal.Parts.{file_part}
use Rattle.fcg_make.specs.Internal.Small.{IsShortText}
use Rattle.fcg_make.proofs.HasLemmas.{IsTagged, all_kept}
use Rattle.fcg_make.proofs.FactLemmas.{Pieces, of_needs}
use Rattle.fcg_make.proofs.SoundLemmas.{IsSound, good_view, sound_needs}
use Rattle.fcg_make.proofs.SpellLemmas.{file_spelled}

-- a view that breaks no rule but that of the pool
pub record IsSaid (v : View) : Type 0 where
  pub valid : IsValid v
  pub named : is_named v ≡ true
  pub typed : is_typed v ≡ true
  pub kind : is_kind v ≡ true
  pub placed : is_placed v ≡ true

by_room : (v : View) (b : Bool) → IsSaid v → has_room v ≡ b → unwritable v ≡ cond b None (Some refusals.PoolFull)
unfolding unwritable
by_room v true s room = rw (s.named, s.typed, s.kind, s.placed, room) refl
by_room v false s room = rw (s.named, s.typed, s.kind, s.placed, room) refl

not_le : (n most : ℕ) → most < n → nat_le n most ≡ false
not_le n most lt = grind (arith, nat_tests)

is_le : (n most : ℕ) → n ≤ most → nat_le n most ≡ true
is_le n most le = grind (arith, nat_tests)

and_false : (a : Bool) → (a && false) ≡ false
and_false true = refl
and_false false = refl

full : (v : View) → IsSaid v → has_room v ≡ false → written v ≡ Err refusals.PoolFull
unfolding written
full v s room = rw (by_room v false s room) refl

pub full_rows : (v : View) → IsSaid v → 65535 < length (rows_of v.methods) → written v ≡ Err refusals.PoolFull
unfolding has_room
full_rows v s many = full v s (rw (not_le (length (rows_of v.methods)) 65535 many) refl)

pub full_pool : (v : View) → IsSaid v → 65534 < length (pool_of v) → written v ≡ Err refusals.PoolFull
unfolding has_room
full_pool v s many = full v s (rw (not_le (length (pool_of v)) 65534 many) (and_false (nat_le (length (rows_of v.methods)) 65535)))

-- ---- the pool

all_unit : (es : List Entry) → AllByRecursion (λ e. Unit {0}) es
all_unit [] = tt
all_unit (e ∷ es) = (tt, all_unit es)

tag_by : (b : Bool) → is_one_of (9 ∷ 10 ∷ 11 ∷ []) (cond b 11 10) ≡ true
tag_by true = refl
tag_by false = refl

tagged_pieces : Pieces (λ e. Unit {0}) IsTagged
tagged_pieces = record {
  text = λ t h. tt;
  type = λ name h. (tt, (tt, tt));
  field = λ r h. (tt, (tt, (tt, (tt, (tt, (refl, tt))))));
  method = λ r h. (tt, (tt, (tt, (tt, (tt, (tag_by r.owner_is_interface_ref, tt))))));
  handle = λ s h. (tt, (tt, (tt, (tt, (tt, (tag_by s.target.owner_is_interface_ref, (tt, tt)))))));
  dynamic = λ row h. (tt, (tt, (tt, (tt, tt))));
}

pub pool_tagged : (v : View) → AllByRecursion IsTagged (pool_of v)
unfolding pool_of
pool_tagged v = all_kept IsTagged [] (needs v) tt (of_needs (λ e. Unit {0}) IsTagged tagged_pieces v (all_unit (needs v)))

pub pool_sound : (v : View) → IsSaid v → length (rows_of v.methods) ≤ 65535 → AllByRecursion IsSound (pool_of v)
unfolding pool_of
pool_sound v s few = all_kept IsSound [] (needs v) tt (sound_needs v (good_view v s.valid s.named s.kind) few)

short_of : (e : Entry) → IsSound e → IsShortText e
short_of (Text text) sound = sound.short
short_of (Class name) sound = tt
short_of (Member name desc) sound = tt
short_of (Reference tag owner name desc) sound = tt
short_of (Handle kind tag owner name desc) sound = tt
short_of (Dynamic row) sound = tt

all_short : (es : List Entry) → AllByRecursion IsSound es → AllByRecursion IsShortText es
all_short [] sound = tt
all_short (e ∷ es) sound = (short_of e sound.0, all_short es sound.1)

pub pool_short : (v : View) → IsSaid v → length (rows_of v.methods) ≤ 65535 → All IsShortText (pool_of v)
pool_short v s few = All-from_recursion IsShortText (pool_of v) (all_short (pool_of v) (pool_sound v s few))

-- ---- what is written

pub written_is : (v : View) (pool : List Entry) (bytes : List ℕ) → IsSaid v → length (rows_of v.methods) ≤ 65535 → length pool ≤ 65534 → pool ≡ pool_of v → bytes ≡ file_part pool v → written v ≡ Ok bytes
unfolding written has_room file_of
written_is v pool bytes s few_rows few pool_is bytes_are =
    let entries : length (pool_of v) ≤ 65534 = subst (λ (es : List Entry). length es ≤ 65534) pool_is few in
    let room : has_room v ≡ true = rw (is_le (length (rows_of v.methods)) 65535 few_rows, is_le (length (pool_of v)) 65534 entries) refl in
    rw (by_room v true s room) (ap (λ (out : List ℕ). Ok out) (sym (bytes_are ∙ ap (λ (es : List Entry). file_part es v) pool_is ∙ file_spelled (pool_of v) v (pool_tagged v))))
