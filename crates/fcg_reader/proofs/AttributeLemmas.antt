-- Attributes of which one of a name is read.
use Rattle.std.proofs.Common.{◌≡◌, ℕ, ◌+◌, List, Bool, true, false, not, ◌&&◌, refl, ◌∙◌}
use Rattle.std.specs.Prelude.{Option, Some, None, is_none, is_some, Result, Ok, Err, if◌then◌else◌}
use Rattle.fcg_grammar.specs.declared.error.ReadError.{ReadError}
use Rattle.fcg_grammar.specs.declared.error.ReadError.TheVariants as errors
use Rattle.fcg_grammar.specs.Reading.{◌>>=◌, unless_broken, Fails}
use Rattle.fcg_classfile.specs.declared.fault.ClassFault.{ClassFault}
use Rattle.fcg_classfile.specs.declared.fault.ClassRule.{ClassRule}
use Rattle.fcg_classfile.specs.Breaks.Fault.{fault}
use Rattle.fcg_classfile.specs.Breaks.Pool.{Entries}
use Rattle.fcg_views.specs.Valid.{is_same}
use Rattle.fcg_classfile.specs.Breaks.Attributes.{up_to, text_at, content_at, AttributesBefore, one_read_at, other_at, one_at}
use Rattle.fcg_reader.specs.Internal.Attributes.{one_named}

-- whether it has the name, and the place after it
abbrev with_place : Bool → ℕ → Result (Bool × ℕ) ClassFault
with_place named after = Ok (named, after)

abbrev by_name : {B : Type 0} → (ℕ → Result B ClassFault) → (ℕ → Result B ClassFault) → Bool × ℕ → Result B ClassFault
by_name said passed x = if x.0 then said x.1 else passed x.1

-- the test of the name and that of a second one, as one
tested : {B : Type 0} (named again : Bool) (f : ClassFault) (content : Result ℕ ClassFault) (said passed : ℕ → Result B ClassFault)
    → (if named then (unless_broken (not again) f >>= λ once. content >>= said) else (content >>= passed))
    ≡ ((unless_broken (not (named && again)) f >>= λ once. content >>= with_place named) >>= by_name said passed)
tested true true f content said passed = refl
tested true false f (Ok after) said passed = refl
tested true false f (Err e) said passed = refl
tested false again f (Ok after) said passed = refl
tested false again f (Err e) said passed = refl

none_or_some : {A : Type 0} (x : Option A) → is_none x ≡ not (is_some x)
none_or_some None = refl
none_or_some (Some a) = refl

module _ {X : Type 0} (word : List ℕ) (twice : ClassRule) (said_at : Entries → ℕ → Result X ClassFault) (pool : Entries) (k at : ℕ) (read : Option (ℕ × X)) where
  abbrev before : AttributesBefore X
  before = record { at = at; read = read }

  abbrev said : ℕ → Result (Unit {0} × AttributesBefore X) ClassFault
  said after = said_at (up_to after pool) (at + 6) >>= λ x. Ok (tt, record { at = after; read = Some (at, x) })

  abbrev passed : ℕ → Result (Unit {0} × AttributesBefore X) ClassFault
  passed after = Ok (tt, record { at = after; read = read })

  one_is : one_at word twice said_at pool k before ≡ (one_named pool at word twice (is_some read) >>= by_name said passed)
  unfolding one_at one_read_at one_named
  one_is = go (text_at pool at)
    where
      go : (name : Result (List ℕ) ClassFault)
          → (name >>= λ n. if is_same n word then one_read_at word twice said_at pool before else other_at word twice said_at pool before)
          ≡ ((name >>= λ n. unless_broken (not (is_same n word && is_some read)) (fault at 0 twice) >>= λ once. content_at pool at >>= with_place (is_same n word)) >>= by_name said passed)
      go (Ok n) = rw (none_or_some read) (tested (is_same n word) (is_some read) (fault at 0 twice) (content_at pool at) said passed)
      go (Err f) = refl

  -- the name or the length is broken, or it is a second one
  pub one_broken : (f : ClassFault) → one_named pool at word twice (is_some read) ≡ Err f → one_at word twice said_at pool k before ≡ Err f
  one_broken f is = one_is ∙ rw is refl

  -- one of another name
  pub one_passed : (after : ℕ) → one_named pool at word twice (is_some read) ≡ Ok (false, after) → one_at word twice said_at pool k before ≡ Ok (tt, record { at = after; read = read })
  one_passed after is = one_is ∙ rw is refl

  -- What it says is broken, or there was no memory for it.
  pub one_fails : (after : ℕ) (e : ReadError ClassFault) → one_named pool at word twice (is_some read) ≡ Ok (true, after) → Fails e (said_at (up_to after pool) (at + 6)) → Fails e (one_at word twice said_at pool k before)
  one_fails after errors.NoMemory is fails = tt
  one_fails after (errors.Fault f) is fails = one_is ∙ rw (is, fails) refl

  pub one_read : (after : ℕ) (x : X) → one_named pool at word twice (is_some read) ≡ Ok (true, after) → said_at (up_to after pool) (at + 6) ≡ Ok x → one_at word twice said_at pool k before ≡ Ok (tt, record { at = after; read = Some (at, x) })
  one_read after x is says = one_is ∙ rw (is, says) refl
