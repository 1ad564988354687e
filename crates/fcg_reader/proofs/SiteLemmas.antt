-- What the instructions of a code have depends on the constants of the pool alone, whichever bytes are read.
use Rattle.std.proofs.Common.{◌≡◌, ℕ, zero, suc, ◌+◌, List, [], ◌∷◌, length, eqb, get_or, refl}
use Rattle.std.specs.Prelude.{Bool, true, false, Option, Some, None, Result, Ok, if◌then◌else◌}
use Rattle.fcg_grammar.specs.Reading.{◌>>=◌}
use Rattle.fcg_classfile.specs.declared.fault.ClassFault.{ClassFault}
use Rattle.fcg_views.specs.DescriptorSteps.{is_descriptor, is_field_descriptor}
use Rattle.fcg_classfile.specs.Sites.{Target, ToMethod, ToField, ToType, SiteForm, site_form, is_dynamic, Found, nothing, both}
use Rattle.fcg_classfile.specs.Breaks.Fault.{at_opcode}
use Rattle.fcg_classfile.specs.Breaks.Instructions.{operand_at, next_at}
use Rattle.fcg_classfile.specs.Breaks.Names.{type_of}
use Rattle.fcg_classfile.specs.Breaks.Pool.{Entries, name_of, text_of}
use Rattle.fcg_classfile.specs.Breaks.Attributes.{over}
use Rattle.fcg_classfile.specs.Breaks.Code.{member_of, target_of, site_of, sites_by, calls_by, found_at, found_from, found_of}
use Rattle.fcg_reader.proofs.OverLemmas.{bind_alike, text_over, name_over, reference_over, dynamic_over}

module _ (bytes : List ℕ) (pool : Entries) where
  member_over : (is_typed : List ℕ → Bool) (tags : List ℕ) (at index : ℕ) → member_of (over bytes pool) is_typed tags at index ≡ member_of pool is_typed tags at index
  unfolding member_of
  member_over is_typed tags at index = rw (reference_over bytes pool index) refl

  named_over : (index : ℕ) → (name_of (over bytes pool) index >>= text_of (over bytes pool)) ≡ (name_of pool index >>= text_of pool)
  named_over index = rw (name_over bytes pool index) (bind_alike (name_of pool index) _ _ (text_over bytes pool))

  type_over : (at index : ℕ) → type_of (over bytes pool) at index ≡ type_of pool at index
  unfolding type_of
  type_over at index = rw (named_over index) refl

  target_over : (target : Target) (at index : ℕ) → target_of (over bytes pool) target at index ≡ target_of pool target at index
  target_over (ToMethod tags) at index = member_over is_descriptor tags at index
  target_over ToField at index = member_over is_field_descriptor (9 ∷ []) at index
  target_over ToType at index = rw (type_over at index) refl

  site_over : (form : SiteForm) (at pc index count : ℕ) → site_of (over bytes pool) form at pc index count ≡ site_of pool form at pc index count
  unfolding site_of
  site_over form at pc index count = rw (target_over form.target at index) refl

  module _ (begin : ℕ) (code : List ℕ) where
    sites_over : (form : Option SiteForm) (pc count : ℕ) → sites_by (over bytes pool) begin code form pc count ≡ sites_by pool begin code form pc count
    sites_over None pc count = refl
    sites_over (Some form) pc count = rw (site_over form (begin + pc) pc (operand_at code pc) count) refl

    calls_over : (dynamic : Bool) (pc : ℕ) → calls_by (over bytes pool) begin code dynamic pc ≡ calls_by pool begin code dynamic pc
    calls_over false pc = refl
    calls_over true pc = rw (dynamic_over bytes pool (operand_at code pc)) refl

    found_at_over : (pc count : ℕ) → found_at (over bytes pool) begin code pc count ≡ found_at pool begin code pc count
    unfolding found_at
    found_at_over pc count = rw (sites_over (site_form (get_or code pc 0)) pc count, calls_over (is_dynamic (get_or code pc 0)) pc) refl

    found_from_over : (fuel pc count : ℕ) → found_from (over bytes pool) begin code fuel pc count ≡ found_from pool begin code fuel pc count
    unfolding found_from
    found_from_over zero pc count = refl
    found_from_over (suc fuel) pc count = go (eqb (length code) pc) (λ next. here next (λ n. found_from_over fuel next n))
      where
        more : Entries → ℕ → Result Found ClassFault
        more p next = found_at p begin code pc count >>= λ x. (found_from p begin code fuel next (count + length x.sites) >>= λ others. Ok (both x others))

        here : (next : ℕ) → ((n : ℕ) → found_from (over bytes pool) begin code fuel next n ≡ found_from pool begin code fuel next n) → more (over bytes pool) next ≡ more pool next
        here next same = rw (found_at_over pc count) (bind_alike (found_at pool begin code pc count) _ _ (λ (x : Found). rw (same (count + length x.sites)) refl))

        go : (end : Bool) → ((next : ℕ) → more (over bytes pool) next ≡ more pool next)
            → (if end then Ok nothing else (at_opcode (begin + pc) (next_at code pc) >>= more (over bytes pool))) ≡ (if end then Ok nothing else (at_opcode (begin + pc) (next_at code pc) >>= more pool))
        go true same = refl
        go false same = bind_alike (at_opcode (begin + pc) (next_at code pc)) _ _ same

    pub found_over : (count : ℕ) → found_of (over bytes pool) begin code count ≡ found_of pool begin code count
    found_over count = found_from_over (1 + length code) 0 count
