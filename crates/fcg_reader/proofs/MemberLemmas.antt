-- What a reference names is the same for each site that may have its tag.
use Rattle.std.proofs.Common.{◌≡◌, ℕ, Bool, true, List, length, ap, subst}
use Rattle.std.specs.Prelude.{Result, Ok, nat_lt}
use Rattle.fcg_grammar.specs.Reading.{unless_broken}
use Rattle.fcg_grammar.proofs.LawLemmas.{bind_ok, kept_ok}
use Rattle.fcg_grammar.proofs.Standing.{ok_is}
use Rattle.fcg_views.specs.declared.view.Ref.{Ref}
use Rattle.fcg_classfile.specs.declared.fault.PoolRule.{PoolRule}
use Rattle.fcg_classfile.specs.declared.fault.ClassRule.TheVariants.{WrongKind, EmptyName, Descriptor}
use Rattle.fcg_classfile.specs.ClassFile.{is_one_of}
use Rattle.fcg_classfile.specs.Breaks.Fault.{fault, at_place}
use Rattle.fcg_classfile.specs.Breaks.Pool.{Entries, Reference, reference_of}
use Rattle.fcg_classfile.specs.Breaks.Code.{member_of}

-- a constant that an index names is the same at each place
place_is : (at index : ℕ) (read : Result Reference PoolRule) (m r : Reference) → read ≡ Ok m → at_place at index read ≡ Ok r → m ≡ r
place_is at index read m r is e = ok_is m r (subst (λ (x : Result Reference PoolRule). at_place at index x ≡ Ok r) is e)

place_at : (there index : ℕ) (read : Result Reference PoolRule) (m r : Reference) → read ≡ Ok m → m ≡ r → at_place there index read ≡ Ok r
place_at there index read m r is same = rw is (ap (λ (x : Reference). Ok x) same)

pub member_again : (pool : Entries) (is_typed : List ℕ → Bool) (tags more : List ℕ) (at there index : ℕ) (m : Reference) (r : Ref) → reference_of pool index ≡ Ok m → is_one_of more m.tag ≡ true
    → member_of pool is_typed tags at index ≡ Ok r → member_of pool is_typed more there index ≡ Ok r
unfolding member_of
member_again pool is_typed tags more at there index m r is one e =
    let a = bind_ok (at_place at index (reference_of pool index)) _ r e in
    let same : m ≡ a.0 = place_is at index (reference_of pool index) m a.0 is a.1 in
    let here : at_place there index (reference_of pool index) ≡ Ok a.0 = place_at there index (reference_of pool index) m a.0 is same in
    let again : is_one_of more a.0.tag ≡ true = subst (λ (x : Reference). is_one_of more x.tag ≡ true) same one in
    let allowed = bind_ok (unless_broken (is_one_of tags a.0.tag) (fault at index WrongKind)) _ r a.2 in
    let owned = bind_ok (unless_broken (nat_lt 0 (length a.0.owner)) (fault at 0 EmptyName)) _ r allowed.2 in
    let named = bind_ok (unless_broken (nat_lt 0 (length a.0.name)) (fault at 0 EmptyName)) _ r owned.2 in
    let typed = bind_ok (unless_broken (is_typed a.0.desc) (fault at 0 Descriptor)) _ r named.2 in
    rw (here, again, kept_ok _ _ owned.0 owned.1, kept_ok _ _ named.0 named.1, kept_ok _ _ typed.0 typed.1) typed.2
