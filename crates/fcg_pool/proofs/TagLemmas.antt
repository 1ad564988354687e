-- Tags among others.
use Rattle.std.proofs.Common.{◌≡◌, ℕ, List, [], ◌∷◌, ◌||◌, Bool, eqb, refl, ap}
use Rattle.std.specs.List.{list_any}
use Rattle.std.specs.Prelude.{Result, Ok, Err}
use Rattle.fcg_grammar.specs.Reading.{◌>>=◌, unless_broken, seen}
use Rattle.fcg_classfile.specs.declared.fault.PoolRule.{PoolRule}
use Rattle.fcg_classfile.specs.declared.fault.PoolRule.TheVariants.{WrongKind}
use Rattle.fcg_classfile.specs.ClassFile.{Constant, is_one_of, tag_of}
use Rattle.fcg_classfile.specs.Breaks.Pool.{Entries, constant_of, want_kept}

pub any_is : (tags : List ℕ) (tag : ℕ) → list_any (λ t. eqb t tag) tags ≡ is_one_of tags tag
any_is [] tag = refl
any_is (t ∷ ts) tag = ap (λ (b : Bool). eqb t tag || b) (any_is ts tag)

tag_of_found : (found : Result Constant PoolRule) (tags : List ℕ) → (found >>= λ c. unless_broken (is_one_of tags (tag_of c)) WrongKind) ≡ (seen tag_of found >>= λ tag. unless_broken (is_one_of tags tag) WrongKind)
tag_of_found (Ok c) tags = refl
tag_of_found (Err rule) tags = refl

-- what an index may name is told by the tag alone
pub want_tag : (pool : Entries) (index : ℕ) (tags : List ℕ) (found : Result ℕ PoolRule) → found ≡ seen tag_of (constant_of pool index) → want_kept pool (index, tags) ≡ (found >>= λ tag. unless_broken (is_one_of tags tag) WrongKind)
unfolding want_kept
want_tag pool index tags found is = rw is (tag_of_found (constant_of pool index) tags)
