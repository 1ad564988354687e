-- What rows stand for.
use Rattle.std.proofs.Common.{◌≡◌, ℕ, List, refl, ap, ◌∙◌}
use Rattle.std.specs.Prelude.{Option, Some, None, is_some, Ok, Err}
use Rattle.fcg_classfile.specs.declared.fault.PoolRule.TheVariants.{BadIndex}
use Rattle.fcg_classfile.specs.Breaks.Pool.{Entries, constant_of, text_of}
use Rattle.fcg_reader.specs.Internal.Rows.{text_or_none, text_in}
use Rattle.fcg_reader.specs.Internal.Calls.{FoundRows}
use Rattle.fcg_reader.specs.Internal.Members.{code_of}

-- no constant has the index 0
pub no_text : (pool : Entries) → text_of pool 0 ≡ Err BadIndex
unfolding text_of constant_of
no_text pool = refl

pub text_known : (pool : Entries) (i j : ℕ) (text : List ℕ) → text_of pool i ≡ Ok text → j ≡ i → text_in pool j ≡ text
text_known pool i j text is same = ap (text_in pool) same ∙ ap text_or_none is

pub some_code : (pool : Entries) (code : Option (ℕ × FoundRows)) → is_some (code_of pool code) ≡ is_some code
some_code pool None = refl
some_code pool (Some x) = refl
