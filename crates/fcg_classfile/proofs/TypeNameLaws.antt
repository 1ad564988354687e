-- The name of the type that an index names.
use Rattle.std.proofs.Common.{◌≡◌, ℕ, ◌<◌, true, ltb, List, length, refl, subst}
use Rattle.std.specs.Prelude.{Ok}
use Rattle.std.proofs.lemmas.Bool.{ltb-true, lt-ltb}
use Rattle.fcg_grammar.specs.Reading.{◌>>=◌, unless_broken}
use Rattle.fcg_grammar.proofs.LawLemmas.{bind_ok, kept_ok}
use Rattle.fcg_grammar.proofs.Standing.{ok_is}
use Rattle.fcg_classfile.specs.declared.fault.ClassRule.TheVariants.{EmptyName}
use Rattle.fcg_classfile.specs.ClassFile.{Constant}
use Rattle.fcg_classfile.specs.Constants.{NamesClass}
use Rattle.fcg_classfile.specs.Breaks.Fault.{fault, at_place}
use Rattle.fcg_classfile.specs.Breaks.Pool.{Entries, name_of, text_of}
use Rattle.fcg_classfile.specs.Breaks.Names.{type_of}
use Rattle.fcg_classfile.specs.Tables.{Holds}
use Rattle.fcg_classfile.proofs.NameLaws.{at_ok, class_name_found, class_name_only}

module _ (pool : Entries) (constants : List Constant) (holds : Holds pool constants) where
  pub type_of_found : (at index : ℕ) (name : List ℕ) → type_of pool at index ≡ Ok name → NamesClass constants index name × (0 < length name)
  unfolding type_of
  type_of_found at index name e =
      let a = bind_ok (at_place at index (name_of pool index >>= text_of pool)) _ name e in
      let b = bind_ok (unless_broken (ltb 0 (length a.0)) (fault at 0 EmptyName)) _ name a.2 in
      let filled : 0 < length a.0 = ltb-true _ _ (kept_ok _ _ b.0 b.1) in
      let named = class_name_found pool constants holds index a.0 (at_ok at index (name_of pool index >>= text_of pool) a.0 a.1) in
      subst (λ (x : List ℕ). NamesClass constants index x × (0 < length x)) (ok_is a.0 name b.2) (named, filled)

  pub type_of_only : (at index : ℕ) (name : List ℕ) → NamesClass constants index name → 0 < length name → type_of pool at index ≡ Ok name
  unfolding type_of
  type_of_only at index name named some =
      let read = class_name_only pool constants holds index name named in
      let filled : ltb 0 (length name) ≡ true = lt-ltb _ _ some in
      rw (read, filled) refl
