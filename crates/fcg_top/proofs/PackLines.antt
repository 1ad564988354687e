-- The lines of folders that aren't packed.
use Rattle.std.proofs.Common.{◌≡◌, ℕ, List, inl, inr, refl, subst}
use Rattle.std.specs.Prelude.{Option, Some, None, IfSome, Result, Err}
use Rattle.fcg_bytes.specs.Files.{File}
use Rattle.fcg_class.specs.Bundle.{Entry}
use Rattle.fcg_class.specs.Pack.{IsRefusal, PackFault, pack_of}
use Rattle.fcg_class.specs.declared.packing.PackRefusal.{PackRefusal}
use Rattle.fcg_class.specs.declared.packing.PackRefusal.TheVariants as packs
use Rattle.fcg_top.specs.declared.status.Stop.TheVariants as stops
use Rattle.fcg_top.specs.declared.status.Refusal.{Refusal}
use Rattle.fcg_top.specs.declared.status.Status.{Status}
use Rattle.fcg_top.specs.Answer.{Tells, errors_of}
use Rattle.fcg_top.specs.Packing.{answer_of_pack, pack_answer}
use Rattle.fcg_top.specs.Internal.Stopped.{IsStatusOf, stop_line, stop_of_pack}

-- the line of a refusal, or that there was no memory for it
refused_line : (refusal : Refusal) (status : Status) (answer : Result (List ℕ) Refusal) → answer ≡ Err refusal → IsStatusOf (stops.Refused refusal) status → stop_line status (stops.Refused refusal) ≡ errors_of status answer
refused_line refusal status answer is (inl e) = rw (e, is) refl
refused_line refusal status answer is (inr e) = rw e refl

same_line : (refusal : PackRefusal) (status : Status) (answer : Result (List Entry) PackFault) → IsRefusal refusal answer → IsStatusOf (stop_of_pack refusal) status → stop_line status (stop_of_pack refusal) ≡ errors_of status (answer_of_pack answer)
same_line packs.NoMemory status answer is e = rw e refl
same_line packs.Absent status answer is e = refused_line _ status (answer_of_pack answer) (rw is refl) e
same_line packs.FilesFailed status answer is e = rw e refl
same_line packs.TooLong status answer is e = refused_line _ status (answer_of_pack answer) (rw is refl) e
same_line (packs.BadPath k) status answer is e = refused_line _ status (answer_of_pack answer) (rw is refl) e
same_line packs.WriteFailed status answer is e = rw e refl

-- what was told is the line of the answer
pub told_line : (files : Option (List File)) (folder : List ℕ) (refusal : PackRefusal) (status : Status) (before now : ℕ) (old new : Option (List ℕ)) → IfSome files (λ told. IsRefusal refusal (pack_of told folder)) → IsStatusOf (stop_of_pack refusal) status
    → Tells before now old new (stop_line status (stop_of_pack refusal)) → IfSome files (λ told. Tells before now old new (errors_of status (pack_answer folder told)))
unfolding pack_answer
told_line None folder refusal status before now old new is e tells = tt
told_line (Some told) folder refusal status before now old new is e tells = subst (λ (text : List ℕ). Tells before now old new text) (same_line refusal status (pack_of told folder) is e) tells
