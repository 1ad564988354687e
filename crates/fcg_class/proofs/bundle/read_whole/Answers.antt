use Rattle.std.proofs.Common.{Bool, false, IsTrue, subst, sym, ◌∙◌}
use Rattle.fcg_class.proofs.JarLemmas.{no_jar}
use Rattle.fcg_class.proofs.bundle.read_whole.Goals as goal

pub returns-clause-jar : goal.returns-clause-jar
returns-clause-jar c = (
  λ is. absurd (no_jar c.args.bytes.now c.read_plain.result c.read_plain.ensures is),
  λ is. (let bad : IsTrue false = subst (λ (b : Bool). IsTrue b) (sym c.starts_with.ensures.value ∙ c.if-starts_with.false) is in cc),
)
