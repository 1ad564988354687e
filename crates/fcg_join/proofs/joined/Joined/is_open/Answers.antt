use Rattle.std.proofs.Common.{◌≡◌, sym, ap, ◌∙◌}
use Rattle.std.specs.Prelude.{◌||◌, false, not}
use Rattle.std.proofs.lemmas.Bool.{or_left}
use Rattle.fcg_analysis.specs.NamesAndFlags.{has}
use Rattle.fcg_analysis.specs.Declarations.{is_private, is_static}
use Rattle.fcg_join.proofs.joined.Joined.is_open.Goals as goal
use Rattle.fcg_join.proofs.joined.Joined.is_open.Goals.{then-has_flag, else-has_flag}

pub returns : goal.returns
returns c = λ n h. (
    let e = c.method_flags-flags.ensures n h in
    let private = sym (c.has_flag.ensures ∙ ap (has 0x0002) e) in
    ap not (elim c.if-has_flag.branch [
      | then-has_flag w ↦ w.result-is ∙ w.if-has_flag.true ∙ sym (or_left (is_private n.method) (is_static n.method) (private ∙ w.if-has_flag.true))
      | else-has_flag w ↦ (
          let off : is_private n.method ≡ false = private ∙ w.if-has_flag.false in
          w.result-is ∙ w.has_flag-else-has_flag.ensures ∙ ap (has 0x0008) e ∙ sym (ap (λ b. b || is_static n.method) off))
    ]))
