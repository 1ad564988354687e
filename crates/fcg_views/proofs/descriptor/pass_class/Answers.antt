use Rattle.fcg_views.proofs.DescPasses.{class_leads}
use Rattle.fcg_views.proofs.descriptor.pass_class.Goals as goal

pub returns-then-size-gt0 : goal.returns-then-size-gt0
returns-then-size-gt0 c =
    class_leads c.args.text.now c.args.state c.in_ok-next.next c.args.at c.in_ok-size.size c.requires.within c.if-text-at-ne76.false c.in_ok-next.ensures.value c.in_ok-next.ensures.small c.in_ok-size.ensures.value c.if-size-gt0.true
