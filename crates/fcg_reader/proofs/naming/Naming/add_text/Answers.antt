use Rattle.std.proofs.Common.{[], ap, subst, ◌∙◌}
use Rattle.fcg_grammar.specs.Number.{part}
use Rattle.fcg_reader.specs.Internal.Naming.{Named, NamesMore}
use Rattle.fcg_reader.proofs.NamingLemmas.{names_kept, named_added}
use Rattle.fcg_reader.proofs.naming.Naming.add_text.Goals as goal

pub invariant_of-self-2 : goal.invariant_of-self-2
invariant_of-self-2 c =
    let begin = c.find_span-begin.result.0 in
    let len = c.find_span-begin.result.1 in
    let text = ap (λ bytes. part bytes begin len) c.self.invariant.block ∙ c.find_span-begin.ensures.text in
    named_added c.self.inside.pool.now c.self.inside.list c.add_text.new.self (part c.self.inside.list.block begin len) c.in_ok-number.ensures.ok c.args.index c.in_ok-number.number c.self.inside.numbers.items c.keep_number.new.numbers.items c.in_ok-number.ensures.number text c.keep_number.ensures c.self.invariant

pub returns-clause-names : goal.returns-clause-names
returns-clause-names c =
    let text = part c.self.inside.list.block c.find_span-begin.result.0 c.find_span-begin.result.1 in
    let kept = names_kept c.self.inside.pool.now c.self.inside.list c.add_text.new.self text c.in_ok-number.ensures.ok c.self.inside.numbers.items c.keep_number.new.numbers.items c.self.invariant in
    subst (λ (n : Named). NamesMore n (record { pool = c.self.inside.pool.now; list = c.add_text.new.self }) []) c.self.view_is kept
