use Rattle.std.proofs.Common.{sym, ◌∙◌}
use Rattle.fcg_reader.proofs.HandleLemmas.{own_next}
use Rattle.fcg_reader.proofs.finish.next_site.Goals as goal

pub returns-else-is_handle_next-clause-value : goal.returns-else-is_handle_next-clause-value
returns-else-is_handle_next-clause-value c =
    own_next c.args.own.now.items c.args.handles.now.items c.pop_front-else-is_handle_next.new.self.items c.pop_front-else-is_handle_next.result (sym c.is_handle_next.ensures ∙ c.if-is_handle_next.false) c.pop_front-else-is_handle_next.ensures.items
