use Rattle.fcg_make.proofs.AddLemmas.{all_added}
use Rattle.fcg_make.proofs.needs.collect_entries.Goals as goal

pub returns : goal.returns
returns c = cc (all_added c.args.view.now, c.in_ok-add_type.ensures, c.in_ok-add_super.ensures, c.in_ok-add_types.ensures, c.in_ok-add_fields.ensures, c.in_ok-add_methods.ensures, c.in_ok-add_rows.ensures)
