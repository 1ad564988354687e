use Rattle.fcg_join.proofs.type_links.find_interface.Goals as goal

pub bounds-heads-y : goal.bounds-heads-y
bounds-heads-y c = (c.requires.found.found c.args.name c.in_ok-y.y c.in_ok-y.was).0
