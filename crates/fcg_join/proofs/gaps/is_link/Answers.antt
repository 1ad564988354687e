use Rattle.fcg_join.proofs.gaps.is_link.Goals as goal

pub bounds-heads-y : goal.bounds-heads-y
bounds-heads-y c = (c.requires.found.found c.args.name c.in-Some.y c.in-Some.is).0
