use Rattle.fcg_reader.proofs.FirstLemmas.{left_of, firsts_grow}
use Rattle.fcg_reader.proofs.firsts.FirstTexts.find_or_insert.Goals as goal

pub returns-clause-first : goal.returns-clause-first
returns-clause-first c =
    let added = c.first_or_insert.ensures in
    (left_of c.args.self.now.pool.now c.args.self.now.known c.first_or_insert.new.known c.args.text.now.bytes.now c.args.text.now.index c.first_or_insert.result c.requires.text c.requires.asked.known_are added.first added.adds added.err).first

pub returns-clause-kept : goal.returns-clause-kept
returns-clause-kept c =
    let added = c.first_or_insert.ensures in
    (left_of c.args.self.now.pool.now c.args.self.now.known c.first_or_insert.new.known c.args.text.now.bytes.now c.args.text.now.index c.first_or_insert.result c.requires.text c.requires.asked.known_are added.first added.adds added.err).grows

pub returns-clause-asked : goal.returns-clause-asked
returns-clause-asked c =
    let added = c.first_or_insert.ensures in
    let left = left_of c.args.self.now.pool.now c.args.self.now.known c.first_or_insert.new.known c.args.text.now.bytes.now c.args.text.now.index c.first_or_insert.result c.requires.text c.requires.asked.known_are added.first added.adds added.err in
    record {
      known_are = left.known;
      firsts_are = firsts_grow c.args.self.now.pool.now c.args.self.now.known c.first_or_insert.new.known c.args.self.now.firsts.items left.grows c.requires.asked.firsts_are;
    }
