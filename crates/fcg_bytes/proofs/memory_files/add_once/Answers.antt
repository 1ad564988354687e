use Rattle.std.proofs.Common.{◌∷◌, []}
use Rattle.std.proofs.lemmas.List.{map-append}
use Rattle.fcg_bytes.specs.Known.{bytes_of}
use Rattle.fcg_bytes.proofs.FileLemmas.{Knows-push}
use Rattle.fcg_bytes.proofs.memory_files.add_once.Goals as goal

pub returns-in_ok-push-clause-known : goal.returns-in_ok-push-clause-known
returns-in_ok-push-clause-known c = λ known.
    rw (c.in_ok-push.ensures.items, map-append (λ p. p.now) c.args.found.now.items (c.args.path ∷ [])) (Knows-push c.args.known.now c.insert.new.self (bytes_of c.args.found.now.items) c.args.path known c.in_ok-insert.ensures.updates.0)
