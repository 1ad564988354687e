use Rattle.std.proofs.Common.{List, ℕ, ◌∷◌, ◌++◌, sym, ap, ◌∙◌, arith}
use Rattle.std.proofs.lemmas.Str.Pattern.{strip_prefix_char}
use Rattle.fcg_bytes.proofs.FileLemmas.{relative-none, relative-of}
use Rattle.fcg_bytes.proofs.memory_files.relative_to.Goals as goal

pub returns-in_err-rest : goal.returns-in_err-rest
returns-in_err-rest c = rw c.from_residual.ensures (sym (relative-none c.args.folder.now c.args.path.now (λ rest e. c.in_err-rest.ensures.cases (47 ∷ rest) e)))

pub returns : goal.returns
returns c =
    let front = c.in_ok-rest.ensures.cases in
    relative-of c.args.folder.now c.args.path.now c.in_ok-rest.rest.now c.strip_prefix-2.result (front.1.1 ∙ ap (λ (r : List ℕ). c.args.folder.now ++ r) (sym front.2)) (strip_prefix_char 47 c.in_ok-rest.rest.now c.strip_prefix-2.result c.strip_prefix-2.ensures.cases (omega arith))
