use Rattle.std.proofs.Common.{ap, subst, arith, ◌∙◌, List, [], ◌∷◌, ◌≡◌, ◌+◌, ◌++◌, length, refl}
use Rattle.std.specs.Prelude.{map, String, string_bytes, Option, Err, Ok, ℕ}
use Rattle.std.proofs.lemmas.Result.{err_from_is_err_and}
use Rattle.std.specs.Vec.Iter.{into_iter_items}
use Rattle.fcg_bytes.specs.Files.{File, texts}
use Rattle.fcg_class.specs.Internal.Packing.{bundle_size, entry_of, entry_size}
use Rattle.fcg_class.specs.declared.packing.PackedFile.{PackedFile}
use Rattle.fcg_grammar.proofs.Among.{map_append}
use Rattle.fcg_class.proofs.PackLemmas.{ReadSoFar, Reads, read_begins, read_goes_on, read_stops, paths_more, size_more}
use Rattle.fcg_class.proofs.packing.read_files.Goals as goal

pub loop-path-init : goal.loop-path-init
loop-path-init g c =
    let none = c.new-read.ensures.items in
    let all = c.into_iter-path-iterator.ensures.into_iter_gives.0 in (
      omega (arith, c.into_iter-path-iterator.ensures.into_iter_gives.1, ap length all),
      rw (none, all) refl,
      rw none refl,
      omega arith,
      omega arith,
      refl,
      rw (none, all) (read_begins (g.F.Files.told c.args.files.now) c.args.folder.now (texts c.args.paths.items)),
    )

pub returns-in_err-file-clause-answer : goal.returns-in_err-file-clause-answer
returns-in_err-file-clause-answer g c =
    let p = err_from_is_err_and c.from_residual.result c.from_residual.ensures.1 in
    let so_far = c.loop-path.invariant in
    let next = c.in-Some.ensures.steps.0 in
    let T = g.F.Files.told c.args.files.now in
    let path = string_bytes c.in-Some.path in
    let e = c.in_err-file.field-0.0 in
    let reads : Reads T c.args.folder.now path (bundle_size (map entry_of c.loop-path.read.items)) (Err e) =
    subst (λ (n : ℕ). Reads T c.args.folder.now path n (Err e)) so_far.2 (subst (λ (t : Option (List File)). Reads t c.args.folder.now path c.loop-path.size (Err e)) so_far.5 c.in_err-file.ensures.answer) in
    let before : ReadSoFar T c.args.folder.now (map entry_of c.loop-path.read.items) (path ∷ texts (into_iter_items c.next.new.self)) (texts c.args.paths.items) =
    subst (λ (l : List (String _)). ReadSoFar T c.args.folder.now (map entry_of c.loop-path.read.items) (texts l) (texts c.args.paths.items)) next so_far.6 in
    rw (p.1, p.2) (read_stops T c.args.folder.now (map entry_of c.loop-path.read.items) path (texts (into_iter_items c.next.new.self)) (texts c.args.paths.items) e before reads)

pub loop-path-preserved : goal.loop-path-preserved
loop-path-preserved g c =
    let so_far = c.loop-path.invariant in
    let next = c.in-Some.ensures.steps in
    let T = g.F.Files.told c.args.files.now in
    let path = string_bytes c.in-Some.path in
    let f = c.in_ok-file.file in
    let reads : Reads T c.args.folder.now path c.loop-path.size (Ok f) =
    subst (λ (t : Option (List File)). Reads t c.args.folder.now path c.loop-path.size (Ok f)) so_far.5 c.in_ok-file.ensures.answer in
    let before : ReadSoFar T c.args.folder.now (map entry_of c.loop-path.read.items) (path ∷ texts (into_iter_items c.next.new.self)) (texts c.args.paths.items) =
    subst (λ (l : List (String _)). ReadSoFar T c.args.folder.now (map entry_of c.loop-path.read.items) (texts l) (texts c.args.paths.items)) next.0 so_far.6 in
    let pushed = c.in_ok-push.ensures.items in
    let size = c.size_with-size.ensures in
    let rest = into_iter_items c.next.new.self in
    let paths_before : map (λ (x : PackedFile). string_bytes x.path) c.loop-path.read.items ++ texts (c.in-Some.path ∷ rest) ≡ texts c.args.paths.items =
    subst (λ (l : List (String _)). map (λ (x : PackedFile). string_bytes x.path) c.loop-path.read.items ++ texts l ≡ texts c.args.paths.items) next.0 so_far.1 in (
      omega (arith, next.1, so_far.0, ap length next.0),
      rw pushed (paths_more c.loop-path.read.items f c.in-Some.path rest (texts c.args.paths.items) c.in_ok-file.ensures.path paths_before),
      rw pushed (size ∙ ap (λ (n : ℕ). n + entry_size (entry_of f)) so_far.2 ∙ size_more c.loop-path.read.items f),
      omega (arith, size, c.in_ok-file.ensures.short),
      omega (arith, so_far.4, c.in_ok-file.ensures.later),
      c.in_ok-file.ensures.told ∙ so_far.5,
      rw (pushed, map_append entry_of c.loop-path.read.items (f ∷ [])) (read_goes_on T c.args.folder.now (map entry_of c.loop-path.read.items) path (texts rest) (texts c.args.paths.items) c.loop-path.size f before reads),
    )
