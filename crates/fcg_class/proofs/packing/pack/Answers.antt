use Rattle.std.proofs.Common.{arith, subst, ◌≡◌, ◌∙◌, List, ℕ}
use Rattle.std.specs.Prelude.{map, Option, None, Err, Ok, IfSome, take}
use Rattle.std.specs.Io.KnownBytes.{Appends}
use Rattle.std.proofs.lemmas.List.{length-map}
use Rattle.std.proofs.lemmas.Result.{err_from_is_err_and}
use Rattle.fcg_bytes.specs.Files.{File, texts}
use Rattle.fcg_class.specs.Pack.{bad_path, entry_in}
use Rattle.fcg_class.specs.declared.packing.PackedFile.{PackedFile}
use Rattle.fcg_class.specs.Internal.Packing.{AreThere, GivesCheck, GivesFiles, entry_of}
use Rattle.fcg_class.proofs.PackLemmas.{list_refused, read_refused, paths_refused, are_packed, entries_few}
use Rattle.fcg_class.proofs.packing.pack.Goals as goal

pub returns-in_err-list-clause-refused : goal.returns-in_err-list-clause-refused
returns-in_err-list-clause-refused g c =
    let p = err_from_is_err_and c.from_residual.result c.from_residual.ensures.1 in
    rw (p.1, p.2) (list_refused (g.F.Files.told c.args.files.now) c.args.folder.now c.in_err-list.field-0.0 c.in_err-list.ensures.answer)

pub returns-in_err-read-clause-refused : goal.returns-in_err-read-clause-refused
returns-in_err-read-clause-refused g c =
    let p = err_from_is_err_and c.from_residual-in_err-read.result c.from_residual-in_err-read.ensures.1 in
    let T = g.F.Files.told c.args.files.now in
    let folder = c.args.folder.now in
    let paths = texts c.choose_paths-paths.result.items in
    let e = c.in_err-read.field-0.0 in
    let given = subst (λ (t : Option (List File)). IfSome t (λ told. AreThere told folder paths → GivesFiles (map (entry_in told folder) paths) (Err e))) c.in_ok-list.ensures.told c.in_err-read.ensures.answer in
    rw (p.1, p.2) (read_refused folder (texts c.in_ok-list.field-0) paths c.choose_paths-paths.ensures T e c.in_ok-list.ensures.answer given)

pub returns-in_err-check_paths-clause-refused : goal.returns-in_err-check_paths-clause-refused
returns-in_err-check_paths-clause-refused g c =
    let p = err_from_is_err_and c.from_residual-in_err-check_paths.result c.from_residual-in_err-check_paths.ensures.1 in
    let T = g.F.Files.told c.args.files.now in
    let folder = c.args.folder.now in
    let paths = texts c.choose_paths-paths.result.items in
    let read = c.in_ok-read.read.items in
    let given = subst (λ (t : Option (List File)). IfSome t (λ told. AreThere told folder paths → GivesFiles (map (entry_in told folder) paths) (Ok (map entry_of read)))) c.in_ok-list.ensures.told c.in_ok-read.ensures.answer in
    let bad = subst (λ (files : List PackedFile). GivesCheck (bad_path (map entry_of files)) (Err c.in_err-check_paths.field-0.0)) c.deref.ensures.value c.in_err-check_paths.ensures in
    rw (p.1, p.2) (paths_refused folder (texts c.in_ok-list.field-0) paths c.choose_paths-paths.ensures T (map entry_of read) c.in_err-check_paths.field-0.0 c.in_ok-list.ensures.answer given c.in_ok-read.ensures.short bad)

pub overflow_cast-count : goal.overflow_cast-count
overflow_cast-count g c = omega (arith, entries_few (map entry_of c.in_ok-read.read.items), c.in_ok-read.ensures.short, c.len-count.ensures, c.in_ok-read.read.ok.0, length-map c.in_ok-read.read.items entry_of)

pub returns-in_err-write_whole-clause-wrote : goal.returns-in_err-write_whole-clause-wrote
returns-in_err-write_whole-clause-wrote g c =
    let p = err_from_is_err_and c.from_residual-in_err-write_whole.result c.from_residual-in_err-write_whole.ensures.1 in
    let T = g.F.Files.told c.args.files.now in
    let folder = c.args.folder.now in
    let paths = texts c.choose_paths-paths.result.items in
    let read = c.in_ok-read.read.items in
    let given = subst (λ (t : Option (List File)). IfSome t (λ told. AreThere told folder paths → GivesFiles (map (entry_in told folder) paths) (Ok (map entry_of read)))) c.in_ok-list.ensures.told c.in_ok-read.ensures.answer in
    let good = subst (λ (files : List PackedFile). bad_path (map entry_of files) ≡ None) c.deref.ensures.value c.in_ok-check_paths.ensures in
    let are = are_packed folder (texts c.in_ok-list.field-0) paths c.choose_paths-paths.ensures T read c.in_ok-read.ensures.paths c.in_ok-list.ensures.answer given c.in_ok-read.ensures.short good in
    let same = c.as_slice.ensures.value ∙ c.in_ok-bundle.ensures in
    rw (p.1, p.2) (map entry_of read, are, subst (λ (bytes : List ℕ). (n : ℕ) × Appends (g.W.Sink.taken c.args.sink.now) (g.W.Sink.taken c.write_whole.new.sink) (take n bytes)) same c.in_err-write_whole.ensures.failed)

pub returns-clause-wrote : goal.returns-clause-wrote
returns-clause-wrote g c =
    let T = g.F.Files.told c.args.files.now in
    let folder = c.args.folder.now in
    let paths = texts c.choose_paths-paths.result.items in
    let read = c.in_ok-read.read.items in
    let given = subst (λ (t : Option (List File)). IfSome t (λ told. AreThere told folder paths → GivesFiles (map (entry_in told folder) paths) (Ok (map entry_of read)))) c.in_ok-list.ensures.told c.in_ok-read.ensures.answer in
    let good = subst (λ (files : List PackedFile). bad_path (map entry_of files) ≡ None) c.deref.ensures.value c.in_ok-check_paths.ensures in
    let are = are_packed folder (texts c.in_ok-list.field-0) paths c.choose_paths-paths.ensures T read c.in_ok-read.ensures.paths c.in_ok-list.ensures.answer given c.in_ok-read.ensures.short good in
    let same = c.as_slice.ensures.value ∙ c.in_ok-bundle.ensures in (
      map entry_of read,
      are,
      omega (arith, c.len-count.ensures, c.in_ok-read.read.ok.0, length-map read entry_of),
      subst (λ (bytes : List ℕ). Appends (g.W.Sink.taken c.args.sink.now) (g.W.Sink.taken c.write_whole.new.sink) bytes) same c.in_ok-write_whole.ensures.ok,
    )
