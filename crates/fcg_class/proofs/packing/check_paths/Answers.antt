use Rattle.std.proofs.Common.{arith, sym, ◌∙◌, not}
use Rattle.std.specs.Prelude.{map}
use Rattle.fcg_class.specs.Path.{is_path}
use Rattle.fcg_class.specs.Internal.Packing.{entry_of}
use Rattle.fcg_class.proofs.PackLemmas.{bad_within, entries_few, position_map}
use Rattle.fcg_class.proofs.packing.check_paths.Goals as goal

pub overflow_cast-result : goal.overflow_cast-result
overflow_cast-result c =
    let es = map entry_of c.args.files.now in
    let bad = position_map (λ e. not (is_path e.path)) entry_of c.args.files.now ∙ sym c.find_bad.ensures ∙ c.in-Some.is in
    let few = bad_within es c.in-Some.entry bad in
    omega (arith, few, entries_few es, c.requires)

pub returns-in-Some : goal.returns-in-Some
returns-in-Some c = position_map (λ e. not (is_path e.path)) entry_of c.args.files.now ∙ sym c.find_bad.ensures ∙ c.in-Some.is

pub returns-in-None : goal.returns-in-None
returns-in-None c = position_map (λ e. not (is_path e.path)) entry_of c.args.files.now ∙ sym c.find_bad.ensures ∙ c.in-None.is
