use Rattle.std.proofs.Common.{◌≡◌, ◌+◌, true, sym, ap, ◌∙◌}
use Rattle.fcg_grammar.proofs.Standing.{part_found}
use Rattle.fcg_class.specs.Path.{is_path_length}
use Rattle.fcg_class.proofs.bundle.read_path.Goals as goal

pub is_path-requires : goal.is_path-requires
is_path-requires c =
    let sized : c.is_path_length.result ≡ true = cc in
    let many = (part_found c.fault_at-2.result c.args.bytes.now (c.args.at + 2) c.from-len.result c.in_ok-path.path.now (sym c.in_ok-path.ensures.value)).1 in
    ap is_path_length many ∙ sym c.is_path_length.ensures ∙ sized
