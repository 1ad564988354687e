use Rattle.std.proofs.Common.{subst}
use Rattle.fcg_json.proofs.Ascii.{Below, uri_ascii}
use Rattle.fcg_json.proofs.row.ascii_uri.Goals as goal

pub ascii_str-requires : goal.ascii_str-requires
ascii_str-requires c =
    uri_ascii c.args.text.now c.args.method.now c.requires
    (subst (Below 256) c.as_slice.ensures c.held-class.ensures.bytes)
    (subst (Below 256) c.as_slice-2.ensures c.held-name.ensures.bytes)
    (subst (Below 256) c.as_slice-3.ensures c.held-desc.ensures.bytes)
