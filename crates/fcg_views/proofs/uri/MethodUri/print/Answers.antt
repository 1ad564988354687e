use Rattle.fcg_views.proofs.UriLaws.{is_printed}
use Rattle.fcg_views.proofs.uri.MethodUri.print.Goals as goal

pub returns-clause-spelled : goal.returns-clause-spelled
returns-clause-spelled c = is_printed c.args.self.now c.write_uri.result c.write_uri.ensures.exact c.write_uri.ensures.is
