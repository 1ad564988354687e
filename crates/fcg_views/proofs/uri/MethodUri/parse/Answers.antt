use Rattle.std.proofs.Common.{subst}
use Rattle.fcg_grammar.specs.Reading.{Gives}
use Rattle.fcg_views.proofs.UriLaws.{is_found, uri_only}
use Rattle.fcg_views.proofs.uri.MethodUri.parse.Goals as goal

pub returns-clause-found : goal.returns-clause-found
returns-clause-found c = is_found c.args.text.now c.read_uri.result c.read_uri.ensures

pub returns-clause-only : goal.returns-clause-only
returns-clause-only c = λ u names. subst (λ f. Gives (λ v. v) c.read_uri.result f) (uri_only c.args.text.now u names) c.read_uri.ensures
