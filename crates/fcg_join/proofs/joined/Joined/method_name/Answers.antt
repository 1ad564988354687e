use Rattle.std.proofs.Common.{List, sym, subst, ◌∙◌}
use Rattle.fcg_partial.specs.Parts.{PartShown}
use Rattle.fcg_join.specs.Parts.{nodes_of}
use Rattle.fcg_join.specs.Internal.MethodRows.{IsMethodPlace}
use Rattle.fcg_join.proofs.GraphRows.{item}
use Rattle.fcg_join.proofs.joined.Joined.method_name.Goals as goal

pub name_of_method-requires : goal.name_of_method-requires
name_of_method-requires c =
    let n = item (nodes_of c.args.self.now) c.args.m.0 c.requires in
    let e = c.as_slice.ensures ∙ c.parts.ensures in
    (n.0.method, subst (λ (ps : List PartShown). IsMethodPlace ps c.method_place.result n.0.method) (sym e) (c.method_place.ensures n.0 n.1))

pub returns : goal.returns
returns c = λ n h. (
    let e = c.as_slice.ensures ∙ c.parts.ensures in
    c.name_of_method.ensures n.method (subst (λ (ps : List PartShown). IsMethodPlace ps c.method_place.result n.method) (sym e) (c.method_place.ensures n h)))
