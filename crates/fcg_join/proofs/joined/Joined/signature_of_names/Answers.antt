use Rattle.std.proofs.Common.{List, sym, ap, subst, ◌∙◌}
use Rattle.std.specs.Prelude.{map}
use Rattle.fcg_grammar.specs.Table.{Rises}
use Rattle.fcg_partial.specs.Parts.{PartShown}
use Rattle.fcg_join.specs.Internal.Signatures.{Pair, row_of_pair}
use Rattle.fcg_join.specs.Internal.Tables.{IsJoined}
use Rattle.fcg_join.proofs.SignatureAnswers.{keys_rise, pair_signature, pair_within}
use Rattle.fcg_join.proofs.joined.Joined.signature_of_names.Goals as goal

pub find_pair-requires-clause-rise : goal.find_pair-requires-clause-rise
find_pair-requires-clause-rise c =
    let j = subst (λ (ps : List PartShown). IsJoined ps c.self.inside.tables) c.self.view_is c.self.invariant in
    subst (λ (ks : List Pair). Rises (map row_of_pair ks)) (sym c.as_slice-keys.ensures.value) (keys_rise c.args.self.now c.self.inside.tables.signatures j.signatures')

pub returns-clause-value : goal.returns-clause-value
returns-clause-value c = λ n d a b. (
    let j = subst (λ (ps : List PartShown). IsJoined ps c.self.inside.tables) c.self.view_is c.self.invariant in
    let e = ap (λ (ks : List Pair). map row_of_pair ks) c.as_slice-keys.ensures.value ∙ j.signatures'.keys_are in
    pair_signature c.args.self.now c.args.name c.args.desc _ e c.find_pair.result c.find_pair.ensures.found c.signature_id.result c.signature_id.ensures c.find_pair.ensures.none n d a b)

pub returns-clause-range : goal.returns-clause-range
returns-clause-range c =
    let j = subst (λ (ps : List PartShown). IsJoined ps c.self.inside.tables) c.self.view_is c.self.invariant in
    let e = ap (λ (ks : List Pair). map row_of_pair ks) c.as_slice-keys.ensures.value ∙ j.signatures'.keys_are in
    pair_within c.args.self.now c.args.name c.args.desc _ e c.find_pair.result c.find_pair.ensures.found c.signature_id.result c.signature_id.ensures
