use Rattle.std.proofs.Common.{◌≡◌, ℕ, ◌<◌, List, length, get_or, sym, ap, subst, ◌∙◌, arith}
use Rattle.std.specs.Prelude.{IfSome}
use Rattle.fcg_analysis.proofs.WinnerLaws.{known_distinct}
use Rattle.fcg_join.specs.declared.heads.TypeHead.{TypeHead}
use Rattle.fcg_join.specs.Parts.{placed, types_of}
use Rattle.fcg_join.specs.SetNames.{set_names}
use Rattle.fcg_join.specs.Internal.TypeHeads.{IsHead}
use Rattle.fcg_join.specs.Internal.TypeNumbers.{AreHeads, FindsHeads}
use Rattle.fcg_join.specs.Internal.Tables.{superclasses_of}
use Rattle.fcg_join.proofs.ZipLaws.{zip_long}
use Rattle.fcg_join.proofs.HeadLaws.{all_used_below}
use Rattle.fcg_join.proofs.JoinLaws.{are_few, few_known, few_set_names}
use Rattle.fcg_join.proofs.JoinedLaws.{gives_object}
use Rattle.fcg_join.proofs.TableAnswers.{many_made, superclasses_made}
use Rattle.fcg_analysis.proofs.NodePlaces.{count_is}
use Rattle.fcg_join.specs.Internal.Nodes.{HaveMethods}
use Rattle.fcg_join.proofs.NodeTableLaws.{few_methods, have_methods}
use Rattle.fcg_join.proofs.tables.make_tables.Goals as goal

pub number_part_names-requires : goal.number_part_names-requires
number_part_names-requires c = (let f = are_few c.args.parts.now in record {
  parts = omega (arith, f.parts_few, c.requires);
  names = omega (arith, f.names_few, c.requires);
})

pub find_known-requires-clause-few : goal.find_known-requires-clause-few
find_known-requires-clause-few c = (let f = are_few c.args.parts.now in omega (arith, f.parts_few, c.requires))

pub find_known-requires-clause-types : goal.find_known-requires-clause-types
find_known-requires-clause-types c = (let f = are_few c.args.parts.now in omega (arith, f.views_few, c.requires))

pub link_types-requires-clause-few : goal.link_types-requires-clause-few
link_types-requires-clause-few c =
    let f = are_few c.args.parts.now in
    let k = few_known (placed c.args.parts.now) in
    let z = zip_long (IsHead c.args.parts.now (set_names c.args.parts.now)) c.in_ok-heads.heads.items (types_of c.args.parts.now) c.in_ok-heads.ensures.value in
    let e = ap (λ hs. length hs) c.as_slice.ensures.value in
    omega (arith, f.views_few, c.requires)

pub find_superclasses-requires-clause-used : goal.find_superclasses-requires-clause-used
find_superclasses-requires-clause-used c =
    let parts = c.args.parts.now in
    let are = subst (λ (hs : List TypeHead). AreHeads parts hs (types_of parts)) (sym c.as_slice-2.ensures.value) c.in_ok-heads.ensures.value in
    let many : length c.as_slice-3.result.now ≡ length (set_names parts) = ap (λ bs. length bs) c.as_slice-3.ensures.value ∙ c.in_ok-linked.ensures.by_name.long in
    λ k d l. subst (λ (m : ℕ). IfSome (get_or c.as_slice-2.result.now k d).superclass (λ n. n < m)) (sym many) (all_used_below parts c.as_slice-2.result.now (types_of parts) are k d l)

pub find_object-object-requires : goal.find_object-object-requires
find_object-object-requires c =
    let f = are_few c.args.parts.now in
    let k = few_known (placed c.args.parts.now) in
    let z = zip_long (IsHead c.args.parts.now (set_names c.args.parts.now)) c.in_ok-heads.heads.items (types_of c.args.parts.now) c.in_ok-heads.ensures.value in
    let e = ap (λ hs. length hs) c.as_slice-4.ensures.value in
    omega (arith, f.views_few, c.requires)

pub returns : goal.returns
returns c =
    let parts = c.args.parts.now in
    let heads = c.in_ok-heads.heads.items in
    let by_name = c.in_ok-linked.linked.by_name.items in
    let d = known_distinct (placed parts) in
    let are : AreHeads parts c.as_slice.result.now (types_of parts) = subst (λ (hs : List TypeHead). AreHeads parts hs (types_of parts)) (sym c.as_slice.ensures.value) c.in_ok-heads.ensures.value in
    let are4 : AreHeads parts c.as_slice-4.result.now (types_of parts) = subst (λ (hs : List TypeHead). AreHeads parts hs (types_of parts)) (sym c.as_slice-4.ensures.value) c.in_ok-heads.ensures.value in
    let f = are_few parts in
    let k = few_known (placed parts) in
    record {
      few = omega (arith, f.views_few, c.requires);
      few_names = (let n = few_set_names parts in omega (arith, f.names_few, c.requires));
      names = c.in_ok-names.ensures;
      heads = c.in_ok-heads.ensures.value;
      first_heads = c.in_ok-heads.ensures.first;
      by_name = subst (λ (hs : List TypeHead). FindsHeads hs by_name (length (set_names parts))) c.as_slice.ensures.value c.in_ok-linked.ensures.by_name;
      links = c.in_ok-linked.ensures.links (types_of parts) are d;
      superclasses = c.in_ok-superclasses.ensures ∙ ap (λ (hs : List TypeHead). superclasses_of hs c.as_slice-3.result.now) c.as_slice-2.ensures.value ∙ ap (superclasses_of heads) c.as_slice-3.ensures.value;
      object' = gives_object parts c.as_slice-4.result.now (types_of parts) are4 d c.find_object-object.result c.find_object-object.ensures.found c.find_object-object.ensures.none;
      apart = c.tell_parts.ensures;
      few_nodes = (let m = few_methods parts in let n = count_is (types_of parts) in omega (arith, c.requires));
      inherited' = c.in_ok-inherited.ensures;
      signatures' = c.in_ok-signatures.ensures;
      nodes' = c.in_ok-nodes.ensures (types_of parts) (subst (λ (hs : List TypeHead). HaveMethods hs (types_of parts)) (sym c.as_slice-5.ensures.value) (have_methods parts heads (types_of parts) c.in_ok-heads.ensures.value));
    }

pub number_nodes-requires-clause-few : goal.number_nodes-requires-clause-few
number_nodes-requires-clause-few c =
    let f = are_few c.args.parts.now in
    let k = few_known (placed c.args.parts.now) in
    let z = zip_long (IsHead c.args.parts.now (set_names c.args.parts.now)) c.in_ok-heads.heads.items (types_of c.args.parts.now) c.in_ok-heads.ensures.value in
    let e = ap (λ hs. length hs) c.as_slice-5.ensures.value in
    omega (arith, f.views_few, c.requires)

pub number_nodes-requires-clause-methods : goal.number_nodes-requires-clause-methods
number_nodes-requires-clause-methods c =
    let parts = c.args.parts.now in
    let m = few_methods parts in
    (types_of parts, subst (λ (hs : List TypeHead). HaveMethods hs (types_of parts)) (sym c.as_slice-5.ensures.value) (have_methods parts c.in_ok-heads.heads.items (types_of parts) c.in_ok-heads.ensures.value), omega (arith, c.requires))

pub find_inherited-requires-clause-few : goal.find_inherited-requires-clause-few
find_inherited-requires-clause-few c =
    let f = are_few c.args.parts.now in
    let k = few_known (placed c.args.parts.now) in
    omega (arith, f.views_few, c.requires)

pub find_inherited-requires-clause-heads : goal.find_inherited-requires-clause-heads
find_inherited-requires-clause-heads c =
    subst (λ (hs : List TypeHead). AreHeads c.args.parts.now hs (types_of c.args.parts.now)) (sym c.as_slice-6.ensures.value) c.in_ok-heads.ensures.value

pub find_inherited-requires-clause-found : goal.find_inherited-requires-clause-found
find_inherited-requires-clause-found c =
    subst (λ (hs : List TypeHead). FindsHeads hs c.in_ok-linked.linked.by_name.items (length (set_names c.args.parts.now))) (c.as_slice.ensures.value ∙ sym c.as_slice-6.ensures.value) c.in_ok-linked.ensures.by_name

pub find_inherited-requires-clause-links : goal.find_inherited-requires-clause-links
find_inherited-requires-clause-links c =
    let parts = c.args.parts.now in
    let are : AreHeads parts c.as_slice.result.now (types_of parts) = subst (λ (hs : List TypeHead). AreHeads parts hs (types_of parts)) (sym c.as_slice.ensures.value) c.in_ok-heads.ensures.value in
    c.in_ok-linked.ensures.links (types_of parts) are (known_distinct (placed parts))

pub find_inherited-requires-clause-few_names : goal.find_inherited-requires-clause-few_names
find_inherited-requires-clause-few_names c =
    let f = are_few c.args.parts.now in
    let n = few_set_names c.args.parts.now in
    omega (arith, f.names_few, c.requires)

made : (c : goal.After-as_slice-7) → c.as_slice-7.result.now ≡ superclasses_of c.in_ok-heads.heads.items c.in_ok-linked.linked.by_name.items
made c =
    c.as_slice-7.ensures.value ∙ c.in_ok-superclasses.ensures ∙ ap (λ (hs : List TypeHead). superclasses_of hs c.as_slice-3.result.now) c.as_slice-2.ensures.value
    ∙ ap (superclasses_of c.in_ok-heads.heads.items) c.as_slice-3.ensures.value

finds : (c : goal.After-as_slice-7) → FindsHeads c.in_ok-heads.heads.items c.in_ok-linked.linked.by_name.items (length (set_names c.args.parts.now))
finds c = subst (λ (hs : List TypeHead). FindsHeads hs c.in_ok-linked.linked.by_name.items (length (set_names c.args.parts.now))) c.as_slice.ensures.value c.in_ok-linked.ensures.by_name

pub find_inherited-requires-clause-many : goal.find_inherited-requires-clause-many
find_inherited-requires-clause-many c = many_made c.args.parts.now c.in_ok-heads.heads.items c.in_ok-linked.linked.by_name.items c.in_ok-heads.ensures.value (finds c) c.as_slice-7.result.now (made c)

pub find_inherited-requires-clause-superclasses : goal.find_inherited-requires-clause-superclasses
find_inherited-requires-clause-superclasses c = superclasses_made c.args.parts.now c.in_ok-heads.heads.items c.in_ok-linked.linked.by_name.items c.in_ok-heads.ensures.value (finds c) c.as_slice-7.result.now (made c)

pub number_signatures-requires-clause-heads : goal.number_signatures-requires-clause-heads
number_signatures-requires-clause-heads c =
    subst (λ (hs : List TypeHead). AreHeads c.args.parts.now hs (types_of c.args.parts.now)) (sym c.as_slice-8.ensures.value) c.in_ok-heads.ensures.value

pub number_signatures-requires-clause-nodes : goal.number_signatures-requires-clause-nodes
number_signatures-requires-clause-nodes c =
    let parts = c.args.parts.now in
    c.in_ok-nodes.ensures (types_of parts) (subst (λ (hs : List TypeHead). HaveMethods hs (types_of parts)) (sym c.as_slice-5.ensures.value) (have_methods parts c.in_ok-heads.heads.items (types_of parts) c.in_ok-heads.ensures.value))

pub number_signatures-requires-clause-few : goal.number_signatures-requires-clause-few
number_signatures-requires-clause-few c =
    let m = few_methods c.args.parts.now in
    let n = count_is (types_of c.args.parts.now) in
    omega (arith, c.requires)
