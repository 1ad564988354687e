use Rattle.std.proofs.Common.{◌≡◌, ℕ, true, subst, sym, ◌∙◌}
use Rattle.std.specs.Prelude.{Ok}
use Rattle.fcg_views.specs.declared.view.Ref.{Ref}
use Rattle.fcg_views.specs.DescriptorSteps.{is_descriptor}
use Rattle.fcg_classfile.specs.ClassFile.{is_one_of}
use Rattle.fcg_classfile.specs.Breaks.Code.{member_of}
use Rattle.fcg_pool.specs.CodeValues.{reference_texts}
use Rattle.fcg_reader.specs.Internal.Sites.{ref_of}
use Rattle.fcg_reader.proofs.MemberLemmas.{member_again}
use Rattle.fcg_reader.proofs.site.read_method.Goals as goal

pub keep_method-requires : goal.keep_method-requires
keep_method-requires c tags at one =
    let pool = c.args.names.now in
    let member = c.in_ok-member.member in
    let tagged = subst (λ (tag : ℕ). is_one_of tags tag ≡ true) (sym c.method_tag.ensures ∙ c.if-method_tag-member.true) one in
    let found = member_again pool is_descriptor c.args.tags.now tags c.args.at at c.args.index (reference_texts member) (ref_of member) c.in_ok-member.ensures.found tagged (sym c.in_ok-member.ensures.value) in
    let row = c.row_of-row.ensures pool c.in_ok-member.ensures.named in
    rw c.in_ok-member.ensures.same (subst (λ (r : Ref). member_of pool is_descriptor tags at c.args.index ≡ Ok r) (sym row) found)
