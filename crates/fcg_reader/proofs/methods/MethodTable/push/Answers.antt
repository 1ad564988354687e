use Rattle.std.proofs.Common.{◌≡◌, ◌+◌, ℕ, List, ◌∷◌, [], ◌++◌, length, refl, ap, sym, subst, ◌∙◌}
use Rattle.std.specs.Prelude.{Ok}
use Rattle.std.proofs.lemmas.List.{length-map, map-append}
use Rattle.fcg_views.specs.declared.view.Method.{Method}
use Rattle.fcg_views.specs.Valid.{site_count}
use Rattle.fcg_classfile.specs.Breaks.Members.{Calls}
use Rattle.fcg_classfile.specs.Breaks.Pool.{Entries, text_of}
use Rattle.fcg_reader.specs.declared.rows.MethodRow.{MethodRow}
use Rattle.fcg_reader.specs.declared.rows.SiteRow.{SiteRow}
use Rattle.fcg_reader.specs.Internal.Rows.{site_in}
use Rattle.fcg_reader.specs.Internal.Calls.{unfinished_in, all_unfinished_in}
use Rattle.fcg_reader.proofs.RowLemmas.{text_known}
use Rattle.fcg_reader.specs.Internal.FirstIndexes.{first_in}
use Rattle.fcg_reader.specs.Internal.Methods.{Table, methods_of, AreSignatures, IsTable}
use Rattle.fcg_reader.proofs.MethodLemmas.{AreSignatures-grown, AllOfTexts-grown, AreSignatures-push, AllOfTexts-push, IsTable-rows, IsTable-same, site_count-push, site_count-few, methods_of-push}
use Rattle.fcg_reader.proofs.methods.MethodTable.push.Goals as goal

pub invariant_of-self-in_err-signature : goal.invariant_of-self-in_err-signature
invariant_of-self-in_err-signature c =
    rw c.reserve.ensures.items (IsTable-rows c.self.inside.methods.items c.self.inside.texts.pool.now c.add_both.new.self.pool.now c.self.inside.texts.known c.add_both.new.self.known c.self.inside.texts.firsts.items c.add_both.new.self.firsts.items c.self.inside.signatures c.self.inside.sites c.add_both.ensures.same c.add_both.ensures.asked c.add_both.ensures.kept c.self.invariant)

pub invariant_of-self-in_err-insert : goal.invariant_of-self-in_err-insert
invariant_of-self-in_err-insert c =
    let grown = IsTable-rows c.self.inside.methods.items c.self.inside.texts.pool.now c.add_both.new.self.pool.now c.self.inside.texts.known c.add_both.new.self.known c.self.inside.texts.firsts.items c.add_both.new.self.firsts.items c.self.inside.signatures c.self.inside.sites c.add_both.ensures.same c.add_both.ensures.asked c.add_both.ensures.kept c.self.invariant in
    rw c.reserve.ensures.items (IsTable-same (all_unfinished_in c.add_both.new.self.pool.now c.self.inside.methods.items) c.add_both.new.self.pool.now c.add_both.new.self.known c.add_both.new.self.firsts.items c.self.inside.signatures c.insert.new.self c.self.inside.sites (λ s. rw c.in_err-insert.ensures.err refl) grown)

pub invariant_of-self-2 : goal.invariant_of-self-2
invariant_of-self-2 c =
    let pool = c.self.inside.texts.pool.now in
    let rows = c.self.inside.methods.items in
    let method = unfinished_in pool c.args.method in
    let before = methods_of (all_unfinished_in pool rows) in
    let known = c.add_both.new.self.known in
    let are = c.add_both.ensures.asked.known_are in
    let pool_is : pool ≡ c.args.self.now.pool = ap (λ (t : Table). t.pool) c.self.view_is in
    let pushed = rw c.unwrap.ensures at c.push.ensures.items in
    let items : c.push.new.self.items ≡ rows ++ c.args.method ∷ [] = pushed ∙ ap (λ (xs : List (MethodRow × Calls)). xs ++ c.args.method ∷ []) c.reserve.ensures.items in
    let many = ap (λ (xs : List SiteRow). length xs) c.as_slice.ensures in
    let size : length c.as_slice.result.now ≡ length method.0.sites = many ∙ sym (length-map c.args.method.0.sites (site_in pool)) in
    let same_count = ap (λ (t : Table). site_count (methods_of t.methods)) c.self.view_is in
    let counted = site_count-push c.self.inside.sites (length c.as_slice.result.now) before method.0 c.self.invariant.counted size in
    let few = site_count-few c.self.inside.sites (length c.as_slice.result.now) before (methods_of c.args.self.now.methods) c.self.invariant.counted same_count (rw many c.requires.few) in
    let pushed_are = sym (methods_of-push (all_unfinished_in pool rows) method) in
    let named = subst (λ (p : Entries). text_of p c.args.name.now.index ≡ Ok c.args.name.now.bytes.now) (sym pool_is) c.requires.name.0 in
    let typed = subst (λ (p : Entries). text_of p c.args.desc.now.index ≡ Ok c.args.desc.now.bytes.now) (sym pool_is) c.requires.desc.0 in
    let at_name = ap (λ (t : List ℕ). first_in known t) (text_known pool c.args.name.now.index c.args.method.0.name c.args.name.now.bytes.now named c.requires.name.1) ∙ c.in_ok-signature.ensures.name in
    let at_desc = ap (λ (t : List ℕ). first_in known t) (text_known pool c.args.desc.now.index c.args.method.0.desc c.args.desc.now.bytes.now typed c.requires.desc.1) ∙ c.in_ok-signature.ensures.desc in
    let grown = AreSignatures-grown c.add_both.new.self.pool.now c.self.inside.texts.known known c.self.inside.signatures before are c.add_both.ensures.kept c.self.invariant.of_texts c.self.invariant.signatures_are in
    let of_grown = AllOfTexts-grown c.self.inside.texts.known known c.self.inside.signatures c.add_both.ensures.kept c.self.invariant.of_texts in
    let signatures : AreSignatures known c.insert.new.self (before ++ method.0 ∷ []) = AreSignatures-push c.add_both.new.self.pool.now known are c.self.inside.signatures c.insert.new.self before c.in_ok-signature.signature.0 c.in_ok-signature.signature.1 method.0 at_name at_desc grown c.in_ok-insert.ensures.updates.0 in
    let table : IsTable (all_unfinished_in pool rows ++ method ∷ []) c.add_both.new.self.pool.now known c.add_both.new.self.firsts.items c.insert.new.self (c.self.inside.sites + length c.as_slice.result.now) = record {
      asked = c.add_both.ensures.asked;
      signatures_are = subst (λ (ms : List Method). AreSignatures known c.insert.new.self ms) pushed_are signatures;
      of_texts = AllOfTexts-push known c.self.inside.signatures c.insert.new.self c.in_ok-signature.signature.0 c.in_ok-signature.signature.1 method.0.name method.0.desc at_name at_desc of_grown c.in_ok-insert.ensures.updates.0;
      counted = counted ∙ ap (λ (ms : List Method). site_count ms) pushed_are;
      few = few;
    } in
    rw (items, c.add_both.ensures.same, map-append (unfinished_in pool) rows (c.args.method ∷ [])) (rw c.add_both.ensures.same at table)
