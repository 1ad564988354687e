-- Records' bodies: what is read is spelled so, and what is spelled so is read.
use Rattle.std.proofs.Common.{◌≡◌, ℕ, ◌+◌, ◌^◌, ◌<◌, ◌≤◌, Bool, true, false, ◌||◌, eqb, List, [], ◌∷◌, ◌++◌, length, drop, refl, sym, ap, subst, ◌∙◌, arith}
use Rattle.std.specs.Prelude.{Ok, Err, Result, IfOk, ◌==◌}
use Rattle.std.proofs.lemmas.Bool.{eqb-true, eq-eqb}
use Rattle.std.proofs.lemmas.List.{append-nil, length-drop, get_or-drop}
use Rattle.std.proofs.Math.ListN.{drop_of_length-le}
use Rattle.fcg_grammar.specs.Spell.{IsBytes, u2, u4}
use Rattle.fcg_grammar.specs.Reading.{unless_broken, Gives}
use Rattle.fcg_grammar.specs.declared.error.ReadError.{ReadError}
use Rattle.fcg_grammar.specs.Number as number
use Rattle.fcg_grammar.proofs.LawLemmas.{bind_ok, kept_ok}
use Rattle.fcg_grammar.proofs.Standing as standing
use Rattle.fcg_grammar.proofs.Standing.{Stands, Stands-then, Stands-to, Stands-back, u1_found, u1_only, u2_found, u2_only, u4_found, u4_only, part_found, part_only, whole_is, is_whole, ok_is}
use Rattle.fcg_views.specs.Coordinate.{IsCoordinate, coordinate_of}
use Rattle.fcg_views.specs.declared.coordinate.CoordinateFault.{CoordinateFault}
use Rattle.fcg_views.specs.declared.view.View.{View}
use Rattle.fcg_views.proofs.CoordinateLaws.{coordinate_found, coordinate_only, read_as_it_is}
use Rattle.fcg_partial.specs.declared.fault.RecordFault.{RecordFault}
use Rattle.fcg_partial.specs.declared.fault.RecordRule.{RecordRule}
use Rattle.fcg_partial.specs.declared.fault.RecordRule.TheVariants.{Magic, Version, Cut, Trailing, Command}
use Rattle.fcg_partial.specs.Graph.{Graph, IsGraph, spelling}
use Rattle.fcg_partial.specs.Views.{shown, graph_of, text_of}
use Rattle.fcg_partial.specs.Reading.{graph_at}
use Rattle.fcg_partial.proofs.GraphLaws.{graph_found}
use Rattle.fcg_partial.proofs.GraphOnly.{graph_only}
use Rattle.fcg_partial.proofs.OneSpelling.{graph_back}
use Rattle.fcg_partial.proofs.ViewLaws.{views_back}
use Rattle.fcg_book.specs.Entries.{LoggedCommand, Imports, Withdraws, coordinate_in, LogEntry}
use Rattle.fcg_book.specs.Spelling.{u8, kind_number, content_text, entry_text, IsContent, IsEntry}
use Rattle.fcg_book.specs.Reading.{u1_at, u2_at, u4_at, u8_at, as_coordinate, as_views, content_at, entry_at}
use Rattle.fcg_book.proofs.NumberLaws.{u8_found, u8_only}

pub rest_are : (bytes : List ℕ) (at : ℕ) → IsBytes bytes → IsBytes (drop at bytes)
rest_are bytes at are i = subst (λ (n : ℕ). n < 256) (sym (get_or-drop at bytes i 0)) (are (at + i))

-- ---- what is read
coordinate_read : (text x : List ℕ) → as_coordinate (coordinate_of text) ≡ Ok x → IsCoordinate text × (x ≡ text)
coordinate_read text x e = by (coordinate_of text) refl e
  where
    by : (r : Result (List ℕ) CoordinateFault) → coordinate_of text ≡ r → as_coordinate r ≡ Ok x → IsCoordinate text × (x ≡ text)
    by (Ok y) is e = (coordinate_found text y is, sym (ok_is y x e) ∙ read_as_it_is text y is)
    by (Err f) is e = absurd cc

views_read : (r : Result Graph RecordFault) (views : List View) → as_views r ≡ Ok views → (g : Graph) × (r ≡ Ok g) × (shown g ≡ views)
views_read (Ok g) views e = (g, refl, ok_is (shown g) views e)
views_read (Err f) views e = absurd cc

-- the kind of a command, by the test on it
abbrev kind_by : Bool → ℕ
kind_by true = 1
kind_by false = 2

two_kinds : (kind : ℕ) (b : Bool) → (kind == 1) ≡ b → (kind == 1 || kind == 2) ≡ true → kind ≡ kind_by b
two_kinds kind true is known = eqb-true kind 1 is
two_kinds kind false is known = eqb-true kind 2 (rw is at known)

record Content (bytes : List ℕ) (b : Bool) (at : ℕ) (coordinate : List ℕ) (command : LoggedCommand) : Type 0 where
  stands : Stands bytes at (content_text command) (length bytes)
  content : IsContent command
  named : coordinate_in command ≡ coordinate
  kind : kind_number command ≡ kind_by b

content_found : (bytes : List ℕ) → IsBytes bytes → (b : Bool) (at : ℕ) (coordinate : List ℕ) (command : LoggedCommand) → at ≤ length bytes → content_at bytes b at coordinate ≡ Ok command → Content bytes b at coordinate command
unfolding text_of
content_found bytes are true at coordinate command inside e =
    let a = bind_ok (as_views (graph_at (drop at bytes))) _ command e in
    let v = views_read (graph_at (drop at bytes)) a.0 a.1 in
    let f = graph_found (drop at bytes) (rest_are bytes at are) v.0 v.1 in
    let back : graph_of (shown v.0) ≡ v.0 = graph_back v.0 f.is in
    let text : spelling (graph_of (shown v.0)) ≡ drop at bytes = ap spelling back ∙ sym f.spelled in
    let made : Content bytes true at coordinate (Imports coordinate (shown v.0)) = record {
      stands = record { within = omega arith; ends = omega (arith, inside, ap length text, length-drop at bytes); same = sym (ap (λ (l : List ℕ). l ++ drop (length bytes) bytes) text ∙ ap (λ (l : List ℕ). drop at bytes ++ l) (drop_of_length-le bytes (omega arith)) ∙ append-nil (drop at bytes)) };
      content = subst IsGraph (sym back) f.is;
      named = refl;
      kind = refl;
    } in
    let is : Imports coordinate (shown v.0) ≡ command = ap (λ (views : List View). Imports coordinate views) v.2 ∙ ok_is (Imports coordinate a.0) command a.2 in
    subst (Content bytes true at coordinate) is made
content_found bytes are false at coordinate command inside e =
    let a = bind_ok (unless_broken (at == length bytes) Trailing) _ command e in
    let end : at ≡ length bytes = eqb-true at (length bytes) (kept_ok _ _ a.0 a.1) in
    let made : Content bytes false at coordinate (Withdraws coordinate) = record {
      stands = record { within = omega arith; ends = omega (arith, end); same = ap (λ (m : ℕ). drop m bytes) end };
      content = tt;
      named = refl;
      kind = refl;
    } in
    subst (Content bytes false at coordinate) (ok_is (Withdraws coordinate) command a.2) made

pub record Found (bytes : List ℕ) (e : LogEntry) : Type 0 where
  pub spelled : bytes ≡ entry_text e
  pub is : IsEntry e

pub entry_found : (bytes : List ℕ) → IsBytes bytes → (e : LogEntry) → entry_at bytes ≡ Ok e → Found bytes e
unfolding entry_at entry_text
entry_found bytes are e read =
    let a = bind_ok (u4_at bytes 0) _ e read in
    let b = bind_ok (unless_broken (a.0 == 0x4643474b) Magic) _ e a.2 in
    let c = bind_ok (u2_at bytes 4) _ e b.2 in
    let d = bind_ok (unless_broken (c.0 == 1) Version) _ e c.2 in
    let r = bind_ok (u8_at bytes 6) _ e d.2 in
    let k = bind_ok (u1_at bytes 14) _ e r.2 in
    let n = bind_ok (unless_broken (k.0 == 1 || k.0 == 2) Command) _ e k.2 in
    let s = bind_ok (u2_at bytes 15) _ e n.2 in
    let t = bind_ok (number.part_at Cut bytes 17 s.0) _ e s.2 in
    let o = bind_ok (as_coordinate (coordinate_of t.0)) _ e t.2 in
    let m = bind_ok (content_at bytes (k.0 == 1) (17 + s.0) o.0) _ e o.2 in
    let made : LogEntry = record { request = r.0; command = m.0 } in
    let first = u4_found Cut bytes 0 a.0 are a.1 in
    let magic : Stands bytes 0 (u4 0x4643474b) 4 = subst (λ (x : ℕ). Stands bytes 0 (u4 x) 4) (eqb-true a.0 0x4643474b (kept_ok _ _ b.0 b.1)) first.0 in
    let second = u2_found Cut bytes 4 c.0 are c.1 in
    let version : Stands bytes 4 (u2 1) 6 = subst (λ (x : ℕ). Stands bytes 4 (u2 x) 6) (eqb-true c.0 1 (kept_ok _ _ d.0 d.1)) second.0 in
    let request = u8_found bytes 6 r.0 are r.1 in
    let kind = u1_found Cut bytes 14 k.0 k.1 in
    let size = u2_found Cut bytes 15 s.0 are s.1 in
    let text = part_found Cut bytes 17 s.0 t.0 t.1 in
    let coordinate = coordinate_read t.0 o.0 o.1 in
    let content = content_found bytes are (k.0 == 1) (17 + s.0) o.0 m.0 (text.0).within m.1 in
    let named : coordinate_in m.0 ≡ t.0 = content.named ∙ coordinate.1 in
    let kinds : k.0 ≡ kind_number m.0 = two_kinds k.0 (k.0 == 1) refl (kept_ok _ _ n.0 n.1) ∙ sym content.kind in
    let size_is : s.0 ≡ length (coordinate_in m.0) = sym text.1 ∙ sym (ap length named) in
    let stands : Stands bytes 0 (entry_text made) (length bytes) =
    Stands-then magic (Stands-then version (Stands-then request.0 (Stands-then
    (subst (λ (x : ℕ). Stands bytes 14 (x ∷ []) 15) kinds kind)
    (Stands-then (subst (λ (x : ℕ). Stands bytes 15 (u2 x) 17) size_is size.0)
    (Stands-then (subst (λ (x : List ℕ). Stands bytes 17 x (17 + s.0)) (sym named) text.0)
    (Stands-then content.stands (standing.Stands-none bytes (length bytes) (omega arith)))))))) in
    subst (Found bytes) (ok_is made e m.2) (record {
      spelled = whole_is bytes (entry_text made) stands;
      is = record { number = request.1; coordinate = subst IsCoordinate (sym named) coordinate.0; content = content.content };
    })

-- ---- what is spelled
content_only : (bytes : List ℕ) → IsBytes bytes → (command : LoggedCommand) (at : ℕ) → IsContent command → Stands bytes at (content_text command ++ []) (length bytes) → content_at bytes (kind_number command == 1) at (coordinate_in command) ≡ Ok command
unfolding text_of
content_only bytes are (Imports coordinate views) at content s =
    let text : drop at bytes ≡ spelling (graph_of views) = s.same ∙ ap (λ (l : List ℕ). (spelling (graph_of views) ++ []) ++ l) (drop_of_length-le bytes (omega arith)) ∙ append-nil (spelling (graph_of views) ++ []) ∙ append-nil (spelling (graph_of views)) in
    rw (graph_only (drop at bytes) (rest_are bytes at are) (graph_of views) content text, views_back views) refl
content_only bytes are (Withdraws coordinate) at content s =
    let end : eqb at (length bytes) ≡ true = eq-eqb at (length bytes) (let e = s.ends in omega arith) in
    rw end refl

pub entry_only : (bytes : List ℕ) → IsBytes bytes → (e : LogEntry) → IsEntry e → bytes ≡ entry_text e → entry_at bytes ≡ Ok e
unfolding entry_at entry_text
entry_only bytes are e is spelled =
    let end = length bytes in
    let c = coordinate_in e.command in
    let r6 = content_text e.command ++ [] in
    let r5 = c ++ r6 in
    let r4 = u2 (length c) ++ r5 in
    let r3 = kind_number e.command ∷ r4 in
    let r2 = u8 e.request ++ r3 in
    let r1 = u2 1 ++ r2 in
    let s : Stands bytes 0 (u4 0x4643474b ++ r1) end = is_whole bytes (entry_text e) spelled in
    let short : length c < 2 ^ 16 = (let h = is.coordinate.short in omega (arith, h)) in
    let a = u4_only Cut bytes 0 0x4643474b r1 end (omega arith) s in
    let b = u2_only Cut bytes 4 1 r2 end (omega arith) a.1 in
    let d = u8_only bytes 6 e.request r3 end is.number b.1 in
    let k = u1_only Cut bytes 14 (kind_number e.command) r4 end d.1 in
    let n = u2_only Cut bytes 15 (length c) r5 end short k.1 in
    let t = part_only Cut bytes 17 c r6 end n.1 in
    let m = content_only bytes are e.command (17 + length c) is.content t.1 in
    rw (a.0, b.0, d.0, k.0, known e.command, n.0, t.0, coordinate_only c is.coordinate, m) refl
  where
    known : (command : LoggedCommand) → (kind_number command == 1 || kind_number command == 2) ≡ true
    known (Imports coordinate views) = refl
    known (Withdraws coordinate) = refl

-- ---- what a reader answers
pub found_of : (bytes : List ℕ) → IsBytes bytes → (result : Result LogEntry (ReadError RecordRule)) → Gives (λ e. e) result (entry_at bytes) → IfOk result (λ e. (bytes ≡ entry_text e) × IsEntry e)
found_of bytes are (Ok e) read = (let f = entry_found bytes are e read in (f.spelled, f.is))
found_of bytes are (Err x) read = tt

pub only_of : (bytes : List ℕ) → IsBytes bytes → (result : Result LogEntry (ReadError RecordRule)) → Gives (λ e. e) result (entry_at bytes) → (e : LogEntry) → IsEntry e → bytes ≡ entry_text e → Gives (λ x. x) result (Ok e)
only_of bytes are result read e is spelled = rw (entry_only bytes are e is spelled) at read
