-- The items of a row that was read, each with its number.
use Rattle.std.proofs.Common.{◌≡◌, ℕ, zero, suc, ◌+◌, ◌*◌, ◌≤◌, Bool, true, false, not, ltb, cond, List, [], ◌∷◌, ◌++◌, length, get_or, sym, ap, subst, ◌∙◌, arith}
use Rattle.std.specs.Prelude.{Result, Ok, Option, Some, None, slice_get, ◌==◌, nat_eq}
use Rattle.std.specs.List.{list_any}
use Rattle.std.specs.Cmp.Lexicographic.{pointwise}
use Rattle.std.proofs.lemmas.Bool.{ltb-false}
use Rattle.fcg_grammar.specs.Number as number
use Rattle.fcg_grammar.specs.Reading.{unless_broken}
use Rattle.fcg_grammar.specs.Rows.{rows}
use Rattle.fcg_grammar.proofs.LawLemmas.{bind_ok}
use Rattle.fcg_grammar.proofs.Standing.{guard_ok, ok_is}
use Rattle.fcg_views.specs.declared.view.SiteKind.{SiteKind}
use Rattle.fcg_partial.specs.declared.fault.RecordFault.{RecordFault}
use Rattle.fcg_partial.specs.declared.fault.RecordRule.TheVariants.{Cut, Order, Index, Kind, DoubleMethod, ManySites}
use Rattle.fcg_partial.specs.Fault.{fault, u1_at, u2_at, u4_at}
use Rattle.fcg_partial.specs.Graph.{StoredType, StoredField, StoredMethod, StoredSite, number_at}
use Rattle.fcg_partial.specs.Reading.{TablePlace, Earlier, is_above, index_at, flag_at, ref_at, kind_of, known_kind, kind_at, site_at, field_at, interface_at, some_index, super_at, method_at, type_at}
use Rattle.fcg_partial.proofs.IndexLaws.{rows_many}
use Rattle.fcg_partial.specs.Internal.StandingRows.{super_of, IsTypeAt, IsFieldAt, IsMethodAt, IsSiteAt, IsRefAt}

pub inside_u1 : (bytes : List ℕ) (at n : ℕ) → u1_at bytes at ≡ Ok n → at ≤ length bytes
unfolding number.u1_at
inside_u1 bytes at n e =
    let g = guard_ok (ltb (length bytes) (at + 1)) (fault at Cut) (get_or bytes at 0) n e in
    let long : at + 1 ≤ length bytes = ltb-false _ _ g.0 in
    omega arith

pub inside_u2 : (bytes : List ℕ) (at n : ℕ) → u2_at bytes at ≡ Ok n → at ≤ length bytes
unfolding number.u2_at
inside_u2 bytes at n e =
    let g = guard_ok (ltb (length bytes) (at + 2)) (fault at Cut) (number.u2 bytes at) n e in
    let long : at + 2 ≤ length bytes = ltb-false _ _ g.0 in
    omega arith

pub inside_u4 : (bytes : List ℕ) (at n : ℕ) → u4_at bytes at ≡ Ok n → at ≤ length bytes
unfolding number.u4_at
inside_u4 bytes at n e =
    let g = guard_ok (ltb (length bytes) (at + 4)) (fault at Cut) (number.u4 bytes at) n e in
    let long : at + 4 ≤ length bytes = ltb-false _ _ g.0 in
    omega arith

-- a number of a table is the number that stands there
pub index_number : (bytes : List ℕ) (n at k : ℕ) → index_at bytes n at ≡ Ok k → u4_at bytes at ≡ Ok k
unfolding index_at
index_number bytes n at k e =
    let a = bind_ok (u4_at bytes at) _ k e in
    let b = bind_ok (unless_broken (ltb a.0 n) (fault at Index)) _ k a.2 in
    a.1 ∙ ap (λ (m : ℕ). Ok m) (ok_is a.0 k b.2)

flag_number : (bytes : List ℕ) (at k : ℕ) → flag_at bytes at ≡ Ok k → u1_at bytes at ≡ Ok k
unfolding flag_at
flag_number bytes at k e =
    let a = bind_ok (u1_at bytes at) _ k e in
    let b = bind_ok (unless_broken (ltb a.0 2) (fault at Kind)) _ k a.2 in
    a.1 ∙ ap (λ (m : ℕ). Ok m) (ok_is a.0 k b.2)

regroup : (b c d : ℕ) → b + c + c * d ≡ b + c * suc d
regroup b c d = omega arith

-- a row after a row of some size
moved : (a b c d : ℕ) → a ≡ b + c → a + c * d ≡ b + c * suc d
moved a b c d e = rw e (regroup b c d)

module _ {X S : Type 0} (read : ℕ → S → Result (X × S) RecordFault) (place : S → ℕ) (size : ℕ) (step : (k : ℕ) (s : S) (x : X × S) → read k s ≡ Ok x → place x.1 ≡ place s + size) where
  -- the row of a number, of rows of one size
  pub record NthRow (at : ℕ) (x : X) : Type 0 where
    pub number : ℕ
    pub state : S
    pub next : S
    pub at_is : place state ≡ at
    pub read_is : read number state ≡ Ok (x, next)

  pub nth_row : (n k : ℕ) (s : S) (y : List X × S) → rows read n k s ≡ Ok y → (j : ℕ) (x : X) → slice_get y.0 j ≡ Some x → NthRow (place s + size * j) x
  nth_row zero k s y e j x h =
      let none : slice_get [] j ≡ Some x = subst (λ (z : List X × S). slice_get z.0 j ≡ Some x) (sym (ok_is ([], s) y e)) h in
      absurd (no_row j none)
    where
      no_row : (j : ℕ) → slice_get [] j ≡ Some x → ⊥
      no_row zero e = cc
      no_row (suc j) e = cc
  nth_row (suc n) k s y e j x h =
      let a = bind_ok (read k s) _ y e in
      let b = bind_ok (rows read n (k + 1) a.0.1) _ y a.2 in
      let made : List X × S = (a.0.0 ∷ b.0.0, b.0.1) in
      let here : slice_get (a.0.0 ∷ b.0.0) j ≡ Some x = subst (λ (z : List X × S). slice_get z.0 j ≡ Some x) (sym (ok_is made y b.2)) h in
      by_place k s a.0.0 a.0.1 b.0.0 a.1 (λ i. nth_row n (k + 1) a.0.1 b.0 b.1 i x) j here
    where
      by_place : (k : ℕ) (s : S) (first : X) (next : S) (others : List X) → read k s ≡ Ok (first, next) → ((i : ℕ) → slice_get others i ≡ Some x → NthRow (place next + size * i) x) → (j : ℕ) → slice_get (first ∷ others) j ≡ Some x → NthRow (place s + size * j) x
      by_place k s first next others e later zero h =
          let same : first ≡ x = cc in
          record { number = k; state = s; next = next; at_is = omega arith; read_is = e ∙ ap (λ (z : X). Ok (z, next)) same }
      by_place k s first next others e later (suc j) h =
          let m = later j h in
          let at = step k s (first, next) e in
          record { number = m.number; state = m.state; next = m.next; at_is = m.at_is ∙ moved (place next) (place s) size j at; read_is = m.read_is }

  pub last_row : (n k : ℕ) (s : S) (y : List X × S) → rows read n k s ≡ Ok y → place y.1 ≡ place s + size * n
  last_row zero k s y e = ap (λ (z : List X × S). place z.1) (sym (ok_is ([], s) y e)) ∙ none (place s) size
    where
      none : (a c : ℕ) → a ≡ a + c * 0
      none a c = omega arith
  last_row (suc n) k s y e =
      let a = bind_ok (read k s) _ y e in
      let b = bind_ok (rows read n (k + 1) a.0.1) _ y a.2 in
      let made : List X × S = (a.0.0 ∷ b.0.0, b.0.1) in
      let at = step k s a.0 a.1 in
      ap (λ (z : List X × S). place z.1) (sym (ok_is made y b.2)) ∙ last_row n (k + 1) a.0.1 b.0 b.1 ∙ moved (place a.0.1) (place s) size n at

module _ (bytes : List ℕ) where
  -- ---- fields
  pub record FieldParts (at : ℕ) (f : StoredField) : Type 0 where
    pub name : u4_at bytes at ≡ Ok f.name
    pub desc : u4_at bytes (at + 4) ≡ Ok f.desc
    pub flags : u2_at bytes (at + 8) ≡ Ok f.flags

  pub field_parts : (at : ℕ) (f : StoredField) → IsFieldAt bytes at f → FieldParts at f
  unfolding field_at
  field_parts at f h =
      let y : StoredField × ℕ = (f, h.next) in
      let a = bind_ok (index_at bytes h.names at) _ y h.read in
      let b = bind_ok (index_at bytes h.names (at + 4)) _ y a.2 in
      let c = bind_ok (u2_at bytes (at + 4 + 4)) _ y b.2 in
      let made : StoredField × ℕ = (record { name = a.0; desc = b.0; flags = c.0 }, at + 4 + 4 + 2) in
      let eight : at + 4 + 4 ≡ at + 8 = omega arith in
      subst (λ (z : StoredField × ℕ). FieldParts at z.0) (ok_is made y c.2) (record {
        name = index_number bytes h.names at a.0 a.1;
        desc = index_number bytes h.names (at + 4) b.0 b.1;
        flags = subst (λ (n : ℕ). u2_at bytes n ≡ Ok c.0) eight c.1;
      })

  field_step : (names k at : ℕ) (x : StoredField × ℕ) → field_at bytes names k at ≡ Ok x → x.1 ≡ at + 10
  unfolding field_at
  field_step names k at x e =
      let a = bind_ok (index_at bytes names at) _ x e in
      let b = bind_ok (index_at bytes names (at + 4)) _ x a.2 in
      let c = bind_ok (u2_at bytes (at + 4 + 4)) _ x b.2 in
      let made : StoredField × ℕ = (record { name = a.0; desc = b.0; flags = c.0 }, at + 4 + 4 + 2) in
      let ten : at + 4 + 4 + 2 ≡ at + 10 = omega arith in
      ap (λ (z : StoredField × ℕ). z.1) (sym (ok_is made x c.2)) ∙ ten

  -- ---- interfaces
  interface_step : (names k at : ℕ) (x : ℕ × ℕ) → interface_at bytes names k at ≡ Ok x → x.1 ≡ at + 4
  unfolding interface_at
  interface_step names k at x e =
      let a = bind_ok (index_at bytes names at) _ x e in
      let made : ℕ × ℕ = (a.0, at + 4) in
      ap (λ (z : ℕ × ℕ). z.1) (sym (ok_is made x a.2))

  interface_number : (names k at n next : ℕ) → interface_at bytes names k at ≡ Ok (n, next) → u4_at bytes at ≡ Ok n
  unfolding interface_at
  interface_number names k at n next e =
      let y : ℕ × ℕ = (n, next) in
      let a = bind_ok (index_at bytes names at) _ y e in
      let made : ℕ × ℕ = (a.0, at + 4) in
      index_number bytes names at a.0 a.1 ∙ ap (λ (z : ℕ × ℕ). Ok z.0) (ok_is made y a.2)

  -- ---- sites
  pub record SiteParts (at : ℕ) (s : StoredSite) : Type 0 where
    pub pc : u2_at bytes at ≡ Ok s.pc
    pub byte : ℕ
    pub byte_is : u1_at bytes (at + 2) ≡ Ok byte
    pub kind : kind_of byte ≡ Some s.kind
    pub reference : u4_at bytes (at + 3) ≡ Ok s.reference

  some_kind : (at : ℕ) (o : Option SiteKind) (k : SiteKind) → known_kind at o ≡ Ok k → o ≡ Some k
  some_kind at None k e = absurd cc
  some_kind at (Some j) k e = let same : j ≡ k = cc in ap (λ (i : SiteKind). Some i) same

  pub site_parts : (at : ℕ) (s : StoredSite) → IsSiteAt bytes at s → SiteParts at s
  unfolding site_at
  site_parts at s h =
      let y : StoredSite × ℕ = (s, h.next) in
      let a = bind_ok (u2_at bytes at) _ y h.read in
      let k = bind_ok (kind_at bytes (at + 2)) _ y a.2 in
      let b = bind_ok (u1_at bytes (at + 2)) _ k.0 k.1 in
      let d = bind_ok (index_at bytes h.refs (at + 2 + 1)) _ y k.2 in
      let made : StoredSite × ℕ = (record { pc = a.0; kind = k.0; reference = d.0 }, at + 2 + 1 + 4) in
      let three : at + 2 + 1 ≡ at + 3 = omega arith in
      subst (λ (z : StoredSite × ℕ). SiteParts at z.0) (ok_is made y d.2) (record {
        pc = a.1;
        byte = b.0;
        byte_is = b.1;
        kind = some_kind (at + 2) (kind_of b.0) k.0 b.2;
        reference = subst (λ (n : ℕ). u4_at bytes n ≡ Ok d.0) three (index_number bytes h.refs (at + 2 + 1) d.0 d.1);
      })

  site_step : (refs k at : ℕ) (x : StoredSite × ℕ) → site_at bytes refs k at ≡ Ok x → x.1 ≡ at + 7
  unfolding site_at
  site_step refs k at x e =
      let a = bind_ok (u2_at bytes at) _ x e in
      let c = bind_ok (kind_at bytes (at + 2)) _ x a.2 in
      let d = bind_ok (index_at bytes refs (at + 2 + 1)) _ x c.2 in
      let made : StoredSite × ℕ = (record { pc = a.0; kind = c.0; reference = d.0 }, at + 2 + 1 + 4) in
      let seven : at + 2 + 1 + 4 ≡ at + 7 = omega arith in
      ap (λ (z : StoredSite × ℕ). z.1) (sym (ok_is made x d.2)) ∙ seven

  -- ---- references
  pub record RefParts (at : ℕ) (row : List ℕ) : Type 0 where
    pub owner : u4_at bytes at ≡ Ok (number_at 0 row)
    pub interface : u1_at bytes (at + 4) ≡ Ok (number_at 1 row)
    pub name : u4_at bytes (at + 5) ≡ Ok (number_at 2 row)
    pub desc : u4_at bytes (at + 9) ≡ Ok (number_at 3 row)

  ref_parts_at : (names k : ℕ) (s next : TablePlace) (row : List ℕ) → ref_at bytes names k s ≡ Ok (row, next) → RefParts s.at row × (next.at ≡ s.at + 13)
  unfolding ref_at
  ref_parts_at names k s next row e =
      let y : List ℕ × TablePlace = (row, next) in
      let a = bind_ok (index_at bytes names s.at) _ y e in
      let b = bind_ok (flag_at bytes (s.at + 4)) _ y a.2 in
      let c = bind_ok (index_at bytes names (s.at + 4 + 1)) _ y b.2 in
      let d = bind_ok (index_at bytes names (s.at + 4 + 1 + 4)) _ y c.2 in
      let made_row : List ℕ = a.0 ∷ b.0 ∷ c.0 ∷ d.0 ∷ [] in
      let f = bind_ok (unless_broken (is_above s.last made_row) (fault s.at Order)) _ y d.2 in
      let made : List ℕ × TablePlace = (made_row, record { at = s.at + 4 + 1 + 4 + 4; last = Some made_row }) in
      let same = ok_is made y f.2 in
      let five : s.at + 4 + 1 ≡ s.at + 5 = omega arith in
      let nine : s.at + 4 + 1 + 4 ≡ s.at + 9 = omega arith in
      let all : s.at + 4 + 1 + 4 + 4 ≡ s.at + 13 = omega arith in (
        subst (λ (z : List ℕ × TablePlace). RefParts s.at z.0) same (record {
          owner = index_number bytes names s.at a.0 a.1;
          interface = flag_number bytes (s.at + 4) b.0 b.1;
          name = subst (λ (n : ℕ). u4_at bytes n ≡ Ok c.0) five (index_number bytes names (s.at + 4 + 1) c.0 c.1);
          desc = subst (λ (n : ℕ). u4_at bytes n ≡ Ok d.0) nine (index_number bytes names (s.at + 4 + 1 + 4) d.0 d.1);
        }),
        ap (λ (z : List ℕ × TablePlace). z.1.at) (sym same) ∙ all,
      )

  pub ref_parts : (at : ℕ) (row : List ℕ) → IsRefAt bytes at row → RefParts at row
  ref_parts at row h = subst (λ (n : ℕ). RefParts n row) h.at_is (ref_parts_at h.names h.number h.state h.next row h.read).0

  pub ref_step : (names k : ℕ) (s : TablePlace) (x : List ℕ × TablePlace) → ref_at bytes names k s ≡ Ok x → x.1.at ≡ s.at + 13
  ref_step names k s x e = (ref_parts_at names k s x.1 x.0 e).1

  -- ---- methods
  pub record MethodParts (at : ℕ) (m : StoredMethod) : Type 0 where
    pub name : u4_at bytes at ≡ Ok m.name
    pub desc : u4_at bytes (at + 4) ≡ Ok m.desc
    pub flags : u2_at bytes (at + 8) ≡ Ok m.flags
    pub count : u4_at bytes (at + 10) ≡ Ok (length m.sites)
    pub site : (s : ℕ) (x : StoredSite) → slice_get m.sites s ≡ Some x → IsSiteAt bytes (at + 14 + 7 * s) x

  method_parts_at : (names refs k : ℕ) (s next : Earlier) (m : StoredMethod) → method_at bytes names refs k s ≡ Ok (m, next) → MethodParts s.at m
  unfolding method_at
  method_parts_at names refs k s next m e =
      let y : StoredMethod × Earlier = (m, next) in
      let a = bind_ok (index_at bytes names s.at) _ y e in
      let b = bind_ok (index_at bytes names (s.at + 4)) _ y a.2 in
      let c = bind_ok (unless_broken (not (list_any (pointwise nat_eq (a.0 ∷ b.0 ∷ [])) s.keys)) (fault s.at DoubleMethod)) _ y b.2 in
      let d = bind_ok (u2_at bytes (s.at + 4 + 4)) _ y c.2 in
      let f = bind_ok (u4_at bytes (s.at + 4 + 4 + 2)) _ y d.2 in
      let g = bind_ok (unless_broken (ltb (s.sites + f.0) 1000001) (fault (s.at + 4 + 4 + 2) ManySites)) _ y f.2 in
      let h = bind_ok (rows (site_at bytes refs) f.0 0 (s.at + 4 + 4 + 2 + 4)) _ y g.2 in
      let row : StoredMethod = record { name = a.0; desc = b.0; flags = d.0; sites = h.0.0 } in
      let made : StoredMethod × Earlier = (row, record { at = h.0.1; keys = s.keys ++ (a.0 ∷ b.0 ∷ []) ∷ []; sites = s.sites + f.0 }) in
      let eight : s.at + 4 + 4 ≡ s.at + 8 = omega arith in
      let ten : s.at + 4 + 4 + 2 ≡ s.at + 10 = omega arith in
      let start : s.at + 4 + 4 + 2 + 4 ≡ s.at + 14 = omega arith in
      let many = rows_many (site_at bytes refs) f.0 0 (s.at + 4 + 4 + 2 + 4) h.0 h.1 in
      subst (λ (z : StoredMethod × Earlier). MethodParts s.at z.0) (ok_is made y h.2) (record {
        name = index_number bytes names s.at a.0 a.1;
        desc = index_number bytes names (s.at + 4) b.0 b.1;
        flags = subst (λ (n : ℕ). u2_at bytes n ≡ Ok d.0) eight d.1;
        count = subst (λ (n : ℕ). u4_at bytes n ≡ Ok (length h.0.0)) ten (f.1 ∙ ap (λ (n : ℕ). Ok n) (sym many));
        site = λ j x is. (
            let r = nth_row (site_at bytes refs) (λ (n : ℕ). n) 7 (site_step refs) f.0 0 (s.at + 4 + 4 + 2 + 4) h.0 h.1 j x is in
            let there : r.state ≡ s.at + 14 + 7 * j = r.at_is ∙ ap (λ (n : ℕ). n + 7 * j) start in
            record { refs = refs; number = r.number; next = r.next; read = subst (λ (n : ℕ). site_at bytes refs r.number n ≡ Ok (x, r.next)) there r.read_is });
      })

  pub method_parts : (at : ℕ) (m : StoredMethod) → IsMethodAt bytes at m → MethodParts at m
  method_parts at m h = subst (λ (n : ℕ). MethodParts n m) h.at_is (method_parts_at h.names h.refs h.number h.state h.next m h.read)

  -- ---- types
  super_number_is : (names at : ℕ) (x : Option ℕ) → super_at bytes names at ≡ Ok x → (n : ℕ) × (u4_at bytes at ≡ Ok n) × (x ≡ super_of n)
  unfolding super_at
  super_number_is names at x e =
      let a = bind_ok (u4_at bytes at) _ x e in
      (a.0, a.1, by_test a.0 (a.0 == 0xffffffff) a.1 a.2)
    where
      by_test : (n : ℕ) (t : Bool) → u4_at bytes at ≡ Ok n → some_index bytes names at t ≡ Ok x → x ≡ cond t None (Some n)
      by_test n true is h = sym (ok_is None x h)
      by_test n false is h =
          let b = bind_ok (index_at bytes names at) _ x h in
          let same = ok_is n b.0 (sym is ∙ index_number bytes names at b.0 b.1) in
          sym (ok_is (Some b.0) x b.2) ∙ ap (λ (m : ℕ). Some m) (sym same)

  pub record TypeParts (at : ℕ) (t : StoredType) : Type 0 where
    pub name : u4_at bytes at ≡ Ok t.name
    pub flags : u2_at bytes (at + 4) ≡ Ok t.flags
    pub super : (n : ℕ) × (u4_at bytes (at + 6) ≡ Ok n) × (t.superclass ≡ super_of n)
    pub interfaces : u2_at bytes (at + 10) ≡ Ok (length t.interfaces)
    pub interface : (j n : ℕ) → slice_get t.interfaces j ≡ Some n → u4_at bytes (at + 12 + 4 * j) ≡ Ok n
    pub fields : u2_at bytes (at + 12 + 4 * length t.interfaces) ≡ Ok (length t.fields)
    pub field : (j : ℕ) (f : StoredField) → slice_get t.fields j ≡ Some f → IsFieldAt bytes (at + 12 + 4 * length t.interfaces + 2 + 10 * j) f
    pub methods : u2_at bytes (at + 12 + 4 * length t.interfaces + 2 + 10 * length t.fields) ≡ Ok (length t.methods)

  pub type_parts : (at : ℕ) (t : StoredType) → IsTypeAt bytes at t → TypeParts at t
  unfolding type_at
  type_parts at t is =
      let n = is.names in
      let r = is.refs in
      let y : StoredType × ℕ = (t, is.next) in
      let a = bind_ok (index_at bytes n at) _ y is.read in
      let b = bind_ok (u2_at bytes (at + 4)) _ y a.2 in
      let c = bind_ok (super_at bytes n (at + 4 + 2)) _ y b.2 in
      let d = bind_ok (u2_at bytes (at + 4 + 2 + 4)) _ y c.2 in
      let f = bind_ok (rows (interface_at bytes n) d.0 0 (at + 4 + 2 + 4 + 2)) _ y d.2 in
      let g = bind_ok (u2_at bytes f.0.1) _ y f.2 in
      let h = bind_ok (rows (field_at bytes n) g.0 0 (f.0.1 + 2)) _ y g.2 in
      let i = bind_ok (u2_at bytes h.0.1) _ y h.2 in
      let begin : Earlier = record { at = h.0.1 + 2; keys = []; sites = 0 } in
      let j = bind_ok (rows (method_at bytes n r) i.0 0 begin) _ y i.2 in
      let made : StoredType × ℕ = (record { name = a.0; flags = b.0; superclass = c.0; interfaces = f.0.0; fields = h.0.0; methods = j.0.0 }, j.0.1.at) in
      let six : at + 4 + 2 ≡ at + 6 = omega arith in
      let ten : at + 4 + 2 + 4 ≡ at + 10 = omega arith in
      let twelve : at + 4 + 2 + 4 + 2 ≡ at + 12 = omega arith in
      let here : ℕ → ℕ = λ m. m in
      let many_i = rows_many (interface_at bytes n) d.0 0 (at + 4 + 2 + 4 + 2) f.0 f.1 in
      let last_i : f.0.1 ≡ at + 12 + 4 * length f.0.0 = last_row (interface_at bytes n) here 4 (interface_step n) d.0 0 (at + 4 + 2 + 4 + 2) f.0 f.1 ∙ ap (λ (m : ℕ). m + 4 * d.0) twelve ∙ ap (λ (m : ℕ). at + 12 + 4 * m) (sym many_i) in
      let many_f = rows_many (field_at bytes n) g.0 0 (f.0.1 + 2) h.0 h.1 in
      let last_f : h.0.1 ≡ at + 12 + 4 * length f.0.0 + 2 + 10 * length h.0.0 = last_row (field_at bytes n) here 10 (field_step n) g.0 0 (f.0.1 + 2) h.0 h.1 ∙ ap (λ (m : ℕ). m + 2 + 10 * g.0) last_i ∙ ap (λ (m : ℕ). at + 12 + 4 * length f.0.0 + 2 + 10 * m) (sym many_f) in
      let many_m = rows_many (method_at bytes n r) i.0 0 begin j.0 j.1 in
      subst (λ (z : StoredType × ℕ). TypeParts at z.0) (ok_is made y j.2) (record {
        name = index_number bytes n at a.0 a.1;
        flags = b.1;
        super = subst (λ (m : ℕ). (k : ℕ) × (u4_at bytes m ≡ Ok k) × (c.0 ≡ super_of k)) six (super_number_is n (at + 4 + 2) c.0 c.1);
        interfaces = subst (λ (m : ℕ). u2_at bytes m ≡ Ok (length f.0.0)) ten (d.1 ∙ ap (λ (m : ℕ). Ok m) (sym many_i));
        interface = λ l x at_l. (
            let q = nth_row (interface_at bytes n) here 4 (interface_step n) d.0 0 (at + 4 + 2 + 4 + 2) f.0 f.1 l x at_l in
            let there : q.state ≡ at + 12 + 4 * l = q.at_is ∙ ap (λ (m : ℕ). m + 4 * l) twelve in
            subst (λ (m : ℕ). u4_at bytes m ≡ Ok x) there (interface_number n q.number q.state x q.next q.read_is));
        fields = subst (λ (m : ℕ). u2_at bytes m ≡ Ok (length h.0.0)) last_i (g.1 ∙ ap (λ (m : ℕ). Ok m) (sym many_f));
        field = λ l x at_l. (
            let q = nth_row (field_at bytes n) here 10 (field_step n) g.0 0 (f.0.1 + 2) h.0 h.1 l x at_l in
            let there : q.state ≡ at + 12 + 4 * length f.0.0 + 2 + 10 * l = q.at_is ∙ ap (λ (m : ℕ). m + 2 + 10 * l) last_i in
            record { names = n; number = q.number; next = q.next; read = subst (λ (m : ℕ). field_at bytes n q.number m ≡ Ok (x, q.next)) there q.read_is });
        methods = subst (λ (m : ℕ). u2_at bytes m ≡ Ok (length j.0.0)) last_f (i.1 ∙ ap (λ (m : ℕ). Ok m) (sym many_m));
      })
