-- What the instructions of a code have, one after the other, as a loop reads them.
use Rattle.std.proofs.Common.{◌≡◌, ℕ, suc, ◌+◌, ◌-◌, ◌<◌, ◌≤◌, List, [], ◌∷◌, ◌++◌, length, eqb, get_or, refl, sym, ap, subst, ◌∙◌, append_assoc, arith}
use Rattle.std.specs.Prelude.{true, false, Option, Some, None, Result, Ok, Err, nat_lt}
use Rattle.std.proofs.lemmas.List.{append-nil, length-append}
use Rattle.std.proofs.lemmas.Bool.Decides.{nat_tests, Decides-eqb}
use Rattle.fcg_grammar.specs.declared.error.ReadError.{ReadError}
use Rattle.fcg_grammar.specs.declared.error.ReadError.TheVariants as errors
use Rattle.fcg_grammar.specs.Reading.{◌>>=◌, unless_broken, Fails}
use Rattle.fcg_grammar.proofs.LawLemmas.{bind_ok, kept_ok}
use Rattle.fcg_grammar.proofs.Standing.{ok_is}
use Rattle.fcg_views.specs.declared.view.Site.{Site}
use Rattle.fcg_classfile.specs.declared.fault.ClassFault.{ClassFault}
use Rattle.fcg_classfile.specs.declared.fault.ClassRule.TheVariants.{ManySites}
use Rattle.fcg_classfile.specs.Sites.{SiteForm, site_form, is_dynamic, Found, nothing, both}
use Rattle.fcg_classfile.specs.Breaks.Fault.{fault, at_place, at_opcode}
use Rattle.fcg_classfile.specs.Breaks.Pool.{Entries, dynamic_of}
use Rattle.fcg_classfile.specs.Breaks.Instructions.{next_at, operand_at}
use Rattle.fcg_classfile.specs.Breaks.Code.{target_of, site_of, sites_by, calls_by, found_at, found_from}

-- what was read before, and what is still read
abbrev pub after_front : Found → Result Found ClassFault → Result Found ClassFault
after_front front read = read >>= λ others. Ok (both front others)

both_assoc : (x y z : Found) → both x (both y z) ≡ both (both x y) z
both_assoc x y z = rw (append_assoc x.sites y.sites z.sites, append_assoc x.calls y.calls z.calls) refl

regroup : (front here : Found) (read : Result Found ClassFault) → after_front front (read >>= λ others. Ok (both here others)) ≡ after_front (both front here) read
regroup front here (Ok others) = ap (λ (x : Found). Ok x) (both_assoc front here others)
regroup front here (Err f) = refl

both-nothing : (x : Found) → both x nothing ≡ x
both-nothing x = rw (append-nil x.sites, append-nil x.calls) refl

-- a site that is read had room
one_counted : (pool : Entries) (form : SiteForm) (at pc index count : ℕ) (s : Site) → site_of pool form at pc index count ≡ Ok s → count < 1000000
unfolding site_of
one_counted pool form at pc index count s e =
    let a = bind_ok (target_of pool form.target at index) _ s e in
    let b = bind_ok (unless_broken (nat_lt count 1000000) (fault at 0 ManySites)) _ s a.2 in
    below count (kept_ok (nat_lt count 1000000) (fault at 0 ManySites) b.0 b.1)
  where
    below : (n : ℕ) → nat_lt n 1000000 ≡ true → n < 1000000
    below n is = grind (arith, nat_tests)

module _ (pool : Entries) (begin : ℕ) (code : List ℕ) where
  one_step : (f pc count next : ℕ) (here : Found) → pc < length code → at_opcode (begin + pc) (next_at code pc) ≡ Ok next → found_at pool begin code pc count ≡ Ok here
      → found_from pool begin code (suc f) pc count ≡ (found_from pool begin code f next (count + length here.sites) >>= λ others. Ok (both here others))
  unfolding found_from
  one_step f pc count next here lt follows read =
      let more : eqb (length code) pc ≡ false = grind (arith, nat_tests) in
      rw (more, follows, read) refl

  no_next : (f pc count : ℕ) (fault : ClassFault) → pc < length code → at_opcode (begin + pc) (next_at code pc) ≡ Err fault → found_from pool begin code (suc f) pc count ≡ Err fault
  unfolding found_from
  no_next f pc count fault lt broken =
      let more : eqb (length code) pc ≡ false = grind (arith, nat_tests) in
      rw (more, broken) refl

  no_found : (f pc count next : ℕ) (fault : ClassFault) → pc < length code → at_opcode (begin + pc) (next_at code pc) ≡ Ok next → found_at pool begin code pc count ≡ Err fault
      → found_from pool begin code (suc f) pc count ≡ Err fault
  unfolding found_from
  no_found f pc count next fault lt follows broken =
      let more : eqb (length code) pc ≡ false = grind (arith, nat_tests) in
      rw (more, follows, broken) refl

  at_end : (f pc count : ℕ) → length code ≡ pc → found_from pool begin code (suc f) pc count ≡ Ok nothing
  unfolding found_from
  at_end f pc count end =
      let here : eqb (length code) pc ≡ true = grind (arith, nat_tests) in
      rw here refl

  -- What the instructions before a place have is read. The fuel is what still bounds the instructions.
  pub record FoundLeft (count pc : ℕ) (front : Found) (total : Result Found ClassFault) : Type 0 where
    pub fuel : ℕ
    pub enough : length code < fuel + pc
    pub so_far : after_front front (found_from pool begin code fuel pc (count + length front.sites)) ≡ total

  -- the same with a fuel that isn't used up
  left_more : (count pc : ℕ) (front : Found) (total : Result Found ClassFault) → pc ≤ length code → (left : FoundLeft count pc front total)
      → (f : ℕ) × (left.fuel ≡ suc f) × (after_front front (found_from pool begin code (suc f) pc (count + length front.sites)) ≡ total)
  left_more count pc front total le left =
      let some : left.fuel ≡ suc (left.fuel - 1) = (let e = left.enough in omega (arith, e, le)) in
      (left.fuel - 1, some, subst (λ (n : ℕ). after_front front (found_from pool begin code n pc (count + length front.sites)) ≡ total) some left.so_far)

  pub found_begin : (count : ℕ) → FoundLeft count 0 nothing (found_from pool begin code (1 + length code) 0 count)
  found_begin count =
      let none : count ≡ count + length {A = Site} [] = omega arith in
      record {
        fuel = 1 + length code;
        enough = omega arith;
        so_far = subst (λ (n : ℕ). after_front nothing (found_from pool begin code (1 + length code) 0 n) ≡ found_from pool begin code (1 + length code) 0 count) none (unread (found_from pool begin code (1 + length code) 0 count));
      }
    where
      unread : (read : Result Found ClassFault) → after_front nothing read ≡ read
      unread (Ok x) = refl
      unread (Err f) = refl

  pub found_go_on : (count pc next : ℕ) (front here : Found) (total : Result Found ClassFault) → pc < length code → pc < next
      → at_opcode (begin + pc) (next_at code pc) ≡ Ok next → found_at pool begin code pc (count + length front.sites) ≡ Ok here
      → FoundLeft count pc front total → FoundLeft count next (both front here) total
  found_go_on count pc next front here total lt later follows read left =
      let m = left_more count pc front total (omega (arith, lt)) left in
      let n : count + length front.sites + length here.sites ≡ count + length (front.sites ++ here.sites) = rw (length-append front.sites here.sites) (omega arith) in
      let one = ap (after_front front) (one_step m.0 pc (count + length front.sites) next here lt follows read) ∙ regroup front here (found_from pool begin code m.0 next (count + length front.sites + length here.sites)) in
      record {
        fuel = m.0;
        enough = (let e = left.enough in let s = m.1 in omega (arith, e, s, later));
        so_far = subst (λ (k : ℕ). after_front (both front here) (found_from pool begin code m.0 next k) ≡ total) n (sym one ∙ m.2);
      }

  pub found_nothing : (pc count : ℕ) → site_form (get_or code pc 0) ≡ None → is_dynamic (get_or code pc 0) ≡ false → found_at pool begin code pc count ≡ Ok nothing
  unfolding found_at
  found_nothing pc count no_site no_call = rw (no_site, no_call) refl

  pub found_site : (form : SiteForm) (pc count : ℕ) (s : Site) → site_form (get_or code pc 0) ≡ Some form → is_dynamic (get_or code pc 0) ≡ false
      → site_of pool form (begin + pc) pc (operand_at code pc) count ≡ Ok s → found_at pool begin code pc count ≡ Ok (record { sites = s ∷ []; calls = [] })
  unfolding found_at
  found_site form pc count s is no_call read = rw (is, no_call, read) refl

  pub found_call : (pc count n : ℕ) → is_dynamic (get_or code pc 0) ≡ true → at_place (begin + pc) (operand_at code pc) (dynamic_of pool (operand_at code pc)) ≡ Ok n
      → found_at pool begin code pc count ≡ Ok (record { sites = []; calls = record { pc = pc; bootstrap = n } ∷ [] })
  unfolding found_at
  found_call pc count n is read =
      let no_site : site_form (get_or code pc 0) ≡ None = rw ((Decides-eqb (get_or code pc 0) 186).0 is) refl in
      rw (no_site, is, read) refl

  -- an instruction that has nothing is passed over
  pub found_pass : (count pc next : ℕ) (front : Found) (total : Result Found ClassFault) → pc < length code → pc < next → next_at code pc ≡ Ok next
      → site_form (get_or code pc 0) ≡ None → is_dynamic (get_or code pc 0) ≡ false → FoundLeft count pc front total → FoundLeft count next front total
  found_pass count pc next front total lt later follows no_site no_call left =
      subst (λ (x : Found). FoundLeft count next x total) (both-nothing front)
      (found_go_on count pc next front nothing total lt later (rw follows refl) (found_nothing pc (count + length front.sites) no_site no_call) left)

  pub next_fails : (count pc : ℕ) (front : Found) (fault : ClassFault) (total : Result Found ClassFault) → pc < length code
      → at_opcode (begin + pc) (next_at code pc) ≡ Err fault → FoundLeft count pc front total → total ≡ Err fault
  next_fails count pc front fault total lt broken left =
      let m = left_more count pc front total (omega (arith, lt)) left in
      sym m.2 ∙ ap (after_front front) (no_next m.0 pc (count + length front.sites) fault lt broken)

  pub found_fails : (e : ReadError ClassFault) (count pc next : ℕ) (front : Found) (total : Result Found ClassFault) → pc < length code
      → at_opcode (begin + pc) (next_at code pc) ≡ Ok next → Fails e (found_at pool begin code pc (count + length front.sites)) → FoundLeft count pc front total → Fails e total
  found_fails errors.NoMemory count pc next front total lt follows broken left = tt
  found_fails (errors.Fault f) count pc next front total lt follows broken left =
      let m = left_more count pc front total (omega (arith, lt)) left in
      sym m.2 ∙ ap (after_front front) (no_found m.0 pc (count + length front.sites) next f lt follows broken)

  pub found_done : (count pc : ℕ) (front : Found) (total : Result Found ClassFault) → length code ≤ pc → pc ≤ length code → FoundLeft count pc front total → total ≡ Ok front
  found_done count pc front total all le left =
      let m = left_more count pc front total le left in
      sym m.2 ∙ ap (after_front front) (at_end m.0 pc (count + length front.sites) (omega (arith, all, le))) ∙ ap (λ (x : Found). Ok x) (both-nothing front)

  -- ---- the sites are few

  formed_counted : (form : Option SiteForm) (pc count : ℕ) (here : List Site) → sites_by pool begin code form pc count ≡ Ok here → count ≤ 1000000 → count + length here ≤ 1000000
  formed_counted None pc count here e le = subst (λ (xs : List Site). count + length xs ≤ 1000000) (ok_is [] here e) (omega (arith, le))
  formed_counted (Some form) pc count here e le =
      let a = bind_ok (site_of pool form (begin + pc) pc (operand_at code pc) count) _ here e in
      let lt = one_counted pool form (begin + pc) pc (operand_at code pc) count a.0 a.1 in
      subst (λ (xs : List Site). count + length xs ≤ 1000000) (ok_is (a.0 ∷ []) here a.2) (omega (arith, lt))

  -- where there is a site more, there were fewer before
  pub found_counted : (pc count : ℕ) (here : Found) → found_at pool begin code pc count ≡ Ok here → count ≤ 1000000 → count + length here.sites ≤ 1000000
  unfolding found_at
  found_counted pc count here e le =
      let a = bind_ok (sites_by pool begin code (site_form (get_or code pc 0)) pc count) _ here e in
      let b = bind_ok (calls_by pool begin code (is_dynamic (get_or code pc 0)) pc) _ here a.2 in
      subst (λ (x : Found). count + length x.sites ≤ 1000000) (ok_is _ here b.2) (formed_counted (site_form (get_or code pc 0)) pc count a.0 a.1 le)
