-- Reading up to a limit: the bytes before it stand for the file.
use Rattle.std.proofs.Common.{◌≡◌, ℕ, ◌+◌, ◌≤◌, List, ◌++◌, length, take, drop, sym, ap, subst, ◌∙◌, append_assoc, inl, inr, arith}
use Rattle.std.proofs.lemmas.Bool.{cases_lt}
use Rattle.std.proofs.lemmas.List.{append_cancel_right, take-append-drop, drop-append-le, length-take, get_or-drop, get_or-take, get_or_past}
use Rattle.fcg_grammar.specs.Number.{part}
use Rattle.fcg_grammar.specs.Spell.{IsBytes}
use Rattle.fcg_grammar.proofs.Standing.{Stands}

pub IsBytes-take : (n : ℕ) (bytes : List ℕ) → IsBytes bytes → IsBytes (take n bytes)
IsBytes-take n bytes h i =
    elim (cases_lt i n) [
      | inl lt ↦ rw (get_or-take n bytes i 0 lt) (h i)
      | inr le ↦ rw (get_or_past (take n bytes) i 0 (omega (arith, length-take n bytes))) (omega arith)
    ]

IsBytes-drop : (n : ℕ) (bytes : List ℕ) → IsBytes bytes → IsBytes (drop n bytes)
IsBytes-drop n bytes h i = rw get_or-drop (h (n + i))

-- a part of a file
pub IsBytes-part : (bytes : List ℕ) (at n : ℕ) (text : List ℕ) → IsBytes bytes → part bytes at n ≡ text → IsBytes text
IsBytes-part bytes at n text h e = subst (λ (l : List ℕ). IsBytes l) e (IsBytes-take n (drop at bytes) (IsBytes-drop at bytes h))

drop_split : (e a : ℕ) (bytes : List ℕ) → a ≤ e → e ≤ length bytes → drop a bytes ≡ drop a (take e bytes) ++ drop e bytes
drop_split e a bytes le len = ap (drop a) (sym (take-append-drop e bytes)) ∙ drop-append-le a (take e bytes) (drop e bytes) (omega (arith, length-take e bytes))

-- what stands before a limit stands in the file
pub outer : (e : ℕ) (bytes : List ℕ) (a : ℕ) (x : List ℕ) (b : ℕ) → e ≤ length bytes → Stands (take e bytes) a x b → Stands bytes a x b
outer e bytes a x b le s =
    let len = length-take e bytes in
    let w = s.within in
    let n = s.ends in
    let lower : b ≤ e = omega (arith, len, w, n) in
    let before : a ≤ e = omega (arith, lower, n) in
    record {
      within = omega (arith, lower, le);
      ends = n;
      same = drop_split e a bytes before le ∙ ap (λ (l : List ℕ). l ++ drop e bytes) s.same ∙ append_assoc x (drop b (take e bytes)) (drop e bytes) ∙ ap (λ (l : List ℕ). x ++ l) (sym (drop_split e b bytes lower le));
    }

-- and what stands in the file, up to a limit, stands before it
pub inner : (e : ℕ) (bytes : List ℕ) (a : ℕ) (x : List ℕ) (b : ℕ) → b ≤ e → e ≤ length bytes → Stands bytes a x b → Stands (take e bytes) a x b
inner e bytes a x b lower le s =
    let len = length-take e bytes in
    let n = s.ends in
    let before : a ≤ e = omega (arith, lower, n) in
    record {
      within = omega (arith, len, lower, le);
      ends = n;
      same = append_cancel_right _ _ (drop e bytes) (sym (drop_split e a bytes before le) ∙ s.same ∙ ap (λ (l : List ℕ). x ++ l) (drop_split e b bytes lower le) ∙ sym (append_assoc x (drop b (take e bytes)) (drop e bytes)));
    }
