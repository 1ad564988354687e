-- The methods of all types, and the number of each type's first method among them.
use Rattle.std.proofs.Common.{◌≡◌, ℕ, ◌+◌, List, [], ◌∷◌, ◌++◌, length, sym, ap, ◌∙◌, append_assoc, arith}
use Rattle.std.proofs.lemmas.List.{append-nil, length-append}
use Rattle.std.proofs.lemmas.List.Concat.{flat_map-cons}
use Rattle.fcg_partial.specs.Graph.{StoredMethod, StoredType}
use Rattle.fcg_partial.specs.Internal.UsedNumbers.{firsts_of, methods_of}

pub methods_push : (ts : List StoredType) (t : StoredType) → methods_of (ts ++ t ∷ []) ≡ methods_of ts ++ t.methods
methods_push [] t = flat_map-cons (λ (u : StoredType). u.methods) t [] ∙ append-nil t.methods
methods_push (u ∷ ts) t =
    flat_map-cons (λ (v : StoredType). v.methods) u (ts ++ t ∷ [])
    ∙ ap (λ (l : List StoredMethod). u.methods ++ l) (methods_push ts t)
    ∙ sym (append_assoc u.methods (methods_of ts) t.methods)
    ∙ ap (λ (l : List StoredMethod). l ++ t.methods) (sym (flat_map-cons (λ (v : StoredType). v.methods) u ts))

firsts_from : (k : ℕ) (ts : List StoredType) (t : StoredType) → firsts_of k (ts ++ t ∷ []) ≡ firsts_of k ts ++ (k + length (methods_of ts)) ∷ []
firsts_from k [] t = ap (λ (n : ℕ). n ∷ []) (none k)
  where
    none : (k : ℕ) → k ≡ k + 0
    none k = omega arith
firsts_from k (u ∷ ts) t =
    ap (λ (l : List ℕ). k ∷ l) (firsts_from (k + length u.methods) ts t
    ∙ ap (λ (n : ℕ). firsts_of (k + length u.methods) ts ++ n ∷ []) (regroup k (length u.methods) (length (methods_of ts)) ∙ ap (λ (n : ℕ). k + n) (sym (length-append u.methods (methods_of ts)) ∙ ap (λ (l : List StoredMethod). length l) (sym (flat_map-cons (λ (v : StoredType). v.methods) u ts)))))
  where
    regroup : (a b c : ℕ) → a + b + c ≡ a + (b + c)
    regroup a b c = omega arith

pub firsts_push : (ts : List StoredType) (t : StoredType) (firsts : List ℕ) (first : ℕ) → firsts ≡ firsts_of 0 ts → first ≡ length (methods_of ts) → firsts ++ first ∷ [] ≡ firsts_of 0 (ts ++ t ∷ [])
firsts_push ts t firsts first e f = rw (e, f) (sym (firsts_from 0 ts t ∙ ap (λ (n : ℕ). firsts_of 0 ts ++ n ∷ []) (zero_plus (length (methods_of ts)))))
  where
    zero_plus : (n : ℕ) → 0 + n ≡ n
    zero_plus n = omega arith
