-- What is selected for an outcome.
use Rattle.std.proofs.Common.{◌≡◌, ℕ, ◌<◌, List, [], ◌∷◌, length, refl, sym, ap, subst, ◌∙◌}
use Rattle.std.specs.Prelude.{Bool, true, false, not, cond, ◌||◌, ◌&&◌, ◌↔◌, IsTrue, Option, Some, None, slice_get}
use Rattle.std.specs.Cmp.Lexicographic.{bytes_decides}
use Rattle.std.proofs.lemmas.Bool.{and_from}
use Rattle.fcg_partial.specs.Parts.{PartShown}
use Rattle.fcg_analysis.specs.NamesAndFlags.{found_in, or_else, has, same}
use Rattle.fcg_analysis.specs.Declarations.{Placed, Signature, signature_of, has_signature, is_instance, is_private, is_public, is_protected, is_package_private}
use Rattle.fcg_analysis.specs.Types.{chain}
use Rattle.fcg_analysis.specs.Nodes.{Node, declared, one_default}
use Rattle.fcg_analysis.specs.Resolution as rules
use Rattle.fcg_analysis.specs.Selection.{same_package, can_override, searched, selected}
use Rattle.fcg_analysis.specs.Laws.HandedOn.{where_passes, is_open, handed_on, overrides_alike}
use Rattle.fcg_analysis.specs.Laws.Methods.{AreApart}
use Rattle.fcg_analysis.proofs.General.Members.{and_first, and_second}
use Rattle.fcg_analysis.proofs.HandingLaws.{select_alike, select_open, select_phantom}
use Rattle.fcg_analysis.proofs.NodeMembers.{signature_self}
use Rattle.fcg_analysis.proofs.WinnerLaws.{known_distinct}
use Rattle.fcg_join.specs.declared.id.TypeId.{TypeId}
use Rattle.fcg_join.specs.declared.id.MethodId.{MethodId}
use Rattle.fcg_join.specs.declared.id.SignatureId.{SignatureId}
use Rattle.fcg_join.specs.declared.outcome.Outcome.{Outcome}
use Rattle.fcg_join.specs.declared.outcome.Outcome.TheVariants as outcomes
use Rattle.fcg_join.specs.declared.outcome.Cause.{Cause}
use Rattle.fcg_join.specs.Parts.{placed, types_of, nodes_of}
use Rattle.fcg_join.specs.Joined.{HasType, HasNode, GivesNode}
use Rattle.fcg_join.specs.Numbers.{GivesSignature}
use Rattle.fcg_join.specs.Outcomes.{GivesOutcome, IfMethod}
use Rattle.fcg_select.specs.Instance.{IsInstanceOf, IsInstanceAs}
use Rattle.fcg_select.specs.Internal.Wanted.{is_in_package}
use Rattle.fcg_join.proofs.GraphRows.{item}
use Rattle.fcg_join.proofs.OwnMentions.{known_are_acyclic}
use Rattle.fcg_join.proofs.FoundNumbers.{type_known, node_known, one_signature}
use Rattle.fcg_select.proofs.OverLaws.{one_each}

-- ---- signatures

-- a method of the signature has it for its own
pub signature_is : (sig : Signature) (n : Node) → has_signature sig n.method ≡ true → sig ≡ signature_of n.method
signature_is sig n h =
    let p : sig.name ≡ n.method.name = (bytes_decides sig.name n.method.name).0 (and_first (same sig.name n.method.name) (same sig.desc n.method.desc) h) in
    let q : sig.desc ≡ n.method.desc = (bytes_decides sig.desc n.method.desc).0 (and_second (same sig.name n.method.name) (same sig.desc n.method.desc) h) in
    λ i. record { name = p i; desc = q i }

-- a number of the signature of a node is that of no other
pub only_signature : (parts : List PartShown) (s : Option SignatureId) (m : MethodId) (n : Node) (sig : Signature) → HasNode parts m n → GivesSignature parts s (signature_of n.method) → GivesSignature parts s sig → signature_of n.method ≡ sig
only_signature parts None m n sig h g k = absurd (let off = g n (node_known parts m n h) in let on = signature_self n.method in cc)
only_signature parts (Some id) m n sig h g k = one_signature parts id (signature_of n.method) sig g k

pub instance_by_names : (parts : List PartShown) (out : Outcome) (s : Option SignatureId) (sig : Signature) → GivesSignature parts s sig → IsInstanceOf parts out sig → IsInstanceAs parts out s
instance_by_names parts (outcomes.Method m) s sig g i = λ n h. ((i n h).0, subst (λ v. GivesSignature parts s v) (signature_is sig n (i n h).1) g)
instance_by_names parts outcomes.Phantom s sig g i = tt
instance_by_names parts (outcomes.Failed c) s sig g i = tt

-- a method is an instance method of the signature
pub instance_told : (parts : List PartShown) (out : Outcome) (m : MethodId) (sig : Signature) (b : Bool) → out ≡ outcomes.Method m → IfMethod out (λ k. k.0 < length (nodes_of parts))
    → ((n : Node) → HasNode parts m n → b ≡ (is_instance n.method && has_signature sig n.method)) → IsTrue b ↔ IsInstanceOf parts out sig
instance_told parts out m sig b e l h =
    subst (λ o. IsTrue b ↔ IsInstanceOf parts o sig) (sym e) (
      (λ t n k. (let both = sym (h n k) ∙ t in (and_first (is_instance n.method) (has_signature sig n.method) both, and_second (is_instance n.method) (has_signature sig n.method) both))),
      (λ i. (let n = item (nodes_of parts) m.0 (subst (λ o. IfMethod o (λ k. k.0 < length (nodes_of parts))) e l) in let both = i n.0 n.1 in h n.0 n.1 ∙ and_from (is_instance n.0.method) (has_signature sig n.0.method) both.0 both.1)),
    )

-- ---- which methods are wanted

-- tests that agree find the same
found_alike : (types : List Placed) (s : Signature) (p q : Node → Bool) (line : List Placed) → ((m : Node) → p m ≡ q m) → found_in (λ t. where_passes p (declared types s t)) line ≡ found_in (λ t. where_passes q (declared types s t)) line
found_alike types s p q [] h = refl
found_alike types s p q (t ∷ ts) h = λ i. or_else (at (declared types s t) i) (found_alike types s p q ts h i)
  where
    at : (o : Option Node) → where_passes p o ≡ where_passes q o
    at None = refl
    at (Some m) = ap (λ v. cond v (Some m) None) (h m)

and_true : (b c : Bool) → (b && (c || true)) ≡ b
and_true true true = refl
and_true true false = refl
and_true false c = refl

and_or_false : (b c : Bool) → (b && (c || false)) ≡ (b && c)
and_or_false true true = refl
and_or_false true false = refl
and_or_false false c = refl

module _ (parts : List PartShown) (apart : AreApart (types_of parts)) (receiver : TypeId) (ma : MethodId) (d : Placed) (d_is : HasType parts receiver d) (a : Node) (a_is : HasNode parts ma a)
    (inst : is_instance a.method ≡ true) (open' : is_private a.method ≡ false) (f : ℕ) (f_is : (n : Node) → HasNode parts ma n → f ≡ n.method.flags) where
  pub wanted_open : (has 1 f || has 4 f) ≡ true
      → searched (types_of parts) (λ c. can_override (types_of parts) c a) (chain (types_of parts) d) ≡ found_in (λ t. where_passes is_open (declared (types_of parts) (signature_of a.method) t)) (chain (types_of parts) d)
  wanted_open e =
      select_open (types_of parts) (known_are_acyclic (placed parts)) (known_distinct (placed parts)) (one_each parts apart) a inst
      (ap (λ v. has 1 v || has 4 v) (sym (f_is a a_is)) ∙ e) d (type_known parts receiver d d_is)

  package_private : (has 1 f || has 4 f) ≡ false → is_package_private a.method ≡ true
  package_private e = at (is_public a.method) (is_private a.method) (is_protected a.method) (ap (λ v. has 1 v || has 4 v) (sym (f_is a a_is)) ∙ e) open'
    where
      at : (x y z : Bool) → (x || z) ≡ false → y ≡ false → not (x || y || z) ≡ true
      at false false false p q = refl
      at true y z p q = absurd (cc)
      at false y true p q = absurd (cc)
      at x true z p q = absurd (cc)

  alike : (has 1 f || has 4 f) ≡ false → (r : Bool) → r ≡ handed_on (types_of parts) a (chain (types_of parts) d)
      → searched (types_of parts) (λ c. can_override (types_of parts) c a) (chain (types_of parts) d) ≡ found_in (λ t. where_passes (overrides_alike r a) (declared (types_of parts) (signature_of a.method) t)) (chain (types_of parts) d)
  alike e r r_is =
      select_alike (types_of parts) (known_are_acyclic (placed parts)) (known_distinct (placed parts)) (one_each parts apart) a (node_known parts ma a a_is) (package_private e) inst d (type_known parts receiver d d_is)
      ∙ ap (λ b. found_in (λ t. where_passes (overrides_alike b a) (declared (types_of parts) (signature_of a.method) t)) (chain (types_of parts) d)) (sym r_is)

  pub wanted_handed : (has 1 f || has 4 f) ≡ false → (r : Bool) → r ≡ handed_on (types_of parts) a (chain (types_of parts) d) → r ≡ true
      → searched (types_of parts) (λ c. can_override (types_of parts) c a) (chain (types_of parts) d) ≡ found_in (λ t. where_passes is_open (declared (types_of parts) (signature_of a.method) t)) (chain (types_of parts) d)
  wanted_handed e r r_is t =
      alike e r r_is
      ∙ found_alike (types_of parts) (signature_of a.method) (overrides_alike r a) is_open (chain (types_of parts) d) (λ m. ap (λ v. is_open m && (same_package m a || v)) t ∙ and_true (is_open m) (same_package m a))

  pub wanted_in : (has 1 f || has 4 f) ≡ false → (r : Bool) → r ≡ handed_on (types_of parts) a (chain (types_of parts) d) → r ≡ false → (home : TypeId) → HasType parts home a.owner
      → searched (types_of parts) (λ c. can_override (types_of parts) c a) (chain (types_of parts) d)
      ≡ found_in (λ t. where_passes (λ m. is_open m && is_in_package (slice_get (types_of parts) home.0) m) (declared (types_of parts) (signature_of a.method) t)) (chain (types_of parts) d)
  wanted_in e r r_is t home home_is =
      alike e r r_is
      ∙ found_alike (types_of parts) (signature_of a.method) (overrides_alike r a) (λ m. is_open m && is_in_package (slice_get (types_of parts) home.0) m) (chain (types_of parts) d)
      (λ m. ap (λ v. is_open m && (same_package m a || v)) t ∙ and_or_false (is_open m) (same_package m a) ∙ ap (λ o. is_open m && is_in_package o m) (sym home_is))

-- ---- what is selected

pub of_failed : (parts : List PartShown) (out : Outcome) (c : Cause) (d : Placed) (s : Signature) (o : rules.Outcome) → out ≡ outcomes.Failed c → GivesOutcome parts out o → GivesNode parts None (selected (types_of parts) d o s)
unfolding selected
of_failed parts out c d s o e g = at o (subst (λ x. GivesOutcome parts x o) e g)
  where
    at : (o : rules.Outcome) → GivesOutcome parts (outcomes.Failed c) o → GivesNode parts None (selected (types_of parts) d o s)
    at (rules.Found n) h = absurd h
    at rules.Phantom h = absurd h
    at (rules.Failed x) h = tt

pub of_phantom : (parts : List PartShown) (apart : AreApart (types_of parts)) (out : Outcome) (receiver : TypeId) (d : Placed) (s : Signature) (o : rules.Outcome) (r : Option MethodId) → out ≡ outcomes.Phantom → HasType parts receiver d → GivesOutcome parts out o
    → GivesNode parts r (or_else (found_in (λ t. where_passes is_open (declared (types_of parts) s t)) (chain (types_of parts) d)) (one_default (types_of parts) d s)) → GivesNode parts r (selected (types_of parts) d o s)
unfolding selected
of_phantom parts apart out receiver d s o r e k g h = at o (subst (λ x. GivesOutcome parts x o) e g)
  where
    at : (o : rules.Outcome) → GivesOutcome parts outcomes.Phantom o → GivesNode parts r (selected (types_of parts) d o s)
    at (rules.Found n) x = absurd x
    at rules.Phantom x =
        subst (λ p. GivesNode parts r (or_else p (one_default (types_of parts) d s)))
        (sym (select_phantom (types_of parts) (known_are_acyclic (placed parts)) (known_distinct (placed parts)) (one_each parts apart) s d (type_known parts receiver d k))) h
    at (rules.Failed c) x = absurd x

pub of_private : (parts : List PartShown) (out : Outcome) (m : MethodId) (d : Placed) (s : Signature) (o : rules.Outcome) (f : ℕ) → out ≡ outcomes.Method m → ((n : Node) → HasNode parts m n → f ≡ n.method.flags) → has 2 f ≡ true
    → GivesOutcome parts out o → GivesNode parts (Some m) (selected (types_of parts) d o s)
unfolding selected
of_private parts out m d s o f e f_is p g = at o (subst (λ x. GivesOutcome parts x o) e g)
  where
    at : (o : rules.Outcome) → GivesOutcome parts (outcomes.Method m) o → GivesNode parts (Some m) (selected (types_of parts) d o s)
    at (rules.Found n) x =
        let q : is_private n.method ≡ true = ap (has 2) (sym (f_is n x)) ∙ p in
        subst (λ v. GivesNode parts (Some m) v)
        (sym (ap (λ b. cond b (Some n) (or_else (searched (types_of parts) (λ c. can_override (types_of parts) c n) (chain (types_of parts) d)) (one_default (types_of parts) d s))) q)) x
    at rules.Phantom x = absurd x
    at (rules.Failed c) x = absurd x

pub of_method : (parts : List PartShown) (out : Outcome) (m : MethodId) (d : Placed) (number : Option SignatureId) (s : Signature) (o : rules.Outcome) (f : ℕ) (w : Node → Bool) (r : Option MethodId) → out ≡ outcomes.Method m
    → ((n : Node) → HasNode parts m n → f ≡ n.method.flags) → has 2 f ≡ false → IsInstanceAs parts out number → GivesSignature parts number s
    → ((a : Node) → HasNode parts m a → is_instance a.method ≡ true → is_private a.method ≡ false
    → searched (types_of parts) (λ c. can_override (types_of parts) c a) (chain (types_of parts) d) ≡ found_in (λ t. where_passes w (declared (types_of parts) (signature_of a.method) t)) (chain (types_of parts) d))
    → GivesNode parts r (or_else (found_in (λ t. where_passes w (declared (types_of parts) s t)) (chain (types_of parts) d)) (one_default (types_of parts) d s))
    → GivesOutcome parts out o → GivesNode parts r (selected (types_of parts) d o s)
unfolding selected
of_method parts out m d number s o f w r e f_is p i s_is h g k = at o (subst (λ x. GivesOutcome parts x o) e k) (subst (λ x. IsInstanceAs parts x number) e i)
  where
    at : (o : rules.Outcome) → GivesOutcome parts (outcomes.Method m) o → IsInstanceAs parts (outcomes.Method m) number → GivesNode parts r (selected (types_of parts) d o s)
    at (rules.Found n) x j =
        let q : is_private n.method ≡ false = ap (has 2) (sym (f_is n x)) ∙ p in
        let z : searched (types_of parts) (λ c. can_override (types_of parts) c n) (chain (types_of parts) d) ≡ found_in (λ t. where_passes w (declared (types_of parts) s t)) (chain (types_of parts) d) =
        h n x (j n x).0 q ∙ ap (λ v. found_in (λ t. where_passes w (declared (types_of parts) v t)) (chain (types_of parts) d)) (only_signature parts number m n s x (j n x).1 s_is) in
        subst (λ v. GivesNode parts r v)
        (sym (ap (λ b. cond b (Some n) (or_else (searched (types_of parts) (λ c. can_override (types_of parts) c n) (chain (types_of parts) d)) (one_default (types_of parts) d s))) q
        ∙ ap (λ v. or_else v (one_default (types_of parts) d s)) z)) g
    at rules.Phantom x j = absurd x
    at (rules.Failed c) x j = absurd x
