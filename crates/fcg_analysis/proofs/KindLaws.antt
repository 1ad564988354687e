-- Circles are of classes alone, by their superclasses, or of interfaces alone.
use Rattle.std.proofs.Common.{◌≡◌, List, ap, inl, inr}
use Rattle.std.specs.Prelude.{Bool, true, false, not}
use Rattle.std.proofs.lemmas.Bool.{or_cases}
use Rattle.fcg_analysis.specs.NamesAndFlags.{contains}
use Rattle.fcg_analysis.specs.Walks.{Walk, step, onward}
use Rattle.fcg_analysis.specs.Declarations.{Placed, is_class, is_interface, interface_names}
use Rattle.fcg_analysis.specs.Types.{links, extends, implements}
use Rattle.fcg_analysis.proofs.ChainLaws.{extends_class}
use Rattle.fcg_analysis.proofs.General.Members.{and_first}

link_to_class : (t u : Placed) → links t u ≡ true → is_class u ≡ true → extends t u ≡ true
link_to_class t u h k =
    elim (or_cases (extends t u) (implements t u) h) [
      | inl e ↦ e
      | inr e ↦ absurd (clash (is_interface u) (and_first (is_interface u) (contains u.view.name (interface_names t)) e) k)
    ]
  where
    clash : (b : Bool) → b ≡ true → not b ≡ true → ⊥
    clash true e f = cc
    clash false e f = cc

pub walk_to_class : {types : List Placed} {t u : Placed} → Walk links types t u → is_class u ≡ true → Walk extends types t u
walk_to_class {t = t} (step {y = y} c h) k = step c (link_to_class t y h k)
walk_to_class (onward {y = y} {z = z} w c h) k =
    let e = link_to_class y z h k in
    onward (walk_to_class w (ap not (extends_class y z e).1)) c e

-- from an interface links lead to interfaces alone
link_from_interface : (t u : Placed) → links t u ≡ true → is_interface t ≡ true → (implements t u ≡ true) × (is_interface u ≡ true)
link_from_interface t u h k =
    elim (or_cases (extends t u) (implements t u) h) [
      | inl e ↦ absurd (let f = (extends_class t u e).1 in cc)
      | inr e ↦ (e, and_first (is_interface u) (contains u.view.name (interface_names t)) e)
    ]

pub walk_from_interface : {types : List Placed} {t u : Placed} → Walk links types t u → is_interface t ≡ true → Walk implements types t u × (is_interface u ≡ true)
walk_from_interface {t = t} (step {y = y} c h) k = let r = link_from_interface t y h k in (step c r.0, r.1)
walk_from_interface (onward {y = y} {z = z} w c h) k =
    let v = walk_from_interface w k in
    let r = link_from_interface y z h v.1 in (onward v.0 c r.0, r.1)
