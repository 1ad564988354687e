-- What the answers of a command mean for its input.
use Rattle.std.proofs.Common.{◌≡◌, ℕ, ◌≤◌, List, ◌++◌, length, Option, Some, None, IsTrue, refl, sym, ap, subst, ◌∙◌}
use Rattle.std.specs.Prelude.{IfSome, IsErrOf, ◌↔◌, Result, Ok, Err}
use Rattle.std.specs.Io.KnownBytes.{Consumes, IsAtEnd}
use Rattle.std.proofs.lemmas.List.{append-nil}
use Rattle.fcg_grammar.specs.declared.error.ReadError.{ReadError}
use Rattle.fcg_grammar.specs.declared.error.ReadError.TheVariants as errors
use Rattle.fcg_grammar.specs.Reading.{Gives}
use Rattle.fcg_views.specs.declared.view.View.{View}
use Rattle.fcg_class.specs.declared.bundle.BundleFault.{BundleFault}
use Rattle.fcg_class.specs.declared.bundle.BundleFault.TheVariants as faults
use Rattle.fcg_class.specs.Bundle.{Content, is_jar, bundle_of}
use Rattle.fcg_class.specs.Pack.{bundle_limit}
use Rattle.fcg_top.specs.Internal.Stopped.{IsMeant, stop_of_bundle}

-- what holds of all bytes that were read holds of those that were left
pub read_to_end : (P : List ℕ → Type 0) (before now : Option (List ℕ)) (bytes : List ℕ) → Consumes before now bytes → IsAtEnd now → P bytes → IfSome before P
read_to_end P None now bytes c end p = tt
read_to_end P (Some xs) None bytes c end p = absurd c
read_to_end P (Some xs) (Some ys) bytes c end p = let same : xs ≡ bytes = c ∙ ap (λ (l : List ℕ). bytes ++ l) end ∙ append-nil bytes in subst P (sym same) p

abbrev Refused : ReadError BundleFault → Result (List View) (ReadError BundleFault)
Refused e = Err e

abbrev jar : ReadError BundleFault
jar = errors.Fault faults.Jar

-- a bundle that was refused has no content, and is a jar where it was refused as one
pub refused_means : (input : List ℕ) (e : ReadError BundleFault) → length input ≤ bundle_limit → (IsErrOf (Refused e) jar ↔ IsTrue (is_jar input)) → Gives (λ (v : List View). v) (Refused e) (bundle_of input) → ((views : List View) → Content input views → Gives (λ (v : List View). v) (Refused e) (Ok views))
    → IsMeant input (Err (stop_of_bundle e))
refused_means input errors.NoMemory le is_jar exact only = tt
refused_means input (errors.Fault faults.Jar) le is_jar exact only = (le, is_jar.0 refl)
refused_means input (errors.Fault (faults.Bundle offset entry rule)) le is_jar exact only = (le, exact, λ is. (let bad = is_jar.1 is in cc), λ views content. (let bad = only views content in cc))
refused_means input (errors.Fault (faults.Class entry f)) le is_jar exact only = (le, exact, λ is. (let bad = is_jar.1 is in cc), λ views content. (let bad = only views content in cc))
