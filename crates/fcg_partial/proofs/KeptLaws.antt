-- What a kept graph tells.
use Rattle.std.proofs.Common.{◌≡◌, ℕ, Bool, List, sym, ap, ◌∙◌}
use Rattle.std.specs.Prelude.{Ok, nat_eq, IsTrue, ◌↔◌}
use Rattle.std.specs.Cmp.Lexicographic.{pointwise, same_text, nat_list_eq_equiv}
use Rattle.fcg_grammar.specs.declared.error.ReadError.{ReadError}
use Rattle.fcg_grammar.specs.declared.error.ReadError.TheVariants as errors
use Rattle.fcg_grammar.specs.Reading.{seen, Fails}
use Rattle.fcg_grammar.specs.Spell.{IsBytes}
use Rattle.fcg_views.specs.declared.view.View.{View}
use Rattle.fcg_partial.specs.declared.fault.RecordFault.{RecordFault}
use Rattle.fcg_partial.specs.declared.index.Index.{Index}
use Rattle.fcg_partial.specs.Graph.{Graph, IsGraph, spelling}
use Rattle.fcg_partial.specs.Views.{shown, graph_of, text_of}
use Rattle.fcg_partial.specs.Reading.{graph_at, views_of_graph, views_in}
use Rattle.fcg_partial.specs.Internal.Representation.{IsKept}
use Rattle.fcg_grammar.proofs.LawLemmas.{ok_or_err}
use Rattle.fcg_partial.proofs.OneSpelling.{graph_back}
use Rattle.fcg_partial.proofs.ViewLaws.{views_back}
use Rattle.fcg_partial.proofs.GraphLaws.{graph_found}
use Rattle.fcg_partial.proofs.GraphOnly.{graph_only}

-- the views of bytes that are read as a graph
pub views_of_read : (bytes : List ℕ) (g : Graph) → graph_at bytes ≡ Ok g → views_in bytes ≡ shown g
unfolding views_in
views_of_read bytes g e = ap views_of_graph e

-- such bytes are the spelling of their views
pub read_text : (bytes : List ℕ) (g : Graph) → IsBytes bytes → graph_at bytes ≡ Ok g → bytes ≡ text_of (views_in bytes)
unfolding text_of
read_text bytes g are e =
    let found = graph_found bytes are g e in
    found.spelled ∙ ap spelling (sym (graph_back g found.is)) ∙ ap (λ (vs : List View). spelling (graph_of vs)) (sym (views_of_read bytes g e))

pub kept_text : (bytes : List ℕ) (index : Index) → IsKept bytes index → bytes ≡ text_of (views_in bytes)
kept_text bytes index kept = read_text bytes kept.indexed.graph kept.are kept.indexed.read

pub read_gives : (bytes : List ℕ) (g : Graph) → graph_at bytes ≡ Ok g → seen shown (graph_at bytes) ≡ Ok (views_in bytes)
read_gives bytes g e = ap (seen shown) e ∙ ap (λ (vs : List View). Ok vs) (sym (views_of_read bytes g e))

-- a fault is none of bytes that are the spelling of a graph
pub fails_only : (bytes : List ℕ) (e : ReadError RecordFault) → IsBytes bytes → Fails e (graph_at bytes) → (g : Graph) → IsGraph g → bytes ≡ spelling g → Fails e (Ok (shown g))
fails_only bytes errors.NoMemory are h g is spelled = tt
fails_only bytes (errors.Fault f) are h g is spelled = ap (seen shown) (sym (graph_only bytes are g is spelled) ∙ h)

pub read_only : (bytes : List ℕ) (h : Graph) → IsBytes bytes → graph_at bytes ≡ Ok h → (g : Graph) → IsGraph g → bytes ≡ spelling g → Ok (shown g) ≡ seen shown (graph_at bytes)
read_only bytes h are e g is spelled = ap (seen shown) (sym (graph_only bytes are g is spelled))

-- the bytes are equal exactly where the views are
pub kept_same : (a b : List ℕ) (i j : Index) → IsKept a i → IsKept b j → (r : Bool) → r ≡ pointwise nat_eq a b → IsTrue r ↔ (views_in a ≡ views_in b)
kept_same a b i j p q r e = (
  λ t. ap views_in (same_text a b (sym t ∙ e)),
  λ s. (let same : a ≡ b = kept_text a i p ∙ ap text_of s ∙ sym (kept_text b j q) in
      e ∙ sym (ap (pointwise nat_eq a) same) ∙ nat_list_eq_equiv.refl a),
)

-- bytes that are the text of some views are read as the graph of these
pub text_read : (bytes : List ℕ) (views : List View) → IsBytes bytes → IsGraph (graph_of views) → bytes ≡ text_of views → graph_at bytes ≡ Ok (graph_of views)
unfolding text_of
text_read bytes views are is e = graph_only bytes are (graph_of views) is e

pub text_views : (bytes : List ℕ) (views : List View) → graph_at bytes ≡ Ok (graph_of views) → views_in bytes ≡ views
text_views bytes views e = views_of_read bytes (graph_of views) e ∙ views_back views

pub no_fault : (e : ReadError RecordFault) (f : RecordFault) (bytes : List ℕ) (g : Graph) → graph_at bytes ≡ Ok g → e ≡ errors.Fault f → Fails e (graph_at bytes) → ⊥
no_fault errors.NoMemory f bytes g read is h = absurd cc
no_fault (errors.Fault d) f bytes g read is h = ok_or_err g d (sym read ∙ h)
