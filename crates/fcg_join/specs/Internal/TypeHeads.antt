-- Types by numbers, without the lists of interfaces and of methods.
use Rattle.std.specs.Prelude.{◌≡◌, ℕ, ◌+◌, List, [], ◌∷◌, Option, None, false, ◌||◌, length, option_map, position, Some, slice_get, take, if◌then◌else◌}
use Rattle.fcg_grammar.specs.Table.{place}
use Rattle.fcg_views.specs.declared.view.View.{View}
use Rattle.fcg_partial.specs.Parts.{PartShown}
use Rattle.fcg_analysis.specs.Declarations.{Placed, is_type, is_object, is_interface}
use Rattle.fcg_join.specs.declared.heads.TypeHead.{TypeHead}
use Rattle.fcg_join.specs.Parts.{placed_view, placed, views_before}
use Rattle.fcg_join.specs.SetNames.{set_names}
use Rattle.fcg_join.specs.Internal.PartRows.{HasView}
use Rattle.fcg_join.specs.Internal.Collected.{collected}

-- the number of the superclass name that a type uses
abbrev pub used_superclass : List (List ℕ) → Placed → Option ℕ
used_superclass names t = if is_object t || is_interface t then None else option_map (place names) t.view.superclass

-- the type at a place of a part, by the numbers of names
abbrev pub head_of : List (List ℕ) → ℕ → ℕ → Placed → TypeHead
head_of names i k t = record {
  part = i;
  place = k;
  name = place names t.view.name;
  flags = t.view.flags;
  is_object = is_object t;
  superclass = used_superclass names t;
  methods = length t.view.methods;
}

-- the types of a part, and of all parts, part after part
abbrev pub heads_in : List (List ℕ) → ℕ → PartShown → List TypeHead
heads_in names i p = collected (λ k v. head_of names i k (placed_view p v) ∷ []) 0 p.views

abbrev pub heads_of : List (List ℕ) → List PartShown → List TypeHead
heads_of names parts = collected (heads_in names) 0 parts

-- h has the type t of some parts
pub record IsHead (parts : List PartShown) (names : List (List ℕ)) (h : TypeHead) (t : Placed) : Type 0 where
  pub part : PartShown
  pub view : View
  pub part_is : slice_get parts h.part ≡ Some part
  pub view_is : HasView part h.place view
  pub type_is : placed_view part view ≡ t
  pub head_is : h ≡ head_of names h.part h.place t

-- no view of the type's name stands before it
abbrev pub IsFirstHead : List PartShown → TypeHead → Type 0
IsFirstHead parts h = (t : Placed) → IsHead parts (set_names parts) h t → position (is_type t) (placed parts) ≡ Some (views_before (take h.part parts) + h.place)

abbrev pub no_head : TypeHead
no_head = record { part = 0; place = 0; name = 0; flags = 0; is_object = false; superclass = None; methods = 0 }
