-- Which views can't be written as class files, and why.
use Rattle.std.specs.Prelude.{ℕ, ◌+◌, List, [], ◌∷◌, length, Bool, true, not, ◌&&◌, nat_lt, nat_le, Option, Some, None, is_none, if◌then◌else◌}
use Rattle.std.specs.List.{list_all}
use Rattle.fcg_views.specs.declared.view.View.{View}
use Rattle.fcg_views.specs.declared.view.Field.{Field}
use Rattle.fcg_views.specs.declared.view.Method.{Method}
use Rattle.fcg_views.specs.declared.view.Site.{Site}
use Rattle.fcg_views.specs.declared.view.SiteKind.{SiteKind}
use Rattle.fcg_views.specs.declared.view.SiteKind.TheVariants.{Virtual, Interface, Special, Static, New, StaticField, Handle}
use Rattle.fcg_views.specs.declared.view.HandleKind.{HandleKind}
use Rattle.fcg_views.specs.declared.view.HandleKind.TheVariants.{K5, K6, K7, K8, K9}
use Rattle.fcg_views.specs.DescriptorSteps.{is_descriptor, is_field_descriptor}
use Rattle.fcg_classfile.specs.Breaks.Groups.{bad_group}
use Rattle.fcg_make.specs.declared.refusal.NotWritable.{NotWritable}
use Rattle.fcg_make.specs.declared.refusal.NotWritable.TheVariants as refusals
use Rattle.fcg_make.specs.Steps.{Step, steps_of, size_of}
use Rattle.fcg_make.specs.Needs.{rows_of, pool_of}

-- ==== names

-- a text that a Utf8 can hold (4.4.7), but for its length
abbrev pub is_groups : List ℕ → Bool
is_groups text = is_none (bad_group 0 text)

-- one that has a byte or more
abbrev pub is_name : List ℕ → Bool
is_name text = nat_lt 0 (length text) && is_groups text

abbrev pub is_name_or_none : Option (List ℕ) → Bool
is_name_or_none None = true
is_name_or_none (Some name) = is_name name

-- a site of `new` names no member
abbrev pub is_member_name : SiteKind → List ℕ → Bool
is_member_name New name = is_groups name
is_member_name kind name = is_name name

abbrev pub is_named_site : Site → Bool
is_named_site s = is_name s.target.owner && (is_member_name s.kind s.target.name && is_groups s.target.desc)

abbrev pub is_named_field : Field → Bool
is_named_field f = is_name f.name && is_groups f.desc

abbrev pub is_named_method : Method → Bool
is_named_method m = is_name m.name && (is_groups m.desc && list_all is_named_site m.sites)

unfoldable pub is_named : View → Bool
is_named v =
    is_name v.name && (is_name_or_none v.superclass && (list_all is_name v.interfaces
    && (list_all is_named_field v.fields && list_all is_named_method v.methods)))

-- ==== descriptors

-- a site of `new` has none
abbrev pub is_typed_by : SiteKind → List ℕ → Bool
is_typed_by New desc = true
is_typed_by StaticField desc = is_field_descriptor desc
is_typed_by kind desc = is_descriptor desc

abbrev pub is_typed_site : Site → Bool
is_typed_site s = is_typed_by s.kind s.target.desc

abbrev pub is_typed_field : Field → Bool
is_typed_field f = is_field_descriptor f.desc

abbrev pub is_typed_method : Method → Bool
is_typed_method m = is_descriptor m.desc && list_all is_typed_site m.sites

unfoldable pub is_typed : View → Bool
is_typed v = list_all is_typed_field v.fields && list_all is_typed_method v.methods

-- ==== kinds

-- whether a method handle of a kind may name a constant, by whether that is an InterfaceMethodref (4.4.8)
abbrev pub allows_handle : HandleKind → Bool → Bool
allows_handle K5 interface = not interface
allows_handle K6 interface = true
allows_handle K7 interface = true
allows_handle K8 interface = not interface
allows_handle K9 interface = interface

-- whether an instruction of a kind may (6.5)
abbrev pub allows : SiteKind → Bool → Bool
allows Virtual interface = not interface
allows Interface interface = interface
allows Special interface = true
allows Static interface = true
allows New interface = not interface
allows StaticField interface = not interface
allows (Handle kind) interface = allows_handle kind interface

-- A site of `new` names a type alone.
abbrev pub has_member : SiteKind → List ℕ → List ℕ → Bool
has_member New name desc = nat_le (length name) 0 && nat_le (length desc) 0
has_member kind name desc = true

abbrev pub is_kind_site : Site → Bool
is_kind_site s = allows s.kind s.target.owner_is_interface_ref && has_member s.kind s.target.name s.target.desc

abbrev pub is_kind_method : Method → Bool
is_kind_method m = list_all is_kind_site m.sites

-- A module (flag 8000) has no view.
unfoldable pub is_kind : View → Bool
is_kind v = nat_lt v.flags 0x8000 && list_all is_kind_method v.methods

-- ==== places

-- Instructions stand one after the other, from a place on, and `return` after them: the code has 65,535 bytes at most.
-- An instruction has at most 65,536 method handles.
abbrev pub is_placed_from : ℕ → List Step → Bool
is_placed_from at [] = nat_lt at 65535
is_placed_from at (t ∷ ts) =
    nat_le at t.first.pc && (nat_le (length t.more) 65535 && is_placed_from (t.first.pc + size_of t.first.kind) ts)

abbrev pub is_placed_method : Method → Bool
is_placed_method m = is_placed_from 0 (steps_of m.sites)

unfoldable pub is_placed : View → Bool
is_placed v = list_all is_placed_method v.methods

-- ==== the pool

-- Two bytes number at most 65,534 entries, since index 0 names none, and 65,535 rows.
unfoldable pub has_room : View → Bool
has_room v = nat_le (length (rows_of v.methods)) 65535 && nat_le (length (pool_of v)) 65534

-- the first rule, in this order, that the view breaks
unfoldable pub unwritable : View → Option NotWritable
unwritable v =
    if not (is_named v) then Some refusals.Name
    else (if not (is_typed v) then Some refusals.Descriptor
    else (if not (is_kind v) then Some refusals.Kind
    else (if not (is_placed v) then Some refusals.Places
    else (if not (has_room v) then Some refusals.PoolFull else None))))
