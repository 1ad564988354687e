-- What fits the two bytes of a length or a count.
use Rattle.std.specs.Prelude.{◌<◌, ◌≤◌, ◌^◌, length}
use Rattle.std.specs.List.{AllByRecursion}
use Rattle.fcg_views.specs.declared.view.View.{View}
use Rattle.fcg_views.specs.declared.view.Field.{Field}
use Rattle.fcg_views.specs.declared.view.Method.{Method}
use Rattle.fcg_make.specs.declared.entry.Entry.{Entry}
use Rattle.fcg_make.specs.declared.entry.Entry.TheVariants.{Text, Class, Member, Reference, Handle, Dynamic}
use Rattle.fcg_make.specs.Steps.{Step}

-- the length of a text
abbrev pub IsShortText : Entry → Type 0
IsShortText (Text text) = length text < 2 ^ 16
IsShortText (Class name) = Unit {0}
IsShortText (Member name desc) = Unit {0}
IsShortText (Reference tag owner name desc) = Unit {0}
IsShortText (Handle kind tag owner name desc) = Unit {0}
IsShortText (Dynamic row) = Unit {0}

-- the number of handle sites after the first
abbrev pub HasFewHandles : Step → Type 0
HasFewHandles t = length t.more ≤ 65535

-- access flags
abbrev pub IsFlaggedField : Field → Type 0
IsFlaggedField f = f.flags < 2 ^ 16

abbrev pub IsFlaggedMethod : Method → Type 0
IsFlaggedMethod m = m.flags < 2 ^ 16

-- all flags of fields and methods
abbrev pub IsFlagged : View → Type 0
IsFlagged v = AllByRecursion IsFlaggedField v.fields × AllByRecursion IsFlaggedMethod v.methods
