-- Views whose flags and places have two bytes each, as the types of their fields have it.
use Rattle.std.specs.Prelude.{◌<◌, ◌^◌, All}
use Rattle.fcg_views.specs.declared.view.View.{View}
use Rattle.fcg_views.specs.declared.view.Method.{Method}
use Rattle.fcg_views.specs.declared.view.Field.{Field}
use Rattle.fcg_views.specs.declared.view.Site.{Site}

abbrev pub IsSmallSite : Site → Type 0
IsSmallSite s = s.pc < 2 ^ 16

abbrev pub IsSmallField : Field → Type 0
IsSmallField f = f.flags < 2 ^ 16

pub record IsSmallMethod (m : Method) : Type 0 where
  pub flags : m.flags < 2 ^ 16
  pub sites : All IsSmallSite m.sites

pub record IsSmallView (v : View) : Type 0 where
  pub flags : v.flags < 2 ^ 16
  pub fields : All IsSmallField v.fields
  pub methods : All IsSmallMethod v.methods
