-- The sites of a method's code (JVMS 6.5).
use Rattle.std.specs.Prelude.{◌≡◌, ℕ, ◌+◌, ◌<◌, ◌^◌, List, [], ◌∷◌, ◌++◌, length, Bool, true, false, nat_lt, Option, Some, None, ◌==◌, if◌then◌else◌}
use Rattle.std.specs.List.{flat_map, slice_get, AllZip}
use Rattle.fcg_grammar.specs.Spell.{u2}
use Rattle.fcg_classfile.specs.declared.code.DynamicCall.{DynamicCall}
use Rattle.fcg_views.specs.declared.view.Ref.{Ref}
use Rattle.fcg_views.specs.declared.view.Site.{Site}
use Rattle.fcg_views.specs.declared.view.SiteKind.{SiteKind}
use Rattle.fcg_views.specs.declared.view.SiteKind.TheVariants.{Virtual, Interface, Special, Static, New, StaticField, Handle}
use Rattle.fcg_views.specs.declared.view.HandleKind.TheVariants.{K5, K6, K7, K8, K9}
use Rattle.fcg_classfile.specs.ClassFile as file
use Rattle.fcg_classfile.specs.ClassFile.{is_one_of, handle_tags, Constant, BootstrapMethod}
use Rattle.fcg_classfile.specs.Constants.{constant_at, NamesClass, NamesReference, NamesDynamic}
use Rattle.fcg_views.specs.Descriptor.{IsDescriptor, IsFieldDescriptor}
use Rattle.fcg_classfile.specs.Instructions.{Instruction, Plain, TableSwitch, LookupSwitch, Widened, instruction}

-- what a site names: a method by a constant of one of these tags, 10 a Methodref, 11 an InterfaceMethodref; a field; a
-- type
pub data Target : Type 0 where
  ToMethod : List ℕ → Target
  ToField : Target
  ToType : Target

pub record SiteForm : Type 0 where
  pub kind : SiteKind
  pub target : Target

abbrev pub formed : SiteKind → Target → Option SiteForm
formed kind target = Some (record { kind = kind; target = target })

-- 178 getstatic, 179 putstatic; 182 invokevirtual, 183 invokespecial, 184 invokestatic, 185 invokeinterface; 187 new
abbrev pub site_form : ℕ → Option SiteForm
site_form op =
    if op == 182 then formed Virtual (ToMethod (10 ∷ []))
    else (if op == 183 then formed Special (ToMethod (10 ∷ 11 ∷ []))
    else (if op == 184 then formed Static (ToMethod (10 ∷ 11 ∷ []))
    else (if op == 185 then formed Interface (ToMethod (11 ∷ []))
    else (if op == 187 then formed New ToType
    else (if op == 178 then formed StaticField ToField
    else (if op == 179 then formed StaticField ToField else None))))))

-- 186 invokedynamic
abbrev pub is_dynamic : ℕ → Bool
is_dynamic op = op == 186

-- the kinds of method handles that call a method (4.4.8): 5 REF_invokeVirtual, 6 REF_invokeStatic, 7 REF_invokeSpecial,
-- 8 REF_newInvokeSpecial, 9 REF_invokeInterface
abbrev pub handle_form : ℕ → Option SiteForm
handle_form kind =
    if kind == 5 then formed (Handle K5) (ToMethod (handle_tags 5))
    else (if kind == 6 then formed (Handle K6) (ToMethod (handle_tags 6))
    else (if kind == 7 then formed (Handle K7) (ToMethod (handle_tags 7))
    else (if kind == 8 then formed (Handle K8) (ToMethod (handle_tags 8))
    else (if kind == 9 then formed (Handle K9) (ToMethod (handle_tags 9)) else None))))

-- a member of a type by a constant of one of these tags; the name of the type and its own have a byte or more
pub record IsMember (pool : List Constant) (IsTyped : List ℕ → Type 0) (tags : List ℕ) (index : ℕ) (r : Ref) : Type 0 where
  pub tag : ℕ
  pub allowed : is_one_of tags tag ≡ true
  pub named : NamesReference pool index tag r.owner r.name r.desc
  pub interface : r.owner_is_interface_ref ≡ (tag == 11)
  pub owner : 0 < length r.owner
  pub name : 0 < length r.name
  pub typed : IsTyped r.desc

-- a type alone
pub record IsType (pool : List Constant) (index : ℕ) (r : Ref) : Type 0 where
  pub named : NamesClass pool index r.owner
  pub owner : 0 < length r.owner
  pub interface : r.owner_is_interface_ref ≡ false
  pub name : r.name ≡ []
  pub desc : r.desc ≡ []

-- a Fieldref has the tag 9
abbrev pub IsTarget : List Constant → Target → ℕ → Ref → Type 0
IsTarget pool (ToMethod tags) index r = IsMember pool IsDescriptor tags index r
IsTarget pool ToField index r = IsMember pool IsFieldDescriptor (9 ∷ []) index r
IsTarget pool ToType index r = IsType pool index r

pub record IsSite (pool : List Constant) (form : SiteForm) (pc index : ℕ) (s : Site) : Type 0 where
  pub pc_is : s.pc ≡ pc
  pub kind_is : s.kind ≡ form.kind
  pub target_is : IsTarget pool form.target index s.target

-- ==== what instructions have by themselves

-- The index of an instruction stands in the two bytes after its opcode.
pub record HasIndex {X : Type 0} (Means : ℕ → X → Type 0) (operands : List ℕ) (x : X) : Type 0 where
  pub index : ℕ
  pub more : List ℕ
  pub few : index < 2 ^ 16
  pub spelled : operands ≡ u2 index ++ more
  pub means : Means index x

abbrev pub AreFormed : List Constant → Option SiteForm → ℕ → List ℕ → List Site → Type 0
AreFormed pool None pc operands sites = sites ≡ []
AreFormed pool (Some form) pc operands sites = (s : Site) × (sites ≡ s ∷ []) × HasIndex (IsSite pool form pc) operands s

-- an invokedynamic by its bootstrap method
pub record IsCall (pool : List Constant) (pc index : ℕ) (c : DynamicCall) : Type 0 where
  pub pc_is : c.pc ≡ pc
  pub named : NamesDynamic pool index c.bootstrap

abbrev pub AreDynamic : List Constant → Bool → ℕ → List ℕ → List DynamicCall → Type 0
AreDynamic pool false pc operands calls = calls ≡ []
AreDynamic pool true pc operands calls = (c : DynamicCall) × (calls ≡ c ∷ []) × HasIndex (IsCall pool pc) operands c

-- sites, and calls whose sites a bootstrap method has
pub record Found : Type 0 where
  pub sites : List Site
  pub calls : List DynamicCall

abbrev pub nothing : Found
nothing = record { sites = []; calls = [] }

abbrev pub both : Found → Found → Found
both x y = record { sites = x.sites ++ y.sites; calls = x.calls ++ y.calls }

-- what the instruction whose opcode is at a place has
abbrev pub AreOf : List Constant → ℕ → Instruction → Found → Type 0
AreOf pool pc (Plain op operands) x = AreFormed pool (site_form op) pc operands x.sites × AreDynamic pool (is_dynamic op) pc operands x.calls
AreOf pool pc (TableSwitch op pad default low high offsets) x = x ≡ nothing
AreOf pool pc (LookupSwitch op pad default count pairs) x = x ≡ nothing
AreOf pool pc (Widened op inner operands) x = x ≡ nothing

-- what instructions have that stand one after the other from a place on, in their order
abbrev pub AreFound : List Constant → ℕ → List Instruction → Found → Type 0
AreFound pool pc [] x = x ≡ nothing
AreFound pool pc (i ∷ is) x =
    (here others : Found) × (x ≡ both here others) × AreOf pool pc i here × AreFound pool (pc + length (instruction i)) is others

-- ==== what calls have by their bootstrap methods

abbrev pub concat_sites : List (List Site) → List Site
concat_sites each = flat_map (λ sites. sites) each

abbrev pub AreFormedAt : List Constant → Option SiteForm → ℕ → ℕ → List Site → Type 0
AreFormedAt pool None pc index sites = sites ≡ []
AreFormedAt pool (Some form) pc index sites = (s : Site) × (sites ≡ s ∷ []) × IsSite pool form pc index s

-- a method handle has a site where it calls a method; no other constant has one
abbrev pub AreOfConstant : List Constant → ℕ → Constant → List Site → Type 0
AreOfConstant pool pc (file.Utf8 text) sites = sites ≡ []
AreOfConstant pool pc (file.Plain tag bytes) sites = sites ≡ []
AreOfConstant pool pc (file.Named tag i) sites = sites ≡ []
AreOfConstant pool pc (file.Pair tag i j) sites = sites ≡ []
AreOfConstant pool pc (file.Handle kind i) sites = AreFormedAt pool (handle_form kind) pc i sites

abbrev pub AreOfIndex : List Constant → ℕ → ℕ → List Site → Type 0
AreOfIndex pool pc index sites = (c : Constant) × (constant_at pool index ≡ Some c) × AreOfConstant pool pc c sites

-- a bootstrap method: a method handle, and then the static arguments
pub record AreOfBootstrap (pool : List Constant) (pc : ℕ) (b : BootstrapMethod) (sites : List Site) : Type 0 where
  pub kind : ℕ
  pub index : ℕ
  pub handle : constant_at pool b.handle ≡ Some (file.Handle kind index)
  pub each : List (List Site)
  pub each_is : AllZip (AreOfIndex pool pc) (b.handle ∷ b.arguments) each
  pub all : sites ≡ concat_sites each

-- the handle sites of an invokedynamic
abbrev pub AreOfCall : List Constant → List BootstrapMethod → DynamicCall → List Site → Type 0
AreOfCall pool rows call sites = (b : BootstrapMethod) × (slice_get rows call.bootstrap ≡ Some b) × AreOfBootstrap pool call.pc b sites

-- two lists of sites, each in the order of pc, as one in this order
abbrev pub merged : List Site → List Site → List Site
merged [] hs = hs
merged (s ∷ ss) [] = s ∷ ss
merged (s ∷ ss) (h ∷ hs) = if nat_lt h.pc s.pc then h ∷ merged (s ∷ ss) hs else s ∷ merged ss (h ∷ hs)

-- the sites of a method: those of its instructions, with the handle sites of its calls
pub record AreSites (pool : List Constant) (rows : List BootstrapMethod) (x : Found) (sites : List Site) : Type 0 where
  pub each : List (List Site)
  pub each_is : AllZip (AreOfCall pool rows) x.calls each
  pub merged_are : sites ≡ merged x.sites (concat_sites each)
