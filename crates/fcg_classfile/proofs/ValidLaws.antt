-- The view of a class file is valid.
use Rattle.std.proofs.Common.{◌≡◌, ℕ, zero, suc, ◌^◌, ◌<◌, Bool, true, false, cond, ltb, List, [], ◌∷◌, ◌++◌, length, Option, Some, None, refl, sym, ap, subst, inl, inr, ◌+◌, arith}
use Rattle.std.specs.Prelude.{codes}
use Rattle.std.specs.List.{All, AllByRecursion, AllZip}
use Rattle.std.proofs.lemmas.List.Concat.{flat_map-cons}
use Rattle.fcg_classfile.specs.declared.code.DynamicCall.{DynamicCall}
use Rattle.fcg_views.specs.declared.view.View.{View}
use Rattle.fcg_views.specs.declared.view.Field.{Field}
use Rattle.fcg_views.specs.declared.view.Method.{Method}
use Rattle.fcg_views.specs.declared.view.Ref.{Ref}
use Rattle.fcg_views.specs.declared.view.Site.{Site}
use Rattle.fcg_classfile.specs.ClassFile as file
use Rattle.fcg_classfile.specs.ClassFile.{Constant, Utf8, Named, Pair, Handle, slots, Attribute, BootstrapMethod, MemberInfo, ClassFile}
use Rattle.fcg_classfile.specs.Constants.{NamesUtf8, NamesReference}
use Rattle.fcg_classfile.specs.Reads.{NamesType, NamesSuper, Fits, HasOne, SaysCode, IsFieldOf, IsMethodOf, IsViewOf, Reads}
use Rattle.fcg_classfile.specs.Instructions.{Instruction, Plain, TableSwitch, LookupSwitch, Widened, instruction}
use Rattle.fcg_classfile.specs.Sites.{Target, ToMethod, ToField, ToType, SiteForm, site_form, handle_form, IsTarget, IsSite, AreFormed, Found, nothing, AreOf, AreFound, concat_sites, AreFormedAt, AreOfConstant, AreOfIndex, AreOfCall, merged, AreSites}
use Rattle.fcg_classfile.proofs.KeptLaws.{at_slot, all_slots}
use Rattle.fcg_classfile.proofs.WordLaws.{methods_distinct}
use Rattle.fcg_views.specs.Valid.{IsShort, IsTable, IsShortOrNone, HasShortNames, IsValidField, IsValidMethod, IsValid}

zip_many : {C X : Type 0} (R : C → X → Type 0) (cs : List C) (xs : List X) → AllZip R cs xs → length xs ≡ length cs
zip_many R [] [] z = refl
zip_many R [] (x ∷ xs) z = absurd z
zip_many R (c ∷ cs) [] z = absurd z
zip_many R (c ∷ cs) (x ∷ xs) z = ap suc (zip_many R cs xs z.1)

each_all : {X : Type 0} (P : X → Type 0) (xs : List X) → AllByRecursion P xs → All P xs
each_all P [] each k d lt = absurd (omega arith)
each_all P (x ∷ xs) each zero d lt = each.0
each_all P (x ∷ xs) each (suc k) d lt = each_all P xs each.1 k d (omega arith)

pub zip_right : {C X : Type 0} (R : C → X → Type 0) (P : X → Type 0) → ((c : C) (x : X) → R c x → P x) → (cs : List C) (xs : List X) → AllZip R cs xs → AllByRecursion P xs
zip_right R P h [] [] z = tt
zip_right R P h [] (x ∷ xs) z = absurd z
zip_right R P h (c ∷ cs) [] z = absurd z
zip_right R P h (c ∷ cs) (x ∷ xs) z = (h c x z.0, zip_right R P h cs xs z.1)

table_is : {C X : Type 0} (R : C → X → Type 0) (P : X → Type 0) → ((c : C) (x : X) → R c x → P x) → (cs : List C) (xs : List X) → length cs < 2 ^ 16 → AllZip R cs xs → IsTable P xs
table_is R P h cs xs few z = let many = zip_many R cs xs z in (omega arith, each_all P xs (zip_right R P h cs xs z))

module _ (cs : List Constant) (fit : AllByRecursion Fits cs) where
  short : (i : ℕ) (text : List ℕ) → NamesUtf8 cs i text → IsShort text
  short zero text is = absurd cc
  short (suc i) text is = let fits = at_slot Fits (slots cs) i (Utf8 text) (all_slots Fits cs fit) is in let few = fits.0 in omega arith

  short_type : (i : ℕ) (name : List ℕ) → NamesType cs i name → IsShort name
  short_type i name is = short is.1.0 name is.1.2

  short_super : (i : ℕ) (name : Option (List ℕ)) → NamesSuper cs i name → IsShortOrNone name
  short_super i None is = tt
  short_super i (Some name) is = short_type i name is.1

  -- the sites that the constants of the pool name have short names
  short_reference : (tag index : ℕ) (owner name desc : List ℕ) → NamesReference cs index tag owner name desc → IsShort owner × IsShort name × IsShort desc
  short_reference tag index owner name desc (i, j, pair, class, (n, d, member, name_is, desc_is)) = (short class.0 owner class.2, short n name name_is, short d desc desc_is)

  short_empty : (text : List ℕ) → text ≡ [] → IsShort text
  short_empty text is = let none : length text ≡ 0 = ap length is in omega arith

  short_target : (target : Target) (index : ℕ) (r : Ref) → IsTarget cs target index r → IsShort r.owner × IsShort r.name × IsShort r.desc
  short_target (ToMethod tags) index r is = short_reference is.tag index r.owner r.name r.desc is.named
  short_target ToField index r is = short_reference is.tag index r.owner r.name r.desc is.named
  short_target ToType index r is = (short is.named.0 r.owner is.named.2, short_empty r.name is.name, short_empty r.desc is.desc)

  short_site : (form : SiteForm) (pc index : ℕ) (s : Site) → IsSite cs form pc index s → HasShortNames s
  short_site form pc index s is = short_target form.target index s.target is.target_is

  abbrev AllShort : List Site → Type 0
  AllShort sites = AllByRecursion HasShortNames sites

  short_formed : (form : Option SiteForm) (pc : ℕ) (operands : List ℕ) (sites : List Site) → AreFormed cs form pc operands sites → AllShort sites
  short_formed None pc operands sites is = subst AllShort (sym is) tt
  short_formed (Some form) pc operands sites is = subst AllShort (sym is.1) (short_site form pc is.2.index is.0 is.2.means, tt)

  short_none : (sites : List Site) → sites ≡ [] → AllShort sites
  short_none sites is = subst AllShort (sym is) tt

  short_nothing : (x : Found) → x ≡ nothing → AllShort x.sites
  short_nothing x is = short_none x.sites (ap (λ (y : Found). y.sites) is)

  short_of : (pc : ℕ) (i : Instruction) (x : Found) → AreOf cs pc i x → AllShort x.sites
  short_of pc (Plain op operands) x is = short_formed (site_form op) pc operands x.sites is.0
  short_of pc (TableSwitch op pad default low high offsets) x is = short_nothing x is
  short_of pc (LookupSwitch op pad default count pairs) x is = short_nothing x is
  short_of pc (Widened op inner operands) x is = short_nothing x is

  both_short : (xs ys : List Site) → AllShort xs → AllShort ys → AllShort (xs ++ ys)
  both_short [] ys p q = q
  both_short (x ∷ xs) ys p q = (p.0, both_short xs ys p.1 q)

  short_found : (pc : ℕ) (is : List Instruction) (x : Found) → AreFound cs pc is x → AllShort x.sites
  short_found pc [] x are = short_nothing x are
  short_found pc (i ∷ is) x (here, others, joined, at, rest) =
      subst (λ (y : Found). AllShort y.sites) (sym joined) (both_short here.sites others.sites (short_of pc i here at) (short_found (pc + length (instruction i)) is others rest))

  short_in : (attributes : List Attribute) (x : Found) → HasOne cs (codes "Code") (SaysCode cs) nothing attributes x → AllShort x.sites
  short_in [] x has = short_nothing x has
  short_in (a ∷ more) x (inl (other, has)) = short_in more x has
  short_in (a ∷ more) x (inr (named, code, others)) = short_found 0 code.2.instructions x code.2.found

  -- handle sites
  short_at : (form : Option SiteForm) (pc index : ℕ) (sites : List Site) → AreFormedAt cs form pc index sites → AllShort sites
  short_at None pc index sites is = short_none sites is
  short_at (Some form) pc index sites (s, is, site) = subst AllShort (sym is) (short_site form pc index s site, tt)

  short_constant : (pc : ℕ) (c : Constant) (sites : List Site) → AreOfConstant cs pc c sites → AllShort sites
  short_constant pc (Utf8 text) sites is = short_none sites is
  short_constant pc (file.Plain tag bytes) sites is = short_none sites is
  short_constant pc (Named tag i) sites is = short_none sites is
  short_constant pc (Pair tag i j) sites is = short_none sites is
  short_constant pc (Handle kind i) sites is = short_at (handle_form kind) pc i sites is

  short_index : (pc index : ℕ) (sites : List Site) → AreOfIndex cs pc index sites → AllShort sites
  short_index pc index sites (c, is, are) = short_constant pc c sites are

  all_joined : {X : Type 0} (Are : X → List Site → Type 0) → ((x : X) (sites : List Site) → Are x sites → AllShort sites) → (xs : List X) (each : List (List Site)) → AllZip Are xs each → AllShort (concat_sites each)
  all_joined Are h [] [] z = tt
  all_joined Are h [] (sites ∷ more) z = absurd z
  all_joined Are h (x ∷ xs) [] z = absurd z
  all_joined Are h (x ∷ xs) (sites ∷ more) z =
      subst AllShort (sym (flat_map-cons (λ (l : List Site). l) sites more)) (both_short sites (concat_sites more) (h x sites z.0) (all_joined Are h xs more z.1))

  short_call : (rows : List BootstrapMethod) (call : DynamicCall) (sites : List Site) → AreOfCall cs rows call sites → AllShort sites
  short_call rows call sites (b, is, are) = subst AllShort (sym are.all) (all_joined (AreOfIndex cs call.pc) (short_index call.pc) (b.handle ∷ b.arguments) are.each are.each_is)

  one_of : (b : Bool) (xs ys : List Site) → AllShort xs → AllShort ys → AllShort (cond b xs ys)
  one_of true xs ys p q = p
  one_of false xs ys p q = q

  short_merged : (ss hs : List Site) → AllShort ss → AllShort hs → AllShort (merged ss hs)
  short_merged [] hs p q = q
  short_merged (s ∷ ss) [] p q = p
  short_merged (s ∷ ss) (h ∷ hs) p q = one_of (ltb h.pc s.pc) _ _ (q.0, short_merged (s ∷ ss) hs p q.1) (p.0, short_merged ss (h ∷ hs) p.1 q)

  short_sites : (rows : List BootstrapMethod) (x : Found) (sites : List Site) → AllShort x.sites → AreSites cs rows x sites → AllShort sites
  short_sites rows x sites short are =
      subst AllShort (sym are.merged_are) (short_merged x.sites (concat_sites are.each) short (all_joined (AreOfCall cs rows) (short_call rows) x.calls are.each are.each_is))

  valid_method : (rows : List BootstrapMethod) (c : MemberInfo) (m : Method) → IsMethodOf cs rows c m → IsValidMethod m
  valid_method rows c m is =
      (short c.name m.name is.declared.name_is, short c.desc m.desc is.declared.desc_is, each_all HasShortNames m.sites (short_sites rows is.found m.sites (short_in c.attributes is.found is.code.code) is.sites))

  valid_field : (c : MemberInfo) (f : Field) → IsFieldOf cs c f → IsValidField f
  valid_field c f is = (short c.name f.name is.declared.name_is, short c.desc f.desc is.declared.desc_is)

view_valid : (c : ClassFile) (v : View) → IsViewOf c v → IsValid v
view_valid c v is =
    let pool : List Constant = c.pool in
    let fit = is.pool.fit in
    record {
      name = short_type pool fit c.this v.name is.name;
      superclass = short_super pool fit c.super v.superclass is.super;
      interfaces = table_is (NamesType pool) IsShort (short_type pool fit) c.interfaces v.interfaces is.few_interfaces is.interfaces;
      fields = table_is (IsFieldOf pool) IsValidField (valid_field pool fit) c.fields v.fields is.few_fields is.fields;
      methods = table_is (IsMethodOf pool is.rows) IsValidMethod (valid_method pool fit is.rows) c.methods v.methods is.few_methods is.methods;
      distinct = methods_distinct v.methods is.distinct;
      few_sites = is.few_sites;
    }

pub reads_valid : (bytes : List ℕ) (v : View) → Reads bytes (Some v) → IsValid v
reads_valid bytes v r = subst IsValid (sym r.shown.1) (view_valid r.file r.view r.is)
