-- The bodies of refusals.
use Rattle.std.specs.Prelude.{ℕ, List, [], ◌∷◌, codes}
use Rattle.std.specs.List.{concat}
use Rattle.std.specs.Fmt.{decimal}
use Rattle.fcg_classfile.specs.declared.fault.ClassFault.{ClassFault}
use Rattle.fcg_classfile.specs.declared.fault.ClassRule.{ClassRule}
use Rattle.fcg_classfile.specs.declared.fault.ClassRule.TheVariants as class_rules
use Rattle.fcg_class.specs.declared.bundle.BundleRule.{BundleRule}
use Rattle.fcg_class.specs.declared.bundle.BundleRule.TheVariants as bundle_rules
use Rattle.fcg_top.specs.declared.status.Refusal.{Refusal}
use Rattle.fcg_top.specs.declared.status.Refusal.TheVariants as refusals

abbrev pub bundle_rule_name : BundleRule → List ℕ
bundle_rule_name bundle_rules.Magic = codes "Magic"
bundle_rule_name bundle_rules.Version = codes "Version"
bundle_rule_name bundle_rules.Cut = codes "Cut"
bundle_rule_name bundle_rules.Path = codes "Path"
bundle_rule_name bundle_rules.Trailing = codes "Trailing"
bundle_rule_name bundle_rules.ManySites = codes "ManySites"

abbrev pub class_rule_name : ClassRule → List ℕ
class_rule_name class_rules.Magic = codes "Magic"
class_rule_name class_rules.Version = codes "Version"
class_rule_name class_rules.Cut = codes "Cut"
class_rule_name class_rules.BadTag = codes "BadTag"
class_rule_name class_rules.BadUtf8 = codes "BadUtf8"
class_rule_name class_rules.BadIndex = codes "BadIndex"
class_rule_name class_rules.WrongKind = codes "WrongKind"
class_rule_name class_rules.Descriptor = codes "Descriptor"
class_rule_name class_rules.EmptyName = codes "EmptyName"
class_rule_name class_rules.DoubleMethod = codes "DoubleMethod"
class_rule_name class_rules.DoubleCode = codes "DoubleCode"
class_rule_name class_rules.CodeLength = codes "CodeLength"
class_rule_name class_rules.CodeCut = codes "CodeCut"
class_rule_name class_rules.BadOpcode = codes "BadOpcode"
class_rule_name class_rules.BadSwitch = codes "BadSwitch"
class_rule_name class_rules.BadWide = codes "BadWide"
class_rule_name class_rules.Bootstrap = codes "Bootstrap"
class_rule_name class_rules.Trailing = codes "Trailing"
class_rule_name class_rules.ManySites = codes "ManySites"

-- a broken rule of a bundle
abbrev pub bad_bundle : ℕ → ℕ → BundleRule → List ℕ
bad_bundle entry offset rule = concat (codes "{\"entry\":" ∷ decimal entry ∷ codes ",\"fault\":\"BadBundle\",\"offset\":" ∷ decimal offset ∷ codes ",\"rule\":\"" ∷ bundle_rule_name rule ∷ codes "\"}" ∷ [])

-- a fault of an entry's class file
abbrev pub bad_class : ℕ → ClassFault → List ℕ
bad_class entry f = concat (codes "{\"entry\":" ∷ decimal entry ∷ codes ",\"fault\":\"BadClass\",\"index\":" ∷ decimal f.index ∷ codes ",\"offset\":" ∷ decimal f.offset ∷ codes ",\"rule\":\"" ∷ class_rule_name f.rule ∷ codes "\"}" ∷ [])

-- a path that a bundle may not have
abbrev pub bad_path : ℕ → List ℕ
bad_path entry = concat (codes "{\"entry\":" ∷ decimal entry ∷ codes ",\"fault\":\"BadPath\"}" ∷ [])

-- the body of a refusal
abbrev pub body_of : Refusal → List ℕ
body_of refusals.BodyTooLong = codes "{\"fault\":\"BodyTooLong\",\"limit\":67108864}"
body_of refusals.Jar = codes "{\"fault\":\"Jar\"}"
body_of (refusals.BadBundle entry offset rule) = bad_bundle entry offset rule
body_of (refusals.BadClass entry f) = bad_class entry f
body_of refusals.Absent = codes "{\"fault\":\"Absent\"}"
body_of refusals.TooLong = codes "{\"fault\":\"TooLong\"}"
body_of (refusals.BadPath entry) = bad_path entry
