-- The fault at a place.
use Rattle.std.specs.Prelude.{ℕ, ◌-◌, ◌^◌, min, Result, Ok, Err}
use Rattle.fcg_classfile.specs.declared.fault.PoolFault.{PoolFault}
use Rattle.fcg_classfile.specs.declared.fault.PoolRule.{PoolRule}
use Rattle.fcg_classfile.specs.declared.fault.PoolRule.TheVariants as rules
use Rattle.fcg_classfile.specs.declared.fault.ClassFault.{ClassFault}
use Rattle.fcg_classfile.specs.declared.fault.ClassRule.{ClassRule}
use Rattle.fcg_classfile.specs.declared.fault.ClassRule.TheVariants.{Cut, BadTag, BadUtf8, BadIndex, WrongKind, CodeCut, BadOpcode, BadSwitch, BadWide}
use Rattle.fcg_classfile.specs.declared.code.CodeRule.{CodeRule}
use Rattle.fcg_classfile.specs.declared.code.CodeRule.TheVariants as codes

-- a place that is too large for its field is given as the field's last value
abbrev pub fault : ℕ → ℕ → ClassRule → ClassFault
fault at index rule = record { offset = min at (2 ^ 32 - 1); index = index; rule = rule }

-- a rule of the pool is one of the class file
abbrev pub rule_of : PoolRule → ClassRule
rule_of rules.Cut = Cut
rule_of rules.BadTag = BadTag
rule_of rules.BadUtf8 = BadUtf8
rule_of rules.BadIndex = BadIndex
rule_of rules.WrongKind = WrongKind

abbrev pub fault_of : PoolFault → ClassFault
fault_of f = record { offset = f.offset; index = f.index; rule = rule_of f.rule }

abbrev pub in_pool : {A : Type 0} → Result A PoolFault → Result A ClassFault
in_pool (Ok x) = Ok x
in_pool (Err f) = Err (fault_of f)

-- a rule that an index broke is a fault at a place
abbrev pub at_place : {A : Type 0} → ℕ → ℕ → Result A PoolRule → Result A ClassFault
at_place at index (Ok x) = Ok x
at_place at index (Err rule) = Err (fault at index (rule_of rule))

-- a rule of instructions is one of the class file
abbrev pub code_rule_of : CodeRule → ClassRule
code_rule_of codes.CodeCut = CodeCut
code_rule_of codes.BadOpcode = BadOpcode
code_rule_of codes.BadSwitch = BadSwitch
code_rule_of codes.BadWide = BadWide

-- a rule that an instruction broke is a fault at its opcode
abbrev pub at_opcode : {A : Type 0} → ℕ → Result A CodeRule → Result A ClassFault
at_opcode at (Ok x) = Ok x
at_opcode at (Err rule) = Err (fault at 0 (code_rule_of rule))
