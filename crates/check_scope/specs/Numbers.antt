-- The rules by their numbers and names.
use Rattle.std.specs.Prelude.{ℕ, List, codes, nat_lt, if◌then◌else◌}
use Rattle.check_scope.specs.declared.rule.Rule.{Rule}
use Rattle.check_scope.specs.declared.rule.Rule.TheVariants.{DuplicateName, UnknownName, BadType, Cycle, Size, EnumNumbers, OperandType, ValueType, NotAssignable, Arguments, Fields, Condition, RunsOn, PortType, Redirect, CallKind, ReturnPlace, RepeatPlace, VerdictError, MtcPlace}

-- the number of a rule
abbrev pub number_of : Rule → ℕ
number_of DuplicateName = 1
number_of UnknownName = 2
number_of BadType = 3
number_of Cycle = 4
number_of Size = 5
number_of EnumNumbers = 6
number_of OperandType = 7
number_of ValueType = 8
number_of NotAssignable = 9
number_of Arguments = 10
number_of Fields = 11
number_of Condition = 12
number_of RunsOn = 13
number_of PortType = 14
number_of Redirect = 15
number_of CallKind = 16
number_of ReturnPlace = 17
number_of RepeatPlace = 18
number_of VerdictError = 19
number_of MtcPlace = 20

-- the name of a rule
abbrev pub name_of : Rule → List ℕ
name_of DuplicateName = codes "DuplicateName"
name_of UnknownName = codes "UnknownName"
name_of BadType = codes "BadType"
name_of Cycle = codes "Cycle"
name_of Size = codes "Size"
name_of EnumNumbers = codes "EnumNumbers"
name_of OperandType = codes "OperandType"
name_of ValueType = codes "ValueType"
name_of NotAssignable = codes "NotAssignable"
name_of Arguments = codes "Arguments"
name_of Fields = codes "Fields"
name_of Condition = codes "Condition"
name_of RunsOn = codes "RunsOn"
name_of PortType = codes "PortType"
name_of Redirect = codes "Redirect"
name_of CallKind = codes "CallKind"
name_of ReturnPlace = codes "ReturnPlace"
name_of RepeatPlace = codes "RepeatPlace"
name_of VerdictError = codes "VerdictError"
name_of MtcPlace = codes "MtcPlace"

-- the rule of the lesser number
abbrev pub lesser : Rule → Rule → Rule
lesser rule other = if nat_lt (number_of other) (number_of rule) then other else rule
