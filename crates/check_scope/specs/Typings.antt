-- What is known of types, and what fits what (ES 201 873-1, 6 and 7.1).
use Rattle.std.specs.Prelude.{Bool, List, None, Option, Some, [], false, if◌then◌else◌, nat_eq, not, true, ◌&&◌, ◌∷◌}
use Rattle.ttcn_syntax.specs.declared.operator.Operator.{Operator}
use Rattle.ttcn_syntax.specs.declared.operator.Operator.TheVariants as operator
use Rattle.check_scope.specs.declared.rule.Rule.{Rule}
use Rattle.check_scope.specs.declared.types.DataType.{DataType}
use Rattle.check_scope.specs.declared.types.DataType.TheVariants as type
use Rattle.check_scope.specs.declared.types.Typing.{Typing}
use Rattle.check_scope.specs.declared.types.Typing.TheVariants as typing
use Rattle.check_scope.specs.declared.types.Target.{Target}

-- a rule is broken, unless this holds
abbrev pub unless : Bool → Rule → List Rule
unless true rule = []
unless false rule = rule ∷ []

-- two types are the same: built in and alike, or of one kind and defined at one position
abbrev pub same_type : DataType → DataType → Bool
same_type type.Integer type.Integer = true
same_type type.Boolean type.Boolean = true
same_type type.Default type.Default = true
same_type (type.Record at) (type.Record other) = nat_eq at other
same_type (type.Enumerated at) (type.Enumerated other) = nat_eq at other
same_type (type.Component at) (type.Component other) = nat_eq at other
same_type _ _ = false

-- a type is a component type
abbrev pub is_component : DataType → Bool
is_component (type.Component at) = true
is_component _ = false

-- a type is `default`
abbrev pub is_default : DataType → Bool
is_default type.Default = true
is_default _ = false

-- the typing of what is of a type, if that is known
abbrev pub typed : Option DataType → Typing
typed (Some type) = typing.Known type
typed None = typing.Unknown

-- something of this typing is a reference to a component: not judged where the typing is unknown
abbrev pub refers_to_component : Typing → Bool
refers_to_component (typing.Known type) = is_component type
refers_to_component typing.Null = false
refers_to_component typing.AnyComponent = true
refers_to_component typing.NoValue = false
refers_to_component typing.Unknown = true

-- something of this typing may go to a target of a type: `null` to component types and `default`
abbrev pub goes_to : DataType → Typing → Bool
goes_to target (typing.Known type) = same_type target type
goes_to target typing.Null = if is_component target then true else is_default target
goes_to target typing.AnyComponent = is_component target
goes_to target typing.NoValue = false
goes_to target typing.Unknown = true

-- something of this typing may go to a target whose type may be unknown: then the typing is not judged
abbrev pub fits : Option DataType → Typing → Bool
fits None found = true
fits (Some target) found = goes_to target found

-- what an operator gives: arithmetic gives integers, the others give booleans
abbrev pub result_of : Operator → DataType
result_of operator.Add = type.Integer
result_of operator.Subtract = type.Integer
result_of operator.Multiply = type.Integer
result_of operator.Divide = type.Integer
result_of operator.Mod = type.Integer
result_of operator.Rem = type.Integer
result_of _ = type.Boolean

-- `==` and `!=` compare values of any one type
abbrev pub compares : Operator → Bool
compares operator.Equal = true
compares operator.NotEqual = true
compares _ = false

-- the type of the operands of the other operators
abbrev pub operands_of : Operator → DataType
operands_of operator.Or = type.Boolean
operands_of operator.Xor = type.Boolean
operands_of operator.And = type.Boolean
operands_of _ = type.Integer

-- something of this typing may stand beside `==` and `!=`: no port, timer or default may
abbrev pub has_equality : Typing → Bool
has_equality (typing.Known type) = not (is_default type)
has_equality typing.NoValue = false
has_equality _ = true

-- `==` and `!=` have these operands: of one type, but not `default`; all references to components and `null` are of one.
-- Where the typing of one is unknown, the other is judged by itself
abbrev pub comparable : Typing → Typing → Bool
comparable typing.Unknown other = has_equality other
comparable one typing.Unknown = has_equality one
comparable (typing.Known type) (typing.Known other) =
    if is_component type then is_component other else (same_type type other && not (is_default type))
comparable (typing.Known type) typing.Null = is_component type
comparable (typing.Known type) typing.AnyComponent = is_component type
comparable typing.Null (typing.Known other) = is_component other
comparable typing.Null typing.Null = true
comparable typing.Null typing.AnyComponent = true
comparable typing.AnyComponent (typing.Known other) = is_component other
comparable typing.AnyComponent typing.Null = true
comparable typing.AnyComponent typing.AnyComponent = true
comparable _ typing.NoValue = false
comparable typing.NoValue _ = false

-- something of this typing is of a type: not judged where the typing is unknown
abbrev pub is_of : DataType → Typing → Bool
is_of wanted (typing.Known type) = same_type wanted type
is_of wanted typing.Null = false
is_of wanted typing.AnyComponent = false
is_of wanted typing.NoValue = false
is_of wanted typing.Unknown = true

-- a target of a type, which has a value
abbrev pub target_of : Option DataType → Target
target_of t = record { data_type = t; optional = false }

-- a target of which nothing is known: nothing is judged by it
abbrev pub any_target : Target
any_target = record { data_type = None; optional = true }

-- the type that a typing names, where it names one
abbrev pub type_known : Typing → Option DataType
type_known (typing.Known t) = Some t
type_known _ = None
