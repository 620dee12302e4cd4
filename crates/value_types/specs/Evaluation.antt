-- The value of an expression (ES 201 873-1, 7).
use Rattle.std.specs.Prelude.{pos, Bool, List, [], ◌∷◌, if◌then◌else◌}
use Rattle.ttcn_syntax.specs.declared.operator.Operator.{Operator}
use Rattle.ttcn_syntax.specs.declared.tree.expression.Expr.{Expr, fold-Expr}
use Rattle.ttcn_syntax.specs.declared.tree.expression.Expr.TheOpen.{Expr-F, Link-F}
use Rattle.ttcn_syntax.specs.declared.tree.expression.Link.{Link, fold-Link}
use Rattle.value_arithmetic.specs.Integers.{within}
use Rattle.value_types.specs.Operations.{applied, decides, fitting, negated, truth, under_sign}
use Rattle.value_types.specs.Outcomes.{Outcome, Yields, or_unmet, outcome_and_then}
use Rattle.value_types.specs.Readings.{Reading, component_at, named, presence, runs}
use Rattle.value_types.specs.Values.{boolean}
use Rattle.value_types.specs.declared.value.Value.{Value}
use Rattle.value_types.specs.declared.value.Value.TheVariants as value

-- what something gives in a reading
abbrev pub Evaluation : Type 0
Evaluation = Reading → Outcome Value

-- a value with an operator and a right side behind it, which counts for nothing where the left side decides
abbrev pub joined : Reading → Operator × Evaluation → Value → Outcome Value
joined reading link left = if decides link.0 left then Yields left else outcome_and_then (applied link.0 left) (link.1 reading)

-- operators and operands behind what is found, from the left
abbrev pub after : Reading → Outcome Value → List (Operator × Evaluation) → Outcome Value
after reading found [] = found
after reading found (link ∷ links) = after reading (outcome_and_then (joined reading link) found) links

-- what one level of an expression gives in a reading, given what its operands give
abbrev pub expression_step : Expr-F Evaluation (Operator × Evaluation) → Evaluation
expression_step (Expr-F.Int n) reading = fitting (within (pos n))
expression_step (Expr-F.Bool b) reading = truth b
expression_step Expr-F.Null reading = Yields value.Null
expression_step (Expr-F.Reference reference) reading = component_at reading reference
expression_step (Expr-F.Running reference) reading = runs reading reference
expression_step (Expr-F.Ispresent reference) reading = outcome_and_then (presence reading.definitions reference.fields) (named reading reference.name)
expression_step (Expr-F.Not operand) reading = outcome_and_then negated (operand reading)
expression_step (Expr-F.Signed sign operand) reading = outcome_and_then (under_sign sign) (operand reading)
expression_step (Expr-F.Chain first links) reading = after reading (first reading) links

-- one link of a chain: its operator, with what its operand gives, which is given
abbrev pub link_step : Link-F Evaluation (Operator × Evaluation) → Operator × Evaluation
link_step link = (link.operator, link.operand)

-- what an expression gives
abbrev pub value_of : Expr → Evaluation
value_of = fold-Expr Evaluation (Operator × Evaluation) expression_step link_step

-- an operator with what the operand behind it gives
abbrev pub link : Link → Operator × Evaluation
link = fold-Link Evaluation (Operator × Evaluation) expression_step link_step

-- what a condition gives: no checked module has one that is no boolean
abbrev pub condition_of : Expr → Reading → Outcome Bool
condition_of e reading = outcome_and_then (λ v. or_unmet (boolean v)) (value_of e reading)
