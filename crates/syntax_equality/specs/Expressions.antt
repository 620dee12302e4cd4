-- Expressions, and what they are made of, that `==` finds equal are one.
use Rattle.std.proofs.Common.{◌≡◌, Bool, true, ◌&&◌, nat_eq, sym, ap, subst, ◌∙◌}
use Rattle.std.proofs.Math.Bool.{beq}
use Rattle.std.proofs.lemmas.Bool.{and_parts}
use Rattle.std.specs.Cmp.Lexicographic.{pointwise}
use Rattle.syntax_equality.specs.Equality.{IsOne, Known, OneAt, boolean_one, known_list_one, last, list_one, more, name_one, none, number_one, tests_of, variant_one}
use Rattle.ttcn_syntax.specs.contracts.operator.Operator.{the_type as operator_type}
use Rattle.ttcn_syntax.specs.contracts.operator.OperatorPartialEq.TheImpl as operators
use Rattle.ttcn_syntax.specs.contracts.operator.Sign.{the_type as sign_type}
use Rattle.ttcn_syntax.specs.contracts.operator.SignPartialEq.TheImpl as signs
use Rattle.ttcn_syntax.specs.contracts.place.SpanPartialEq.TheImpl as places
use Rattle.ttcn_syntax.specs.contracts.tree.expression.ComponentRef.{enum as component_enum}
use Rattle.ttcn_syntax.specs.contracts.tree.expression.ComponentRefPartialEq.TheImpl as components
use Rattle.ttcn_syntax.specs.contracts.tree.expression.Expr.{enum as expression_enum}
use Rattle.ttcn_syntax.specs.contracts.tree.expression.ExprPartialEq.TheImpl as expressions
use Rattle.ttcn_syntax.specs.contracts.tree.expression.ExprPartialEq.TheImpl.Laws as of_expressions
use Rattle.ttcn_syntax.specs.contracts.tree.expression.LinkPartialEq.TheImpl as links
use Rattle.ttcn_syntax.specs.contracts.tree.expression.LinkPartialEq.TheImpl.Laws as of_links
use Rattle.ttcn_syntax.specs.contracts.tree.expression.ReferencePartialEq.TheImpl as references
use Rattle.ttcn_syntax.specs.declared.operator.Operator.{Operator}
use Rattle.ttcn_syntax.specs.declared.operator.Sign.{Sign}
use Rattle.ttcn_syntax.specs.declared.place.Span.{Span}
use Rattle.ttcn_syntax.specs.declared.tree.expression.ComponentRef.{ComponentRef}
use Rattle.ttcn_syntax.specs.declared.tree.expression.ComponentRef.TheVariants as component
use Rattle.ttcn_syntax.specs.declared.tree.expression.Expr.{Expr, out-roll-Expr, roll-Expr}
use Rattle.ttcn_syntax.specs.declared.tree.expression.Expr.TheBlock.{split-Expr, the_carrier, the_members, the_sigs}
use Rattle.ttcn_syntax.specs.declared.tree.expression.Expr.TheFolds.{ind-Expr, ind-Link, map-Expr, map-Link}
use Rattle.ttcn_syntax.specs.declared.tree.expression.Expr.TheOpen.{Expr-F, Link-F}
use Rattle.ttcn_syntax.specs.declared.tree.expression.Link.{Link, out-Link, roll-Link, roll-out-Link}
use Rattle.ttcn_syntax.specs.declared.tree.expression.Reference.{Reference}
use denote.Enum.Bare.{same_true}
use denote.Enum.Compared.{Each}
use denote.Enum.Declared.{Choice}
use denote.Hole.Carrier.{Values}

-- ---- what has no expression in it

pub place_one : (a : Span) → IsOne Span (places.ghosts).eq a
place_one a b h = let p = and_parts _ _ h in λ i. record { line = number_one a.line b.line p.0 i; column = number_one a.column b.column p.1 i }

pub operator_one : (a : Operator) → IsOne Operator (operators.ghosts).eq a
operator_one = same_true operator_type _

pub sign_one : (a : Sign) → IsOne Sign (signs.ghosts).eq a
sign_one = same_true sign_type _

pub reference_one : (a : Reference) → IsOne Reference (references.ghosts).eq a
reference_one a b h = let p = and_parts _ _ h in λ i. record { name = name_one a.name b.name p.0 i; fields = list_one _ name_one a.fields b.fields p.1 i }

component_at : (a : ComponentRef) → OneAt component_enum.parts (tests_of component_enum (components.ghosts).eq) (component_enum.as_values a)
component_at component.Itself = none
component_at component.Mtc = none
component_at (component.Named reference) = last (reference_one reference)

pub component_one : (a : ComponentRef) → IsOne ComponentRef (components.ghosts).eq a
component_one a = variant_one component_enum (tests_of component_enum (components.ghosts).eq) a (component_at a)

-- ---- expressions and links: one level, over those that are known to equal themselves alone

-- `==` of expressions
abbrev same : Expr → Expr → Bool
same = (expressions.ghosts).eq

-- `==` of links, each an operator of a chain with the operand behind it
abbrev same_link : Link → Link → Bool
same_link = (links.ghosts).eq

-- the tests of each variant of an expression
abbrev each : Each Bool expression_enum.parts
each = (
  λ a b. nat_eq a.0 b.0,
  (
    λ a b. beq a.0 b.0,
    (
      λ a b. true,
      (
        λ a b. (components.ghosts).eq a.0 b.0,
        (
          λ a b. (components.ghosts).eq a.0 b.0,
          (
            λ a b. (references.ghosts).eq a.0 b.0,
            (
              λ a b. same a.0 b.0,
              (
                λ a b. (signs.ghosts).eq a.0 b.0 && same a.1.0 b.1.0,
                (
                  λ a b. same a.0 b.0 && pointwise same_link a.1.0 b.1.0,
                  tt,
                ),
              ),
            ),
          ),
        ),
      ),
    ),
  ),
)

-- one level of an expression as its variant, with the values of the variant's fields
abbrev values_of : Expr-F Expr Link → Choice expression_enum.parts
values_of = split-Expr (Values the_members the_sigs the_carrier)

-- one level of an expression, without what is known of its parts
abbrev bare : Expr-F (Known same) (Known same_link) → Expr-F Expr Link
bare = map-Expr (Known same) (Known same_link) Expr Link (λ k. k.0) (λ k. k.0)

-- one level of a link, without what is known of its parts
abbrev bare_link : Link-F (Known same) (Known same_link) → Link-F Expr Link
bare_link = map-Link (Known same) (Known same_link) Expr Link (λ k. k.0) (λ k. k.0)

level : (y : Expr-F (Known same) (Known same_link)) → OneAt expression_enum.parts each (values_of (bare y))
level (Expr-F.Int n) = last (number_one n)
level (Expr-F.Bool b) = last (boolean_one b)
level Expr-F.Null = none
level (Expr-F.Reference component) = last (component_one component)
level (Expr-F.Running component) = last (component_one component)
level (Expr-F.Ispresent reference) = last (reference_one reference)
level (Expr-F.Not operand) = last operand.1
level (Expr-F.Signed sign operand) = more (sign_one sign) (last operand.1)
level (Expr-F.Chain operand links) = more operand.1 (last (known_list_one same_link links))

expression_step : (x : Expr-F Expr Link) (y : Expr-F (Known same) (Known same_link)) → bare y ≡ x → IsOne Expr same (roll-Expr x)
expression_step x y is-bare b h =
    let at = subst (λ v. OneAt expression_enum.parts each (values_of v)) (is-bare ∙ sym (out-roll-Expr x)) (level y) in
    variant_one expression_enum each (roll-Expr x) at b (sym (of_expressions.is (roll-Expr x) b) ∙ h)

link_step : (x : Link-F Expr Link) (y : Link-F (Known same) (Known same_link)) → bare_link y ≡ x → IsOne Link same_link (roll-Link x)
link_step x y is-bare = subst (λ v. IsOne Link same_link (roll-Link v)) is-bare (λ b h.
    let p = and_parts _ _ (sym (of_links.is (roll-Link (bare_link y)) b) ∙ h) in
    let operator_is = operator_one y.operator (out-Link b).operator p.0 in
    let operand_is = y.operand.1 (out-Link b).operand p.1 in
    ap roll-Link (λ i. record { operator = operator_is i; operand = operand_is i }) ∙ roll-out-Link b)

pub expression_one : (a : Expr) → IsOne Expr same a
expression_one = ind-Expr (IsOne Expr same) (IsOne Link same_link) expression_step link_step

pub link_one : (a : Link) → IsOne Link same_link a
link_one = ind-Link (IsOne Expr same) (IsOne Link same_link) expression_step link_step
