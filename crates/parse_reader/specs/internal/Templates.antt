-- What is read as templates.
use Rattle.std.specs.Prelude.{ℕ, zero, suc, ◌||◌, ◌&&◌, Bool, false, if◌then◌else◌, List, [], ◌∷◌, length, Option, Some, None}
use Rattle.ttcn_syntax.specs.declared.token.Symbol.TheVariants as mark
use Rattle.ttcn_syntax.specs.declared.token.Token.{Token}
use Rattle.ttcn_syntax.specs.declared.token.Token.TheVariants as token
use Rattle.ttcn_syntax.specs.declared.token.Spanned.{Spanned}
use Rattle.ttcn_syntax.specs.declared.token.Word.TheVariants as word
use Rattle.ttcn_syntax.specs.declared.tree.expression.Expr.{Expr}
use Rattle.ttcn_syntax.specs.declared.tree.template.Bound.{Bound}
use Rattle.ttcn_syntax.specs.declared.tree.template.Bound.TheVariants as bound
use Rattle.ttcn_syntax.specs.declared.tree.template.FieldTemplate.{FieldTemplate}
use Rattle.ttcn_syntax.specs.declared.tree.template.MessageTemplate.{MessageTemplate}
use Rattle.ttcn_syntax.specs.declared.tree.template.Template.{Template}
use Rattle.ttcn_syntax.specs.declared.tree.template.TemplateBody.{TemplateBody}
use Rattle.ttcn_syntax.specs.declared.tree.template.TemplateBody.TheVariants as body
use Rattle.parse_reader.specs.Trees.{field_template, template_of}
use Rattle.parse_reader.specs.declared.shape.Shape.{Shape}
use Rattle.parse_reader.specs.declared.shape.Shape.TheVariants as shape
use Rattle.parse_reader.specs.internal.Reading.{Parser, pure, refuse, head_token, is_symbol, is_word, sees, sees_word, behind, eat, eat_word, expect, expect_word, name, second, separated_onto, separated, separated_until, ◌>>=◌, ◌>>◌}
use Rattle.parse_reader.specs.internal.Expressions.{expression, expression_from}
use Rattle.parse_reader.specs.internal.Values.{a_type, assigns, call, calls}

-- the body that a shape is
abbrev pub body_of : Shape → TemplateBody
body_of (shape.Expr e) = body.Expr e
body_of (shape.Pattern b) = b

-- a body, with 'ifpresent' or without
unfoldable pub template_by : Parser Shape → Parser Template
template_by p = do
  s ← p
  present ← eat_word word.Ifpresent
  pure (template_of (body_of s) present)

-- Id ':=' Template
unfoldable pub field_template_by : Parser Template → Parser FieldTemplate
field_template_by p = do
  bytes ← name
  expect mark.Assign
  t ← p
  pure (field_template bytes t)

-- 'complement' '(' Template {',' Template} ')'
unfoldable pub complement : Parser Shape → Parser Shape
complement inner = do
  expect_word word.Complement
  expect mark.LeftParen
  ts ← separated (template_by inner)
  expect mark.RightParen
  pure (shape.Pattern (body.Complement ts))

-- a record template, by fields or by a list
unfoldable pub braced_template : Parser Shape → Parser Shape
braced_template inner = do
  expect mark.LeftBrace
  λ ts. if assigns ts
      then (do
        fs ← separated (field_template_by (template_by inner))
        expect mark.RightBrace
        pure (shape.Pattern (body.Assigned fs))) ts
      else (do
        all ← separated_until mark.RightBrace (template_by inner)
        pure (shape.Pattern (body.Listed all))) ts

-- 'infinity', with a sign or without, comes next
unfoldable pub infinite : List Spanned → Bool
infinite ts = sees_word word.Infinity ts || (sees mark.Minus ts && is_word word.Infinity (second ts))

-- a bound of a range
unfoldable pub a_bound : Parser Bound
a_bound = λ ts. if infinite ts
    then (do
      eat mark.Minus
      expect_word word.Infinity
      pure bound.Infinity) ts
    else (do
      e ← expression
      pure (bound.Expr e)) ts

-- a range behind its lower bound
unfoldable pub range_from : Bound → Parser Shape
range_from low = do
  expect mark.DotDot
  high ← a_bound
  expect mark.RightParen
  pure (shape.Pattern (body.Range low high))

-- the list that begins with this template
unfoldable pub list_from : Parser Shape → Template → Parser Shape
list_from inner first = do
  more ← eat mark.Comma
  if more
      then (do
        all ← separated_onto (template_by inner) (first ∷ [])
        expect mark.RightParen
        pure (shape.Pattern (body.List all)))
      else (do
        expect mark.RightParen
        pure (shape.Pattern (body.List (first ∷ []))))

-- the expression that begins with this one in brackets
unfoldable pub closed_expression : Expr → Parser Shape
closed_expression e = do
  expect mark.RightParen
  all ← expression_from e
  pure (shape.Expr all)

-- what an expression behind '(' begins
unfoldable pub opened_by : Parser Shape → Expr → Parser Shape
opened_by inner e = λ ts. if sees mark.DotDot ts then range_from (bound.Expr e) ts
    else if sees mark.RightParen ts then closed_expression e ts
    else list_from inner (template_of (body.Expr e) false) ts

-- a list, a range or an expression, by what stands behind '('
abbrev pub in_parens_by : Parser Shape → Shape → Bool → Parser Shape
in_parens_by inner (shape.Expr e) false = opened_by inner e
in_parens_by inner s present = list_from inner (template_of (body_of s) present)

-- a list, a range, or an expression that begins with '('
unfoldable pub in_parens : Parser Shape → Parser Shape
in_parens inner = do
  expect mark.LeftParen
  λ ts. if infinite ts then (do low ← a_bound; range_from low) ts
      else (do
        s ← inner
        present ← eat_word word.Ifpresent
        in_parens_by inner s present) ts

-- a call or an expression
unfoldable pub shape_expression : Parser Shape
shape_expression = λ ts. if calls ts then (do c ← call; pure (shape.Pattern (body.Call c))) ts
    else (do e ← expression; pure (shape.Expr e)) ts

-- a template's body, by its first token
abbrev pub shape_by : Parser Shape → Option Token → Parser Shape
shape_by inner (Some (token.Symbol mark.Question)) = λ ts. Some (shape.Pattern body.Any, behind ts)
shape_by inner (Some (token.Symbol mark.Star)) = λ ts. Some (shape.Pattern body.AnyOrOmit, behind ts)
shape_by inner (Some (token.Word word.Omit)) = λ ts. Some (shape.Pattern body.Omit, behind ts)
shape_by inner (Some (token.Word word.Complement)) = complement inner
shape_by inner (Some (token.Symbol mark.LeftBrace)) = braced_template inner
shape_by inner (Some (token.Symbol mark.LeftParen)) = in_parens inner
shape_by inner _ = shape_expression

-- a template's body, where so many brackets may still nest
unfoldable pub shape_in : ℕ → Parser Shape
shape_in zero ts = shape_by refuse (head_token ts) ts
shape_in (suc depth) ts = shape_by (shape_in depth) (head_token ts) ts

-- a template's body within brackets, of which so many may nest
unfoldable pub shape_below : ℕ → Parser Shape
shape_below zero = refuse
shape_below (suc depth) = shape_in depth

-- a template, whose brackets nest no deeper than there are tokens
unfoldable pub a_template : Parser Template
a_template = λ ts. template_by (shape_in (length ts)) ts

-- the second token is ':'
unfoldable pub message : Parser MessageTemplate
message = λ ts. if is_symbol mark.Colon (second ts)
    then (do
      n ← a_type
      expect mark.Colon
      t ← a_template
      pure (record { type_name = Some n; template = t })) ts
    else (do
      t ← a_template
      pure (record { type_name = None; template = t })) ts
