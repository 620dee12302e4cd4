-- What is read as references and expressions.
use Rattle.std.specs.Prelude.{ℕ, zero, suc, ◌&&◌, Bool, true, false, if◌then◌else◌, List, [], ◌∷◌, ◌++◌, length, Option, Some, None}
use Rattle.ttcn_syntax.specs.Operators.{level_of, operator_of}
use Rattle.ttcn_syntax.specs.declared.operator.Level.{Level}
use Rattle.ttcn_syntax.specs.declared.operator.Level.TheVariants as level
use Rattle.ttcn_syntax.specs.declared.operator.Operator.{Operator}
use Rattle.ttcn_syntax.specs.declared.operator.Sign.TheVariants as sign
use Rattle.ttcn_syntax.specs.declared.token.Symbol.TheVariants as mark
use Rattle.ttcn_syntax.specs.declared.token.Token.{Token}
use Rattle.ttcn_syntax.specs.declared.token.Token.TheVariants as token
use Rattle.ttcn_syntax.specs.declared.token.Spanned.{Spanned}
use Rattle.ttcn_syntax.specs.declared.token.Word.TheVariants as word
use Rattle.ttcn_syntax.specs.declared.tree.expression.ComponentRef.{ComponentRef}
use Rattle.ttcn_syntax.specs.declared.tree.expression.ComponentRef.TheVariants as component_ref
use Rattle.ttcn_syntax.specs.declared.tree.expression.Expr.{Expr}
use Rattle.ttcn_syntax.specs.declared.tree.expression.Expr.TheVariants as expr
use Rattle.ttcn_syntax.specs.declared.tree.expression.Link.{Link}
use Rattle.ttcn_syntax.specs.declared.tree.expression.Reference.{Reference}
use Rattle.parse_reader.specs.Trees.{link}
use Rattle.parse_reader.specs.internal.Reading.{Parser, ◌>>=◌, ◌>>◌, pure, refuse, head_token, same_level, is_word, sees, behind, eat, eat_word, expect, expect_word, name_of, name, second}

-- ---- references

-- the name behind a dot, if the dot is there
abbrev pub field_of : Bool → Option Token → Option (List ℕ)
field_of true t = name_of t
field_of false t = None

-- the field that comes next, behind its dot
abbrev pub next_field : List Spanned → Option (List ℕ)
next_field ts = field_of (sees mark.Dot ts) (second ts)

-- the tokens behind the field, if there is one
abbrev pub behind_field : Option (List ℕ) → List Spanned → List Spanned
behind_field None ts = ts
behind_field (Some f) ts = behind (behind ts)

-- takes the field that comes next, if there is one
unfoldable pub eat_field : Parser (Option (List ℕ))
eat_field = λ ts. Some (next_field ts, behind_field (next_field ts) ts)

-- the fields behind this one, or the end of them
abbrev pub after_field : (List (List ℕ) → Parser (List (List ℕ))) → List (List ℕ) → Option (List ℕ) → Parser (List (List ℕ))
after_field others found None = pure found
after_field others found (Some f) = others (found ++ f ∷ [])

-- {'.' Id}, added to those found so far, so many of them at most
unfoldable pub fields_from : ℕ → List (List ℕ) → Parser (List (List ℕ))
fields_from zero found = pure found
fields_from (suc n) found = eat_field >>= after_field (fields_from n) found

-- {'.' Id}
abbrev pub fields : Parser (List (List ℕ))
fields = λ ts. fields_from (length ts) [] ts

-- Id {'.' Id}
unfoldable pub reference : Parser Reference
reference = do
  first ← name
  others ← fields
  pure (record { name = first; fields = others })

-- a component by a reference
unfoldable pub named_reference : Parser ComponentRef
named_reference = do
  r ← reference
  pure (component_ref.Named r)

-- a component, by its first token
abbrev pub component_by : Option Token → Parser ComponentRef
component_by (Some (token.Word word.SelfWord)) = λ ts. Some (component_ref.Itself, behind ts)
component_by (Some (token.Word word.Mtc)) = λ ts. Some (component_ref.Mtc, behind ts)
component_by _ = named_reference

-- 'self', 'mtc' or a reference
unfoldable pub component : Parser ComponentRef
component ts = component_by (head_token ts) ts

-- ---- expressions

-- the operator, if it is of the level
abbrev pub at_level : Level → Option Operator → Option Operator
at_level outer None = None
at_level outer (Some o) = if same_level (level_of o) outer then Some o else None

-- the operator that a token is
abbrev pub operator_in : Option Token → Option Operator
operator_in None = None
operator_in (Some t) = operator_of t

-- the operator that comes next, if it is of the level
abbrev pub next_operator : Level → List Spanned → Option Operator
next_operator outer ts = at_level outer (operator_in (head_token ts))

-- takes the operator, if one of the level comes next
abbrev pub behind_operator : Option Operator → List Spanned → List Spanned
behind_operator None ts = ts
behind_operator (Some o) ts = behind ts

-- takes the operator that comes next, if it is of the level
unfoldable pub eat_operator : Level → Parser (Option Operator)
eat_operator outer = λ ts. Some (next_operator outer ts, behind_operator (next_operator outer ts) ts)

-- how many links of a level may follow: one comparison by order at most, and at any other level as many as there are tokens
unfoldable pub most_links : Level → List Spanned → ℕ
most_links outer ts = if same_level outer level.Order then 1 else length ts

-- the operand of this operator and the links behind it, or the end of them
abbrev pub after_operator : Parser Expr → (List Link → Parser (List Link)) → List Link → Option Operator → Parser (List Link)
after_operator operand others found None = pure found
after_operator operand others found (Some o) = operand >>= (λ e. others (found ++ link o e ∷ []))

-- {Operator Operand} of a level, added to those found so far, so many of them at most
unfoldable pub links_from : Parser Expr → Level → ℕ → List Link → Parser (List Link)
links_from operand outer zero found = pure found
links_from operand outer (suc n) found =
    eat_operator outer >>= after_operator operand (links_from operand outer n) found

-- an operand alone, or a chain
abbrev pub tree_of : Expr → List Link → Expr
tree_of first [] = first
tree_of first (l ∷ ls) = expr.Chain first (l ∷ ls)

-- operands may have begun: with an expression in brackets that was read as their first primary
unfoldable pub chain : Level → (Option Expr → Parser Expr) → Option Expr → Parser Expr
chain outer operand begun = do
  first ← operand begun
  links ← λ ts. links_from (operand None) outer (most_links outer ts) [] ts
  pure (tree_of first links)

-- within brackets, an expression by `inner`
unfoldable pub bracketed : Parser Expr → Parser Expr
bracketed inner = do
  expect mark.LeftParen
  e ← inner
  expect mark.RightParen
  pure e

-- 'ispresent' '(' Reference ')'
unfoldable pub is_present : Parser Expr
is_present = do
  expect_word word.Ispresent
  expect mark.LeftParen
  r ← reference
  expect mark.RightParen
  pure (expr.Ispresent r)

-- behind a component, '.' and 'running' come next
abbrev pub runs : List Spanned → Bool
runs ts = sees mark.Dot ts && is_word word.Running (second ts)

-- a component that runs, or a reference
unfoldable pub referred : Parser Expr
referred = do
  c ← component
  λ ts. if runs ts then Some (expr.Running c, behind (behind ts)) else Some (expr.Reference c, ts)

-- an operand without operators, by its first token
abbrev pub primary_by : Parser Expr → Option Token → Parser Expr
primary_by inner (Some (token.Int n)) = λ ts. Some (expr.Int n, behind ts)
primary_by inner (Some (token.Word word.True)) = λ ts. Some (expr.Bool true, behind ts)
primary_by inner (Some (token.Word word.False)) = λ ts. Some (expr.Bool false, behind ts)
primary_by inner (Some (token.Word word.Null)) = λ ts. Some (expr.Null, behind ts)
primary_by inner (Some (token.Word word.Ispresent)) = is_present
primary_by inner (Some (token.Symbol mark.LeftParen)) = bracketed inner
primary_by inner _ = referred

-- an operand without operators
unfoldable pub primary : Parser Expr → Parser Expr
primary inner ts = primary_by inner (head_token ts) ts

-- a primary with a sign or without
unfoldable pub signed : Parser Expr → Option Expr → Parser Expr
signed inner (Some e) = pure e
signed inner None = do
  plus ← eat mark.Plus
  if plus then (do e ← primary inner; pure (expr.Signed sign.Plus e)) else (do
    minus ← eat mark.Minus
    if minus then (do e ← primary inner; pure (expr.Signed sign.Minus e)) else primary inner)

-- 'not' before an operand, or the operand alone
unfoldable pub negation : (Option Expr → Parser Expr) → Option Expr → Parser Expr
negation operand (Some e) = operand (Some e)
negation operand None = do
  found ← eat_word word.Not
  if found then (do e ← operand None; pure (expr.Not e)) else operand None

-- an operand of '+' and '-'
abbrev pub at_product : Parser Expr → Option Expr → Parser Expr
at_product inner = chain level.Product (signed inner)

-- an operand of a comparison by order
abbrev pub at_sum : Parser Expr → Option Expr → Parser Expr
at_sum inner = chain level.Sum (at_product inner)

-- an operand of '==' and '!='
abbrev pub at_order : Parser Expr → Option Expr → Parser Expr
at_order inner = chain level.Order (at_sum inner)

-- an operand of 'not'
abbrev pub at_equality : Parser Expr → Option Expr → Parser Expr
at_equality inner = chain level.Equality (at_order inner)

-- an operand of 'and'
abbrev pub at_not : Parser Expr → Option Expr → Parser Expr
at_not inner = negation (at_equality inner)

-- an operand of 'xor'
abbrev pub at_and : Parser Expr → Option Expr → Parser Expr
at_and inner = chain level.And (at_not inner)

-- an operand of 'or'
abbrev pub at_xor : Parser Expr → Option Expr → Parser Expr
at_xor inner = chain level.Xor (at_and inner)

-- an expression
abbrev pub at_or : Parser Expr → Option Expr → Parser Expr
at_or inner = chain level.Or (at_xor inner)

-- what is read at each level
abbrev pub operand_of : Parser Expr → Level → Option Expr → Parser Expr
operand_of inner level.Or = at_or inner
operand_of inner level.Xor = at_xor inner
operand_of inner level.And = at_and inner
operand_of inner level.Not = at_not inner
operand_of inner level.Equality = at_equality inner
operand_of inner level.Order = at_order inner
operand_of inner level.Sum = at_sum inner
operand_of inner level.Product = at_product inner
operand_of inner level.Sign = signed inner

-- an expression in brackets, where so many may still nest
unfoldable pub inner : ℕ → Parser Expr
inner zero = refuse
inner (suc depth) = at_or (inner depth) None

-- brackets nest no deeper than there are tokens
unfoldable pub expression : Parser Expr
expression = λ ts. at_or (inner (length ts)) None ts

-- an expression whose first primary was read
unfoldable pub expression_from : Expr → Parser Expr
expression_from e = λ ts. at_or (inner (length ts)) (Some e) ts
