-- What is read as statements, branches and blocks.
use Rattle.std.specs.Prelude.{ℕ, zero, suc, ◌&&◌, Bool, if◌then◌else◌, List, [], ◌∷◌, ◌++◌, length, Option, Some, None}
use Rattle.ttcn_syntax.specs.declared.token.Symbol.TheVariants as mark
use Rattle.ttcn_syntax.specs.declared.token.Token.{Token}
use Rattle.ttcn_syntax.specs.declared.token.Token.TheVariants as token
use Rattle.ttcn_syntax.specs.declared.token.Spanned.{Spanned}
use Rattle.ttcn_syntax.specs.declared.token.Word.TheVariants as word
use Rattle.ttcn_syntax.specs.declared.tree.expression.Expr.{Expr}
use Rattle.ttcn_syntax.specs.declared.tree.statement.Action.{Action}
use Rattle.ttcn_syntax.specs.declared.tree.statement.Action.TheVariants as action
use Rattle.ttcn_syntax.specs.declared.tree.statement.Alternative.{Alternative}
use Rattle.ttcn_syntax.specs.declared.tree.statement.Alternative.TheVariants as alternative_form
use Rattle.ttcn_syntax.specs.declared.tree.statement.Assignment.{Assignment}
use Rattle.ttcn_syntax.specs.declared.tree.statement.Branch.{Branch}
use Rattle.ttcn_syntax.specs.declared.tree.statement.Conditional.{Conditional}
use Rattle.ttcn_syntax.specs.declared.tree.statement.ForStart.{ForStart}
use Rattle.ttcn_syntax.specs.declared.tree.statement.ForStart.TheVariants as for_start
use Rattle.ttcn_syntax.specs.declared.tree.statement.MapOperation.TheVariants as operation
use Rattle.ttcn_syntax.specs.declared.tree.statement.Statement.{Statement}
use Rattle.parse_reader.specs.Trees.{branch_at, conditional, statement_at}
use Rattle.parse_reader.specs.declared.heads.Head.{Head}
use Rattle.parse_reader.specs.declared.heads.Head.TheVariants as head
use Rattle.parse_reader.specs.declared.heads.Wait.{Wait}
use Rattle.parse_reader.specs.declared.heads.Wait.TheVariants as wait
use Rattle.parse_reader.specs.internal.Reading.{Parser, and_then, pure, refuse, head_token, is_word, sees, sees_word, behind, eat, eat_word, expect, expect_word, here, skip_semicolons, second, items, at_brace, ended, ◌>>=◌, ◌>>◌}
use Rattle.parse_reader.specs.internal.Expressions.{expression}
use Rattle.parse_reader.specs.internal.Values.{call, calls, activation}
use Rattle.parse_reader.specs.internal.Declarations.{variables, constants, timers}
use Rattle.parse_reader.specs.internal.Events.{any_port, all_done, an_event}
use Rattle.parse_reader.specs.internal.Actions.{log, setverdict, connect, mapping, deactivate, return_, assignment, named_action}

-- ---- statements

-- '(' Expression ')'
unfoldable pub in_brackets : Parser Expr
in_brackets = do
  expect mark.LeftParen
  e ← expression
  expect mark.RightParen
  pure e

-- a condition in brackets and its block
unfoldable pub conditional_by : Parser (List Statement) → Parser Conditional
conditional_by blocks = do
  e ← in_brackets
  ss ← blocks
  pure (conditional e ss)

-- 'else' 'if' comes next
abbrev pub goes_on : List Spanned → Bool
goes_on ts = sees_word word.Else ts && is_word word.If (second ts)

-- {'else' 'if' Conditional}, added to those found so far, so many of them at most
unfoldable pub else_ifs_from : Parser Conditional → ℕ → List Conditional → Parser (List Conditional)
else_ifs_from p zero found = pure found
else_ifs_from p (suc n) found = λ ts. if goes_on ts then and_then (p (behind (behind ts))) (λ c rest. else_ifs_from p n (found ++ c ∷ []) rest)
    else Some (found, ts)

-- {'else' 'if' Conditional}, added to those found so far
abbrev pub else_ifs_onto : Parser Conditional → List Conditional → Parser (List Conditional)
else_ifs_onto p found = λ ts. else_ifs_from p (length ts) found ts

-- ['else' Block]
unfoldable pub else_block : Parser (List Statement) → Parser (Option (List Statement))
else_block blocks = do
  found ← eat_word word.Else
  if found then (do ss ← blocks; pure (Some ss)) else pure None

-- an `if` with all its blocks
unfoldable pub if_by : Parser (List Statement) → Parser Action
if_by blocks = do
  expect_word word.If
  c ← conditional_by blocks
  cs ← else_ifs_onto (conditional_by blocks) (c ∷ [])
  last ← else_block blocks
  pure (action.If cs last)

-- a `while` with its block
unfoldable pub while_by : Parser (List Statement) → Parser Action
while_by blocks = do
  expect_word word.While
  e ← in_brackets
  ss ← blocks
  pure (action.While e ss)

-- a `do` with its block and its condition
unfoldable pub do_by : Parser (List Statement) → Parser Action
do_by blocks = do
  expect_word word.Do
  ss ← blocks
  expect_word word.While
  e ← in_brackets
  pure (action.DoWhile ss e)

-- what a `for` begins with: variables or an assignment
unfoldable pub for_start_ : Parser ForStart
for_start_ = λ ts. if sees_word word.Var ts then (do vs ← variables; pure (for_start.Variables vs)) ts
    else (do a ← assignment; pure (for_start.Assign a)) ts

-- a `for` up to its condition
unfoldable pub for_head : Parser ForStart
for_head = do
  expect_word word.For
  expect mark.LeftParen
  start ← for_start_
  expect mark.Semicolon
  pure start

-- the step of a `for`, from behind its condition to its block
unfoldable pub for_step : Parser Assignment
for_step = do
  expect mark.Semicolon
  a ← assignment
  expect mark.RightParen
  pure a

-- a `for` with its block
unfoldable pub for_by : Parser (List Statement) → Parser Action
for_by blocks = do
  expect_word word.For
  expect mark.LeftParen
  start ← for_start_
  expect mark.Semicolon
  e ← expression
  expect mark.Semicolon
  a ← assignment
  expect mark.RightParen
  ss ← blocks
  pure (action.For start e a ss)

-- what the guard of a branch says
unfoldable pub guard : Parser (Option Expr)
guard = do
  none ← eat mark.RightBracket
  if none then pure None else (do
    e ← expression
    expect mark.RightBracket
    pure (Some e))

-- [Block]
unfoldable pub block_if_any : Parser (List Statement) → Parser (Option (List Statement))
block_if_any blocks = λ ts. if sees mark.LeftBrace ts then (do ss ← blocks; pure (Some ss)) ts else Some (None, ts)

-- a branch behind its guard
unfoldable pub guarded_by : Parser (List Statement) → Option Expr → Parser Alternative
guarded_by blocks g = λ ts. if calls ts
    then (do
      c ← call
      ss ← block_if_any blocks
      pure (alternative_form.Call g c ss)) ts
    else (do
      e ← an_event
      ss ← block_if_any blocks
      pure (alternative_form.Event g e ss)) ts

-- a branch without its place
unfoldable pub alternative_by : Parser (List Statement) → Parser Alternative
alternative_by blocks = do
  expect mark.LeftBracket
  otherwise ← eat_word word.Else
  if otherwise
      then (do
        expect mark.RightBracket
        ss ← blocks
        pure (alternative_form.Else ss))
      else (do
        g ← guard
        guarded_by blocks g)

-- a branch at its place
unfoldable pub branch_by : Parser (List Statement) → Parser Branch
branch_by blocks = do
  place ← here
  a ← alternative_by blocks
  pure (branch_at place a)

-- '{' {Branch} '}'
unfoldable pub branches_by : Parser (List Statement) → Parser (List Branch)
branches_by blocks = do
  expect mark.LeftBrace
  bs ← items at_brace (ended (branch_by blocks))
  expect mark.RightBrace
  pure bs

-- an `alt` with its branches
unfoldable pub alt_by : Parser (List Statement) → Parser Action
alt_by blocks = do
  expect_word word.Alt
  bs ← branches_by blocks
  pure (action.Alt bs)

-- a statement without its place, by its first token
abbrev pub action_by : Parser (List Statement) → Option Token → Parser Action
action_by blocks (Some (token.Word word.Var)) = do
  vs ← variables
  pure (action.Variables vs)
action_by blocks (Some (token.Word word.Const)) = do
  cs ← constants
  pure (action.Constants cs)
action_by blocks (Some (token.Word word.Timer)) = do
  all ← timers
  pure (action.Timers all)
action_by blocks (Some (token.Word word.Any)) = do
  e ← any_port
  pure (action.Event e)
action_by blocks (Some (token.Word word.All)) = do
  e ← all_done
  pure (action.Event e)
action_by blocks (Some (token.Word word.Alt)) = alt_by blocks
action_by blocks (Some (token.Word word.Repeat)) = λ ts. Some (action.Repeat, behind ts)
action_by blocks (Some (token.Word word.If)) = if_by blocks
action_by blocks (Some (token.Word word.While)) = while_by blocks
action_by blocks (Some (token.Word word.Do)) = do_by blocks
action_by blocks (Some (token.Word word.For)) = for_by blocks
action_by blocks (Some (token.Word word.Return)) = return_
action_by blocks (Some (token.Word word.Stop)) = λ ts. Some (action.Stop, behind ts)
action_by blocks (Some (token.Word word.Log)) = log
action_by blocks (Some (token.Word word.Setverdict)) = setverdict
action_by blocks (Some (token.Word word.Connect)) = connect
action_by blocks (Some (token.Word word.Map)) = mapping word.Map operation.Map
action_by blocks (Some (token.Word word.Unmap)) = mapping word.Unmap operation.Unmap
action_by blocks (Some (token.Word word.Activate)) = do
  c ← activation
  pure (action.Activate c)
action_by blocks (Some (token.Word word.Deactivate)) = deactivate
action_by blocks _ = named_action

-- a statement without its place
unfoldable pub action_in : Parser (List Statement) → Parser Action
action_in blocks ts = action_by blocks (head_token ts) ts

-- ---- what stands before the blocks of a statement or branch

-- a statement that holds no block, by its first token
abbrev pub simple_by : Option Token → Parser Action
simple_by (Some (token.Word word.Var)) = do
  vs ← variables
  pure (action.Variables vs)
simple_by (Some (token.Word word.Const)) = do
  cs ← constants
  pure (action.Constants cs)
simple_by (Some (token.Word word.Timer)) = do
  all ← timers
  pure (action.Timers all)
simple_by (Some (token.Word word.Any)) = do
  e ← any_port
  pure (action.Event e)
simple_by (Some (token.Word word.All)) = do
  e ← all_done
  pure (action.Event e)
simple_by (Some (token.Word word.Repeat)) = λ ts. Some (action.Repeat, behind ts)
simple_by (Some (token.Word word.Return)) = return_
simple_by (Some (token.Word word.Stop)) = λ ts. Some (action.Stop, behind ts)
simple_by (Some (token.Word word.Log)) = log
simple_by (Some (token.Word word.Setverdict)) = setverdict
simple_by (Some (token.Word word.Connect)) = connect
simple_by (Some (token.Word word.Map)) = mapping word.Map operation.Map
simple_by (Some (token.Word word.Unmap)) = mapping word.Unmap operation.Unmap
simple_by (Some (token.Word word.Activate)) = do
  c ← activation
  pure (action.Activate c)
simple_by (Some (token.Word word.Deactivate)) = deactivate
simple_by _ = named_action

-- a statement up to its first block, by its first token
abbrev pub head_by : Option Token → Parser Head
head_by (Some (token.Word word.Alt)) = do
  expect_word word.Alt
  pure head.Alt
head_by (Some (token.Word word.If)) = do
  expect_word word.If
  pure head.If
head_by (Some (token.Word word.Do)) = do
  expect_word word.Do
  pure head.Do
head_by (Some (token.Word word.While)) = do
  expect_word word.While
  e ← in_brackets
  pure (head.While e)
head_by (Some (token.Word word.For)) = do
  start ← for_head
  e ← expression
  a ← for_step
  pure (head.For (record { start = start; condition = e; step = a }))
head_by t = do
  a ← simple_by t
  pure (head.Whole a)

-- a statement up to its first block
unfoldable pub statement_head : Parser Head
statement_head ts = head_by (head_token ts) ts

-- the condition behind the block of a `do`
unfoldable pub do_condition : List Statement → Parser Action
do_condition ss = do
  expect_word word.While
  e ← in_brackets
  pure (action.DoWhile ss e)

-- the action that a head begins, with the blocks behind the head
abbrev pub action_behind : Parser (List Statement) → Head → Parser Action
action_behind blocks (head.Whole a) = pure a
action_behind blocks head.Alt = do
  bs ← branches_by blocks
  pure (action.Alt bs)
action_behind blocks head.If = do
  c ← conditional_by blocks
  cs ← else_ifs_onto (conditional_by blocks) (c ∷ [])
  last ← else_block blocks
  pure (action.If cs last)
action_behind blocks head.Do = do
  ss ← blocks
  do_condition ss
action_behind blocks (head.While e) = do
  ss ← blocks
  pure (action.While e ss)
action_behind blocks (head.For h) = do
  ss ← blocks
  pure (action.For h.start h.condition h.step ss)

-- a branch behind its guard, up to its block
unfoldable pub waits_for : Option Expr → Parser Wait
waits_for g = λ ts. if calls ts
    then (do
      c ← call
      pure (wait.Call g c)) ts
    else (do
      e ← an_event
      pure (wait.Event g e)) ts

-- a branch up to its block
unfoldable pub branch_head : Parser Wait
branch_head = do
  expect mark.LeftBracket
  otherwise ← eat_word word.Else
  if otherwise
      then (do
        expect mark.RightBracket
        pure wait.Else)
      else (do
        g ← guard
        waits_for g)

-- the branch of this head and this block
abbrev pub alternative_of : Wait → Option (List Statement) → Parser Alternative
alternative_of wait.Else None = refuse
alternative_of wait.Else (Some ss) = pure (alternative_form.Else ss)
alternative_of (wait.Event g e) ss = pure (alternative_form.Event g e ss)
alternative_of (wait.Call g c) ss = pure (alternative_form.Call g c ss)

-- a statement at its place
unfoldable pub statement_by : Parser (List Statement) → Parser Statement
statement_by blocks = do
  place ← here
  a ← action_in blocks
  pure (statement_at place a)

-- '{' {Statement} '}'
unfoldable pub block_by : Parser (List Statement) → Parser (List Statement)
block_by blocks = do
  expect mark.LeftBrace
  skip_semicolons
  ss ← items at_brace (ended (statement_by blocks))
  expect mark.RightBrace
  pure ss

-- a block, where so many may still nest
unfoldable pub block_in : ℕ → Parser (List Statement)
block_in zero = refuse
block_in (suc depth) = block_by (block_in depth)

-- a block, whose brackets nest no deeper than there are tokens
unfoldable pub a_block : Parser (List Statement)
a_block = λ ts. block_in (length ts) ts

-- the branches of an altstep
unfoldable pub the_branches : Parser (List Branch)
the_branches = λ ts. branches_by (block_in (length ts)) ts
