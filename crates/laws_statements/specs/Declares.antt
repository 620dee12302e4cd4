-- The names that statements declare, within blocks too.
use Rattle.std.specs.Prelude.{◌≡◌, ℕ, List, [], ◌∷◌, ◌++◌, map, Option, Some, None}
use Rattle.std.specs.List.{flat_map}
use Rattle.ttcn_syntax.specs.declared.tree.statement.Action.TheOpen.{Action-F, Alternative-F, Branch-F, Conditional-F, Statement-F}
use Rattle.ttcn_syntax.specs.declared.tree.statement.Branch.{Branch, fold-Branch}
use Rattle.ttcn_syntax.specs.declared.tree.statement.Constants.{Constants}
use Rattle.ttcn_syntax.specs.declared.tree.statement.ForStart.{ForStart}
use Rattle.ttcn_syntax.specs.declared.tree.statement.ForStart.TheVariants as for_start
use Rattle.ttcn_syntax.specs.declared.tree.statement.Statement.{Statement, fold-Statement}
use Rattle.ttcn_syntax.specs.declared.tree.statement.Timer.{Timer}
use Rattle.ttcn_syntax.specs.declared.tree.statement.Variables.{Variables}
use Rattle.check_scope.specs.Names.{Scope}

-- names that are declared
abbrev pub Declared : Type 0
Declared = List (List ℕ)

-- the names of variables
abbrev pub names_of_variables : Variables → Declared
names_of_variables vs = map (λ v. v.name) vs.variables

-- the names of constants
abbrev pub names_of_constants : Constants → Declared
names_of_constants cs = map (λ c. c.name) cs.constants

-- the names of timers
abbrev pub names_of_timers : List Timer → Declared
names_of_timers timers = map (λ t. t.name) timers

-- the names that the initial part of a `for` declares
abbrev pub names_of_start : ForStart → Declared
names_of_start (for_start.Variables vs) = names_of_variables vs
names_of_start (for_start.Assign assignment) = []

-- the names of several parts, one behind the other
abbrev pub names_of_all : List Declared → Declared
names_of_all parts = flat_map (λ names. names) parts

-- the names that a block declares, where one stands
abbrev pub names_if_any : Option (List Declared) → Declared
names_if_any None = []
names_if_any (Some block) = names_of_all block

-- the names that one level of an action declares, those of its blocks and branches given
abbrev pub action_step : Action-F Declared Declared Declared Declared Declared → Declared
action_step (Action-F.Variables vs) = names_of_variables vs
action_step (Action-F.Constants cs) = names_of_constants cs
action_step (Action-F.Timers timers) = names_of_timers timers
action_step (Action-F.Alt branches) = names_of_all branches
action_step (Action-F.If conditionals last) = names_of_all conditionals ++ names_if_any last
action_step (Action-F.While condition block) = names_of_all block
action_step (Action-F.DoWhile block condition) = names_of_all block
action_step (Action-F.For start condition step block) = names_of_start start ++ names_of_all block
action_step _ = []

-- the names that a statement declares: those of its action, which are given
abbrev pub statement_step : Statement-F Declared Declared Declared Declared Declared → Declared
statement_step s = s.action

-- the names that a condition with its block declares, those of the block given
abbrev pub conditional_step : Conditional-F Declared Declared Declared Declared Declared → Declared
conditional_step c = names_of_all c.block

-- the names that what stands in a branch declares, those of its block given
abbrev pub alternative_step : Alternative-F Declared Declared Declared Declared Declared → Declared
alternative_step (Alternative-F.«Alternative::Event» guard event block) = names_if_any block
alternative_step (Alternative-F.«Alternative::Call» guard call block) = names_if_any block
alternative_step (Alternative-F.Else block) = names_of_all block

-- the names that a branch declares: those of what stands in it, which are given
abbrev pub branch_step : Branch-F Declared Declared Declared Declared Declared → Declared
branch_step b = b.alternative

-- the names that a statement declares, in its blocks too
abbrev pub names_of_statement : Statement → Declared
names_of_statement = fold-Statement Declared Declared Declared Declared Declared action_step alternative_step branch_step conditional_step statement_step

-- the names that a branch declares in its block
abbrev pub names_of_branch : Branch → Declared
names_of_branch = fold-Branch Declared Declared Declared Declared Declared action_step alternative_step branch_step conditional_step statement_step

-- the names that statements declare
abbrev pub names_of_statements : List Statement → Declared
names_of_statements body = names_of_all (map names_of_statement body)

-- none of these names is a further one in another scope: they stand for the same there, or for nothing in both
abbrev pub NoneIsFurther : Scope → Scope → Declared → Type 0
NoneIsFurther scope other [] = Unit {0}
NoneIsFurther scope other (name ∷ names) = (other.names name ≡ scope.names name) × NoneIsFurther scope other names
