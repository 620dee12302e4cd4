-- What the parts of the checker give, in the words of their private contracts. The rules themselves stand in the other files.
use Rattle.std.specs.Prelude.{ℕ, List, [], ◌∷◌, ◌++◌, Option, Some, None}
use Rattle.std.specs.Option.{option_map, option_or}
use Rattle.ttcn_syntax.specs.declared.tree.definition.Definition.{Definition}
use Rattle.check_scope.specs.declared.table.Table.{Table}
use Rattle.check_scope.specs.Names.{Names}
use Rattle.check_scope.specs.Names as spec
use Rattle.check_scope.specs.Numbers.{lesser}
use Rattle.check_scope.specs.declared.broken.Broken.{Broken}
use Rattle.check_scope.specs.declared.least.Least.{Least}
use Rattle.check_scope.specs.declared.rule.Rule.{Rule}
use Rattle.check_scope.specs.declared.scope.Scope.{Scope}
use Rattle.check_scope.specs.internal.Tables.{member, said, said_in}

-- ---- broken rules

-- the lesser of two rules, where there are rules
abbrev pub lesser_of : Option Rule → Option Rule → Option Rule
lesser_of None other = other
lesser_of (Some r) None = Some r
lesser_of (Some r) (Some other) = Some (lesser r other)

-- the least rule that is broken here or there
abbrev pub both : Broken → Broken → Broken
both one other = record { least = lesser_of one.least other.least }

-- the least of rules
abbrev pub least : List Rule → Broken
least [] = record { least = None }
least (r ∷ rules) = both (record { least = Some r }) (least rules)

-- the least rule that was noted, without its place
abbrev pub least_in : Least → Broken
least_in noted = record { least = option_map (λ fault. fault.0) noted.fault }

-- ---- names

-- what is round the innermost block
pub record Around : Type 0 where
  pub definitions : List Definition
  pub defined : Table
  pub members : List Table
  pub runs_on : Option ℕ
  pub itself : Option ℕ
  pub blocks : List Table

-- what is round the innermost block of a scope
abbrev pub around : Scope → Around
around scope = record {
  definitions = scope.definitions.now;
  defined = scope.defined;
  members = scope.members.items;
  runs_on = scope.runs_on;
  itself = scope.itself;
  blocks = scope.blocks.items;
}

-- what is round a block within a block
abbrev pub inside : Around → Table → Around
inside a block = record {
  definitions = a.definitions;
  defined = a.defined;
  members = a.members;
  runs_on = a.runs_on;
  itself = a.itself;
  blocks = a.blocks ++ block ∷ [];
}

-- what is said of a name in a block: the block first, then those round it, the members, and the module
abbrev pub visible_in : Around → Table → Names
visible_in a block name = option_or (said block name) (option_or (said_in a.blocks name) (option_or (member a.members a.runs_on name) (said a.defined name)))

-- a scope, as the rules speak of it
abbrev pub view_in : Around → Table → spec.Scope
view_in a block = record { definitions = a.definitions; names = visible_in a block; itself = a.itself }

-- a scope of the code, as the rules speak of it
abbrev pub view : Scope → spec.Scope
view scope = view_in (around scope) scope.locals
