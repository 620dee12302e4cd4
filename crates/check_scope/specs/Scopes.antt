-- Names that are declared once, and what is visible outside of all blocks (ES 201 873-1, 5.2).
use Rattle.std.specs.Prelude.{ℕ, List, [], ◌∷◌, ◌++◌, Option, Some, None, is_none}
use Rattle.ttcn_syntax.specs.declared.tree.definition.Definition.{Definition}
use Rattle.check_scope.specs.Names.{Entry, Names, Scope, behind, entries_from, module_names, names_on}
use Rattle.check_scope.specs.Typings.{unless}
use Rattle.check_scope.specs.declared.rule.Rule.{Rule}
use Rattle.check_scope.specs.declared.rule.Rule.TheVariants as rule

-- names are new where those before them are visible
abbrev pub check_new_entries : Names → List Entry → List Rule
check_new_entries names [] = []
check_new_entries names (entry ∷ entries) = unless (is_none (names entry.0)) rule.DuplicateName ++ check_new_entries (behind names (entry ∷ [])) entries

-- each name of the module is defined once
abbrev pub check_module_names : List Definition → List Rule
check_module_names definitions = check_new_entries (λ name. None) (entries_from 0 definitions)

-- the names that are visible outside of all blocks, with the members of a component type or without
abbrev pub outer_names : List Definition → Option ℕ → Names
outer_names definitions None = module_names definitions
outer_names definitions (Some at) = names_on definitions at

-- a scope outside of all blocks
abbrev pub outside : List Definition → Option ℕ → Option ℕ → Scope
outside definitions runs_on itself = record { definitions = definitions; names = outer_names definitions runs_on; itself = itself }

-- the scope of what belongs to no behaviour and no component type
abbrev pub module_scope : List Definition → Scope
module_scope definitions = outside definitions None None

-- the scope at the beginning of the component type at a position
abbrev pub component_scope : List Definition → ℕ → Scope
component_scope definitions at = outside definitions None (Some at)

-- the scope of a behaviour that runs on a component type, or says nothing of it
abbrev pub scope_on : List Definition → Option ℕ → Scope
scope_on definitions at = outside definitions at at
