-- The test cases of a module (ES 201 873-1, 16.3).
use Rattle.std.specs.Prelude.{◌≡◌, ℕ, Bool, false, List, Option, Some, bytes_eq}
use Rattle.std.specs.List.{position}
use Rattle.ttcn_syntax.specs.declared.tree.definition.Definition.{Definition}
use Rattle.ttcn_syntax.specs.declared.tree.definition.DefinitionKind.{DefinitionKind}
use Rattle.ttcn_syntax.specs.declared.tree.definition.DefinitionKind.TheVariants as kind
use Rattle.ttcn_syntax.specs.declared.tree.definition.Testcase.{Testcase}
use Rattle.check_scope.specs.Names.{kind_at}

-- something is a test case of a name
abbrev pub is_test_case : List ℕ → DefinitionKind → Bool
is_test_case name (kind.Testcase t) = bytes_eq name t.name
is_test_case name _ = false

-- the position of the first test case of a name
abbrev pub test_case_named : List Definition → List ℕ → Option ℕ
test_case_named definitions name = position (λ definition. is_test_case name definition.kind) definitions

-- a test case of a name stands at a position
abbrev pub IsTestCaseAt : List Definition → List ℕ → ℕ → Type 0
IsTestCaseAt definitions name at = (t : Testcase) × (kind_at definitions at ≡ Some (kind.Testcase t)) × (t.name ≡ name)
