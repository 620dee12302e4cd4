-- The test cases of a module, one a line.
use Rattle.std.specs.Prelude.{◌≡◌, ℕ, List, [], ◌∷◌, ◌++◌}
use Rattle.std.specs.List.{flat_map}
use Rattle.ttcn_syntax.specs.declared.tree.definition.Definition.{Definition}
use Rattle.ttcn_syntax.specs.declared.tree.definition.DefinitionKind.{DefinitionKind}
use Rattle.ttcn_syntax.specs.declared.tree.definition.DefinitionKind.TheVariants as kind
use Rattle.ttcn_syntax.specs.declared.tree.definition.Module.{Module}
use Rattle.ttcnx.specs.Checked.{IsTextOf}

-- the name of a test case, and a line's end
abbrev pub testcase_line : DefinitionKind → List ℕ
testcase_line (kind.Testcase testcase) = testcase.name ++ 10 ∷ []
testcase_line _ = []

-- the names of the test cases among definitions, each on a line of its own
abbrev pub testcase_lines : List Definition → List ℕ
testcase_lines = flat_map (λ definition. testcase_line definition.kind)

-- the lines of the well-typed module that a text is of
abbrev pub IsListOf : List ℕ → List ℕ → Type 0
IsListOf text lines = (tree : Module) × IsTextOf text tree × (lines ≡ testcase_lines tree.definitions)
