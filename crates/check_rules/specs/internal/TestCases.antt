-- What a table of test cases says of names, in the words of its private contracts.
use Rattle.std.specs.Prelude.{ℕ, List, Option, Some, None, bytes_eq, if◌then◌else◌}
use Rattle.std.specs.HashMap.{get_by}
use Rattle.std.specs.Option.{option_or}
use Rattle.check_rules.specs.declared.test_cases.TestCases.{TestCases}

-- the position that a name has
abbrev pub placed : TestCases → List ℕ → Option ℕ
placed cases name = get_by (λ key. bytes_eq name key.items) cases.positions

-- positions with a further one, which counts for a name that has none so far
abbrev pub with_position : (List ℕ → Option ℕ) → List ℕ → ℕ → List ℕ → Option ℕ
with_position positions name at other = option_or (positions other) (if bytes_eq other name then Some at else None)
