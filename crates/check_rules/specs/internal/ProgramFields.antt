-- What is known of the fields of a program.
use Rattle.std.specs.Prelude.{◌≡◌}
use Rattle.check_rules.specs.Programs.{test_case_named}
use Rattle.check_rules.specs.Rules.{AreWellTyped}
use Rattle.check_rules.specs.internal.TestCases.{placed}
use Rattle.check_rules.specs.declared.program.Program.TheInside.{Inside}

-- the module is well typed, and the table has its test cases
pub record IsProgram (program : Inside) : Type 0 where
  pub well_typed : AreWellTyped program.module.definitions
  pub test_cases : placed program.test_cases ≡ test_case_named program.module.definitions
