-- The runs of the test case that is meant stay well typed.
use Rattle.std.proofs.Common.{◌≡◌, ℕ, true, List, is_some, refl, sym, subst}
use Rattle.check_rules.proofs.TestCaseLemmas.{named-at}
use Rattle.check_rules.specs.Programs.{IsTestCaseAt}
use Rattle.check_scope.specs.Names.{kind_at}
use Rattle.laws_types.proofs.Running.{stays_well_typed}
use Rattle.laws_types.specs.Runs.{StaysWellTyped}
use Rattle.report_script.proofs.Fits.{script-fits}
use Rattle.semantics.specs.Runs.{testcase_body}
use Rattle.semantics.specs.Snapshots.{Test}
use Rattle.ttcn_syntax.specs.declared.tree.definition.Definition.{Definition}
use Rattle.ttcnx.proofs.Listed.{well-typed}
use Rattle.ttcnx.specs.Named.{IsTestOf, Source}

has-body : (definitions : List Definition) (at : ℕ) (name : List ℕ) → IsTestCaseAt definitions name at → is_some (testcase_body (kind_at definitions at)) ≡ true
has-body definitions at name is = subst (λ k. is_some (testcase_body k) ≡ true) (sym is.1) refl

-- the test case of a name has a body
body-there : (given : Source) (name : List ℕ) (test : Test) → IsTestOf given name test → is_some (testcase_body (kind_at test.definitions test.testcase)) ≡ true
body-there given name test is =
    subst (λ (definitions : List Definition). is_some (testcase_body (kind_at definitions test.testcase)) ≡ true) (sym is.is_case.of_tree)
    (has-body is.is_case.tree.definitions test.testcase name (named-at is.is_case.tree.definitions name test.testcase is.is_case.is_named))

pub runs_stay_well_typed : (given : Source) (name : List ℕ) (test : Test) → IsTestOf given name test → StaysWellTyped test
runs_stay_well_typed given name test is =
    let well = well-typed given name test is in
    stays_well_typed test well (body-there given name test is) (script-fits test.definitions well test.testcase given.script test.script is.is_script)
