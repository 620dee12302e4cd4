use Rattle.std.proofs.Common.{◌+◌, drop, sym, ap, ◌∙◌}
use Rattle.check_rules.specs.Programs.{is_test_case}
use Rattle.check_rules.specs.internal.TestCases.{placed}
use Rattle.check_rules.specs.declared.test_cases.TestCases.{TestCases}
use Rattle.check_scope.proofs.Lookups.{drop-next}
use Rattle.check_rules.proofs.TestCaseLemmas.{no-test_case, placing, placing-end, placing-first, placing-other, placing-test_case}
use Rattle.check_rules.proofs.test_cases.TestCases.of.Goals as goal
use Rattle.check_rules.proofs.test_cases.TestCases.of.Goals.{in-Testcase+in_ok-add, in_default}

pub loop-at-init : goal.loop-at-init
loop-at-init c = placing-first (placed c.new-cases.result) c.args.definitions.now c.new-cases.ensures

pub loop-at-preserved : goal.loop-at-preserved
loop-at-preserved c =
    let definitions = c.args.definitions.now in
    let at = c.loop-at.at in
    let definition = c.index-definitions-at.result in
    let first = drop-next definitions at definition c.loop-at-test.true c.index-definitions-at.is in
    elim c.match-definition.branch [
      | in-Testcase+in_ok-add w ↦ ap (λ (cs : TestCases). placing (placed cs) (at + 1) (drop (at + 1) definitions)) w.cases-is
          ∙ sym (placing-test_case (placed c.loop-at.cases) (placed w.add.new.self) at definition (drop (at + 1) definitions) w.in-Testcase.testcase.name
          (λ name. ap (is_test_case name) w.in-Testcase.is) w.in_ok-add.ensures)
          ∙ ap (placing (placed c.loop-at.cases) at) (sym first)
          ∙ c.loop-at.invariant
      | in_default w ↦ ap (λ (cs : TestCases). placing (placed cs) (at + 1) (drop (at + 1) definitions)) w.cases-is
          ∙ sym (placing-other (placed c.loop-at.cases) at definition (drop (at + 1) definitions) (no-test_case definition.kind w.in_default.not-Testcase))
          ∙ ap (placing (placed c.loop-at.cases) at) (sym first)
          ∙ c.loop-at.invariant
    ]

pub returns : goal.returns
returns c = placing-end (placed c.loop-at.cases) c.args.definitions.now c.loop-at.at c.loop-at-test.false c.loop-at.invariant
