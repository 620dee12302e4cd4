use Rattle.std.proofs.Common.{sym, ap, ◌∙◌}
use Rattle.ttcn_syntax.specs.declared.tree.definition.Module.{Module}
use Rattle.check_rules.specs.Programs.{test_case_named}
use Rattle.check_rules.specs.internal.TestCases.{placed}
use Rattle.check_rules.proofs.TestCaseLemmas.{Positions, named-at}
use Rattle.check_rules.proofs.program.Program.testcase.Goals as goal

pub returns-in_err-position-clause-named : goal.returns-in_err-position-clause-named
returns-in_err-position-clause-named c =
    c.from_residual.ensures ∙ sym c.in_err-position.was
    ∙ c.get.ensures
    ∙ ap (placed c.self.inside.test_cases) c.as_bytes.ensures.value
    ∙ ap (λ (positions : Positions). positions c.args.name.now) c.self.invariant.test_cases
    ∙ ap (λ (m : Module). test_case_named m.definitions c.args.name.now) c.self.view_is

pub returns-clause-named : goal.returns-clause-named
returns-clause-named c =
    sym c.in_ok-position.was
    ∙ c.get.ensures
    ∙ ap (placed c.self.inside.test_cases) c.as_bytes.ensures.value
    ∙ ap (λ (positions : Positions). positions c.args.name.now) c.self.invariant.test_cases
    ∙ ap (λ (m : Module). test_case_named m.definitions c.args.name.now) c.self.view_is

pub returns-clause-at : goal.returns-clause-at
returns-clause-at c = named-at c.args.self.now.definitions c.args.name.now c.in_ok-position.position (sym (returns-clause-named c))
