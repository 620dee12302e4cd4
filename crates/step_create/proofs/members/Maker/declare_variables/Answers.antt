use Rattle.std.proofs.Common.{◌≡◌, Err, Option, subst}
use Rattle.check_scope.specs.Names.{module_names, resolved}
use Rattle.check_scope.specs.declared.types.DataType.{DataType}
use Rattle.step_create.proofs.Declared.{part-known}
use Rattle.step_create.proofs.Turns.{all-turned, fault-turned, one-turned}
use Rattle.step_create.proofs.members.Maker.declare_variables.Goals as goal
use Rattle.step_create.specs.Makers.{frame_for}
use Rattle.semantics.specs.Creating as rules
use Rattle.semantics.specs.Snapshots.{Snapshot, Test}
use Rattle.semantics.specs.Configurations.{Frame}
use Rattle.step_snapshot.specs.Tests.{test_by}
use Rattle.ttcn_syntax.specs.declared.tree.definition.MemberVariable.{MemberVariable}
use Rattle.value_types.specs.Outcomes.{GivesBy, Outcome, Yields}
use Rattle.value_types.specs.declared.value.ComponentId.{ComponentId}

-- the declaration of one variable
abbrev variable : Test → ComponentId → Snapshot → Option DataType → Frame → MemberVariable → Outcome Frame
variable test itself snapshot of f v = rules.declared_variable test itself snapshot of f v.name v.value

pub declare_variable-requires-clause-known : goal.declare_variable-requires-clause-known
declare_variable-requires-clause-known c =
    part-known c.args.self.now.test.now.names (λ c'. c'.name) c.args.variables.now c.loop-variable.variable-index c.variable-item.result c.loop-variable-test.true c.variable-item.is c.requires.known

pub returns-in_err-cells-clause-declared : goal.returns-in_err-cells-clause-declared
returns-in_err-cells-clause-declared c snapshot runs =
    let self = c.args.self.now in
    let t = test_by self.test.now in
    let now = frame_for self c.loop-variable.cells in
    let one = c.variable-item.result in
    fault-turned (frame_for self) (variable t self.itself.now snapshot (resolved (module_names t.definitions) c.args.type_name.now)) c.args.variables.now (frame_for self c.args.cells) now
    c.loop-variable.variable-index one c.in_err-cells.field-0.0 c.from_residual.result c.loop-variable-test.true c.variable-item.is (c.loop-variable.invariant.0 snapshot runs) c.from_residual.ensures.1
    (subst (λ of. GivesBy (frame_for self) (variable t self.itself.now snapshot of now one) (Err c.in_err-cells.field-0.0)) c.resolved-of.ensures (c.in_err-cells.ensures.declared snapshot runs))

pub loop-variable-preserved : goal.loop-variable-preserved
loop-variable-preserved c =
    let self = c.args.self.now in
    let t = test_by self.test.now in
    let now = frame_for self c.loop-variable.cells in
    let one = c.variable-item.result in (
      λ snapshot runs. one-turned (variable t self.itself.now snapshot (resolved (module_names t.definitions) c.args.type_name.now)) c.args.variables.now (frame_for self c.args.cells) now (frame_for self c.in_ok-cells.cells)
          c.loop-variable.variable-index one c.loop-variable-test.true c.variable-item.is (c.loop-variable.invariant.0 snapshot runs)
          (subst (λ of. variable t self.itself.now snapshot of now one ≡ Yields (frame_for self c.in_ok-cells.cells)) c.resolved-of.ensures (c.in_ok-cells.ensures.declared snapshot runs)),
      c.in_ok-cells.ensures.within,
    )

pub returns-clause-declared : goal.returns-clause-declared
returns-clause-declared c snapshot runs =
    let self = c.args.self.now in
    let t = test_by self.test.now in
    all-turned (variable t self.itself.now snapshot (resolved (module_names t.definitions) c.args.type_name.now)) c.args.variables.now (frame_for self c.args.cells) (frame_for self c.loop-variable.cells)
    c.loop-variable.variable-index c.loop-variable-test.false (c.loop-variable.invariant.0 snapshot runs)
