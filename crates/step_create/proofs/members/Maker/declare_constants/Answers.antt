use Rattle.std.proofs.Common.{◌≡◌, Err, Option, subst}
use Rattle.check_scope.specs.Names.{module_names, resolved}
use Rattle.check_scope.specs.declared.types.DataType.{DataType}
use Rattle.step_create.proofs.Declared.{part-known}
use Rattle.step_create.proofs.Turns.{all-turned, fault-turned, one-turned}
use Rattle.step_create.proofs.members.Maker.declare_constants.Goals as goal
use Rattle.step_create.specs.Makers.{frame_for}
use Rattle.semantics.specs.Creating as rules
use Rattle.semantics.specs.Snapshots.{Snapshot, Test}
use Rattle.semantics.specs.Configurations.{Frame}
use Rattle.step_snapshot.specs.Tests.{test_by}
use Rattle.ttcn_syntax.specs.declared.tree.statement.Constant.{Constant}
use Rattle.value_types.specs.Outcomes.{GivesBy, Outcome, Yields}
use Rattle.value_types.specs.declared.value.ComponentId.{ComponentId}

-- the declaration of one constant
abbrev constant : Test → ComponentId → Snapshot → Option DataType → Frame → Constant → Outcome Frame
constant test itself snapshot of f c = rules.declared_with test itself snapshot of f c.name c.value

pub declare-requires-clause-known : goal.declare-requires-clause-known
declare-requires-clause-known c =
    part-known c.args.self.now.test.now.names (λ c'. c'.name) c.args.constants.now c.loop-constant.constant-index c.constant-item.result c.loop-constant-test.true c.constant-item.is c.requires.known

pub returns-in_err-cells-clause-declared : goal.returns-in_err-cells-clause-declared
returns-in_err-cells-clause-declared c snapshot runs =
    let self = c.args.self.now in
    let t = test_by self.test.now in
    let now = frame_for self c.loop-constant.cells in
    let one = c.constant-item.result in
    fault-turned (frame_for self) (constant t self.itself.now snapshot (resolved (module_names t.definitions) c.args.type_name.now)) c.args.constants.now (frame_for self c.args.cells) now
    c.loop-constant.constant-index one c.in_err-cells.field-0.0 c.from_residual.result c.loop-constant-test.true c.constant-item.is (c.loop-constant.invariant.0 snapshot runs) c.from_residual.ensures.1
    (subst (λ of. GivesBy (frame_for self) (constant t self.itself.now snapshot of now one) (Err c.in_err-cells.field-0.0)) c.resolved-of.ensures (c.in_err-cells.ensures.declared snapshot runs))

pub loop-constant-preserved : goal.loop-constant-preserved
loop-constant-preserved c =
    let self = c.args.self.now in
    let t = test_by self.test.now in
    let now = frame_for self c.loop-constant.cells in
    let one = c.constant-item.result in (
      λ snapshot runs. one-turned (constant t self.itself.now snapshot (resolved (module_names t.definitions) c.args.type_name.now)) c.args.constants.now (frame_for self c.args.cells) now (frame_for self c.in_ok-cells.cells)
          c.loop-constant.constant-index one c.loop-constant-test.true c.constant-item.is (c.loop-constant.invariant.0 snapshot runs)
          (subst (λ of. constant t self.itself.now snapshot of now one ≡ Yields (frame_for self c.in_ok-cells.cells)) c.resolved-of.ensures (c.in_ok-cells.ensures.declared snapshot runs)),
      c.in_ok-cells.ensures.within,
    )

pub returns-clause-declared : goal.returns-clause-declared
returns-clause-declared c snapshot runs =
    let self = c.args.self.now in
    let t = test_by self.test.now in
    all-turned (constant t self.itself.now snapshot (resolved (module_names t.definitions) c.args.type_name.now)) c.args.constants.now (frame_for self c.args.cells) (frame_for self c.loop-constant.cells)
    c.loop-constant.constant-index c.loop-constant-test.false (c.loop-constant.invariant.0 snapshot runs)
