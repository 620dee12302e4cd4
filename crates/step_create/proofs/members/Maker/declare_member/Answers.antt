use Rattle.std.proofs.Common.{List, map, subst, sym}
use Rattle.step_create.proofs.members.Maker.declare_member.Goals as goal
use Rattle.step_snapshot.specs.Slots.{NoneIsMissing}
use Rattle.graph_names.specs.Known.{names_of_member}
use Rattle.ttcn_syntax.specs.declared.tree.definition.Member.{Member}
use Rattle.ttcn_syntax.specs.declared.tree.definition.MemberVariable.{MemberVariable}
use Rattle.ttcn_syntax.specs.declared.tree.statement.Constant.{Constant}
use Rattle.ttcn_syntax.specs.declared.tree.statement.Timer.{Timer}

pub declare_constants-requires-clause-known : goal.declare_constants-requires-clause-known
declare_constants-requires-clause-known c =
    let names = c.args.self.now.test.now.names in
    subst (λ (xs : List Constant). NoneIsMissing names (map (λ x. x.name) xs)) (sym c.as_slice-constants.ensures)
    (subst (λ (m : Member). NoneIsMissing names (names_of_member m)) c.in-Constants.is c.requires.known)

pub declare_variables-requires-clause-known : goal.declare_variables-requires-clause-known
declare_variables-requires-clause-known c =
    let names = c.args.self.now.test.now.names in
    subst (λ (xs : List MemberVariable). NoneIsMissing names (map (λ x. x.name) xs)) (sym c.as_slice.ensures)
    (subst (λ (m : Member). NoneIsMissing names (names_of_member m)) c.in-Variables.is c.requires.known)

pub declare_timers-requires-clause-known : goal.declare_timers-requires-clause-known
declare_timers-requires-clause-known c =
    let names = c.args.self.now.test.now.names in
    subst (λ (xs : List Timer). NoneIsMissing names (map (λ x. x.name) xs)) (sym c.as_slice-in-Timers.ensures)
    (subst (λ (m : Member). NoneIsMissing names (names_of_member m)) c.in-Timers.is c.requires.known)
