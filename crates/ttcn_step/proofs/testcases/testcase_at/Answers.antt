use Rattle.std.proofs.Common.{◌∙◌, List, subst, sym}
use Rattle.ttcn_syntax.specs.declared.tree.definition.Definition.{Definition}
use Rattle.check_scope.specs.Names.{kind_at}
use Rattle.step_snapshot.specs.Slots.{NoneIsMissing}
use Rattle.graph_names.specs.Known.{names_of_kind}
use Rattle.check_rules.specs.Rules.{AreWellTyped}
use Rattle.ttcn_step.proofs.testcases.testcase_at.Goals as goal

pub invariant_of-result : goal.invariant_of-result
invariant_of-result c = record {
  well = subst AreWellTyped (sym c.in_ok-definitions.ensures) c.module-module.ensures.well_typed;
  same = c.in_ok-graphs.ensures ∙ sym c.in_ok-definitions.ensures;
  main = sym (c.mtc_of-mtc.ensures c.args.script.now);
  interface = sym (c.system_type-system_type.ensures c.args.script.now);
  none = c.new.ensures;
  room = c.in_ok-names.ensures.room;
  items = c.in_ok-names.ensures.items;
  known = λ at. subst (λ (definitions : List Definition). NoneIsMissing c.in_ok-names.names (names_of_kind (kind_at definitions at))) (c.in_ok-graphs.ensures ∙ sym c.in_ok-definitions.ensures) (c.in_ok-names.ensures.known at);
}
