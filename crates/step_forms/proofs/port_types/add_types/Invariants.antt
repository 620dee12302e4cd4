use Rattle.check_scope.specs.Names.{module_names, resolved}
use Rattle.step_forms.proofs.Coming.{HaveCome}
use Rattle.step_forms.proofs.port_types.add_types.Given as goal

abbrev pub invariant-loop-name : goal.invariant-loop-name
invariant-loop-name l = HaveCome (resolved (module_names l.definitions)) l.names l.fn.types.items l.name-index l.types.items
