use Rattle.check_scope.specs.Names.{kind_at, module_names}
use Rattle.check_scope.specs.PortTypes.{types_passing}
use Rattle.step_forms.proofs.Coming.{HaveAdded}
use Rattle.step_forms.proofs.port_types.types_passing.Given as goal
use Rattle.step_forms.specs.internal.Ports.{messages_of}

abbrev pub invariant-loop-messages : goal.invariant-loop-messages
invariant-loop-messages l = HaveAdded (types_passing (module_names l.definitions) l.incoming) (messages_of (kind_at l.definitions l.at)) l.messages-index l.types.items
