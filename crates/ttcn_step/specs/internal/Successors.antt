-- Successors, as the private functions know them.
use Rattle.std.specs.Prelude.{List, map}
use Rattle.semantics.specs.Configurations as rules
use Rattle.semantics.specs.Steps.{Label}
use Rattle.ttcn_step.specs.Machines.{Machine, said}
use Rattle.ttcn_step.specs.declared.successor.Successor.{Successor}

-- labels with the configurations to which they lead
abbrev pub pairs_by : Machine → List Successor → List (Label × rules.Configuration)
pairs_by machine found = map (λ s. (s.label, said machine s.config)) found
