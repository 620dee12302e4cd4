use Rattle.std.proofs.Common.{◌≡◌, drop}
use Rattle.std.specs.List.{flat_map}
use Rattle.graph_names.specs.internal.Learning.{names_of_definition, with_names}
use Rattle.graph_names.proofs.known.Names.add_definitions.Given as goal

abbrev pub invariant-loop-definition : goal.invariant-loop-definition
invariant-loop-definition l = with_names l.self (flat_map names_of_definition (drop l.definition-index l.definitions)) ≡ with_names l.fn.self (flat_map names_of_definition l.fn.definitions)
