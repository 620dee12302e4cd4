use Rattle.std.proofs.Common.{◌≡◌, map}
use Rattle.std.specs.List.{zip}
use Rattle.ttcn_values.proofs.Each.{behind, beside}
use Rattle.ttcn_values.specs.internal.Readers.{read_by}
use Rattle.value_types.specs.Outcomes.{each}
use Rattle.value_types.specs.Templates.{argument}
use Rattle.ttcn_values.proofs.reader.Reader.arguments.Given as goal

-- the values so far, and what is left, are what all give
abbrev pub invariant-loop-at : goal.invariant-loop-at
invariant-loop-at l =
    behind l.values.items (beside (argument (read_by l.self)) (λ value. value) l.parameters l.given l.at)
    ≡ each (map (argument (read_by l.self)) (zip l.parameters l.given))
