use Rattle.std.proofs.Common.{◌≡◌, ℕ, ◌+◌, ◌-◌, [], get_or, vec_len}
use Rattle.ttcn_graph.proofs.draft.Draft.finish.Given as goal

abbrev pub invariant-loop-self : goal.invariant-loop-self
invariant-loop-self l =
    (l.self-inside.here ≡ l.initial.self-inside.here) × (l.self-inside.cells ≡ l.initial.self-inside.cells) × (l.self-inside.declared ≡ l.initial.self-inside.declared)
    × ((p : ℕ) → get_or l.self-inside.ways.items p [] ≡ get_or l.initial.self-inside.ways.items p [])

abbrev pub decreases-loop-self : goal.decreases-loop-self
decreases-loop-self l = l.at + 1 - vec_len l.self-inside.ways
