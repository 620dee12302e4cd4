-- When one graph stands for another.
use Rattle.std.specs.Prelude.{◌≡◌}
use Rattle.search_bounds.specs.declared.state.Bounded.{Bounded}
use Rattle.summary.specs.Graph.{Graph}
use Rattle.summary.specs.Sums.{Observation}

-- the configurations of the second graph are what a function keeps of those of the first: from what is kept the same labels are
-- enabled, each leads to what is kept of where it leads, and the mark is the same
pub record StandsFor {C D L : Type 0} (g : Graph C L) (h : Graph D L) (kept : C → D) : Type 0 where
  pub first : h.first ≡ kept g.first
  pub enabled : (c : C) → h.enabled (kept c) ≡ g.enabled c
  pub after : (c : C) (label : L) → h.after (kept c) label ≡ kept (g.after c label)
  pub mark : (c : C) → h.mark (kept c) ≡ g.mark c

-- what is seen of a configuration and of a step is seen of what is kept
pub record SeesKept {C D L S : Type 0} (kept : C → D) (whole : Observation C L S) (shrunk : Observation D L S) : Type 0 where
  pub at : (c : C) → shrunk.at (kept c) ≡ whole.at c
  pub by : (c : C) (label : L) → shrunk.by (kept c) label ≡ whole.by c label

-- a function keeps of a state what it keeps, and how many timers may still expire
abbrev pub with_left : {C D : Type 0} → (C → D) → Bounded C → Bounded D
with_left kept b = record { state = kept b.state; left = b.left }

-- what is seen of a state, where it is also known how many timers may still expire
abbrev pub of_states : {C L S : Type 0} → Observation C L S → Observation (Bounded C) L S
of_states reading = record { at = λ b. reading.at b.state; by = λ b label. reading.by b.state label }
