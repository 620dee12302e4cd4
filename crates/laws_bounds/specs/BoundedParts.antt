-- What the runs of a test case that keep a bound reach, where configurations with one live part count as one if as many timers may
-- still expire (ES 201 873-4).
use Rattle.std.specs.Prelude.{◌≡◌, ◌≢◌, ℕ, ◌-◌, ◌≤◌, ◌<◌, List, length, Option, Some, Contains, AllPairs}
use Rattle.std.specs.Option.{option_map}
use Rattle.std.specs.declared.cmp.Ordering.{Ordering}
use Rattle.laws_live.specs.Same.{AreSame}
use Rattle.search_bounds.specs.KeptRuns.{KeepsBound, expiries_of}
use Rattle.search_bounds.specs.declared.bound.Bound.{Bound}
use Rattle.search_bounds.specs.declared.kind.Kind.{Kind}
use Rattle.search_bounds.specs.declared.kind.Kind.TheVariants as kind
use Rattle.search_bounds.specs.declared.state.Bounded.{Bounded}
use Rattle.semantics.specs.Configurations.{Configuration}
use Rattle.semantics.specs.LiveParts.{live_part}
use Rattle.semantics.specs.Runs.{graph_of}
use Rattle.semantics.specs.Snapshots.{Test}
use Rattle.semantics.specs.Steps.{Delivery, Expiry, Label, Statement}
use Rattle.summary.specs.Run.{NoLater, Run, Then, end_of, steps_of}

-- ---- labels, and how many timers may still expire

-- what a step is of: a delivery at a system port is neither a statement nor an expiry
abbrev pub kind_of : Label → Kind
kind_of (Statement path) = kind.Statement
kind_of (Expiry path frame timer) = kind.Expiry
kind_of (Delivery system_port) = kind.Other

-- a run of the test case keeps the bound
abbrev pub Keeps : Test → Bound → Run Label → Type 0
Keeps test bound run = KeepsBound bound kind_of (graph_of test) run

-- how many timers may still expire where a run ends, if that is bounded
abbrev pub left_behind : Bound → Run Label → Option ℕ
left_behind bound run = option_map (λ most. most - expiries_of kind_of run) bound.expiries

-- ---- what is reached

-- some run of at most n steps that keeps the bound ends in a configuration with this live part, and leaves so many expiries
pub record IsBoundedReached (test : Test) (bound : Bound) (n : ℕ) (part : Bounded Configuration) : Type 0 where
  pub run : Run Label
  pub keeps : Keeps test bound run
  pub short : steps_of run ≤ n
  pub ends : live_part (end_of (graph_of test) run) ≡ part.state
  pub leaves : left_behind bound run ≡ part.left

-- the runs of at most n steps that keep the bound end with so many different pairs of a live part and of how many expiries are left
pub record CountsBounded (test : Test) (bound : Bound) (n count : ℕ) : Type 0 where
  pub parts : List (Bounded Configuration)
  pub different : AllPairs (λ part other. part ≢ other) parts
  pub reached : (part : Bounded Configuration) → Contains parts part → IsBoundedReached test bound n part
  pub all : (part : Bounded Configuration) → IsBoundedReached test bound n part → Contains parts part
  pub number : length parts ≡ count

-- two runs end in configurations that are the same, and leave as many expiries
abbrev pub EndAlike : Test → Bound → Run Label → Run Label → Type 0
EndAlike test bound run other = AreSame (end_of (graph_of test) run) (end_of (graph_of test) other) × (left_behind bound run ≡ left_behind bound other)

-- no run of n steps that keeps the bound, where no shorter one ends alike, goes on within the bound
abbrev pub IsCompleteBounded : Test → Bound → ℕ → Type 0
IsCompleteBounded test bound n = (run : Run Label) → Keeps test bound run → steps_of run ≡ n
    → ((other : Run Label) → Keeps test bound other → steps_of other < n → ¬ EndAlike test bound other run)
    → (label : Label) → ¬ Keeps test bound (Then run label)

-- ---- marks

-- a run of at most n steps that keeps the bound and ends with the mark
pub record HasMarkBounded (test : Test) (bound : Bound) (n mark : ℕ) (run : Run Label) : Type 0 where
  pub keeps : Keeps test bound run
  pub short : steps_of run ≤ n
  pub marked : (graph_of test).mark (end_of (graph_of test) run) ≡ Some mark

-- the least of these runs: none of them comes before it
pub record IsBestBounded (test : Test) (bound : Bound) (cmp : Label → Label → Ordering) (n mark : ℕ) (run : Run Label) : Type 0 where
  pub has : HasMarkBounded test bound n mark run
  pub least : (other : Run Label) → HasMarkBounded test bound n mark other → NoLater cmp run other
