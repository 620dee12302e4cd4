-- Live parts stand for configurations, and what stands for another stands for it within a bound.
use Rattle.std.proofs.Common.{◌≡◌, Option, Some, None, option_map, refl, ap}
use Rattle.laws_bounds.specs.StandsFor.{SeesKept, StandsFor, of_states, with_left}
use Rattle.search_bounds.specs.Bounded.{allowed, bounded, left_after}
use Rattle.search_bounds.specs.declared.bound.Bound.{Bound}
use Rattle.search_bounds.specs.declared.kind.Kind.{Kind}
use Rattle.semantics.proofs.LiveTheorem.{labels_live, live_twice, mark_live, next_live}
use Rattle.semantics.specs.Canonical.{SeesLiveParts, canonical_graph}
use Rattle.semantics.specs.Configurations.{Configuration}
use Rattle.semantics.specs.LiveParts.{live_part}
use Rattle.semantics.specs.Runs.{graph_of, option_elim}
use Rattle.semantics.specs.Snapshots.{Test}
use Rattle.semantics.specs.Steps.{Label, next}
use Rattle.summary.specs.Graph.{Graph}
use Rattle.summary.specs.Sums.{Observation}

-- ---- live parts

elim-live : (c d : Configuration) (o p : Option Configuration) → live_part c ≡ live_part d → option_map live_part o ≡ option_map live_part p
    → live_part (option_elim c (λ x. x) o) ≡ live_part (option_elim d (λ x. x) p)
elim-live c d None None same e = same
elim-live c d (Some x) (Some y) same e = let found = e in let alike : live_part x ≡ live_part y = cc in alike
elim-live c d None (Some y) same e = absurd (let found = e in cc)
elim-live c d (Some x) None same e = absurd (let found = e in cc)

pub live-stands : (test : Test) → StandsFor (graph_of test) (canonical_graph test) live_part
live-stands test = record {
  first = refl;
  enabled = λ c. labels_live test c;
  after = λ c label. elim-live (live_part c) c (next test (live_part c) label) (next test c label) (live_twice c) (next_live test c label);
  mark = mark_live;
}

pub live-seen : {S : Type 0} (reading : Observation Configuration Label S) → SeesLiveParts reading → SeesKept live_part reading reading
live-seen reading sees = record { at = sees.at; by = sees.by }

-- ---- bounds

module _ {C D L : Type 0} (bound : Bound) (kind_of : L → Kind) (g : Graph C L) (h : Graph D L) (kept : C → D) (stands : StandsFor g h kept) where
  pub bounded-stands : StandsFor (bounded bound kind_of g) (bounded bound kind_of h) (with_left kept)
  bounded-stands = record {
    first = λ i. record { state = stands.first i; left = bound.expiries };
    enabled = λ b. ap (allowed bound.patient kind_of b.left) (stands.enabled b.state);
    after = λ b label. λ i. record { state = stands.after b.state label i; left = left_after (kind_of label) b.left };
    mark = λ b. stands.mark b.state;
  }

pub bounded-seen : {C D L S : Type 0} (kept : C → D) (whole : Observation C L S) (shrunk : Observation D L S) → SeesKept kept whole shrunk → SeesKept (with_left kept) (of_states whole) (of_states shrunk)
bounded-seen kept whole shrunk sees = record { at = λ b. sees.at b.state; by = λ b label. sees.by b.state label }
