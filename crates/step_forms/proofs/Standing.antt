-- What is known, what may come and what is named where a part of a statement stands first.
use Rattle.std.proofs.Common.{◌≡◌, refl, ap, subst, ◌∙◌, ℕ, List, [], ◌∷◌, Option, Some, None, arith}
use Rattle.std.specs.Option.{option_map}
use Rattle.std.proofs.Common.{map, get_or, IfSome}
use Rattle.step_forms.specs.internal.Places.{list_at}
use Rattle.step_forms.specs.internal.Stands.{site_of}
use Rattle.step_forms.specs.declared.stand.Stand.{Stand}
use Rattle.semantics.specs.Items.{Does, Doing, Part, action_of}
use Rattle.step_snapshot.specs.Slots.{IsKnown, NoneIsMissing}
use Rattle.graph_items.specs.Standing.{part_of}
use Rattle.graph_sites.specs.declared.facts.EventFacts.{EventFacts as CodeFacts}
use Rattle.graph_sites.specs.Facts.{event_by, EventFacts, Goal, Stores, Waits, facts_by, facts_of, facts_of_part}
use Rattle.graph_names.specs.Known.{Known, names_if_any, names_of, names_of_part}
use Rattle.ttcn_graph.specs.Ways.{ways_of, ways_of_part}

module _ (s : Stand) (part : Part) (does : Does) (same : part_of s.part ≡ part) (what : action_of s.statement.now ≡ does) where
  first-there : list_at (s.snapshot.now).test.now (s.frame.now).remaining ≡ Doing (site_of s) s.statement.now part ∷ list_at (s.snapshot.now).test.now s.rest
  first-there = s.first ∙ ap (λ p. Doing (site_of s) s.statement.now p ∷ list_at (s.snapshot.now).test.now s.rest) same

  -- what is known there
  pub facts-there : facts_of ((s.snapshot.now).test.now).definitions (list_at (s.snapshot.now).test.now (s.frame.now).remaining)
      ≡ facts_of_part ((s.snapshot.now).test.now).definitions (site_of s) part does
  facts-there =
      ap (facts_of ((s.snapshot.now).test.now).definitions) first-there
      ∙ ap (facts_of_part ((s.snapshot.now).test.now).definitions (site_of s) part) what

  pub facts-kept : facts_by s.facts.now ≡ facts_of_part ((s.snapshot.now).test.now).definitions (site_of s) part does
  facts-kept = s.known ∙ facts-there

  -- what may come of it
  pub ways-there : ways_of ((s.snapshot.now).test.now).definitions (list_at (s.snapshot.now).test.now (s.frame.now).remaining)
      ≡ ways_of_part ((s.snapshot.now).test.now).definitions (site_of s) s.statement.now (list_at (s.snapshot.now).test.now s.rest) part does
  ways-there =
      ap (ways_of ((s.snapshot.now).test.now).definitions) first-there
      ∙ ap (ways_of_part ((s.snapshot.now).test.now).definitions (site_of s) s.statement.now (list_at (s.snapshot.now).test.now s.rest) part) what

  -- what it names
  pub known-there : NoneIsMissing ((s.snapshot.now).test.now).names (names_of_part does part)
  known-there =
      subst (λ (of : Known). NoneIsMissing ((s.snapshot.now).test.now).names of) (ap names_of first-there ∙ ap (λ d. names_of_part d part) what) s.named

-- ---- names among those of which none is missing

pub first-known : (names : Known) (name : List ℕ) (more : Known) → NoneIsMissing names (name ∷ more) → IsKnown names name
first-known names name more none = none name (0, omega arith, refl)

pub second-known : (names : Known) (one name : List ℕ) (more : Known) → NoneIsMissing names (one ∷ name ∷ more) → IsKnown names name
second-known names one name more none = none name (1, omega arith, refl)

-- the name that a declaration declares at a place
pub declared-known : {A : Type 0} (names : Known) (name_in : A → List ℕ) (found : Option A) → NoneIsMissing names (names_if_any (option_map name_in found)) → IfSome found (λ a. IsKnown names (name_in a))
declared-known names name_in None none = tt
declared-known names name_in (Some a) none = first-known names (name_in a) [] none

-- ---- what is known is one thing

pub one-goal : (a b : Goal) → Stores a ≡ Stores b → a ≡ b
one-goal a b is = cc

pub one-list : (a b : List EventFacts) → Waits a ≡ Waits b → a ≡ b
one-list a b is = cc

-- the first of the events that are known
pub first-event : (found : List CodeFacts) (one : CodeFacts) (event : EventFacts) → map event_by found ≡ event ∷ [] → one ≡ get_or found 0 one → event_by one ≡ event
first-event [] one event is at = absurd (let bad = is in cc)
first-event (f ∷ found) one event is at = ap event_by at ∙ (let same : event_by f ≡ event = cc in same)
