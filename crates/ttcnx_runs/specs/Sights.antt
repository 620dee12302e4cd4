-- What steps and configurations of a test case show, to which runs are wanted: where a step is, whether the message that it sends is
-- lost, and which components are blocked.
use Rattle.std.specs.Prelude.{◌≡◌, ℕ, Bool, true, false, List, [], ◌∷◌, Option, None, Some}
use Rattle.std.specs.Option.{option_map}
use Rattle.std.proofs.Common.{refl, sym, ap, ◌∙◌, ◌&&◌, true≢false}
use mathlib.Core.Bool.{beq}
use Rattle.std.proofs.lemmas.Bool.{and_parts}
use Rattle.std.specs.Cmp.{Equal-is, eq_by_cmp_equiv}
use Rattle.std.specs.Cmp.Lexicographic.{pointwise}
use Rattle.std.specs.FinSet.{IsAntisymmetric}
use Rattle.std.specs.Ordering.{eq_by_cmp}
use Rattle.std.specs.declared.cmp.Ordering.{Ordering}
use Rattle.explore.specs.Sightings.{AreSighted, shown_at_end, shown_by_step}
use Rattle.explore.specs.declared.sightings.Sighting.{Sighting}
use Rattle.step_labels.specs.Standings.{place_cmp, place_one, place_total, standing_cmp, standing_one, standing_total}
use Rattle.step_labels.specs.declared.standing.Standing.{Standing}
use Rattle.syntax_equality.specs.Equality.{list_one}
use Rattle.ttcn_syntax.specs.declared.place.Span.{Span}
use Rattle.semantics.specs.Configurations.{Configuration}
use Rattle.semantics.specs.Labels.{label_cmp}
use Rattle.semantics.specs.Places.{blocked, branch_of}
use Rattle.semantics.specs.Runs.{graph_of}
use Rattle.semantics.specs.Snapshots.{Test}
use Rattle.semantics.specs.Steps.{Label}
use Rattle.semantics.specs.Telling.{Leaves, Lost, Reaches, Sent, Way, place_of_step, sent_of}
use Rattle.ttcnx_runs.specs.declared.step_place.StepPlace.{StepPlace}

-- the first of two, where there is one, else the second
abbrev pub either_of : {A : Type 0} → Option A → Option A → Option A
either_of (Some a) other = Some a
either_of None other = other

-- where the step of a label is: at the branch that it takes, else at the statement that it begins with, where it is that of a statement
abbrev pub place_in_text : Test → Configuration → Label → Option Span
place_in_text test c label = either_of (branch_of test c label) (place_of_step c label)

-- a message goes nowhere: the component of the port that it is meant for is terminated
abbrev pub is_lost_way : Way → Bool
is_lost_way (Reaches e) = false
is_lost_way (Lost e) = true
is_lost_way (Leaves system_port) = false

-- there is a message, and it is lost
abbrev pub is_lost : Option Sent → Bool
is_lost None = false
is_lost (Some sent) = is_lost_way sent.way

-- where the step of a label is, and whether the message that it sends is lost
abbrev pub step_place : Test → Configuration → Label → Option StepPlace
step_place test c label = option_map (λ place. record { place = place; lost = is_lost (sent_of test c label) }) (place_in_text test c label)

-- some, where there are some
abbrev pub if_some : {A : Type 0} → List A → Option (List A)
if_some [] = None
if_some (a ∷ others) = Some (a ∷ others)

-- the components that are blocked, each with the place where it stands, where some are
abbrev pub block_in : Test → Configuration → Option (List Standing)
block_in test c = if_some (blocked test c)

-- the places of the steps of runs of at most n steps, those where a message is lost apart, each with the least of the shortest runs
-- whose last step is such a one
abbrev pub ArePlaces : Test → ℕ → List (Sighting StepPlace Label) → Type 0
ArePlaces test n places = AreSighted (graph_of test) label_cmp n (shown_by_step (graph_of test) (step_place test)) places

-- the blocks in which runs of at most n steps end, each with the least of the shortest runs that end so
abbrev pub AreBlocks : Test → ℕ → List (Sighting (List Standing) Label) → Type 0
AreBlocks test n blocks = AreSighted (graph_of test) label_cmp n (shown_at_end (graph_of test) (block_in test)) blocks

-- ---- `==` on what is shown is true of a value and itself alone

tie-one : {A : Type 0} (cmp : A → A → Ordering) → IsAntisymmetric cmp → (a b : A) → eq_by_cmp cmp a b ≡ true → a ≡ b
tie-one cmp one a b same = one a b ((Equal-is (cmp a b)).0 same)

pub place-one : (p q : Span) → eq_by_cmp place_cmp p q ≡ true → p ≡ q
place-one = tie-one place_cmp place_one

pub place-itself : (p : Span) → eq_by_cmp place_cmp p p ≡ true
place-itself p = (eq_by_cmp_equiv place_total).refl p

-- `==` on places of steps
abbrev pub same_step_place : StepPlace → StepPlace → Bool
same_step_place p q = eq_by_cmp place_cmp p.place q.place && beq p.lost q.lost

one-bool : (a b : Bool) → beq a b ≡ true → a ≡ b
one-bool true true e = refl
one-bool false false e = refl
one-bool true false e = absurd (true≢false (sym e))
one-bool false true e = absurd (true≢false (sym e))

bool-itself : (b : Bool) → beq b b ≡ true
bool-itself true = refl
bool-itself false = refl

pub step-place-one : (p q : StepPlace) → same_step_place p q ≡ true → p ≡ q
step-place-one p q same = let parts = and_parts _ _ same in λ i. record { place = place-one p.place q.place parts.0 i; lost = one-bool p.lost q.lost parts.1 i }

pub step-place-itself : (p : StepPlace) → same_step_place p p ≡ true
step-place-itself p = ap (λ b. b && beq p.lost p.lost) (place-itself p.place) ∙ bool-itself p.lost

pub stands-one : (s t : List Standing) → pointwise (eq_by_cmp standing_cmp) s t ≡ true → s ≡ t
stands-one = list_one (eq_by_cmp standing_cmp) (tie-one standing_cmp standing_one)

pub stands-itself : (s : List Standing) → pointwise (eq_by_cmp standing_cmp) s s ≡ true
stands-itself [] = refl
stands-itself (s ∷ ss) = ap (λ b. b && pointwise (eq_by_cmp standing_cmp) ss ss) ((eq_by_cmp_equiv standing_total).refl s) ∙ stands-itself ss
