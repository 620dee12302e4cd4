-- What a search over live parts answers, and what is made of it.
use Rattle.std.specs.Prelude.{◌≡◌}
use Rattle.explore.specs.declared.answer.Answer.{Answer}
use Rattle.semantics.specs.Steps.{Label}
use Rattle.step_labels.specs.declared.standing.Standing.{Standing}
use Rattle.summary.specs.Ascent.{Ascends}
use Rattle.summary.specs.KeySet.{from_list}
use Rattle.summary.specs.declared.blocked.Blocked.{Blocked}
use Rattle.summary.specs.declared.both.Both.{Both}
use Rattle.summary.specs.declared.branches.Branches.{Branches}
use Rattle.summary.specs.declared.verdicts.Verdicts.{Verdicts}
use Rattle.ttcn_syntax.specs.declared.place.Span.{Span}
use Rattle.ttcnx_runs.specs.Found.{place_cmp, standing_cmp}
use Rattle.ttcnx_runs.specs.declared.exploration.Exploration.{Exploration}

-- verdicts, branches and blocked components, as one summary
abbrev pub Shown : Type 0 → Type 0 → Type 0
Shown B T = Both Verdicts (Both (Branches B) (Blocked T))

-- what a search over live parts answers
abbrev pub Searched : Type 0
Searched = Answer (Shown Span Standing) Label

-- what is found is made of the answer
pub record IsMadeOf (found : Exploration) (answer : Searched) : Type 0 where
  pub configurations : found.configurations ≡ answer.count
  pub complete : found.complete ≡ answer.complete
  pub best : found.best.items ≡ answer.best.items
  pub branches : from_list found.branches.items ≡ answer.summary.second.first.places
  pub ascending : Ascends place_cmp found.branches.items
  pub blocked : from_list found.blocked.items ≡ answer.summary.second.second.components
  pub in_order : Ascends standing_cmp found.blocked.items
