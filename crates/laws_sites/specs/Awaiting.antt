-- Statements that await the timeout of a timer.
use Rattle.std.specs.Prelude.{◌≡◌, ℕ, List, Contains}
use Rattle.ttcn_syntax.specs.declared.tree.statement.Action.{Action}
use Rattle.ttcn_syntax.specs.declared.tree.statement.Action.TheOpen.{Action-F, Alternative-F}
use Rattle.ttcn_syntax.specs.declared.tree.statement.Alternative.{Alternative, out-Alternative}
use Rattle.ttcn_syntax.specs.declared.tree.statement.Branch.{Branch, out-Branch}
use Rattle.ttcn_syntax.specs.declared.tree.statement.Conditional.{Conditional}
use Rattle.ttcn_syntax.specs.declared.tree.statement.Event.{Event}
use Rattle.ttcn_syntax.specs.declared.tree.statement.Event.TheVariants as event
use Rattle.ttcn_syntax.specs.declared.tree.statement.Statement.{Statement}
use Rattle.semantics.specs.Items.{Does}

-- an event is the timeout of the timer of a name
abbrev pub IsTimeout : List ℕ → Event → Type 0
IsTimeout name (event.Timeout timer) = timer ≡ name
IsTimeout name _ = ⊥

-- what stands in a branch is an event, the timeout of the timer of a name
abbrev pub BeginsByTimeout : List ℕ → Alternative-F Action Alternative Branch Conditional Statement → Type 0
BeginsByTimeout name (Alternative-F.«Alternative::Event» guard event block) = IsTimeout name event
BeginsByTimeout name _ = ⊥

-- a branch awaits the timeout of the timer of a name
abbrev pub IsTimeoutBranch : List ℕ → Branch → Type 0
IsTimeoutBranch name b = BeginsByTimeout name (out-Alternative (out-Branch b).alternative)

-- a statement awaits it: by itself, or as an `alt` by one of its own branches
abbrev pub AwaitsTimeout : List ℕ → Does → Type 0
AwaitsTimeout name (Action-F.«Action::Event» event) = IsTimeout name event
AwaitsTimeout name (Action-F.Alt branches) = (b : Branch) × Contains branches b × IsTimeoutBranch name b
AwaitsTimeout name _ = ⊥
