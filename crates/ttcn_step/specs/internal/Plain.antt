-- Where a component stands at no `alt`: it has a step, and takes no branch.
use Rattle.std.specs.Prelude.{◌≡◌, true, List, ◌∷◌, is_some}
use Rattle.ttcn_syntax.specs.declared.tree.statement.Action.TheOpen.{Action-F}
use Rattle.semantics.specs.Configurations.{Component, Going, is_running_state}
use Rattle.semantics.specs.Items.{Does, Doing, Item, Whole, action_of}
use Rattle.semantics.specs.Snapshots.{Test}
use Rattle.semantics.specs.Steps.{statement_step}

-- no `alt`, and nothing that may stand for one: a call may be one of an altstep
abbrev pub IsPlain : Does → Type 0
IsPlain (Action-F.«Action::Call» call) = ⊥
IsPlain (Action-F.«Action::Event» event) = ⊥
IsPlain (Action-F.Alt branches) = ⊥
IsPlain _ = Unit {0}

-- neither an `alt` nor anything that may stand for one comes first: only the whole of a statement is an `alt`
abbrev pub IsPlainFirst : List Item → Type 0
IsPlainFirst (Doing site s Whole ∷ rest) = IsPlain (action_of s)
IsPlainFirst _ = Unit {0}

-- a component's statement has a step wherever the component runs, whatever it sees
abbrev pub HasStep : Test → Component → Type 0
HasStep test component = (c : Going) → is_running_state component.state ≡ true → is_some (statement_step test c component) ≡ true
