-- What a component asks for in its step, where all values are of their types.
use Rattle.std.specs.Prelude.{◌≡◌, ◌⊎◌, ℕ, true, [], ◌∷◌, Option, is_some}
use Rattle.std.specs.List.{All}
use Rattle.ttcn_syntax.specs.declared.tree.expression.ComponentRef.{ComponentRef}
use Rattle.semantics.specs.Configurations.{Data, Frame, Going, component_at, path_of, same_path}
use Rattle.semantics.specs.Sites.{Site}
use Rattle.semantics.specs.Snapshots.{Snapshot, Test, last_view, reading_in}
use Rattle.semantics.specs.Statements.{Act, Connects, Continues, Creates, Errs, Maps, Removes, Requests, Sends, Starts, Stops, Unmaps, Waits, Worsens}
use Rattle.value_types.specs.Outcomes.{DynamicError, Unmet, Yields}
use Rattle.value_types.specs.Readings.{component_referred}
use Rattle.value_types.specs.declared.path.Path.{Path}
use Rattle.value_types.specs.declared.value.ComponentId.{ComponentId}
use Rattle.laws_types.specs.Typed.{FitCalls, FitsComponent, FitsData, FitsMessage, FitsOwn, HasFrames}

-- a component that a reference means somewhere in a component's last frame
abbrev pub IsMeant : Test → Snapshot → Data → Frame → ComponentId → Type 0
IsMeant test snapshot own frame id =
    (site : Site) × (reference : ComponentRef) × (component_referred (reading_in test snapshot own site (last_view snapshot frame)) reference ≡ Yields id)

-- a frame that starts at a path: it is that of a component of which this holds, on whose type the frame's behaviour may run
pub record FitsStart (test : Test) (P : ComponentId → Type 0) (path : Path) (frame : Frame) : Type 0 where
  pub reference : ComponentId
  pub is_meant : P reference
  pub is : path ≡ reference.path
  pub fits : FitCalls test.definitions reference.component_type (frame ∷ [])

-- what a component of a type asks for at its path is no fault that no checked module meets, and what it leaves of the component's data fits; so does what else it brings
abbrev pub FitsAct : Test → ℕ → Path → (ComponentId → Type 0) → Act → Type 0
FitsAct test component_type at P Waits = Unit {0}
FitsAct test component_type at P (Errs DynamicError) = Unit {0}
FitsAct test component_type at P (Errs Unmet) = ⊥
FitsAct test component_type at P (Requests Continues own) = FitsData test.definitions component_type own
FitsAct test component_type at P (Requests (Worsens v) own) = FitsData test.definitions component_type own
FitsAct test component_type at P (Requests (Removes port) own) = FitsData test.definitions component_type own
FitsAct test component_type at P (Requests (Sends port to v) own) = ((sender : Option ComponentId) → FitsMessage test.definitions (record { value = v; sender = sender })) × FitsData test.definitions component_type own
FitsAct test component_type at P (Requests (Creates new) own) = FitsComponent test.definitions new × FitsData test.definitions component_type own
FitsAct test component_type at P (Requests (Starts path frame) own) = FitsStart test P path frame × FitsData test.definitions component_type own
FitsAct test component_type at P (Requests (Stops path) own) = FitsOwn test.definitions component_type own × ((path ≡ at) ⊎ HasFrames own.calls)
FitsAct test component_type at P (Requests (Connects d e) own) = FitsData test.definitions component_type own
FitsAct test component_type at P (Requests (Maps d system_port) own) = FitsData test.definitions component_type own
FitsAct test component_type at P (Requests (Unmaps d system_port) own) = FitsData test.definitions component_type own

-- ---- what is found

-- all components with a path are of one type
abbrev pub AreOfType : Path → ℕ → Going → Type 0
AreOfType path component_type c = All (λ component. same_path (path_of component) path ≡ true → component.itself.component_type ≡ component_type) c.components

-- a component that is referred to is there, with its type
abbrev pub IsFound : Going → ComponentId → Type 0
IsFound c id = (is_some (component_at c id.path) ≡ true) × AreOfType id.path id.component_type c
