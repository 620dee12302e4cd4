-- The enabled labels of a configuration, in the order of labels (ES 201 873-4).
use Rattle.std.specs.Prelude.{ℕ, ◌+◌, List, [], ◌∷◌, ◌++◌, map, length, is_some, if◌then◌else◌}
use Rattle.std.specs.List.{filter, flat_map}
use Rattle.semantics.specs.Configurations.{Component, Configuration, End, Ended, Frame, Goes, Going, is_running_state, path_of}
use Rattle.semantics.specs.Snapshots.{Test}
use Rattle.semantics.specs.Entries.{Identifier}
use Rattle.semantics.specs.Steps.{Delivery, Expiry, Label, Statement, next_message, statement_step}
pub use Rattle.step_labels.specs.Labels.{expiry_cmp, label_cmp}
use Rattle.value_types.specs.Frames.{is_running}
use Rattle.value_types.specs.declared.path.Path.{Path}

-- the expiries of the running timers of a frame
abbrev pub frame_expiries : Path → ℕ → Frame → List Label
frame_expiries path number frame = map (λ e. Expiry path number e.0) (filter (λ e. is_running e.1) frame.timers)

-- the expiries of the running timers of the frames above frame 0, the lowest frame first
abbrev pub call_expiries : Path → List Frame → List Label
call_expiries path [] = []
call_expiries path (frame ∷ frames) = call_expiries path frames ++ frame_expiries path (length frames + 1) frame

-- the expiries of the running timers of a component, those of frame 0 first
abbrev pub expiries : Component → List Label
expiries component = frame_expiries (path_of component) 0 component.own.members ++ call_expiries (path_of component) component.own.calls

-- the component's statement, where it has a step
abbrev pub statement_labels : Test → Going → Component → List Label
statement_labels test c component = if is_some (statement_step test c component) then Statement (path_of component) ∷ [] else []

-- the enabled labels of a component, its statement first: only one that runs has any
abbrev pub labels_of_component : Test → Going → Component → List Label
labels_of_component test c component =
    if is_running_state component.state then statement_labels test c component ++ expiries component else []

-- the delivery at a mapped system port, where a message is left
abbrev pub delivery : Test → Going → Identifier × End → List Label
delivery test c mapping = if is_some (next_message test c mapping.0) then Delivery mapping.0 ∷ [] else []

-- the deliveries, by the names of the system ports
abbrev pub deliveries : Test → Going → List Label
deliveries test c = flat_map (delivery test c) c.mappings

-- the enabled labels, ascending: those of components, and then deliveries
abbrev pub labels : Test → Configuration → List Label
labels test (Ended v) = []
labels test (Goes c) = flat_map (labels_of_component test c) c.components ++ deliveries test c
