-- The components that values refer to, and what refers only to components of which something holds (ES 201 873-1, 6.2.10).
use Rattle.std.specs.Prelude.{◌≡◌, ℕ, Bool, true, List, [], ◌∷◌, Option, Some, None, IfSome}
use Rattle.std.specs.List.{All, flat_map}
use Rattle.semantics.specs.Configurations.{ActiveDefault, Component, Data, Frame, Message, Queue}
use Rattle.semantics.specs.Entries.{Entries}
use Rattle.semantics.specs.Snapshots.{Snapshot}
use Rattle.value_types.specs.Outcomes.{IfYields}
use Rattle.value_types.specs.Readings.{Reading}
use Rattle.value_types.specs.declared.template.Pattern.TheOpen.{Pattern-F, Template-F}
use Rattle.value_types.specs.declared.template.Template.{Template, fold-Template}
use Rattle.value_types.specs.declared.value.ComponentId.{ComponentId}
use Rattle.value_types.specs.declared.value.Value.{Value, fold-Value}
use Rattle.value_types.specs.declared.value.Value.TheOpen.{Value-F}

-- ---- values

-- what a field refers to, given what its value refers to: one without value refers to nothing
abbrev pub references_in_field : Option (List ComponentId) → List ComponentId
references_in_field None = []
references_in_field (Some found) = found

-- what one level of a value refers to, given what the values of its fields refer to
abbrev pub references_step : Value-F (List ComponentId) → List ComponentId
references_step (Value-F.Record at fields) = flat_map references_in_field fields
references_step (Value-F.Component c) = c ∷ []
references_step _ = []

-- the components that a value refers to, each with its type, however deep in records: `null` refers to none
abbrev pub references : Value → List ComponentId
references = fold-Value (List ComponentId) references_step

-- a test is true of a component
abbrev pub Passes : (ComponentId → Bool) → ComponentId → Type 0
Passes good id = good id ≡ true

-- a value refers only to components of which something holds
abbrev pub RefersTo : (ComponentId → Type 0) → Value → Type 0
RefersTo P v = All P (references v)

-- a value refers to no component
abbrev pub RefersToNone : Value → Type 0
RefersToNone v = references v ≡ []

-- ---- templates

-- what one level of a pattern refers to, given what its parts refer to
abbrev pub pattern_step : Pattern-F (List ComponentId) (List ComponentId) → List ComponentId
pattern_step (Pattern-F.Value v) = references v
pattern_step (Pattern-F.Complement parts) = flat_map (λ part. part) parts
pattern_step (Pattern-F.List parts) = flat_map (λ part. part) parts
pattern_step (Pattern-F.Record at parts) = flat_map (λ part. part) parts
pattern_step _ = []

-- what a template refers to, given what its pattern refers to
abbrev pub template_step : Template-F (List ComponentId) (List ComponentId) → List ComponentId
template_step t = t.pattern

-- the components that the values in a template refer to
abbrev pub references_in_template : Template → List ComponentId
references_in_template = fold-Template (List ComponentId) (List ComponentId) pattern_step template_step

-- a template refers only to components of which something holds
abbrev pub TemplateRefersTo : (ComponentId → Type 0) → Template → Type 0
TemplateRefersTo P t = All P (references_in_template t)

-- ---- readings

-- what names stand for, `self` and `mtc` refer only to components of which something holds: that is all that is read beside the module's constants and templates
pub record FactsReferTo (P : ComponentId → Type 0) (reading : Reading) : Type 0 where
  pub names : (name : List ℕ) → IfYields (reading.names name) (RefersTo P)
  pub itself : P reading.itself
  pub mtc : P reading.mtc

-- a reading refers only to components of which something holds: by names, `self` and `mtc`, by constants, and by templates with such arguments
pub record ReadingRefersTo (P : ComponentId → Type 0) (reading : Reading) : Type 0 where
  pub facts : FactsReferTo P reading
  pub constants : (at item : ℕ) → IfYields (reading.constants at item) (RefersTo P)
  pub templates : (at : ℕ) (values : List Value) → All (RefersTo P) values → IfYields (reading.templates at values) (TemplateRefersTo P)

-- ---- components

-- the values of names refer only to components of which something holds
abbrev pub EntriesReferTo : (ComponentId → Type 0) → Entries Value → Type 0
EntriesReferTo P entries = All (λ e. RefersTo P e.1) entries

-- the values of a frame refer only to components of which something holds
abbrev pub FrameRefersTo : (ComponentId → Type 0) → Frame → Type 0
FrameRefersTo P frame = EntriesReferTo P frame.values

-- the arguments of an activated default refer only to components of which something holds
abbrev pub DefaultRefersTo : (ComponentId → Type 0) → ActiveDefault → Type 0
DefaultRefersTo P d = All (RefersTo P) d.arguments

-- all that a component has of its own refers only to components of which something holds
pub record DataReferTo (P : ComponentId → Type 0) (own : Data) : Type 0 where
  pub members : FrameRefersTo P own.members
  pub calls : All (FrameRefersTo P) own.calls
  pub defaults : All (DefaultRefersTo P) own.defaults

-- a message's value refers only to components of which something holds, and its sender, where it has one, is one of them
pub record MessageRefersTo (P : ComponentId → Type 0) (message : Message) : Type 0 where
  pub value : RefersTo P message.value
  pub sender : IfSome message.sender P

-- the messages that wait at a port refer only to components of which something holds
abbrev pub QueueRefersTo : (ComponentId → Type 0) → Queue → Type 0
QueueRefersTo P queue = All (MessageRefersTo P) queue.1

-- a component refers only to components of which something holds: in its own data and in the messages that wait for it
pub record ComponentRefersTo (P : ComponentId → Type 0) (component : Component) : Type 0 where
  pub own : DataReferTo P component.own
  pub queues : All (QueueRefersTo P) component.queues

-- a snapshot refers only to components of which something holds: in the first messages at its ports
abbrev pub SnapshotRefersTo : (ComponentId → Type 0) → Snapshot → Type 0
SnapshotRefersTo P snapshot = All (λ front. IfSome front.1 (MessageRefersTo P)) snapshot.fronts
