-- What refers only to some components refers only to more of them.
use Rattle.std.proofs.Common.{ℕ, List, Option, Some, None, IfSome}
use Rattle.laws_references.specs.References.{ComponentRefersTo, DataReferTo, DefaultRefersTo, EntriesReferTo, FrameRefersTo, MessageRefersTo, QueueRefersTo, RefersTo, references}
use Rattle.semantics.proofs.Pairs.{All-more}
use Rattle.semantics.specs.Configurations.{ActiveDefault, Component, Data, Frame, Message, Queue}
use Rattle.semantics.specs.Entries.{Entries}
use Rattle.value_types.specs.declared.value.ComponentId.{ComponentId}
use Rattle.value_types.specs.declared.value.Value.{Value}

module _ (P Q : ComponentId → Type 0) (more : (id : ComponentId) → P id → Q id) where
  pub value-more : (v : Value) → RefersTo P v → RefersTo Q v
  value-more v all = All-more P Q more (references v) all

  entries-more : (entries : Entries Value) → EntriesReferTo P entries → EntriesReferTo Q entries
  entries-more entries all = All-more (λ (e : List ℕ × Value). RefersTo P e.1) (λ e. RefersTo Q e.1) (λ e is. value-more e.1 is) entries all

  pub frame-more : (frame : Frame) → FrameRefersTo P frame → FrameRefersTo Q frame
  frame-more frame all = entries-more frame.values all

  default-more : (d : ActiveDefault) → DefaultRefersTo P d → DefaultRefersTo Q d
  default-more d all = All-more (RefersTo P) (RefersTo Q) value-more d.arguments all

  pub data-more : (own : Data) → DataReferTo P own → DataReferTo Q own
  data-more own is = record {
    members = frame-more own.members is.members;
    calls = All-more (FrameRefersTo P) (FrameRefersTo Q) frame-more own.calls is.calls;
    defaults = All-more (DefaultRefersTo P) (DefaultRefersTo Q) default-more own.defaults is.defaults;
  }

  sender-more : (o : Option ComponentId) → IfSome o P → IfSome o Q
  sender-more None is = tt
  sender-more (Some id) is = more id is

  pub message-more : (message : Message) → MessageRefersTo P message → MessageRefersTo Q message
  message-more message is = record { value = value-more message.value is.value; sender = sender-more message.sender is.sender }

  queue-more : (queue : Queue) → QueueRefersTo P queue → QueueRefersTo Q queue
  queue-more queue all = All-more (MessageRefersTo P) (MessageRefersTo Q) message-more queue.1 all

  pub component-more : (x : Component) → ComponentRefersTo P x → ComponentRefersTo Q x
  component-more x is = record {
    own = data-more x.own is.own;
    queues = All-more (QueueRefersTo P) (QueueRefersTo Q) queue-more x.queues is.queues;
  }
