-- Frame 0 of a new component is in order.
use Rattle.std.proofs.Common.{ℕ, List, [], ◌∷◌, Option, Some, None}
use Rattle.ttcn_syntax.specs.declared.tree.definition.Member.{Member}
use Rattle.ttcn_syntax.specs.declared.tree.definition.Member.TheVariants as member
use Rattle.ttcn_syntax.specs.declared.tree.value.Value.{Value}
use Rattle.check_scope.specs.Names.{kind_at, members_of, module_names, resolved}
use Rattle.check_scope.specs.declared.types.DataType.{DataType}
use Rattle.laws_steps.proofs.Outcomes.{any-yields, map-yields, then-yields}
use Rattle.laws_order.proofs.Puts.{none-ordered}
use Rattle.laws_order.proofs.Stored.{IsFrameInOrder, declare-ordered, declare-timer-ordered, forget-ordered}
use Rattle.semantics.specs.Configurations.{Frame}
use Rattle.semantics.specs.Creating.{declared_in_turn, declared_member, declared_variable, declared_with, empty_frame, new_members, reading_of_members}
use Rattle.semantics.specs.Snapshots.{Snapshot, Test}
use Rattle.semantics.specs.Storing.{declare, declare_timer}
use Rattle.value_types.specs.Literals.{value_wanted}
use Rattle.value_types.specs.Outcomes.{IfYields, Outcome, Yields}
use Rattle.value_types.specs.declared.value.ComponentId.{ComponentId}

empty-ordered : IsFrameInOrder empty_frame
empty-ordered = record { values = none-ordered; timers = none-ordered }

turn-ordered : {A : Type 0} (declared : Frame → A → Outcome Frame) → ((frame : Frame) (a : A) → IsFrameInOrder frame → IfYields (declared frame a) IsFrameInOrder)
    → (parts : List A) (frame : Frame) → IsFrameInOrder frame → IfYields (declared_in_turn declared parts frame) IsFrameInOrder
turn-ordered declared keeps [] frame is = is
turn-ordered declared keeps (a ∷ others) frame is =
    then-yields IsFrameInOrder IsFrameInOrder (declared_in_turn declared others) (declared frame a)
    (λ next also. turn-ordered declared keeps others next also) (keeps frame a is)

with-ordered : (test : Test) (itself : ComponentId) (snapshot : Snapshot) (of : Option DataType) (frame : Frame) (name : List ℕ) (v : Value)
    → IsFrameInOrder frame → IfYields (declared_with test itself snapshot of frame name v) IsFrameInOrder
with-ordered test itself snapshot of frame name v is =
    map-yields (λ found. Unit {0}) IsFrameInOrder (λ found. declare name found frame) (value_wanted v (reading_of_members test itself snapshot frame) of)
    (λ found any. declare-ordered name found frame is) (any-yields (value_wanted v (reading_of_members test itself snapshot frame) of))

variable-ordered : (test : Test) (itself : ComponentId) (snapshot : Snapshot) (of : Option DataType) (frame : Frame) (name : List ℕ) (v : Option Value)
    → IsFrameInOrder frame → IfYields (declared_variable test itself snapshot of frame name v) IsFrameInOrder
variable-ordered test itself snapshot of frame name None is = forget-ordered name frame is
variable-ordered test itself snapshot of frame name (Some v) is = with-ordered test itself snapshot of frame name v is

member-ordered : (test : Test) (itself : ComponentId) (snapshot : Snapshot) (frame : Frame) (m : Member)
    → IsFrameInOrder frame → IfYields (declared_member test itself snapshot frame m) IsFrameInOrder
member-ordered test itself snapshot frame (member.Ports port_type ports) is = is
member-ordered test itself snapshot frame (member.Constants cs) is =
    turn-ordered (λ f c. declared_with test itself snapshot (resolved (module_names test.definitions) cs.type_name) f c.name c.value)
    (λ f c also. with-ordered test itself snapshot (resolved (module_names test.definitions) cs.type_name) f c.name c.value also) cs.constants frame is
member-ordered test itself snapshot frame (member.Variables of variables) is =
    turn-ordered (λ f v. declared_variable test itself snapshot (resolved (module_names test.definitions) of) f v.name v.value)
    (λ f v also. variable-ordered test itself snapshot (resolved (module_names test.definitions) of) f v.name v.value also) variables frame is
member-ordered test itself snapshot frame (member.Timers timers) is =
    turn-ordered (λ f t. Yields (declare_timer t.name f)) (λ f t also. declare-timer-ordered t.name f also) timers frame is

pub members-ordered : (test : Test) (itself : ComponentId) (snapshot : Snapshot) → IfYields (new_members test itself snapshot) IsFrameInOrder
members-ordered test itself snapshot =
    turn-ordered (declared_member test itself snapshot) (member-ordered test itself snapshot) (members_of (kind_at test.definitions itself.component_type)) empty_frame empty-ordered
