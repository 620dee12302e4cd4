-- States may be sent to threads, and shared by them.
use denote.RattleType.{RattleType}
use denote.Param.Send.{IsSend, IsSync, recorded_send, recorded_sync, sendable, struct_send, struct_sync, view_send, view_sync}
use denote.Struct.Declared.{shape}
use Rattle.std.proofs.Crossing.{crosses}
use Rattle.std.proofs.marker.PhantomData.TheSendSync as phantom
use Rattle.ttcnx_runs.specs.contracts.state.State as state
use Rattle.ttcnx_runs.specs.contracts.state.State.TheInside as inside
use Rattle.ttcnx_runs.specs.declared.scheme.Scheme.{Ghosts}
use Rattle.config_packed.specs.contracts.interned.InternedConfig as interned
use Rattle.search_memory.specs.contracts.interner.Interned as kept
use denote.Ref.{NamedLft}
use Rattle.config_parts.specs.contracts.frame.Cells as cells
use Rattle.value_types.proofs.value.Value.TheLaws.TheKnot as values
use Rattle.ttcn_syntax.specs.contracts.seq.Seq as seq
use Rattle.value_types.specs.contracts.value.ComponentId as id
use Rattle.value_types.specs.contracts.value.Value as value

pub id-sync : IsSync id.the_field.row
id-sync = search (crosses, sendable) depth 60 fits 20000

pub cells-sync : IsSync cells.the_field.row
cells-sync = search (crosses, values.crosses, sendable) depth 60 fits 20000

kept-sync : IsSync kept.the_row
kept-sync = search (crosses, sendable) depth 60 fits 20000

interned-send : (l : NamedLft) → IsSend (interned.the_row l)
interned-send l = search (kept-sync, crosses, sendable) depth 60 fits 20000

interned-sync : (l : NamedLft) → IsSync (interned.the_row l)
interned-sync l = search (kept-sync, crosses, sendable) depth 60 fits 20000

pub state-send : (l : NamedLft) (K : RattleType) (g : Ghosts K.Denot) → IsSend (state.the_row l K g)
state-send l K g = view_send (inside.the_row l K g) _ _ _ _
    (recorded_send (inside.the_field l K g).row _ _ (inside.the_type l K g).to_one (struct_send (shape (inside.the_type l K g)) (interned-send l, (search (crosses, sendable) depth 60 fits 20000, (search (crosses, sendable) depth 60 fits 20000, (search (crosses, sendable) depth 60 fits 20000, (phantom.the_field_send K, tt)))))))

pub state-sync : (l : NamedLft) (K : RattleType) (g : Ghosts K.Denot) → IsSync (state.the_row l K g)
state-sync l K g = view_sync (inside.the_row l K g) _ _ _ _
    (recorded_sync (inside.the_field l K g).row _ _ (inside.the_type l K g).to_one (struct_sync (shape (inside.the_type l K g)) (interned-sync l, (search (crosses, sendable) depth 60 fits 20000, (search (crosses, sendable) depth 60 fits 20000, (search (crosses, sendable) depth 60 fits 20000, (phantom.the_field_sync K, tt)))))))

pub messages-sync : IsSync (seq.the_field value.the_row).row
messages-sync = search (crosses, values.crosses, sendable) depth 60 fits 20000
