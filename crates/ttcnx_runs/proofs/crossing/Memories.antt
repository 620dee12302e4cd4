-- What is remembered of components may be shared by threads.
use denote.RattleType.{RattleType}
use denote.Param.Send.{IsSync, recorded_sync, sendable, struct_sync, view_sync}
use denote.Struct.Declared.{shape}
use Rattle.once_cell.proofs.race.once_box.OnceBox.TheSendSync as cells
use Rattle.std.proofs.Crossing.{crosses}
use Rattle.search_memory.specs.contracts.interner.Interner as interner
use Rattle.search_memory.specs.contracts.memory.Memory as memory
use Rattle.search_memory.specs.contracts.memory.Memory.TheInside as inside
use Rattle.ttcnx_runs.proofs.remembered.Remembered.TheSendSync as remembering
use Rattle.ttcnx_runs.specs.contracts.remembered.Remembered as remembered
use Rattle.ttcnx_runs.specs.declared.scheme.Scheme.{Ghosts}

module _ (K : RattleType) (g : Ghosts K.Denot) where
  abbrev items : RattleType
  items = remembered.the_row K g

  pub memory-sync : IsSync (memory.the_row items)
  memory-sync = view_sync (inside.the_row items) _ _ _ _
      (recorded_sync (inside.the_field items).row _ _ (inside.the_type items).to_one (struct_sync (shape (inside.the_type items)) (
        search (crosses, sendable) depth 60 fits 20000,
        (
          search (crosses, sendable) depth 60 fits 20000,
          (
            search (cells.the_send, cells.the_sync, remembering.the_field_send, remembering.the_field_sync, crosses, sendable) depth 60 fits 20000,
            (
              search (cells.the_send, cells.the_sync, remembering.the_field_send, remembering.the_field_sync, crosses, sendable) depth 60 fits 20000,
              (search (cells.the_send, cells.the_sync, crosses, sendable) depth 60 fits 20000, (search (cells.the_send, cells.the_sync, crosses, sendable) depth 60 fits 20000, tt)),
            ),
          ),
        ),
      )))

pub interner-sync : IsSync interner.the_row
interner-sync = search (cells.the_send, cells.the_sync, crosses, sendable) depth 60 fits 20000
