-- Tables of names cross threads.
use denote.Param.Send.{IsSync, sendable}
use denote.Ref.{NamedLft}
use Rattle.std.proofs.Crossing.{crosses}
use Rattle.std.proofs.MapsCrossing as maps
use Rattle.check_scope.specs.contracts.table.Table as table

pub table-sync : (l : NamedLft) → IsSync (table.the_field l).row
table-sync l = search (maps.crosses, crosses, sendable) depth 60 fits 20000
