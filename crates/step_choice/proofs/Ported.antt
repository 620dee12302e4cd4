-- The first messages of ports, one by one.
use Rattle.std.proofs.Common.{◌≡◌, ℕ, zero, ◌+◌, ◌<◌, List, [], ◌∷◌, map, length, drop, get_or, Some, sym, ap, ◌∙◌}
use Rattle.std.proofs.lemmas.List.{at_drop_more}
use Rattle.std.specs.List.{slice_get}
use Rattle.ttcn_syntax.specs.declared.tree.statement.Receive.{Receive}
use Rattle.semantics.specs.Events.{Trial, or_next, try_front, try_fronts}
use Rattle.semantics.specs.Sites.{Site}
use Rattle.semantics.specs.Snapshots.{Test, front_at, front_of}
use Rattle.config_parts.specs.Legend.{Legend, message_by, queue_by}
use Rattle.config_parts.specs.declared.component.Message.{Message}
use Rattle.config_parts.specs.declared.component.Queue.{Queue}
use Rattle.value_types.specs.Readings.{Reading}

pub front-there : (messages : List Message) (m : Message) → Some m ≡ slice_get messages 0 → front_of (map message_by messages) ≡ Some (message_by m)
front-there [] m is = absurd (let e = is in cc)
front-there (x ∷ messages) m is = let same : x ≡ m = cc in ap (λ y. Some (message_by y)) same

-- what these ports come to
abbrev pub queues-tried : Legend → Test → Site → Reading → Receive → List Queue → Trial
queues-tried legend test site reading receive queues = try_fronts test site reading receive (map front_at (map (queue_by legend) queues))

-- a port, and those behind it
pub queue-next : (legend : Legend) (test : Test) (site : Site) (reading : Reading) (receive : Receive) (queues : List Queue) (k : ℕ) (queue : Queue) → k < length queues → queue ≡ get_or queues k queue
    → queues-tried legend test site reading receive (drop k queues)
    ≡ or_next (try_front test site reading receive (legend.names queue.port) (front_of (map message_by queue.messages))) (queues-tried legend test site reading receive (drop (k + 1) queues))
queue-next legend test site reading receive queues k queue within is =
    at_drop_more (queues-tried legend test site reading receive) queues k queue within
    ∙ ap (λ (q : Queue). or_next (try_front test site reading receive (legend.names q.port) (front_of (map message_by q.messages))) (queues-tried legend test site reading receive (drop (k + 1) queues))) (sym is)
