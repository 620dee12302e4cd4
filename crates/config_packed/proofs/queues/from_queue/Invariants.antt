use Rattle.std.proofs.Common.{◌≡◌, ◌-◌, List}
use Rattle.config_packed.specs.Spelling.{spell_list, spell_queue}
use Rattle.config_packed.proofs.Waiting.{StandsBehind}
use Rattle.config_parts.specs.declared.component.Queue.{Queue}
use Rattle.config_packed.proofs.queues.from_queue.Given as goal

-- none of the queues so far is of the port
abbrev pub invariant-loop-turn : goal.invariant-loop-turn
invariant-loop-turn l = (qs : List Queue) → l.queues ≡ spell_list spell_queue qs → StandsBehind l.port qs (l.count - l._turn) l.reader
