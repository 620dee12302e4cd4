use Rattle.clap.specs.Words.{found_of, rows_of}
use Rattle.std.proofs.Common.{codes}
use Rattle.ttcnx_command_line.proofs.Getters.{number-within}
use Rattle.ttcnx_command_line.proofs.command.plan_of.Goals as goal

pub number_of-requires : goal.number_of-requires
number_of-requires c = (1, 10000000, c.requires.gives.limit)

pub number_of-requires-2 : goal.number_of-requires-2
number_of-requires-2 c = (1, 64, c.requires.gives.workers)

pub number_of-requires-3 : goal.number_of-requires-3
number_of-requires-3 c = (1, 65536, c.requires.gives.piece)

pub returns-clause-limits : goal.returns-clause-limits
returns-clause-limits c =
    let rows = rows_of (found_of c.args.given.now) in
    let limit = number-within rows (codes "limit") 1 10000000 _ c.requires.gives.limit c.number_of.ensures in
    let workers = number-within rows (codes "workers") 1 64 _ c.requires.gives.workers c.number_of-2.ensures in
    let piece = number-within rows (codes "piece") 1 65536 _ c.requires.gives.piece c.number_of-3.ensures in
    record {
      steps = c.steps_of.ensures.limit;
      limit_low = limit.0;
      limit_high = limit.1;
      workers_low = workers.0;
      workers_high = workers.1;
      piece_low = piece.0;
      piece_high = piece.1;
    }
