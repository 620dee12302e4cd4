use Rattle.std.proofs.Common.{◌≡◌, drop}
use Rattle.std.specs.Option.{option_or}
use Rattle.check_scope.specs.internal.Tables.{said_in}
use Rattle.check_scope.proofs.scope.Scope.in_blocks.Given as goal

-- what the blocks that are left say, or what was found so far, is what all of them say
abbrev pub invariant-loop-block : goal.invariant-loop-block
invariant-loop-block l = option_or (said_in (drop l.block-index l.block-items) l.name) l.found ≡ said_in l.fn.self.blocks.items l.fn.name
