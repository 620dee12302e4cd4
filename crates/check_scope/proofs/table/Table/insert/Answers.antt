use mathlib.Core.Path.{fun_ext}
use Rattle.std.proofs.Common.{◌∙◌, bytes_eq}
use Rattle.check_scope.specs.internal.Tables.{said}
use Rattle.check_scope.proofs.Lookups.{put}
use Rattle.check_scope.proofs.table.Table.insert.Goals as goal

pub returns : goal.returns
returns c = fun_ext (λ other. c.in_ok-insert.ensures.updates.0 (record c.args.name { now = other })
    ∙ put (bytes_eq c.args.name.now other) c.args.meaning (said c.args.self.now other))
