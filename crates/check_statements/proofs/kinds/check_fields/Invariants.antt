use Rattle.std.proofs.Common.{[], drop}
use Rattle.check_scope.specs.internal.Checking.{least}
use Rattle.check_rules.specs.Definitions.{check_fields}
use Rattle.check_scope.specs.Names.{module_names}
use Rattle.check_statements.proofs.Insides.{Fielded}
use Rattle.check_statements.proofs.kinds.check_fields.Given as goal

-- the names so far were met, and what was found so far and what is left are what all break
abbrev pub invariant-loop-field : goal.invariant-loop-field
invariant-loop-field l =
    Fielded (module_names l.scope.definitions.now) l.names (drop l.field-index l.fields) l.broken
    (least (check_fields (module_names l.fn.scope.definitions.now) [] l.fn.fields))
