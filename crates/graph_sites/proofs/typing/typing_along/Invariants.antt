use Rattle.std.proofs.Common.{◌≡◌, drop}
use Rattle.check_rules.specs.Expressions.{along}
use Rattle.graph_sites.proofs.typing.typing_along.Given as goal

-- what is known so far, with the fields that are left, is what is known of all
abbrev pub invariant-loop-name : goal.invariant-loop-name
invariant-loop-name l = (along l.here.0 l.found (drop l.name-index l.names)).typing ≡ (along l.fn.here.0 l.fn.typing l.fn.names).typing
