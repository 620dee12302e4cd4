use Rattle.std.proofs.Common.{◌≡◌, drop}
use Rattle.std.specs.List.{list_any}
use Rattle.check_scope.specs.internal.Listings.{lets_pass}
use Rattle.check_scope.specs.PortTypes as spec
use Rattle.check_scope.proofs.PortTypes.{types_after}
use Rattle.check_scope.proofs.type_listing.TypeSet.of.Given as goal

-- the types so far and those that are left are all
abbrev pub invariant-loop-other : goal.invariant-loop-other
invariant-loop-other l = types_after (lets_pass l.set) (drop l.other-index l.types) ≡ (λ t. list_any (spec.agrees t) l.fn.types)
