-- What sets of types let pass.
use Rattle.std.specs.Prelude.{Bool, ◌||◌}
use Rattle.std.specs.HashSet.{contains_by}
use Rattle.check_scope.specs.Typings.{same_type}
use Rattle.check_scope.specs.declared.type_listing.TypeSet.{TypeSet}
use Rattle.check_scope.specs.declared.types.DataType.{DataType}

-- a type is one of a set: not judged where one of them is unknown
abbrev pub lets_pass : TypeSet → DataType → Bool
lets_pass set t = set.has_unknown || contains_by (λ key. same_type t key) set.types
