-- Names that change by slots change by names.
use Rattle.std.proofs.Common.{◌≡◌, subst, Bool, List, ℕ, Option, Result}
use Rattle.check_scope.specs.declared.types.DataType.{DataType}
use Rattle.semantics.specs.Configurations as rules
use Rattle.semantics.specs.Snapshots.{Test}
use Rattle.semantics.specs.Storing.{store}
use Rattle.config_parts.specs.Legend.{Legend, data_by}
use Rattle.config_parts.specs.declared.frame.Data.{Data}
use Rattle.value_types.specs.Outcomes.{GivesBy}
use Rattle.value_types.specs.declared.fault.Fault.{Fault}
use Rattle.value_types.specs.declared.value.Value.{Value}

pub stored-as : (legend : Legend) (test : Test) (last : Bool) (of : Option DataType) (v : Value) (own : rules.Data) (r : Result Data Fault) (one other : List ℕ) (fields more : List (List ℕ)) → one ≡ other → fields ≡ more
    → GivesBy (data_by legend) (store test (record { own = last; reference = record { name = one; fields = fields }; data_type = of }) v own) r
    → GivesBy (data_by legend) (store test (record { own = last; reference = record { name = other; fields = more }; data_type = of }) v own) r
stored-as legend test last of v own r one other fields more name rest gives =
    subst (λ n. GivesBy (data_by legend) (store test (record { own = last; reference = record { name = n; fields = more }; data_type = of }) v own) r) name
    (subst (λ f. GivesBy (data_by legend) (store test (record { own = last; reference = record { name = one; fields = f }; data_type = of }) v own) r) rest gives)
