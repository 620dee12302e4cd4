-- What constants and templates stand for, with no word on how deep they refer to each other.
use Rattle.std.specs.Prelude.{◌≡◌, ℕ, List}
use Rattle.check_scope.specs.Names.{constant_at, constants_type, kind_at, module_names, template_at}
use Rattle.value_types.specs.Chains.{constant_value, template_value, with_names}
use Rattle.value_types.specs.Outcomes.{unmet}
use Rattle.value_types.specs.Readings.{Reading}
use Rattle.value_types.specs.declared.value.Value.{Value}

-- in a reading each constant of the module gives what its written value gives in this same reading, without local names
abbrev pub ConstantsStandForTheirValues : Reading → Type 0
ConstantsStandForTheirValues reading = (at item : ℕ)
    → reading.constants at item ≡ constant_value (with_names (λ name. unmet) reading) (constant_at reading.definitions at item)
    (constants_type (module_names reading.definitions) (kind_at reading.definitions at))

-- in a reading each template with arguments gives what its body gives in this same reading, where its parameters have these values
abbrev pub TemplatesStandForTheirBodies : Reading → Type 0
TemplatesStandForTheirBodies reading = (at : ℕ) (values : List Value)
    → reading.templates at values ≡ template_value (λ names. with_names names reading) (template_at reading.definitions at) values

-- constants and templates give the same in two readings
pub record GiveTheSame (one other : Reading) : Type 0 where
  pub constants : (at item : ℕ) → one.constants at item ≡ other.constants at item
  pub templates : (at : ℕ) (values : List Value) → one.templates at values ≡ other.templates at values
