-- What is made of the components of the code.
use Rattle.std.proofs.Common.{List, map}
use Rattle.std.specs.List.{flat_map}
use Rattle.semantics.specs.Configurations as rules
use Rattle.semantics.specs.Steps.{Label}
use Rattle.config_parts.specs.Legend.{Legend, component_by}
use Rattle.config_parts.specs.declared.component.Component.{Component}

-- what is made of each component of the rules
abbrev pub parts_of : Legend → (rules.Component → List Label) → List Component → List Label
parts_of legend f components = flat_map f (map (component_by legend) components)
