-- What slots hold, as private functions read it.
use Rattle.std.specs.Prelude.{ℕ, Bool, List, Option, nat_eq}
use Rattle.std.specs.List.{find}
use Rattle.std.specs.Option.{option_map}
use Rattle.config_parts.specs.declared.frame.Data.{Data}
use Rattle.config_parts.specs.internal.Stored.{cells_in}
use Rattle.value_types.specs.declared.value.Value.{Value}

-- what the first entry of a slot says
abbrev pub value_at : ℕ → List (ℕ × Value) → Option Value
value_at slot entries = option_map (λ e. e.1) (find (λ e. nat_eq e.0 slot) entries)

-- what a slot of the last frame, or of frame 0, holds
abbrev pub held_in : Bool → ℕ → Data → Option Value
held_in last slot own = value_at slot (cells_in last own).values
