-- Frames and defaults that come and go, among the data of the rules.
use Rattle.std.specs.Prelude.{ℕ, List, [], ◌∷◌, ◌++◌, not, nat_eq, nat_lt, if◌then◌else◌}
use Rattle.std.specs.List.{filter}
use Rattle.semantics.specs.Configurations.{Data, Frame}
use Rattle.semantics.specs.Items.{Item}
use Rattle.semantics.specs.Statements.{activate, most, with_defaults}
use Rattle.semantics.specs.Storing.{in_last, with_calls, with_remaining}
use Rattle.value_types.specs.Outcomes.{Outcome, Yields, dynamic_error}
use Rattle.value_types.specs.declared.value.Value.{Value}

-- frames above those that are there, where these items remain in the last of these
abbrev pub entered_all : List Frame → List Item → Data → Data
entered_all frames items own = with_calls (frames ++ in_last (with_remaining items) own.calls) own

-- frames without the last one, which stands first in the list
abbrev pub without_last : List Frame → List Frame
without_last [] = []
without_last (frame ∷ frames) = frames

-- without the last frame
abbrev pub left : Data → Data
left own = with_calls (without_last own.calls) own

-- an altstep is activated, if there are not too many activations
abbrev pub activated : ℕ → Data → List Value → Outcome Data
activated at own values = if nat_lt own.activations most then Yields (activate at own values) else dynamic_error

-- without the default of a number
abbrev pub deactivated : ℕ → Data → Data
deactivated number own = with_defaults (filter (λ d. not (nat_eq d.number number)) own.defaults) own
