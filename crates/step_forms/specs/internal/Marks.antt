-- Frames in which an `alt` is put back (ES 201 873-1, 20.3).
use Rattle.std.specs.Prelude.{List}
use Rattle.semantics.specs.Configurations.{Frame}
use Rattle.semantics.specs.Items.{Item}
use Rattle.semantics.specs.Storing.{in_last, with_remaining}

-- frames, where these items remain in the last one
abbrev pub going_on_from : List Item → List Frame → List Frame
going_on_from items calls = in_last (with_remaining items) calls
