-- What of a statement the step of a label begins with.
use Rattle.std.specs.Prelude.{List, [], ◌∷◌, Option, None, Some}
use Rattle.std.specs.Option.{option_and_then}
use Rattle.semantics.specs.Configurations.{Component, Configuration, Ended, Frame, Goes, Going}
use Rattle.semantics.specs.Items.{Doing, Item, Part}
use Rattle.semantics.specs.Steps.{Label, if_running}
use Rattle.semantics.specs.Telling.{maker}

-- what of a statement the first remaining item is
abbrev pub part_of_item : List Item → Option Part
part_of_item (Doing site s part ∷ items) = Some part
part_of_item _ = None

-- what of a statement the last frame has to do first
abbrev pub part_of_frames : List Frame → Option Part
part_of_frames [] = None
part_of_frames (frame ∷ frames) = part_of_item frame.remaining

-- what of a statement a component that runs has to do first
abbrev pub part_of_component : Component → Option Part
part_of_component component = if_running component (part_of_frames component.own.calls)

-- what of a statement the step of a label begins with, in a test case that goes on
abbrev pub part_going : Going → Label → Option Part
part_going c label = option_and_then part_of_component (maker c label)

-- what of a statement the step of a label begins with, where it is that of a statement
abbrev pub part_of_step : Configuration → Label → Option Part
part_of_step (Ended v) label = None
part_of_step (Goes c) label = part_going c label
