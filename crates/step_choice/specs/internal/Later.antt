-- Choices one after the other.
use Rattle.std.specs.Prelude.{ℕ, List}
use Rattle.semantics.specs.Branches.{Chance, way_through}
use Rattle.semantics.specs.Events as events
use Rattle.semantics.specs.Events.{Choice, Refused}
use Rattle.semantics.specs.Items.{Item}
use Rattle.semantics.specs.Snapshots.{Test}
use Rattle.value_types.specs.declared.value.Value.{Value}

-- a choice, or another one where it chooses nothing
abbrev pub or_later : Choice → Choice → Choice
or_later events.Nothing later = later
or_later (Refused why) later = Refused why
or_later (events.Taken chance effect) later = events.Taken chance effect

-- a branch of an altstep, from a call of the altstep
abbrev pub chance_through : Test → ℕ → List Value → List Item → Chance → Chance
chance_through test at values before chance = record {
  place = chance.place;
  judge = chance.judge;
  event = chance.event;
  way = way_through test at values before chance.way;
}

-- the choice among the branches of an altstep, from a call of the altstep
abbrev pub choice_through : Test → ℕ → List Value → List Item → Choice → Choice
choice_through test at values before events.Nothing = events.Nothing
choice_through test at values before (Refused why) = Refused why
choice_through test at values before (events.Taken chance effect) = events.Taken (chance_through test at values before chance) effect
